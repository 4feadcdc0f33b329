-- What comes next for a frame in a reading that fits is what comes next for it among queues.
use Rattle.std.proofs.Common.{◌≡◌, inl, inr, ℕ, ◌+◌, ◌-◌, ◌<◌, ◌≤◌, true, false, cond, List, [], length, Some, None, refl, sym, ap, ◌∙◌, arith}
use Rattle.std.proofs.lemmas.Bool.{both_ways, cases_lt, le-ltb, lt-ltb}
use Rattle.std.proofs.lemmas.Option.{slice_get_within}
use Rattle.std.specs.Prelude.{slice_get}
use Rattle.swan_model.specs.declared.script.Deed.{Deed}
use Rattle.swan_model.specs.declared.script.Script.{Script}
use Rattle.swan_model.specs.Lawful.{IsLawful}
use Rattle.swan_model.specs.QueueFollows.{FitsFrame, next_queue_deed, queue_time, queue_times}
use Rattle.swan_model.specs.QueueState.{ActiveFrame}
use Rattle.swan_model.specs.Readings.{next_deed}
use Rattle.swan_model.specs.SerialTime.{Progress, is_queue_deed, point, time, times}
use Rattle.swan_model.specs.Told.{deed_at}
use Rattle.swan_model.proofs.Places.{passing-rises}
use Rattle.swan_model.proofs.ScriptSteps.{at_next, does_now}
use Rattle.swan_model.proofs.TaskEntries.{point_is}
use Rattle.queues.specs.Reads.{deeds_among}
use Rattle.queues.proofs.Between.{deed-place, deed_left, is_queue_deed_of, own_last, to_deed}
use Rattle.queues.proofs.Fitting.{fits_comes}
use Rattle.queues.proofs.QueuePoints.{at_own}
use Rattle.queues.proofs.ReadingMakes.{deed_time}

module _ (s : Script) (frame : ActiveFrame) (p : Progress) (fit : FitsFrame s frame p) (d : Deed) (next : next_deed s p ≡ Some d) where
  pub next_same : is_queue_deed d ≡ true → next_queue_deed s frame.path frame.deeds ≡ Some d
  next_same does =
      let path = frame.path in
      let deed = ap is_queue_deed (does_now s p d next) ∙ does in
      let comes = fits_comes s frame p fit in
      let place : slice_get (queue_times s path) frame.deeds ≡ Some (point s p) = ap (slice_get (queue_times s path)) (sym comes.before) ∙ deed-place s path (point s p) comes.own deed in
      let left = slice_get_within (queue_times s path) frame.deeds (point s p) place in
      ap (λ b. cond b (Some (deed_at s (queue_time s path frame.deeds))) None) (lt-ltb frame.deeds (length (queue_times s path)) left)
      ∙ ap (λ t. Some (deed_at s t)) (deed_time s frame p fit deed)
      ∙ ap Some (does_now s p d next)

  module _ (last : p.done + 1 ≡ length (times s p.path)) where
    -- the frame stands at its task's last entry
    at_last : time s frame.path (length (times s frame.path) - 1) ≡ point s p
    at_last =
        let step = at_next s p d next in
        let index : length (times s p.path) - 1 ≡ p.done = omega (arith, last) in
        ap (λ q. time s q (length (times s q) - 1)) (sym fit.path) ∙ ap (time s p.path) index ∙ sym step.at

    -- and no queue deed of the task comes later
    none_later : (deeds : ℕ) → deeds < length (queue_times s frame.path) → queue_time s frame.path deeds ≤ point s p
    none_later deeds left =
        let own = at_own s frame.path deeds (queue_time s frame.path deeds) (deed_left s frame.path deeds left) in
        let late = own_last s frame.path (queue_time s frame.path deeds) own in
        let here = at_last in
        omega (arith, late, here)

    over_none : (deeds : ℕ) → length (queue_times s frame.path) ≤ deeds → next_queue_deed s frame.path deeds ≡ None
    over_none deeds over = ap (λ b. cond b (Some (deed_at s (queue_time s frame.path deeds))) None) (le-ltb deeds (length (queue_times s frame.path)) over)

    pub none_then : IsLawful s → is_queue_deed d ≡ false → next_queue_deed s frame.path frame.deeds ≡ None
    none_then lawful quiet = elim (cases_lt frame.deeds (length (queue_times s frame.path))) [
      | inr over ↦ over_none frame.deeds over
      | inl left ↦
          let deed = deed_left s frame.path frame.deeds left in
          let still = to_deed s lawful frame.path frame.deeds (point s p) (queue_time s frame.path frame.deeds) (fits_comes s frame p fit) deed in
          let before = none_later frame.deeds left in
          let same : queue_time s frame.path frame.deeds ≡ point s p = omega (arith, before, still.order) in
          let no : is_queue_deed (deed_at s (queue_time s frame.path frame.deeds)) ≡ false = ap (λ t. is_queue_deed (deed_at s t)) same ∙ ap is_queue_deed (does_now s p d next) ∙ quiet in
          absurd (both_ways (is_queue_deed (deed_at s (queue_time s frame.path frame.deeds))) no deed.deed)
    ]

    pub none_after : next_queue_deed s frame.path (frame.deeds + 1) ≡ None
    none_after = elim (cases_lt (frame.deeds + 1) (length (queue_times s frame.path))) [
      | inr over ↦ over_none (frame.deeds + 1) over
      | inl left ↦
          let deed = deed_left s frame.path (frame.deeds + 1) left in
          let comes = fits_comes s frame p fit in
          let rise = passing-rises (is_queue_deed_of frame.path) s.entries (queue_time s frame.path (frame.deeds + 1)) (point s p) (none_later (frame.deeds + 1) left) in
          absurd (omega (arith, rise, deed.before, comes.before))
    ]

-- ---- by a task's steps alone

module _ (s : Script) (path : List ℕ) (k : ℕ) (left : k < length (times s path)) (does : Deed) (is : deed_at s (time s path k) ≡ does) where
  -- a frame of the task after that many steps, of which nothing else matters
  abbrev stepping : Progress
  stepping = record { number = 0; path = path; done = k }

  abbrev seen : ActiveFrame
  seen = record { number = 0; parent = None; path = path; children = 0; deeds = deeds_among s path k; rights = []; lent = None }

  seen_fits : FitsFrame s seen stepping
  seen_fits = record { path = refl; left = left; deeds = refl }

  pub step_next : is_queue_deed does ≡ true → next_queue_deed s path (deeds_among s path k) ≡ Some does
  step_next deed =
      next_same s seen stepping seen_fits does
      (ap (λ b. cond b (Some (deed_at s (point s stepping))) None) (lt-ltb k (length (times s path)) left) ∙ ap (λ t. Some (deed_at s t)) (point_is s stepping left) ∙ ap Some is)
      deed

  pub step_time : is_queue_deed does ≡ true → queue_time s path (deeds_among s path k) ≡ time s path k
  step_time deed =
      deed_time s seen stepping seen_fits (ap (λ t. is_queue_deed (deed_at s t)) (point_is s stepping left) ∙ ap is_queue_deed is ∙ deed)
      ∙ point_is s stepping left
