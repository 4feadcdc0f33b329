-- Where a full reading fits, each active frame goes from its point to its point among queues by entries of its own that are
-- no queue deeds.
use Rattle.std.proofs.Common.{◌≡◌, ℕ, ◌+◌, ◌<◌, inl, inr, Bool, true, nat_lt, List, length, take, Some, sym, ap, ◌∙◌, arith}
use Rattle.std.proofs.lemmas.Bool.{both_ways, cases_lt, lt-ltb, ltb-true}
use Rattle.std.specs.Prelude.{slice_get, filter}
use Rattle.swan_model.specs.declared.script.Entry.{Entry}
use Rattle.swan_model.specs.declared.script.Script.{Script}
use Rattle.swan_model.specs.QueueFollows.{FitsFrame, queue_point}
use Rattle.swan_model.specs.QueueState.{ActiveFrame}
use Rattle.swan_model.specs.Lawful.{IsLawful}
use Rattle.swan_model.specs.SerialTime.{Progress, is_of, is_queue_deed, places_from, point, times}
use Rattle.swan_model.specs.Told.{deed_at}
use Rattle.swan_model.proofs.ScriptSteps.{deed_is, next_stands}
use Rattle.swan_model.proofs.TaskEntries.{own_before}
use Rattle.queues.proofs.Between.{Comes, IsStill, deeds_before, is_queue_deed_of, to_queue_point}
use Rattle.swan_model.proofs.Elements.{answers_same, taken_stands}
use Rattle.queues.proofs.Places.{Tells, both_places, places-many, places-take}

-- whether what is done at a time is a queue deed
abbrev pub is_queue_time : Script → ℕ → Bool
is_queue_time s t = is_queue_deed (deed_at s t)

module _ (s : Script) where
  -- the queue deeds among a task's first entries are those before the time of its next one
  pub deeds_of : (path : List ℕ) (done t : ℕ) → slice_get (times s path) done ≡ Some t → length (filter (is_queue_time s) (take done (times s path))) ≡ deeds_before s path t
  deeds_of path done t is =
      let before = (own_before s path done t is).1 in
      let first : take done (times s path) ≡ places_from (is_of path) 0 (take t s.entries) =
      ap (λ k. take k (times s path)) (sym before) ∙ places-take (is_of path) 0 s.entries t in
      let tells : Tells (is_queue_time s) (λ (e : Entry). is_queue_deed e.deed) 0 (take t s.entries) =
      λ i e stands.
      let zero_i : 0 + i ≡ i = omega arith in
      ap (is_queue_time s) zero_i ∙ ap is_queue_deed (deed_is s i e (taken_stands t s.entries i e stands).1) in
      ap (λ xs. length (filter (is_queue_time s) xs)) first
      ∙ ap length (sym (both_places (is_of path) (λ (e : Entry). is_queue_deed e.deed) (is_queue_time s) 0 (take t s.entries) tells))
      ∙ places-many (is_queue_deed_of path) 0 (take t s.entries)

  pub fits_comes : (frame : ActiveFrame) (p : Progress) → FitsFrame s frame p → Comes s frame.path frame.deeds (point s p)
  fits_comes frame p fits =
      let same : length (times s frame.path) ≡ length (times s p.path) = ap (λ q. length (times s q)) (sym fits.path) in
      let left : p.done < length (times s p.path) = omega (arith, fits.left, same) in
      let stands : slice_get (times s frame.path) p.done ≡ Some (point s p) = ap (λ q. slice_get (times s q) p.done) (sym fits.path) ∙ next_stands s p left in
      record {
        own = (own_before s frame.path p.done (point s p) stands).0;
        before = sym (deeds_of frame.path p.done (point s p) stands) ∙ fits.deeds;
      }

  -- a queue deed isn't among the entries that a task does up to its point among queues
  pub same_side : (path : List ℕ) (n m v : ℕ) → IsStill s path n m → is_queue_deed (deed_at s v) ≡ true → nat_lt v m ≡ nat_lt v n
  same_side path n m v still deed =
      answers_same (nat_lt v m) (nat_lt v n)
      (λ is. elim (cases_lt v n) [
        | inl before ↦ lt-ltb v n before
        | inr from ↦ absurd (both_ways (is_queue_deed (deed_at s v)) (still.quiet v from (ltb-true v m is)) deed)
      ])
      (λ is. let before = ltb-true v n is in lt-ltb v m (omega (arith, before, still.order)))

module _ (s : Script) (lawful : IsLawful s) where
  pub fits_still : (frame : ActiveFrame) (p : Progress) → FitsFrame s frame p → IsStill s frame.path (point s p) (queue_point s frame.path frame.deeds)
  fits_still frame p fits = to_queue_point s lawful frame.path frame.deeds (point s p) (fits_comes s frame p fits)
