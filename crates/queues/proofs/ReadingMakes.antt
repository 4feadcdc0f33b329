-- A reading that goes on by a queue that is made fits, and one that goes on by the deeds of lent ends.
use Rattle.std.proofs.Common.{◌≡◌, inl, inr, ℕ, ◌+◌, ◌<◌, ◌≤◌, true, length, Some, None, refl, sym, ap, subst, ◌∙◌, arith}
use Rattle.std.proofs.lemmas.Bool.{both_ways, cases_lt}
use Rattle.std.proofs.lemmas.Option.{get_or_from_slice_get, same_Some}
use Rattle.swan_model.specs.declared.origin.Origin.TheVariants.{Step}
use Rattle.swan_model.specs.declared.script.Deed.TheVariants as deed
use Rattle.swan_model.specs.declared.script.Script.{Script}
use Rattle.swan_model.specs.Granted.{is_spawn}
use Rattle.swan_model.specs.Lawful.{IsLawful}
use Rattle.swan_model.specs.Nested.{IsEntryOf, spawn_time}
use Rattle.swan_model.specs.QueueFollows.{AreByEnds, Fits, FitsFrame, origin_in, queue_time, queue_times}
use Rattle.swan_model.specs.QueueState.{ActiveFrame, made_by, QueueState, active, after_back, after_create, with_deed, with_made}
use Rattle.swan_model.specs.Readings.{gone_on, gone_on_by, next_deed, with_queue}
use Rattle.swan_model.specs.SerialTime.{Progress, Reading, frame_of, is_queue_deed, point, times}
use Rattle.swan_model.specs.Told.{deed_at}
use Rattle.swan_model.proofs.Places.{passing-rises}
use Rattle.swan_model.proofs.ScriptSteps.{does_now, point_rises}
use Rattle.swan_model.proofs.TaskEntries.{spawn_own}
use Rattle.queues.proofs.Advancing.{fits_next, fits_same, more_left}
use Rattle.queues.proofs.Between.{deed-more, deed-place, deeds_before, is_queue_deed_of, point_left}
use Rattle.queues.proofs.Calls.{by_end_makes}
use Rattle.queues.proofs.Continuing.{became, changed_gone, fits_by, goes_by, others_kept}
use Rattle.queues.proofs.Done.{spawn_deed}
use Rattle.queues.proofs.Fitting.{fits_comes}
use Rattle.queues.proofs.Moving.{making_parts}
use Rattle.queues.proofs.QueuePoints.{next_is}
use Rattle.queues.proofs.Rereading.{fit_of, goes_step, live_left, more_queue, spawn_does}
use Rattle.queues.proofs.Frames.{active_number}

-- the time of a frame's next queue deed, where that is its next entry
pub deed_time : (s : Script) (frame : ActiveFrame) (p : Progress) → FitsFrame s frame p → is_queue_deed (deed_at s (point s p)) ≡ true → queue_time s frame.path frame.deeds ≡ point s p
deed_time s frame p fit deed =
    let comes = fits_comes s frame p fit in
    let place = deed-place s frame.path (point s p) comes.own deed in
    ap (queue_time s frame.path) (sym comes.before) ∙ get_or_from_slice_get (queue_times s frame.path) (deeds_before s frame.path (point s p)) (point s p) 0 place

module _ (s : Script) (lawful : IsLawful s) (state : QueueState) (r : Reading) (fits : Fits s state r) (p : Progress) (frame : ActiveFrame) where
  made_fits-own : active state frame.number ≡ Some frame → frame_of r frame.number ≡ Some p → next_deed s p ≡ Some deed.MakeQueue
      → Fits s (after_create state frame) (with_queue (gone_on r frame.number) (Step (point s p)))
  made_fits-own live known next =
      let n = frame.number in
      let new = after_create state frame in
      let change : ActiveFrame → ActiveFrame = λ f. with_deed (with_made (length state.makers) f) in
      let other = with_queue (gone_on r n) (Step (point s p)) in
      let fit = fit_of s lawful state r fits n p known in
      let left = more_left s lawful p deed.MakeQueue next (λ is. let e : deed.MakeQueue ≡ deed.Quiet = is in cc) (λ queue is. let e : deed.MakeQueue ≡ deed.Pop queue = is in cc) in
      let time = deed_time s frame p (fit frame live) (ap is_queue_deed (does_now s p deed.MakeQueue next)) in
      fits_by s state r fits n 1 p known other (goes_step s lawful state r fits n p known deed.MakeQueue next refl other refl) new (others_kept state new n change (λ f. refl) refl)
      (λ f now.
      let b = became state new n change (λ f. refl) refl f now in
      fits_next s b.was f p deed.MakeQueue (fit b.was b.live) next (ap (λ (x : ActiveFrame). x.path) (sym b.is)) (ap (λ (x : ActiveFrame). x.deeds) (sym b.is)) left)
      (λ gone. absurd (live_left s lawful state r fits n p known (omega (arith, left)) (changed_gone state new n change (λ f. refl) refl n gone)))
      (more_queue (origin_in s) r.queues state.makers (Step (point s p)) (made_by frame.path frame.deeds) fits.queues (ap Step (sym time)))

  pub made_fits : (number : ℕ) → active state number ≡ Some frame → frame_of r number ≡ Some p → next_deed s p ≡ Some deed.MakeQueue
      → Fits s (after_create state frame) (with_queue (gone_on r number) (Step (point s p)))
  made_fits number live known next =
      let same : number ≡ frame.number = sym (active_number state number frame live) in
      subst (λ k. Fits s (after_create state frame) (with_queue (gone_on r k) (Step (point s p)))) (sym same)
      (made_fits-own (ap (active state) (sym same) ∙ live) (ap (frame_of r) (sym same) ∙ known) next)

module _ (s : Script) (lawful : IsLawful s) (state : QueueState) (r : Reading) (fits : Fits s state r) (number deeds many : ℕ) (frame : ActiveFrame) (p : Progress)
    (live : active state number ≡ Some frame) (known : frame_of r number ≡ Some p) (ends : AreByEnds s frame.path frame.deeds deeds)
    (fit : FitsFrame s (record frame { deeds = deeds }) (record p { done = p.done + many })) where
  abbrev come : Progress
  come = record p { done = p.done + many }

  was_fit : FitsFrame s frame p
  was_fit = fit_of s lawful state r fits number p known frame live

  come_later : point s p ≤ point s come
  come_later =
      let task : length (times s p.path) ≡ length (times s frame.path) = ap (λ q. length (times s q)) was_fit.path in
      let left : p.done + many < length (times s frame.path) = fit.left in
      elim (cases_lt 0 many) [
        | inl some ↦
            let rise = point_rises s p.path p come refl refl (omega (arith, some)) (omega (arith, left, task)) in
            omega (arith, rise)
        | inr none ↦
            let same : p.done + many ≡ p.done = omega (arith, none) in
            let here : point s come ≡ point s p = ap (λ k. point s (record p { done = k })) same in
            omega (arith, here)
      ]

  -- none of the deeds that are done by ends is a spawn
  no_spawn_by : (child spawn : ℕ) → spawn_time s p.path child ≡ Some spawn → point s p ≤ spawn → spawn < point s come → ⊥
  no_spawn_by child spawn is from before =
      let path = frame.path in
      let own : IsEntryOf s path spawn = subst (λ q. IsEntryOf s q spawn) was_fit.path (spawn_own s p.path child spawn is) in
      let does = spawn_deed s p.path child spawn is in
      let k = deeds_before s path spawn in
      let first = fits_comes s frame p was_fit in
      let last = fits_comes s (record frame { deeds = deeds }) come fit in
      let low = passing-rises (is_queue_deed_of path) s.entries (point s p) spawn from in
      let more = deed-more s path spawn own does in
      let high = passing-rises (is_queue_deed_of path) s.entries (spawn + 1) (point s come) (omega (arith, before)) in
      let each = ends.each k (omega (arith, low, first.before)) (omega (arith, more, high, last.before)) in
      let next = next_is s path k each.0 each.1 in
      let time : queue_time s path k ≡ spawn = get_or_from_slice_get (queue_times s path) k spawn 0 (deed-place s path spawn own does) in
      let here : deed_at s spawn ≡ each.0 = ap (deed_at s) (sym (point_left s path k next.left ∙ time)) ∙ next.does in
      both_ways (is_spawn (deed_at s spawn)) (ap is_spawn here ∙ making_parts each.0 (by_end_makes each.0 each.2)) (spawn_does s p.path child spawn is)

  pub back_fits : Fits s (after_back state number deeds) (gone_on_by r number many)
  back_fits =
      let new = after_back state number deeds in
      let other = gone_on_by r number many in
      let change : ActiveFrame → ActiveFrame = λ f. record f { deeds = deeds; lent = None } in
      fits_by s state r fits number many p known other (goes_by s state r fits number many p known other refl come_later no_spawn_by) new (others_kept state new number change (λ f. refl) refl)
      (λ f now.
      let b = became state new number change (λ f. refl) refl f now in
      let same : b.was ≡ frame = same_Some b.was frame (sym b.live ∙ live) in
      fits_same s (record frame { deeds = deeds }) f come fit
      (ap (λ (x : ActiveFrame). x.path) (sym b.is) ∙ ap (λ (x : ActiveFrame). x.path) same) (ap (λ (x : ActiveFrame). x.deeds) (sym b.is)))
      (λ gone.
      let none = changed_gone state new number change (λ f. refl) refl number gone in
      let both : None ≡ Some frame = sym none ∙ live in
      absurd (cc)) fits.queues
