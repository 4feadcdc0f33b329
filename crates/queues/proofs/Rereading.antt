-- Readings that fit as a run begins, as calls are made that are no deeds, and as frames do their entries.
use Rattle.std.proofs.Common.{◌≡◌, inl, ℕ, zero, suc, ◌+◌, ◌<◌, true, false, List, [], ◌∷◌, ◌++◌, length, map, Some, None, refl, sym, ap, subst, ◌∙◌, arith}
use Rattle.std.proofs.lemmas.Option.{same_Some}
use Rattle.std.proofs.lemmas.Bool.{and_parts, both_ways}
use Rattle.std.specs.Option.{option_map}
use Rattle.std.specs.Prelude.{slice_get}
use Rattle.swan_model.specs.declared.origin.Origin.{Origin}
use Rattle.swan_model.specs.declared.origin.Origin.TheVariants.{Root}
use Rattle.swan_model.specs.declared.script.Deed.{Deed}
use Rattle.swan_model.specs.declared.script.Deed.TheVariants as deed
use Rattle.swan_model.specs.declared.script.Script.{Script}
use Rattle.swan_model.specs.Granted.{is_spawn}
use Rattle.swan_model.specs.Lawful.{IsLawful}
use Rattle.swan_model.specs.Nested.{spawn_time}
use Rattle.swan_model.specs.QueueFollows.{Fits, FitsFrame, origin_in, queue_origin}
use Rattle.swan_model.specs.QueueState.{ActiveFrame, LentEnd, QueueMaker, planned, QueueState, active, after_create_root, after_deed, after_finish, after_lend, after_take_rest, with_deed, with_made}
use Rattle.swan_model.specs.Readings.{gone_on, more_by, next_deed, with_queue}
use Rattle.swan_model.specs.SerialTime.{Progress, Reading, frame_of, is_of, is_queue_deed, point, times}
use Rattle.swan_model.specs.Told.{deed_at}
use Rattle.swan_model.proofs.Places.{placed}
use Rattle.swan_model.proofs.ScriptSteps.{deed_is, does_now, moved}
use Rattle.swan_model.proofs.TaskEntries.{is_spawn_of}
use Rattle.queues.proofs.Advancing.{fits_next, fits_same}
use Rattle.queues.proofs.Between.{no_spawn}
use Rattle.queues.proofs.Continuing.{KeepsOthers, WasActive, all_kept, became, changed_gone, fits_by, goes_by, others_kept}
use Rattle.queues.proofs.Finishing.{not_active, still_active}
use Rattle.queues.proofs.Refitting.{GoesTo, refits}
use Rattle.swan_model.proofs.Elements.{one_if}
use Rattle.swan_model.proofs.MovedFrames.{frame_in, frame_number}

-- ---- calls that are no deeds

module _ (s : Script) (state : QueueState) (r : Reading) (fits : Fits s state r) where
  goes_still : (other : Reading) → other.frames ≡ r.frames → GoesTo s r other (λ p. p) None
  goes_still other frames =
      let at_by : (index : ℕ) → slice_get other.frames index ≡ slice_get r.frames index = λ index. ap (λ xs. slice_get xs index) frames in
      record {
        number = λ i p at. refl;
        path = λ i p at. refl;
        to = λ i p at. at_by i ∙ at;
        from = λ i now at. inl (record { was = now; stood = sym (at_by i) ∙ at; is = refl });
        found = λ n p is. ap (λ xs. frame_of (record r { frames = xs }) n) frames ∙ is;
        still = λ i p child spawn at is before. before;
        children = λ i p child spawn at is from before. absurd (omega (arith, from, before));
        apart = λ now is i p at path. absurd (cc);
        known = λ now is. absurd (cc);
        spawned = λ now is path child ends. absurd (cc);
        first = λ now is v own before. absurd (cc);
      }

  pub still_fits : (other : Reading) → other.frames ≡ r.frames → (new : QueueState) → ((n : ℕ) (frame : ActiveFrame) → active new n ≡ Some frame → WasActive state n frame)
      → ((n : ℕ) → active new n ≡ None → active state n ≡ None) → ((queue : ℕ) → slice_get other.queues queue ≡ queue_origin s new queue) → Fits s new other
  still_fits other frames new was gone queues =
      let goes = goes_still other frames in
      refits s state r other fits (λ p. p) None goes new
      (λ n frame live.
      let w = was n frame live in
      let q = fits.frames n w.was w.live in
      (q.0, goes.found n q.0 q.1, fits_same s w.was frame q.0 q.2 w.path w.deeds))
      (λ i p at none. fits.ended i p at (gone p.number none))
      (λ now is none. absurd (cc)) queues

  pub same_active : (n : ℕ) (frame : ActiveFrame) → active state n ≡ Some frame → WasActive state n frame
  same_active n frame live = record { was = frame; live = live; path = refl; deeds = refl }

  pub objects_fit : (objects : List Origin) → Fits s state (record r { objects = objects })
  objects_fit objects = still_fits (record r { objects = objects }) refl state same_active (λ n none. none) fits.queues

  pub rest_fits : (queue : ℕ) → Fits s (after_take_rest state queue) r
  rest_fits queue = still_fits r refl (after_take_rest state queue) same_active (λ n none. none) fits.queues

  pub lent_fits : (frame : ActiveFrame) (ends : List LentEnd) → Fits s (after_lend state frame ends) r
  lent_fits frame ends =
      let new = after_lend state frame ends in
      let lend : ActiveFrame → ActiveFrame = λ f. record f { lent = Some (record { deeds = frame.deeds; ends = ends }) } in
      still_fits r refl new (all_kept state new frame.number lend (λ f. refl) refl (λ f. refl) (λ f. refl)) (changed_gone state new frame.number lend (λ f. refl) refl) fits.queues

pub more_queue : (f : QueueMaker → Origin) (os : List Origin) (ms : List QueueMaker) (o : Origin) (m : QueueMaker) → ((queue : ℕ) → slice_get os queue ≡ option_map f (slice_get ms queue)) → o ≡ f m
    → (queue : ℕ) → slice_get (os ++ o ∷ []) queue ≡ option_map f (slice_get (ms ++ m ∷ []) queue)
more_queue f [] [] o m same is zero = ap Some is
more_queue f [] [] o m same is (suc queue) = refl
more_queue f [] (x ∷ ms) o m same is queue = let none : None ≡ Some (f x) = same 0 in absurd (cc)
more_queue f (x ∷ os) [] o m same is queue = let some : Some x ≡ None = same 0 in absurd (cc)
more_queue f (x ∷ os) (y ∷ ms) o m same is zero = same 0
more_queue f (x ∷ os) (y ∷ ms) o m same is (suc queue) = more_queue f os ms o m (λ q. same (suc q)) is queue

pub root_queue_fits : (s : Script) (state : QueueState) (r : Reading) → Fits s state r → Fits s (after_create_root state) (with_queue r (Root (length state.makers)))
root_queue_fits s state r fits =
    let queue = length state.makers in
    let new = after_create_root state in
    still_fits s state r fits (with_queue r (Root queue)) refl new (all_kept state new 0 (with_made queue) (λ f. refl) refl (λ f. refl) (λ f. refl)) (changed_gone state new 0 (with_made queue) (λ f. refl) refl)
    (more_queue (origin_in s) r.queues state.makers (Root queue) (planned queue) fits.queues refl)

-- ---- one entry

-- what is done at the spawn of a child
pub spawn_does : (s : Script) (path : List ℕ) (child spawn : ℕ) → spawn_time s path child ≡ Some spawn → is_spawn (deed_at s spawn) ≡ true
spawn_does s path child spawn is =
    let found = placed (is_spawn_of path) 0 s.entries child spawn is in
    let here : found.i ≡ spawn = omega (arith, found.is) in
    let both = and_parts (is_of path found.entry) (is_spawn found.entry.deed) found.passes in
    ap is_spawn (deed_is s spawn found.entry (ap (slice_get s.entries) (sym here) ∙ found.stands)) ∙ both.1

module _ (s : Script) (lawful : IsLawful s) (state : QueueState) (r : Reading) (fits : Fits s state r) (n : ℕ) (p : Progress) (known : frame_of r n ≡ Some p) where
  pub fit_of : (frame : ActiveFrame) → active state n ≡ Some frame → FitsFrame s frame p
  fit_of frame live =
      let found = fits.frames n frame live in
      subst (FitsFrame s frame) (same_Some found.0 p (sym found.1 ∙ known)) found.2

  -- a frame with an entry left is active
  pub live_left : p.done < length (times s p.path) → active state n ≡ None → ⊥
  live_left left none =
      let place = frame_in r.frames n p known in
      let all = fits.ended place.index p place.stands (ap (active state) (frame_number r.frames n p known) ∙ none) in
      omega (arith, left, all)

  pub goes_step : (d : Deed) → next_deed s p ≡ Some d → is_spawn d ≡ false → (other : Reading) → other.frames ≡ map (more_by n 1) r.frames → GoesTo s r other (more_by n 1) None
  goes_step d next quiet other frames =
      let on = moved s lawful p d next quiet in
      goes_by s state r fits n 1 p known other frames (omega (arith, on)) (λ child spawn is from before.
      let here : spawn ≡ point s p = omega (arith, on, from, before) in
      both_ways (is_spawn (deed_at s (point s p))) (ap is_spawn (does_now s p d next) ∙ quiet) (ap (λ t. is_spawn (deed_at s t)) (sym here) ∙ spawn_does s p.path child spawn is))

  keeps_all : KeepsOthers state state n
  keeps_all = record { still = λ other frame apart live. same_active s state r fits other frame live; gone = λ other apart none. none }

  -- an entry that is no queue deed
  pub others_fit : (d : Deed) (objects : List Origin) → next_deed s p ≡ Some d → is_queue_deed d ≡ false → p.done + 1 < length (times s p.path) → Fits s state (record (gone_on r n) { objects = objects })
  others_fit d objects next quiet left =
      let other = record (gone_on r n) { objects = objects } in
      let none : one_if (is_queue_deed d) ≡ 0 = ap one_if quiet in
      fits_by s state r fits n 1 p known other (goes_step d next (no_spawn d quiet) other refl) state keeps_all
      (λ frame live. fits_next s frame frame p d (fit_of frame live) next refl (omega (arith, none)) left)
      (λ gone. absurd (live_left (omega (arith, left)) gone)) fits.queues

  -- a queue deed that makes nothing
  pub deed_fits : (d : Deed) → next_deed s p ≡ Some d → is_queue_deed d ≡ true → is_spawn d ≡ false → p.done + 1 < length (times s p.path) → Fits s (after_deed state n) (gone_on r n)
  deed_fits d next does quiet left =
      let new = after_deed state n in
      let one : one_if (is_queue_deed d) ≡ 1 = ap one_if does in
      fits_by s state r fits n 1 p known (gone_on r n) (goes_step d next quiet (gone_on r n) refl) new (others_kept state new n with_deed (λ f. refl) refl)
      (λ frame now.
      let b = became state new n with_deed (λ f. refl) refl frame now in
      let deeds : frame.deeds ≡ b.was.deeds + 1 = ap (λ (f : ActiveFrame). f.deeds) (sym b.is) in
      fits_next s b.was frame p d (fit_of b.was b.live) next (ap (λ (f : ActiveFrame). f.path) (sym b.is)) (omega (arith, deeds, one)) left)
      (λ gone. absurd (live_left (omega (arith, left)) (changed_gone state new n with_deed (λ f. refl) refl n gone))) fits.queues

  -- the last entry, where the frame finishes then
  last_fits : (d : Deed) → next_deed s p ≡ Some d → is_spawn d ≡ false → p.done + 1 ≡ length (times s p.path) → (before : QueueState) → KeepsOthers state before n → before.makers ≡ state.makers
      → Fits s (after_finish before n) (gone_on r n)
  last_fits d next quiet last before keeps makers =
      let new = after_finish before n in
      let others : KeepsOthers state new n =
      record {
        still = λ k frame apart now. keeps.still k frame apart (sym (still_active before n k apart) ∙ now);
        gone = λ k apart none. keeps.gone k apart (sym (still_active before n k apart) ∙ none);
      } in
      fits_by s state r fits n 1 p known (gone_on r n) (goes_step d next quiet (gone_on r n) refl) new others
      (λ frame now. absurd (not_active before n frame now)) (λ gone. last)
      (λ queue. fits.queues queue ∙ ap (λ ms. option_map (origin_in s) (slice_get ms queue)) (sym makers))

  pub finish_fits : (d : Deed) → next_deed s p ≡ Some d → is_queue_deed d ≡ false → p.done + 1 ≡ length (times s p.path) → Fits s (after_finish state n) (gone_on r n)
  finish_fits d next quiet last = last_fits d next (no_spawn d quiet) last state keeps_all refl

  pub last_pop-fits : (queue : Origin) → next_deed s p ≡ Some (deed.Pop queue) → p.done + 1 ≡ length (times s p.path) → Fits s (after_finish (after_deed state n) n) (gone_on r n)
  last_pop-fits queue next last =
      last_fits (deed.Pop queue) next refl last (after_deed state n) (others_kept state (after_deed state n) n with_deed (λ f. refl) refl) refl
