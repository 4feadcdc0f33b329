-- Why a run of a plan has room: what follows its script makes no more than the script does.
use Rattle.std.proofs.Common.{◌≡◌, ℕ, zero, suc, ◌+◌, ◌≤◌, ◌<◌, ◌&&◌, Bool, true, false, cond, List, [], ◌∷◌, Option, Some, None, length, map, max, refl, sym, ap, subst, ◌∙◌, arith, take_all}
use Rattle.std.proofs.lemmas.List.{length-map}
use Rattle.std.proofs.lemmas.Option.{same_Some, slice_get-map}
use Rattle.std.specs.Option.{option_map}
use Rattle.std.specs.Prelude.{filter, slice_get, take}
use Rattle.swan_model.specs.declared.body.Body.{Ghosts}
use Rattle.swan_model.specs.declared.origin.Origin.{Origin}
use Rattle.swan_model.specs.declared.plan.Plan.{Plan}
use Rattle.swan_model.specs.declared.plan.TheConstants.{FUEL_MOST, ROOTS_MOST}
use Rattle.swan_model.specs.declared.rights.Mode.{Mode}
use Rattle.swan_model.specs.declared.rights.TheConstants.{GIVES_MOST}
use Rattle.swan_model.specs.declared.script.Entry.{Entry}
use Rattle.swan_model.specs.declared.script.Script.{Script}
use Rattle.swan_model.specs.Granted.{children_before, is_spawn}
use Rattle.swan_model.specs.QueueFollows.{IsMade, QueuesFollow, origin_in, queue_times}
use Rattle.swan_model.specs.QueueState.{ActiveFrame, QueueMaker, planned, made_by, QueueState, active, CHILDREN_MOST, PLACES_MOST, QUEUES_MOST}
use Rattle.swan_model.specs.Values.{COUNT_MOST}
use Rattle.swan_model.specs.Roots.{IsWithinBounds}
use Rattle.swan_model.specs.Script.{script}
use Rattle.swan_model.specs.SerialState.{Activation, Holding}
use Rattle.swan_model.specs.SerialTime.{is_of, is_queue_deed, places_from, time}
use Rattle.swan_model.specs.Told.{deed_at}
use Rattle.swan_model.specs.TrueFrames.{FrameState, IsTrueAlone, StandsAt}
use Rattle.swan_model.proofs.ScriptSteps.{deed_is}
use Rattle.serial_elision.specs.Laws.{AreEachOnce, IsQueueOf}
use Rattle.serial_elision.proofs.FewHeld.{few-children, few-places}
use Rattle.serial_elision.proofs.FewMade.{few-pass, few-queue_times, few-queues}
use Rattle.serial_elision.proofs.Nesting.{counted}
use Rattle.serial_elision.proofs.Passing.{AreCounted}
use Rattle.serial_elision.proofs.TaskSteps.{top_path}
use Rattle.swan_model.proofs.Elements.{one_if, first-passes}

-- ---- what made the queues

made-queue : (s : Script) (state : QueueState) (queue : ℕ) (maker : QueueMaker) → IsMade s state queue maker → IsQueueOf s (origin_in s maker)
made-queue s state queue (planned index) is = is.1
made-queue s state queue (made_by path deeds) is = is.0

queue-of : (s : Script) (state : QueueState) → QueuesFollow s state → (queue : ℕ) (origin : Origin) (found : Option QueueMaker) → slice_get state.makers queue ≡ found → option_map (origin_in s) found ≡ Some origin → IsQueueOf s origin
queue-of s state follows queue origin None at is = absurd (cc)
queue-of s state follows queue origin (Some maker) at is = subst (IsQueueOf s) (same_Some (origin_in s maker) origin is) (made-queue s state queue maker (follows.queues queue maker at))

-- each of them is a queue of the script, and none is two
pub makers-once : (s : Script) (state : QueueState) → QueuesFollow s state → AreEachOnce (IsQueueOf s) (map (origin_in s) state.makers)
makers-once s state follows =
    let named : (i : ℕ) → slice_get (map (origin_in s) state.makers) i ≡ option_map (origin_in s) (slice_get state.makers i) = slice_get-map (origin_in s) state.makers in
    record {
      each = λ i origin at. queue-of s state follows i origin (slice_get state.makers i) refl (sym (named i) ∙ at);
      once = λ i j origin one two. follows.once i j origin (sym (named i) ∙ one) (sym (named j) ∙ two);
    }

-- ---- spawns among a task's first deeds

abbrev spawns_there : Script → List ℕ → ℕ
spawns_there s ts = length (filter (λ t. is_spawn (deed_at s t)) ts)

abbrev spawns_in : List Entry → ℕ
spawns_in es = length (filter (λ (e : Entry). is_spawn e.deed) es)

spawns-among : (s : Script) (own : Entry → Bool) (n : ℕ) (es : List Entry) → ((i : ℕ) (e : Entry) → slice_get es i ≡ Some e → deed_at s (n + i) ≡ e.deed) → (k : ℕ) → spawns_there s (take k (places_from own n es)) ≤ spawns_in es
spawns-among s own n [] tells zero = omega arith
spawns-among s own n [] tells (suc k) = omega arith
spawns-among s own n (e ∷ es) tells k =
    by (own e) k (spawns-among s own (n + 1) es (λ i other at. let next : n + 1 + i ≡ n + suc i = omega arith in ap (deed_at s) next ∙ tells (suc i) other at))
  where
    later : List ℕ
    later = places_from own (n + 1) es

    by : (b : Bool) (k : ℕ) → ((m : ℕ) → spawns_there s (take m later) ≤ spawns_in es) → spawns_there s (take k (cond b (n ∷ later) later)) ≤ spawns_in (e ∷ es)
    by false k each = omega (arith, each k, first-passes (λ (x : Entry). is_spawn x.deed) e es)
    by true zero each = omega arith
    by true (suc k) each =
        let here : n ≡ n + 0 = omega arith in
        let same : one_if (is_spawn (deed_at s n)) ≡ one_if (is_spawn e.deed) = ap (λ d. one_if (is_spawn d)) (ap (deed_at s) here ∙ tells 0 e refl) in
        omega (arith, same, each k, first-passes (λ t. is_spawn (deed_at s t)) n (take k later), first-passes (λ (x : Entry). is_spawn x.deed) e es)

module _ {B L : Type 0} (G : Ghosts B L) (plan : Plan B L) where
  few-spawned : (path : List ℕ) (k : ℕ) → spawns_there (script G plan) (take k (queue_times (script G plan) path)) ≤ plan.fuel
  few-spawned path k =
      let s = script G plan in
      let all : spawns_in (take (length s.entries) s.entries) ≡ spawns_in s.entries = ap spawns_in (take_all (length s.entries) s.entries (omega arith)) in
      let among = spawns-among s (λ entry. is_of path entry && is_queue_deed entry.deed) 0 s.entries (λ i e at. let same : 0 + i ≡ i = omega arith in ap (deed_at s) same ∙ deed_is s i e at) k in
      omega (arith, all, among, few-pass G plan is_spawn refl (length s.entries))

  -- ---- room

  pub room-queues : (state : QueueState) → IsWithinBounds plan.roots.queues plan.roots.objects → plan.fuel ≤ FUEL_MOST → QueuesFollow (script G plan) state → length state.makers < QUEUES_MOST
  room-queues state bounds fuel follows =
      let s = script G plan in
      omega (arith, bounds.roots, fuel, length-map state.makers (origin_in s), few-queues G plan (map (origin_in s) state.makers) (makers-once s state follows))

  pub room-children : (state : QueueState) (number : ℕ) (frame : ActiveFrame) → plan.fuel ≤ FUEL_MOST → QueuesFollow (script G plan) state → active state number ≡ Some frame → frame.children < CHILDREN_MOST
  room-children state number frame fuel follows live =
      let task = follows.tasks number frame live in
      omega (arith, fuel, task.children, few-spawned frame.path frame.deeds)

  pub room-deeds : (state : QueueState) (number : ℕ) (frame : ActiveFrame) → plan.fuel ≤ FUEL_MOST → QueuesFollow (script G plan) state → active state number ≡ Some frame → frame.deeds < COUNT_MOST
  room-deeds state number frame fuel follows live =
      let task = follows.tasks number frame live in
      omega (arith, fuel, task.deeds, few-queue_times G plan frame.path)

  -- ---- true frames

  -- a task has as many children as the script has spawns of it by then
  pub children-told : (path : List ℕ) (k : ℕ) (top : Activation L) → StandsAt G plan path k top → top.children ≡ children_before (script G plan) path (time (script G plan) path k)
  children-told path k top at =
      let s = script G plan in
      let t = time s path k in
      let each : AreCounted s.entries t (top ∷ at.below) = subst (AreCounted s.entries t) at.stack (counted G plan t) in
      sym each.0 ∙ ap (λ p. children_before s p t) (top_path G plan path k top at).1

  pub true-children : (frame : FrameState L) → plan.fuel ≤ FUEL_MOST → IsTrueAlone G plan frame → frame.children < CHILDREN_MOST
  true-children frame fuel alone = omega (arith, fuel, alone.children, few-children G plan frame.path frame.done alone.top alone.stands)

  pub true-places : (frame : FrameState L) (first : Activation L) → plan.fuel ≤ FUEL_MOST → IsTrueAlone G plan frame → StandsAt G plan frame.path 0 first → length first.holdings ≤ max ROOTS_MOST GIVES_MOST → length frame.holdings < PLACES_MOST
  true-places frame first fuel alone begins most =
      let mode : Holding → Mode = λ h. h.mode in
      let same : length frame.holdings ≡ length alone.top.holdings = sym (length-map frame.holdings mode) ∙ ap length alone.modes ∙ length-map alone.top.holdings mode in
      omega (
        arith,
        fuel,
        most,
        same,
        few-places G plan frame.path frame.done first alone.top begins alone.stands,
        few-children G plan frame.path 0 first begins,
      )
