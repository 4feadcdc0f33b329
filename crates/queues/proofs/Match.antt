-- The chunks of a queue match the script after each call.
use Rattle.std.proofs.Common.{◌≡◌, ◌≢◌, ℕ, ◌<◌, true, false, List, ◌∷◌, length, Option, Some, None, refl, sym, ap, ◌∙◌, subst, arith}
use Rattle.std.proofs.lemmas.Bool.{false_from_ne_true}
use Rattle.std.specs.List.{list_any}
use Rattle.std.specs.Prelude.{◌&&◌, ◌==◌, slice_get}
use Rattle.swan_model.specs.declared.origin.Origin.{Origin}
use Rattle.swan_model.specs.declared.rights.Mode.TheVariants.{Pop}
use Rattle.swan_model.specs.declared.script.Deed.{Deed}
use Rattle.swan_model.specs.declared.script.Deed.TheVariants as deed
use Rattle.swan_model.specs.declared.script.Script.{Script}
use Rattle.swan_model.specs.declared.value.Value.{Value}
use Rattle.swan_model.specs.Lawful.{IsLawful}
use Rattle.swan_model.specs.QueueFollows.{QueuesFollow, next_queue_deed, queue_origin, queue_point}
use Rattle.swan_model.specs.QueueState.{changing, QueueRight, ActiveFrame, LentEnd, MayAct, QueueState, IsPoppingChild, active, after_back, after_create, after_create_root, after_deed, after_finish, after_lend, after_take_rest, holds_queue, HasTurn, with_deed, with_made}
use Rattle.swan_model.specs.Rights.{allows}
use Rattle.swan_model.specs.SerialTime.{times}
use Rattle.swan_model.specs.Told.{count, is_same, taken}
use Rattle.swan_model.proofs.Origins.{is_same-equal}
use Rattle.queues.specs.Chunks.{Chunk, Chunks, HasOwners, IsOwner, Matches, after_close, with_item, without_first}
use Rattle.queues.specs.Tells.{FindsNone}
use Rattle.queues.specs.Tree.{SpawnersHaveTurns, IsTree}
use Rattle.queues.proofs.ActiveAfter.{KeepsNumber, one_changed, one_goes_on, one_gone}
use Rattle.queues.proofs.Making.{holds_before}
use Rattle.queues.proofs.MatchDeed.{HasDone, LeavesQueue, done_deed, matches_stay, matches_told}
use Rattle.queues.proofs.MatchFinish.{matches_closed}
use Rattle.queues.proofs.MatchOwners.{other_owners, owns_once}
use Rattle.queues.proofs.MatchParts.{NonePops}
use Rattle.queues.proofs.MatchPop.{matches_popped}
use Rattle.queues.proofs.MatchPush.{matches_pushed}
use Rattle.queues.proofs.MatchSame.{CountsSame, PopsSame, counts_itself, matches_same, pops_itself, tell_equal}
use Rattle.queues.proofs.Frames.{active_number}
use Rattle.queues.proofs.TreeTurns.{earlier_owner_is_no_popper}
pub use Rattle.queues.proofs.MatchDeed.{matches_unowned}
pub use Rattle.queues.proofs.MatchFront.{holds_now, is_empty, matches_trimmed, not_ripe}
pub use Rattle.queues.proofs.MatchMade.{matches_create, matches_root}
pub use Rattle.queues.proofs.MatchRest.{rest_told}
pub use Rattle.queues.proofs.MatchSpawn.{matches_spawn, matches_spawn_other}

-- ---- deeds that leave a queue

-- two queues have two origins
pub other_origin : (s : Script) (state : QueueState) → QueuesFollow s state → (a b : ℕ) (one two : Origin) → queue_origin s state a ≡ Some one → queue_origin s state b ≡ Some two → a ≢ b → is_same one two ≡ false
other_origin s state follows a b one two first second differ =
    false_from_ne_true (is_same one two) (λ same. differ (follows.once a b two (first ∙ ap Some (is_same-equal one two same)) second))

module _ (s : Script) (frame : ActiveFrame) (queue : Origin) where
  pub leaves_make : LeavesQueue s frame queue deed.MakeQueue
  leaves_make = record { spawns = refl; pushes = refl; pops = λ is. absurd (cc) }

  pub leaves_test : (other : Origin) → LeavesQueue s frame queue (deed.Test other)
  leaves_test other = record { spawns = refl; pushes = refl; pops = λ is. absurd (cc) }

  pub leaves_push : (other : Origin) (value : Value) → is_same other queue ≡ false → LeavesQueue s frame queue (deed.Push other value)
  leaves_push other value differ = record { spawns = refl; pushes = differ; pops = λ is. absurd (cc) }

  pub leaves_pop : (other : Origin) → is_same other queue ≡ false → LeavesQueue s frame queue (deed.Pop other)
  leaves_pop other differ = record { spawns = refl; pushes = refl; pops = λ is. let both : true ≡ false = sym is ∙ differ in absurd (cc) }

  pub leaves_empty : FindsNone frame s queue → LeavesQueue s frame queue (deed.Pop queue)
  leaves_empty none = record { spawns = refl; pushes = refl; pops = λ is. none }

-- ---- whose turn it is

-- before the chunk of a frame that pops and has its turn stands none of one that may pop
pub none_pops : (state : QueueState) (queue : ℕ) (chunks : Chunks) (n index : ℕ) (frame : ActiveFrame) → IsTree state → SpawnersHaveTurns state → HasOwners state queue chunks → MayAct state n frame → HasTurn state frame
    → holds_queue frame queue Pop ≡ true → ((child : ℕ) → IsPoppingChild state n queue child → ⊥) → IsOwner state chunks index n → NonePops state queue chunks index
none_pops state queue chunks n index frame tree spawners owners may turn pops alone own before m other less theirs live =
    earlier_owner_is_no_popper state queue chunks n frame index before m other tree spawners owners may turn pops alone own theirs less live

-- a number that is larger than each so far is of no active frame
pub not_active : (state : QueueState) → IsTree state → (child : ℕ) → state.latest < child → active state child ≡ None
not_active state tree child newest = by (active state child) refl where
  by : (found : Option ActiveFrame) → active state child ≡ found → found ≡ None
  by None is = refl
  by (Some frame) is = let late = tree.latest child frame is in absurd (omega (arith, late, newest))

-- ---- after each call

module _ (s : Script) (lawful : IsLawful s) (state : QueueState) (number : ℕ) (queue : Origin) (end : ℕ) (chunks : Chunks) (matches : Matches s state number queue end chunks) where
  -- Who takes the rest of a queue leaves the chunks of all.
  pub matches_rest : (emptied : ℕ) → Matches s (after_take_rest state emptied) number queue end chunks
  matches_rest emptied =
      matches_same s number queue state (after_take_rest state emptied) end chunks matches
      (λ index chunk stands. tell_equal (CountsSame s queue) (counts_itself s queue) _ _ refl)
      (λ index chunk stands. tell_equal (PopsSame s number queue) (pops_itself s number queue) _ _ refl)

  -- A root queue that is made leaves the chunks of the others.
  pub matches_root_other : (root : ActiveFrame) → active state 0 ≡ Some root → number < length state.makers → Matches s (after_create_root state) number queue end chunks
  matches_root_other root live old =
      let made = length state.makers in
      let one = one_changed state 0 (with_made made) (λ f. refl) root live in
      matches_told s lawful state (after_create_root state) number queue end 0 chunks matches
      (other_owners state (after_create_root state) 0 (Some (with_made made root)) chunks one) root (with_made made root) live one.changed
      (record { path = refl; counts = refl }) (record { path = refl; takes = refl; pops = holds_before root made number Pop old })

  module _ (n : ℕ) (frame : ActiveFrame) (live : active state n ≡ Some frame) where
    -- A deed that leaves the queue leaves its chunks.
    pub matches_deed : (d : Deed) → next_queue_deed s frame.path frame.deeds ≡ Some d → LeavesQueue s frame queue d → Matches s (after_deed state n) number queue end chunks
    matches_deed d next leaves =
        let one = one_changed state n with_deed (λ f. refl) frame live in
        matches_stay s lawful state (after_deed state n) number queue end n chunks matches
        (other_owners state (after_deed state n) n (Some (with_deed frame)) chunks one) frame (with_deed frame) live one.changed (done_deed number frame) d next leaves

    -- A queue that is made leaves the chunks of the others.
    pub matches_create_other : next_queue_deed s frame.path frame.deeds ≡ Some deed.MakeQueue → number < length state.makers → Matches s (after_create state frame) number queue end chunks
    matches_create_other next old =
        let made = length state.makers in
        let change : ActiveFrame → ActiveFrame = λ f. with_deed (with_made made f) in
        let one = one_goes_on state n frame change (λ f. refl) live in
        let done : HasDone number frame (change frame) = record { path = refl; deeds = refl; pops = holds_before frame made number Pop old } in
        matches_stay s lawful state (after_create state frame) number queue end n chunks matches
        (other_owners state (after_create state frame) n (Some (change frame)) chunks one) frame (change frame) live one.changed done deed.MakeQueue next (leaves_make s frame queue)

    -- What leaves a frame's path, its deeds and its rights leaves the chunks.
    pub matches_lent : (change : ActiveFrame → ActiveFrame) → KeepsNumber change → (change frame).path ≡ frame.path → (change frame).deeds ≡ frame.deeds → (change frame).rights ≡ frame.rights
        → Matches s (changing state n change) number queue end chunks
    matches_lent change keeps path deeds rights =
        let point : queue_point s (change frame).path (change frame).deeds ≡ queue_point s frame.path frame.deeds = ap (λ p. queue_point s p (change frame).deeds) path ∙ ap (queue_point s frame.path) deeds in
        let one = one_changed state n change keeps frame live in
        matches_told s lawful state (changing state n change) number queue end n chunks matches
        (other_owners state (changing state n change) n (Some (change frame)) chunks one) frame (change frame) live one.changed
        (record { path = path; counts = ap (count s queue) point })
        (record { path = path; takes = ap (taken s queue) point; pops = ap (list_any (λ (right : QueueRight). (right.queue == number) && allows right.mode Pop)) rights })

    -- So it is where ends are lent, and where they come back unused.
    pub matches_lend : (ends : List LentEnd) → Matches s (after_lend state frame ends) number queue end chunks
    matches_lend ends =
        subst (λ m. Matches s (changing state m (λ f. record f { lent = Some (record { deeds = frame.deeds; ends = ends }) })) number queue end chunks)
        (sym (active_number state n frame live))
        (matches_lent (λ f. record f { lent = Some (record { deeds = frame.deeds; ends = ends }) }) (λ f. refl) refl refl refl)

    pub matches_back : (deeds : ℕ) → deeds ≡ frame.deeds → Matches s (after_back state n deeds) number queue end chunks
    matches_back deeds same = matches_lent (λ f. record f { deeds = deeds; lent = None }) (λ f. refl) refl same refl

    -- The end of a frame that has no chunk leaves the chunks.
    pub matches_finish_other : ((index : ℕ) → IsOwner state chunks index n → ⊥) → Matches s (after_finish state n) number queue end chunks
    matches_finish_other not =
        matches_unowned s state (after_finish state n) number queue end n chunks matches (other_owners state (after_finish state n) n None chunks (one_gone state n)) not

    module _ (owners : HasOwners state number chunks) where
      -- A push adds its item to the chunk of the frame that pushes.
      pub matches_push : (value : Value) → next_queue_deed s frame.path frame.deeds ≡ Some (deed.Push queue value) → Matches s (after_deed state n) number queue end (with_item n value chunks)
      matches_push value next =
          let one = one_changed state n with_deed (λ f. refl) frame live in
          matches_pushed s lawful state (after_deed state n) number queue end n chunks matches
          (other_owners state (after_deed state n) n (Some (with_deed frame)) chunks one) frame (with_deed frame) live one.changed (done_deed number frame)
          (owns_once state number chunks n owners) value next

      -- The end of a frame closes its chunk.
      pub matches_finish : next_queue_deed s frame.path frame.deeds ≡ None → 0 < length (times s frame.path) → Matches s (after_finish state n) number queue end (after_close n chunks)
      matches_finish over some =
          matches_closed s lawful state (after_finish state n) number queue end n frame live over some chunks
          (other_owners state (after_finish state n) n None chunks (one_gone state n)) (owns_once state number chunks n owners) matches

-- A pop takes the first item of the first chunk, where no owner before the frame's chunk may pop.
pub matches_pop : (s : Script) → IsLawful s → (state : QueueState) (number : ℕ) (queue : Origin) (end : ℕ) (first : Chunk) (chunks : Chunks) → Matches s state number queue end (first ∷ chunks)
    → HasOwners state number (first ∷ chunks) → (index n : ℕ) (frame : ActiveFrame) → IsOwner state (first ∷ chunks) index n → active state n ≡ Some frame → holds_queue frame number Pop ≡ true
    → NonePops state number (first ∷ chunks) index → next_queue_deed s frame.path frame.deeds ≡ Some (deed.Pop queue) → (value : Value) → slice_get first.items 0 ≡ Some value
    → Matches s (after_deed state n) number queue end (without_first (first ∷ chunks))
matches_pop s lawful state number queue end first chunks matches owners index n frame owner live pops none next value is =
    let one = one_changed state n with_deed (λ f. refl) frame live in
    matches_popped s lawful state (after_deed state n) number queue end n frame (with_deed frame) live one.changed (done_deed number frame) pops next
    first chunks matches (other_owners state (after_deed state n) n (Some (with_deed frame)) (first ∷ chunks) one)
    (owns_once state number (first ∷ chunks) n owners) index owner none value is
