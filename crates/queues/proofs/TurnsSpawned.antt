-- The turns of poppers say the same of the state after a spawn, once the child was given its queues.
use Rattle.std.proofs.Common.{false, ◌≡◌, ◌≢◌, ℕ, ◌<◌, Bool, true, ◌||◌, ◌&&◌, ◌==◌, Some, None, List, [], ◌∷◌, map, refl, sym, ap, ◌∙◌, ◌⊎◌, inl, inr, arith}
use Rattle.std.proofs.lemmas.Bool.{cases_eq, false≢true}
use Rattle.std.specs.List.{list_any}
use Rattle.std.specs.Prelude.{slice_get}
use Rattle.pop_order.specs.Frames.{TurnFrame, Frames, frame_at, lets_use}
use Rattle.swan_model.specs.declared.rights.Mode.{Mode}
use Rattle.swan_model.specs.QueueState.{ActiveFrame, QueueMaker, QueueRight, QueueState, active, after_spawn, child_of, holds_queue}
use Rattle.swan_model.specs.Rights.{allows}
use Rattle.queues.specs.Asks.{MaySpawn}
use Rattle.queues.specs.Tree.{IsTree, maker_path}
use Rattle.queues.specs.Turned.{AreGivenTurns, AreTurns, holding_of, turn_of}
use Rattle.queues.proofs.ActiveAfter.{child_spawned, one_child_more, others_spawned, parent_spawned}
use Rattle.queues.proofs.Frames.{active_number}
use Rattle.queues.proofs.Match.{not_active}
use Rattle.swan_model.proofs.Elements.{one_answer}

-- what the turn of a child says of what it was given
abbrev rights_for : List QueueRight → ℕ → Mode → Bool
rights_for gives queue mode = list_any (λ right. (right.queue == queue) && allows right.mode mode) gives

holds_given : (gives : List QueueRight) (queue : ℕ) (mode : Mode) → lets_use (map holding_of gives) queue mode ≡ rights_for gives queue mode
holds_given [] queue mode = refl
holds_given (give ∷ gives) queue mode = ap (λ b. ((give.queue == queue) && allows give.mode mode) || b) (holds_given gives queue mode)

turn_known : (parent : ℕ) (gives : List QueueRight) (turn : TurnFrame) → turn_of parent gives ≡ Some turn
    → (turn.parent ≡ parent) × ((queue : ℕ) (mode : Mode) → lets_use turn.holdings queue mode ≡ true → rights_for gives queue mode ≡ true)
turn_known parent [] turn is = let never : None ≡ Some turn = is in absurd (cc)
turn_known parent (give ∷ gives) turn is =
    let whole : record { parent = parent; holdings = map holding_of (give ∷ gives); lent = false } ≡ turn = cc in (
      ap (λ (t : TurnFrame). t.parent) (sym whole),
      λ queue mode held. sym (holds_given (give ∷ gives) queue mode) ∙ ap (λ (t : TurnFrame). lets_use t.holdings queue mode) whole ∙ held,
    )

turn_some : (parent : ℕ) (gives : List QueueRight) (queue : ℕ) (mode : Mode) → rights_for gives queue mode ≡ true
    → (turn : TurnFrame) × (turn_of parent gives ≡ Some turn) × (turn.parent ≡ parent) × (lets_use turn.holdings queue mode ≡ true)
turn_some parent [] queue mode some = absurd (false≢true some)
turn_some parent (give ∷ gives) queue mode some =
    (record { parent = parent; holdings = map holding_of (give ∷ gives); lent = false }, refl, refl, holds_given (give ∷ gives) queue mode ∙ some)

-- the active frames after a spawn
module _ (state : QueueState) (tree : IsTree state) (p child : ℕ) (gives : List QueueRight) (may : MaySpawn state p child gives) where
  free : active state child ≡ None
  free = not_active state tree child may.newest

  pub child_live : active (after_spawn state may.act.frame child gives) child ≡ Some (child_of may.act.frame child gives)
  child_live = child_spawned state p child may.act.frame gives may.act.may.live free

  pub parent_live : active (after_spawn state may.act.frame child gives) p ≡ Some (one_child_more may.act.frame)
  parent_live = parent_spawned state p child may.act.frame gives may.act.may.live free

  pub other_live : (m : ℕ) → m ≢ p → m ≢ child → active (after_spawn state may.act.frame child gives) m ≡ active state m
  other_live m a b = others_spawned state p child may.act.frame gives may.act.may.live free m a b

module _ (state : QueueState) (tree : IsTree state) (turns : Frames) (is : AreTurns state turns) (p child : ℕ) (gives : List QueueRight) (may : MaySpawn state p child gives) where
  -- all turns are of older frames
  pub turns_older : (number : ℕ) (turn : TurnFrame) → frame_at turns number ≡ Some turn → number < child
  turns_older number turn found =
      let known = is.known number turn found in
      let old = tree.latest number known.0 known.1 in
      let newest = may.newest in
      omega arith

  abbrev after : QueueState
  after = after_spawn state may.act.frame child gives

  abbrev parent_now : ActiveFrame
  parent_now = one_child_more may.act.frame

  module _ (then_turns : Frames) (given : AreGivenTurns turns then_turns p child gives) where
    pub turns_spawned : AreTurns after then_turns
    turns_spawned = record { apart = given.apart is.apart; known = known_now; all = all_now } where
      known_now : (m : ℕ) (turn : TurnFrame) → frame_at then_turns m ≡ Some turn
          → (frame : ActiveFrame) × (active after m ≡ Some frame) × (frame.parent ≡ Some turn.parent)
          × ((queue : ℕ) (mode : Mode) → lets_use turn.holdings queue mode ≡ true → holds_queue frame queue mode ≡ true)
      known_now m turn at = by (cases_eq m child) (cases_eq m p) where
        by : (m ≡ child) ⊎ (m ≢ child) → (m ≡ p) ⊎ (m ≢ p)
            → (frame : ActiveFrame) × (active after m ≡ Some frame) × (frame.parent ≡ Some turn.parent)
            × ((queue : ℕ) (mode : Mode) → lets_use turn.holdings queue mode ≡ true → holds_queue frame queue mode ≡ true)
        by (inl is_child) c =
            let told = turn_known p gives turn (sym given.one.changed ∙ ap (frame_at then_turns) (sym is_child) ∙ at) in (
              child_of may.act.frame child gives,
              ap (active after) is_child ∙ child_live state tree p child gives may,
              ap Some (active_number state p may.act.frame may.act.may.live ∙ sym told.0),
              told.1,
            )
        by (inr apart) (inl is_parent) =
            let was = is.known m turn (sym (given.one.others m apart) ∙ at) in
            let same : was.0 ≡ may.act.frame = one_answer (active state p) was.0 may.act.frame (ap (active state) (sym is_parent) ∙ was.1) may.act.may.live in (
              parent_now,
              ap (active after) is_parent ∙ parent_live state tree p child gives may,
              ap (λ (g : ActiveFrame). g.parent) (sym same) ∙ was.2,
              λ queue mode held. ap (λ (g : ActiveFrame). holds_queue g queue mode) (sym same) ∙ was.3 queue mode held,
            )
        by (inr apart) (inr other) =
            let was = is.known m turn (sym (given.one.others m apart) ∙ at) in
            (was.0, other_live state tree p child gives may m other apart ∙ was.1, was.2, was.3)

      all_now : (m above q : ℕ) (mode : Mode) (one : ActiveFrame) → active after m ≡ Some one → one.parent ≡ Some above
          → holds_queue one q mode ≡ true → ((maker : QueueMaker) → slice_get state.makers q ≡ Some maker → one.path ≢ maker_path maker)
          → (turn : TurnFrame) × (frame_at then_turns m ≡ Some turn) × (turn.parent ≡ above) × (lets_use turn.holdings q mode ≡ true)
      all_now m above q mode one live of held foreign = by (cases_eq m child) (cases_eq m p) where
        by : (m ≡ child) ⊎ (m ≢ child) → (m ≡ p) ⊎ (m ≢ p) → (turn : TurnFrame) × (frame_at then_turns m ≡ Some turn) × (turn.parent ≡ above) × (lets_use turn.holdings q mode ≡ true)
        by (inl is_child) c =
            let same : one ≡ child_of may.act.frame child gives =
            one_answer (active after child) one (child_of may.act.frame child gives)
            (ap (active after) (sym is_child) ∙ live) (child_live state tree p child gives may) in
            let told = turn_some p gives q mode (ap (λ (g : ActiveFrame). holds_queue g q mode) (sym same) ∙ held) in
            let both : Some may.act.frame.number ≡ Some above = ap (λ (g : ActiveFrame). g.parent) (sym same) ∙ of in
            let number : may.act.frame.number ≡ above = cc in
            (told.0, ap (frame_at then_turns) is_child ∙ given.one.changed ∙ told.1, told.2 ∙ sym (active_number state p may.act.frame may.act.may.live) ∙ number, told.3)
        by (inr apart) (inl is_parent) =
            let same : one ≡ parent_now =
            one_answer (active after p) one parent_now (ap (active after) (sym is_parent) ∙ live) (parent_live state tree p child gives may) in
            let turn = is.all m above q mode may.act.frame (ap (active state) is_parent ∙ may.act.may.live) (ap (λ (g : ActiveFrame). g.parent) (sym same) ∙ of)
            (ap (λ (g : ActiveFrame). holds_queue g q mode) (sym same) ∙ held) (λ maker made own. foreign maker made (ap (λ (g : ActiveFrame). g.path) same ∙ own)) in
            (turn.0, given.one.others m apart ∙ turn.1, turn.2, turn.3)
        by (inr apart) (inr other) =
            let turn = is.all m above q mode one (sym (other_live state tree p child gives may m other apart) ∙ live) of held foreign in
            (turn.0, given.one.others m apart ∙ turn.1, turn.2, turn.3)
