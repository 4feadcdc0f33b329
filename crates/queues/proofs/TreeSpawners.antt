-- Each active frame that has spawned has its turn, at the start and after each call where the frame that spawns has its turn.
-- No call takes a turn away. Older poppers come in neither with a queue, which its maker alone has, nor with a child, which is
-- younger than its siblings, nor with an end, which only takes a frame away.
use Rattle.std.proofs.Common.{◌≡◌, ℕ, ◌<◌, nat_eq, Some, List, length, sym, ap, subst, ◌∙◌, arith}
use Rattle.std.proofs.lemmas.Bool.{cond_both, eqb-true}
use Rattle.swan_model.specs.QueueState.{ActiveFrame, LentEnd, QueueRight, QueueState, active, after_back, after_create, after_create_root, after_deed, after_finish, after_lend, after_spawn, after_take_rest, frame_after_change, child_of, HasTurn, new_state, with_deed, with_made}
use Rattle.queues.specs.Asks.{MayDo, MayJoin, MaySpawn}
use Rattle.queues.specs.Tree.{SpawnersHaveTurns, IsTree}
use Rattle.queues.proofs.ActiveAfter.{one_child_more}
use Rattle.queues.proofs.Frames.{active_number}
use Rattle.queues.proofs.TreeAdded.{for_both, IsNewest, older_before as older_than_both, with_frame}
use Rattle.queues.proofs.TreeCalls.{back_changed, back_now, child_newest, create_changed, deed_changed, lend_changed, lent_now, maker_now, own_live, parent_changed, rest_changed, root_changed, tree_between, with_one_more}
use Rattle.queues.proofs.TreeChanged.{for_each, EachIsChanged, older_before}
use Rattle.queues.proofs.TreeKept.{only_root}
use Rattle.queues.proofs.TreeWithout.{older_left, was_there}
use Rattle.swan_model.proofs.Elements.{one_answer}

-- ---- frames in their places

-- Each frame that has spawned once it is changed has its turn before the change.
abbrev AreTurned : QueueState → (ActiveFrame → ActiveFrame) → Type 0
AreTurned before each = (number : ℕ) (frame : ActiveFrame) → active before number ≡ Some frame → 0 < (each frame).children → HasTurn before frame

spawners_changed : (before after : QueueState) (each : ActiveFrame → ActiveFrame) (actor : ℕ) → IsTree before → EachIsChanged before after each actor → AreTurned before each
    → SpawnersHaveTurns after
spawners_changed before after each actor tree change turned = record {
  turns = for_each before after each actor tree change (λ number frame. 0 < frame.children → HasTurn after frame)
      (λ number frame live some older is. turned number frame live some older (older_before before after each actor tree change number older frame live is));
}

-- It is enough to show it of the one that changes.
turned_one : (state : QueueState) → SpawnersHaveTurns state → (n : ℕ) (change : ActiveFrame → ActiveFrame)
    → ((frame : ActiveFrame) → active state n ≡ Some frame → 0 < (change frame).children → HasTurn state frame) → AreTurned state (frame_after_change n change)
turned_one state spawners n change turned number frame live =
    cond_both (nat_eq frame.number n) (change frame) frame (λ now. 0 < now.children → HasTurn state frame)
    (λ is. turned frame (ap (active state) (sym (eqb-true frame.number n is) ∙ active_number state number frame live) ∙ live))
    (λ is. spawners.turns number frame live)

-- the turn of an active frame
pub turn_of : (state : QueueState) (n : ℕ) (frame : ActiveFrame) → active state n ≡ Some frame → HasTurn state frame → (f : ActiveFrame) → active state n ≡ Some f → HasTurn state f
turn_of state n frame live turn f there =
    let P : ActiveFrame → Type 0 = λ g. HasTurn state g in
    subst P (one_answer (active state n) frame f live there) turn

-- ---- a frame more

spawners_added : (state : QueueState) (parent new : ActiveFrame) (index : ℕ) → IsTree state → IsNewest state parent new index → SpawnersHaveTurns state
    → SpawnersHaveTurns (with_frame state new)
spawners_added state parent new index tree is spawners = record {
  turns = for_both state parent new index tree is (λ number frame. 0 < frame.children → HasTurn (with_frame state new) frame)
      (λ number frame live some older popper. spawners.turns number frame live some older (older_than_both state parent new index tree is number older frame live popper))
      (λ some. let none = is.none in absurd (omega arith));
}

-- ---- the start and the calls

pub spawners_new : SpawnersHaveTurns new_state
spawners_new = record {
  turns = λ number frame live some older is.
      let first = (only_root number frame live).0 in
      let own = active_number new_state number frame live in
      let less = is.before in
      absurd (omega arith);
}

pub spawners_root : (state : QueueState) → IsTree state → SpawnersHaveTurns state → SpawnersHaveTurns (after_create_root state)
spawners_root state tree spawners =
    let change = with_made (length state.makers) in
    spawners_changed state (after_create_root state) (frame_after_change 0 change) 0 tree (root_changed state tree)
    (turned_one state spawners 0 change (spawners.turns 0))

pub spawners_create : (state : QueueState) (n : ℕ) → IsTree state → (act : MayDo state n) → SpawnersHaveTurns state → SpawnersHaveTurns (after_create state act.frame)
spawners_create state n tree act spawners =
    let frame = act.frame in
    spawners_changed state (after_create state frame) (frame_after_change frame.number (maker_now state)) frame.number tree (create_changed state tree n frame act.may)
    (turned_one state spawners frame.number (maker_now state) (spawners.turns frame.number))

pub spawners_deed : (state : QueueState) (n : ℕ) → IsTree state → MayDo state n → SpawnersHaveTurns state → SpawnersHaveTurns (after_deed state n)
spawners_deed state n tree act spawners =
    spawners_changed state (after_deed state n) (frame_after_change n with_deed) n tree (deed_changed state tree n act.frame act.may)
    (turned_one state spawners n with_deed (spawners.turns n))

-- Who spawns has its turn.
pub spawners_spawn : (state : QueueState) (p child : ℕ) (gives : List QueueRight) → IsTree state → (may : MaySpawn state p child gives) → SpawnersHaveTurns state
    → HasTurn state may.act.frame → SpawnersHaveTurns (after_spawn state may.act.frame child gives)
spawners_spawn state p child gives tree may spawners turn =
    let frame = may.act.frame in
    let between = spawners_changed state (with_one_more state frame) (frame_after_change frame.number one_child_more) frame.number tree
    (parent_changed state tree p child gives frame may.act.may may.newest may.lawful)
    (turned_one state spawners frame.number one_child_more (λ f there some. turn_of state frame.number frame (own_live state tree p frame may.act.may) turn f there)) in
    spawners_added (with_one_more state frame) (one_child_more frame) (child_of frame child gives) frame.children
    (tree_between state tree p child gives frame may.act.may may.newest may.lawful) (child_newest state tree p child gives frame may.act.may may.newest may.lawful) between

pub spawners_lend : (state : QueueState) (frame : ActiveFrame) (ends : List LentEnd) → IsTree state → SpawnersHaveTurns state → SpawnersHaveTurns (after_lend state frame ends)
spawners_lend state frame ends tree spawners =
    spawners_changed state (after_lend state frame ends) (frame_after_change frame.number (lent_now frame ends)) frame.number tree (lend_changed state frame ends tree)
    (turned_one state spawners frame.number (lent_now frame ends) (spawners.turns frame.number))

-- What a frame did by its ends needs no turn of it.
pub spawners_back : (state : QueueState) (n deeds : ℕ) → IsTree state → SpawnersHaveTurns state → SpawnersHaveTurns (after_back state n deeds)
spawners_back state n deeds tree spawners =
    spawners_changed state (after_back state n deeds) (frame_after_change n (back_now deeds)) n tree (back_changed state n deeds tree)
    (turned_one state spawners n (back_now deeds) (spawners.turns n))

pub spawners_finish : (state : QueueState) (n : ℕ) → IsTree state → MayJoin state n → SpawnersHaveTurns state → SpawnersHaveTurns (after_finish state n)
spawners_finish state n tree may spawners = record {
  turns = λ number frame live some older is. spawners.turns number frame (was_there state n number frame live).1 some older (older_left state n tree may.alone older frame is);
}

pub spawners_rest : (state : QueueState) (queue : ℕ) → IsTree state → SpawnersHaveTurns state → SpawnersHaveTurns (after_take_rest state queue)
spawners_rest state queue tree spawners = spawners_changed state (after_take_rest state queue) (λ f. f) 0 tree (rest_changed state queue tree) spawners.turns
