-- No call takes a turn away, as each call leaves no older sibling that pops and wasn't there before.
use Rattle.std.proofs.Common.{◌≡◌, ℕ, List, Some, length, arith}
use Rattle.swan_model.specs.QueueState.{ActiveFrame, HasTurn, LentEnd, QueueRight, QueueState, active, after_back, after_create, after_create_root, after_deed, after_finish, after_lend, after_spawn, after_take_rest, frame_after_change, child_of, with_deed, with_made}
use Rattle.queues.specs.Asks.{MayDo, MayJoin, MaySpawn}
use Rattle.queues.specs.Tree.{IsTree, TurnsGoOn}
use Rattle.queues.proofs.ActiveAfter.{one_child_more}
use Rattle.queues.proofs.TreeAdded.{for_both, IsNewest, older_before as older_than_both, with_frame}
use Rattle.queues.proofs.TreeCalls.{back_changed, back_now, child_newest, create_changed, deed_changed, lend_changed, lent_now, maker_now, parent_changed, rest_changed, root_changed, tree_between, with_one_more}
use Rattle.queues.proofs.TreeChanged.{for_each, EachIsChanged, older_before, still}
use Rattle.queues.proofs.TreeSpawners.{turn_of}
use Rattle.queues.proofs.TreeWithout.{older_left, was_there}

-- frames in their places
go_on-changed : (before after : QueueState) (each : ActiveFrame → ActiveFrame) (actor : ℕ) → IsTree before → EachIsChanged before after each actor → TurnsGoOn before after
go_on-changed before after each actor tree change number frame now live after_live turn =
    for_each before after each actor tree change (λ n now. (frame : ActiveFrame) → active before n ≡ Some frame → HasTurn before frame → HasTurn after now)
    (λ n was there frame live turn older is. turn_of before n frame live turn was there older (older_before before after each actor tree change n older was there is))
    number now after_live frame live turn

-- a frame more
go_on-added : (state : QueueState) (parent new : ActiveFrame) (index : ℕ) → IsTree state → IsNewest state parent new index → TurnsGoOn state (with_frame state new)
go_on-added state parent new index tree is number frame now live after_live turn =
    for_both state parent new index tree is (λ n now. (frame : ActiveFrame) → active state n ≡ Some frame → HasTurn state frame → HasTurn (with_frame state new) now)
    (λ n was there frame live turn older popper. turn_of state n frame live turn was there older (older_than_both state parent new index tree is n older was there popper))
    (λ frame live turn. let most = tree.latest new.number frame live in let newest = is.number in absurd (omega arith))
    number now after_live frame live turn

-- ---- the calls

pub go_on-root : (state : QueueState) → IsTree state → TurnsGoOn state (after_create_root state)
go_on-root state tree = go_on-changed state (after_create_root state) (frame_after_change 0 (with_made (length state.makers))) 0 tree (root_changed state tree)

pub go_on-create : (state : QueueState) (n : ℕ) → IsTree state → (act : MayDo state n) → TurnsGoOn state (after_create state act.frame)
go_on-create state n tree act =
    let frame = act.frame in
    go_on-changed state (after_create state frame) (frame_after_change frame.number (maker_now state)) frame.number tree (create_changed state tree n frame act.may)

pub go_on-deed : (state : QueueState) (n : ℕ) → IsTree state → MayDo state n → TurnsGoOn state (after_deed state n)
go_on-deed state n tree act = go_on-changed state (after_deed state n) (frame_after_change n with_deed) n tree (deed_changed state tree n act.frame act.may)

-- A spawn changes the parent, and then its child comes in.
pub go_on-spawn : (state : QueueState) (p child : ℕ) (gives : List QueueRight) → IsTree state → (may : MaySpawn state p child gives)
    → TurnsGoOn state (after_spawn state may.act.frame child gives)
go_on-spawn state p child gives tree may number frame now live after_live turn =
    let parent = may.act.frame in
    let between = with_one_more state parent in
    let each = frame_after_change parent.number one_child_more in
    let change = parent_changed state tree p child gives parent may.act.may may.newest may.lawful in
    let there = still state between each parent.number tree change number frame live in
    go_on-added between (one_child_more parent) (child_of parent child gives) parent.children
    (tree_between state tree p child gives parent may.act.may may.newest may.lawful) (child_newest state tree p child gives parent may.act.may may.newest may.lawful)
    number (each frame) now there after_live (go_on-changed state between each parent.number tree change number frame (each frame) live there turn)

pub go_on-lend : (state : QueueState) (frame : ActiveFrame) (ends : List LentEnd) → IsTree state → TurnsGoOn state (after_lend state frame ends)
go_on-lend state frame ends tree =
    go_on-changed state (after_lend state frame ends) (frame_after_change frame.number (lent_now frame ends)) frame.number tree (lend_changed state frame ends tree)

pub go_on-back : (state : QueueState) (n deeds : ℕ) → IsTree state → TurnsGoOn state (after_back state n deeds)
go_on-back state n deeds tree = go_on-changed state (after_back state n deeds) (frame_after_change n (back_now deeds)) n tree (back_changed state n deeds tree)

pub go_on-finish : (state : QueueState) (n : ℕ) → IsTree state → MayJoin state n → TurnsGoOn state (after_finish state n)
go_on-finish state n tree may number frame now live after_live turn older is =
    turn_of state number frame live turn now (was_there state n number now after_live).1 older (older_left state n tree may.alone older now is)

pub go_on-rest : (state : QueueState) (queue : ℕ) → IsTree state → TurnsGoOn state (after_take_rest state queue)
go_on-rest state queue tree = go_on-changed state (after_take_rest state queue) (λ f. f) 0 tree (rest_changed state queue tree)
