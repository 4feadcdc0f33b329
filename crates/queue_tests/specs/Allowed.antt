-- Whether a state allows a call, as a condition that computes.
use Rattle.std.specs.Prelude.{ℕ, Bool, true, false, ◌&&◌, ◌==◌, not, ltb, Option, Some, None, List, [], ◌∷◌, length, is_none, slice_get}
use Rattle.std.specs.List.{list_any}
use Rattle.swan_model.specs.declared.path.TheConstants.{PATH_MOST}
use Rattle.swan_model.specs.declared.rights.Mode.{Mode}
use Rattle.swan_model.specs.QueueState.{ActiveFrame, QueueMaker, planned, made_by, QueueRight, QueueState, active, holds_queue, CHILDREN_MOST, QUEUES_MOST}
use Rattle.swan_model.specs.Values.{COUNT_MOST}
use Rattle.swan_model.specs.Rights.{is_queue_mode}

-- an active frame with its ends back, of which a condition holds
abbrev pub acts : Option ActiveFrame → (ActiveFrame → Bool) → Bool
acts None test = false
acts (Some frame) test = is_none frame.lent && test frame

abbrev pub has_room : ActiveFrame → Bool
has_room frame = ltb frame.deeds COUNT_MOST

-- one more queue may be made
abbrev pub has_space : QueueState → Bool
has_space state = ltb (length state.makers) QUEUES_MOST

-- no deed was done
abbrev pub is_untouched : QueueState → Bool
is_untouched state = acts (active state 0) (λ root. (root.deeds == 0) && (root.children == 0))

-- it may do a deed that makes a queue
abbrev pub may_make : QueueState → ℕ → Bool
may_make state number = acts (active state number) has_room

-- it may do a deed at a queue
abbrev pub may_use : QueueState → (number queue : ℕ) → Mode → Bool
may_use state number queue mode = acts (active state number) (λ frame. has_room frame && holds_queue frame queue mode)

abbrev pub may_give : ActiveFrame → List QueueRight → Bool
may_give frame [] = true
may_give frame (give ∷ gives) =
    holds_queue frame give.queue give.mode && (is_queue_mode give.mode
    && (not (list_any (λ other. other.queue == give.queue) gives) && may_give frame gives))

abbrev pub may_spawn : QueueState → (parent child : ℕ) → List QueueRight → Bool
may_spawn state parent child gives = acts (active state parent) (λ frame. has_room frame && (ltb state.latest child
    && (may_give frame gives && (ltb (length frame.path) PATH_MOST && ltb frame.children CHILDREN_MOST))))

abbrev pub is_of : ℕ → Option ℕ → Bool
is_of parent None = false
is_of parent (Some other) = other == parent

-- it has no active child
abbrev pub may_join : QueueState → ℕ → Bool
may_join state number = acts (active state number) (λ frame. not (list_any (λ (other : ActiveFrame). is_of number other.parent) state.frames))

abbrev pub is_of_root : Option QueueMaker → Bool
is_of_root None = false
is_of_root (Some (planned index)) = true
is_of_root (Some (made_by [] deeds)) = true
is_of_root (Some (made_by (step ∷ path) deeds)) = false

-- the rest of a queue may be taken
abbrev pub is_rest_left : QueueState → ℕ → Bool
is_rest_left state queue = ltb queue (length state.makers) && (is_of_root (slice_get state.makers queue) && is_none (active state 0))
