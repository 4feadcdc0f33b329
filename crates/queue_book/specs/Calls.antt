-- What the calls make of a state, by the frame's number.
use Rattle.queues.specs.Tells.{with_active}
use Rattle.std.specs.Prelude.{ℕ, List, []}
use Rattle.std.specs.Option.{option_map_or}
use Rattle.swan_model.specs.QueueState.{ActiveFrame, QueueState, active, after_back, after_create, after_create_root, after_deed, after_finish, after_lend, after_take_rest}
use Rattle.queue_book.specs.declared.stated.Call.{Call}
use Rattle.queue_book.specs.declared.stated.Call.TheVariants as call

-- a state without frames and queues
abbrev pub no_state : QueueState
no_state = record { frames = []; makers = []; latest = 0; emptied = [] }

abbrev pub after_call : QueueState → Call → QueueState
after_call state call.CreateRoot = after_create_root state
after_call state (call.Create frame) = with_active (after_create state) state (active state frame)
after_call state (call.Deed frame) = after_deed state frame
after_call state (call.Lend frame) = with_active (λ f. after_lend state f []) state (active state frame)
after_call state (call.Back frame) = with_active (λ f. after_back state frame f.deeds) state (active state frame)
after_call state (call.Finish frame) = after_finish state frame
after_call state (call.TakeRest queue) = after_take_rest state queue

-- the path of an active frame
abbrev pub path_in : QueueState → ℕ → List ℕ
path_in state frame = option_map_or (λ (f : ActiveFrame). f.path) (active state frame) []
