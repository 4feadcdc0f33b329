-- Whether a state allows the calls of a table, and the state after them where each gives its answer.
use Rattle.std.specs.Prelude.{ℕ, Bool, true, ◌&&◌, List, [], ◌∷◌}
use Rattle.swan_model.specs.declared.rights.Mode.TheVariants.{Push, Pop}
use Rattle.swan_model.specs.QueueState.{QueueState, active, after_create, after_create_root, after_deed, after_finish, after_take_rest}
use Rattle.queues.specs.Tells.{after_spawn_by, with_active, after_test}
use Rattle.queue_tests.specs.Allowed.{has_space, is_rest_left, is_untouched, may_join, may_make, may_spawn, may_use}
use Rattle.queue_tests.specs.declared.step.Step.{Step}
use Rattle.queue_tests.specs.declared.step.Step.TheVariants as step
use Rattle.queue_tests.specs.declared.step.Use.{Use}
use Rattle.queue_tests.specs.declared.step.Use.TheVariants as use_by

-- whether a frame may use a queue in a way
abbrev pub allows_use : QueueState → (frame queue : ℕ) → Use → Bool
allows_use state frame queue (use_by.Push item) = may_use state frame queue Push
allows_use state frame queue (use_by.Pop item) = may_use state frame queue Pop
allows_use state frame queue use_by.PopNone = may_use state frame queue Pop
allows_use state frame queue (use_by.PopWait cause) = may_use state frame queue Pop
allows_use state frame queue (use_by.Test answer) = may_use state frame queue Pop
allows_use state frame queue (use_by.Look answer) = may_use state frame queue Pop

-- the state once it has got its answer
abbrev pub after_use : QueueState → (frame : ℕ) → Use → QueueState
after_use state frame (use_by.Push item) = after_deed state frame
after_use state frame (use_by.Pop item) = after_deed state frame
after_use state frame use_by.PopNone = after_deed state frame
after_use state frame (use_by.PopWait cause) = state
after_use state frame (use_by.Test answer) = after_test state frame answer
after_use state frame (use_by.Look answer) = state

-- whether a state allows a call
abbrev pub allows_step : QueueState → Step → Bool
allows_step state (step.CreateRoot number item) = is_untouched state && has_space state
allows_step state (step.Create frame number) = may_make state frame && has_space state
allows_step state (step.Spawn parent child queue mode) = may_spawn state parent child ((record { queue = queue; mode = mode }) ∷ [])
allows_step state (step.MayStart child blocker) = true
allows_step state (step.Use frame queue way) = allows_use state frame queue way
allows_step state (step.Finish frame) = may_join state frame
allows_step state (step.TakeRest queue items) = is_rest_left state queue

-- the state after a call that has given its answer
abbrev pub after_step : QueueState → Step → QueueState
after_step state (step.CreateRoot number item) = after_create_root state
after_step state (step.Create frame number) = with_active (after_create state) state (active state frame)
after_step state (step.Spawn parent child queue mode) = after_spawn_by state parent child ((record { queue = queue; mode = mode }) ∷ [])
after_step state (step.MayStart child blocker) = state
after_step state (step.Use frame queue way) = after_use state frame way
after_step state (step.Finish frame) = after_finish state frame
after_step state (step.TakeRest queue items) = after_take_rest state queue

-- each call is allowed after those before it
abbrev pub allows_steps : QueueState → List Step → Bool
allows_steps state [] = true
allows_steps state (first ∷ steps) = allows_step state first && allows_steps (after_step state first) steps

abbrev pub after_steps : QueueState → List Step → QueueState
after_steps state [] = state
after_steps state (first ∷ steps) = after_steps (after_step state first) steps
