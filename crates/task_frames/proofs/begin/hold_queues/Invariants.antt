use Rattle.std.proofs.Common.{◌≡◌, ◌++◌, drop}
use Rattle.swan_model.specs.Elision.{queue_holdings}
use Rattle.task_frames.proofs.begin.hold_queues.Given as goal

abbrev pub invariant-loop-number : goal.invariant-loop-number
invariant-loop-number l =
    l.holdings.items ++ queue_holdings l.number (drop l.number l.queues) ≡ l.initial.holdings.items ++ queue_holdings 0 l.queues
