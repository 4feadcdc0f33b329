use Rattle.std.proofs.Common.{◌≡◌, ◌++◌, drop}
use Rattle.swan_model.specs.Elision.{object_holdings}
use Rattle.task_frames.proofs.begin.hold_objects.Given as goal

abbrev pub invariant-loop-number : goal.invariant-loop-number
invariant-loop-number l =
    l.holdings.items ++ object_holdings l.number (drop l.number l.objects) ≡ l.initial.holdings.items ++ object_holdings 0 l.objects
