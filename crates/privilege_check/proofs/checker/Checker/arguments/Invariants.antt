use Rattle.std.proofs.Common.{◌≡◌, drop, length}
use Rattle.privilege_check.specs.Checking.{before_of}
use Rattle.privilege_check.specs.Names.{known}
use Rattle.privilege_check.specs.Spawns.{arguments}
use Rattle.privilege_check.proofs.checker.Checker.arguments.Given as goal

abbrev pub invariant-loop-taken : goal.invariant-loop-taken
invariant-loop-taken l =
    let names = known (before_of l.self) in
    let turn = length l.yielded in
    arguments names (drop turn l.takes) (drop turn l.args) ≡ arguments names l.takes l.args
