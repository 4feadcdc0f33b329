use Rattle.std.proofs.Common.{◌≡◌, drop}
use Rattle.privilege_check.specs.Checking.{before_of}
use Rattle.privilege_check.specs.Names.{known}
use Rattle.privilege_check.specs.Operations.{values}
use Rattle.privilege_check.proofs.checker.Checker.values.Given as goal

abbrev pub invariant-loop-atom : goal.invariant-loop-atom
invariant-loop-atom l =
    let names = known (before_of l.self) in
    values names l.kind (drop l.atom-index l.atoms) ≡ values names l.kind l.atoms
