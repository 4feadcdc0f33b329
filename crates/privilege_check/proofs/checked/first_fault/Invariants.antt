use Rattle.std.proofs.Common.{◌≡◌, drop}
use Rattle.privilege_check.specs.Checking.{before_of}
use Rattle.privilege_check.specs.FirstFault.{fault_from, first_fault}
use Rattle.privilege_check.proofs.checked.first_fault.Given as goal

abbrev pub invariant-loop-index : goal.invariant-loop-index
invariant-loop-index l = fault_from l.index (before_of l.checker) (drop l.index l.lines) ≡ first_fault l.lines
