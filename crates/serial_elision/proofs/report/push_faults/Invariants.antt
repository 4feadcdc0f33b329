use Rattle.std.proofs.Common.{◌≡◌, ◌++◌, drop, flat_map}
use Rattle.swan_model.specs.Texts.{fault_line}
use Rattle.serial_elision.proofs.report.push_faults.Given as goal

abbrev pub invariant-loop-fault : goal.invariant-loop-fault
invariant-loop-fault l =
    l.report ++ flat_map fault_line (drop l.fault-index l.faults) ≡ l.initial.report ++ flat_map fault_line l.faults
