use Rattle.std.proofs.Common.{◌≡◌, ◌++◌, drop, flat_map}
use Rattle.std.specs.List.{zip}
use Rattle.swan_model.specs.Texts.{object_line}
use Rattle.serial_elision.proofs.report.push_objects.Given as goal

abbrev pub invariant-loop-index : goal.invariant-loop-index
invariant-loop-index l =
    l.report ++ flat_map object_line (zip (drop l.index l.names) (drop l.index l.objects)) ≡ l.initial.report ++ flat_map object_line (zip l.names l.objects)
