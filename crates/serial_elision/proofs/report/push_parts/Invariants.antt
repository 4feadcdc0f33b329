use Rattle.std.proofs.Common.{◌≡◌, ◌++◌, drop, flat_map, codes}
use Rattle.std.specs.Fmt.{decimal}
use Rattle.serial_elision.proofs.report.push_parts.Given as goal

abbrev pub invariant-loop-part : goal.invariant-loop-part
invariant-loop-part l =
    l.report ++ flat_map (λ part. codes "/" ++ decimal part) (drop l.part-index l.parts) ≡ l.initial.report ++ flat_map (λ part. codes "/" ++ decimal part) l.parts
