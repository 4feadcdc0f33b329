use Rattle.std.proofs.Common.{◌-◌, string_bytes}
use Rattle.bulk_workload.proofs.Inputs.{Keeps}
use Rattle.bulk_workload.proofs.texts.bulk_input.Given as goal

abbrev pub invariant-loop-line : goal.invariant-loop-line
invariant-loop-line l = Keeps (string_bytes l.text) l.number (l.size - l._line) l.fn.number l.size
