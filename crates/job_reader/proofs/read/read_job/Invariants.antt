use Rattle.std.proofs.Common.{◌≡◌, ◌+◌, ◌≤◌, length}
use Rattle.swan_model.specs.Lines.{lines}
use Rattle.job_reader.specs.FirstFault.{job_from}
use Rattle.job_reader.specs.declared.line.Edition.TheVariants.{One}
use Rattle.job_reader.specs.declared.position.Position.TheVariants.{First}
use Rattle.job_reader.proofs.TextLines.{with_lines_before}
use Rattle.job_reader.proofs.read.read_job.Given as goal

abbrev pub invariant-loop-rest : goal.invariant-loop-rest
invariant-loop-rest l = record {
  told : with_lines_before l.lines.items (job_from l.edition (l.number + 1) l.position (lines l.rest)) ≡ job_from One 1 First (lines l.bytes);
  counted : l.number + length l.rest ≤ length l.bytes;
}

abbrev pub decreases-loop-rest : goal.decreases-loop-rest
decreases-loop-rest l = length l.rest
