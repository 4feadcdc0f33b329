use Rattle.std.proofs.Common.{◌≡◌, ◌++◌, drop}
use Rattle.job_reader.specs.CanonicalText.{text_from, text_of}
use Rattle.job_reader.proofs.write.write_job.Given as goal

abbrev pub invariant-loop-line : goal.invariant-loop-line
invariant-loop-line l = l.text.items ++ text_from l.position (drop l.line-index l.line-items) ≡ text_of l.job
