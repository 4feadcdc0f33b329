use Rattle.std.proofs.Common.{◌≡◌, length}
use Rattle.job_reader.specs.Tokens.{without_end_spaces}
use Rattle.job_reader.proofs.trim.without_end_spaces.Given as goal

abbrev pub invariant-loop-last : goal.invariant-loop-last
invariant-loop-last l = without_end_spaces l.rest ≡ without_end_spaces l.line

abbrev pub decreases-loop-last : goal.decreases-loop-last
decreases-loop-last l = length l.rest
