use Rattle.std.proofs.Common.{◌≡◌, length}
use Rattle.job_reader.specs.Tokens.{without_front_spaces}
use Rattle.job_reader.proofs.trim.without_front_spaces.Given as goal

abbrev pub invariant-loop-first : goal.invariant-loop-first
invariant-loop-first l = without_front_spaces l.rest ≡ without_front_spaces l.line

abbrev pub decreases-loop-first : goal.decreases-loop-first
decreases-loop-first l = length l.rest
