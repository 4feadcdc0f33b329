-- The outcome of a plan whose root runs whole.
use Rattle.whole_runs.proofs.Wholes.{outcome_is}
use Rattle.whole_runs.proofs.laws.a_whole_run_is_the_outcome.Goals as goal

pub returns : goal.returns
returns g c = λ plan after faults whole. outcome_is g.B.Body plan whole
