-- The outcome of a fold's plan.
use Rattle.swan_reducers.proofs.Folding.{is_folded}
use Rattle.swan_reducers.proofs.laws.the_outcome_is_the_fold.Goals as goal

pub returns : goal.returns
returns g c = λ reducer text accepted. is_folded g.R.Reducer reducer text accepted
