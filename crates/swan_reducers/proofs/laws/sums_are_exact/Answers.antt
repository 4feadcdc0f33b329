-- The sum of lines.
use Rattle.swan_reducers.proofs.SumTotals.{sums_are_exact}
use Rattle.swan_reducers.proofs.laws.sums_are_exact.Goals as goal

pub returns-clause-exact : goal.returns-clause-exact
returns-clause-exact c = sums_are_exact
