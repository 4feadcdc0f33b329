-- The bytes of a text, joined.
use Rattle.swan_reducers.proofs.JoinTotals.{joins_are_whole}
use Rattle.swan_reducers.proofs.laws.joins_are_whole.Goals as goal

pub returns-clause-whole : goal.returns-clause-whole
returns-clause-whole c = joins_are_whole
