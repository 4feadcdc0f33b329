use Rattle.index_pipeline.proofs.Rising.{members}
use Rattle.index_pipeline.proofs.laws.the_index_is_a_sorted_set.Goals as goal

pub returns-clause-members : goal.returns-clause-members
returns-clause-members c = λ lines pair. members pair lines
