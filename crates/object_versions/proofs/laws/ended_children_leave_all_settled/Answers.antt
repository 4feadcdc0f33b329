use Rattle.object_versions.proofs.EndedChildren.{ended_children, ended_meanwhile}
use Rattle.object_versions.proofs.laws.ended_children_leave_all_settled.Goals as goal

pub returns-clause-ends : goal.returns-clause-ends
returns-clause-ends c = ended_children

pub returns-clause-meanwhile : goal.returns-clause-meanwhile
returns-clause-meanwhile c = ended_meanwhile
