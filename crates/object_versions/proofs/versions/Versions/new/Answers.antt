use Rattle.std.proofs.Common.{rules}
use Rattle.object_versions.proofs.CallsFollow.{new_follows}
use Rattle.object_versions.proofs.versions.Versions.new.Goals as goal

pub invariant_of-result : goal.invariant_of-result
invariant_of-result c = c.new.ensures.whole c.first.result

pub returns-clause-follows : goal.returns-clause-follows
returns-clause-follows c = new_follows _ (search rules)
