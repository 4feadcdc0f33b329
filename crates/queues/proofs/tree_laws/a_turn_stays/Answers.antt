use Rattle.queues.proofs.TurnsGoOn.{go_on-back, go_on-create, go_on-deed, go_on-finish, go_on-lend, go_on-rest, go_on-root, go_on-spawn}
use Rattle.queues.proofs.tree_laws.a_turn_stays.Goals as goal

pub returns-clause-create_root : goal.returns-clause-create_root
returns-clause-create_root c state tree = go_on-root state tree

pub returns-clause-create : goal.returns-clause-create
returns-clause-create c state tree n act = go_on-create state n tree act

pub returns-clause-spawn : goal.returns-clause-spawn
returns-clause-spawn c state tree n child gives may = go_on-spawn state n child gives tree may

pub returns-clause-deed : goal.returns-clause-deed
returns-clause-deed c state tree n act = go_on-deed state n tree act

pub returns-clause-lend : goal.returns-clause-lend
returns-clause-lend c state tree frame ends = go_on-lend state frame ends tree

pub returns-clause-back : goal.returns-clause-back
returns-clause-back c state tree n deeds = go_on-back state n deeds tree

pub returns-clause-finish : goal.returns-clause-finish
returns-clause-finish c state tree n may = go_on-finish state n tree may

pub returns-clause-take_rest : goal.returns-clause-take_rest
returns-clause-take_rest c state tree queue = go_on-rest state queue tree
