use Rattle.queues.proofs.TreeSpawners.{spawners_back, spawners_create, spawners_deed, spawners_finish, spawners_lend, spawners_new, spawners_rest, spawners_root, spawners_spawn}
use Rattle.queues.proofs.tree_laws.spawners_have_their_turns.Goals as goal

pub returns-clause-start : goal.returns-clause-start
returns-clause-start c = spawners_new

pub returns-clause-create_root : goal.returns-clause-create_root
returns-clause-create_root c state tree spawners = spawners_root state tree spawners

pub returns-clause-create : goal.returns-clause-create
returns-clause-create c state tree spawners n act = spawners_create state n tree act spawners

pub returns-clause-spawn : goal.returns-clause-spawn
returns-clause-spawn c state tree spawners n child gives may turn = spawners_spawn state n child gives tree may spawners turn

pub returns-clause-deed : goal.returns-clause-deed
returns-clause-deed c state tree spawners n act = spawners_deed state n tree act spawners

pub returns-clause-lend : goal.returns-clause-lend
returns-clause-lend c state tree spawners frame ends = spawners_lend state frame ends tree spawners

pub returns-clause-back : goal.returns-clause-back
returns-clause-back c state tree spawners n deeds = spawners_back state n deeds tree spawners

pub returns-clause-finish : goal.returns-clause-finish
returns-clause-finish c state tree spawners n may = spawners_finish state n tree may spawners

pub returns-clause-take_rest : goal.returns-clause-take_rest
returns-clause-take_rest c state tree spawners queue = spawners_rest state queue tree spawners
