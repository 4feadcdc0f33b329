use Rattle.queues.proofs.TreeKept.{tree_back, tree_create, tree_deed, tree_finish, tree_lend, tree_new, tree_rest, tree_root, tree_spawn}
use Rattle.queues.proofs.tree_laws.frames_stay_a_tree.Goals as goal

pub returns-clause-start : goal.returns-clause-start
returns-clause-start c = tree_new

pub returns-clause-create_root : goal.returns-clause-create_root
returns-clause-create_root c state tree untouched = tree_root state tree untouched

pub returns-clause-create : goal.returns-clause-create
returns-clause-create c state tree n act = tree_create state n tree act

pub returns-clause-spawn : goal.returns-clause-spawn
returns-clause-spawn c state tree n child gives may = tree_spawn state n child gives tree may

pub returns-clause-deed : goal.returns-clause-deed
returns-clause-deed c state tree n act = tree_deed state n tree act

pub returns-clause-lend : goal.returns-clause-lend
returns-clause-lend c state tree frame ends = tree_lend state frame ends tree

pub returns-clause-back : goal.returns-clause-back
returns-clause-back c state tree n deeds = tree_back state n deeds tree

pub returns-clause-finish : goal.returns-clause-finish
returns-clause-finish c state tree n may = tree_finish state n tree may

pub returns-clause-take_rest : goal.returns-clause-take_rest
returns-clause-take_rest c state tree queue = tree_rest state queue tree
