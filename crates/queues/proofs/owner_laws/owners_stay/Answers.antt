use Rattle.queues.proofs.TreeOwners.{owners_create, owners_finish, owners_kept_back, owners_kept_create, owners_kept_deed, owners_kept_finish, owners_kept_lend, owners_kept_rest, owners_kept_root, owners_kept_spawn, owners_left_out, owners_none, owners_root, owners_spawn}
use Rattle.queues.proofs.owner_laws.owners_stay.Goals as goal

pub returns-clause-create_root : goal.returns-clause-create_root
returns-clause-create_root c state first tree untouched = owners_root state first tree untouched

pub returns-clause-create : goal.returns-clause-create
returns-clause-create c state n first tree act = owners_create state n first tree act

pub returns-clause-root_aside : goal.returns-clause-root_aside
returns-clause-root_aside c state queue chunks tree owners known = owners_kept_root state queue chunks tree known owners

pub returns-clause-made_aside : goal.returns-clause-made_aside
returns-clause-made_aside c state queue chunks tree owners n act known = owners_kept_create state n queue chunks tree act known owners

pub returns-clause-spawn : goal.returns-clause-spawn
returns-clause-spawn c state queue chunks tree owners n child gives may given = owners_spawn state n child gives queue chunks tree may given owners

pub returns-clause-spawn_aside : goal.returns-clause-spawn_aside
returns-clause-spawn_aside c state queue chunks tree owners n child gives may lacks = owners_kept_spawn state n child gives queue chunks tree may lacks owners

pub returns-clause-deed : goal.returns-clause-deed
returns-clause-deed c state queue chunks tree owners n act = owners_kept_deed state n queue chunks tree act owners

pub returns-clause-lend : goal.returns-clause-lend
returns-clause-lend c state queue chunks tree owners frame ends = owners_kept_lend state frame ends queue chunks tree owners

pub returns-clause-back : goal.returns-clause-back
returns-clause-back c state queue chunks tree owners n deeds = owners_kept_back state n deeds queue chunks tree owners

pub returns-clause-finish : goal.returns-clause-finish
returns-clause-finish c state n queue chunks owners = owners_finish state n queue chunks owners

pub returns-clause-finish_aside : goal.returns-clause-finish_aside
returns-clause-finish_aside c state n queue frame chunks live lacks owners = owners_kept_finish state n queue frame chunks live lacks owners

pub returns-clause-given_up : goal.returns-clause-given_up
returns-clause-given_up c state n queue maker tree may made own = owners_none state n queue maker tree may made own

pub returns-clause-take_rest : goal.returns-clause-take_rest
returns-clause-take_rest c state queue chunks tree owners emptied = owners_kept_rest state emptied queue chunks tree owners

pub returns-clause-unowned : goal.returns-clause-unowned
returns-clause-unowned c state queue before after chunk none owners = owners_left_out state queue before after chunk none owners
