use Rattle.queues.proofs.Calls.{back_follows, lent_follows, new_follows, no_making, rest_follows, used_follows}
use Rattle.queues.proofs.Creating.{created_follows, root_created_follows}
use Rattle.queues.proofs.Finishing.{finished_follows}
use Rattle.queues.proofs.Spawning.{spawned_follows}
use Rattle.queues.proofs.laws.calls_follow.Goals as goal

pub returns-clause-start : goal.returns-clause-start
returns-clause-start c = new_follows

pub returns-clause-create_root : goal.returns-clause-create_root
returns-clause-create_root c s state lawful follows first untouched is = root_created_follows s lawful state follows first untouched is

pub returns-clause-create : goal.returns-clause-create
returns-clause-create c s state lawful follows number frame live next = created_follows s lawful state follows number frame live next

pub returns-clause-spawn : goal.returns-clause-spawn
returns-clause-spawn c s state lawful follows number parent live child gives free spawn =
    spawned_follows s lawful state follows number child parent gives live free spawn

pub returns-clause-deed : goal.returns-clause-deed
returns-clause-deed c s state lawful follows number frame live does next still other =
    used_follows s lawful state follows number frame does live next (no_making does still other)

pub returns-clause-lend : goal.returns-clause-lend
returns-clause-lend c s state number frame ends follows live = lent_follows s state follows number frame ends live

pub returns-clause-back : goal.returns-clause-back
returns-clause-back c s state lawful follows number frame live deeds ends = back_follows s lawful state frame deeds ends follows number live

pub returns-clause-finish : goal.returns-clause-finish
returns-clause-finish c s state number follows alone = finished_follows s state follows number alone

pub returns-clause-take_rest : goal.returns-clause-take_rest
returns-clause-take_rest c s state queue follows = rest_follows s state follows queue
