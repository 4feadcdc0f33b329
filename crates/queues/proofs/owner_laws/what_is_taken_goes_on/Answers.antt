use Rattle.queues.proofs.MatchMade.{taken_create, taken_root}
use Rattle.queues.proofs.MatchParts.{taken_left_out}
use Rattle.queues.proofs.MatchSpawn.{taken_spawn, taken_spawn_other}
use Rattle.queues.proofs.TakenOn.{taken_at_point, taken_back, taken_back_aside, taken_deed, taken_end, taken_end_aside, taken_lend, taken_made_aside, taken_pop, taken_rest, taken_root_aside}
use Rattle.queues.proofs.owner_laws.what_is_taken_goes_on.Goals as goal

pub returns-clause-point : goal.returns-clause-point
returns-clause-point c s state number queue end chunks at has n frame live index is = taken_at_point s state number queue end at n frame live chunks has index is.owns is.pops is.first

pub returns-clause-create_root : goal.returns-clause-create_root
returns-clause-create_root c s state items lawful tree untouched =
    taken_root s lawful state untouched.root items untouched.live (tree.root untouched.root untouched.live).0 untouched.deeds

pub returns-clause-create : goal.returns-clause-create
returns-clause-create c s state n frame items lawful live next = taken_create s lawful state n frame items live next

pub returns-clause-root_aside : goal.returns-clause-root_aside
returns-clause-root_aside c s state number queue end chunks at has untouched old = taken_root_aside s state number queue end at chunks has untouched.root untouched.live old

pub returns-clause-made_aside : goal.returns-clause-made_aside
returns-clause-made_aside c s state number queue end chunks at has n frame live lawful next old = taken_made_aside s state number queue end at n frame live chunks has lawful next old

pub returns-clause-spawn : goal.returns-clause-spawn
returns-clause-spawn c s state number queue end chunks at has n frame live child gives lawful owners follows tree made new may spawn with_queue = taken_spawn s lawful state follows tree number queue made n child frame gives live new may spawn end chunks owners with_queue at has

pub returns-clause-spawn_aside : goal.returns-clause-spawn_aside
returns-clause-spawn_aside c s state number queue end chunks at has n frame live child gives lawful owners follows tree made new may spawn lacks = taken_spawn_other s lawful state follows tree number queue made n child frame gives live new may spawn end chunks owners lacks at has

pub returns-clause-pop : goal.returns-clause-pop
returns-clause-pop c s state number queue end chunks at has n frame live index lawful owners is next finds = taken_pop s state number queue end at n frame live chunks has index is.owns is.pops is.first lawful owners next finds

pub returns-clause-deed : goal.returns-clause-deed
returns-clause-deed c s state number queue end chunks at has n frame live does lawful next quiet none = taken_deed s state number queue end at n frame live chunks has lawful does next quiet none

pub returns-clause-lend : goal.returns-clause-lend
returns-clause-lend c s state number queue end chunks at has n frame live ends = taken_lend s state number queue end at n frame live chunks has ends

pub returns-clause-back : goal.returns-clause-back
returns-clause-back c s state number queue end chunks at has n frame live index deeds owners is = taken_back s state number queue end at n frame live chunks has index is.owns is.pops is.first owners deeds

pub returns-clause-back_aside : goal.returns-clause-back_aside
returns-clause-back_aside c s state number queue end chunks at has n frame live deeds lawful are none = taken_back_aside s state number queue end at n frame live chunks has lawful deeds are none

pub returns-clause-finish : goal.returns-clause-finish
returns-clause-finish c s state number queue end chunks at has n frame live lawful owners over some = taken_end s state number queue end at n frame live chunks has lawful owners over some

pub returns-clause-finish_aside : goal.returns-clause-finish_aside
returns-clause-finish_aside c s state number queue end chunks at has n frame live owners lacks = taken_end_aside s state number queue end at n frame live chunks has owners lacks

pub returns-clause-take_rest : goal.returns-clause-take_rest
returns-clause-take_rest c s state number queue end chunks at has emptied = taken_rest s state number queue end at chunks has emptied

pub returns-clause-unowned : goal.returns-clause-unowned
returns-clause-unowned c s state number queue end at before after chunk none has = taken_left_out s state number queue end before after chunk at none has
