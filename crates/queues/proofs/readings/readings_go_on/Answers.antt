use Rattle.std.proofs.Common.{ap, ◌∙◌, Some}
use Rattle.queues.proofs.Rereading.{deed_fits, finish_fits, last_pop-fits, lent_fits, objects_fit, others_fit, rest_fits, root_queue_fits}
use Rattle.queues.proofs.ReadingStart.{start_fits}
use Rattle.queues.proofs.ReadingMakes.{back_fits, made_fits}
use Rattle.queues.proofs.ReadingsAgree.{agree_fits}
use Rattle.queues.proofs.ReadingSpawns.{spawned_fits}
use Rattle.queues.proofs.readings.readings_go_on.Goals as goal

pub returns-clause-start : goal.returns-clause-start
returns-clause-start c s objects lawful = start_fits s lawful objects

pub returns-clause-create_root : goal.returns-clause-create_root
returns-clause-create_root c s state r lawful follows fits = root_queue_fits s state r fits

pub returns-clause-create : goal.returns-clause-create
returns-clause-create c s state r lawful follows fits number progress does known next frame live is =
    made_fits s lawful state r fits progress frame number live known (next ∙ ap Some is)

pub returns-clause-spawn : goal.returns-clause-spawn
returns-clause-spawn c s state r lawful follows fits number progress does known next parent live child all gives is free unread =
    spawned_fits s lawful state follows r fits number child parent progress all gives live known free unread (next ∙ ap Some is)

pub returns-clause-deed : goal.returns-clause-deed
returns-clause-deed c s state r lawful follows fits number progress does known next queues still other left =
    deed_fits s lawful state r fits number progress known does next queues still left

pub returns-clause-others : goal.returns-clause-others
returns-clause-others c s state r lawful follows fits number progress does known next objects quiet left =
    others_fit s lawful state r fits number progress known does objects next quiet left

pub returns-clause-objects : goal.returns-clause-objects
returns-clause-objects c s state r lawful follows fits objects = objects_fit s state r fits objects

pub returns-clause-agree : goal.returns-clause-agree
returns-clause-agree c s state r lawful follows fits other differs = agree_fits s lawful state r other fits differs

pub returns-clause-finish : goal.returns-clause-finish
returns-clause-finish c s state r lawful follows fits number progress does known next quiet last =
    finish_fits s lawful state r fits number progress known does next quiet last

pub returns-clause-last_pop : goal.returns-clause-last_pop
returns-clause-last_pop c s state r lawful follows fits number progress does known next queue is last =
    last_pop-fits s lawful state r fits number progress known queue (next ∙ ap Some is) last

pub returns-clause-lend : goal.returns-clause-lend
returns-clause-lend c s state r lawful follows fits frame ends = lent_fits s state r fits frame ends

pub returns-clause-back : goal.returns-clause-back
returns-clause-back c s state r lawful follows fits number deeds many frame progress live known ends fit =
    back_fits s lawful state r fits number deeds many frame progress live known ends fit

pub returns-clause-take_rest : goal.returns-clause-take_rest
returns-clause-take_rest c s state r lawful follows fits queue = rest_fits s state r fits queue
