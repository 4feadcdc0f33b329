use Rattle.std.proofs.Common.{inl, inr}
use Rattle.swan_model.specs.QueueState.{active}
use Rattle.swan_model.proofs.ScriptSteps.{at_next}
use Rattle.swan_model.proofs.Elements.{option_cases}
use Rattle.queues.proofs.NextDeeds.{next_same, none_after, none_then, step_next, step_time}
use Rattle.queues.proofs.Rereading.{fit_of, live_left}
use Rattle.queues.proofs.readings.next_deeds_agree.Goals as goal

pub returns-clause-next : goal.returns-clause-next
returns-clause-next c s state r lawful follows fits number progress does known next frame live queues =
    next_same s frame progress (fit_of s lawful state r fits number progress known frame live) does next queues

pub returns-clause-last : goal.returns-clause-last
returns-clause-last c s state r lawful follows fits number progress does known next frame live quiet last =
    none_then s frame progress (fit_of s lawful state r fits number progress known frame live) does next last lawful quiet

pub returns-clause-after_last : goal.returns-clause-after_last
returns-clause-after_last c s state r lawful follows fits number progress does known next frame live queues last =
    none_after s frame progress (fit_of s lawful state r fits number progress known frame live) does next last

pub returns-clause-live : goal.returns-clause-live
returns-clause-live c s state r lawful follows fits number progress does known next =
    elim (option_cases (active state number)) [
      | inl none ↦ absurd (live_left s lawful state r fits number progress known (at_next s progress does next).left none)
      | inr found ↦ found
    ]

pub returns-clause-step : goal.returns-clause-step
returns-clause-step c s path k does left is deed = step_next s path k left does is deed

pub returns-clause-step_time : goal.returns-clause-step_time
returns-clause-step_time c s path k does left is deed = step_time s path k left does is deed
