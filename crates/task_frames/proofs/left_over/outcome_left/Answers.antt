use Rattle.std.proofs.Common.{ap, ◌∙◌}
use Rattle.task_frames.specs.Cores.{KeptView}
use Rattle.task_frames.proofs.left_over.outcome_left.Goals as goal

pub rests_left-requires-clause-kept : goal.rests_left-requires-clause-kept
rests_left-requires-clause-kept g c κs within =
    (c.args.kept.now, c.requires.core, c.requires.over, ap (λ (k : KeptView). k.name) c.kept.view_is, ap (λ (k : KeptView). k.state) c.kept.view_is)

pub in_serial_order-faults-requires-clause-kept : goal.in_serial_order-faults-requires-clause-kept
in_serial_order-faults-requires-clause-kept g c κs within =
    (c.args.kept.now, c.requires.core, c.requires.over, ap (λ faults. faults.items) c.replace-faults.ensures.value ∙ ap (λ (k : KeptView). k.faults) c.kept.view_is)
