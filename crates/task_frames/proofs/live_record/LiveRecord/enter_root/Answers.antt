use Rattle.std.proofs.Common.{◌∙◌}
use Rattle.task_frames.proofs.Lives.{root-keeps}
use Rattle.task_frames.proofs.live_record.LiveRecord.enter_root.Goals as goal

pub invariant_of-self : goal.invariant_of-self
invariant_of-self c =
    root-keeps c.self.inside.frames c.enter.new.self c.self.inside.children c.args.number c.args.frame c.enter.result (c.self.view_is ∙ c.requires.empty) c.self.invariant c.requires.root
    c.enter.ensures.ok c.enter.ensures.err
