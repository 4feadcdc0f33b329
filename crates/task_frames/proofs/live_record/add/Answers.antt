use Rattle.task_frames.proofs.Lives.{entered_keeps}
use Rattle.task_frames.proofs.live_record.add.Goals as goal

pub returns-clause-kept : goal.returns-clause-kept
returns-clause-kept c =
    entered_keeps c.args.frames.now c.enter.new.self c.args.children.now c.args.number c.requires.kept c.args.parent c.insert.new.self c.args.frame c.requires.free c.in_ok-enter.ensures.ok
    c.requires.child c.in_ok-insert.ensures.with
