use Rattle.std.proofs.Common.{is_some, sym, ap, ◌∙◌}
use Rattle.std.proofs.lemmas.Bool.{false≢true}
use Rattle.task_frames.specs.Records.{LiveFrame, NumberedFrames, live_at}
use Rattle.task_frames.proofs.Lives.{left_keeps}
use Rattle.task_frames.proofs.live_record.LiveRecord.leave.Goals as goal

pub unreachable-requires : goal.unreachable-requires
unreachable-requires c =
    let none = sym c.leave.ensures.frame ∙ c.in_default.is in
    false≢true (sym (ap is_some none) ∙ ap (λ (fs : NumberedFrames). is_some (live_at fs c.args.number)) c.self.view_is ∙ c.requires.live)

pub invariant_of-self : goal.invariant_of-self
invariant_of-self c =
    left_keeps c.self.inside.frames c.leave.new.self c.self.inside.children c.args.number c.self.invariant c.in-Some-parent.parent c.remove.new.self
    c.in-Some.frame (sym c.in-Some.ensures.frame) c.leave.ensures.gone (ap (λ (f : LiveFrame). f.parent) (sym c.frame.view_is) ∙ c.in-Some-parent.is) c.remove.ensures
