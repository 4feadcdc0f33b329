use Rattle.std.proofs.Common.{IsSome, refl, sym, subst}
use Rattle.task_frames.specs.Records.{NumberedFrames, live_at}
use Rattle.task_frames.proofs.Lives.{held-keeps}
use Rattle.task_frames.proofs.live_record.LiveRecord.hold.Goals as goal

pub hold-requires : goal.hold-requires
hold-requires c = record { live = subst (λ (fs : NumberedFrames). IsSome (live_at fs c.args.number)) (sym c.self.view_is) c.requires.live }

pub invariant_of-self : goal.invariant_of-self
invariant_of-self c =
    held-keeps c.self.inside.frames c.hold.new.self c.self.inside.children c.args.number c.args.holding _ c.hold.result refl c.self.invariant c.hold.ensures.ok c.hold.ensures.err
