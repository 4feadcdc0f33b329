use Rattle.std.proofs.Common.{IsSome, refl, sym, subst}
use Rattle.task_frames.specs.Records.{NumberedFrames, IsOnlyLive, come_to, live_at}
use Rattle.std.specs.Option.{option_map}
use Rattle.task_frames.proofs.Lives.{come-keeps, come-only}
use Rattle.task_frames.proofs.live_record.LiveRecord.come_to.Goals as goal

pub come_to-requires : goal.come_to-requires
come_to-requires c = record { live = subst (λ (fs : NumberedFrames). IsSome (live_at fs c.args.number)) (sym c.self.view_is) c.requires.live }

pub invariant_of-self : goal.invariant_of-self
invariant_of-self c = come-keeps _ _ _ _ _ _ refl c.self.invariant c.come_to.ensures

pub returns-clause-only : goal.returns-clause-only
returns-clause-only c =
    subst (λ (fs : NumberedFrames). IsOnlyLive fs c.come_to.new.self c.args.number (option_map (come_to c.args.done) (live_at fs c.args.number))) c.self.view_is
    (come-only c.self.inside.frames c.come_to.new.self c.args.number c.args.done _ refl c.come_to.ensures)
