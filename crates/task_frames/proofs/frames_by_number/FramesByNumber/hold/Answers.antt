use Rattle.std.proofs.Common.{is_some, IsSome, sym, ap, subst, ◌∙◌}
use Rattle.std.proofs.lemmas.Bool.{false≢true}
use Rattle.task_frames.specs.Records.{NumberedFrames, live_at, with_newest}
use Rattle.task_frames.proofs.Lives.{newest-live, older-live}
use Rattle.task_frames.proofs.frames_by_number.FramesByNumber.hold.Goals as goal

pub unreachable-requires : goal.unreachable-requires
unreachable-requires c =
    let own = c.self.inside in
    let live = subst (λ (fs : NumberedFrames). IsSome (live_at fs c.args.number)) (sym c.self.view_is) c.requires.live in
    let here = subst (λ n. IsSome (live_at (with_newest own.newest_number own.newest own.older.entries) n)) c.if-number-self.true live in
    false≢true (sym (ap is_some c.in-None.is) ∙ newest-live own.newest_number own.newest own.older.entries c.self.invariant here)

pub hold-requires-else-number-self : goal.hold-requires-else-number-self
hold-requires-else-number-self c =
    let own = c.self.inside in
    let live = subst (λ (fs : NumberedFrames). IsSome (live_at fs c.args.number)) (sym c.self.view_is) c.requires.live in
    record { live = older-live own.newest_number own.newest own.older.entries c.args.number c.if-number-self.false live }
