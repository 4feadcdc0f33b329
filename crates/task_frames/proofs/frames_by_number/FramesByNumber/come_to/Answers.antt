use Rattle.std.proofs.Common.{is_some, IsSome, refl, sym, ap, subst, ◌∙◌}
use Rattle.std.proofs.lemmas.Bool.{false≢true}
use Rattle.task_frames.specs.Records.{NumberedFrames, live_at, with_newest}
use Rattle.task_frames.proofs.Lives.{come-only, newest-live, older-live}
use Rattle.task_frames.proofs.frames_by_number.FramesByNumber.come_to.Goals as goal

pub unreachable-requires : goal.unreachable-requires
unreachable-requires c =
    let own = c.self.inside in
    let live = subst (λ (fs : NumberedFrames). IsSome (live_at fs c.args.number)) (sym c.self.view_is) c.requires.live in
    let here = subst (λ n. IsSome (live_at (with_newest own.newest_number own.newest own.older.entries) n)) c.if-number-self.true live in
    false≢true (sym (ap is_some c.in_default.is) ∙ newest-live own.newest_number own.newest own.older.entries c.self.invariant here)

pub come_to-requires-else-number-self : goal.come_to-requires-else-number-self
come_to-requires-else-number-self c =
    let own = c.self.inside in
    let live = subst (λ (fs : NumberedFrames). IsSome (live_at fs c.args.number)) (sym c.self.view_is) c.requires.live in
    record { live = older-live own.newest_number own.newest own.older.entries c.args.number c.if-number-self.false live }

pub invariant_of-self-else-number-self : goal.invariant_of-self-else-number-self
invariant_of-self-else-number-self c =
    let own = c.self.inside in
    let only = come-only own.older.entries c.come_to-else-number-self.new.older.entries c.args.number c.args.done _ refl c.come_to-else-number-self.ensures in
    only.others own.newest_number (λ same. c.if-number-self.false (sym same)) ∙ c.self.invariant
