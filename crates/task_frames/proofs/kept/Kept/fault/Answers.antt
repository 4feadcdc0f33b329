use Rattle.std.proofs.Common.{◌≡◌, None, Some, inr, refl, sym, subst, IsSome}
use Rattle.queues.specs.Asks.{IsOnTurn, MayJoin, OnNext}
use Rattle.swan_model.specs.declared.script.Deed.TheVariants as deed
use Rattle.swan_model.specs.QueueFollows.{next_queue_deed}
use Rattle.swan_model.specs.Versions.{IsSettled}
use Rattle.task_frames.specs.Records.{HasOneFailed, HasRoomForOne, IsLiveChild, IsOldestChild, LiveFrame, live_at}
use Rattle.task_frames.proofs.AsGiven.{one-failed-given, some-given}
use Rattle.task_frames.proofs.Goings.{live-here}
use Rattle.task_frames.proofs.Endings.{ends-faulty}
use Rattle.task_frames.proofs.Firsts.{waits-oldest}
use Rattle.task_frames.proofs.Given.{over}
use Rattle.task_frames.proofs.Tried.{fault-last, join-so, left-over, on-turn-so, over-so, room-so, settled-so}
use Rattle.task_frames.proofs.kept.Kept.fault.Goals as goal

pub returns-in-Some-clause-step : goal.returns-in-Some-clause-step
returns-in-Some-clause-step g c =
    let has = c.requires.has in
    waits-oldest g.B.Body _ _ has _ c.args.frame c.in-Some.child refl refl
    (over (λ k n. IsOldestChild k.live n c.in-Some.child) _ _ _ _ (sym c.self.view_is) (sym c.number-number.ensures) c.in-Some.ensures.oldest)
    (inr (fault-last g.B.Body _ _ has c.args.at c.args.kind c.requires.faults))

pub book-requires-clause-room : goal.book-requires-clause-room
book-requires-clause-room g c κs within =
    subst (λ n. (f : LiveFrame) → live_at c.args.self.now.live n ≡ Some f → HasRoomForOne c.args.self.now.live f.parent) (sym c.number-number.ensures) (room-so g.B.Body _ _ c.requires.has)

pub leave-requires-clause-live : goal.leave-requires-clause-live
leave-requires-clause-live g c κs within =
    let has = c.requires.has in
    let one = subst (λ n. (f : LiveFrame) → live_at c.args.self.now.live n ≡ Some f → HasOneFailed c.args.self.now.live c.book.new.self.live f.parent) c.number-number.ensures c.in_ok-book.ensures.live has.of.frame has.of.live in
    subst (λ n. IsSome (live_at c.book.new.self.live n)) (sym c.number-number.ensures)
    (some-given c.args.self.now.live c.book.new.self.live c.args.frame.task.number (one-failed-given c.args.self.now.live c.book.new.self.live has.of.frame.parent one c.args.frame.task.number) (live-here g.B.Body _ _ has))

pub leave-requires-clause-settled : goal.leave-requires-clause-settled
leave-requires-clause-settled g c κs within =
    let moved = c.in_ok-book.ensures.booked in
    over (λ k n. IsSettled k.versions n) _ _ _ _ moved c.number-number.ensures (settled-so g.B.Body _ _ c.requires.has c.requires.begun (over (λ k n. (m : _) → ¬ IsLiveChild k.live n m) _ _ _ _ (sym c.self.view_is) (sym c.number-number.ensures) c.in_default.ensures.none))

pub leave-requires-clause-may : goal.leave-requires-clause-may
leave-requires-clause-may g c κs within =
    let moved = c.in_ok-book.ensures.booked in
    over (λ k n. MayJoin k.state n) _ _ _ _ moved c.number-number.ensures (join-so g.B.Body _ _ c.requires.has c.requires.begun (over (λ k n. (m : _) → ¬ IsLiveChild k.live n m) _ _ _ _ (sym c.self.view_is) (sym c.number-number.ensures) c.in_default.ensures.none))

pub leave-requires-clause-turn : goal.leave-requires-clause-turn
leave-requires-clause-turn g c κs within =
    let moved = c.in_ok-book.ensures.booked in
    over (λ k n. IsOnTurn k.name k.state n) _ _ _ _ moved c.number-number.ensures (on-turn-so g.B.Body _ _ c.requires.has c.requires.begun (over (λ k n. (m : _) → ¬ IsLiveChild k.live n m) _ _ _ _ (sym c.self.view_is) (sym c.number-number.ensures) c.in_default.ensures.none))

pub leave-requires-clause-over : goal.leave-requires-clause-over
leave-requires-clause-over g c κs within =
    let has = c.requires.has in
    let moved = c.in_ok-book.ensures.booked in
    over (λ k n. OnNext k.name k.state n (λ s x. next_queue_deed s x.path x.deeds ≡ None)) _ _ _ _ moved c.number-number.ensures
    (over-so g.B.Body _ _ has c.requires.begun (over (λ k n. (m : _) → ¬ IsLiveChild k.live n m) _ _ _ _ (sym c.self.view_is) (sym c.number-number.ensures) c.in_default.ensures.none) deed.Quiet (c.requires.faults has.is.alone.top has.is.alone.stands).0.deed refl (fault-last g.B.Body _ _ has c.args.at c.args.kind c.requires.faults))

pub returns-clause-step : goal.returns-clause-step
returns-clause-step g c =
    let has = c.requires.has in
    let alone = (over (λ k n. (m : _) → ¬ IsLiveChild k.live n m) _ _ _ _ (sym c.self.view_is) (sym c.number-number.ensures) c.in_default.ensures.none) in
    let fault = c.requires.faults has.is.alone.top has.is.alone.stands in
    let last = fault-last g.B.Body _ _ has c.args.at c.args.kind c.requires.faults in
    let moved = c.in_ok-book.ensures.booked in
    let one = subst (λ n. (f : LiveFrame) → live_at c.args.self.now.live n ≡ Some f → HasOneFailed c.args.self.now.live c.book.new.self.live f.parent) c.number-number.ensures c.in_ok-book.ensures.live has.of.frame has.of.live in
    let so = left-over _ _ c.leave.new.self _ _ moved c.number-number.ensures c.in_ok-leave.ensures.name c.in_ok-leave.ensures.run c.in_ok-leave.ensures.after c.in_ok-leave.ensures.live in
    ends-faulty g.B.Body _ _ has c.requires.begun last c.leave.new.self (settled-so g.B.Body _ _ has c.requires.begun alone) (join-so g.B.Body _ _ has c.requires.begun alone) c.book.new.self.live one so.1 _ so.0
    fault.0.deed fault.0.effect c.into_path-path.ensures fault.1
