use Rattle.std.proofs.Common.{◌≡◌, None, Some, inr, refl, sym, subst, IsSome}
use Rattle.swan_model.specs.declared.rights.Mode.TheVariants.{Pop}
use Rattle.swan_model.specs.declared.script.Deed.TheVariants as deed
use Rattle.swan_model.specs.QueueFollows.{IsNextAbout, next_item, next_queue_deed}
use Rattle.swan_model.specs.Versions.{IsSettled}
use Rattle.queues.specs.Asks.{IsOnTurn, MayJoin, MayUse, OnActive, OnNext}
use Rattle.queues.specs.Tells.{FindsItem, IsCause, OnQueue}
use Rattle.task_frames.specs.Records.{HasOneFailed, HasRoomForOne, IsLiveChild, IsOldestChild, LiveFrame, live_at}
use Rattle.task_frames.proofs.AsGiven.{one-failed-given, some-given}
use Rattle.task_frames.proofs.Goings.{live-here}
use Rattle.task_frames.proofs.AtQueues.{dry-ends, dry-join, dry-kept, dry-over, dry-turn, finds-one, none-last, pop-may, state-kept, turn, waits}
use Rattle.task_frames.proofs.Firsts.{waits-oldest}
use Rattle.task_frames.specs.Resumes.{to_pop}
use Rattle.task_frames.proofs.Given.{over}
use Rattle.task_frames.proofs.Tried.{left-over, room-so, settled-so}
use Rattle.task_frames.proofs.kept.Kept.pop_none.Goals as goal

pub returns-in-Some-clause-step : goal.returns-in-Some-clause-step
returns-in-Some-clause-step g c =
    let has = c.requires.has in
    waits-oldest g.B.Body _ _ has _ c.asks.result c.in-Some.child refl c.asks.ensures
    (over (λ k n. IsOldestChild k.live n c.in-Some.child) _ _ _ _ (sym c.self.view_is) (sym c.number-number.ensures) c.in-Some.ensures.oldest)
    (inr (none-last g.B.Body _ _ _ has c.args.queue c.requires.at c.requires.none))

pub pop-requires-clause-may : goal.pop-requires-clause-may
pop-requires-clause-may g c =
    over (λ k n. MayUse k.state n c.args.queue Pop) _ _ _ _ c.self.view_is c.number-number.ensures (pop-may g.B.Body _ _ _ c.requires.has c.args.queue c.requires.at).0

pub pop-requires-clause-turn : goal.pop-requires-clause-turn
pop-requires-clause-turn g c = over (λ k n. IsOnTurn k.name k.state n) _ _ _ _ c.self.view_is c.number-number.ensures (turn g.B.Body _ _ _ c.requires.has c.requires.begun)

pub pop-requires-clause-next : goal.pop-requires-clause-next
pop-requires-clause-next g c =
    over (λ k n. OnNext k.name k.state n (λ s own. IsNextAbout deed.Pop s k.state own c.args.queue)) _ _ _ _ c.self.view_is c.number-number.ensures
    (pop-may g.B.Body _ _ _ c.requires.has c.args.queue c.requires.at).1

pub unreachable-requires : goal.unreachable-requires
unreachable-requires g c =
    finds-one g.B.Body _ _ _ c.requires.has c.args.queue c.requires.at
    (λ own live s named law origin made. (over (λ k n. OnActive k.state n (λ own. OnQueue k.name k.state c.args.queue (λ s origin. (next_item s own origin ≡ Some c.in-Item.field-0) × FindsItem own s origin))) _ _ _ _
    (sym c.self.view_is) (sym c.number-number.ensures) c.in-Item.ensures.answer own live s named law origin made).1)
    c.requires.none

pub book-requires-clause-room : goal.book-requires-clause-room
book-requires-clause-room g c κs within =
    over (λ k n. (f : LiveFrame) → live_at k.live n ≡ Some f → HasRoomForOne k.live f.parent) _ _ _ _ c.self.view_is c.number-number.ensures (room-so g.B.Body _ _ c.requires.has)

pub leave-requires-clause-live : goal.leave-requires-clause-live
leave-requires-clause-live g c κs within =
    let has = c.requires.has in
    let one = over (λ k n. (f : LiveFrame) → live_at k.live n ≡ Some f → HasOneFailed k.live c.book.new.self.live f.parent) _ _ _ _ (sym c.self.view_is) (sym c.number-number.ensures) c.in_ok-book-in-Empty.ensures.live has.of.frame has.of.live in
    subst (λ n. IsSome (live_at c.book.new.self.live n)) (sym c.number-number.ensures)
    (some-given c.args.self.now.live c.book.new.self.live c.args.mid.task.number (one-failed-given c.args.self.now.live c.book.new.self.live has.of.frame.parent one c.args.mid.task.number) (live-here g.B.Body _ _ has))

pub leave-requires-clause-settled : goal.leave-requires-clause-settled
leave-requires-clause-settled g c κs within =
    let alone = over (λ k n. (m : _) → ¬ IsLiveChild k.live n m) _ _ _ _ (sym c.self.view_is) (sym c.number-number.ensures) c.in_default.ensures.none in
    let moved = dry-kept _ c.args.self.now c.book.new.self _ _ _ _ _ _ c.self.view_is c.number-number.ensures c.in-Empty.ensures.same.0 c.in-Empty.ensures.same.1 c.in-Empty.ensures.after c.in_ok-book-in-Empty.ensures.booked in
    over (λ k n. IsSettled k.versions n) _ _ _ _ moved c.number-number.ensures (settled-so g.B.Body _ _ c.requires.has c.requires.begun alone)

pub leave-requires-clause-may : goal.leave-requires-clause-may
leave-requires-clause-may g c κs within =
    let alone = over (λ k n. (m : _) → ¬ IsLiveChild k.live n m) _ _ _ _ (sym c.self.view_is) (sym c.number-number.ensures) c.in_default.ensures.none in
    let moved = dry-kept _ c.args.self.now c.book.new.self _ _ _ _ _ _ c.self.view_is c.number-number.ensures c.in-Empty.ensures.same.0 c.in-Empty.ensures.same.1 c.in-Empty.ensures.after c.in_ok-book-in-Empty.ensures.booked in
    over (λ k n. MayJoin k.state n) _ _ _ _ moved c.number-number.ensures (dry-join g.B.Body _ _ _ c.requires.has c.args.queue c.requires.at c.requires.begun alone)

pub leave-requires-clause-turn : goal.leave-requires-clause-turn
leave-requires-clause-turn g c κs within =
    let alone = over (λ k n. (m : _) → ¬ IsLiveChild k.live n m) _ _ _ _ (sym c.self.view_is) (sym c.number-number.ensures) c.in_default.ensures.none in
    let moved = dry-kept _ c.args.self.now c.book.new.self _ _ _ _ _ _ c.self.view_is c.number-number.ensures c.in-Empty.ensures.same.0 c.in-Empty.ensures.same.1 c.in-Empty.ensures.after c.in_ok-book-in-Empty.ensures.booked in
    over (λ k n. IsOnTurn k.name k.state n) _ _ _ _ moved c.number-number.ensures (dry-turn g.B.Body _ _ _ c.requires.has c.args.queue c.requires.at c.requires.begun alone)

pub leave-requires-clause-over : goal.leave-requires-clause-over
leave-requires-clause-over g c κs within =
    let alone = over (λ k n. (m : _) → ¬ IsLiveChild k.live n m) _ _ _ _ (sym c.self.view_is) (sym c.number-number.ensures) c.in_default.ensures.none in
    let moved = dry-kept _ c.args.self.now c.book.new.self _ _ _ _ _ _ c.self.view_is c.number-number.ensures c.in-Empty.ensures.same.0 c.in-Empty.ensures.same.1 c.in-Empty.ensures.after c.in_ok-book-in-Empty.ensures.booked in
    over (λ k n. OnNext k.name k.state n (λ s y. next_queue_deed s y.path y.deeds ≡ None)) _ _ _ _ moved c.number-number.ensures
    (dry-over g.B.Body _ _ _ c.requires.has c.args.queue c.requires.at c.requires.begun alone c.requires.none)

pub returns-in_ok-leave-in-Empty-clause-step : goal.returns-in_ok-leave-in-Empty-clause-step
returns-in_ok-leave-in-Empty-clause-step g c =
    let has = c.requires.has in
    let alone = over (λ k n. (m : _) → ¬ IsLiveChild k.live n m) _ _ _ _ (sym c.self.view_is) (sym c.number-number.ensures) c.in_default.ensures.none in
    let moved = dry-kept _ c.args.self.now c.book.new.self _ _ _ _ _ _ c.self.view_is c.number-number.ensures c.in-Empty.ensures.same.0 c.in-Empty.ensures.same.1 c.in-Empty.ensures.after c.in_ok-book-in-Empty.ensures.booked in
    let one = over (λ k n. (f : LiveFrame) → live_at k.live n ≡ Some f → HasOneFailed k.live c.book.new.self.live f.parent) _ _ _ _ (sym c.self.view_is) (sym c.number-number.ensures) c.in_ok-book-in-Empty.ensures.live has.of.frame has.of.live in
    let so = left-over _ _ c.leave.new.self _ _ moved c.number-number.ensures c.in_ok-leave-in-Empty.ensures.name c.in_ok-leave-in-Empty.ensures.run c.in_ok-leave-in-Empty.ensures.after c.in_ok-leave-in-Empty.ensures.live in
    dry-ends g.B.Body _ _ _ has c.args.queue c.requires.at c.requires.begun alone c.requires.none c.leave.new.self _ c.book.new.self.live one so.1 so.0 refl c.into_path-path.ensures c.at-at.ensures

pub returns-in-NotYet-clause-step : goal.returns-in-NotYet-clause-step
returns-in-NotYet-clause-step g c =
    waits g.B.Body _ _ _ c.requires.has _ c.asks-in-NotYet.result c.args.queue c.in-NotYet.wait
    (state-kept _ _ _ _ _ c.self.view_is c.in-NotYet.ensures.same.0 c.in-NotYet.ensures.same.1 c.in-NotYet.ensures.after) c.asks-in-NotYet.ensures (to_pop _ _ _ refl c.requires.at)
    (over (λ k n. OnActive k.state n (λ b. IsCause k.name k.state b c.args.queue c.in-NotYet.wait)) _ _ _ _ (sym c.self.view_is) (sym c.number-number.ensures) c.in-NotYet.ensures.answer)
