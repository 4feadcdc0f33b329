use Rattle.std.proofs.Common.{◌≡◌, None, inr, refl, sym, subst, IsSome}
use Rattle.queues.specs.Asks.{IsOnTurn, MayJoin, OnNext}
use Rattle.swan_model.specs.declared.script.Deed.TheVariants as deed
use Rattle.swan_model.specs.QueueFollows.{next_queue_deed}
use Rattle.swan_model.specs.Versions.{IsSettled}
use Rattle.task_frames.specs.Records.{IsLiveChild, IsOldestChild, live_at}
use Rattle.task_frames.proofs.Goings.{live-here}
use Rattle.task_frames.proofs.Endings.{ends-quietly}
use Rattle.task_frames.proofs.Firsts.{waits-oldest}
use Rattle.task_frames.proofs.Given.{over}
use Rattle.task_frames.proofs.Tried.{finish-ends, finish-last, join-so, left-so, on-turn-so, over-so, settled-so}
use Rattle.task_frames.proofs.kept.Kept.finish.Goals as goal

pub returns-in-Some-clause-step : goal.returns-in-Some-clause-step
returns-in-Some-clause-step g c =
    let has = c.requires.has in
    waits-oldest g.B.Body _ _ has _ c.asks.result c.in-Some.child refl c.asks.ensures
    (over (λ k n. IsOldestChild k.live n c.in-Some.child) _ _ _ _ (sym c.self.view_is) (sym c.number-number.ensures) c.in-Some.ensures.oldest)
    (inr (finish-last g.B.Body _ _ has))

pub leave-requires-clause-live : goal.leave-requires-clause-live
leave-requires-clause-live g c κs within =
    subst (λ n. IsSome (live_at c.args.self.now.live n)) (sym c.number-number.ensures) (live-here g.B.Body _ _ c.requires.has)

pub leave-requires-clause-settled : goal.leave-requires-clause-settled
leave-requires-clause-settled g c κs within =
    subst (IsSettled c.args.self.now.versions) (sym c.number-number.ensures) (settled-so g.B.Body _ _ c.requires.has c.requires.begun (over (λ k n. (m : _) → ¬ IsLiveChild k.live n m) _ _ _ _ (sym c.self.view_is) (sym c.number-number.ensures) c.in_default.ensures.none))

pub leave-requires-clause-may : goal.leave-requires-clause-may
leave-requires-clause-may g c κs within =
    subst (MayJoin c.args.self.now.state) (sym c.number-number.ensures) (join-so g.B.Body _ _ c.requires.has c.requires.begun (over (λ k n. (m : _) → ¬ IsLiveChild k.live n m) _ _ _ _ (sym c.self.view_is) (sym c.number-number.ensures) c.in_default.ensures.none))

pub leave-requires-clause-turn : goal.leave-requires-clause-turn
leave-requires-clause-turn g c κs within =
    subst (IsOnTurn c.args.self.now.name c.args.self.now.state) (sym c.number-number.ensures) (on-turn-so g.B.Body _ _ c.requires.has c.requires.begun (over (λ k n. (m : _) → ¬ IsLiveChild k.live n m) _ _ _ _ (sym c.self.view_is) (sym c.number-number.ensures) c.in_default.ensures.none))

pub leave-requires-clause-over : goal.leave-requires-clause-over
leave-requires-clause-over g c κs within =
    subst (λ n. OnNext c.args.self.now.name c.args.self.now.state n (λ s x. next_queue_deed s x.path x.deeds ≡ None)) (sym c.number-number.ensures)
    (over-so g.B.Body _ _ c.requires.has c.requires.begun (over (λ k n. (m : _) → ¬ IsLiveChild k.live n m) _ _ _ _ (sym c.self.view_is) (sym c.number-number.ensures) c.in_default.ensures.none) deed.Quiet (finish-ends g.B.Body _ _ c.requires.has).deed refl (finish-last g.B.Body _ _ c.requires.has))

pub returns-clause-step : goal.returns-clause-step
returns-clause-step g c =
    let has = c.requires.has in
    let alone = (over (λ k n. (m : _) → ¬ IsLiveChild k.live n m) _ _ _ _ (sym c.self.view_is) (sym c.number-number.ensures) c.in_default.ensures.none) in
    let ends = finish-ends g.B.Body _ _ has in
    let so = left-so c.args.self.now c.leave.new.self _ _ c.number-number.ensures c.in_ok-leave.ensures.name c.in_ok-leave.ensures.run c.in_ok-leave.ensures.after c.in_ok-leave.ensures.live in
    ends-quietly g.B.Body _ _ has c.requires.begun (finish-last g.B.Body _ _ has) c.leave.new.self (settled-so g.B.Body _ _ has c.requires.begun alone) (join-so g.B.Body _ _ has c.requires.begun alone) so.1 so.0
    ends.deed ends.effect
