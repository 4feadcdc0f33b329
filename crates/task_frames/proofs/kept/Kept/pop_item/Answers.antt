use Rattle.std.proofs.Common.{refl, sym, subst, ◌<◌, ◌≡◌, Some, IsSome}
use Rattle.swan_model.specs.declared.rights.Mode.TheVariants.{Pop}
use Rattle.swan_model.specs.declared.script.Deed.TheVariants as deed
use Rattle.swan_model.specs.QueueFollows.{IsNextAbout, next_item}
use Rattle.swan_model.specs.Values.{COUNT_MOST}
use Rattle.queues.specs.Asks.{IsOnTurn, MayUse, OnActive, OnNext}
use Rattle.queues.specs.Tells.{FindsItem, FindsNone, IsCause, OnQueue}
use Rattle.task_frames.specs.Records.{live_at}
use Rattle.task_frames.proofs.Goings.{live-here}
use Rattle.task_frames.proofs.Asked.{noted-so, steps-few}
use Rattle.task_frames.proofs.AtQueues.{deed-kept, finds-one, item-steps, pop-may, state-kept, turn, waits}
use Rattle.task_frames.specs.Resumes.{to_pop}
use Rattle.task_frames.proofs.Given.{over}
use Rattle.task_frames.proofs.kept.Kept.pop_item.Goals as goal

pub pop-requires-clause-may : goal.pop-requires-clause-may
pop-requires-clause-may g c =
    over (λ k n. MayUse k.state n c.args.queue Pop) _ _ _ _ c.self.view_is c.number-number.ensures (pop-may g.B.Body _ _ _ c.requires.has c.args.queue c.requires.at).0

pub pop-requires-clause-turn : goal.pop-requires-clause-turn
pop-requires-clause-turn g c = over (λ k n. IsOnTurn k.name k.state n) _ _ _ _ c.self.view_is c.number-number.ensures (turn g.B.Body _ _ _ c.requires.has c.requires.begun)

pub pop-requires-clause-next : goal.pop-requires-clause-next
pop-requires-clause-next g c =
    over (λ k n. OnNext k.name k.state n (λ s own. IsNextAbout deed.Pop s k.state own c.args.queue)) _ _ _ _ c.self.view_is c.number-number.ensures
    (pop-may g.B.Body _ _ _ c.requires.has c.args.queue c.requires.at).1

pub note_step-requires-clause-few : goal.note_step-requires-clause-few
note_step-requires-clause-few g c κs within = subst (λ k. k < COUNT_MOST) (sym c.done.ensures) (steps-few g.B.Body _ _ _ c.requires.has)

pub note_step-requires-clause-live : goal.note_step-requires-clause-live
note_step-requires-clause-live g c κs within =
    over (λ k n. IsSome (live_at k.live n)) _ _ _ _ c.self.view_is c.number-number.ensures (live-here g.B.Body _ _ c.requires.has)

pub is_told-frame-requires-after_bounds : goal.is_told-frame-requires-after_bounds
is_told-frame-requires-after_bounds g c κs within = steps-few g.B.Body _ _ _ c.requires.has

pub unreachable-requires : goal.unreachable-requires
unreachable-requires g c =
    finds-one g.B.Body _ _ _ c.requires.has c.args.queue c.requires.at c.requires.some
    (over (λ k n. OnActive k.state n (λ own. OnQueue k.name k.state c.args.queue (FindsNone own))) _ _ _ _ (sym c.self.view_is) (sym c.number-number.ensures) c.in-Empty.ensures.answer)

pub returns-in-Item-clause-step : goal.returns-in-Item-clause-step
returns-in-Item-clause-step g c =
    let same = deed-kept _ _ _ _ _ _ _ c.self.view_is c.number-number.ensures c.in-Item.ensures.same.0 c.in-Item.ensures.same.1 c.in-Item.ensures.after in
    let noted = noted-so _ _ _ _ _ _ _ same c.number-number.ensures c.done.ensures c.note_step.ensures.same c.note_step.ensures.live in
    item-steps g.B.Body _ _ _ c.requires.has c.args.queue c.requires.at c.requires.begun c.in-Item.item
    (over (λ k n. OnActive k.state n (λ own. OnQueue k.name k.state c.args.queue (λ s origin. (next_item s own origin ≡ Some c.in-Item.item) × FindsItem own s origin))) _ _ _ _
    (sym c.self.view_is) (sym c.number-number.ensures) c.in-Item.ensures.answer)
    c.note_step.new.self c.is_told-frame.result c.is_told-frame.ensures noted.1 noted.0

pub returns-in-NotYet-clause-step : goal.returns-in-NotYet-clause-step
returns-in-NotYet-clause-step g c =
    waits g.B.Body _ _ _ c.requires.has _ c.asks.result c.args.queue c.in-NotYet.wait
    (state-kept _ _ _ _ _ c.self.view_is c.in-NotYet.ensures.same.0 c.in-NotYet.ensures.same.1 c.in-NotYet.ensures.after) c.asks.ensures (to_pop _ _ _ refl c.requires.at)
    (over (λ k n. OnActive k.state n (λ b. IsCause k.name k.state b c.args.queue c.in-NotYet.wait)) _ _ _ _ (sym c.self.view_is) (sym c.number-number.ensures) c.in-NotYet.ensures.answer)
