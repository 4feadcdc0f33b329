use Rattle.std.proofs.Common.{refl, sym, subst, ◌∙◌}
use Rattle.swan_model.specs.declared.script.Deed.TheVariants as deed
use Rattle.swan_model.specs.QueueFollows.{IsNextAbout}
use Rattle.queues.specs.Asks.{IsOnTurn, MayLook, OnActive, OnNext}
use Rattle.queues.specs.Tells.{IsCause}
use Rattle.task_frames.proofs.AtQueues.{look-may, pop-may, state-kept, turn, waits}
use Rattle.std.specs.Prelude.{IfOk}
use Rattle.task_frames.specs.Resumes.{IsStep, to_pop}
use Rattle.task_frames.proofs.Given.{over}
use Rattle.task_frames.proofs.kept.Kept.pop.Goals as goal

pub look-requires-clause-may : goal.look-requires-clause-may
look-requires-clause-may g c =
    over (λ k n. MayLook k.state n c.in-Some.queue) _ _ _ _ c.self.view_is c.number.ensures (look-may g.B.Body _ _ _ c.requires.has c.in-Some.queue (sym c.number_at.ensures ∙ c.in-Some.is))

pub look-requires-clause-turn : goal.look-requires-clause-turn
look-requires-clause-turn g c = over (λ k n. IsOnTurn k.name k.state n) _ _ _ _ c.self.view_is c.number.ensures (turn g.B.Body _ _ _ c.requires.has c.requires.begun)

pub look-requires-clause-next : goal.look-requires-clause-next
look-requires-clause-next g c =
    over (λ k n. OnNext k.name k.state n (λ s own. IsNextAbout deed.Pop s k.state own c.in-Some.queue)) _ _ _ _ c.self.view_is c.number.ensures
    (pop-may g.B.Body _ _ _ c.requires.has c.in-Some.queue (sym c.number_at.ensures ∙ c.in-Some.is)).1

pub returns-in-NotYet-clause-step : goal.returns-in-NotYet-clause-step
returns-in-NotYet-clause-step g c =
    waits g.B.Body _ _ _ c.requires.has _ c.asks.result c.in-Some.queue c.in-NotYet.wait
    (state-kept _ _ _ _ _ c.self.view_is c.in-NotYet.ensures.same.0 c.in-NotYet.ensures.same.1 c.in-NotYet.ensures.after) c.asks.ensures (to_pop _ _ _ refl (sym c.number_at.ensures ∙ c.in-Some.is))
    (over (λ k n. OnActive k.state n (λ b. IsCause k.name k.state b c.in-Some.queue c.in-NotYet.wait)) _ _ _ _ (sym c.self.view_is) (sym c.number.ensures) c.in-NotYet.ensures.answer)

pub returns-in-Holds-clause-step : goal.returns-in-Holds-clause-step
returns-in-Holds-clause-step g c =
    subst (λ k. IfOk c.pop_item.result (IsStep g.B.Body k c.pop_item.new.self c.args.mid.task))
    (state-kept _ _ _ _ _ c.self.view_is c.in-Holds.ensures.same.0 c.in-Holds.ensures.same.1 c.in-Holds.ensures.after) c.pop_item.ensures.step

pub returns-in-Empty-clause-step : goal.returns-in-Empty-clause-step
returns-in-Empty-clause-step g c =
    subst (λ k. IfOk c.pop_none.result (IsStep g.B.Body k c.pop_none.new.self c.args.mid.task))
    (state-kept _ _ _ _ _ c.self.view_is c.in-Empty.ensures.same.0 c.in-Empty.ensures.same.1 c.in-Empty.ensures.after) c.pop_none.ensures.step
