use Rattle.std.proofs.Common.{rules, ap, ◌∙◌}
use Rattle.swan_runtime.proofs.TurnsTold.{told_turn}
use Rattle.swan_runtime.proofs.worker_turns.try_under_lock.Goals as goal

pub returns-then-goes_on-clause-turn : goal.returns-then-goes_on-clause-turn
returns-then-goes_on-clause-turn g c =
    told_turn _ _ c.args.local _ c.told.result c.told.ensures (search rules) (search rules) c.requires.runs
    (ap (λ v. v.saw_stopped) c.give-2.ensures.knows ∙ c.settle-goes_on.ensures.yes c.if-goes_on.true ∙ ap (λ v. v.saw_stopped) c.in-Some.ensures.held)
    (search rules)
    (λ saw. ap (λ v. v.saw_done) c.give-2.ensures.knows ∙ c.settle-goes_on.ensures.lasts (ap (λ v. v.saw_done) c.in-Some.ensures.held ∙ saw))
