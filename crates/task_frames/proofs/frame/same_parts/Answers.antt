use Rattle.std.proofs.Common.{◌<◌, [], ◌∷◌, ◌++◌, take, length, get_or, refl, sym, ap, ◌∙◌, arith}
use Rattle.std.proofs.lemmas.List.{take_more, take_all}
use Rattle.task_frames.proofs.frame.same_parts.Goals as goal

pub loop-at-init : goal.loop-at-init
loop-at-init c = refl

pub loop-at-preserved : goal.loop-at-preserved
loop-at-preserved c =
    let parts = c.args.parts.now in
    let others = c.args.others.now in
    let at = c.loop-at.at in
    let within : at < length others = omega arith in
    take_more parts at 0 c.loop-at-test.true ∙ ap (λ xs. xs ++ get_or parts at 0 ∷ []) c.loop-at.invariant
    ∙ ap (λ x. take at others ++ x ∷ []) c.if-parts-at.false ∙ sym (take_more others at 0 within)

pub returns-clause-yes : goal.returns-clause-yes
returns-clause-yes c = λ _.
    sym (take_all c.loop-at.at c.args.parts.now (omega arith)) ∙ c.loop-at.invariant ∙ take_all c.loop-at.at c.args.others.now (omega arith)
