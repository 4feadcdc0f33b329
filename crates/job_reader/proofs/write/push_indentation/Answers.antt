use Rattle.std.proofs.Common.{◌++◌, ◌∷◌, [], ◌*◌, replicate, sym, ap, ◌∙◌, append_assoc}
use Rattle.job_reader.specs.Characters.{space}
use Rattle.job_reader.proofs.Joins.{step_more}
use Rattle.job_reader.proofs.write.push_indentation.Goals as goal

pub loop-step-preserved : goal.loop-step-preserved
loop-step-preserved c =
    c.in_ok-push.ensures ∙ ap (λ l. l ++ space ∷ space ∷ []) c.loop-step.invariant
    ∙ append_assoc c.args.out.now.items (replicate (2 * c.loop-step._step) space) (space ∷ space ∷ [])
    ∙ ap (λ l. c.args.out.now.items ++ l) (sym (step_more c.loop-step._step))
