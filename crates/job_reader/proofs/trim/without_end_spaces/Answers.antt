use Rattle.std.proofs.Common.{sym, ap, ◌∙◌}
use Rattle.std.proofs.lemmas.Bool.{ne_eqb}
use Rattle.job_reader.specs.Tokens.{without_end_spaces}
use Rattle.job_reader.proofs.Trims.{end_space, end_other}
use Rattle.job_reader.proofs.trim.without_end_spaces.Goals as goal

pub returns-then-last-ne32 : goal.returns-then-last-ne32
returns-then-last-ne32 c =
    let split = c.in-Some.ensures.cases.0 in
    split ∙ sym (end_other c.in-Some.others.now c.in-Some.last.now (ne_eqb _ _ c.if-last-ne32.true)) ∙ sym (ap without_end_spaces split) ∙ c.loop-last.invariant

pub loop-last-preserved : goal.loop-last-preserved
loop-last-preserved c =
    let split = c.in-Some.ensures.cases.0 in
    sym (end_space c.in-Some.others.now c.in-Some.last.now c.if-last-ne32.false) ∙ sym (ap without_end_spaces split) ∙ c.loop-last.invariant
