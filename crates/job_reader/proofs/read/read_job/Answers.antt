use Rattle.std.proofs.Common.{◌+◌, Ok, sym, ◌∙◌, ap, arith}
use Rattle.std.proofs.lemmas.Bool.{eqb-true}
use Rattle.job_reader.specs.FirstFault.{fault_of}
use Rattle.job_reader.proofs.JobFacts.{is_job}
use Rattle.job_reader.proofs.TextLines.{turn_line, turn_fault, all_read, of_text}
use Rattle.job_reader.proofs.read.read_job.Goals as goal

pub returns-in-Err-Refused-clause-refused : goal.returns-in-Err-Refused-clause-refused
returns-in-Err-Refused-clause-refused c =
    let told = turn_fault c.args.bytes.now c.loop-rest.lines.items c.loop-rest.edition (c.loop-rest.number + 1) c.loop-rest.position c.loop-rest.rest.now c.first_line.result.0.now c.first_line.result.1.now c.loop-rest.invariant.told c.first_line.ensures.split _ c.is_empty-in-loop-rest-2.ensures _ (rw c.in-Err-Refused.field-0-is at c.in-Err-Refused.ensures) in
    λ fault is. ap fault_of (of_text c.args.bytes.now (sym c.is_empty.ensures ∙ c.if-is_empty.false) ∙ told) ∙ (cc (c.refused-in-Err-Refused.ensures))

pub loop-rest-preserved : goal.loop-rest-preserved
loop-rest-preserved c = record {
  told = rw (c.in_ok-push-in-Ok.ensures.items, c.edition_after-edition.ensures) (turn_line c.args.bytes.now c.loop-rest.lines.items c.loop-rest.edition (c.loop-rest.number + 1) c.loop-rest.position c.loop-rest.rest.now c.first_line.result.0.now c.first_line.result.1.now c.loop-rest.invariant.told c.first_line.ensures.split _ c.is_empty-in-loop-rest-2.ensures c.in-Ok.line c.in-Ok.next c.in-Ok.ensures);
  counted = omega arith;
}

pub of-requires : goal.of-requires
of-requires c =
    is_job c.args.bytes.now c.loop-rest.lines.items
    (of_text c.args.bytes.now (sym c.is_empty.ensures ∙ c.if-is_empty.false)
    ∙ all_read c.args.bytes.now c.loop-rest.lines.items c.loop-rest.edition (c.loop-rest.number + 1) c.loop-rest.position c.loop-rest.rest.now c.loop-rest.invariant.told (eqb-true _ _ (sym c.is_empty-in-loop-rest.ensures ∙ c.loop-rest-test.false)))

pub returns-clause-ok : goal.returns-clause-ok
returns-clause-ok c =
    of_text c.args.bytes.now (sym c.is_empty.ensures ∙ c.if-is_empty.false)
    ∙ all_read c.args.bytes.now c.loop-rest.lines.items c.loop-rest.edition (c.loop-rest.number + 1) c.loop-rest.position c.loop-rest.rest.now c.loop-rest.invariant.told (eqb-true _ _ (sym c.is_empty-in-loop-rest.ensures ∙ c.loop-rest-test.false))
    ∙ ap (λ l. Ok l) (sym c.of.ensures)
