use Rattle.std.proofs.Common.{◌≡◌, ◌≤◌, ◌+◌, None, length, map, ap, arith}
use Rattle.std.proofs.lemmas.List.{length-map}
use Rattle.swan_model.specs.Lines.{lines, refusal_of}
use Rattle.swan_model.specs.declared.lines.TheConstants.{LINES_MOST}
use Rattle.swan_model.specs.declared.value.Value.TheVariants.{Bytes}
use Rattle.swan_model.proofs.FewLines.{few_lines}
use Rattle.job_body.proofs.plan.items_of.Goals as goal

pub returns-in-Ok-clause-few : goal.returns-in-Ok-clause-few
returns-in-Ok-clause-few c =
    let items : c.in-Ok.items ≡ map Bytes (lines c.as_slice.result.now) = c.in-Ok.ensures.lines in
    let accepted : refusal_of c.as_slice.result.now ≡ None = c.in-Ok.ensures.accepted in
    let few : 0 + length (lines c.as_slice.result.now) ≤ LINES_MOST = few_lines 0 (lines c.as_slice.result.now) (omega arith) accepted in
    omega (arith, ap length items, length-map (lines c.as_slice.result.now) Bytes, few)
