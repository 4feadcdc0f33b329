use Rattle.std.proofs.Common.{◌≡◌, ◌+◌, ◌-◌, ◌++◌, List, ℕ, string_bytes, subst, sym, ap, ◌∙◌}
use Rattle.std.specs.Fmt.{decimal}
use Rattle.swan_model.specs.Texts.{line}
use Rattle.bulk_workload.specs.Bulk.{number_after}
use Rattle.bulk_workload.proofs.Inputs.{Keeps, goes_on}
use Rattle.bulk_workload.proofs.texts.bulk_input.Goals as goal

pub loop-line-preserved : goal.loop-line-preserved
loop-line-preserved c =
    let text = string_bytes c.loop-line.text in
    let number = c.loop-line.number in
    let at = c.loop-line._line in
    let pushed : string_bytes c.push_str.new.self ≡ text ++ line (decimal number) =
    c.in_ok-push_str.ensures.bytes ∙ ap (λ more. text ++ more) (c.as_str.ensures.value ∙ c.in_ok-format.ensures.ok) in
    let Kept : List ℕ → Type 0 = λ bytes. Keeps bytes (number_after number) (c.args.size - (at + 1)) c.args.number c.args.size in
    subst Kept (sym pushed) (goes_on text number at c.args.number c.args.size c.loop-line-test.true c.loop-line.invariant)
