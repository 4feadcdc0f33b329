use Rattle.std.proofs.Common.{◌∙◌, ◌<◌, length, inr, arith, rules}
use Rattle.swan_model.proofs.FirstLine.{too_many}
use Rattle.swan_model.proofs.lines.lines_of.Goals as goal

pub returns-then-number-ge-LINES_MOST-clause-refused : goal.returns-then-number-ge-LINES_MOST-clause-refused
returns-then-number-ge-LINES_MOST-clause-refused c =
    let some : 0 < length c.loop-values.rest = search rules in
    inr (c.loop-values.invariant.refused ∙ too_many _ _ some (omega arith))
