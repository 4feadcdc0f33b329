-- Lines that are held after others, as a task reads them in blocks.
use Rattle.std.proofs.Common.{◌≡◌, ◌+◌, true, false, cond, nat_eq, List, [], ◌∷◌, ◌++◌, length, ap, ◌∙◌, arith, length-append}
use Rattle.swan_model.specs.declared.value.Value.{Value}
use Rattle.line_blocks.specs.declared.held_lines.AfterLine.TheVariants as held
use Rattle.line_blocks.specs.declared.line_reader.LineStep.TheVariants.{Tests, Hands}
use Rattle.line_blocks.specs.declared.queue_reader.QueueReader.TheVariants as reader
use Rattle.line_blocks.specs.HeldLines.{held_with}
use Rattle.line_blocks.specs.LineBlocks.{Lines, after_lines, later, with_line}
use Rattle.line_blocks.specs.LineReading.{held_step}

-- these lines, with so many before them
abbrev pub lines_after : List Value → List Value → Lines
lines_after before items = record { number = later 1 (length before); lines = items }

pub number_after : (before items : List Value) → later (later 1 (length before)) (length items) ≡ later 1 (length (before ++ items))
number_after before items = omega (arith, length-append before items)

-- a line that makes a block of those that are held
pub hands_block : (before items : List Value) (x : Value) → nat_eq (length items + 1) 64 ≡ true
    → held_step (held_with (lines_after before items) x) ≡ Hands (lines_after before (items ++ x ∷ [])) (reader.Looks (lines_after (before ++ (items ++ x ∷ [])) []))
hands_block before items x is =
    let now = with_line (lines_after before items) x in
    ap (λ full. held_step (cond full (held.Block now (after_lines now)) (held.Fewer now))) is
    ∙ ap (λ n. Hands now (reader.Looks (record { number = n; lines = [] }))) (number_after before (items ++ x ∷ []))

-- a line with which there are fewer
pub holds_line : (before items : List Value) (x : Value) → nat_eq (length items + 1) 64 ≡ false
    → held_step (held_with (lines_after before items) x) ≡ Tests (reader.Tested (lines_after before (items ++ x ∷ [])))
holds_line before items x is =
    let now = with_line (lines_after before items) x in
    ap (λ full. held_step (cond full (held.Block now (after_lines now)) (held.Fewer now))) is
