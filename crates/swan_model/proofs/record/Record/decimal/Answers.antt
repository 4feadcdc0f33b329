use Rattle.std.proofs.Common.{length, Err, ap, ◌∙◌, arith, w64}
use Rattle.std.specs.Fmt.{signed_decimal}
use Rattle.std.proofs.lemmas.Fmt.{length_signed_le}
use Rattle.std.proofs.lemmas.Int.{to_z-of_z}
use Rattle.swan_model.proofs.record.Record.decimal.Goals as goal

-- A number of 64 bits has at most 20 bytes.
pub unreachable-requires : goal.unreachable-requires
unreachable-requires c =
    let long = c.of.ensures.too_long (c.in-Err-TooLong.is ∙ ap Err c.in-Err-TooLong.field-0-is) in
    let few = length_signed_le 19 c.args.number (omega (arith, c.ranges.number.sfits)) (omega (arith, c.ranges.number.sfits)) in
    let text = c.as_bytes.ensures.value ∙ c.in_ok-text.ensures.ok ∙ ap signed_decimal (to_z-of_z w64 c.args.number c.ranges.number) in
    omega (arith, long, ap length text, few)
