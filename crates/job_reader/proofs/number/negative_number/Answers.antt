use Rattle.std.proofs.Common.{sym, ◌∙◌}
use Rattle.job_reader.proofs.Parses.{minus_is_text, negative_isnt}
use Rattle.job_reader.proofs.number.negative_number.Goals as goal

pub parse-requires : goal.parse-requires
parse-requires c = minus_is_text c.args.text.now c.args.digits.now c.requires (sym c.is_natural.ensures ∙ c.if-not-is_natural.false)

pub returns-in_default : goal.returns-in_default
returns-in_default c =
    sym (negative_isnt c.args.text.now c.args.digits.now c.parse.result c.requires (sym c.is_natural.ensures ∙ c.if-not-is_natural.false) c.parse.ensures (sym c.ok.ensures.value ∙ c.in_default.is))
