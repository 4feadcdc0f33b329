use Rattle.std.proofs.Common.{sym, ◌∙◌}
use Rattle.std.proofs.lemmas.Str.{IsUtf8-from_ascii}
use Rattle.job_reader.proofs.Ascii.{natural_is_ascii}
use Rattle.job_reader.proofs.Parses.{plain_is}
use Rattle.job_reader.proofs.number.plain_number.Goals as goal

pub parse-requires : goal.parse-requires
parse-requires c = IsUtf8-from_ascii c.args.text.now (natural_is_ascii c.args.text.now (sym c.is_natural.ensures ∙ c.if-is_natural.true))

pub returns-then-is_natural : goal.returns-then-is_natural
returns-then-is_natural c =
    c.ok.ensures.value ∙ plain_is c.args.text.now c.parse.result (sym c.is_natural.ensures ∙ c.if-is_natural.true) c.parse.ensures
