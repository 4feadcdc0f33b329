use Rattle.std.proofs.Common.{sym, ◌∙◌}
use Rattle.std.proofs.lemmas.Str.{IsUtf8-from_ascii}
use Rattle.job_reader.proofs.Ascii.{name_is_ascii}
use Rattle.job_reader.proofs.atom.read_atom.Goals as goal

pub word-requires : goal.word-requires
word-requires c = IsUtf8-from_ascii c.args.token.now (name_is_ascii c.args.token.now (sym c.is_name.ensures ∙ c.if-is_name.true))
