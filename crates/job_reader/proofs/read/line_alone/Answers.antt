use Rattle.std.proofs.Common.{sym, subst, ◌∙◌, IsUtf8}
use Rattle.job_reader.proofs.Ascii.{trimmed_is_text}
use Rattle.job_reader.proofs.read.line_alone.Goals as goal

pub shape-requires-clause-utf8 : goal.shape-requires-clause-utf8
shape-requires-clause-utf8 c =
    subst IsUtf8 (sym c.trimmed-text.ensures) (trimmed_is_text c.args.bytes.now (sym c.are_allowed.ensures ∙ c.if-not-are_allowed.false))
