use Rattle.job_reader.proofs.TokenPieces.{are_tokens, only_tokens}
use Rattle.job_reader.proofs.laws.tokens_are_pieces.Goals as goal

pub returns-clause-are : goal.returns-clause-are
returns-clause-are c = are_tokens

pub returns-clause-only : goal.returns-clause-only
returns-clause-only c = only_tokens
