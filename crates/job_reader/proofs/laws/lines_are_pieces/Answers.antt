use Rattle.job_reader.proofs.LinePieces.{are_lines, only_lines}
use Rattle.job_reader.proofs.laws.lines_are_pieces.Goals as goal

pub returns-clause-are : goal.returns-clause-are
returns-clause-are c = are_lines

pub returns-clause-only : goal.returns-clause-only
returns-clause-only c = only_lines
