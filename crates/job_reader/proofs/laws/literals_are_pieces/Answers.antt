use Rattle.job_reader.proofs.LiteralPieces.{literal_fits, literal_only, literal_stands}
use Rattle.job_reader.proofs.laws.literals_are_pieces.Goals as goal

pub returns-clause-pieces : goal.returns-clause-pieces
returns-clause-pieces c = literal_stands

pub returns-clause-fits : goal.returns-clause-fits
returns-clause-fits c = literal_fits

pub returns-clause-only : goal.returns-clause-only
returns-clause-only c = literal_only
