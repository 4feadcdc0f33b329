use Rattle.swan_model.proofs.Points.{before_earlier, earlier_before, points_differ}
use Rattle.serial_elision.proofs.script_laws.points_stand_in_serial_order.Goals as goal

pub returns-clause-different : goal.returns-clause-different
returns-clause-different c = points_differ

pub returns-clause-before : goal.returns-clause-before
returns-clause-before c = earlier_before

pub returns-clause-earlier : goal.returns-clause-earlier
returns-clause-earlier c = before_earlier
