use Rattle.serial_elision.proofs.RightsTold.{within_rights}
use Rattle.serial_elision.proofs.script_laws.deeds_are_within_rights.Goals as goal

pub returns : goal.returns
returns g c = record { within = within_rights g.B.Body }
