use Rattle.serial_elision.proofs.Endings.{nested}
use Rattle.serial_elision.proofs.script_laws.scripts_are_nested.Goals as goal

pub returns : goal.returns
returns g c = record { nested = nested g.B.Body }
