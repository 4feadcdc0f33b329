use Rattle.serial_elision.proofs.Lawful.{lawful}
use Rattle.serial_elision.proofs.script_laws.scripts_are_lawful.Goals as goal

pub returns : goal.returns
returns g c = record { lawful = lawful g.B.Body }
