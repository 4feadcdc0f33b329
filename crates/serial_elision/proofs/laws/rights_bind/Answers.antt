use Rattle.serial_elision.proofs.Rights.{serial-binds}
use Rattle.serial_elision.proofs.laws.rights_bind.Goals as goal

pub returns : goal.returns
returns g c = serial-binds g.B.Body
