use Rattle.serial_elision.proofs.SpawnGives.{spawn_gives}
use Rattle.serial_elision.proofs.script_laws.a_spawn_names_each_give.Goals as goal

pub returns : goal.returns
returns g c = record { gives = spawn_gives g.B.Body }
