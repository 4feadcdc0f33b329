use Rattle.serial_elision.proofs.RipeSpawns.{ripe_fewer, ripe_spawns}
use Rattle.serial_elision.proofs.RipeStays.{ripe_stays}
use Rattle.serial_elision.proofs.script_laws.a_ripe_item_stays.Goals as goal

pub returns : goal.returns
returns c = record { goes_on = ripe_stays; spawns = ripe_spawns; fewer = ripe_fewer }
