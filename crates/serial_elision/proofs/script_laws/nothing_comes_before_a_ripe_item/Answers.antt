use Rattle.serial_elision.proofs.RipeBefore.{ripe_before}
use Rattle.serial_elision.proofs.script_laws.nothing_comes_before_a_ripe_item.Goals as goal

pub returns : goal.returns
returns c = record { before = ripe_before }
