use Rattle.std.proofs.Common.{◌≡◌}
use Rattle.swan_model.specs.Elision.{serial}
use Rattle.swan_model.specs.Script.{entries}
use Rattle.serial_elision.proofs.recorded.entries_of.Given as goal

pub record HasTold (told now : Type 0) : Type 0 where
  pub state : now
  pub entries : told

abbrev pub invariant-loop-turn : goal.invariant-loop-turn
invariant-loop-turn g l =
    HasTold (l.entries ≡ entries g.B.Body l.fn.plan l._turn) (l.state ≡ serial g.B.Body l.fn.plan l._turn)
