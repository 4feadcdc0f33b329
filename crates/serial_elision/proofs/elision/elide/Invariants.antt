use Rattle.std.proofs.Common.{◌≡◌, ◌≤◌, ℕ}
use Rattle.swan_model.specs.Elision.{serial}
use Rattle.serial_elision.proofs.elision.elide.Given as goal

abbrev pub invariant-loop-turn : goal.invariant-loop-turn
invariant-loop-turn g l =
    record {
      steps : ℕ;
      now : l.state ≡ serial g.B.Body l.fn.plan steps;
      turns : l._turn ≤ steps;
    }
