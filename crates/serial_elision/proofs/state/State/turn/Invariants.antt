use Rattle.std.proofs.Common.{◌∷◌, length}
use Rattle.serial_elision.specs.Bounds.{IsWithin, MayFail}
use Rattle.serial_elision.proofs.Works.{HasTurned}
use Rattle.serial_elision.proofs.state.State.turn.Given as goal

abbrev pub invariant-loop-row : goal.invariant-loop-row
invariant-loop-row g l =
    record {
      turned : HasTurned g.B.Body l.fn.body l.fn.self (record { steps = l.self.steps; stack = (record { path = l.path; local = l.local; answer = l.answer; fuel = l.left; holdings = l.holdings.items; children = l.children; failed = l.failed }) ∷ l.self.stack; store = l.self.store; faults = l.self.faults }) l._row l.left l.fuel;
      within : IsWithin (length l.holdings.items) l.children l.fuel;
      parent : MayFail l.self.stack;
    }
