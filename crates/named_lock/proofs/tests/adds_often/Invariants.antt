use Rattle.std.proofs.Common.{false}
use Rattle.named_lock.specs.Seats.{IsSeatOf}
use Rattle.named_lock.proofs.tests.adds_often.Given as goal

abbrev pub invariant-loop : goal.invariant-loop
invariant-loop l = IsSeatOf l.fn.lock false l.seat
