use Rattle.std.proofs.Common.{◌≡◌, vec_len}
use Rattle.steal_pool.proofs.tests.is_passed_from.Given as goal

abbrev pub invariant-loop-taker : goal.invariant-loop-taker
invariant-loop-taker l = vec_len l.seats ≡ vec_len l.initial.seats
