use Rattle.std.proofs.Common.{◌≡◌, vec_len}
use Rattle.steal_pool.proofs.tests.passed.Given as goal

abbrev pub invariant-loop-place : goal.invariant-loop-place
invariant-loop-place l = vec_len l.seats ≡ vec_len l.initial.seats
