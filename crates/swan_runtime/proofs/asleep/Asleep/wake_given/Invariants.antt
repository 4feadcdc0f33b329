use Rattle.std.proofs.Common.{◌≡◌, ℕ, ◌+◌, [], take, true, vec_len}
use Rattle.pop_order.specs.Frames.{lets_use}
use Rattle.swan_model.specs.declared.rights.Mode.TheVariants.{Push}
use Rattle.task_frames.specs.Resumes.{ends_of}
use Rattle.swan_runtime.specs.Beds.{NoneAwaits, OnlyWoke}
use Rattle.swan_runtime.specs.Shared.{KeepsOfRun, sleeper_count, sleepers_at}
use Rattle.swan_runtime.proofs.asleep.Asleep.wake_given.Given as goal

abbrev pub invariant-loop-holding : goal.invariant-loop-holding
invariant-loop-holding g l = record {
  kept : KeepsOfRun (ends_of g.Q.Ends.LocalEnds) [] l.fn.self l.self l.fn.ready.items l.ready.items;
  sleepers : OnlyWoke l.number l.fn.self l.self;
  none_lost : vec_len l.ready + sleeper_count (sleepers_at l.self l.number) ≡ vec_len l.fn.ready + sleeper_count (sleepers_at l.fn.self l.number);
  woken : (queue : ℕ) → lets_use (take l.holding-index l.holdings) queue Push ≡ true → NoneAwaits queue (sleepers_at l.self l.number);
}
