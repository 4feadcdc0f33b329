use Rattle.std.proofs.Common.{◌≤◌, ◌-◌, length, take}
use Rattle.swan_outside.specs.Told.{Appends}
use Rattle.swan_outside.proofs.sink.put_all.Given as goal

abbrev pub invariant-loop-done : goal.invariant-loop-done
invariant-loop-done g l = record {
  within : l.done ≤ length l.bytes;
  front : Appends (g.S.Sink.written l.initial.sink) (take l.done l.bytes) (g.S.Sink.written l.sink);
  faults_kept : g.S.Sink.faults l.initial.sink ≤ g.S.Sink.faults l.sink;
}

abbrev pub decreases-loop-done : goal.decreases-loop-done
decreases-loop-done g l = length l.bytes - l.done
