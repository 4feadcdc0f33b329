use Rattle.std.proofs.Common.{ℕ, List, subst, arith}
use Rattle.swan_outside.specs.declared.sink.TheConstants.{PIECE_MOST}
use Rattle.swan_outside.specs.Told.{Appends}
use Rattle.swan_outside.proofs.Fronts.{take_offered, offered_le}
use Rattle.swan_outside.proofs.Told.{Appends-append}
use Rattle.swan_outside.proofs.sink.put_all.Goals as goal

pub loop-done-preserved : goal.loop-done-preserved
loop-done-preserved g c =
    let kept = c.loop-done.invariant in
    let put = c.in_ok-done.ensures in
    let bytes = c.args.bytes.now in
    let offered = c.piece_from.ensures in
    let joined : List ℕ → Type 0 = λ front. Appends (g.S.Sink.written c.args.sink.now) front (g.S.Sink.written c.put.new.self) in
    record {
      within = offered_le bytes _ _ PIECE_MOST _ kept.within offered put.most;
      front = subst joined (take_offered bytes _ _ PIECE_MOST _ offered put.most) (Appends-append _ _ _ _ _ kept.front put.taken);
      faults_kept = omega (arith, kept.faults_kept, put.faults_kept);
    }
