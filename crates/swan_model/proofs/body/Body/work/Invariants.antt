use Rattle.swan_model.proofs.Working.{HasWorked}
use Rattle.swan_model.proofs.body.Body.work.Given as goal

abbrev pub invariant-loop-works : goal.invariant-loop-works
invariant-loop-works g l = HasWorked (g.Self.Body.next l.fn.self) l.fn.local l.fn.answer l.fn.fuel l.works l.local l.told
