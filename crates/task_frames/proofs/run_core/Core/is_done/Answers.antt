use Rattle.std.proofs.Common.{subst}
use Rattle.task_frames.specs.Cores.{CoreView, IsCoreView}
use Rattle.task_frames.proofs.run_core.Core.is_done.Goals as goal

pub returns-clause-core : goal.returns-clause-core
returns-clause-core g c = subst (λ (v : CoreView g.row.B.Denot g.row.B-Local.Denot). IsCoreView g.B.Body v) c.self.view_is c.self.invariant.0
