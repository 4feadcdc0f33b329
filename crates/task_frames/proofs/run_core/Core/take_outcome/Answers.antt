use Rattle.std.proofs.Common.{sym, ap, ◌∙◌}
use Rattle.task_frames.specs.Cores.{CoreView}
use Rattle.task_frames.specs.Records.{live_at}
use Rattle.swan_model.proofs.Elements.{none_is}
use Rattle.task_frames.proofs.run_core.Core.take_outcome.Goals as goal

pub outcome_left-outcome-requires-clause-core : goal.outcome_left-outcome-requires-clause-core
outcome_left-outcome-requires-clause-core g c κs within = (c.self.invariant.0 c.in-Some.kept c.in-Some.is).0

pub outcome_left-outcome-requires-clause-over : goal.outcome_left-outcome-requires-clause-over
outcome_left-outcome-requires-clause-over g c κs within =
    let is = c.self.invariant.0 c.in-Some.kept c.in-Some.is in
    none_is (live_at c.in-Some.kept.live 0) (sym is.2 ∙ ap (λ (v : CoreView g.row.B.Denot g.row.B-Local.Denot). v.is_done) c.self.view_is ∙ c.requires.done)
