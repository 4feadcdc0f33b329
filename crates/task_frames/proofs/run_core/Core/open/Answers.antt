use Rattle.std.proofs.Common.{◌≡◌, ◌++◌, List, length, refl, sym, ap, ◌∙◌, subst}
use Rattle.swan_model.specs.declared.plan.Plan.{Plan}
use Rattle.swan_model.specs.declared.plan.RootQueue.{RootQueue}
use Rattle.swan_model.specs.declared.value.Value.{Value}
use Rattle.swan_model.specs.Elision.{object_holdings, queue_holdings, root_holdings}
use Rattle.swan_model.specs.Script.{script}
use Rattle.swan_model.specs.SerialState.{Holding}
use Rattle.task_frames.specs.Cores.{HasIt, KeptView}
use Rattle.task_frames.specs.Frames.{IsPlan, TaskView, root_task}
use Rattle.task_frames.specs.Opened.{IsKeptAtFirst}
use Rattle.task_frames.proofs.Beginning.{opened-has}
use Rattle.task_frames.proofs.run_core.Core.open.Goals as goal

pub give-root-requires-clause-has : goal.give-root-requires-clause-has
give-root-requires-clause-has g c κs within =
    let plan : Plan g.row.B.Denot g.row.B-Local.Denot = c.args.plan in
    let sound : IsPlan plan = record { lists = c.into_lists-root_queues.ensures.bounds; fuel = c.units-fuel.ensures.most } in
    let means : c.of-means.result.means ≡ plan = c.of-means.ensures in
    let queues-are : c.into_lists-root_queues.result.0 ≡ plan.roots.queues = c.into_lists-root_queues.ensures.queues in
    let objects-are : c.into_lists-root_queues.result.1 ≡ plan.roots.objects = c.into_lists-root_queues.ensures.objects in
    let held : c.in_ok-holdings.holdings.items ≡ root_holdings plan.roots =
    c.in_ok-holdings.ensures ∙ ap (λ (qs : List RootQueue). queue_holdings 0 qs ++ object_holdings 0 c.into_lists-root_queues.result.1) queues-are
    ∙ ap (λ (vs : List Value). queue_holdings 0 plan.roots.queues ++ object_holdings 0 vs) objects-are in
    let listed : c.as_slice.result.now ≡ root_holdings plan.roots = c.as_slice.ensures.value ∙ held in
    let kept : KeptView = c.in_ok-kept.kept in
    let first : IsKeptAtFirst (script g.B.Body plan) (length plan.roots.queues) (length plan.roots.objects) (root_holdings plan.roots) kept =
    subst (λ (hs : List Holding). IsKeptAtFirst (script g.B.Body plan) (length plan.roots.queues) (length plan.roots.objects) hs kept) listed
    (subst (λ (vs : List Value). IsKeptAtFirst (script g.B.Body plan) (length plan.roots.queues) (length vs) c.as_slice.result.now kept) objects-are
    (subst (λ (qs : List RootQueue). IsKeptAtFirst (script g.B.Body plan) (length qs) (length c.into_lists-root_queues.result.1) c.as_slice.result.now kept) queues-are
    (subst (λ (p : Plan g.row.B.Denot g.row.B-Local.Denot). IsKeptAtFirst (script g.B.Body p) (length c.into_lists-root_queues.result.0) (length c.into_lists-root_queues.result.1) c.as_slice.result.now kept)
    means c.in_ok-kept.ensures.kept))) in
    let task : TaskView g.row.B.Denot g.row.B-Local.Denot = c.root_task-task.result in
    let task-is : task ≡ record (root_task plan (root_holdings plan.roots)) { fuel = c.units-fuel.result } =
    c.root_task-task.ensures
    ∙ ap {B = TaskView g.row.B.Denot g.row.B-Local.Denot} (λ (p : Plan g.row.B.Denot g.row.B-Local.Denot). record (root_task p c.in_ok-holdings.holdings.items) { fuel = c.units-fuel.result }) means
    ∙ ap {B = TaskView g.row.B.Denot g.row.B-Local.Denot} (λ (hs : List Holding). record (root_task plan hs) { fuel = c.units-fuel.result }) held in
    subst (HasIt g.B.Body _) (sym c.in-Ok.ensures)
    (opened-has g.B.Body plan sound _ first task plan.root_local c.units-fuel.result c.units-fuel.ensures.units task-is refl)
