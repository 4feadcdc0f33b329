use Rattle.std.proofs.Common.{subst, sym}
use Rattle.task_frames.specs.Resumes.{ends_of}
use Rattle.swan_runtime.specs.Shared.{AreOfRun, IsShared}
use Rattle.swan_runtime.specs.declared.shared.Parts.{Parts}
use Rattle.swan_runtime.proofs.Waking.{alone}
use Rattle.swan_runtime.proofs.shared.SharedRun.new.Goals as goal

pub invariant_of-result : goal.invariant_of-result
invariant_of-result g c =
    let of = ends_of g.Q.Ends.LocalEnds in
    let core = c.args.core in
    subst (λ (p : Parts _ _ _ _). IsShared of (record { core = p.core; ready = p.ready.items }) p.asleep) (sym c.in_ok-parts.ensures.ok) (record {
      ready = subst (AreOfRun of core.plan core.run) (sym c.in-Ok.ensures.ready) (alone of core.plan core.run c.args.root c.requires.root);
      asleep = c.in-Ok.ensures.asleep core.plan core.run;
    })
