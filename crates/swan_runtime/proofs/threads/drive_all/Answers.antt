use base.Shift.{Keyless}
use denote.Exit.{Last, if_kept, left, unseen}
use mir.Syntax.{of_param}
use Rattle.std.proofs.Common.{rules, Bool, false, true, slice_index_or, subst, sym}
use Rattle.task_frames.specs.Resumes.{ends_of}
use Rattle.swan_runtime.specs.Workers.{IsDriven, IsWorker}
use Rattle.swan_runtime.proofs.threads.drive_all.Goals as goal

-- what a closure's own parameters leave is nothing
nothing_leaves : {D : Type 0} (kept : Bool) (x : D) (w : Last (if_kept kept (unseen {D = D}) (unseen {D = D})) x) → Keyless (left (if_kept kept (unseen {D = D}) (unseen {D = D})) x w)
nothing_leaves true x w = tt
nothing_leaves false x w = tt

pub for_each_mut-requires-clause-accepts : goal.for_each_mut-requires-clause-accepts
for_each_mut-requires-clause-accepts g c κs within = λ i p below is. (
  subst (IsWorker (ends_of g.Q.Ends.LocalEnds)) (sym is) (c.requires.each i p.now below),
  (
    record { owned = search rules; leaving = λ k x w. nothing_leaves (k (of_param 1)) x w },
    record { owned = search rules; leaving = λ k x w. nothing_leaves (k (of_param 2)) x w },
    record { owned = search rules; leaving = λ k x w. nothing_leaves (k (of_param 4)) x w },
    record { owned = search rules; leaving = λ k x w. nothing_leaves (k (of_param 5)) x w },
    search rules,
    search rules,
    search rules,
  ),
)

pub returns-clause-driven : goal.returns-clause-driven
returns-clause-driven g c = λ i d below.
    let of = ends_of g.Q.Ends.LocalEnds in
    let it = (c.for_each_mut.ensures i d below).1 in
    subst (λ b. IsDriven of b (slice_index_or c.for_each_mut.new.s i d)) it.argument_is (subst (IsDriven of it.argument.now) it.left it.call)
