use Rattle.std.proofs.Common.{rules, [], IfNone, IfSome, ap, subst, sym, ◌∙◌, ◌≡◌}
use Rattle.task_frames.specs.Resumes.{ends_of}
use Rattle.swan_runtime.specs.Shared.{IsOfRun, IsShared, SharedView}
use Rattle.swan_runtime.specs.declared.shared.Parts.{Parts}
use Rattle.swan_runtime.proofs.Waking.{last_is_of_run, last_taken, none_left, still_shared}
use Rattle.swan_runtime.proofs.shared.SharedRun.take.Goals as goal

pub invariant_of-self : goal.invariant_of-self
invariant_of-self g c =
    let of = ends_of g.Q.Ends.LocalEnds in
    let whole : c.deref_mut.result.now ≡ c.self.inside.parts.value = search rules in
    subst (λ (p : Parts _ _ _ _). IsShared of (record { core = p.core; ready = c.pop.new.self.items }) p.asleep) (sym whole)
    (still_shared of c.self.inside.parts.value.core c.self.inside.parts.value.core _ _ (search rules) (search rules)
    (last_taken of _ _ _ c.pop.new.self.items c.pop.result (sym (ap (λ (p : Parts _ _ _ _). p.ready.items) whole) ∙ c.pop.ensures.items) c.self.invariant.ready) c.self.invariant.asleep)

pub returns-clause-none : goal.returns-clause-none
returns-clause-none g c =
    subst (λ (s : SharedView _ _ _). IfNone c.pop.result (s.ready ≡ [])) c.self.view_is (none_left _ _ c.self.inside.parts.value.ready.items _ c.pop.result (search rules) c.pop.ensures.cases)

pub returns-clause-own : goal.returns-clause-own
returns-clause-own g c =
    let of = ends_of g.Q.Ends.LocalEnds in
    let same : c.deref_mut.result.now.ready.items ≡ c.self.inside.parts.value.ready.items = search rules in
    subst (λ (s : SharedView _ _ _). IfSome c.pop.result (IsOfRun of s.core.plan s.core.run)) c.self.view_is
    (last_is_of_run of _ _ c.self.inside.parts.value.ready.items c.pop.new.self.items c.pop.result (sym same ∙ c.pop.ensures.items) c.self.invariant.ready)
