use Rattle.std.proofs.Common.{◌≡◌, ◌<◌, ◌≤◌, true, rules, sym, subst, arith}
use Rattle.swan_model.specs.declared.rights.Mode.TheVariants.{In}
use Rattle.swan_model.specs.Rights.{allows}
use Rattle.swan_model.specs.Versions.{Awaits}
use Rattle.queues.specs.Tells.{IsBlockedBy}
use Rattle.object_versions.specs.Following.{WaitsForNone}
use Rattle.task_frames.proofs.Firsts.{awaited-before, begun-so, blocked-before, may-begin, waits-awaited, waits-blocked}
use Rattle.task_frames.proofs.Given.{over}
use Rattle.task_frames.proofs.kept.Kept.first_wait.Goals as goal

pub returns-then-done-gt0-clause-begun : goal.returns-then-done-gt0-clause-begun
returns-then-done-gt0-clause-begun g c = begun-so g.B.Body _ _ c.requires.has (subst (λ k. 0 < k) c.done-done.ensures (search (rules, arith)))

pub returns-in-Err-clause-shown : goal.returns-in-Err-clause-shown
returns-in-Err-clause-shown g c =
    let err = over (λ k n. (place : _) × (awaits : Awaits k.versions n place c.in-Err.owing) × (allows awaits.object.mode In ≡ true)) _ _ _ _ (sym c.self.view_is) (sym c.number-number.ensures)
    (c.in-Err.ensures.err.0, c.in-Err.ensures.err.1, c.in-Err.ensures.err.2) in
    waits-awaited g.B.Body _ _ c.requires.has c.done-done.result c.in-Err.owing c.done-done.ensures (search rules) err.0 err.1 err.2

pub returns-in-Err-clause-earlier : goal.returns-in-Err-clause-earlier
returns-in-Err-clause-earlier g c =
    let err = over (λ k n. (place : _) × Awaits k.versions n place c.in-Err.owing) _ _ _ _ (sym c.self.view_is) (sym c.number-number.ensures) (c.in-Err.ensures.err.0, c.in-Err.ensures.err.1) in
    awaited-before g.B.Body _ _ c.requires.has c.in-Err.owing err.0 err.1

pub returns-in-Ok-clause-begun : goal.returns-in-Ok-clause-begun
returns-in-Ok-clause-begun g c =
    may-begin g.B.Body _ _ c.requires.has (over (λ k n. WaitsForNone k.versions n) _ _ _ _ (sym c.self.view_is) (sym c.number-number.ensures) c.in_default.ensures.ok)
    (over (λ k n. (older : _) → ¬ IsBlockedBy k.state n older) _ _ _ _ (sym c.self.view_is) (sym c.number-number.ensures) c.in-Ok.ensures.ok)

pub returns-in-Err-may_start-clause-earlier : goal.returns-in-Err-may_start-clause-earlier
returns-in-Err-may_start-clause-earlier g c =
    blocked-before g.B.Body _ _ c.requires.has c.in-Err-may_start.older (over (λ k n. IsBlockedBy k.state n c.in-Err-may_start.older) _ _ _ _ (sym c.self.view_is) (sym c.number-number.ensures) c.in-Err-may_start.ensures.blocked)

pub returns-in-Err-may_start-clause-shown : goal.returns-in-Err-may_start-clause-shown
returns-in-Err-may_start-clause-shown g c =
    let older = c.in-Err-may_start.older in
    waits-blocked g.B.Body _ _ c.requires.has c.done-done.result older c.done-done.ensures (search rules)
    (over (λ k n. WaitsForNone k.versions n) _ _ _ _ (sym c.self.view_is) (sym c.number-number.ensures) c.in_default.ensures.ok)
    (record {
      blocks = over (λ k n. IsBlockedBy k.state n older) _ _ _ _ (sym c.self.view_is) (sym c.number-number.ensures) c.in-Err-may_start.ensures.blocked;
      oldest = over (λ k n. (other : _) → IsBlockedBy k.state n other → older ≤ other) _ _ _ _ (sym c.self.view_is) (sym c.number-number.ensures) c.in-Err-may_start.ensures.oldest;
    })
