use Rattle.std.proofs.Common.{IfErr, OnOk, subst, ℕ, ◌≤◌}
use Rattle.queues.specs.Tells.{IsBlockedBy}
use Rattle.queues.proofs.TurnsTold.{blocker_told, oldest_told, start_told}
use Rattle.queue_book.specs.BookView.{BookView}
use Rattle.queue_book.proofs.book.BookQueuesQueues.may_start.Goals as goal

pub returns-clause-ok : goal.returns-clause-ok
returns-clause-ok c =
    let is = c.self.invariant in
    let state = c.self.inside.state.means in
    let turns = c.self.inside.store.turns in
    let n = c.args.child in
    let P : BookView → Type 0 = λ v. OnOk c.may_start.result ((older : ℕ) → ¬ IsBlockedBy v.state n older) in
    subst P c.self.view_is (start_told state is.plain.tree turns is.turned n c.may_start.result c.may_start.ensures.ok)

pub returns-clause-blocked : goal.returns-clause-blocked
returns-clause-blocked c =
    let is = c.self.invariant in
    let state = c.self.inside.state.means in
    let turns = c.self.inside.store.turns in
    let n = c.args.child in
    let P : BookView → Type 0 = λ v. IfErr c.may_start.result (IsBlockedBy v.state n) in
    subst P c.self.view_is (blocker_told state is.plain.tree turns is.turned n c.may_start.result c.may_start.ensures.blocks)

pub returns-clause-oldest : goal.returns-clause-oldest
returns-clause-oldest c =
    let is = c.self.invariant in
    let state = c.self.inside.state.means in
    let turns = c.self.inside.store.turns in
    let n = c.args.child in
    let P : BookView → Type 0 = λ v. IfErr c.may_start.result (λ older. (other : ℕ) → IsBlockedBy v.state n other → older ≤ other) in
    subst P c.self.view_is (oldest_told state is.plain.tree turns is.turned n c.may_start.result c.may_start.ensures.oldest)
