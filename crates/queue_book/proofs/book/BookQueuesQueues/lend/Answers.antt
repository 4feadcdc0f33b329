use Rattle.std.proofs.Common.{◌≡◌, Some, [], sym, ap, subst, ◌∙◌}
use Rattle.swan_model.specs.QueueState.{QueueState, active}
use Rattle.queue_book.specs.BookView.{BookView}
use Rattle.queue_book.specs.Whole.{IsBook}
use Rattle.queue_book.proofs.BookLent.{book_lend, called}
use Rattle.swan_model.specs.QueueState.{after_lend}
use Rattle.queue_book.proofs.LiveKept.{active_there}
use Rattle.queue_book.proofs.book.BookQueuesQueues.lend.Goals as goal

pub invariant_of-self : goal.invariant_of-self
invariant_of-self c =
    let is = c.self.invariant in
    let name = c.self.inside.name in
    let state = c.self.inside.state.means in
    let frames = c.self.inside.store.frames in
    let heads = c.self.inside.store.chains.heads.items in
    let nodes = c.self.inside.store.chains.nodes in
    let turns = c.self.inside.store.turns in
    let n = c.args.frame in
    let f = c.requires.may in
    let live : active state n ≡ Some f.0 = ap (λ (v : BookView). active v.state n) c.self.view_is ∙ f.1 in
    let P : QueueState → Type 0 = λ st. IsBook name st c.lend-deeds.new.self heads nodes turns in
    subst P (sym (c.after.ensures ∙ called state n f.0 (λ g. after_lend state g []) live)) (book_lend name state frames heads nodes turns is n f.0 live c.lend-deeds.new.self c.lend-deeds.ensures.lent)

pub lend-deeds-requires : goal.lend-deeds-requires
lend-deeds-requires c =
    let is = c.self.invariant in
    let state = c.self.inside.state.means in
    let frames = c.self.inside.store.frames in
    let n = c.args.frame in
    let f = c.requires.may in
    let live : active state n ≡ Some f.0 = ap (λ (v : BookView). active v.state n) c.self.view_is ∙ f.1 in
    active_there state frames is.live n f.0 live
