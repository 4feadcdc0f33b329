use Rattle.std.proofs.Common.{◌≡◌, false, sym, subst}
use Rattle.swan_model.specs.QueueState.{QueueState}
use Rattle.queue_book.specs.Live.{key_at}
use Rattle.queue_book.specs.BookView.{BookView}
use Rattle.queue_book.specs.Whole.{IsBook}
use Rattle.queues.specs.Asks.{is_emptied, IsRestLeft}
use Rattle.queues.specs.Tells.{OnQueue, rest_of}
use Rattle.queue_book.proofs.BookRest.{book_rest, rest_is, rest_known, rest_unowned}
use Rattle.queue_book.proofs.book.BookQueuesQueues.take_rest.Goals as goal

pub take_all-requires : goal.take_all-requires
take_all-requires c =
    let is = c.self.invariant in
    let name = c.self.inside.name in
    let state = c.self.inside.state.means in
    let frames = c.self.inside.store.frames in
    let heads = c.self.inside.store.chains.heads.items in
    let nodes = c.self.inside.store.chains.nodes in
    let turns = c.self.inside.store.turns in
    let q = c.args.queue in
    let Left : BookView → Type 0 = λ v. IsRestLeft v.state q in
    let left : IsRestLeft state q = subst Left (sym c.self.view_is) c.requires.left in
    record {
      known = rest_known name state frames heads nodes turns is q left;
      unowned = (key_at frames, is.lines, is.chained, rest_unowned name state frames heads nodes turns is q left);
    }

pub invariant_of-self : goal.invariant_of-self
invariant_of-self c =
    let is = c.self.invariant in
    let name = c.self.inside.name in
    let state = c.self.inside.state.means in
    let frames = c.self.inside.store.frames in
    let heads = c.self.inside.store.chains.heads.items in
    let nodes = c.self.inside.store.chains.nodes in
    let turns = c.self.inside.store.turns in
    let q = c.args.queue in
    let Left : BookView → Type 0 = λ v. IsRestLeft v.state q in
    let left : IsRestLeft state q = subst Left (sym c.self.view_is) c.requires.left in
    let P : QueueState → Type 0 = λ st. IsBook name st frames c.take_all.new.self.heads.items c.take_all.new.self.nodes turns in
    subst P (sym c.after.ensures) (book_rest name state frames heads nodes turns is q left c.take_all.new.self.heads.items c.take_all.new.self.nodes c.in-Ok.ensures.same
    (c.in-Ok.ensures.taken (key_at frames) is.lines is.chained (rest_unowned name state frames heads nodes turns is q left)))

pub returns-in-Ok-clause-first : goal.returns-in-Ok-clause-first
returns-in-Ok-clause-first c =
    let is = c.self.invariant in
    let name = c.self.inside.name in
    let state = c.self.inside.state.means in
    let frames = c.self.inside.store.frames in
    let heads = c.self.inside.store.chains.heads.items in
    let nodes = c.self.inside.store.chains.nodes in
    let turns = c.self.inside.store.turns in
    let q = c.args.queue in
    let Left : BookView → Type 0 = λ v. IsRestLeft v.state q in
    let left : IsRestLeft state q = subst Left (sym c.self.view_is) c.requires.left in
    let P : BookView → Type 0 = λ v. is_emptied v.state q ≡ false → OnQueue v.name v.state q (λ s origin. c.in-Ok.items ≡ rest_of s origin) in
    subst P c.self.view_is (λ full. rest_is name state frames heads nodes turns is q left full c.in-Ok.items
    (c.in-Ok.ensures.items (key_at frames) is.lines is.chained (rest_unowned name state frames heads nodes turns is q left)))
