use Rattle.std.proofs.Common.{◌≡◌, Some, None, sym, subst}
use Rattle.swan_model.specs.QueueState.{QueueState}
use Rattle.queues.specs.Asks.{OnNext, MayJoin}
use Rattle.queue_book.specs.Live.{key_at, kept_of}
use Rattle.queue_book.specs.BookView.{BookView}
use Rattle.queue_book.specs.Whole.{IsBook}
use Rattle.swan_model.specs.QueueFollows.{next_queue_deed}
use Rattle.pop_order.specs.Frames.{Frames}
use Rattle.swan_model.specs.QueueState.{after_finish}
use Rattle.queue_book.specs.KeptFrames.{KeptFrame}
use Rattle.queue_book.proofs.BookFinish.{alone_in, book_finish, chained_before}
use Rattle.queue_book.proofs.LiveKept.{kept_live, active_there}
use Rattle.queues.proofs.TurnsGone.{turns_childless}
use Rattle.queue_book.proofs.book.BookQueuesQueues.finish.Goals as goal

pub end-requires-clause-active : goal.end-requires-clause-active
end-requires-clause-active c =
    let is = c.self.invariant in
    let state = c.self.inside.state.means in
    let frames = c.self.inside.store.frames in
    let n = c.args.frame in
    let May : BookView → Type 0 = λ v. MayJoin v.state n in
    let may : MayJoin state n = subst May (sym c.self.view_is) c.requires.may in
    active_there state frames is.live n may.frame may.may.live

pub end-requires-clause-childless : goal.end-requires-clause-childless
end-requires-clause-childless c =
    let is = c.self.invariant in
    let name = c.self.inside.name in
    let state = c.self.inside.state.means in
    let frames = c.self.inside.store.frames in
    let heads = c.self.inside.store.chains.heads.items in
    let nodes = c.self.inside.store.chains.nodes in
    let turns = c.self.inside.store.turns in
    let n = c.args.frame in
    let May : BookView → Type 0 = λ v. MayJoin v.state n in
    let may : MayJoin state n = subst May (sym c.self.view_is) c.requires.may in
    turns_childless state turns n is.turned may.alone

pub end-requires-clause-owned : goal.end-requires-clause-owned
end-requires-clause-owned c kept at =
    let is = c.self.invariant in
    let name = c.self.inside.name in
    let state = c.self.inside.state.means in
    let frames = c.self.inside.store.frames in
    let heads = c.self.inside.store.chains.heads.items in
    let nodes = c.self.inside.store.chains.nodes in
    let turns = c.self.inside.store.turns in
    let n = c.args.frame in
    let May : BookView → Type 0 = λ v. MayJoin v.state n in
    let may : MayJoin state n = subst May (sym c.self.view_is) c.requires.may in
    (key_at frames, is.lines, chained_before name state frames heads nodes turns is n may kept at, alone_in name state frames heads nodes turns is n may kept at)

pub invariant_of-self : goal.invariant_of-self
invariant_of-self c =
    let is = c.self.invariant in
    let name = c.self.inside.name in
    let state = c.self.inside.state.means in
    let frames = c.self.inside.store.frames in
    let heads = c.self.inside.store.chains.heads.items in
    let nodes = c.self.inside.store.chains.nodes in
    let turns = c.self.inside.store.turns in
    let n = c.args.frame in
    let May : BookView → Type 0 = λ v. MayJoin v.state n in
    let may : MayJoin state n = subst May (sym c.self.view_is) c.requires.may in
    let was = kept_live state frames is.live n may.frame may.may.live in
    let kept : KeptFrame = was.0 in
    let at : kept_of frames n ≡ Some kept = was.1 in
    let Over : BookView → Type 0 = λ v. OnNext v.name v.state n (λ s f. next_queue_deed s f.path f.deeds ≡ None) in
    let over : OnNext name state n (λ s f. next_queue_deed s f.path f.deeds ≡ None) = subst Over (sym c.self.view_is) c.requires.over in
    let heads_now = c.end.new.self.chains.heads.items in
    let nodes_now = c.end.new.self.chains.nodes in
    let ended = c.end.ensures.ended kept at (key_at frames) is.lines
    (chained_before name state frames heads nodes turns is n may kept at) (alone_in name state frames heads nodes turns is n may kept at) in
    let book = book_finish name state frames heads nodes turns is n may kept at over c.end.new.self.frames c.end.ensures.gone heads_now nodes_now c.end.ensures.same ended in
    let P : QueueState → Type 0 = λ st. IsBook name st c.end.new.self.frames heads_now nodes_now c.end.new.self.turns in
    let Q : Frames → Type 0 = λ ts. IsBook name (after_finish state n) c.end.new.self.frames heads_now nodes_now ts in
    subst P (sym c.after.ensures) (subst Q (sym c.end.ensures.turns) book)
