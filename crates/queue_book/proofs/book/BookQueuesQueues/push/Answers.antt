use Rattle.std.proofs.Common.{◌≡◌, Some, None, refl, sym, subst, ◌∙◌}
use Rattle.std.specs.Prelude.{IsSome}
use Rattle.swan_model.specs.declared.rights.Mode.TheVariants.{Push}
use Rattle.swan_model.specs.declared.script.Deed.TheVariants as deed
use Rattle.swan_model.specs.QueueFollows.{IsNextAbout}
use Rattle.swan_model.specs.QueueState.{QueueState}
use Rattle.queues.specs.Asks.{MayUse, IsOnTurn, OnNext}
use Rattle.queue_book.specs.Live.{key_at}
use Rattle.queue_book.specs.BookView.{BookView}
use Rattle.queue_book.specs.Whole.{IsBook}
use Rattle.queue_book.proofs.BookDeeds.{book_push}
use Rattle.queue_book.proofs.LiveKept.{has_key, key_of, own_chunk_of_key, active_there}
use Rattle.queues.proofs.Frames.{has_held}
use Rattle.queue_book.proofs.book.BookQueuesQueues.push.Goals as goal

pub unreachable-requires : goal.unreachable-requires
unreachable-requires c =
    let is = c.self.invariant in
    let name = c.self.inside.name in
    let state = c.self.inside.state.means in
    let frames = c.self.inside.store.frames in
    let heads = c.self.inside.store.chains.heads.items in
    let nodes = c.self.inside.store.chains.nodes in
    let turns = c.self.inside.store.turns in
    let n = c.args.frame in
    let q = c.args.queue in
    let May : BookView → Type 0 = λ v. MayUse v.state n q Push in
    let may : MayUse state n q Push = subst May (sym c.self.view_is) c.requires.may in
    let found = has_key state frames is.live n q may.act.frame may.act.may.live (has_held may.act.frame q Push may.held) in
    let never : None ≡ Some found.3 = sym c.in_default.is ∙ c.own_chunk.ensures ∙ own_chunk_of_key frames n q found.0 found.3 found.1 found.4 in
    cc

pub push-requires : goal.push-requires
push-requires c =
    let is = c.self.invariant in
    let own_chunk = c.in-Some.own_chunk in
    let key : key_at c.self.inside.store.frames c.args.frame c.args.queue ≡ Some own_chunk.key = key_of c.self.inside.store.frames c.args.frame c.args.queue own_chunk (sym c.in-Some.ensures) in
    let node = is.chained.owned c.args.frame c.args.queue own_chunk.key key in
    record { known = subst IsSome (sym node.1) refl }

pub count_deed-requires-clause-active : goal.count_deed-requires-clause-active
count_deed-requires-clause-active c =
    let is = c.self.invariant in
    let state = c.self.inside.state.means in
    let frames = c.self.inside.store.frames in
    let n = c.args.frame in
    let May : BookView → Type 0 = λ v. MayUse v.state n c.args.queue Push in
    let may : MayUse state n c.args.queue Push = subst May (sym c.self.view_is) c.requires.may in
    active_there state frames is.live n may.act.frame may.act.may.live

pub invariant_of-self : goal.invariant_of-self
invariant_of-self c =
    let is = c.self.invariant in
    let name = c.self.inside.name in
    let state = c.self.inside.state.means in
    let frames = c.self.inside.store.frames in
    let heads = c.self.inside.store.chains.heads.items in
    let nodes = c.self.inside.store.chains.nodes in
    let turns = c.self.inside.store.turns in
    let n = c.args.frame in
    let q = c.args.queue in
    let May : BookView → Type 0 = λ v. MayUse v.state n q Push in
    let may : MayUse state n q Push = subst May (sym c.self.view_is) c.requires.may in
    let own_chunk = c.in-Some.own_chunk in
    let value = c.args.value in
    let key : key_at frames n q ≡ Some own_chunk.key = key_of frames n q own_chunk (sym c.in-Some.ensures) in
    let Next : BookView → Type 0 = λ v. OnNext v.name v.state n (λ s f. IsNextAbout (λ origin. deed.Push origin value) s v.state f q) in
    let next : OnNext name state n (λ s f. IsNextAbout (λ origin. deed.Push origin value) s state f q) = subst Next (sym c.self.view_is) c.requires.next in
    let Turn : BookView → Type 0 = λ v. IsOnTurn v.name v.state n in
    let turn : IsOnTurn name state n = subst Turn (sym c.self.view_is) c.requires.turn in
    let P : QueueState → Type 0 = λ st. IsBook name st c.count_deed.new.self c.push.new.self.heads.items c.push.new.self.nodes turns in
    subst P (sym c.after.ensures) (book_push name state frames heads nodes turns is n q may value next turn c.push.new.self.heads.items c.push.new.self.nodes c.push.ensures.heads
    (c.in-Ok.ensures.pushed (key_at frames) is.lines is.chained n q key) c.count_deed.new.self c.count_deed.ensures)
