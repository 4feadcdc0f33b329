use Rattle.std.proofs.Common.{◌≡◌, ℕ, ◌<◌, Some, List, [], length, sym, ap, subst, ◌∙◌}
use Rattle.swan_model.specs.declared.script.Deed.TheVariants as deed
use Rattle.swan_model.specs.QueueState.{QueueState, QUEUES_MOST}
use Rattle.queues.specs.Asks.{OnNext, MayDo, HasRoom}
use Rattle.queue_book.specs.BookView.{BookView}
use Rattle.queue_book.specs.Whole.{IsBook}
use Rattle.queue_book.proofs.BookLent.{called}
use Rattle.swan_model.specs.QueueFollows.{next_queue_deed}
use Rattle.swan_model.specs.QueueState.{after_create}
use Rattle.queue_book.proofs.BookMade.{book_create, create_room, create_there}
use Rattle.swan_model.specs.declared.value.Value.{Value}
use Rattle.queue_book.specs.Made.{IsMadeIn}
use Rattle.queue_book.proofs.LiveKept.{active_there}
use Rattle.queue_book.proofs.book.BookQueuesQueues.create.Goals as goal

pub make-requires : goal.make-requires
make-requires c =
    let is = c.self.invariant in
    let name = c.self.inside.name in
    let state = c.self.inside.state.means in
    let frames = c.self.inside.store.frames in
    let heads = c.self.inside.store.chains.heads.items in
    let nodes = c.self.inside.store.chains.nodes in
    let turns = c.self.inside.store.turns in
    let P : BookView → Type 0 = λ v. HasRoom v.state in
    let room : HasRoom state = subst P (sym c.self.view_is) c.requires.room in
    let Q : ℕ → Type 0 = λ k. k < QUEUES_MOST in
    let n = c.args.frame in
    let R : BookView → Type 0 = λ v. MayDo v.state n in
    let act : MayDo state n = subst R (sym c.self.view_is) c.requires.may in
    record { active = active_there state frames is.live n act.frame act.may.live; room = subst Q (sym is.count) room }

pub count_deed-requires : goal.count_deed-requires
count_deed-requires c =
    let is = c.self.invariant in
    let name = c.self.inside.name in
    let state = c.self.inside.state.means in
    let frames = c.self.inside.store.frames in
    let heads = c.self.inside.store.chains.heads.items in
    let nodes = c.self.inside.store.chains.nodes in
    let turns = c.self.inside.store.turns in
    let n = c.args.frame in
    let P : BookView → Type 0 = λ v. MayDo v.state n in
    let act : MayDo state n = subst P (sym c.self.view_is) c.requires.may in
    let M : List Value → Type 0 = λ items. IsMadeIn frames c.make.new.self.frames n c.in-Ok.queue items heads nodes c.make.new.self.chains.heads.items c.make.new.self.chains.nodes in
    let made : IsMadeIn frames c.make.new.self.frames n c.in-Ok.queue [] heads nodes c.make.new.self.chains.heads.items c.make.new.self.chains.nodes =
    subst M c.new-none.ensures c.in-Ok.ensures.made in
    record {
      active = create_there name state frames heads nodes turns is n act c.in-Ok.queue c.in-Ok.ensures.number c.make.new.self.frames c.make.new.self.chains.heads.items c.make.new.self.chains.nodes made;
      room = create_room name state frames heads nodes turns is n act c.in-Ok.queue c.in-Ok.ensures.number c.make.new.self.frames c.make.new.self.chains.heads.items c.make.new.self.chains.nodes made;
    }

pub invariant_of-self : goal.invariant_of-self
invariant_of-self c =
    let is = c.self.invariant in
    let name = c.self.inside.name in
    let state = c.self.inside.state.means in
    let frames = c.self.inside.store.frames in
    let heads = c.self.inside.store.chains.heads.items in
    let nodes = c.self.inside.store.chains.nodes in
    let turns = c.self.inside.store.turns in
    let n = c.args.frame in
    let P : BookView → Type 0 = λ v. MayDo v.state n in
    let act : MayDo state n = subst P (sym c.self.view_is) c.requires.may in
    let M : List Value → Type 0 = λ items. IsMadeIn frames c.make.new.self.frames n c.in-Ok.queue items heads nodes c.make.new.self.chains.heads.items c.make.new.self.chains.nodes in
    let made : IsMadeIn frames c.make.new.self.frames n c.in-Ok.queue [] heads nodes c.make.new.self.chains.heads.items c.make.new.self.chains.nodes =
    subst M c.new-none.ensures c.in-Ok.ensures.made in
    let Next : BookView → Type 0 = λ v. OnNext v.name v.state n (λ s f. next_queue_deed s f.path f.deeds ≡ Some deed.MakeQueue) in
    let next : OnNext name state n (λ s f. next_queue_deed s f.path f.deeds ≡ Some deed.MakeQueue) = subst Next (sym c.self.view_is) c.requires.next in
    let R : QueueState → Type 0 = λ st. IsBook name st c.count_deed.new.self c.make.new.self.chains.heads.items c.make.new.self.chains.nodes turns in
    rw c.make.ensures.turns (subst R (sym (c.after.ensures ∙ called state n act.frame (after_create state) act.may.live))
    (book_create name state frames heads nodes turns is n act c.in-Ok.queue c.in-Ok.ensures.number c.make.new.self.frames c.make.new.self.chains.heads.items c.make.new.self.chains.nodes made
    next c.in-Ok.ensures.more c.count_deed.new.self c.count_deed.ensures))

pub returns-in-Ok-clause-number : goal.returns-in-Ok-clause-number
returns-in-Ok-clause-number c =
    let is = c.self.invariant in
    let name = c.self.inside.name in
    let state = c.self.inside.state.means in
    let frames = c.self.inside.store.frames in
    let heads = c.self.inside.store.chains.heads.items in
    let nodes = c.self.inside.store.chains.nodes in
    let turns = c.self.inside.store.turns in
    c.in-Ok.ensures.number ∙ is.count ∙ ap (λ (v : BookView). length v.state.makers) c.self.view_is
