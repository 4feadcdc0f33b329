use Rattle.std.proofs.Common.{◌≡◌, ℕ, ◌<◌, Some, length, sym, ap, subst, ◌∙◌}
use Rattle.std.specs.Prelude.{slice_get}
use Rattle.swan_model.specs.QueueState.{QueueState, QUEUES_MOST}
use Rattle.queue_book.specs.BookView.{BookView}
use Rattle.queue_book.specs.Whole.{IsBook}
use Rattle.swan_model.specs.QueueState.{IsUntouched}
use Rattle.queues.specs.Asks.{HasRoom}
use Rattle.queue_book.proofs.BookMade.{book_create_root}
use Rattle.swan_model.specs.declared.script.Script.{Script}
use Rattle.queue_book.proofs.LiveKept.{active_there}
use Rattle.queue_book.proofs.book.BookQueuesQueues.create_root.Goals as goal

pub make-requires : goal.make-requires
make-requires c =
    let is = c.self.invariant in
    let name = c.self.inside.name in
    let state = c.self.inside.state.means in
    let frames = c.self.inside.store.frames in
    let heads = c.self.inside.store.chains.heads.items in
    let nodes = c.self.inside.store.chains.nodes in
    let turns = c.self.inside.store.turns in
    let P : BookView → Type 0 = λ v. HasRoom v.state in
    let room : HasRoom state = subst P (sym c.self.view_is) c.requires.room in
    let Q : ℕ → Type 0 = λ k. k < QUEUES_MOST in
    let U : BookView → Type 0 = λ v. IsUntouched v.state in
    let untouched : IsUntouched state = subst U (sym c.self.view_is) c.requires.untouched in
    record { active = active_there state frames is.live 0 untouched.root untouched.live; room = subst Q (sym is.count) room }

pub invariant_of-self : goal.invariant_of-self
invariant_of-self c =
    let is = c.self.invariant in
    let name = c.self.inside.name in
    let state = c.self.inside.state.means in
    let frames = c.self.inside.store.frames in
    let heads = c.self.inside.store.chains.heads.items in
    let nodes = c.self.inside.store.chains.nodes in
    let turns = c.self.inside.store.turns in
    let P : BookView → Type 0 = λ v. IsUntouched v.state in
    let untouched : IsUntouched state = subst P (sym c.self.view_is) c.requires.untouched in
    let Q : BookView → Type 0 = λ v. (s : Script) → v.name ≡ Some s → slice_get s.queues (length v.state.makers) ≡ Some c.args.first in
    let next : (s : Script) → name ≡ Some s → slice_get s.queues (length state.makers) ≡ Some c.args.first = subst Q (sym c.self.view_is) c.requires.next in
    let R : QueueState → Type 0 = λ st. IsBook name st c.make.new.self.frames c.make.new.self.chains.heads.items c.make.new.self.chains.nodes turns in
    rw c.make.ensures.turns (subst R (sym c.after.ensures) (book_create_root name state frames heads nodes turns is untouched c.args.first next c.in-Ok.queue c.in-Ok.ensures.number
    c.make.new.self.frames c.make.new.self.chains.heads.items c.make.new.self.chains.nodes c.in-Ok.ensures.made c.in-Ok.ensures.more))

pub returns-in-Ok-clause-number : goal.returns-in-Ok-clause-number
returns-in-Ok-clause-number c =
    let is = c.self.invariant in
    let name = c.self.inside.name in
    let state = c.self.inside.state.means in
    let frames = c.self.inside.store.frames in
    let heads = c.self.inside.store.chains.heads.items in
    let nodes = c.self.inside.store.chains.nodes in
    let turns = c.self.inside.store.turns in
    c.in-Ok.ensures.number ∙ is.count ∙ ap (λ (v : BookView). length v.state.makers) c.self.view_is
