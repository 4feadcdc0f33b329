use Rattle.std.proofs.Common.{ℕ, Option, List, sym, subst, ◌∙◌}
use Rattle.swan_model.specs.QueueFollows.{NextSpawnGivesQueues}
use Rattle.swan_model.specs.QueueState.{QueueState, after_spawn}
use Rattle.queues.specs.Asks.{MaySpawn, IsOnTurn, OnNext}
use Rattle.queue_book.specs.BookView.{BookView}
use Rattle.queue_book.specs.Whole.{IsBook}
use Rattle.queue_book.proofs.BookLent.{called}
use Rattle.queue_book.proofs.BookSpawn.{book_spawn, child_free, spawn_may}
use Rattle.queue_book.proofs.book.BookQueuesQueues.spawn.Goals as goal

pub spawn-requires : goal.spawn-requires
spawn-requires c =
    let is = c.self.invariant in
    let name = c.self.inside.name in
    let state = c.self.inside.state.means in
    let frames = c.self.inside.store.frames in
    let heads = c.self.inside.store.chains.heads.items in
    let nodes = c.self.inside.store.chains.nodes in
    let turns = c.self.inside.store.turns in
    let p = c.args.parent in
    let child = c.args.child in
    let gives = c.args.gives.now in
    let May : BookView → Type 0 = λ v. MaySpawn v.state p child gives in
    let may : MaySpawn state p child gives = subst May (sym c.self.view_is) c.requires.may in
    record {
      may = spawn_may name state frames heads nodes turns is p child gives may;
      stand = (is.lines, is.chained);
      free = child_free name state frames heads nodes turns is p child gives may;
    }

pub invariant_of-self : goal.invariant_of-self
invariant_of-self c =
    let is = c.self.invariant in
    let name = c.self.inside.name in
    let state = c.self.inside.state.means in
    let frames = c.self.inside.store.frames in
    let heads = c.self.inside.store.chains.heads.items in
    let nodes = c.self.inside.store.chains.nodes in
    let turns = c.self.inside.store.turns in
    let p = c.args.parent in
    let child = c.args.child in
    let gives = c.args.gives.now in
    let May : BookView → Type 0 = λ v. MaySpawn v.state p child gives in
    let may : MaySpawn state p child gives = subst May (sym c.self.view_is) c.requires.may in
    let Next : BookView → Type 0 = λ v. OnNext v.name v.state p (λ s f. NextSpawnGivesQueues s v.state f gives) in
    let next : OnNext name state p (λ s f. NextSpawnGivesQueues s state f gives) = subst Next (sym c.self.view_is) c.requires.next in
    let Turn : BookView → Type 0 = λ v. IsOnTurn v.name v.state p in
    let turn : IsOnTurn name state p = subst Turn (sym c.self.view_is) c.requires.turn in
    let nodes_now = c.spawn.new.self.chains.nodes in
    let book = book_spawn name state frames heads nodes turns is p child gives may c.spawn.new.self.frames nodes_now c.spawn.new.self.turns c.in-Ok.ensures.spawned next turn in
    let Heads : List (Option ℕ) → Type 0 = λ hs. IsBook name (after_spawn state may.act.frame child gives) c.spawn.new.self.frames hs nodes_now c.spawn.new.self.turns in
    let P : QueueState → Type 0 = λ st. IsBook name st c.spawn.new.self.frames c.spawn.new.self.chains.heads.items nodes_now c.spawn.new.self.turns in
    subst P (sym (c.of.ensures ∙ called state p may.act.frame (λ f. after_spawn state f child gives) may.act.may.live)) (subst Heads (sym c.in-Ok.ensures.heads) book)
