use Rattle.std.proofs.Common.{◌≡◌, Some, sym, subst}
use Rattle.swan_model.specs.QueueState.{ActiveFrame, active}
use Rattle.queues.specs.Asks.{MayLook, IsOnTurn}
use Rattle.queue_book.specs.Live.{key_at}
use Rattle.queue_book.specs.BookView.{BookView}
use Rattle.queues.specs.Tells.{IsTested}
use Rattle.queue_book.proofs.BookFronts.{book_looked, known, looked_all}
use Rattle.queue_book.proofs.book.BookQueuesQueues.look.Goals as goal

pub front-requires : goal.front-requires
front-requires c =
    let is = c.self.invariant in
    let name = c.self.inside.name in
    let state = c.self.inside.state.means in
    let frames = c.self.inside.store.frames in
    let heads = c.self.inside.store.chains.heads.items in
    let nodes = c.self.inside.store.chains.nodes in
    let turns = c.self.inside.store.turns in
    let n = c.args.frame in
    let q = c.args.queue in
    let May : BookView → Type 0 = λ v. MayLook v.state n q in
    let may : MayLook state n q = subst May (sym c.self.view_is) c.requires.may in
    let look = may in
    let Turn : BookView → Type 0 = λ v. IsOnTurn v.name v.state n in
    let turn : IsOnTurn name state n = subst Turn (sym c.self.view_is) c.requires.turn in
    record { known = known name state frames heads nodes turns is n q look; kept = (key_at frames, is.lines, is.chained) }

pub invariant_of-self : goal.invariant_of-self
invariant_of-self c =
    let is = c.self.invariant in
    let name = c.self.inside.name in
    let state = c.self.inside.state.means in
    let frames = c.self.inside.store.frames in
    let heads = c.self.inside.store.chains.heads.items in
    let nodes = c.self.inside.store.chains.nodes in
    let turns = c.self.inside.store.turns in
    let n = c.args.frame in
    let q = c.args.queue in
    let May : BookView → Type 0 = λ v. MayLook v.state n q in
    let may : MayLook state n q = subst May (sym c.self.view_is) c.requires.may in
    let look = may in
    let Turn : BookView → Type 0 = λ v. IsOnTurn v.name v.state n in
    let turn : IsOnTurn name state n = subst Turn (sym c.self.view_is) c.requires.turn in
    let heads_now = c.front.new.self.chains.heads.items in
    let nodes_now = c.front.new.self.chains.nodes in
    rw (c.front.ensures.frames, c.front.ensures.turns) (book_looked name state frames heads nodes turns is n q look heads_now nodes_now c.front.ensures.same c.front.result (c.front.ensures.told (key_at frames) is.lines is.chained))

pub returns-clause-answer : goal.returns-clause-answer
returns-clause-answer c =
    let is = c.self.invariant in
    let name = c.self.inside.name in
    let state = c.self.inside.state.means in
    let frames = c.self.inside.store.frames in
    let heads = c.self.inside.store.chains.heads.items in
    let nodes = c.self.inside.store.chains.nodes in
    let turns = c.self.inside.store.turns in
    let n = c.args.frame in
    let q = c.args.queue in
    let May : BookView → Type 0 = λ v. MayLook v.state n q in
    let may : MayLook state n q = subst May (sym c.self.view_is) c.requires.may in
    let look = may in
    let Turn : BookView → Type 0 = λ v. IsOnTurn v.name v.state n in
    let turn : IsOnTurn name state n = subst Turn (sym c.self.view_is) c.requires.turn in
    let heads_now = c.front.new.self.chains.heads.items in
    let nodes_now = c.front.new.self.chains.nodes in
    let P : BookView → Type 0 = λ v. (f : ActiveFrame) → active v.state n ≡ Some f → IsTested v.name v.state f q c.front.result in
    subst P c.self.view_is (looked_all name state frames heads nodes turns is n q look heads_now nodes_now c.front.ensures.same turn c.front.result c.front.ensures.turn
    (c.front.ensures.told (key_at frames) is.lines is.chained))
