use Rattle.std.proofs.Common.{◌≡◌, ℕ, ◌<◌, Some, None, sym, ap, subst, ◌∙◌}
use Rattle.swan_model.specs.declared.rights.Mode.TheVariants.{Pop}
use Rattle.swan_model.specs.declared.script.Deed.TheVariants as deed
use Rattle.swan_model.specs.QueueFollows.{IsNextAbout}
use Rattle.swan_model.specs.QueueState.{ActiveFrame, QueueState, active}
use Rattle.queues.specs.Asks.{MayUse, IsOnTurn, OnNext}
use Rattle.queues.specs.Chunks.{without_spent}
use Rattle.queue_book.specs.Chains.{first_item, in_line}
use Rattle.queue_book.specs.Live.{key_at, kept_of}
use Rattle.queue_book.specs.BookView.{BookView}
use Rattle.queues.specs.Tells.{IsPopped}
use Rattle.queue_book.specs.Whole.{IsBook}
use Rattle.queues.specs.declared.answers.Popped.TheVariants as popped
use Rattle.queues.specs.declared.answers.Tested.TheVariants as tested
use Rattle.queue_book.proofs.BookDeeds.{book_empty, book_pop}
use Rattle.queue_book.proofs.BookFronts.{book_looked, found_item, known, look_of, looked_all, popped_all}
use Rattle.queue_book.proofs.LiveKept.{active_there}
use Rattle.queue_book.specs.declared.live_frames.LiveFrames.{LiveFrames}
use Rattle.std.specs.Prelude.{IsSome}
use Rattle.queue_book.proofs.book.BookQueuesQueues.pop.Goals as goal

pub front-requires : goal.front-requires
front-requires c =
    let is = c.self.invariant in
    let name = c.self.inside.name in
    let state = c.self.inside.state.means in
    let frames = c.self.inside.store.frames in
    let heads = c.self.inside.store.chains.heads.items in
    let nodes = c.self.inside.store.chains.nodes in
    let turns = c.self.inside.store.turns in
    let n = c.args.frame in
    let q = c.args.queue in
    let May : BookView → Type 0 = λ v. MayUse v.state n q Pop in
    let may : MayUse state n q Pop = subst May (sym c.self.view_is) c.requires.may in
    let look = look_of state n q may in
    let Turn : BookView → Type 0 = λ v. IsOnTurn v.name v.state n in
    let turn : IsOnTurn name state n = subst Turn (sym c.self.view_is) c.requires.turn in
    record { known = known name state frames heads nodes turns is n q look; kept = (key_at frames, is.lines, is.chained) }

pub count_deed-requires-clause-active : goal.count_deed-requires-clause-active
count_deed-requires-clause-active c =
    let is = c.self.invariant in
    let state = c.self.inside.state.means in
    let frames = c.self.inside.store.frames in
    let n = c.args.frame in
    let May : BookView → Type 0 = λ v. MayUse v.state n c.args.queue Pop in
    let may : MayUse state n c.args.queue Pop = subst May (sym c.self.view_is) c.requires.may in
    let P : LiveFrames → Type 0 = λ fs. IsSome (kept_of fs n) in
    subst P (sym c.front.ensures.frames) (active_there state frames is.live n may.act.frame may.act.may.live)

pub count_deed-requires-in-Some-clause-active : goal.count_deed-requires-in-Some-clause-active
count_deed-requires-in-Some-clause-active c =
    let is = c.self.invariant in
    let state = c.self.inside.state.means in
    let frames = c.self.inside.store.frames in
    let n = c.args.frame in
    let May : BookView → Type 0 = λ v. MayUse v.state n c.args.queue Pop in
    let may : MayUse state n c.args.queue Pop = subst May (sym c.self.view_is) c.requires.may in
    let P : LiveFrames → Type 0 = λ fs. IsSome (kept_of fs n) in
    subst P (sym c.front.ensures.frames) (active_there state frames is.live n may.act.frame may.act.may.live)

pub invariant_of-self : goal.invariant_of-self
invariant_of-self c =
    let is = c.self.invariant in
    let name = c.self.inside.name in
    let state = c.self.inside.state.means in
    let frames = c.self.inside.store.frames in
    let heads = c.self.inside.store.chains.heads.items in
    let nodes = c.self.inside.store.chains.nodes in
    let turns = c.self.inside.store.turns in
    let n = c.args.frame in
    let q = c.args.queue in
    let May : BookView → Type 0 = λ v. MayUse v.state n q Pop in
    let may : MayUse state n q Pop = subst May (sym c.self.view_is) c.requires.may in
    let look = look_of state n q may in
    let Turn : BookView → Type 0 = λ v. IsOnTurn v.name v.state n in
    let turn : IsOnTurn name state n = subst Turn (sym c.self.view_is) c.requires.turn in
    let heads_now = c.front.new.self.chains.heads.items in
    let nodes_now = c.front.new.self.chains.nodes in
    rw (c.front.ensures.frames, c.front.ensures.turns) (book_looked name state frames heads nodes turns is n q look heads_now nodes_now c.front.ensures.same (tested.NotYet c.in-NotYet.wait) (c.in-NotYet.ensures.told (key_at frames) is.lines is.chained))

pub invariant_of-self-in-Empty : goal.invariant_of-self-in-Empty
invariant_of-self-in-Empty c =
    let is = c.self.invariant in
    let name = c.self.inside.name in
    let state = c.self.inside.state.means in
    let frames = c.self.inside.store.frames in
    let heads = c.self.inside.store.chains.heads.items in
    let nodes = c.self.inside.store.chains.nodes in
    let turns = c.self.inside.store.turns in
    let n = c.args.frame in
    let q = c.args.queue in
    let May : BookView → Type 0 = λ v. MayUse v.state n q Pop in
    let may : MayUse state n q Pop = subst May (sym c.self.view_is) c.requires.may in
    let look = look_of state n q may in
    let Turn : BookView → Type 0 = λ v. IsOnTurn v.name v.state n in
    let turn : IsOnTurn name state n = subst Turn (sym c.self.view_is) c.requires.turn in
    let heads_now = c.front.new.self.chains.heads.items in
    let nodes_now = c.front.new.self.chains.nodes in
    let Next : BookView → Type 0 = λ v. OnNext v.name v.state n (λ s f. IsNextAbout deed.Pop s v.state f q) in
    let next : OnNext name state n (λ s f. IsNextAbout deed.Pop s state f q) = subst Next (sym c.self.view_is) c.requires.next in
    let P : QueueState → Type 0 = λ st. IsBook name st c.count_deed.new.self heads_now nodes_now turns in
    rw c.front.ensures.turns (subst P (sym c.after.ensures) (book_empty name state frames heads nodes turns is n q may heads_now nodes_now c.front.ensures.same c.count_deed.new.self (rw c.front.ensures.frames at c.count_deed.ensures) turn next
    c.in-Empty.ensures.turn (c.in-Empty.ensures.told (key_at frames) is.lines is.chained)))

pub take_first-requires : goal.take_first-requires
take_first-requires c =
    let is = c.self.invariant in
    let name = c.self.inside.name in
    let state = c.self.inside.state.means in
    let frames = c.self.inside.store.frames in
    let heads = c.self.inside.store.chains.heads.items in
    let nodes = c.self.inside.store.chains.nodes in
    let turns = c.self.inside.store.turns in
    let n = c.args.frame in
    let q = c.args.queue in
    let May : BookView → Type 0 = λ v. MayUse v.state n q Pop in
    let may : MayUse state n q Pop = subst May (sym c.self.view_is) c.requires.may in
    let look = look_of state n q may in
    let Turn : BookView → Type 0 = λ v. IsOnTurn v.name v.state n in
    let turn : IsOnTurn name state n = subst Turn (sym c.self.view_is) c.requires.turn in
    let P : ℕ → Type 0 = λ k. q < k in
    record {
      known = subst P (sym c.front.ensures.same) (known name state frames heads nodes turns is n q look);
      kept = (key_at frames, in_line q without_spent is.lines, (c.in-Holds.ensures.told (key_at frames) is.lines is.chained).0);
    }

pub invariant_of-self-in-Some : goal.invariant_of-self-in-Some
invariant_of-self-in-Some c =
    let is = c.self.invariant in
    let name = c.self.inside.name in
    let state = c.self.inside.state.means in
    let frames = c.self.inside.store.frames in
    let heads = c.self.inside.store.chains.heads.items in
    let nodes = c.self.inside.store.chains.nodes in
    let turns = c.self.inside.store.turns in
    let n = c.args.frame in
    let q = c.args.queue in
    let May : BookView → Type 0 = λ v. MayUse v.state n q Pop in
    let may : MayUse state n q Pop = subst May (sym c.self.view_is) c.requires.may in
    let look = look_of state n q may in
    let Turn : BookView → Type 0 = λ v. IsOnTurn v.name v.state n in
    let turn : IsOnTurn name state n = subst Turn (sym c.self.view_is) c.requires.turn in
    let heads_now = c.front.new.self.chains.heads.items in
    let nodes_now = c.front.new.self.chains.nodes in
    let Next : BookView → Type 0 = λ v. OnNext v.name v.state n (λ s f. IsNextAbout deed.Pop s v.state f q) in
    let next : OnNext name state n (λ s f. IsNextAbout deed.Pop s state f q) = subst Next (sym c.self.view_is) c.requires.next in
    let told = (c.in-Holds.ensures.told (key_at frames) is.lines is.chained) in
    let P : QueueState → Type 0 = λ st. IsBook name st c.count_deed-in-Some.new.self c.take_first.new.self.heads.items c.take_first.new.self.nodes turns in
    rw c.front.ensures.turns (subst P (sym c.after-in-Some.ensures) (book_pop name state frames heads nodes turns is n q may heads_now nodes_now c.front.ensures.same c.count_deed-in-Some.new.self (rw c.front.ensures.frames at c.count_deed-in-Some.ensures) turn next
    c.in-Holds.ensures.turn told c.take_first.new.self.heads.items c.take_first.new.self.nodes c.take_first.ensures.same
    (c.take_first.ensures.taken (key_at frames) (in_line q without_spent is.lines) told.0)))

pub returns-in-NotYet-clause-answer : goal.returns-in-NotYet-clause-answer
returns-in-NotYet-clause-answer c =
    let is = c.self.invariant in
    let name = c.self.inside.name in
    let state = c.self.inside.state.means in
    let frames = c.self.inside.store.frames in
    let heads = c.self.inside.store.chains.heads.items in
    let nodes = c.self.inside.store.chains.nodes in
    let turns = c.self.inside.store.turns in
    let n = c.args.frame in
    let q = c.args.queue in
    let May : BookView → Type 0 = λ v. MayUse v.state n q Pop in
    let may : MayUse state n q Pop = subst May (sym c.self.view_is) c.requires.may in
    let look = look_of state n q may in
    let Turn : BookView → Type 0 = λ v. IsOnTurn v.name v.state n in
    let turn : IsOnTurn name state n = subst Turn (sym c.self.view_is) c.requires.turn in
    let heads_now = c.front.new.self.chains.heads.items in
    let nodes_now = c.front.new.self.chains.nodes in
    let P : BookView → Type 0 = λ v. (f : ActiveFrame) → active v.state n ≡ Some f → IsPopped v.name v.state f q (popped.NotYet c.in-NotYet.wait) in
    subst P c.self.view_is (looked_all name state frames heads nodes turns is n q look heads_now nodes_now c.front.ensures.same turn (tested.NotYet c.in-NotYet.wait) c.in-NotYet.ensures.turn
    (c.in-NotYet.ensures.told (key_at frames) is.lines is.chained))

pub returns-in-Empty-clause-answer : goal.returns-in-Empty-clause-answer
returns-in-Empty-clause-answer c =
    let is = c.self.invariant in
    let name = c.self.inside.name in
    let state = c.self.inside.state.means in
    let frames = c.self.inside.store.frames in
    let heads = c.self.inside.store.chains.heads.items in
    let nodes = c.self.inside.store.chains.nodes in
    let turns = c.self.inside.store.turns in
    let n = c.args.frame in
    let q = c.args.queue in
    let May : BookView → Type 0 = λ v. MayUse v.state n q Pop in
    let may : MayUse state n q Pop = subst May (sym c.self.view_is) c.requires.may in
    let look = look_of state n q may in
    let Turn : BookView → Type 0 = λ v. IsOnTurn v.name v.state n in
    let turn : IsOnTurn name state n = subst Turn (sym c.self.view_is) c.requires.turn in
    let heads_now = c.front.new.self.chains.heads.items in
    let nodes_now = c.front.new.self.chains.nodes in
    let P : BookView → Type 0 = λ v. (f : ActiveFrame) → active v.state n ≡ Some f → IsPopped v.name v.state f q popped.Empty in
    subst P c.self.view_is (looked_all name state frames heads nodes turns is n q look heads_now nodes_now c.front.ensures.same turn tested.Empty c.in-Empty.ensures.turn
    (c.in-Empty.ensures.told (key_at frames) is.lines is.chained))

pub returns-in-Some-clause-answer : goal.returns-in-Some-clause-answer
returns-in-Some-clause-answer c =
    let is = c.self.invariant in
    let name = c.self.inside.name in
    let state = c.self.inside.state.means in
    let frames = c.self.inside.store.frames in
    let heads = c.self.inside.store.chains.heads.items in
    let nodes = c.self.inside.store.chains.nodes in
    let turns = c.self.inside.store.turns in
    let n = c.args.frame in
    let q = c.args.queue in
    let May : BookView → Type 0 = λ v. MayUse v.state n q Pop in
    let may : MayUse state n q Pop = subst May (sym c.self.view_is) c.requires.may in
    let look = look_of state n q may in
    let Turn : BookView → Type 0 = λ v. IsOnTurn v.name v.state n in
    let turn : IsOnTurn name state n = subst Turn (sym c.self.view_is) c.requires.turn in
    let heads_now = c.front.new.self.chains.heads.items in
    let nodes_now = c.front.new.self.chains.nodes in
    let told = (c.in-Holds.ensures.told (key_at frames) is.lines is.chained) in
    let first = found_item name state frames heads nodes turns is n q look heads_now nodes_now c.front.ensures.same told in
    let item : first_item (in_line q without_spent is.lines q) ≡ Some first.value = ap first_item first.are ∙ first.item in
    let both : Some c.in-Some.item ≡ Some first.value = c.in-Some.ensures.item (key_at frames) (in_line q without_spent is.lines) told.0 ∙ item in
    let same : c.in-Some.item ≡ first.value = cc in
    let P : BookView → Type 0 = λ v. (f : ActiveFrame) → active v.state n ≡ Some f → IsPopped v.name v.state f q (popped.Item c.in-Some.item) in
    subst P c.self.view_is (popped_all name state frames heads nodes turns is n q look heads_now nodes_now c.front.ensures.same turn c.in-Holds.ensures.turn told c.in-Some.item same)

pub unreachable-requires : goal.unreachable-requires
unreachable-requires c =
    let is = c.self.invariant in
    let name = c.self.inside.name in
    let state = c.self.inside.state.means in
    let frames = c.self.inside.store.frames in
    let heads = c.self.inside.store.chains.heads.items in
    let nodes = c.self.inside.store.chains.nodes in
    let turns = c.self.inside.store.turns in
    let n = c.args.frame in
    let q = c.args.queue in
    let May : BookView → Type 0 = λ v. MayUse v.state n q Pop in
    let may : MayUse state n q Pop = subst May (sym c.self.view_is) c.requires.may in
    let look = look_of state n q may in
    let Turn : BookView → Type 0 = λ v. IsOnTurn v.name v.state n in
    let turn : IsOnTurn name state n = subst Turn (sym c.self.view_is) c.requires.turn in
    let heads_now = c.front.new.self.chains.heads.items in
    let nodes_now = c.front.new.self.chains.nodes in
    let told = (c.in-Holds.ensures.told (key_at frames) is.lines is.chained) in
    let first = found_item name state frames heads nodes turns is n q look heads_now nodes_now c.front.ensures.same told in
    let item : first_item (in_line q without_spent is.lines q) ≡ Some first.value = ap first_item first.are ∙ first.item in
    let never : None ≡ Some first.value = c.in-None.ensures.item (key_at frames) (in_line q without_spent is.lines) told.0 ∙ item in
    cc
