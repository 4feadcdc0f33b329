use Rattle.std.proofs.Common.{◌≡◌, ℕ, true, sym, ap, subst, ◌∙◌}
use Rattle.swan_model.specs.Lawful.{IsLawful}
use Rattle.swan_model.specs.QueueFollows.{AreByEnds}
use Rattle.swan_model.specs.QueueState.{ActiveFrame, QueueState, active, after_back}
use Rattle.queue_book.specs.BookView.{BookView}
use Rattle.queue_book.specs.Whole.{IsBook}
use Rattle.queue_book.proofs.BookLent.{book_back, by_none, called, recorded}
use Rattle.queues.specs.Asks.{IsRecorded, OnNext}
use Rattle.queue_book.specs.NoEnds.{no_ends}
use Rattle.queue_book.specs.Live.{is_lent_with, kept_of}
use Rattle.swan_model.proofs.Elements.{one_answer}
use Rattle.queue_book.proofs.LiveKept.{active_there}
use Rattle.queue_book.proofs.book.BookQueuesQueues.back.Goals as goal

pub take_back-requires : goal.take_back-requires
take_back-requires c =
    let is = c.self.invariant in
    let state = c.self.inside.state.means in
    let frames = c.self.inside.store.frames in
    let n = c.args.frame in
    let d = c.args.ends.deeds in
    let path = c.args.ends.path.means in
    let lent : is_lent_with (kept_of frames n) d ≡ true = ap (is_lent_with (kept_of frames n)) (sym c.deeds.ensures) ∙ sym c.is_lent.ensures ∙ c.if-not-is_lent.false in
    let told = recorded state frames is.live n d path lent in
    active_there state frames is.live n told.0.frame told.0.live

pub invariant_of-self : goal.invariant_of-self
invariant_of-self c =
    let is = c.self.invariant in
    let name = c.self.inside.name in
    let state = c.self.inside.state.means in
    let frames = c.self.inside.store.frames in
    let heads = c.self.inside.store.chains.heads.items in
    let nodes = c.self.inside.store.chains.nodes in
    let turns = c.self.inside.store.turns in
    let n = c.args.frame in
    let d = c.args.ends.deeds in
    let path = c.args.ends.path.means in
    let lent : is_lent_with (kept_of frames n) d ≡ true = ap (is_lent_with (kept_of frames n)) (sym c.deeds.ensures) ∙ sym c.is_lent.ensures ∙ c.if-not-is_lent.false in
    let told = recorded state frames is.live n d path lent in
    let P : QueueState → Type 0 = λ st. IsBook name st c.take_back.new.self heads nodes turns in
    subst P (sym (c.after.ensures ∙ called state n told.0.frame (λ g. after_back state n g.deeds) told.0.live))
    (book_back name state frames heads nodes turns is n told.0.frame told.0.live c.take_back.new.self c.take_back.ensures)

pub returns-clause-recorded : goal.returns-clause-recorded
returns-clause-recorded c =
    let is = c.self.invariant in
    let state = c.self.inside.state.means in
    let frames = c.self.inside.store.frames in
    let n = c.args.frame in
    let d = c.args.ends.deeds in
    let path = c.args.ends.path.means in
    let lent : is_lent_with (kept_of frames n) d ≡ true = ap (is_lent_with (kept_of frames n)) (sym c.deeds.ensures) ∙ sym c.is_lent.ensures ∙ c.if-not-is_lent.false in
    let told = recorded state frames is.live n d path lent in
    let own : c.args.ends.frame ≡ n = sym c.frame.ensures ∙ c.if-frame.false in
    let P : BookView → Type 0 = λ v. IsRecorded v.state n (no_ends n d path) in
    let Q : ℕ → Type 0 = λ k. IsRecorded c.args.self.now.state n (no_ends k d path) in
    subst Q (sym own) (subst P c.self.view_is told.0)

pub returns-clause-by_ends : goal.returns-clause-by_ends
returns-clause-by_ends c =
    let is = c.self.invariant in
    let state = c.self.inside.state.means in
    let frames = c.self.inside.store.frames in
    let n = c.args.frame in
    let d = c.args.ends.deeds in
    let path = c.args.ends.path.means in
    let lent : is_lent_with (kept_of frames n) d ≡ true = ap (is_lent_with (kept_of frames n)) (sym c.deeds.ensures) ∙ sym c.is_lent.ensures ∙ c.if-not-is_lent.false in
    let told = recorded state frames is.live n d path lent in
    let P : BookView → Type 0 = λ v. OnNext v.name v.state n (λ s f. IsLawful s → AreByEnds s f.path f.deeds d) in
    subst P c.self.view_is (λ s named f live lawful. by_none s f.path f.deeds d (ap (λ (g : ActiveFrame). g.deeds) (one_answer (active state n) f told.0.frame live told.0.live) ∙ told.1))

pub returns-clause-ok : goal.returns-clause-ok
returns-clause-ok c =
    let is = c.self.invariant in
    let state = c.self.inside.state.means in
    let frames = c.self.inside.store.frames in
    let n = c.args.frame in
    let d = c.args.ends.deeds in
    let path = c.args.ends.path.means in
    let lent : is_lent_with (kept_of frames n) d ≡ true = ap (is_lent_with (kept_of frames n)) (sym c.deeds.ensures) ∙ sym c.is_lent.ensures ∙ c.if-not-is_lent.false in
    let told = recorded state frames is.live n d path lent in
    let P : BookView → Type 0 = λ v. c.after.result.means ≡ after_back v.state n d in
    subst P c.self.view_is (c.after.ensures ∙ called state n told.0.frame (λ g. after_back state n g.deeds) told.0.live ∙ ap (λ k. after_back state n k) told.1)
