-- Who has a queue after frames were changed, after a child came in, and after a frame went out.
use Rattle.std.proofs.Common.{◌≡◌, ◌⊎◌, inl, inr, ℕ, ◌<◌, ◌≤◌, true, Some, List, [], ◌∷◌, ◌++◌, length, refl, sym, ap, ◌∙◌, append_assoc, append-nil, arith}
use Rattle.std.proofs.lemmas.Bool.{eq-eqb}
use Rattle.std.specs.List.{list_any}
use Rattle.std.specs.Prelude.{◌==◌, slice_get}
use Rattle.swan_model.specs.PathOrder.{comes_before}
use Rattle.swan_model.specs.QueueState.{ActiveFrame, QueueMaker, QueueRight, QueueState, active, after_finish, IsActiveChild, MayAct, MayGive}
use Rattle.swan_model.proofs.PathOrder.{how_before, IsAside, IsBelow, left-before, left-below, left-below_other, left-sibling}
use Rattle.queues.specs.Tree.{IsTree, has_queue, maker_path}
use Rattle.queues.proofs.Above.{climb, under_maker}
use Rattle.queues.proofs.TreeCalls.{lesser_before}
use Rattle.queues.proofs.Frames.{active_number, both_on}
use Rattle.queues.proofs.Owners.{IsHolder}
use Rattle.queues.proofs.TreeAdded.{IsNewest, new_live, still_live, was_live, with_frame}
use Rattle.queues.proofs.TreeChanged.{EachIsChanged, still, was}
use Rattle.queues.proofs.TreeWithout.{stays, was_there}
use Rattle.swan_model.proofs.Elements.{any_last}

-- ---- frames that were changed

module _ (before after : QueueState) (each : ActiveFrame → ActiveFrame) (actor : ℕ) (tree : IsTree before) (change : EachIsChanged before after each actor) (queue : ℕ) where
  -- who has a queue that isn't new had it before
  pub changed_was : (queue < length before.makers) ⊎ (length after.makers ≤ queue) → (number : ℕ) (path : List ℕ) → IsHolder after queue number path → IsHolder before queue number path
  changed_was there number path now =
      let old = was before after each actor tree change number now.frame now.live in
      let has : has_queue (each old.0) queue ≡ true = ap (λ (f : ActiveFrame). has_queue f queue) (sym old.2) ∙ now.has in
      record {
        frame = old.0;
        live = old.1;
        has = by old.0 old.1 has there;
        is = sym (change.kept.path old.0) ∙ ap (λ (f : ActiveFrame). f.path) (sym old.2) ∙ now.is;
      }
    where
      by : (frame : ActiveFrame) → active before number ≡ Some frame → has_queue (each frame) queue ≡ true → (queue < length before.makers) ⊎ (length after.makers ≤ queue)
          → has_queue frame queue ≡ true
      by frame live has (inl known) = sym (change.has frame queue known) ∙ has
      by frame live has (inr beyond) =
          let more = change.more in
          let new = change.new number queue frame live (omega arith) has in
          let within = new.1 in
          absurd (omega arith)

  pub changed_still : (number : ℕ) (path : List ℕ) → IsHolder before queue number path → IsHolder after queue number path
  changed_still number path old =
      let known = (tree.held number queue old.frame old.live old.has).0 in
      record {
        frame = each old.frame;
        live = still before after each actor tree change number old.frame old.live;
        has = change.has old.frame queue known ∙ old.has;
        is = change.kept.path old.frame ∙ old.is;
      }

  -- who has a new queue made it
  pub changed_new : length before.makers ≤ queue → (number : ℕ) (path : List ℕ) → IsHolder after queue number path → number ≡ actor
  changed_new fresh number path now =
      let old = was before after each actor tree change number now.frame now.live in
      (change.new number queue old.0 old.1 fresh (ap (λ (f : ActiveFrame). has_queue f queue) (sym old.2) ∙ now.has)).0

-- who gets one more right on a queue has it
pub has_made : (rights : List QueueRight) (queue : ℕ) → list_any (λ r. r.queue == queue) (rights ++ both_on queue ∷ []) ≡ true
has_made rights queue = any_last (λ (r : QueueRight). r.queue == queue) rights (both_on queue) (eq-eqb queue queue refl)

-- ---- a child that came in

module _ (state : QueueState) (parent new : ActiveFrame) (index : ℕ) (tree : IsTree state) (is : IsNewest state parent new index) (queue : ℕ) where
  pub added_was : (number : ℕ) (path : List ℕ) → IsHolder (with_frame state new) queue number path
      → IsHolder state queue number path ⊎ ((number ≡ new.number) × (has_queue new queue ≡ true) × (path ≡ new.path))
  added_was number path now = elim (was_live state parent new index tree is number now.frame now.live) [
    | inl old ↦ inl (record { frame = now.frame; live = old; has = now.has; is = now.is })
    | inr same ↦
        inr (
          sym (active_number (with_frame state new) number now.frame now.live) ∙ ap (λ (f : ActiveFrame). f.number) same,
          ap (λ (f : ActiveFrame). has_queue f queue) (sym same) ∙ now.has,
          sym now.is ∙ ap (λ (f : ActiveFrame). f.path) same,
        )
  ]

  pub added_still : (number : ℕ) (path : List ℕ) → IsHolder state queue number path → IsHolder (with_frame state new) queue number path
  added_still number path old = record {
    frame = old.frame;
    live = still_live state parent new index tree is number old.frame old.live;
    has = old.has;
    is = old.is;
  }

  pub added_new : has_queue new queue ≡ true → IsHolder (with_frame state new) queue new.number new.path
  added_new has = record { frame = new; live = new_live state parent new index tree is; has = has; is = refl }

-- what comes before a frame comes before its next child
pub before_child : (state : QueueState) (tree : IsTree state) (p child : ℕ) (gives : List QueueRight) (frame : ActiveFrame) (may : MayAct state p frame)
    (newest : state.latest < child) (lawful : MayGive frame gives) → (m : ℕ) (g : ActiveFrame) → active state m ≡ Some g → comes_before g.path frame.path ≡ true
    → comes_before g.path (frame.path ++ frame.children ∷ []) ≡ true
before_child state tree p child gives frame may newest lawful m g live first = elim (how_before g.path frame.path first) [
  | inl below ↦ by_below below
  | inr aside ↦ by_aside aside
]
  where
    by_below : IsBelow g.path frame.path → comes_before g.path (frame.path ++ frame.children ∷ []) ≡ true
    by_below below =
        let Any : ActiveFrame → Type 0 = λ f. Unit {0} in
        let way = climb state tree Any frame.path below.number (λ number parent f above rest alive of there path told. told) m g below.rest live below.is tt in
        let less = lesser_before state tree p child gives frame may newest lawful way.number below.number way.child way.live way.path in
        let left = left-below (frame.path ++ below.number ∷ []) (frame.path ++ frame.children ∷ []) below.rest
        (left-sibling frame.path below.number frame.children less) in
        ap (λ q. comes_before q (frame.path ++ frame.children ∷ [])) (below.is ∙ sym (append_assoc frame.path (below.number ∷ []) below.rest))
        ∙ left-before ((frame.path ++ below.number ∷ []) ++ below.rest) (frame.path ++ frame.children ∷ []) left

    by_aside : IsAside g.path frame.path → comes_before g.path (frame.path ++ frame.children ∷ []) ≡ true
    by_aside aside =
        let left = left-below_other ((aside.above ++ aside.number ∷ []) ++ aside.rest) (aside.above ++ aside.later ∷ []) (aside.more ++ frame.children ∷ [])
        (left-below (aside.above ++ aside.number ∷ []) (aside.above ++ aside.later ∷ []) aside.rest (left-sibling aside.above aside.number aside.later aside.less)) in
        let whole : frame.path ++ frame.children ∷ [] ≡ (aside.above ++ aside.later ∷ []) ++ (aside.more ++ frame.children ∷ []) =
        ap (λ q. q ++ frame.children ∷ []) aside.also ∙ append_assoc aside.above (aside.later ∷ aside.more) (frame.children ∷ [])
        ∙ sym (append_assoc aside.above (aside.later ∷ []) (aside.more ++ frame.children ∷ [])) in
        ap (λ q. comes_before q (frame.path ++ frame.children ∷ [])) (aside.is ∙ sym (append_assoc aside.above (aside.number ∷ []) aside.rest))
        ∙ ap (comes_before ((aside.above ++ aside.number ∷ []) ++ aside.rest)) whole
        ∙ left-before ((aside.above ++ aside.number ∷ []) ++ aside.rest) ((aside.above ++ aside.later ∷ []) ++ (aside.more ++ frame.children ∷ [])) left

-- ---- a frame that went out

module _ (state : QueueState) (gone queue : ℕ) where
  pub gone_was : (number : ℕ) (path : List ℕ) → IsHolder (after_finish state gone) queue number path → (number ≡ gone → ⊥) × IsHolder state queue number path
  gone_was number path now =
      let old = was_there state gone number now.frame now.live in
      (old.0, record { frame = now.frame; live = old.1; has = now.has; is = now.is })

  pub gone_still : (number : ℕ) (path : List ℕ) → (number ≡ gone → ⊥) → IsHolder state queue number path → IsHolder (after_finish state gone) queue number path
  gone_still number path apart old = record { frame = old.frame; live = stays state gone number old.frame apart old.live; has = old.has; is = old.is }

-- once the maker of a queue has ended, nobody has it
pub none_after_maker : (state : QueueState) (n queue : ℕ) (frame : ActiveFrame) (maker : QueueMaker) → IsTree state → active state n ≡ Some frame
    → ((child : ℕ) → ¬ IsActiveChild state n child) → slice_get state.makers queue ≡ Some maker → frame.path ≡ maker_path maker
    → (number : ℕ) (path : List ℕ) → IsHolder (after_finish state n) queue number path → ⊥
none_after_maker state n queue frame maker tree live alone at own number path now =
    let old = gone_was state n queue number path now in
    let under = under_maker state tree number queue old.1.frame maker old.1.live old.1.has at in
    by old.0 old.1.frame old.1.live under.0 (under.1 ∙ ap (λ p. p ++ under.0) (sym own))
  where
    by : (number ≡ n → ⊥) → (g : ActiveFrame) → active state number ≡ Some g → (below : List ℕ) → g.path ≡ frame.path ++ below → ⊥
    by apart g alive [] there = apart (tree.different number n g frame alive live (there ∙ append-nil frame.path))
    by apart g alive (part ∷ rest) there =
        let Any : ActiveFrame → Type 0 = λ f. Unit {0} in
        let way = climb state tree Any frame.path part (λ k parent f above more being of upper higher told. told) number g rest alive there tt in
        let same = tree.different way.parent n way.above frame way.above_live live way.above_path in
        alone way.number (record { frame = way.child; live = way.live; of = way.of ∙ ap Some same })
