-- What enlisting, lending and giving back do to the frames.
use Rattle.std.proofs.Common.{◌≡◌, ℕ, ◌<◌, true, false, not, ◌==◌, Option, None, Some, List, [], ◌∷◌, ◌++◌, refl, sym, ap, subst, ◌∙◌, ◌⊎◌, inl, inr, arith}
use Rattle.std.proofs.lemmas.Bool.{cases_eq, false≢true, eqb-true, eq-eqb, leb-true, or_cases, or_left, or_right, and_parts, and_from, both_ways, not-true}
use Rattle.std.proofs.lemmas.List.Folds.{list_any-append}
use Rattle.std.specs.List.Sorted.{IsStrictlySortedBy}
use Rattle.std.specs.Map.{keys_of}
use Rattle.std.specs.Ordering.{nat_cmp}
use Rattle.std.specs.Prelude.{nat_le}
use Rattle.swan_model.specs.Rights.{allows}
use Rattle.swan_model.specs.SerialState.{Holding}
use Rattle.swan_model.specs.declared.rights.Mode.{Mode}
use Rattle.swan_model.specs.declared.rights.Mode.TheVariants.{Push, Pop}
use Rattle.pop_order.specs.Children.{ChildEntry}
use Rattle.pop_order.specs.Frames.{TurnFrame, Frames, frame_at, lets_use, frames_after_enlist, frames_after_enlist_at, frames_after_lend, frames_after_lend_at, without, AreUpTo, HasNoChild, may_get, MayBeEnlisted}
use Rattle.pop_order.specs.Order.{IsChild}
use Rattle.pop_order.specs.Turns.{IsHolder}
use Rattle.pop_order.specs.Kept.{AreBelowParents, HasHolders, IsKeptFor, IsKept}
use Rattle.pop_order.specs.NumberPairs.{NumberPair}
use Rattle.pop_order.specs.Steps.{IsGrown, IsShrunk}
use Rattle.swan_model.proofs.Lookups.{at_inserted, by_inserted, at_set, by_set, at_removed, by_removed, equal_at, found_passes}
use Rattle.pop_order.proofs.Holders.{lets}
use Rattle.pop_order.proofs.Meeting.{none_or_some}
use Rattle.swan_model.proofs.Elements.{one_answer}

lets_own : (h : Holding) (mode : Mode) → allows h.mode mode ≡ true → lets h.number mode h ≡ true
lets_own h mode a = and_from _ _ (eq-eqb h.number h.number refl) a

lets_parts : (queue : ℕ) (mode : Mode) (h : Holding) → lets queue mode h ≡ true → (h.number ≡ queue) × (allows h.mode mode ≡ true)
lets_parts queue mode h e = let parts = and_parts _ _ e in (eqb-true h.number queue parts.0, parts.1)

one_lets : (queue : ℕ) (mode : Mode) (h : Holding) → lets_use (h ∷ []) queue mode ≡ true → lets queue mode h ≡ true
one_lets queue mode h e = elim (or_cases (lets queue mode h) false e) [ inl is ↦ is | inr never ↦ absurd (false≢true never) ]

more_lets : (hs : List Holding) (queue : ℕ) (mode : Mode) (h : Holding) → lets_use (hs ++ h ∷ []) queue mode ≡ true
    → (lets_use hs queue mode ≡ true) ⊎ (lets queue mode h ≡ true)
more_lets hs queue mode h e =
    elim (or_cases (lets_use hs queue mode) (lets_use (h ∷ []) queue mode) (sym (list_any-append (lets queue mode) hs (h ∷ [])) ∙ e)) [
      | inl was ↦ inl was
      | inr now ↦ inr (one_lets queue mode h now)
    ]

still_lets : (hs : List Holding) (queue : ℕ) (mode : Mode) (h : Holding) → lets_use hs queue mode ≡ true → lets_use (hs ++ h ∷ []) queue mode ≡ true
still_lets hs queue mode h e = list_any-append (lets queue mode) hs (h ∷ []) ∙ or_left _ _ e

now_lets : (hs : List Holding) (mode : Mode) (h : Holding) → allows h.mode mode ≡ true → lets_use (hs ++ h ∷ []) h.number mode ≡ true
now_lets hs mode h a = list_any-append (lets h.number mode) hs (h ∷ []) ∙ or_right _ _ (or_left _ false (lets_own h mode a))

-- ---- enlisting

-- the newest frame has no children
childless : (frames : Frames) (child : ℕ) → AreBelowParents frames → AreUpTo frames child → (n : ℕ) → IsChild frames child n → ⊥
childless frames child rising newest n is =
    let before = rising child n is in
    let upto = leb-true n child (found_passes nat_cmp equal_at (λ (f : ℕ × TurnFrame). nat_le f.0 child) frames n is.frame newest is.active) in
    omega arith

module _ (frames : Frames) (parent child : ℕ) (holding : Holding) (rising : AreBelowParents frames) (newest : AreUpTo frames child) where
  grown_at : (found : Option TurnFrame) → frame_at frames child ≡ found → may_get found parent holding.number ≡ true
      → IsGrown frames (frames_after_enlist_at frames parent child holding found) parent child holding
  grown_at None e fits = record {
    frame = record { parent = parent; holdings = holding ∷ []; lent = false };
    one = record { changed = at_inserted frames child _; others = λ n apart. by_inserted frames child _ n apart };
    of = refl;
    was_of = λ other is. absurd (none_or_some e is);
    held = λ queue mode held. inr (lets_parts queue mode holding (one_lets queue mode holding held));
    still = λ queue mode is. absurd (none_or_some {frames = frames} {p = is.frame.parent} {n = child} e (record { frame = is.frame; active = is.active; of = refl }));
    new = λ mode a. or_left _ false (lets_own holding mode a);
    childless = childless frames child rising newest;
  }
  grown_at (Some f) e fits = record {
    frame = record f { holdings = f.holdings ++ holding ∷ [] };
    one = record { changed = at_set frames child f _ e; others = λ n apart. by_set frames child f _ n e apart };
    of = eqb-true f.parent parent (and_parts _ _ fits).0;
    was_of = λ other is. sym is.of ∙ ap (λ (g : TurnFrame). g.parent) (one_answer (frame_at frames child) is.frame f is.active e) ∙ eqb-true f.parent parent (and_parts _ _ fits).0;
    held = λ queue mode held. elim (more_lets f.holdings queue mode holding held) [
      | inl was ↦ inl (record { frame = f; active = e; held = was })
      | inr now ↦ inr (lets_parts queue mode holding now)
    ];
    still = λ queue mode is.
        let P : TurnFrame → Type 0 = λ g. lets_use g.holdings queue mode ≡ true in
        still_lets f.holdings queue mode holding (subst P (one_answer (frame_at frames child) is.frame f is.active e) is.held);
    new = λ mode a. now_lets f.holdings mode holding a;
    childless = childless frames child rising newest;
  }

  pub grown_enlisted : MayBeEnlisted frames parent child holding.number → IsGrown frames (frames_after_enlist frames parent child holding) parent child holding
  grown_enlisted fits = grown_at (frame_at frames child) refl fits

  pub below_enlisted : parent < child → MayBeEnlisted frames parent child holding.number → AreBelowParents (frames_after_enlist frames parent child holding)
  below_enlisted under fits p n is =
      let grown = grown_enlisted fits in
      elim (cases_eq n child) [
        | inl same ↦
            let P : ℕ → Type 0 = λ k. IsChild (frames_after_enlist frames parent child holding) p k in
            let is_child = subst P same is in
            let one : p ≡ parent = sym is_child.of ∙ ap (λ (g : TurnFrame). g.parent) (one_answer (frame_at (frames_after_enlist frames parent child holding) child) is_child.frame grown.frame is_child.active grown.one.changed) ∙ grown.of in
            omega arith
        | inr apart ↦ rising p n (record { frame = is.frame; active = sym (grown.one.others n apart) ∙ is.active; of = is.of })
      ]

-- ---- giving back

pub shrunk_without : (frames : Frames) (parent child : ℕ) → IsStrictlySortedBy nat_cmp (keys_of frames) → IsChild frames parent child → HasNoChild frames child
    → IsShrunk frames (without frames child) parent child
shrunk_without frames parent child sorted is none = record {
  one = record { changed = at_removed frames child sorted; others = λ n apart. by_removed frames child n sorted apart };
  was = is;
  childless = λ n below. both_ways (below.frame.parent == child) (not-true (below.frame.parent == child) (found_passes nat_cmp equal_at (λ (f : ℕ × TurnFrame). not (f.1.parent == child)) frames n below.frame none below.active))
      (let P : ℕ → Type 0 = λ k. (below.frame.parent == k) ≡ true in subst P below.of (eq-eqb below.frame.parent below.frame.parent refl));
}

pub below_shrunk : (before after : Frames) (parent child : ℕ) → IsShrunk before after parent child → AreBelowParents before → AreBelowParents after
below_shrunk before after parent child shrunk rising p n is =
    elim (cases_eq n child) [
      | inl same ↦ absurd (none_or_some shrunk.one.changed (let P : ℕ → Type 0 = λ k. IsChild after p k in subst P same is))
      | inr apart ↦ rising p n (record { frame = is.frame; active = sym (shrunk.one.others n apart) ∙ is.active; of = is.of })
    ]

-- ---- lending

-- frames with the same parents and the same queues
record IsAlike (before after : Frames) : Type 0 where
  there : (n : ℕ) (f : TurnFrame) → frame_at before n ≡ Some f → (g : TurnFrame) × (frame_at after n ≡ Some g) × (g.parent ≡ f.parent) × (g.holdings ≡ f.holdings)

module _ (before after : Frames) (alike : IsAlike before after) where
  child_alike : (p n : ℕ) → IsChild before p n → IsChild after p n
  child_alike p n is = let g = alike.there n is.frame is.active in record { frame = g.0; active = g.1; of = g.2 ∙ is.of }

  holder_alike : (q : ℕ) (m : Mode) (n : ℕ) → IsHolder before q m n → IsHolder after q m n
  holder_alike q m n is =
      let g = alike.there n is.frame is.active in
      let P : List Holding → Type 0 = λ hs. lets_use hs q m ≡ true in
      record { frame = g.0; active = g.1; held = subst P (sym g.3) is.held }

module _ (before after : Frames) (alike : IsAlike before after) (back : IsAlike after before) where
  holders_alike : (q : ℕ) (m : Mode) (set : List ChildEntry) → HasHolders before m q set → HasHolders after m q set
  holders_alike q m set h = record {
    holders = λ p c k. let was = h.holders p c k in (child_alike before after alike p c was.0, holder_alike before after alike q m c was.1);
    all = λ p c is holder. h.all p c (child_alike after before back p c is) (holder_alike after before back q m c holder);
  }

  kept_for_alike : (poppers pushers : List ChildEntry) (givers : List NumberPair) (q : ℕ) → IsKeptFor before poppers pushers givers q → IsKeptFor after poppers pushers givers q
  kept_for_alike poppers pushers givers q kept = record {
    pops = holders_alike q Pop poppers kept.pops;
    pushes = holders_alike q Push pushers kept.pushes;
    gives = record {
      gave = kept.gives.gave;
      apart = λ n k holder. kept.gives.apart n k (holder_alike after before back q Push n holder);
      all = λ n c h never. kept.gives.all n c h (λ holder. never (holder_alike before after alike q Push n holder));
    };
  }

  kept_alike : (poppers pushers : List ChildEntry) (givers : List NumberPair) → IsStrictlySortedBy nat_cmp (keys_of after) → IsKept before poppers pushers givers → IsKept after poppers pushers givers
  kept_alike poppers pushers givers sorted kept = record {
    sorted = sorted;
    below = λ p n is. kept.below p n (child_alike after before back p n is);
    sets = λ q. kept_for_alike poppers pushers givers q (kept.sets q);
  }

lent_alike : (frames : Frames) (child : ℕ) (found : Option TurnFrame) → frame_at frames child ≡ found → IsAlike frames (frames_after_lend_at frames child found)
lent_alike frames child None e = record { there = λ n f is. (f, is, refl, refl) }
lent_alike frames child (Some g) e = record {
  there = λ n f is. elim (cases_eq n child) [
    | inl same ↦
        let P : ℕ → Type 0 = λ k. frame_at frames k ≡ Some f in
        let one = one_answer (frame_at frames child) f g (subst P same is) e in
        let lent : TurnFrame = record g { lent = true } in
        let Q : ℕ → Type 0 = λ k. frame_at (frames_after_lend_at frames child (Some g)) k ≡ Some lent in
        (lent, subst Q (sym same) (at_set frames child g lent e), ap (λ (h : TurnFrame). h.parent) (sym one), ap (λ (h : TurnFrame). h.holdings) (sym one))
    | inr apart ↦ (f, by_set frames child g _ n e apart ∙ is, refl, refl)
  ];
}

lent_back : (frames : Frames) (child : ℕ) (found : Option TurnFrame) → frame_at frames child ≡ found → IsAlike (frames_after_lend_at frames child found) frames
lent_back frames child None e = record { there = λ n f is. (f, is, refl, refl) }
lent_back frames child (Some g) e = record {
  there = λ n f is. elim (cases_eq n child) [
    | inl same ↦
        let lent : TurnFrame = record g { lent = true } in
        let P : ℕ → Type 0 = λ k. frame_at (frames_after_lend_at frames child (Some g)) k ≡ Some f in
        let one = one_answer (frame_at (frames_after_lend_at frames child (Some g)) child) f lent (subst P same is) (at_set frames child g lent e) in
        let Q : ℕ → Type 0 = λ k. frame_at frames k ≡ Some g in
        (g, subst Q (sym same) e, ap (λ (h : TurnFrame). h.parent) (sym one), ap (λ (h : TurnFrame). h.holdings) (sym one))
    | inr apart ↦ (f, sym (by_set frames child g _ n e apart) ∙ is, refl, refl)
  ];
}

pub kept_lent : (frames : Frames) (child : ℕ) (poppers pushers : List ChildEntry) (givers : List NumberPair) → IsStrictlySortedBy nat_cmp (keys_of (frames_after_lend frames child))
    → IsKept frames poppers pushers givers → IsKept (frames_after_lend frames child) poppers pushers givers
kept_lent frames child poppers pushers givers sorted kept =
    kept_alike frames (frames_after_lend frames child) (lent_alike frames child (frame_at frames child) refl) (lent_back frames child (frame_at frames child) refl)
    poppers pushers givers sorted kept
