-- States whose frames are the same holders: the same tasks with the same rights, whose deeds and lent ends may differ.
use Rattle.std.proofs.Common.{◌≡◌, inl, inr, ℕ, Option, Some, None, List, refl, sym, subst}
use Rattle.std.proofs.lemmas.Bool.{cases_eq}
use Rattle.std.specs.List.{list_any}
use Rattle.std.specs.Prelude.{◌==◌, true}
use Rattle.swan_model.specs.QueueState.{ActiveFrame, QueueMaker, QueueState, QueueRight, LentEnd, active, after_back, after_deed, after_lend, after_take_rest, with_deed}
use Rattle.pop_order.specs.OneChange.{IsOnlyChange}
use Rattle.queues.specs.Tree.{IsInUse}
use Rattle.queues.proofs.ActiveAfter.{one_changed, one_goes_on}

pub record IsSameHolder (frame now : ActiveFrame) : Type 0 where
  pub parent : now.parent ≡ frame.parent
  pub path : now.path ≡ frame.path
  pub rights : now.rights ≡ frame.rights

abbrev pub SameHolder : Option ActiveFrame → Option ActiveFrame → Type 0
SameHolder None None = Unit {0}
SameHolder (Some frame) (Some now) = IsSameHolder frame now
SameHolder None (Some now) = ⊥
SameHolder (Some frame) None = ⊥

abbrev pub AreSameHolders : QueueState → QueueState → Type 0
AreSameHolders state after = (number : ℕ) → SameHolder (active state number) (active after number)

pub holder_itself : (found : Option ActiveFrame) → SameHolder found found
holder_itself None = tt
holder_itself (Some frame) = record { parent = refl; path = refl; rights = refl }

pub holder_same : (found other : Option ActiveFrame) → other ≡ found → SameHolder found other
holder_same found other e = let P : Option ActiveFrame → Type 0 = λ o. SameHolder found o in subst P (sym e) (holder_itself found)

-- a frame that is active after was so before
pub holder_before : (found other : Option ActiveFrame) (now : ActiveFrame) → SameHolder found other → other ≡ Some now → (frame : ActiveFrame) × (found ≡ Some frame) × IsSameHolder frame now
holder_before None None now is e = let never : None ≡ Some now = e in absurd (cc)
holder_before (Some frame) (Some later) now is e = let same : later ≡ now = cc in let P : ActiveFrame → Type 0 = λ f. IsSameHolder frame f in (frame, refl, subst P same is)
holder_before None (Some later) now is e = absurd is
holder_before (Some frame) None now is e = absurd is

-- and the other way round
pub holder_after : (found other : Option ActiveFrame) (frame : ActiveFrame) → SameHolder found other → found ≡ Some frame → (now : ActiveFrame) × (other ≡ Some now) × IsSameHolder frame now
holder_after None None frame is e = let never : None ≡ Some frame = e in absurd (cc)
holder_after (Some first) (Some now) frame is e = let same : first ≡ frame = cc in let P : ActiveFrame → Type 0 = λ f. IsSameHolder f now in (now, refl, subst P same is)
holder_after None (Some now) frame is e = absurd is
holder_after (Some first) None frame is e = absurd is

-- so it is where one frame goes on, and keeps its parent, its path and its rights
pub holders_of_one : (state after : QueueState) (n : ℕ) (frame now : ActiveFrame) → IsOnlyChange (active state) (active after) n (Some now) → active state n ≡ Some frame → IsSameHolder frame now
    → AreSameHolders state after
holders_of_one state after n frame now one live is m = elim (cases_eq m n) [
  | inl same ↦
      let P : ℕ → Type 0 = λ k. SameHolder (active state k) (active after k) in
      let Q : Option ActiveFrame → Type 0 = λ o. SameHolder o (active after n) in
      let R : Option ActiveFrame → Type 0 = λ o. SameHolder (Some frame) o in
      subst P (sym same) (subst Q (sym live) (subst R (sym one.changed) is))
  | inr other ↦ holder_same (active state m) (active after m) (one.others m other)
]

module _ (state : QueueState) (n : ℕ) (frame : ActiveFrame) (live : active state n ≡ Some frame) where
  pub holders_deed : AreSameHolders state (after_deed state n)
  holders_deed = holders_of_one state (after_deed state n) n frame (with_deed frame) (one_changed state n with_deed (λ f. refl) frame live) live (record { parent = refl; path = refl; rights = refl })

  pub holders_lend : (ends : List LentEnd) → AreSameHolders state (after_lend state frame ends)
  holders_lend ends =
      let lent : ActiveFrame → ActiveFrame = λ f. record f { lent = Some (record { deeds = frame.deeds; ends = ends }) } in
      holders_of_one state (after_lend state frame ends) n frame (lent frame) (one_goes_on state n frame lent (λ f. refl) live) live (record { parent = refl; path = refl; rights = refl })

  pub holders_back : (deeds : ℕ) → AreSameHolders state (after_back state n deeds)
  holders_back deeds =
      let back : ActiveFrame → ActiveFrame = λ f. record f { deeds = deeds; lent = None } in
      holders_of_one state (after_back state n deeds) n frame (back frame) (one_changed state n back (λ f. refl) frame live) live (record { parent = refl; path = refl; rights = refl })

pub holders_rest : (state : QueueState) (queue : ℕ) → AreSameHolders state (after_take_rest state queue)
holders_rest state queue number = holder_itself (active state number)

pub in_use_back : (state after : QueueState) (queue : ℕ) (maker : QueueMaker) → AreSameHolders state after → IsInUse after queue maker → IsInUse state queue maker
in_use_back state after queue maker same (inl of_root) = inl of_root
in_use_back state after queue maker same (inr (number, now, live, has)) =
    let was = holder_before (active state number) (active after number) now (same number) live in
    let P : List QueueRight → Type 0 = λ rights. list_any (λ right. right.queue == queue) rights ≡ true in
    inr (number, was.0, was.1, subst P was.2.rights has)
