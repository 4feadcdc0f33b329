-- Facts on the order of the frames of a tree.
use Rattle.std.proofs.Common.{◌≡◌, ◌≢◌, ℕ, ◌<◌, ◌≤◌, Some, refl, sym, ap, subst, ◌∙◌, ◌⊎◌, inl, inr, arith}
use Rattle.std.proofs.lemmas.Bool.{cases_eq}
use Rattle.pop_order.specs.Frames.{TurnFrame, Frames}
use Rattle.pop_order.specs.Order.{IsChild, IsAtOrBelow, at, below, ComesBefore, inside, aside}
use Rattle.pop_order.specs.Kept.{AreBelowParents}

module _ (frames : Frames) where
  -- a child has one parent
  pub same_parent : {p q n : ℕ} → IsChild frames p n → IsChild frames q n → p ≡ q
  same_parent {p} {q} {n} a b =
      let same : Some a.frame ≡ Some b.frame = sym a.active ∙ b.active in
      let frame : a.frame ≡ b.frame = cc in
      sym a.of ∙ ap (λ (f : TurnFrame). f.parent) frame ∙ b.of

  pub below_below : (a b c : ℕ) → IsAtOrBelow frames a b → IsAtOrBelow frames b c → IsAtOrBelow frames a c
  below_below a b c p at = p
  below_below a b c p (below parent _ child q) = below parent c child (below_below a b parent p q)

  -- of two frames above or at one, one is above or at the other
  pub one_line : (a b n : ℕ) → IsAtOrBelow frames a n → IsAtOrBelow frames b n → IsAtOrBelow frames a b ⊎ IsAtOrBelow frames b a
  one_line a b n at q = inr q
  one_line a b n (below parent _ child p) at = inl (below parent n child p)
  one_line a b n (below parent _ child p) (below other _ same q) =
      one_line a b parent p (let P : ℕ → Type 0 = λ x. IsAtOrBelow frames b x in subst P (same_parent same child) q)

  -- who is below a frame has its parent at or below it
  pub parent_below : (a p n : ℕ) → IsAtOrBelow frames a n → n ≢ a → IsChild frames p n → IsAtOrBelow frames a p
  parent_below a p n at other child = absurd (other refl)
  parent_below a p n (below parent _ same q) other child =
      let P : ℕ → Type 0 = λ x. IsAtOrBelow frames a x in subst P (same_parent same child) q

  -- the child of a frame at or below which another one is
  pub through : (a n : ℕ) → IsAtOrBelow frames a n → n ≢ a → (c : ℕ) × IsChild frames a c × IsAtOrBelow frames c n
  through a n at other = absurd (other refl)
  through a n (below parent _ child q) other =
      elim (cases_eq parent a) [
        | inl same ↦ (n, let P : ℕ → Type 0 = λ x. IsChild frames x n in subst P same child, at)
        | inr apart ↦ let up = through a parent q apart in (up.0, up.1, below parent n child up.2)
      ]

module _ (frames : Frames) (rising : AreBelowParents frames) where
  pub le_below : (a n : ℕ) → IsAtOrBelow frames a n → a ≤ n
  le_below a n at = omega arith
  le_below a n (below parent _ child q) = omega (arith, le_below a parent q, rising parent n child)

  -- nothing is at or below two children of one parent
  pub siblings_apart : (p a b n : ℕ) → IsChild frames p a → IsChild frames p b → a ≢ b → IsAtOrBelow frames a n → IsAtOrBelow frames b n → ⊥
  siblings_apart p a b n child other apart x y =
      elim (one_line frames a b n x y) [
        | inl h ↦ let up = parent_below frames a p b h (λ e. apart (sym e)) other in omega (arith, le_below a p up, rising p a child)
        | inr h ↦ let up = parent_below frames b p a h apart child in omega (arith, le_below b p up, rising p b other)
      ]

  -- no frame comes before one that is at or below it
  pub not_before_below : (n m : ℕ) → IsAtOrBelow frames n m → ComesBefore frames n m → ⊥
  not_before_below n m h (inside apart up) = apart (omega (arith, le_below n m h, le_below m n up))
  not_before_below n m h (aside p older younger a b lt x y) =
      siblings_apart p older younger m a b (λ e. omega arith) (below_below frames older n m x h) y

  -- no frame at or below a child comes before one at or below an older sibling
  pub not_before_older : (p older younger n m : ℕ) → IsChild frames p older → IsChild frames p younger → older < younger
      → IsAtOrBelow frames younger n → IsAtOrBelow frames older m → ComesBefore frames n m → ⊥
  not_before_older p older younger n m a b lt x y (inside apart up) =
      siblings_apart p older younger n a b (λ e. omega arith) (below_below frames older m n y up) x
  not_before_older p older younger n m a b lt x y (aside q other later a' b' lt' x' y') =
      elim (cases_eq younger other) [
        | inl same ↦
            let P : ℕ → Type 0 = λ k. IsChild frames p k in
            let one : p ≡ q = same_parent frames (subst P same b) a' in
            elim (cases_eq older later) [
              | inl e ↦ omega arith
              | inr e ↦ let Q : ℕ → Type 0 = λ k. IsChild frames k later in siblings_apart p older later m a (subst Q (sym one) b') e y y'
            ]
        | inr apart ↦ elim (one_line frames younger other n x x') [
          | inl h ↦
              let up = parent_below frames younger q other h (λ e. apart (sym e)) a' in
              siblings_apart p older younger m a b (λ e. omega arith) y (below_below frames younger later m (below q later b' up) y')
          | inr h ↦
              let up = parent_below frames other p younger h apart b in
              siblings_apart q other later m a' b' (λ e. omega arith) (below_below frames other older m (below p older a up) y) y'
        ]
      ]

  -- nothing is above the top of a tree
  pub not_top : (top : ℕ) → ((p : ℕ) → IsChild frames p top → ⊥) → (a : ℕ) → IsAtOrBelow frames a top → a ≡ top
  not_top top none a at = refl
  not_top top none a (below parent _ child q) = absurd (none parent child)

  -- who comes before a frame is in its tree
  pub in_one_tree : (top n m : ℕ) → ((p : ℕ) → IsChild frames p top → ⊥) → IsAtOrBelow frames top m → ComesBefore frames n m → IsAtOrBelow frames top n
  in_one_tree top n m none h (inside apart up) = below_below frames top m n h up
  in_one_tree top n m none h (aside p older younger a b lt x y) =
      elim (cases_eq younger top) [
        | inl same ↦ let P : ℕ → Type 0 = λ k. IsChild frames p k in absurd (none p (subst P same b))
        | inr apart ↦ elim (one_line frames younger top m y h) [
          | inl z ↦ absurd (apart (not_top top none younger z))
          | inr z ↦ below_below frames top older n (below p older a (parent_below frames top p younger z apart b)) x
        ]
      ]
