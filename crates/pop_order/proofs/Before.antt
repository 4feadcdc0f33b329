-- The order of the frames of a tree: of two one comes first, and what comes before a frame comes before all
-- that the frame comes before.
use Rattle.std.proofs.Common.{◌≡◌, ◌≢◌, ℕ, sym, subst, ◌⊎◌, inl, inr, arith}
use Rattle.std.proofs.lemmas.Bool.{cases_eq, cases_lt}
use Rattle.pop_order.specs.Frames.{Frames}
use Rattle.pop_order.specs.Order.{IsChild, IsAtOrBelow, at, below, ComesBefore, inside, aside}
use Rattle.pop_order.specs.Kept.{AreBelowParents}
use Rattle.pop_order.proofs.Lineage.{same_parent, below_below, one_line, parent_below, through, le_below, not_before_below}

module _ (frames : Frames) where
  -- what is at or below a frame comes before all that the frame comes before
  before_with : (p n m : ℕ) → n ≢ m → IsAtOrBelow frames p n → ComesBefore frames p m → ComesBefore frames n m
  before_with p n m differ q (inside apart up) = inside differ (below_below frames m p n up q)
  before_with p n m differ q (aside r older younger c d lt x y) = aside r older younger c d lt (below_below frames older p n x q) y

  -- a frame below the parent of another one
  beside : (p n m : ℕ) → IsChild frames p n → n ≢ m → m ≢ p → IsAtOrBelow frames p m → ComesBefore frames n m ⊎ ComesBefore frames m n
  beside p n m child differ apart q =
      let step = through frames p m q apart in
      elim (cases_eq step.0 n) [
        | inl same ↦ let P : ℕ → Type 0 = λ k. IsAtOrBelow frames k m in inr (inside (λ e. differ (sym e)) (subst P same step.2))
        | inr other ↦ elim (cases_lt step.0 n) [
          | inl lt ↦ inr (aside p step.0 n step.1 child lt step.2 at)
          | inr ge ↦ inl (aside p n step.0 child step.1 (omega arith) at step.2)
        ]
      ]

  pub one_is_before : (top n m : ℕ) → n ≢ m → IsAtOrBelow frames top n → IsAtOrBelow frames top m → ComesBefore frames n m ⊎ ComesBefore frames m n
  one_is_before top n m differ at q = inr (inside (λ e. differ (sym e)) q)
  one_is_before top n m differ (below p _ child up) q = elim (cases_eq p m) [
    | inl same ↦ let P : ℕ → Type 0 = λ k. IsAtOrBelow frames k n in inl (inside differ (subst P same (below p n child at)))
    | inr apart ↦ elim (one_is_before top p m apart up q) [
      | inl first ↦ inl (before_with p n m differ (below p n child at) first)
      | inr later ↦ elim later [
        | inside _ under ↦ beside p n m child differ (λ e. apart (sym e)) under
        | aside r older younger c d lt x y ↦ inr (aside r older younger c d lt x (below_below frames younger p n y (below p n child at)))
      ]
    ]
  ]

  -- a frame above two of which the first comes before the second
  pub over_both : (n m : ℕ) → ComesBefore frames n m → (top : ℕ) × IsAtOrBelow frames top n × IsAtOrBelow frames top m
  over_both n m (inside apart up) = (m, up, at)
  over_both n m (aside p older younger c d lt x y) =
      (p, below_below frames p older n (below p older c at) x, below_below frames p younger m (below p younger d at) y)

  -- of two frames that come before a third one comes first
  pub one_is_first : (n m later : ℕ) → n ≢ m → ComesBefore frames n later → ComesBefore frames m later → ComesBefore frames n m ⊎ ComesBefore frames m n
  one_is_first n m later differ x y =
      let a = over_both n later x in
      let b = over_both m later y in
      elim (one_line frames a.0 b.0 later a.2 b.2) [
        | inl h ↦ one_is_before a.0 n m differ a.1 (below_below frames a.0 b.0 m h b.1)
        | inr h ↦ one_is_before b.0 n m differ (below_below frames b.0 a.0 n h a.1) b.1
      ]

module _ (frames : Frames) (rising : AreBelowParents frames) where
  pub before_before : (a b c : ℕ) → ComesBefore frames a b → ComesBefore frames b c → ComesBefore frames a c
  before_before a b c (inside apart up) second =
      before_with frames b a c
      (λ same. not_before_below frames rising b a up (let P : ℕ → Type 0 = λ k. ComesBefore frames b k in subst P (sym same) second)) up second
  before_before a b c (aside p older younger x y lt u v) (inside apart up) = elim (cases_eq younger c) [
    | inl same ↦ aside p older younger x y lt u (let P : ℕ → Type 0 = λ k. IsAtOrBelow frames younger k in subst P same at)
    | inr differ ↦ elim (one_line frames younger c b v up) [
      | inl h ↦ aside p older younger x y lt u h
      | inr h ↦
          let over = parent_below frames c p younger h differ y in
          inside (λ e. omega (arith, le_below frames rising c p over, rising p older x, le_below frames rising older a u))
          (below_below frames c p a over (below_below frames p older a (below p older x at) u))
    ]
  ]
  before_before a b c (aside p older younger x y lt u v) (aside q other later x' y' lt' u' v') = elim (cases_eq younger other) [
    | inl same ↦
        let P : ℕ → Type 0 = λ k. IsChild frames p k in
        let one : p ≡ q = same_parent frames (subst P same y) x' in
        let Q : ℕ → Type 0 = λ k. IsChild frames k later in
        aside p older later x (subst Q (sym one) y') (omega arith) u v'
    | inr differ ↦ elim (one_line frames younger other b v u') [
      | inl h ↦
          let over = parent_below frames younger q other h (λ e. differ (sym e)) x' in
          aside p older younger x y lt u (below_below frames younger q c over (below_below frames q later c (below q later y' at) v'))
      | inr h ↦
          let over = parent_below frames other p younger h differ y in
          aside q other later x' y' lt' (below_below frames other p a over (below_below frames p older a (below p older x at) u)) v'
    ]
  ]
