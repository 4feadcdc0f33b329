-- The ways up from two frames to where they meet.
use Rattle.std.proofs.Common.{◌≡◌, ◌≢◌, ℕ, ◌<◌, true, false, Option, None, Some, refl, sym, subst, ◌∙◌, inl, inr, arith, nat_lt}
use Rattle.std.proofs.lemmas.Bool.{cases_eq, false≢true, ltb-true}
use Rattle.std.proofs.lemmas.Bool.Decides.{nat_tests}
use Rattle.pop_order.specs.Frames.{TurnFrame, Frames, frame_at}
use Rattle.pop_order.specs.Order.{IsChild, IsAtOrBelow, at, below, ComesBefore, inside, aside}
use Rattle.pop_order.specs.Kept.{AreBelowParents}
use Rattle.pop_order.specs.Walk.{is_older}
use Rattle.pop_order.proofs.Before.{over_both}
use Rattle.pop_order.proofs.Lineage.{below_below, parent_below, le_below, not_before_below, not_before_older, not_top}

pub none_or_some : {frames : Frames} {p n : ℕ} → frame_at frames n ≡ None → IsChild frames p n → ⊥
none_or_some top child = let e : None ≡ Some child.frame = sym top ∙ child.active in cc

pub child_at : {frames : Frames} {n : ℕ} (f : TurnFrame) (p : ℕ) → Some f ≡ frame_at frames n → f.parent ≡ p → IsChild frames p n
child_at f p active of = record { frame = f; active = sym active; of = of }

-- a way up from a frame, through a child of the frame that it is at
abbrev pub IsWay : Frames → ℕ → ℕ → Option ℕ → Type 0
IsWay frames number node None = node ≡ number
IsWay frames number node (Some child) = IsChild frames node child × IsAtOrBelow frames child number

-- two ways up, which no frame above both has passed
pub record IsMeeting (frames : Frames) (number other left right : ℕ) (left_child right_child : Option ℕ) : Type 0 where
  pub left_way : IsWay frames number left left_child
  pub right_way : IsWay frames other right right_child
  pub common : (over : ℕ) → IsAtOrBelow frames over number → IsAtOrBelow frames over other → IsAtOrBelow frames over left × IsAtOrBelow frames over right

not_lt_of : (a b : ℕ) → nat_lt a b ≡ false → a ≢ b → b < a
not_lt_of a b h apart = grind (arith, nat_tests)

module _ (frames : Frames) where
  over : (number node : ℕ) (child : Option ℕ) → IsWay frames number node child → IsAtOrBelow frames node number
  over number node None way = let P : ℕ → Type 0 = λ k. IsAtOrBelow frames node k in subst P way at
  over number node (Some child) way = below_below frames node child number (below node child way.0 at) way.1

  pub start : (number other : ℕ) → IsMeeting frames number other number other None None
  start number other = record { left_way = refl; right_way = refl; common = λ x a b. (a, b) }

module _ (frames : Frames) (rising : AreBelowParents frames) (number other left right : ℕ) (left_child right_child : Option ℕ)
    (meeting : IsMeeting frames number other left right left_child right_child) where
  pub left_up : (p : ℕ) → IsChild frames p left → right < left → IsMeeting frames number other p right (Some left) right_child
  left_up p child lt = record {
    left_way = (child, over frames number left left_child meeting.left_way);
    right_way = meeting.right_way;
    common = λ x a b.
        let both = meeting.common x a b in
        (parent_below frames x p left both.0 (λ e. omega (arith, le_below frames rising x right both.1)) child, both.1);
  }

  pub right_up : (p : ℕ) → IsChild frames p right → left < right → IsMeeting frames number other left p left_child (Some right)
  right_up p child lt = record {
    left_way = meeting.left_way;
    right_way = (child, over frames other right right_child meeting.right_way);
    common = λ x a b.
        let both = meeting.common x a b in
        (both.0, parent_below frames x p right both.1 (λ e. omega (arith, le_below frames rising x left both.0)) child);
  }

  -- a way that ends below the other one meets it nowhere
  pub left_ends : frame_at frames left ≡ None → right < left → ¬ ComesBefore frames number other
  left_ends top lt before =
      let whole = over_both frames number other before in
      let both = meeting.common whole.0 whole.1 whole.2 in
      let same = not_top frames rising left (λ p child. none_or_some top child) whole.0 both.0 in
      omega (arith, le_below frames rising whole.0 right both.1)

  pub right_ends : frame_at frames right ≡ None → left < right → ¬ ComesBefore frames number other
  right_ends top lt before =
      let whole = over_both frames number other before in
      let both = meeting.common whole.0 whole.1 whole.2 in
      let same = not_top frames rising right (λ p child. none_or_some top child) whole.0 both.1 in
      omega (arith, le_below frames rising whole.0 left both.0)

module _ (frames : Frames) (rising : AreBelowParents frames) (number other node : ℕ) where
  -- where they meet, the children tell which comes first
  pub met : (left_child right_child : Option ℕ) → IsMeeting frames number other node node left_child right_child → is_older left_child right_child ≡ true
      → ComesBefore frames number other
  met None right_child m older = absurd (false≢true older)
  met (Some left) None m older =
      let P : ℕ → Type 0 = λ k. IsAtOrBelow frames k number in
      let same : node ≡ other = m.right_way in
      inside (λ e. omega (arith, le_below frames rising left number m.left_way.1, rising node left m.left_way.0))
      (subst P same (over frames number node (Some left) m.left_way))
  met (Some left) (Some right) m older =
      aside node left right m.left_way.0 m.right_way.0 (ltb-true left right older) m.left_way.1 m.right_way.1

  pub not_met : (left_child right_child : Option ℕ) → IsMeeting frames number other node node left_child right_child → is_older left_child right_child ≡ false
      → ¬ ComesBefore frames number other
  not_met None right_child m not_older before =
      let P : ℕ → Type 0 = λ k. IsAtOrBelow frames k other in
      not_before_below frames rising number other (subst P m.left_way (over frames other node right_child m.right_way)) before
  not_met (Some left) None m not_older before = false≢true (sym not_older)
  not_met (Some left) (Some right) m not_older before = elim (cases_eq left right) [
    | inl same ↦
        let P : ℕ → Type 0 = λ k. IsAtOrBelow frames k other in
        let both = m.common left m.left_way.1 (subst P (sym same) m.right_way.1) in
        omega (arith, le_below frames rising left node both.0, rising node left m.left_way.0)
    | inr apart ↦ not_before_older frames rising node right left number other m.right_way.0 m.left_way.0 (not_lt_of left right not_older apart)
        m.left_way.1 m.right_way.1 before
  ]
