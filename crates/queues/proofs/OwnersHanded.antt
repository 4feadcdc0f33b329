-- The owners stay in serial order where a child of one takes over its chunk.
use Rattle.std.proofs.Common.{◌≡◌, ◌⊎◌, inl, inr, ℕ, ◌<◌, ◌≤◌, true, Option, Some, List, sym, ap, subst, ◌∙◌, arith}
use Rattle.std.proofs.lemmas.Bool.{cases_eq}
use Rattle.std.proofs.lemmas.Option.{same_Some}
use Rattle.swan_model.specs.PathOrder.{comes_before}
use Rattle.queues.proofs.ChunkOwners.{before, behind, to_child, WasHanded}
use Rattle.queues.proofs.Owners.{AreOrdered}

-- A child comes in among those who hold a queue, right before its parent.
pub record IsBorn (Holds After : ℕ → List ℕ → Type 0) (parent child : ℕ) (above path : List ℕ) : Type 0 where
  pub from : Holds parent above
  pub born : After child path
  pub was : (number : ℕ) (other : List ℕ) → After number other → Holds number other ⊎ ((number ≡ child) × (other ≡ path))
  pub still : (number : ℕ) (other : List ℕ) → Holds number other → After number other
  pub new : (other : List ℕ) → Holds child other → ⊥
  pub first : (other : List ℕ) → Holds parent other → comes_before path other ≡ true
  pub later : (number : ℕ) (other : List ℕ) → Holds number other → comes_before above other ≡ true → comes_before path other ≡ true
  pub earlier : (number : ℕ) (other : List ℕ) → Holds number other → comes_before other above ≡ true → comes_before other path ≡ true

module _ (Holds After : ℕ → List ℕ → Type 0) (at now : ℕ → Option ℕ) (parent child : ℕ) (above path : List ℕ) (place : ℕ)
    (ordered : AreOrdered Holds at) (born : IsBorn Holds After parent child above path) (owns : at place ≡ Some parent)
    (was : (index number : ℕ) → now index ≡ Some number → WasHanded at place child index number)
    (has : (index : ℕ) × (now index ≡ Some child)) (still : (index number : ℕ) → at index ≡ Some number → (later : ℕ) × (now later ≡ Some number)) where
  owner_now : (index number : ℕ) → WasHanded at place child index number → (other : List ℕ) × After number other
  owner_now index number (before is less) = let own = ordered.owners index number is in (own.0, born.still number own.0 own.1)
  owner_now index number (behind old is next upto) = let own = ordered.owners old number is in (own.0, born.still number own.0 own.1)
  owner_now index number (to_child is own) = (path, subst (λ n. After n path) (sym own) born.born)

  -- an owner from before is not the child
  held_before : (index number : ℕ) (other : List ℕ) → at index ≡ Some number → After number other → Holds number other
  held_before index number other is holds = elim (born.was number other holds) [
    | inl old ↦ old
    | inr new ↦
        let own = ordered.owners index number is in
        absurd (born.new own.0 (subst (λ n. Holds n own.0) new.0 own.1))
  ]

  -- the child has its own path
  born_at : (number : ℕ) (other : List ℕ) → number ≡ child → After number other → other ≡ path
  born_at number other same holds = elim (born.was number other holds) [
    | inl old ↦ absurd (born.new other (subst (λ n. Holds n other) same old))
    | inr new ↦ new.1
  ]

  from_child : (was_at other : ℕ) (b : List ℕ) → place ≤ was_at → at was_at ≡ Some other → Holds other b → comes_before path b ≡ true
  from_child was_at other b upto two holds = elim (cases_eq was_at place) [
    | inl same ↦
        let one = same_Some other parent (sym two ∙ ap at same ∙ owns) in
        born.first b (subst (λ n. Holds n b) one holds)
    | inr apart ↦ born.later other b holds (ordered.order place was_at parent other above b (omega arith) owns two born.from holds)
  ]

  order_now : (index later number other : ℕ) (a b : List ℕ) → index < later → WasHanded at place child index number → WasHanded at place child later other
      → After number a → After other b → comes_before a b ≡ true
  order_now index later number other a b less (before one early) (before two soon) first second =
      ordered.order index later number other a b less one two (held_before index number a one first) (held_before later other b two second)
  order_now index later number other a b less (before one early) (behind old two next upto) first second =
      ordered.order index old number other a b (omega arith) one two (held_before index number a one first) (held_before old other b two second)
  order_now index later number other a b less (before one early) (to_child is own) first second =
      let holds = held_before index number a one first in
      let lower = born.earlier number a holds (ordered.order index place number parent a above early one owns holds born.from) in
      ap (comes_before a) (born_at other b own second) ∙ lower
  order_now index later number other a b less (behind old one next upto) (before two soon) first second = absurd (omega arith)
  order_now index later number other a b less (behind old one next upto) (behind older two after more) first second =
      ordered.order old older number other a b (omega arith) one two (held_before old number a one first) (held_before older other b two second)
  order_now index later number other a b less (behind old one next upto) (to_child is own) first second = absurd (omega arith)
  order_now index later number other a b less (to_child is own) (before two soon) first second = absurd (omega arith)
  order_now index later number other a b less (to_child is own) (behind old two next upto) first second =
      ap (λ p. comes_before p b) (born_at number a own first) ∙ from_child old other b upto two (held_before old other b two second)
  order_now index later number other a b less (to_child is own) (to_child too mine) first second = absurd (omega arith)

  pub ordered_handed : AreOrdered After now
  ordered_handed = record {
    owners = λ index number is. owner_now index number (was index number is);
    all = λ number other holds. elim (born.was number other holds) [
      | inl old ↦ let own = ordered.all number other old in still own.0 number own.1
      | inr new ↦ (has.0, has.1 ∙ ap Some (sym new.0))
    ];
    order = λ index later number other a b less one two first second.
        order_now index later number other a b less (was index number one) (was later other two) first second;
  }
