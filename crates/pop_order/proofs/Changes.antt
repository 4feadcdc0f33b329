-- What a set of children has after an entry came in or went out.
use Rattle.std.proofs.Common.{◌≡◌, ◌≢◌, ℕ, true, ◌&&◌, ◌||◌, not, List, refl, sym, ap, ◌∙◌, ◌⊎◌, inl, inr, arith}
use Rattle.std.proofs.lemmas.Bool.{and_from, and_parts, false_from_ne_true, false≢true, not-true, or_cases, or_left, or_right}
use Rattle.std.proofs.lemmas.Bool.Decides.{nat_tests}
use Rattle.pop_order.specs.Children.{ChildEntry, has, is_entry, IsWith, IsWithout, IsSameFor}
use Rattle.pop_order.specs.NumberPairs.{NumberPair, has_pair, is_pair, IsWithPair, IsWithoutPair}

-- an entry is another one
pub record IsSame (parent queue child p q c : ℕ) : Type 0 where
  pub parents : parent ≡ p
  pub queues : queue ≡ q
  pub children : child ≡ c

is_same : (parent queue child p q c : ℕ) → is_entry parent queue child p q c ≡ true → IsSame parent queue child p q c
is_same parent queue child p q c h = record {
  parents = grind (arith, nat_tests);
  queues = grind (arith, nat_tests);
  children = grind (arith, nat_tests);
}

is_entry_same : (parent queue child p q c : ℕ) → IsSame parent queue child p q c → is_entry parent queue child p q c ≡ true
is_entry_same parent queue child p q c s =
    let a = s.parents in let b = s.queues in let d = s.children in grind (arith, nat_tests)

module _ (before after : List ChildEntry) (parent queue child : ℕ) (change : IsWith before parent queue child after) where
  pub came_in : has after parent queue child ≡ true
  came_in = change parent queue child ∙ or_left _ _ (is_entry_same parent queue child parent queue child (record { parents = refl; queues = refl; children = refl }))

  pub still_in : (p q c : ℕ) → has before p q c ≡ true → has after p q c ≡ true
  still_in p q c h = change p q c ∙ or_right _ _ h

  pub in_after : (p q c : ℕ) → has after p q c ≡ true → IsSame parent queue child p q c ⊎ (has before p q c ≡ true)
  in_after p q c h = elim (or_cases _ _ (sym (change p q c) ∙ h)) [
    | inl same ↦ inl (is_same parent queue child p q c same)
    | inr was ↦ inr was
  ]

module _ (before after : List ChildEntry) (parent queue child : ℕ) (change : IsWithout before parent queue child after) where
  pub was_in : (p q c : ℕ) → has after p q c ≡ true → has before p q c ≡ true
  was_in p q c h = (and_parts _ _ (sym (change p q c) ∙ h)).1

  pub is_another : (p q c : ℕ) → has after p q c ≡ true → IsSame parent queue child p q c → ⊥
  is_another p q c h s = false≢true (sym (not-true _ (and_parts _ _ (sym (change p q c) ∙ h)).0) ∙ is_entry_same parent queue child p q c s)

  pub stays_in : (p q c : ℕ) → (IsSame parent queue child p q c → ⊥) → has before p q c ≡ true → has after p q c ≡ true
  stays_in p q c another h = change p q c ∙ and_from _ _ (ap not (false_from_ne_true _ (λ e. another (is_same parent queue child p q c e)))) h

-- an entry of one queue changes nothing for another
pub others_with : (before after : List ChildEntry) (parent queue child : ℕ) → IsWith before parent queue child after
    → (other : ℕ) → other ≢ queue → IsSameFor other before after
others_with before after parent queue child change other apart = λ p c.
    change p other c ∙ ap (λ b. b || has before p other c) (false_from_ne_true _ (λ e. apart (sym (is_same parent queue child p other c e).queues)))

pub others_without : (before after : List ChildEntry) (parent queue child : ℕ) → IsWithout before parent queue child after
    → (other : ℕ) → other ≢ queue → IsSameFor other before after
others_without before after parent queue child change other apart = λ p c.
    change p other c ∙ ap (λ b. not b && has before p other c) (false_from_ne_true _ (λ e. apart (sym (is_same parent queue child p other c e).queues)))

-- ---- givers

giver_same : (queue number q n : ℕ) → is_pair queue number q n ≡ true → (queue ≡ q) × (number ≡ n)
giver_same queue number q n h = (grind (arith, nat_tests), grind (arith, nat_tests))

same_giver : (queue number : ℕ) → is_pair queue number queue number ≡ true
same_giver queue number = grind (arith, nat_tests)

module _ (before after : List NumberPair) (queue number : ℕ) (change : IsWithPair before queue number after) where
  pub giver_in : has_pair after queue number ≡ true
  giver_in = change queue number ∙ or_left _ _ (same_giver queue number)

  pub giver_still : (q n : ℕ) → has_pair before q n ≡ true → has_pair after q n ≡ true
  giver_still q n h = change q n ∙ or_right _ _ h

  pub giver_after : (q n : ℕ) → has_pair after q n ≡ true → ((queue ≡ q) × (number ≡ n)) ⊎ (has_pair before q n ≡ true)
  giver_after q n h = elim (or_cases _ _ (sym (change q n) ∙ h)) [
    | inl same ↦ inl (giver_same queue number q n same)
    | inr was ↦ inr was
  ]

module _ (before after : List NumberPair) (queue number : ℕ) (change : IsWithoutPair before queue number after) where
  pub giver_was : (q n : ℕ) → has_pair after q n ≡ true → has_pair before q n ≡ true
  giver_was q n h = (and_parts _ _ (sym (change q n) ∙ h)).1

  pub giver_gone : has_pair after queue number ≡ true → ⊥
  giver_gone h = false≢true (sym (not-true _ (and_parts _ _ (sym (change queue number) ∙ h)).0) ∙ same_giver queue number)

  pub giver_stays : (q n : ℕ) → n ≢ number → has_pair before q n ≡ true → has_pair after q n ≡ true
  giver_stays q n apart h = change q n ∙ and_from _ _ (ap not (false_from_ne_true _ (λ e. apart (sym (giver_same queue number q n e).1)))) h

  pub other_givers : (q : ℕ) → q ≢ queue → (n : ℕ) → has_pair after q n ≡ has_pair before q n
  other_givers q apart n = change q n ∙ ap (λ b. not b && has_pair before q n) (false_from_ne_true _ (λ e. apart (sym (giver_same queue number q n e).0)))
