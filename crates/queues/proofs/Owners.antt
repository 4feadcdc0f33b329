-- The owners of a queue's chunks by their places, and the holders of the queue by their paths: the owners are the holders, in serial order.
use Rattle.std.proofs.Common.{◌≡◌, inl, inr, ℕ, suc, ◌-◌, ◌<◌, ◌≤◌, true, cond, nat_lt, Option, None, Some, List, [], refl, sym, ap, subst, ◌∙◌, append-nil, arith}
use Rattle.std.proofs.lemmas.Bool.{cases_Bool, cases_order, ltb-false, ltb-true}
use Rattle.std.specs.Option.{option_and_then}
use Rattle.std.specs.Prelude.{slice_get}
use Rattle.swan_model.specs.PathOrder.{comes_before}
use Rattle.swan_model.specs.QueueState.{ActiveFrame, QueueState, active}
use Rattle.swan_model.proofs.PathOrder.{not_before-under}
use Rattle.queues.specs.Chunks.{Chunk, Chunks, HasOwners, IsOwner}
use Rattle.queues.specs.Tree.{has_queue}
use Rattle.swan_model.proofs.Elements.{one_answer}

-- the owner of the chunk at a place
abbrev pub owner_at : Chunks → ℕ → Option ℕ
owner_at chunks index = option_and_then (λ (chunk : Chunk). chunk.owner) (slice_get chunks index)

-- an active frame has the queue, and this path
pub record IsHolder (state : QueueState) (queue number : ℕ) (path : List ℕ) : Type 0 where
  pub frame : ActiveFrame
  pub live : active state number ≡ Some frame
  pub has : has_queue frame queue ≡ true
  pub is : frame.path ≡ path

pub owns_at : (state : QueueState) (chunks : Chunks) (index number : ℕ) → IsOwner state chunks index number → owner_at chunks index ≡ Some number
owns_at state chunks index number is = ap (option_and_then (λ (chunk : Chunk). chunk.owner)) is.stands ∙ is.owns

pub owner_found : (state : QueueState) (chunks : Chunks) (index number : ℕ) → owner_at chunks index ≡ Some number → IsOwner state chunks index number
owner_found state chunks index number = by (slice_get chunks index) refl where
  by : (found : Option Chunk) → slice_get chunks index ≡ found → option_and_then (λ (chunk : Chunk). chunk.owner) found ≡ Some number → IsOwner state chunks index number
  by None stands owns = absurd (cc)
  by (Some chunk) stands owns = record { chunk = chunk; stands = stands; owns = owns }

-- the owners by their places are those who hold the queue, in the order of their paths
pub record AreOrdered (Holds : ℕ → List ℕ → Type 0) (at : ℕ → Option ℕ) : Type 0 where
  pub owners : (index number : ℕ) → at index ≡ Some number → (path : List ℕ) × Holds number path
  pub all : (number : ℕ) (path : List ℕ) → Holds number path → (index : ℕ) × (at index ≡ Some number)
  pub order : (index later number other : ℕ) (a b : List ℕ) → index < later → at index ≡ Some number → at later ≡ Some other
      → Holds number a → Holds other b → comes_before a b ≡ true

pub ordered_owners : (state : QueueState) (queue : ℕ) (chunks : Chunks) → HasOwners state queue chunks → AreOrdered (IsHolder state queue) (owner_at chunks)
ordered_owners state queue chunks owners = record {
  owners = λ index number at.
      let own = owners.owners index number (owner_found state chunks index number at) in
      (own.0.path, record { frame = own.0; live = own.1; has = own.2; is = refl });
  all = λ number path holder.
      let place = owners.all number holder.frame holder.live holder.has in
      (place.0, owns_at state chunks place.0 number place.1);
  order = λ index later number other a b less one two first second.
      let before = owners.order index later number other first.frame second.frame less (owner_found state chunks index number one)
      (owner_found state chunks later other two) first.live second.live in
      subst (λ p. comes_before p b ≡ true) first.is (subst (λ p. comes_before first.frame.path p ≡ true) second.is before);
}

pub has_owners : (state : QueueState) (queue : ℕ) (chunks : Chunks) → AreOrdered (IsHolder state queue) (owner_at chunks) → HasOwners state queue chunks
has_owners state queue chunks ordered = record {
  owners = λ index number is.
      let own = ordered.owners index number (owns_at state chunks index number is) in
      (own.1.frame, own.1.live, own.1.has);
  all = λ number frame live has.
      let place = ordered.all number frame.path (record { frame = frame; live = live; has = has; is = refl }) in
      (place.0, owner_found state chunks place.0 number place.1);
  order = λ index later number other a b less one two first second.
      ordered.order index later number other a.path b.path less (owns_at state chunks index number one) (owns_at state chunks later other two)
      (holder index number one a first) (holder later other two b second);
}
  where
    holder : (index number : ℕ) → IsOwner state chunks index number → (frame : ActiveFrame) → active state number ≡ Some frame → IsHolder state queue number frame.path
    holder index number is frame live =
        let own = (ordered.owners index number (owns_at state chunks index number is)).1 in
        let P : ActiveFrame → Type 0 = λ f. has_queue f queue ≡ true in
        record { frame = frame; live = live; has = subst P (one_answer (active state number) own.frame frame own.live live) own.has; is = refl }

-- ---- what changes nothing, or takes one out

module _ (Holds : ℕ → List ℕ → Type 0) (at : ℕ → Option ℕ) (ordered : AreOrdered Holds at) where
  -- nobody owns two chunks
  pub owns_one : (index later number : ℕ) → at index ≡ Some number → at later ≡ Some number → index ≡ later
  owns_one index later number one two = elim (cases_order index later) [
    | inl same ↦ same
    | inr differ ↦ elim differ [
      | inl less ↦ absurd (not_twice index later less one two)
      | inr more ↦ absurd (not_twice later index more two one)
    ]
  ]
    where
      not_twice : (i j : ℕ) → i < j → at i ≡ Some number → at j ≡ Some number → ⊥
      not_twice i j less first second =
          let own = ordered.owners i number first in
          let before = ordered.order i j number number own.0 own.0 less first second own.1 own.1 in
          not_before-under own.0 [] (ap (comes_before own.0) (append-nil own.0) ∙ before)

  -- the same holders, and the same owners
  pub ordered_same : (After : ℕ → List ℕ → Type 0) (now : ℕ → Option ℕ) → ((number : ℕ) (path : List ℕ) → After number path → Holds number path)
      → ((number : ℕ) (path : List ℕ) → Holds number path → After number path) → ((index : ℕ) → now index ≡ at index) → AreOrdered After now
  ordered_same After now was still same = record {
    owners = λ index number is.
        let own = ordered.owners index number (sym (same index) ∙ is) in
        (own.0, still number own.0 own.1);
    all = λ number path holds.
        let place = ordered.all number path (was number path holds) in
        (place.0, same place.0 ∙ place.1);
    order = λ index later number other a b less one two first second.
        ordered.order index later number other a b less (sym (same index) ∙ one) (sym (same later) ∙ two) (was number a first) (was other b second);
  }

  -- without a chunk that nobody owns
  pub ordered_left_out : (place : ℕ) → at place ≡ None → (now : ℕ → Option ℕ) → ((index : ℕ) → index < place → now index ≡ at index)
      → ((index : ℕ) → place ≤ index → now index ≡ at (suc index)) → AreOrdered Holds now
  ordered_left_out place none now before behind = record {
    owners = λ index number is. ordered.owners (was index) number (was_at index number is);
    all = λ number path holds. let own = ordered.all number path holds in there own.0 number own.1;
    order = λ index later number other a b less one two first second.
        ordered.order (was index) (was later) number other a b (rises index later less) (was_at index number one) (was_at later other two) first second;
  }
    where
      -- where a chunk stood that is at this place now
      was : ℕ → ℕ
      was index = cond (nat_lt index place) index (suc index)

      rises : (index later : ℕ) → index < later → was index < was later
      rises index later less = grind arith

      was_at : (index number : ℕ) → now index ≡ Some number → at (was index) ≡ Some number
      was_at index number is = elim (cases_Bool (nat_lt index place)) [
        | inl less ↦ ap (λ b. at (cond b index (suc index))) less ∙ sym (before index (ltb-true index place less)) ∙ is
        | inr not ↦ ap (λ b. at (cond b index (suc index))) not ∙ sym (behind index (ltb-false index place not)) ∙ is
      ]

      there : (index number : ℕ) → at index ≡ Some number → (later : ℕ) × (now later ≡ Some number)
      there index number is = elim (cases_order index place) [
        | inl same ↦ let e : None ≡ Some number = sym none ∙ ap at (sym same) ∙ is in absurd (cc)
        | inr differ ↦ elim differ [
          | inl less ↦ (index, before index less ∙ is)
          | inr more ↦ let one : suc (index - 1) ≡ index = omega arith in (index - 1, behind (index - 1) (omega arith) ∙ ap at one ∙ is)
        ]
      ]

  -- without one that has ended
  pub ordered_without : (After : ℕ → List ℕ → Type 0) (now : ℕ → Option ℕ) (gone : ℕ)
      → ((number : ℕ) (path : List ℕ) → After number path → (number ≡ gone → ⊥) × Holds number path)
      → ((number : ℕ) (path : List ℕ) → (number ≡ gone → ⊥) → Holds number path → After number path)
      → ((index number : ℕ) → now index ≡ Some number → (number ≡ gone → ⊥) × (at index ≡ Some number))
      → ((index number : ℕ) → (number ≡ gone → ⊥) → at index ≡ Some number → now index ≡ Some number) → AreOrdered After now
  ordered_without After now gone was still owned owns = record {
    owners = λ index number is.
        let before = owned index number is in
        let own = ordered.owners index number before.1 in
        (own.0, still number own.0 before.0 own.1);
    all = λ number path holds.
        let before = was number path holds in
        let place = ordered.all number path before.1 in
        (place.0, owns place.0 number before.0 place.1);
    order = λ index later number other a b less one two first second.
        ordered.order index later number other a b less (owned index number one).1 (owned later other two).1 (was number a first).1 (was other b second).1;
  }
