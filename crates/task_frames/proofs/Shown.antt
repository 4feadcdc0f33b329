-- What ends show after a push, a pop or a test of a frame, served or not.
use Rattle.std.proofs.Common.{◌≡◌, inl, inr, ◌⊎◌, ℕ, ◌+◌, ◌≤◌, Bool, true, false, List, Option, Some, refl, sym, ap, subst, ◌∙◌, arith}
use Rattle.std.proofs.lemmas.Option.{same_Some}
use Rattle.std.specs.Option.{ForSome}
use Rattle.swan_model.specs.declared.body.Ask.{Ask}
use Rattle.swan_model.specs.declared.body.Ask.TheVariants as ask
use Rattle.swan_model.specs.declared.rights.Mode.TheVariants.{Push, Pop}
use Rattle.swan_model.specs.declared.script.Script.{Script}
use Rattle.swan_model.specs.declared.value.Value.{Value}
use Rattle.swan_model.specs.SerialState.{Holding}
use Rattle.swan_model.specs.SerialStep.{number_at}
use Rattle.queues.specs.Asks.{LentEnds, has_end}
use Rattle.queues.specs.Ends.{AreOtherCounts, EndCounts, HasLooked, HasPopped, HasPushed, HasTested, IsNextPop, IsNextPush, IsNextTest, WasEmpty, WasRefused}
use Rattle.task_frames.specs.Going.{AreLater, Counts, IsLater, IsNextDeed, IsNotServed, WasEmptySince, WasFullSince, full, counted}

pub same-later : (shown : EndCounts) → IsLater shown shown
same-later shown = record { size = refl; moved = omega arith; tested = omega arith; looks = omega arith; found = omega arith }

pub then-later : (before between after : EndCounts) → IsLater before between → IsLater between after → IsLater before after
then-later before between after one two =
    record {
      size = two.size ∙ one.size;
      moved = omega (arith, one.moved, two.moved);
      tested = omega (arith, one.tested, two.tested);
      looks = let a = one.looks in let b = two.looks in omega (arith, a, b);
      found = omega (arith, one.found, two.found);
    }

looked-later : (before after : EndCounts) → HasLooked before after → before.moved ≤ after.moved → before.tested ≤ after.tested
    → after.moved + after.tested ≤ before.moved + before.tested + 1 → IsLater before after
looked-later before after looked more tests most = record { size = looked.size; moved = more; tested = tests; looks = omega (arith, looked.looks, most); found = looked.risen }

-- it moved nothing and found nothing by a test, or it moved one item
still-later : (before after : EndCounts) → HasLooked before after → after.moved ≡ before.moved → after.tested ≡ before.tested → IsLater before after
still-later before after looked moved tested = looked-later before after looked (omega (arith, moved)) (omega (arith, tested)) (omega (arith, moved, tested))

moved-later : (before after : EndCounts) → HasLooked before after → after.moved ≡ before.moved + 1 → after.tested ≡ before.tested → IsLater before after
moved-later before after looked moved tested = looked-later before after looked (omega (arith, moved)) (omega (arith, tested)) (omega (arith, moved, tested))

other-or-same : (other queue : ℕ) (side is_producer : Bool) → ((other ≡ queue → ⊥) ⊎ (side ≡ is_producer → ⊥)) ⊎ ((other ≡ queue) × (side ≡ is_producer))
other-or-same other queue side is_producer = grind arith

-- all ends show what they showed, where one alone shows it anew
pub all-later : (ends : LentEnds) (before after : Counts) (queue : ℕ) (is_producer : Bool) → AreOtherCounts before after queue is_producer
    → (has_end ends queue is_producer ≡ true → IsLater (before queue is_producer) (after queue is_producer)) → AreLater ends before after
all-later ends before after queue is_producer others this other side has = elim (other-or-same other queue side is_producer) [
  | inl different ↦ subst (IsLater (before other side)) (sym (others other side different)) (same-later (before other side))
  | inr same ↦
      let P : ℕ → Bool → Type 0 = λ q b. has_end ends q b ≡ true → IsLater (before q b) (after q b) in
      subst (λ q. P q side) (sym same.0) (subst (P queue) (sym same.1) this) has
]

module _ (ends : LentEnds) (before after : Counts) (queue : ℕ) where
  pub refused-later : (has_end ends queue true ≡ false) ⊎ WasRefused (before queue true) (after queue true) → AreOtherCounts before after queue true → AreLater ends before after
  refused-later cause others = all-later ends before after queue true others (λ has. elim cause [
    | inl none ↦ absurd (cc)
    | inr was ↦ elim was [
      | inl was_full ↦ still-later (before queue true) (after queue true) was_full.looked was_full.moved was_full.tested
      | inr last ↦ subst (IsLater (before queue true)) (sym last.1) (same-later (before queue true))
    ]
  ])

  pub pushed-later : HasPushed (before queue true) (after queue true) → AreOtherCounts before after queue true → AreLater ends before after
  pushed-later pushed others = all-later ends before after queue true others (λ has. moved-later (before queue true) (after queue true) pushed.looked pushed.moved pushed.tested)

  pub empty-later : (has_end ends queue false ≡ false) ⊎ WasEmpty (before queue false) (after queue false) → AreOtherCounts before after queue false → AreLater ends before after
  empty-later cause others = all-later ends before after queue false others (λ has. elim cause [
    | inl none ↦ absurd (cc)
    | inr was ↦ still-later (before queue false) (after queue false) was.looked was.moved was.tested
  ])

  pub popped-later : HasPopped (before queue false) (after queue false) → AreOtherCounts before after queue false → AreLater ends before after
  popped-later popped others = all-later ends before after queue false others (λ has. moved-later (before queue false) (after queue false) popped.looked popped.moved popped.tested)

  pub tested-later : HasTested (before queue false) (after queue false) → AreOtherCounts before after queue false → AreLater ends before after
  tested-later tested others = all-later ends before after queue false others (λ has.
      looked-later (before queue false) (after queue false) tested.looked (omega (arith, tested.moved)) (omega (arith, tested.tested)) (omega (arith, tested.moved, tested.tested)))

  full-since : (has_end ends queue true ≡ false) ⊎ WasRefused (before queue true) (after queue true) → (has_end ends queue true ≡ false) ⊎ WasFullSince (before queue true) (after queue true)
  full-since (inl none) = inl none
  full-since (inr (inl was)) = inr (full (omega (arith, was.looked.looks, was.moved, was.tested)) (was.moved ∙ was.full))
  full-since (inr (inr was)) = inr (counted (ap (λ (shown : EndCounts). shown.moved) was.1 ∙ was.0))

  empty-since : (has_end ends queue false ≡ false) ⊎ WasEmpty (before queue false) (after queue false) → (has_end ends queue false ≡ false) ⊎ WasEmptySince (before queue false) (after queue false)
  empty-since (inl none) = inl none
  empty-since (inr was) = inr (record { looked = omega (arith, was.looked.looks, was.moved, was.tested); empty = was.moved ∙ was.none })

  module _ {L : Type 0} (holdings : List Holding) (asks : Ask L) (place : ℕ) where
    -- the ends didn't serve the push, the pop or the test of this queue
    pub not-pushed : (value : Value) → asks ≡ ask.Push place value → number_at holdings place Push ≡ Some queue
        → (has_end ends queue true ≡ false) ⊎ WasRefused (before queue true) (after queue true) → IsNotServed holdings ends before after asks
    not-pushed value is number cause =
        subst (IsNotServed holdings ends before after) (sym is) (λ other at.
        subst (λ q. (has_end ends q true ≡ false) ⊎ WasFullSince (before q true) (after q true)) (same_Some queue other (sym number ∙ at)) (full-since cause))

    pub not-popped : asks ≡ ask.Pop place → number_at holdings place Pop ≡ Some queue
        → (has_end ends queue false ≡ false) ⊎ WasEmpty (before queue false) (after queue false) → IsNotServed holdings ends before after asks
    not-popped is number cause =
        subst (IsNotServed holdings ends before after) (sym is) (λ other at.
        subst (λ q. (has_end ends q false ≡ false) ⊎ WasEmptySince (before q false) (after q false)) (same_Some queue other (sym number ∙ at)) (empty-since cause))

    pub not-tested : asks ≡ ask.Empty place → number_at holdings place Pop ≡ Some queue
        → (has_end ends queue false ≡ false) ⊎ WasEmpty (before queue false) (after queue false) → IsNotServed holdings ends before after asks
    not-tested is number cause =
        subst (IsNotServed holdings ends before after) (sym is) (λ other at.
        subst (λ q. (has_end ends q false ≡ false) ⊎ WasEmptySince (before q false) (after q false)) (same_Some queue other (sym number ∙ at)) (empty-since cause))

    pub may-push : (name : Option Script) (value : Value) → asks ≡ ask.Push place value → number_at holdings place Push ≡ Some queue
        → IsNextDeed name holdings ends asks → ForSome name (λ s. IsNextPush s ends queue value)
    may-push name value is number next = subst (IsNextDeed name holdings ends) is next queue number

    pub may-pop : (name : Option Script) → asks ≡ ask.Pop place → number_at holdings place Pop ≡ Some queue
        → IsNextDeed name holdings ends asks → ForSome name (λ s. IsNextPop s ends queue)
    may-pop name is number next = subst (IsNextDeed name holdings ends) is next queue number

    pub may-test : (name : Option Script) → asks ≡ ask.Empty place → number_at holdings place Pop ≡ Some queue
        → IsNextDeed name holdings ends asks → ForSome name (λ s. IsNextTest s ends queue)
    may-test name is number next = subst (IsNextDeed name holdings ends) is next queue number
