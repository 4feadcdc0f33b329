-- Which frames are active after each was changed, after one came in, and after one went out.
use Rattle.std.proofs.Common.{◌≡◌, ℕ, Bool, Some, List, sym, ap, ◌∙◌}
use Rattle.std.proofs.lemmas.Bool.{eqb-true, ne_eqb, both_ways, not-true, not_from_false}
use Rattle.std.specs.Option.{option_map}
use Rattle.std.specs.Prelude.{◌==◌, filter, find, map, not}
use Rattle.swan_model.specs.QueueState.{ActiveFrame}
use Rattle.swan_model.proofs.Elements.{find_map, filtered_stands, find_kept, found_is}

module _ (each : ActiveFrame → ActiveFrame) (numbers : (frame : ActiveFrame) → (each frame).number ≡ frame.number) where
  pub find_changed : (frames : List ActiveFrame) (number : ℕ)
      → find (λ f. f.number == number) (map each frames) ≡ option_map each (find (λ f. f.number == number) frames)
  find_changed frames number = find_map (λ (f : ActiveFrame). f.number == number) each (λ f. ap (λ k. k == number) (numbers f)) frames

-- a frame that went out isn't found
pub find_gone : (frames : List ActiveFrame) (gone : ℕ) (frame : ActiveFrame) → find (λ f. f.number == gone) (filter (λ f. not (f.number == gone)) frames) ≡ Some frame → ⊥
find_gone frames gone frame found =
    let stays : ActiveFrame → Bool = λ f. not (f.number == gone) in
    let there = found_is (λ (f : ActiveFrame). f.number == gone) (filter stays frames) frame found in
    let old = filtered_stands stays frames there.index frame there.stands in
    both_ways (frame.number == gone) (not-true (frame.number == gone) old.passes) there.passes

-- and the others are found as before
pub find_others : (frames : List ActiveFrame) (gone number : ℕ) → (number ≡ gone → ⊥)
    → find (λ f. f.number == number) (filter (λ f. not (f.number == gone)) frames) ≡ find (λ f. f.number == number) frames
find_others frames gone number apart =
    find_kept (λ (f : ActiveFrame). not (f.number == gone)) (λ (f : ActiveFrame). f.number == number)
    (λ f is. not_from_false (f.number == gone) (ne_eqb f.number gone (λ same. apart (sym (eqb-true f.number number is) ∙ same)))) frames
