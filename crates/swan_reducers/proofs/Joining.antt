-- Joins of parts, by the laws of a reducer.
use Rattle.std.proofs.Common.{◌≡◌, ℕ, Bool, true, false, cond, Option, Some, None, List, [], ◌∷◌, ◌++◌, refl, sym, ap, ◌∙◌}
use Rattle.std.specs.Option.{option_or}
use Rattle.swan_model.specs.declared.value.Value.{Value}
use Rattle.swan_model.specs.declared.value.Value.TheVariants.{Int, Bytes}
use Rattle.swan_reducers.specs.declared.reducer.Reducer.{Ghosts}
use Rattle.swan_reducers.specs.Fold.{joined_from}
use Rattle.swan_reducers.specs.LineFolds.{unless_part, with_part}
use Rattle.swan_reducers.specs.Steps.{as_part, item_part}

-- a bad line that is known stays the first one
pub bad_step : (at : Option (List ℕ)) (bad : Option ℕ) (number : ℕ) (others : Option ℕ) → option_or (option_or bad (unless_part at number None)) others ≡ option_or bad (unless_part at number others)
bad_step None None number others = refl
bad_step None (Some known) number others = refl
bad_step (Some part) None number others = refl
bad_step (Some part) (Some known) number others = refl

module _ {R : Type 0} (g : Ghosts R) (reducer : R) where
  -- a part is itself, and what stands for a record is a part
  pub as_part-is : (part : List ℕ) → g.is_part reducer part ≡ true → as_part g reducer part ≡ part
  as_part-is part is = ap (λ b. cond b part (g.zero_part reducer)) is

  pub parts_are_parts : (item : List ℕ) → g.is_part reducer (as_part g reducer item) ≡ true
  parts_are_parts item = by_case (g.is_part reducer item) refl
    where
      by_case : (b : Bool) → g.is_part reducer item ≡ b → g.is_part reducer (as_part g reducer item) ≡ true
      by_case true is = ap (g.is_part reducer) (as_part-is item is) ∙ is
      by_case false is = ap (λ b. g.is_part reducer (cond b item (g.zero_part reducer))) is ∙ (g.laws reducer).zero_is_part

  pub items_are_parts : (item : Value) → g.is_part reducer (item_part g reducer item) ≡ true
  items_are_parts (Bytes item) = parts_are_parts item
  items_are_parts (Int number) = (g.laws reducer).zero_is_part

  -- with the part of a line that may have none, a part is one still
  pub with_is_part : (whole line : List ℕ) (at : Option (List ℕ)) → g.part_of reducer line ≡ at → g.is_part reducer whole ≡ true → g.is_part reducer (with_part (g.joined reducer) whole at) ≡ true
  with_is_part whole line None is part = part
  with_is_part whole line (Some more) is part = (g.laws reducer).joins_are_parts whole more part ((g.laws reducer).lines_give_parts line more is)

  pub joined_is_part : (whole : List ℕ) (lines : List (List ℕ)) → g.is_part reducer whole ≡ true → g.is_part reducer (joined_from g reducer whole lines) ≡ true
  joined_is_part whole [] is = is
  joined_is_part whole (line ∷ lines) is =
      joined_is_part (with_part (g.joined reducer) whole (g.part_of reducer line)) lines (with_is_part whole line (g.part_of reducer line) refl is)

  pub joined_from-append : (whole : List ℕ) (xs ys : List (List ℕ)) → joined_from g reducer (joined_from g reducer whole xs) ys ≡ joined_from g reducer whole (xs ++ ys)
  joined_from-append whole [] ys = refl
  joined_from-append whole (x ∷ xs) ys = joined_from-append (with_part (g.joined reducer) whole (g.part_of reducer x)) xs ys

  join_with : (left right line : List ℕ) (at : Option (List ℕ)) → g.part_of reducer line ≡ at → g.is_part reducer left ≡ true → g.is_part reducer right ≡ true
      → g.joined reducer left (with_part (g.joined reducer) right at) ≡ with_part (g.joined reducer) (g.joined reducer left right) at
  join_with left right line None is l r = refl
  join_with left right line (Some more) is l r = sym ((g.laws reducer).joins_regroup left right more l r ((g.laws reducer).lines_give_parts line more is))

  -- a part joined with what lines make of another is what they make of the join
  pub join_joined : (left right : List ℕ) (lines : List (List ℕ)) → g.is_part reducer left ≡ true → g.is_part reducer right ≡ true
      → g.joined reducer left (joined_from g reducer right lines) ≡ joined_from g reducer (g.joined reducer left right) lines
  join_joined left right [] l r = refl
  join_joined left right (line ∷ lines) l r =
      let at = g.part_of reducer line in
      join_joined left (with_part (g.joined reducer) right at) lines l (with_is_part right line at refl r)
      ∙ ap (λ v. joined_from g reducer v lines) (join_with left right line at refl l r)
