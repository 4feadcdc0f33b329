-- What a reducer has to keep. Some records are its parts: the zero, what each line gives, and the join of two. The
-- join doesn't mind how parts are grouped, and the zero adds nothing on either side.
use Rattle.std.specs.Prelude.{◌≡◌, ℕ, Bool, true, Option, Some, List}

pub record IsLawfulReducer (is_part : List ℕ → Bool) (zero : List ℕ) (part_of : List ℕ → Option (List ℕ)) (join : List ℕ → List ℕ → List ℕ) : Type 0 where
  pub zero_is_part : is_part zero ≡ true
  pub lines_give_parts : (line part : List ℕ) → part_of line ≡ Some part → is_part part ≡ true
  pub joins_are_parts : (left right : List ℕ) → is_part left ≡ true → is_part right ≡ true → is_part (join left right) ≡ true
  pub joins_regroup : (first second third : List ℕ) → is_part first ≡ true → is_part second ≡ true → is_part third ≡ true
      → join (join first second) third ≡ join first (join second third)
  pub zero_before : (part : List ℕ) → is_part part ≡ true → join zero part ≡ part
  pub zero_after : (part : List ℕ) → is_part part ≡ true → join part zero ≡ part
