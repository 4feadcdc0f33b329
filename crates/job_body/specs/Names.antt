-- The places of names in a list, by a map from names to them. The code alone is stated by this, and no
-- public clause.
use Rattle.std.specs.Prelude.{String, ◌≡◌, ℕ, ◌+◌, ◌≤◌, suc, Option, Some, None, List, [], ◌∷◌, length, bytes_eq, option_map, is_some, if◌then◌else◌}
use Rattle.std.specs.BTreeMap.{BTreeMap, get_by_text}
use Rattle.job_body.specs.declared.name_table.TheConstants.{NAMES_MOST}

-- the first place at which a name stands
abbrev pub slot : List (List ℕ) → List ℕ → Option ℕ
slot [] name = None
slot (other ∷ names) name = if bytes_eq other name then Some 0 else option_map (λ i. suc i) (slot names name)

-- the first place in two lists of names, one after the other
abbrev pub joined_slot : Option ℕ → ℕ → Option ℕ → Option ℕ
joined_slot (Some i) count second = Some i
joined_slot None count None = None
joined_slot None count (Some i) = Some (count + i)

-- the places where a name has this place, unless it has one
abbrev pub with_name_at : (List ℕ → Option ℕ) → List ℕ → ℕ → List ℕ → Option ℕ
with_name_at places name place other =
    if is_some (places name) then places other else (if bytes_eq name other then Some place else places other)

-- a map that has the first place of each name
pub record IsNameTable {A : Type 0} (names : List (List ℕ)) (places : BTreeMap (String A) ℕ) : Type 0 where
  pub few : length names ≤ NAMES_MOST
  pub finds : (name : List ℕ) → get_by_text places name ≡ slot names name
