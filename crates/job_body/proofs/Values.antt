-- Values by the names of variables, and by their slots.
use Rattle.std.proofs.Common.{◌≡◌, ℕ, zero, suc, ◌+◌, true, false, Option, Some, None, List, [], ◌∷◌, length, map, flat_map, bytes_eq, option_map, if◌then◌else◌, cond, not, pos, refl, ap, ◌∙◌, arith}
use Rattle.std.specs.List.{position_or_len}
use Rattle.std.proofs.lemmas.List.{set-set}
use Rattle.std.specs.Option.{unwrap_or}
use Rattle.job_reader.specs.declared.atom.Atom.{Atom}
use Rattle.job_reader.specs.declared.atom.Atom.TheVariants as atom
use Rattle.job_reader.specs.declared.line.Line.{Line}
use Rattle.swan_model.specs.declared.value.Value.{Value}
use Rattle.swan_model.specs.declared.value.Value.TheVariants.{Int}
use Rattle.job_body.specs.declared.take.Take.{Take}
use Rattle.job_body.specs.declared.take.Take.TheVariants as given
use Rattle.job_body.specs.Compiled as compiled
use Rattle.job_body.specs.Names.{slot}
use Rattle.job_body.specs.Runs as runs
use Rattle.job_body.specs.Standing.{Standing}
use Rattle.job_body.specs.Steps as steps
use Rattle.job_body.specs.Tasks.{places, so_far_at}

-- ---- a variable's value

no_value : (values : List Value) → Int (pos 0) ≡ runs.value_in values None
no_value values = refl

none_left : (i : Option ℕ) → Int (pos 0) ≡ runs.value_in [] i
none_left None = refl
none_left (Some zero) = refl
none_left (Some (suc i)) = refl

later : (value : Value) (values : List Value) (i : Option ℕ) → runs.value_in values i ≡ runs.value_in (value ∷ values) (option_map (λ k. suc k) i)
later value values None = refl
later value values (Some i) = refl

pub value-slot : (names : List (List ℕ)) (values : List Value) (name : List ℕ) → steps.value_named names values name ≡ runs.value_in values (slot names name)
value-slot [] values name = refl
value-slot (first ∷ names) [] name = none_left (slot (first ∷ names) name)
value-slot (first ∷ names) (value ∷ values) name =
    elim (bytes_eq first name) as (λ b. (if b then value else steps.value_named names values name) ≡ runs.value_in (value ∷ values) (if b then Some 0 else option_map (λ i. suc i) (slot names name))) [
      | true ↦ refl
      | false ↦ value-slot names values name ∙ later value values (slot names name)
    ]

none_set : (i : Option ℕ) (new : Value) → [] ≡ runs.with_slot [] i new
none_set None new = refl
none_set (Some zero) new = refl
none_set (Some (suc i)) new = refl

later_set : (value : Value) (values : List Value) (i : Option ℕ) (new : Value) → value ∷ runs.with_slot values i new ≡ runs.with_slot (value ∷ values) (option_map (λ k. suc k) i) new
later_set value values None new = refl
later_set value values (Some i) new = refl

pub set-slot : (names : List (List ℕ)) (values : List Value) (name : List ℕ) (new : Value) → steps.values_with names values name new ≡ runs.with_slot values (slot names name) new
set-slot [] values name new = refl
set-slot (first ∷ names) [] name new = none_set (slot (first ∷ names) name) new
set-slot (first ∷ names) (value ∷ values) name new =
    elim (bytes_eq first name) as (λ b. (if b then new ∷ values else value ∷ steps.values_with names values name new) ≡ runs.with_slot (value ∷ values) (if b then Some 0 else option_map (λ i. suc i) (slot names name)) new) [
      | true ↦ refl
      | false ↦ ap (λ vs. value ∷ vs) (set-slot names values name new) ∙ later_set value values (slot names name) new
    ]

-- a slot that is set twice
pub set_again : (values : List Value) (slot : Option ℕ) (first new : Value) → runs.with_slot (runs.with_slot values slot first) slot new ≡ runs.with_slot values slot new
set_again values None first new = refl
set_again values (Some i) first new = set-set values i first new

-- ---- a place

shifted : (i : Option ℕ) (n : ℕ) → unwrap_or (option_map (λ k. suc k) i) (suc n) ≡ suc (unwrap_or i n)
shifted None n = refl
shifted (Some i) n = refl

pub place-slot : (names : List (List ℕ)) (name : List ℕ) → position_or_len (λ other. bytes_eq other name) names ≡ unwrap_or (slot names name) (length names)
place-slot [] name = refl
place-slot (first ∷ names) name =
    elim (bytes_eq first name) as (λ b. cond (not b) (1 + position_or_len (λ other. bytes_eq other name) names) 0 ≡ unwrap_or (if b then Some 0 else option_map (λ i. suc i) (slot names name)) (suc (length names))) [
      | true ↦ refl
      | false ↦ omega (arith, place-slot names name, shifted (slot names name) (length names))
    ]

-- ---- atoms at a line

pub value-operand : (lines : List Line) (i : ℕ) (values : List Value) (a : Atom) → steps.value_at lines i values a ≡ runs.value_of values (compiled.operand_of (compiled.seen_at lines i) a)
value-operand lines i values (atom.Int n) = refl
value-operand lines i values (atom.Bytes bytes) = refl
value-operand lines i values (atom.Name name) = value-slot (steps.names_at lines i) values name ∙ of_variable (slot (steps.names_at lines i) name) where
  of_variable : (k : Option ℕ) → runs.value_in values k ≡ runs.value_of values (compiled.variable k)
  of_variable None = refl
  of_variable (Some k) = refl

pub place-name : (lines : List Line) (i : ℕ) (name : List ℕ) → steps.place_at lines i name ≡ compiled.place_in (compiled.seen_at lines i) name
place-name lines i name = place-slot (places lines (so_far_at lines i)) name

pub place-atom : (lines : List Line) (i : ℕ) (a : Atom) → steps.place_of_atom lines i a ≡ compiled.atom_place_in (compiled.seen_at lines i) a
place-atom lines i (atom.Int n) = refl
place-atom lines i (atom.Bytes bytes) = refl
place-atom lines i (atom.Name name) = place-name lines i name

-- ---- what a child is given

pub values-given : (lines : List Line) (s : Standing) (given : List (Take × Atom)) → flat_map (steps.value_given lines s) given ≡ map (runs.value_of s.values) (flat_map (compiled.param_given (compiled.seen_at lines s.at)) given)
values-given lines s [] = refl
values-given lines s ((given.Param, a) ∷ more) =
    ap (λ v. v ∷ flat_map (steps.value_given lines s) more) (value-operand lines s.at s.values a)
    ∙ ap (λ vs. runs.value_of s.values (compiled.operand_of (compiled.seen_at lines s.at) a) ∷ vs) (values-given lines s more)
values-given lines s ((given.Access mode, a) ∷ more) = values-given lines s more

pub gives-given : (lines : List Line) (s : Standing) (given : List (Take × Atom)) → flat_map (steps.access_given lines s) given ≡ flat_map (compiled.give_given (compiled.seen_at lines s.at)) given
gives-given lines s [] = refl
gives-given lines s ((given.Param, a) ∷ more) = gives-given lines s more
gives-given lines s ((given.Access mode, a) ∷ more) =
    ap (λ p. record { place = p; mode = mode } ∷ flat_map (steps.access_given lines s) more) (place-atom lines s.at a)
    ∙ ap (λ gs. record { place = compiled.atom_place_in (compiled.seen_at lines s.at) a; mode = mode } ∷ gs) (gives-given lines s more)
