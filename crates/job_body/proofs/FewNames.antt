-- Names of a job are few: a line adds one name to what is known of a task at most.
use Rattle.std.proofs.Common.{◌+◌, ◌≤◌, ◌<◌, ℕ, suc, true, false, List, [], ◌∷◌, Option, Some, None, IfSome, length, bytes_eq, option_map, if◌then◌else◌, arith, length-append}
use Rattle.job_reader.specs.declared.line.Line.{Line}
use Rattle.job_body.specs.declared.scope.Scope.{Scope}
use Rattle.job_body.specs.Compiled.{KnowsFew, scope_past}
use Rattle.job_body.specs.Names.{slot}
use Rattle.job_body.specs.declared.name_table.TheConstants.{NAMES_MOST}

pub knows_more : (i : ℕ) (s : Scope) (l : Line) (n : ℕ) → KnowsFew s n → KnowsFew (scope_past i s l) (n + 1)
knows_more i s l n few = grind (arith, length-append)

shifted : (found : Option ℕ) (most : ℕ) → IfSome found (λ place. place < most) → IfSome (option_map (λ i. suc i) found) (λ place. place < suc most)
shifted None most few = few
shifted (Some i) most few = omega (arith, few)

slot_within : (names : List (List ℕ)) (name : List ℕ) → IfSome (slot names name) (λ place. place < length names)
slot_within [] name = tt
slot_within (other ∷ names) name =
    elim (bytes_eq other name) as (λ b. IfSome (if b then Some 0 else option_map (λ i. suc i) (slot names name)) (λ place. place < suc (length names))) [
      | true ↦ omega arith
      | false ↦ shifted (slot names name) (length names) (slot_within names name)
    ]

below : (found : Option ℕ) (most more : ℕ) → most ≤ more → IfSome found (λ place. place < most) → IfSome found (λ place. place < more)
below None most more few within = within
below (Some i) most more few within = omega (arith, few, within)

-- no name has a great place among few
pub slot_few : (names : List (List ℕ)) (name : List ℕ) → length names ≤ NAMES_MOST → IfSome (slot names name) (λ place. place < NAMES_MOST)
slot_few names name few = below (slot names name) (length names) NAMES_MOST few (slot_within names name)
