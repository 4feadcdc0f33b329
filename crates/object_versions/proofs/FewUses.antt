-- A version is referred to less than four times as often as there are places.
use Rattle.std.proofs.Common.{◌≡◌, ℕ, ◌+◌, ◌*◌, ◌^◌, ◌≤◌, ◌<◌, Bool, true, false, nat_eq, cond, Option, Some, None, [], ◌∷◌, length, sym, ap, ◌∙◌, arith}
use Rattle.std.proofs.lemmas.List.Sums.{sum_by-cons}
use Rattle.std.specs.Map.{values_of}
use Rattle.slab.specs.Slab.{Slab, get}
use Rattle.object_versions.specs.declared.node.Node.{Node}
use Rattle.object_versions.specs.declared.placed_object.PlacedObject.{PlacedObject}
use Rattle.object_versions.specs.Store.{PlaceEntries, one, one_of, uses, uses_in, uses_of}
use Rattle.object_versions.specs.Whole.{IsWhole}

one_most : (key other : ℕ) → one key other ≤ 1
one_most key other = by (nat_eq key other) where
  by : (b : Bool) → cond b 1 0 ≤ 1
  by true = omega arith
  by false = omega arith

one_of_most : (key : ℕ) (o : Option ℕ) → one_of key o ≤ 1
one_of_most key None = omega arith
one_of_most key (Some other) = one_most key other

uses_of_most : (key : ℕ) (place : PlacedObject) → uses_of key place ≤ 3
uses_of_most key place = omega (arith, one_most key place.present, one_of_most key place.given, one_of_most key place.owes)

uses_few : (key : ℕ) (entries : PlaceEntries) → uses key entries ≤ 3 * length entries
uses_few key [] = omega arith
uses_few key (e ∷ entries) =
    let first : uses key (e ∷ entries) ≡ uses_of key e.1 + uses key entries = sum_by-cons (uses_of key) e.1 (values_of entries) in
    omega (arith, first, uses_of_most key e.1, uses_few key entries)

-- so the count of those who refer to it has room for two more
pub two_more_fit : (entries : PlaceEntries) (nodes : Slab Node) (made key : ℕ) (node : Node) → IsWhole entries nodes made (λ _. 0) → length entries < 2 ^ 63
    → get nodes key ≡ Some node → node.uses + 2 < 2 ^ 128
two_more_fit entries nodes made key node whole few is =
    let exact : node.uses ≡ uses key entries + 0 = ap uses_in (sym is) ∙ whole.counted.exact key in
    omega (arith, exact, uses_few key entries, few)
