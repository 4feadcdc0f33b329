-- For how many places versions are owed, and for which none is any more.
use Rattle.std.proofs.Common.{◌≡◌, ℕ, ◌+◌, Option, None, Some, sym, ap, ◌∙◌, arith, ⊎_elim}
use Rattle.std.proofs.lemmas.Map.Entries.{sum_by-set_value}
use Rattle.std.specs.BTreeMap.{is_at}
use Rattle.std.specs.List.{sum_by}
use Rattle.std.specs.Map.{set_value, values_of}
use Rattle.swan_model.specs.Versions.{place_cmp}
use Rattle.object_versions.specs.declared.placed_object.PlacedObject.{PlacedObject}
use Rattle.object_versions.specs.Store.{PlaceEntries, place_at}
use Rattle.object_versions.specs.Ending.{IsPaidBelow}
use Rattle.object_versions.proofs.Lookups.{IsNewEntry, IsOldEntry, after_set}

-- one where there is one
abbrev one_if : Option ℕ → ℕ
one_if None = 0
one_if (Some key) = 1

-- for how many places versions are owed
abbrev pub debts : PlaceEntries → ℕ
debts entries = sum_by (λ has. one_if has.owes) (values_of entries)

-- where one is paid
module _ (now later : PlaceEntries) (f p key : ℕ) (was : PlacedObject) (stands : place_at now f p ≡ Some was) (owes : was.owes ≡ Some key)
    (set : later ≡ set_value (is_at (place_cmp (f, p))) now (record was { owes = None })) where
  pub one_debt_less : debts later + 1 ≡ debts now
  one_debt_less =
      let sums = sum_by-set_value (λ (has : PlacedObject). one_if has.owes) (is_at (place_cmp (f, p))) now was (record was { owes = None }) stands in
      let there : one_if was.owes ≡ 1 = ap one_if owes in
      let same = ap debts set in
      omega (arith, sums, there, same)

  pub paid_below : IsPaidBelow now f p → IsPaidBelow later f p
  paid_below before place has less is = ⊎_elim
      (λ (x : IsNewEntry (f, p) (f, place) (record was { owes = None }) has). ap (λ o. o.owes) x.is)
      (λ (x : IsOldEntry now (f, p) (f, place) has). before place has less x.was)
      (after_set now (f, p) was (record was { owes = None }) (f, place) has stands (ap (λ es. place_at es f place) (sym set) ∙ is))
