-- What is left of a list from an index on.
use Rattle.std.proofs.Common.{◌≡◌, ℕ, ◌+◌, Option, Some, None, List, [], ◌∷◌, drop, sym}
use Rattle.std.proofs.lemmas.List.{drop_all}
use Rattle.std.specs.Prelude.{MatchOption, slice_get}
use Rattle.swan_model.proofs.Lists.{drop_next, past_none}

pub left_from : (xs : List ℕ) (i : ℕ) (at : Option ℕ) → at ≡ slice_get xs i → MatchOption at (drop i xs ≡ []) (λ x. drop i xs ≡ x ∷ drop (i + 1) xs)
left_from xs i None is = drop_all i xs (past_none xs i (sym is))
left_from xs i (Some x) is = drop_next xs i x (sym is)
