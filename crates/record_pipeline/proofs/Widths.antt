-- The width of lines as the plan takes it.
use Rattle.std.proofs.Common.{◌≡◌, ℕ, Some, None, List, [], ◌∷◌, length, map, refl, ap}
use Rattle.std.specs.Prelude.{slice_get}
use Rattle.swan_model.specs.declared.value.Value.{Value}
use Rattle.swan_model.specs.declared.value.Value.TheVariants.{Bytes}
use Rattle.swan_model.specs.Values.{bytes_of}
use Rattle.record_pipeline.specs.Conversion.{width_of}
use Rattle.record_pipeline.specs.Netstrings.{fields}
use Rattle.record_pipeline.specs.Plans.{first_width}

pub width_some : (xs : List Value) (x : Value) → slice_get xs 0 ≡ Some x → first_width xs ≡ length (fields (bytes_of x))
width_some [] x is = absurd (cc)
width_some (y ∷ ys) x is = let e : y ≡ x = cc in ap (λ z. length (fields (bytes_of z))) e

pub width_none : (xs : List Value) → slice_get xs 0 ≡ None → first_width xs ≡ 0
width_none [] is = refl
width_none (x ∷ xs) is = absurd (cc)

pub width_is : (xs : List Value) (ls : List (List ℕ)) → xs ≡ map Bytes ls → first_width xs ≡ width_of ls
width_is xs [] is = ap first_width is
width_is xs (line ∷ ls) is = ap first_width is
