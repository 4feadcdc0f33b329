-- A zero put into cells leaves as many cells.
use Rattle.std.proofs.Common.{◌≡◌, ℕ, Option, Some, None, List, [], ◌∷◌, length, refl, arith, length-set}
use Rattle.std.specs.Prelude.{slice_get}
use Rattle.swan_model.specs.declared.rights.Mode.{Mode}
use Rattle.swan_model.specs.declared.rights.Mode.TheVariants.{In, Out, InOut, Push, Pop, PushPop}
use Rattle.swan_model.specs.SerialState.{Cell, Holding}
use Rattle.swan_model.specs.SerialStep.{zero_cell, cells_with_zeros, zeroed_by}

length-zero_cell : (cells : List Cell) (n : ℕ) (cell : Option Cell) → length (zero_cell cells n cell) ≡ length cells
length-zero_cell cells n None = refl
length-zero_cell cells n (Some cell) = length-set cells n _

length-zeroed_by : (mode : Mode) (cells : List Cell) (n : ℕ) → length (zeroed_by mode cells n) ≡ length cells
length-zeroed_by Out cells n = length-zero_cell cells n (slice_get cells n)
length-zeroed_by In cells n = refl
length-zeroed_by InOut cells n = refl
length-zeroed_by Push cells n = refl
length-zeroed_by Pop cells n = refl
length-zeroed_by PushPop cells n = refl

pub length-zeroed : (cells : List Cell) (holdings : List Holding) → length (cells_with_zeros cells holdings) ≡ length cells
length-zeroed cells [] = refl
length-zeroed cells (holding ∷ holdings) =
    omega (arith, length-zeroed (zeroed_by holding.mode cells holding.number) holdings, length-zeroed_by holding.mode cells holding.number)
