-- What a child holds, as far as its gives were gone through.
use Rattle.std.proofs.Common.{◌≡◌, ℕ, List, [], ◌∷◌, ◌++◌, Option, Some, None, refl, ap, sym, append_assoc}
use Rattle.swan_model.specs.declared.rights.Give.{Give}
use Rattle.swan_model.specs.SerialState.{Holding}
use Rattle.swan_model.specs.SerialStep.{given_also}

-- the holdings so far, and those by the rest of the gives
abbrev pub ahead : List Holding → Option (List Holding) → Option (List Holding)
ahead holdings None = None
ahead holdings (Some rest) = Some (holdings ++ rest)

pub ahead-given_also : (holdings : List Holding) (give : Give) (number : ℕ) (rest : Option (List Holding)) → ahead holdings (given_also give (Some number) rest) ≡ ahead (holdings ++ (record { mode = give.mode; number = number }) ∷ []) rest
ahead-given_also holdings give number None = refl
ahead-given_also holdings give number (Some rest) = ap Some (sym (append_assoc holdings _ rest))
