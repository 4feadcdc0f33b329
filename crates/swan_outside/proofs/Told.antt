-- How what is told of bytes joins from call to call.
use Rattle.std.proofs.Common.{ℕ, List, ◌++◌, Option, Some, None, ◌∙◌, ap, append_assoc}
use Rattle.swan_outside.specs.Told.{Appends}

-- two appends in a row are one
pub Appends-append : (before : Option (List ℕ)) (xs : List ℕ) (between : Option (List ℕ)) (ys : List ℕ) (after : Option (List ℕ)) → Appends before xs between → Appends between ys after → Appends before (xs ++ ys) after
Appends-append before xs between ys None first second = tt
Appends-append before xs None ys (Some now) first second = absurd second
Appends-append None xs (Some middle) ys (Some now) first second = absurd first
Appends-append (Some start) xs (Some middle) ys (Some now) first second =
    second ∙ ap (λ front. front ++ ys) first ∙ append_assoc start xs ys
