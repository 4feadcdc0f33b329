-- The text of the job, from its two constant parts.
use Rattle.std.proofs.Common.{◌≡◌, ℕ, [], ◌∷◌, ◌++◌, sym, ap, ◌∙◌, append_assoc}
use Rattle.std.specs.Prelude.{codes, flat_map}
use Rattle.std.specs.Fmt.{decimal}
use Rattle.swan_model.specs.Texts.{line}
use Rattle.bulk_workload.specs.Bulk.{bulk_job, fold_fuel, lines_before}
use Rattle.bulk_workload.specs.declared.texts.TheConstants.{BEFORE_FUEL, AFTER_FUEL}

pub text_is : (size : ℕ) → BEFORE_FUEL.now ++ (decimal (fold_fuel size) ++ AFTER_FUEL.now) ≡ bulk_job size
text_is size =
    let digits = decimal (fold_fuel size) in
    let given = codes " fold nums total count summary" in
    let parts : (((digits ++ given) ++ 10 ∷ []) ++ line (codes "end")) ≡ digits ++ ((given ++ 10 ∷ []) ++ line (codes "end")) =
    ap (λ m. m ++ line (codes "end")) (append_assoc digits given (10 ∷ [])) ∙ append_assoc digits (given ++ 10 ∷ []) (line (codes "end")) in
    ap (λ rest. flat_map line lines_before ++ (codes "  spawn " ++ rest)) (sym parts)
