-- The first line of a text.
use Rattle.std.proofs.Common.{◌≡◌, ℕ, suc, true, false, List, [], ◌∷◌, length, refl, sym, ap, ◌∙◌, ⊎_elim, arith}
use Rattle.std.specs.Prelude.{◌==◌}
use Rattle.std.proofs.lemmas.Bool.{cond-true, cond-false, cases_Bool, ne_eqb}
use Rattle.swan_model.specs.Lines.{lines, in_front}
use Rattle.job_reader.specs.FirstFault.{is_nothing}

-- a byte that is a line feed ends a line, and another is at the front of one
feed : (byte : ℕ) (bytes : List ℕ) → (byte == 10) ≡ true → lines (byte ∷ bytes) ≡ [] ∷ lines bytes
feed byte bytes is = cond-true (byte == 10) ([] ∷ lines bytes) (in_front byte (lines bytes)) is

pub other_byte : (byte : ℕ) (bytes : List ℕ) → (byte == 10) ≡ false → lines (byte ∷ bytes) ≡ in_front byte (lines bytes)
other_byte byte bytes isnt = cond-false (byte == 10) ([] ∷ lines bytes) (in_front byte (lines bytes)) isnt

before_some : (byte : ℕ) (rest : List (List ℕ)) → is_nothing (in_front byte rest) ≡ false
before_some byte [] = refl
before_some byte (line ∷ rest) = refl

-- a text has a line where it isn't empty
pub nothing_left : (text : List ℕ) → is_nothing (lines text) ≡ (length text == 0)
nothing_left [] = refl
nothing_left (byte ∷ bytes) =
    let some : (length (byte ∷ bytes) == 0) ≡ false = ne_eqb (suc (length bytes)) 0 (λ is. omega arith) in
    ⊎_elim
    (λ (is : (byte == 10) ≡ true). ap is_nothing (feed byte bytes is) ∙ sym some)
    (λ (isnt : (byte == 10) ≡ false). ap is_nothing (other_byte byte bytes isnt) ∙ before_some byte (lines bytes) ∙ sym some)
    (cases_Bool (byte == 10))
