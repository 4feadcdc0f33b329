-- A literal stands for the bytes of its pieces, and for no others.
use Rattle.std.proofs.Common.{◌≡◌, ℕ, ◌+◌, ◌*◌, ◌≤◌, true, List, [], ◌∷◌, ◌++◌, length, Option, Some, None, Ok, refl, sym, ap, subst, ◌∙◌, ⊎_elim}
use Rattle.std.specs.Prelude.{◌==◌, ◌||◌, nat_le, option_map, option_to_list}
use Rattle.std.specs.Char.{digit_value, is_digit}
use Rattle.std.proofs.lemmas.Bool.{cond-true, cond_both, eqb-true, leb-true, le-leb, or_cases}
use Rattle.std.proofs.lemmas.Iterator.Adapters.{option_map_id}
use Rattle.swan_model.specs.declared.record.TheConstants.{RECORD_MOST}
use Rattle.job_reader.specs.Atoms.{decode, decoded, fitting_literal, literal}
use Rattle.job_reader.specs.Pieces.{Piece, StandsFor}
use Rattle.job_reader.specs.Pieces.Piece.{itself, a_backslash, a_quote, a_line_feed, a_tab, by_digits}
use Rattle.job_reader.specs.Pieces.StandsFor.{closed, piece}
use Rattle.job_reader.specs.declared.literal.Inside.{Inside}
use Rattle.job_reader.specs.declared.literal.Inside.TheVariants.{Plain, Escape, HighDigit, LowDigit, Closed}
use Rattle.job_reader.proofs.CanonTokens.{read_inside}
use Rattle.swan_model.proofs.Elements.{mapped_is}
use Rattle.job_reader.proofs.Literals.{after_byte, by_step, plain_byte, step, then_some}

digits_decoded : (high low : ℕ) (rest : List ℕ) → is_digit high 16 ≡ true → is_digit low 16 ≡ true → decoded Plain (92 ∷ 120 ∷ high ∷ low ∷ rest) ≡ after_byte (16 * digit_value high + digit_value low) (decoded Plain rest)
digits_decoded high low rest is_high is_low =
    option_map_id (option_map (λ more. more) (decoded HighDigit (high ∷ low ∷ rest)))
    ∙ option_map_id (decoded HighDigit (high ∷ low ∷ rest))
    ∙ by_step HighDigit high (low ∷ rest) (LowDigit (digit_value high)) None (cond-true (is_digit high 16) _ _ is_high)
    ∙ option_map_id (decoded (LowDigit (digit_value high)) (low ∷ rest))
    ∙ by_step (LowDigit (digit_value high)) low rest Plain (Some (16 * digit_value high + digit_value low)) (cond-true (is_digit low 16) _ _ is_low)

piece_decoded : (text : List ℕ) (byte : ℕ) → Piece text byte → (rest : List ℕ) → decoded Plain (text ++ rest) ≡ after_byte byte (decoded Plain rest)
piece_decoded _ _ (itself byte quote backslash) rest = by_step Plain byte rest Plain (Some byte) (plain_byte byte quote backslash)
piece_decoded _ _ a_backslash rest = option_map_id (after_byte 92 (decoded Plain rest))
piece_decoded _ _ a_quote rest = option_map_id (after_byte 34 (decoded Plain rest))
piece_decoded _ _ a_line_feed rest = option_map_id (after_byte 10 (decoded Plain rest))
piece_decoded _ _ a_tab rest = option_map_id (after_byte 9 (decoded Plain rest))
piece_decoded _ _ (by_digits high low is_high is_low) rest = digits_decoded high low rest is_high is_low

pieces_decoded : (rest bytes : List ℕ) → StandsFor rest bytes → decoded Plain rest ≡ Some bytes
pieces_decoded _ _ closed = refl
pieces_decoded _ _ (piece text byte rest bytes is more) = piece_decoded text byte is rest ∙ ap (after_byte byte) (pieces_decoded rest bytes more)

-- What the rest of a literal stands for from a state on, said with the escape that has begun.
abbrev Standing : Inside → List ℕ → List ℕ → Type 0
Standing Plain rest bytes = StandsFor rest bytes
Standing Escape rest bytes = StandsFor (92 ∷ rest) bytes
Standing HighDigit rest bytes = StandsFor (92 ∷ 120 ∷ rest) bytes
Standing (LowDigit value) rest bytes = (high : ℕ) → is_digit high 16 ≡ true → digit_value high ≡ value → StandsFor (92 ∷ 120 ∷ high ∷ rest) bytes
Standing Closed rest bytes = (rest ≡ []) × (bytes ≡ [])

abbrev Stands : Inside → ℕ → Option (Inside × Option ℕ) → Type 0
Stands inside byte None = Unit {0}
Stands inside byte (Some next) = (rest more : List ℕ) → Standing next.0 rest more → Standing inside (byte ∷ rest) (option_to_list next.1 ++ more)

plain_stands : (byte : ℕ) → Stands Plain byte (decode Plain byte)
plain_stands byte =
    cond_both (byte == 34) _ _ (Stands Plain byte) (λ is. λ rest more s. at_end byte rest more is s) (λ quote.
    cond_both (byte == 92) _ _ (Stands Plain byte) (λ is. λ rest more s. subst (λ b. StandsFor (b ∷ rest) more) (sym (eqb-true byte 92 is)) s) (λ backslash.
    λ rest more s. piece (byte ∷ []) byte rest more (itself byte quote backslash) s))
  where
    at_end : (byte : ℕ) (rest more : List ℕ) → (byte == 34) ≡ true → (rest ≡ []) × (more ≡ []) → StandsFor (byte ∷ rest) more
    at_end byte rest more is none =
        subst (λ b. StandsFor (b ∷ rest) more) (sym (eqb-true byte 34 is)) (subst (λ r. StandsFor (34 ∷ r) more) (sym none.0) (subst (λ m. StandsFor (34 ∷ []) m) (sym none.1) closed))

escape_stands : (byte : ℕ) → Stands Escape byte (decode Escape byte)
escape_stands byte =
    cond_both ((byte == 92) || (byte == 34)) _ _ (Stands Escape byte) (λ is. λ rest more s. itself_after byte rest more is s) (λ _.
    cond_both (byte == 110) _ _ (Stands Escape byte) (λ is. λ rest more s. subst (λ b. StandsFor (92 ∷ b ∷ rest) (10 ∷ more)) (sym (eqb-true byte 110 is)) (piece (92 ∷ 110 ∷ []) 10 rest more a_line_feed s)) (λ _.
    cond_both (byte == 116) _ _ (Stands Escape byte) (λ is. λ rest more s. subst (λ b. StandsFor (92 ∷ b ∷ rest) (9 ∷ more)) (sym (eqb-true byte 116 is)) (piece (92 ∷ 116 ∷ []) 9 rest more a_tab s)) (λ _.
    cond_both (byte == 120) _ _ (Stands Escape byte) (λ is. λ rest more s. subst (λ b. StandsFor (92 ∷ b ∷ rest) more) (sym (eqb-true byte 120 is)) s) (λ _. tt))))
  where
    itself_after : (byte : ℕ) (rest more : List ℕ) → ((byte == 92) || (byte == 34)) ≡ true → StandsFor rest more → StandsFor (92 ∷ byte ∷ rest) (byte ∷ more)
    itself_after byte rest more is s = ⊎_elim
        (λ (backslash : (byte == 92) ≡ true). subst (λ b. StandsFor (92 ∷ b ∷ rest) (b ∷ more)) (sym (eqb-true byte 92 backslash)) (piece (92 ∷ 92 ∷ []) 92 rest more a_backslash s))
        (λ (quote : (byte == 34) ≡ true). subst (λ b. StandsFor (92 ∷ b ∷ rest) (b ∷ more)) (sym (eqb-true byte 34 quote)) (piece (92 ∷ 34 ∷ []) 34 rest more a_quote s))
        (or_cases (byte == 92) (byte == 34) is)

high_stands : (byte : ℕ) → Stands HighDigit byte (decode HighDigit byte)
high_stands byte = cond_both (is_digit byte 16) _ _ (Stands HighDigit byte) (λ is. λ rest more s. s byte is refl) (λ _. tt)

low_stands : (value byte : ℕ) → Stands (LowDigit value) byte (decode (LowDigit value) byte)
low_stands value byte =
    cond_both (is_digit byte 16) _ _ (Stands (LowDigit value) byte)
    (λ is. λ rest more s. λ high is_high same.
    subst (λ v. StandsFor (92 ∷ 120 ∷ high ∷ byte ∷ rest) ((16 * v + digit_value byte) ∷ more)) same (piece (92 ∷ 120 ∷ high ∷ byte ∷ []) (16 * digit_value high + digit_value byte) rest more (by_digits high byte is_high is) s)) (λ _. tt)

stands : (inside : Inside) (byte : ℕ) → Stands inside byte (decode inside byte)
stands Plain byte = plain_stands byte
stands Escape byte = escape_stands byte
stands HighDigit byte = high_stands byte
stands (LowDigit value) byte = low_stands value byte
stands Closed byte = tt

none_left : (inside : Inside) (bytes : List ℕ) → decoded inside [] ≡ Some bytes → Standing inside [] bytes
none_left Closed bytes is = let same : [] ≡ bytes = cc in (refl, sym same)
none_left Plain bytes is = cc
none_left Escape bytes is = cc
none_left HighDigit bytes is = cc
none_left (LowDigit value) bytes is = cc

all_stand : (inside : Inside) (rest bytes : List ℕ) → decoded inside rest ≡ Some bytes → Standing inside rest bytes
all_stand inside [] bytes is = none_left inside bytes is
all_stand inside (byte ∷ rest) bytes is =
    let found = then_some (decode inside byte) (λ s. option_map (λ more. option_to_list s.1 ++ more) (decoded s.0 rest)) bytes (sym (step inside byte rest) ∙ is) in
    let more = mapped_is (λ more. option_to_list found.0.1 ++ more) (decoded found.0.0 rest) bytes found.2 in
    let one : Stands inside byte (Some found.0) = subst (Stands inside byte) found.1 (stands inside byte) in
    subst (Standing inside (byte ∷ rest)) more.2 (one rest more.0 (all_stand found.0.0 rest more.0 more.1))

pub literal_stands : (rest bytes : List ℕ) → literal rest ≡ Ok bytes → StandsFor rest bytes
literal_stands rest bytes is = all_stand Plain rest bytes (read_inside (decoded Plain rest) bytes is).0

pub literal_fits : (rest bytes : List ℕ) → literal rest ≡ Ok bytes → length bytes ≤ RECORD_MOST
literal_fits rest bytes is = leb-true (length bytes) RECORD_MOST (read_inside (decoded Plain rest) bytes is).1

pub literal_only : (rest bytes : List ℕ) → StandsFor rest bytes → length bytes ≤ RECORD_MOST → literal rest ≡ Ok bytes
literal_only rest bytes is fits =
    ap fitting_literal (pieces_decoded rest bytes is) ∙ cond-true (nat_le (length bytes) RECORD_MOST) _ _ (le-leb (length bytes) RECORD_MOST fits)
