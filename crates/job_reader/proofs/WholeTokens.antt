-- Tokens that stand alone: joined by spaces they are the tokens of the line.
use Rattle.std.proofs.Common.{◌≡◌, ℕ, ◌+◌, ◌/◌, ◌%◌, ◌<◌, ◌≤◌, Bool, true, false, cond, List, [], ◌∷◌, ◌++◌, length, Result, Ok, Err, refl, sym, ap, subst, ◌∙◌, ⊎_elim, append_assoc, arith, length-append, lit≤}
use Rattle.std.proofs.lemmas.List.{append-nil}
use Rattle.swan_model.specs.Lines.{in_front}
use Rattle.swan_model.proofs.FirstLine.{in_front_of, with_front}
use Rattle.job_reader.specs.Characters.{is_allowed}
use Rattle.job_reader.specs.declared.literal.Inside.TheVariants.{Plain}
use Rattle.std.specs.Prelude.{◌==◌, not, nat_lt, map, flat_map, is_ok}
use Rattle.std.specs.Char.{digit_char}
use Rattle.std.specs.List.{list_all, join_with_byte}
use Rattle.std.proofs.lemmas.Bool.{cond-true, cond-false, cond_both, cases_Bool, and_from, and_parts, ne_eqb, both_ways, not-true, ltb-false}
use Rattle.job_reader.specs.Atoms.{decoded, literal}
use Rattle.job_reader.specs.CanonicalText.{escaped, literal_text}
use Rattle.job_reader.specs.Tokens.{next, tokens, tokens_from, with_byte, without_end_spaces, without_front_spaces, before_trimmed}
use Rattle.job_reader.specs.declared.fault.JobKind.{JobKind}
use Rattle.job_reader.specs.declared.scan.Scan.{Scan}
use Rattle.job_reader.specs.declared.scan.Scan.TheVariants.{Between, Token, Quoted, Escaped}
use Rattle.job_reader.proofs.Canon.{canon, canon_literal, is_fine, unquoted_stays}
use Rattle.job_reader.proofs.CanonTokens.{read_inside}
use Rattle.job_reader.proofs.Literals.{AreBytes, Escaping, escaping, literal_short, two_digits}
use Rattle.job_reader.proofs.Literals.Escaping.{at_quote, at_backslash, at_feed, at_tab, itself, by_digits}
use Rattle.job_reader.proofs.Scans.{front_of_byte}
use Rattle.job_reader.proofs.Trims.{end_other, front_other}

isnt_space : ℕ → Bool
isnt_space byte = not (byte == 32)

-- a token as a line has it: it begins with no space, and has none where it begins with no quote
abbrev pub IsTokenOf : List ℕ → Type 0
IsTokenOf [] = ⊥
IsTokenOf (byte ∷ bytes) = ((byte == 32) ≡ false) × ((byte == 34) ≡ false → list_all (λ b. not (b == 32)) bytes ≡ true)

abbrev pub AreWholeTokens : List (List ℕ) → Type 0
AreWholeTokens [] = Unit {0}
AreWholeTokens (token ∷ tokens) = IsTokenOf token × AreWholeTokens tokens

-- what is found from a state on
abbrev Pieces : Scan → List (List ℕ) → Type 0
Pieces Between tokens = AreWholeTokens tokens
Pieces _ [] = ⊥
Pieces Token (piece ∷ tokens) = (list_all (λ b. not (b == 32)) piece ≡ true) × AreWholeTokens tokens
Pieces _ (piece ∷ tokens) = AreWholeTokens tokens

in_quotes : (byte : ℕ) (scan : Scan) (tokens : List (List ℕ)) → (scan ≡ Between → ⊥) → Pieces scan tokens → Pieces Quoted (in_front byte tokens)
in_quotes byte Between tokens isnt pieces = absurd (isnt refl)
in_quotes byte Token [] isnt pieces = absurd pieces
in_quotes byte Token (piece ∷ tokens) isnt pieces = pieces.1
in_quotes byte Quoted [] isnt pieces = absurd pieces
in_quotes byte Quoted (piece ∷ tokens) isnt pieces = pieces
in_quotes byte Escaped [] isnt pieces = absurd pieces
in_quotes byte Escaped (piece ∷ tokens) isnt pieces = pieces

quote_begins : (byte : ℕ) (tokens : List (List ℕ)) → (byte == 32) ≡ false → (byte == 34) ≡ true → Pieces Quoted tokens → AreWholeTokens (in_front byte tokens)
quote_begins byte [] space quote pieces = absurd pieces
quote_begins byte (piece ∷ tokens) space quote pieces = ((space, λ isnt. absurd (both_ways _ isnt quote)), pieces)

token_begins : (byte : ℕ) (tokens : List (List ℕ)) → (byte == 32) ≡ false → Pieces Token tokens → AreWholeTokens (in_front byte tokens)
token_begins byte [] space pieces = absurd pieces
token_begins byte (piece ∷ tokens) space pieces = ((space, λ isnt. pieces.0), pieces.1)

token_goes_on : (byte : ℕ) (tokens : List (List ℕ)) → (byte == 32) ≡ false → Pieces Token tokens → Pieces Token (in_front byte tokens)
token_goes_on byte [] space pieces = absurd pieces
token_goes_on byte (piece ∷ tokens) space pieces = (and_from (not (byte == 32)) (list_all (λ b. not (b == 32)) piece) (ap not space) pieces.0, pieces.1)

pieces_of : (scan : Scan) (bytes : List ℕ) → Pieces scan (tokens_from scan bytes)
pieces_of Between [] = tt
pieces_of Token [] = (refl, tt)
pieces_of Quoted [] = tt
pieces_of Escaped [] = tt
pieces_of Between (byte ∷ bytes) =
    cond_both (byte == 32) Between (cond (byte == 34) Quoted Token) (λ n. AreWholeTokens (with_byte Between byte n (tokens_from n bytes)))
    (λ space. pieces_of Between bytes)
    (λ space. cond_both (byte == 34) Quoted Token (λ n. AreWholeTokens (with_byte Between byte n (tokens_from n bytes)))
    (λ quote. quote_begins byte (tokens_from Quoted bytes) space quote (pieces_of Quoted bytes))
    (λ other. token_begins byte (tokens_from Token bytes) space (pieces_of Token bytes)))
pieces_of Token (byte ∷ bytes) =
    cond_both (byte == 32) Between Token (λ n. Pieces Token (with_byte Token byte n (tokens_from n bytes)))
    (λ space. (refl, pieces_of Between bytes))
    (λ space. token_goes_on byte (tokens_from Token bytes) space (pieces_of Token bytes))
pieces_of Quoted (byte ∷ bytes) =
    cond_both (byte == 34) Token (cond (byte == 92) Escaped Quoted) (λ n. Pieces Quoted (with_byte Quoted byte n (tokens_from n bytes)))
    (λ quote. in_quotes byte Token (tokens_from Token bytes) (λ is. cc) (pieces_of Token bytes))
    (λ quote. cond_both (byte == 92) Escaped Quoted (λ n. Pieces Quoted (with_byte Quoted byte n (tokens_from n bytes)))
    (λ backslash. in_quotes byte Escaped (tokens_from Escaped bytes) (λ is. cc) (pieces_of Escaped bytes))
    (λ other. in_quotes byte Quoted (tokens_from Quoted bytes) (λ is. cc) (pieces_of Quoted bytes)))
pieces_of Escaped (byte ∷ bytes) = after_escape byte (tokens_from Quoted bytes) (pieces_of Quoted bytes)
  where
    after_escape : (byte : ℕ) (tokens : List (List ℕ)) → Pieces Quoted tokens → Pieces Escaped (in_front byte tokens)
    after_escape byte [] pieces = absurd pieces
    after_escape byte (piece ∷ tokens) pieces = pieces

pub are_tokens : (line : List ℕ) → AreWholeTokens (tokens line)
are_tokens line = pieces_of Between line

-- a text that is one token wherever a space or the line's end follows
pub record StandsAlone (token : List ℕ) : Type 0 where
  pub scanned : (rest : List ℕ) → tokens_from Between (token ++ rest) ≡ with_front token (tokens_from Token rest)
  pub begins : without_front_spaces token ≡ token
  pub ends : without_end_spaces token ≡ token
  pub some : 0 < length token

-- nothing in front of what is found in a token
no_front : (rest : List ℕ) → with_front [] (tokens_from Token rest) ≡ tokens_from Token rest
no_front [] = refl
no_front (byte ∷ rest) =
    cond_both (byte == 32) Between Token (λ n. with_front [] (with_byte Token byte n (tokens_from n rest)) ≡ with_byte Token byte n (tokens_from n rest))
    (λ space. refl) (λ other. nothing_before byte (tokens_from Token rest))
  where
    nothing_before : (byte : ℕ) (tokens : List (List ℕ)) → with_front [] (in_front byte tokens) ≡ in_front byte tokens
    nothing_before byte [] = refl
    nothing_before byte (token ∷ tokens) = refl

pub in_token : (bytes rest : List ℕ) → list_all (λ b. not (b == 32)) bytes ≡ true → tokens_from Token (bytes ++ rest) ≡ with_front bytes (tokens_from Token rest)
in_token [] rest none = sym (no_front rest)
in_token (byte ∷ bytes) rest none =
    let parts = and_parts (not (byte == 32)) (list_all (λ b. not (b == 32)) bytes) none in
    let goes_on : next Token byte ≡ Token = cond-false (byte == 32) Between Token (not-true (byte == 32) parts.0) in
    ap (λ n. with_byte Token byte n (tokens_from n (bytes ++ rest))) goes_on
    ∙ ap (in_front byte) (in_token bytes rest parts.1)
    ∙ in_front_of byte bytes (tokens_from Token rest)

no_end_space : (bytes : List ℕ) → list_all (λ b. not (b == 32)) bytes ≡ true → without_end_spaces bytes ≡ bytes
no_end_space [] none = refl
no_end_space (byte ∷ []) none =
    cond-false (byte == 32) [] (byte ∷ []) (not-true (byte == 32) (and_parts (not (byte == 32)) true none).0)
no_end_space (byte ∷ other ∷ bytes) none =
    ap (before_trimmed byte) (no_end_space (other ∷ bytes) (and_parts (not (byte == 32)) (list_all (λ b. not (b == 32)) (other ∷ bytes)) none).1)

pub plain_alone : (byte : ℕ) (bytes : List ℕ) → (byte == 32) ≡ false → (byte == 34) ≡ false → list_all (λ b. not (b == 32)) bytes ≡ true → StandsAlone (byte ∷ bytes)
plain_alone byte bytes space quote none = record {
  scanned = λ rest.
      let begins : next Between byte ≡ Token = cond-false (byte == 32) _ _ space ∙ cond-false (byte == 34) _ _ quote in
      ap (λ n. with_byte Between byte n (tokens_from n (bytes ++ rest))) begins
      ∙ ap (in_front byte) (in_token bytes rest none)
      ∙ in_front_of byte bytes (tokens_from Token rest);
  begins = front_other bytes byte space;
  ends = no_end_space (byte ∷ bytes) (and_from (not (byte == 32)) (list_all (λ b. not (b == 32)) bytes) (ap not space) none);
  some = omega arith;
}

-- a literal's text
hex_stays : (d : ℕ) → d < 16 → next Quoted (digit_char d) ≡ Quoted
hex_stays d small =
    cond_both (nat_lt d 10) (48 + d) (87 + d) (λ c. next Quoted c ≡ Quoted)
    (λ _. cond-false (48 + d == 34) _ _ (ne_eqb (48 + d) 34 (λ is. omega arith)) ∙ cond-false (48 + d == 92) _ _ (ne_eqb (48 + d) 92 (λ is. omega arith)))
    (λ large. let above : 10 ≤ d = ltb-false d 10 large in cond-false (87 + d == 34) _ _ (ne_eqb (87 + d) 34 (λ is. omega arith)) ∙ cond-false (87 + d == 92) _ _ (ne_eqb (87 + d) 92 (λ is. omega arith)))

-- a byte of a literal after which one is still inside its quotes
pub stays_quoted : (byte : ℕ) (rest : List ℕ) → next Quoted byte ≡ Quoted → tokens_from Quoted (byte ∷ rest) ≡ in_front byte (tokens_from Quoted rest)
stays_quoted byte rest stays = ap (λ n. with_byte Quoted byte n (tokens_from n rest)) stays

two_in_front : (a b : ℕ) (tokens : List (List ℕ)) → in_front a (in_front b tokens) ≡ with_front (a ∷ b ∷ []) tokens
two_in_front a b [] = refl
two_in_front a b (token ∷ tokens) = refl

pub joined_front : (xs ys : List ℕ) (tokens : List (List ℕ)) → with_front xs (with_front ys tokens) ≡ with_front (xs ++ ys) tokens
joined_front xs ys [] = refl
joined_front xs ys (token ∷ tokens) = ap (λ t. t ∷ tokens) (sym (append_assoc xs ys token))

escape_scanned : (byte : ℕ) (text : List ℕ) → Escaping byte text → byte < 256 → (rest : List ℕ) → tokens_from Quoted (text ++ rest) ≡ with_front text (tokens_from Quoted rest)
escape_scanned byte _ (at_quote is) small rest = two_in_front 92 34 (tokens_from Quoted rest)
escape_scanned byte _ (at_backslash is) small rest = two_in_front 92 92 (tokens_from Quoted rest)
escape_scanned byte _ (at_feed is) small rest = two_in_front 92 110 (tokens_from Quoted rest)
escape_scanned byte _ (at_tab is) small rest = two_in_front 92 116 (tokens_from Quoted rest)
escape_scanned byte _ (itself quote backslash is) small rest =
    stays_quoted byte rest (cond-false (byte == 34) _ _ quote ∙ cond-false (byte == 92) _ _ backslash) ∙ front_of_byte byte (tokens_from Quoted rest)
escape_scanned byte _ (by_digits isnt) small rest =
    let high : byte / 16 < 16 = omega arith in
    let low : byte % 16 < 16 = omega arith in
    let h = digit_char (byte / 16) in
    let l = digit_char (byte % 16) in
    ap (λ digits. tokens_from Quoted (92 ∷ 120 ∷ digits ++ rest)) (two_digits byte small)
    ∙ two_in_front 92 120 (tokens_from Quoted (h ∷ l ∷ rest))
    ∙ ap (with_front (92 ∷ 120 ∷ [])) (stays_quoted h (l ∷ rest) (hex_stays (byte / 16) high) ∙ ap (in_front h) (stays_quoted l rest (hex_stays (byte % 16) low)) ∙ two_in_front h l (tokens_from Quoted rest))
    ∙ joined_front (92 ∷ 120 ∷ []) (h ∷ l ∷ []) (tokens_from Quoted rest)
    ∙ ap (λ digits. with_front (92 ∷ 120 ∷ digits) (tokens_from Quoted rest)) (sym (two_digits byte small))

pub closed_quote : (rest : List ℕ) → tokens_from Quoted (34 ∷ rest) ≡ with_front (34 ∷ []) (tokens_from Token rest)
closed_quote rest = front_of_byte 34 (tokens_from Token rest)

inside_scanned : (bytes : List ℕ) → AreBytes bytes → (rest : List ℕ) → tokens_from Quoted (flat_map escaped bytes ++ 34 ∷ rest) ≡ with_front (flat_map escaped bytes ++ 34 ∷ []) (tokens_from Token rest)
inside_scanned [] are rest = closed_quote rest
inside_scanned (byte ∷ bytes) are rest =
    ap (tokens_from Quoted) (append_assoc (escaped byte) (flat_map escaped bytes) (34 ∷ rest))
    ∙ escape_scanned byte (escaped byte) (escaping byte) are.0 (flat_map escaped bytes ++ 34 ∷ rest)
    ∙ ap (with_front (escaped byte)) (inside_scanned bytes are.1 rest)
    ∙ joined_front (escaped byte) (flat_map escaped bytes ++ 34 ∷ []) (tokens_from Token rest)
    ∙ ap (λ front. with_front front (tokens_from Token rest)) (sym (append_assoc (escaped byte) (flat_map escaped bytes) (34 ∷ [])))

literal_alone : (bytes : List ℕ) → AreBytes bytes → StandsAlone (literal_text bytes)
literal_alone bytes are = record {
  scanned = λ rest.
      ap (λ l. in_front 34 (tokens_from Quoted l)) (append_assoc (flat_map escaped bytes) (34 ∷ []) rest)
      ∙ ap (in_front 34) (inside_scanned bytes are rest)
      ∙ in_front_of 34 (flat_map escaped bytes ++ 34 ∷ []) (tokens_from Token rest);
  begins = refl;
  ends = end_other (34 ∷ flat_map escaped bytes) 34 refl;
  some = omega arith;
}

-- a token that is fine and that a line has stands alone in its canonical form
pub stands_alone : (token : List ℕ) → IsTokenOf token → is_fine token ≡ true → list_all is_allowed token ≡ true → StandsAlone (canon token)
stands_alone [] is fine allowed = absurd is
stands_alone (byte ∷ bytes) is fine allowed =
    ⊎_elim
    (λ (quote : (byte == 34) ≡ true). quoted_alone byte bytes (literal bytes) quote refl (sym (cond-true (byte == 34) _ _ quote) ∙ fine) allowed)
    (λ (quote : (byte == 34) ≡ false). subst StandsAlone (sym (unquoted_stays byte bytes quote)) (plain_alone byte bytes is.0 quote (is.1 quote)))
    (cases_Bool (byte == 34))
  where
    quoted_alone : (byte : ℕ) (bytes : List ℕ) (read : Result (List ℕ) JobKind) → (byte == 34) ≡ true → literal bytes ≡ read → is_ok (literal bytes) ≡ true → list_all is_allowed (byte ∷ bytes) ≡ true → StandsAlone (canon (byte ∷ bytes))
    quoted_alone byte bytes (Err k) quote is fine allowed = let no : is_ok (literal bytes) ≡ false = ap is_ok is in absurd (both_ways _ no fine)
    quoted_alone byte bytes (Ok inside) quote is fine allowed =
        let found = read_inside (decoded Plain bytes) inside is in
        let bounds = literal_short bytes inside (and_parts (is_allowed byte) (list_all is_allowed bytes) allowed).1 found.0 in
        subst StandsAlone (sym (cond-true (byte == 34) _ _ quote ∙ ap (canon_literal (byte ∷ bytes)) is)) (literal_alone inside bounds.0)

abbrev pub AllAlone : List (List ℕ) → Type 0
AllAlone [] = Unit {0}
AllAlone (token ∷ tokens) = StandsAlone token × AllAlone tokens

pub all_alone : (line_tokens : List (List ℕ)) → AreWholeTokens line_tokens → list_all is_fine line_tokens ≡ true → list_all (list_all is_allowed) line_tokens ≡ true → AllAlone (map canon line_tokens)
all_alone [] are fine allowed = tt
all_alone (token ∷ more) are fine allowed =
    let good = and_parts (is_fine token) (list_all is_fine more) fine in
    let may = and_parts (list_all is_allowed token) (list_all (list_all is_allowed) more) allowed in
    (stands_alone token are.0 good.0 may.0, all_alone more are.1 good.1 may.1)

last_token : (token : List ℕ) → StandsAlone token → tokens token ≡ token ∷ []
last_token token alone =
    ap (tokens_from Between) (sym (append-nil token)) ∙ alone.scanned [] ∙ ap (λ t. t ∷ []) (append-nil token)

-- joined by spaces, they are the tokens of the line
pub tokens_joined : (ts : List (List ℕ)) → AllAlone ts → tokens (join_with_byte 32 ts) ≡ ts
tokens_joined [] alone = refl
tokens_joined (token ∷ []) alone = last_token token alone.0
tokens_joined (token ∷ other ∷ ts) alone =
    alone.0.scanned (32 ∷ join_with_byte 32 (other ∷ ts))
    ∙ ap (λ t. t ∷ tokens_from Between (join_with_byte 32 (other ∷ ts))) (append-nil token)
    ∙ ap (λ rest. token ∷ rest) (tokens_joined (other ∷ ts) alone.1)

-- and the line has no outer spaces
front_kept : (front rest : List ℕ) → 0 < length front → without_front_spaces front ≡ front → without_front_spaces (front ++ rest) ≡ front ++ rest
front_kept [] rest some is = absurd (omega arith)
front_kept (byte ∷ front) rest some is =
    ⊎_elim
    (λ (space : (byte == 32) ≡ true). absurd (shorter byte front space is))
    (λ (other : (byte == 32) ≡ false). front_other (front ++ rest) byte other)
    (cases_Bool (byte == 32))
  where
    front_length : (bytes : List ℕ) → length (without_front_spaces bytes) ≤ length bytes
    front_length [] = lit≤ tt
    front_length (byte ∷ bytes) =
        cond_both (byte == 32) (without_front_spaces bytes) (byte ∷ bytes) (λ l. length l ≤ length (byte ∷ bytes)) (λ _. omega (arith, front_length bytes)) (λ _. omega arith)

    shorter : (byte : ℕ) (front : List ℕ) → (byte == 32) ≡ true → without_front_spaces (byte ∷ front) ≡ byte ∷ front → ⊥
    shorter byte front space is =
        let e = sym (cond-true (byte == 32) (without_front_spaces front) (byte ∷ front) space) ∙ is in
        omega (arith, ap length e, front_length front)

kept_after : (byte : ℕ) (bytes : List ℕ) → 0 < length bytes → without_end_spaces bytes ≡ bytes → without_end_spaces (byte ∷ bytes) ≡ byte ∷ bytes
kept_after byte [] some is = absurd (omega arith)
kept_after byte (other ∷ bytes) some is = ap (before_trimmed byte) is

end_kept : (front rest : List ℕ) → 0 < length rest → without_end_spaces rest ≡ rest → without_end_spaces (front ++ rest) ≡ front ++ rest
end_kept [] rest some is = is
end_kept (byte ∷ front) rest some is =
    kept_after byte (front ++ rest) (omega (arith, length-append front rest)) (end_kept front rest some is)

pub begins_joined : (ts : List (List ℕ)) → AllAlone ts → without_front_spaces (join_with_byte 32 ts) ≡ join_with_byte 32 ts
begins_joined [] alone = refl
begins_joined (token ∷ []) alone = alone.0.begins
begins_joined (token ∷ other ∷ ts) alone = front_kept token (32 ∷ join_with_byte 32 (other ∷ ts)) alone.0.some alone.0.begins

joined_some : (token : List ℕ) (ts : List (List ℕ)) → 0 < length token → 0 < length (join_with_byte 32 (token ∷ ts))
joined_some token [] some = some
joined_some token (other ∷ ts) some = omega (arith, length-append token (32 ∷ join_with_byte 32 (other ∷ ts)))

pub ends_joined : (ts : List (List ℕ)) → AllAlone ts → without_end_spaces (join_with_byte 32 ts) ≡ join_with_byte 32 ts
ends_joined [] alone = refl
ends_joined (token ∷ []) alone = alone.0.ends
ends_joined (token ∷ other ∷ ts) alone =
    let rest = join_with_byte 32 (other ∷ ts) in
    end_kept token (32 ∷ rest) (omega arith) (kept_after 32 rest (joined_some other ts alone.1.0.some) (ends_joined (other ∷ ts) alone.1))
