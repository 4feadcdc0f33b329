-- A scan of a line finds its tokens, and there is no other way to cut it.
use Rattle.std.proofs.Common.{◌≡◌, ℕ, true, false, cond, List, [], ◌∷◌, ◌++◌, refl, sym, ap, subst, ◌∙◌, append_assoc}
use Rattle.std.proofs.lemmas.List.{append-nil}
use Rattle.std.specs.Prelude.{◌==◌, not}
use Rattle.std.specs.List.{list_all}
use Rattle.std.proofs.lemmas.Bool.{cond-false, cond_both, and_from, eqb-true}
use Rattle.swan_model.specs.Lines.{in_front}
use Rattle.swan_model.proofs.FirstLine.{in_front_of, with_front}
use Rattle.job_reader.specs.Pieces.{IsQuoted, IsToken, IsUnclosed, AreTokens}
use Rattle.job_reader.specs.Pieces.IsQuoted.{nothing, plain, pair}
use Rattle.job_reader.specs.Pieces.IsToken.{word, quoted}
use Rattle.job_reader.specs.Pieces.IsUnclosed.{whole, cut}
use Rattle.job_reader.specs.Pieces.AreTokens.{none, after_space, before_space, last, unclosed}
use Rattle.job_reader.specs.Tokens.{tokens, tokens_from, with_byte}
use Rattle.job_reader.specs.declared.scan.Scan.{Scan}
use Rattle.job_reader.specs.declared.scan.Scan.TheVariants.{Between, Token, Quoted, Escaped}
use Rattle.job_reader.proofs.WholeTokens.{plain_alone, in_token, joined_front, stays_quoted, closed_quote}

-- what follows a token: the line's end, or a space and the other tokens
data Rest (bytes token : List ℕ) (others : List (List ℕ)) : Type 0 where
  at_end : bytes ≡ token → others ≡ [] → Rest bytes token others
  at_space : (line : List ℕ) → bytes ≡ token ++ 32 ∷ line → AreTokens (32 ∷ line) others → Rest bytes token others

longer : (byte : ℕ) (bytes token : List ℕ) (others : List (List ℕ)) → Rest bytes token others → Rest (byte ∷ bytes) (byte ∷ token) others
longer byte bytes token others (at_end is none_left) = at_end (ap (λ b. byte ∷ b) is) none_left
longer byte bytes token others (at_space line is more) = at_space line (ap (λ b. byte ∷ b) is) more

made : (bytes token : List ℕ) (others : List (List ℕ)) → IsToken token → Rest bytes token others → AreTokens bytes (token ∷ others)
made bytes token others is (at_end all none_left) =
    subst (λ b. AreTokens b (token ∷ others)) (sym all) (subst (λ o. AreTokens token (token ∷ o)) (sym none_left) (last token is))
made bytes token others is (at_space line all more) =
    subst (λ b. AreTokens b (token ∷ others)) (sym all) (before_space token line others is more)

-- what is found from inside a token that has no quotes
record InWord (bytes : List ℕ) (found : List (List ℕ)) : Type 0 where
  token : List ℕ
  others : List (List ℕ)
  is : found ≡ token ∷ others
  no_space : list_all (λ b. not (b == 32)) token ≡ true
  rest : Rest bytes token others

-- what is found from inside quotes
data InQuotes (bytes : List ℕ) (found : List (List ℕ)) : Type 0 where
  closes : (inside more : List ℕ) (others : List (List ℕ)) → IsQuoted inside → list_all (λ b. not (b == 32)) more ≡ true → found ≡ (inside ++ 34 ∷ more) ∷ others → Rest bytes (inside ++ 34 ∷ more) others → InQuotes bytes found
  runs_out : (inside : List ℕ) → IsQuoted inside → bytes ≡ inside → found ≡ bytes ∷ [] → InQuotes bytes found
  is_cut : (inside : List ℕ) → IsQuoted inside → bytes ≡ inside ++ 92 ∷ [] → found ≡ bytes ∷ [] → InQuotes bytes found

plain_front : (byte : ℕ) (bytes : List ℕ) (found : List (List ℕ)) → (byte == 34) ≡ false → (byte == 92) ≡ false → InQuotes bytes found → InQuotes (byte ∷ bytes) (in_front byte found)
plain_front byte bytes found quote backslash (closes inside more others q no_space is rest) =
    closes (byte ∷ inside) more others (plain byte inside quote backslash q) no_space (ap (in_front byte) is) (longer byte bytes (inside ++ 34 ∷ more) others rest)
plain_front byte bytes found quote backslash (runs_out inside q is all) =
    runs_out (byte ∷ inside) (plain byte inside quote backslash q) (ap (λ b. byte ∷ b) is) (ap (in_front byte) all)
plain_front byte bytes found quote backslash (is_cut inside q is all) =
    is_cut (byte ∷ inside) (plain byte inside quote backslash q) (ap (λ b. byte ∷ b) is) (ap (in_front byte) all)

pair_front : (byte : ℕ) (bytes : List ℕ) (found : List (List ℕ)) → InQuotes bytes found → InQuotes (92 ∷ byte ∷ bytes) (in_front 92 (in_front byte found))
pair_front byte bytes found (closes inside more others q no_space is rest) =
    closes (92 ∷ byte ∷ inside) more others (pair byte inside q) no_space (ap (λ f. in_front 92 (in_front byte f)) is) (longer 92 (byte ∷ bytes) (byte ∷ inside ++ 34 ∷ more) others (longer byte bytes (inside ++ 34 ∷ more) others rest))
pair_front byte bytes found (runs_out inside q is all) =
    runs_out (92 ∷ byte ∷ inside) (pair byte inside q) (ap (λ b. 92 ∷ byte ∷ b) is) (ap (λ f. in_front 92 (in_front byte f)) all)
pair_front byte bytes found (is_cut inside q is all) =
    is_cut (92 ∷ byte ∷ inside) (pair byte inside q) (ap (λ b. 92 ∷ byte ∷ b) is) (ap (λ f. in_front 92 (in_front byte f)) all)

-- what is found from a state on; after a backslash it is said with that backslash
abbrev Found : Scan → List ℕ → List (List ℕ) → Type 0
Found Between bytes found = AreTokens bytes found
Found Token bytes found = InWord bytes found
Found Quoted bytes found = InQuotes bytes found
Found Escaped bytes found = InQuotes (92 ∷ bytes) (in_front 92 found)

space_between : (byte : ℕ) (bytes : List ℕ) (found : List (List ℕ)) → (byte == 32) ≡ true → AreTokens bytes found → AreTokens (byte ∷ bytes) found
space_between byte bytes found space are = subst (λ b. AreTokens (b ∷ bytes) found) (sym (eqb-true byte 32 space)) (after_space bytes found are)

word_found : (byte : ℕ) (bytes : List ℕ) (found : List (List ℕ)) → (byte == 32) ≡ false → (byte == 34) ≡ false → InWord bytes found → AreTokens (byte ∷ bytes) (in_front byte found)
word_found byte bytes found space quote w =
    subst (AreTokens (byte ∷ bytes)) (sym (ap (in_front byte) w.is)) (made (byte ∷ bytes) (byte ∷ w.token) w.others (word byte w.token space quote w.no_space) (longer byte bytes w.token w.others w.rest))

quote_found : (bytes : List ℕ) (found : List (List ℕ)) → InQuotes bytes found → AreTokens (34 ∷ bytes) (in_front 34 found)
quote_found bytes found (closes inside more others q no_space is rest) =
    subst (AreTokens (34 ∷ bytes)) (sym (ap (in_front 34) is)) (made (34 ∷ bytes) (34 ∷ inside ++ 34 ∷ more) others (quoted inside more q no_space) (longer 34 bytes (inside ++ 34 ∷ more) others rest))
quote_found bytes found (runs_out inside q is all) =
    subst (AreTokens (34 ∷ bytes)) (sym (ap (in_front 34) all)) (unclosed (34 ∷ bytes) (subst (λ b. IsUnclosed (34 ∷ b)) (sym is) (whole inside q)))
quote_found bytes found (is_cut inside q is all) =
    subst (AreTokens (34 ∷ bytes)) (sym (ap (in_front 34) all)) (unclosed (34 ∷ bytes) (subst (λ b. IsUnclosed (34 ∷ b)) (sym is) (cut inside q)))

word_ends : (byte : ℕ) (bytes : List ℕ) (found : List (List ℕ)) → (byte == 32) ≡ true → AreTokens bytes found → InWord (byte ∷ bytes) ([] ∷ found)
word_ends byte bytes found space are = record {
  token = [];
  others = found;
  is = refl;
  no_space = refl;
  rest = at_space bytes (ap (λ b. b ∷ bytes) (eqb-true byte 32 space)) (after_space bytes found are);
}

word_goes_on : (byte : ℕ) (bytes : List ℕ) (found : List (List ℕ)) → (byte == 32) ≡ false → InWord bytes found → InWord (byte ∷ bytes) (in_front byte found)
word_goes_on byte bytes found space w = record {
  token = byte ∷ w.token;
  others = w.others;
  is = ap (in_front byte) w.is;
  no_space = and_from (not (byte == 32)) (list_all (λ b. not (b == 32)) w.token) (ap not space) w.no_space;
  rest = longer byte bytes w.token w.others w.rest;
}

quote_closes : (byte : ℕ) (bytes : List ℕ) (found : List (List ℕ)) → (byte == 34) ≡ true → InWord bytes found → InQuotes (byte ∷ bytes) (in_front byte found)
quote_closes byte bytes found quote w =
    subst (λ b. InQuotes (b ∷ bytes) (in_front b found)) (sym (eqb-true byte 34 quote))
    (closes [] w.token w.others nothing w.no_space (ap (in_front 34) w.is) (longer 34 bytes w.token w.others w.rest))

all_found : (scan : Scan) (bytes : List ℕ) → Found scan bytes (tokens_from scan bytes)
all_found Between [] = none
all_found Token [] = record { token = []; others = []; is = refl; no_space = refl; rest = at_end refl refl }
all_found Quoted [] = runs_out [] nothing refl refl
all_found Escaped [] = is_cut [] nothing refl refl
all_found Between (byte ∷ bytes) =
    cond_both (byte == 32) Between (cond (byte == 34) Quoted Token) (λ n. AreTokens (byte ∷ bytes) (with_byte Between byte n (tokens_from n bytes)))
    (λ space. space_between byte bytes (tokens_from Between bytes) space (all_found Between bytes))
    (λ space. cond_both (byte == 34) Quoted Token (λ n. AreTokens (byte ∷ bytes) (with_byte Between byte n (tokens_from n bytes)))
    (λ quote. subst (λ b. AreTokens (b ∷ bytes) (in_front b (tokens_from Quoted bytes))) (sym (eqb-true byte 34 quote)) (quote_found bytes (tokens_from Quoted bytes) (all_found Quoted bytes)))
    (λ other. word_found byte bytes (tokens_from Token bytes) space other (all_found Token bytes)))
all_found Token (byte ∷ bytes) =
    cond_both (byte == 32) Between Token (λ n. InWord (byte ∷ bytes) (with_byte Token byte n (tokens_from n bytes)))
    (λ space. word_ends byte bytes (tokens_from Between bytes) space (all_found Between bytes))
    (λ space. word_goes_on byte bytes (tokens_from Token bytes) space (all_found Token bytes))
all_found Quoted (byte ∷ bytes) =
    cond_both (byte == 34) Token (cond (byte == 92) Escaped Quoted) (λ n. InQuotes (byte ∷ bytes) (with_byte Quoted byte n (tokens_from n bytes)))
    (λ quote. quote_closes byte bytes (tokens_from Token bytes) quote (all_found Token bytes))
    (λ quote. cond_both (byte == 92) Escaped Quoted (λ n. InQuotes (byte ∷ bytes) (with_byte Quoted byte n (tokens_from n bytes)))
    (λ backslash. subst (λ b. InQuotes (b ∷ bytes) (in_front b (tokens_from Escaped bytes))) (sym (eqb-true byte 92 backslash)) (all_found Escaped bytes))
    (λ other. plain_front byte bytes (tokens_from Quoted bytes) quote other (all_found Quoted bytes)))
all_found Escaped (byte ∷ bytes) = pair_front byte bytes (tokens_from Quoted bytes) (all_found Quoted bytes)

pub are_tokens : (line : List ℕ) → AreTokens line (tokens line)
are_tokens line = all_found Between line

-- each cut is the one that the scan makes
quoted_scanned : (inside : List ℕ) → IsQuoted inside → (rest : List ℕ) → tokens_from Quoted (inside ++ 34 ∷ rest) ≡ with_front (inside ++ 34 ∷ []) (tokens_from Token rest)
quoted_scanned _ nothing rest = closed_quote rest
quoted_scanned _ (plain byte more quote backslash q) rest =
    stays_quoted byte (more ++ 34 ∷ rest) (cond-false (byte == 34) _ _ quote ∙ cond-false (byte == 92) _ _ backslash)
    ∙ ap (in_front byte) (quoted_scanned more q rest)
    ∙ in_front_of byte (more ++ 34 ∷ []) (tokens_from Token rest)
quoted_scanned _ (pair byte more q) rest =
    ap (λ f. in_front 92 (in_front byte f)) (quoted_scanned more q rest)
    ∙ ap (in_front 92) (in_front_of byte (more ++ 34 ∷ []) (tokens_from Token rest))
    ∙ in_front_of 92 (byte ∷ more ++ 34 ∷ []) (tokens_from Token rest)

unclosed_scanned : (inside : List ℕ) → IsQuoted inside → (tail : List ℕ) → tokens_from Quoted tail ≡ tail ∷ [] → tokens_from Quoted (inside ++ tail) ≡ (inside ++ tail) ∷ []
unclosed_scanned _ nothing tail is = is
unclosed_scanned _ (plain byte more quote backslash q) tail is =
    stays_quoted byte (more ++ tail) (cond-false (byte == 34) _ _ quote ∙ cond-false (byte == 92) _ _ backslash)
    ∙ ap (in_front byte) (unclosed_scanned more q tail is)
unclosed_scanned _ (pair byte more q) tail is = ap (λ f. in_front 92 (in_front byte f)) (unclosed_scanned more q tail is)

after_quote : (inside more rest : List ℕ) → (inside ++ 34 ∷ more) ++ rest ≡ inside ++ 34 ∷ (more ++ rest)
after_quote inside more rest = append_assoc inside (34 ∷ more) rest

token_scanned : (token : List ℕ) → IsToken token → (rest : List ℕ) → tokens_from Between (token ++ rest) ≡ with_front token (tokens_from Token rest)
token_scanned _ (word byte more space quote no_space) rest = (plain_alone byte more space quote no_space).scanned rest
token_scanned _ (quoted inside more q no_space) rest =
    ap (λ b. in_front 34 (tokens_from Quoted b)) (after_quote inside more rest)
    ∙ ap (in_front 34) (quoted_scanned inside q (more ++ rest))
    ∙ in_front_of 34 (inside ++ 34 ∷ []) (tokens_from Token (more ++ rest))
    ∙ ap (with_front (34 ∷ inside ++ 34 ∷ [])) (in_token more rest no_space)
    ∙ joined_front (34 ∷ inside ++ 34 ∷ []) more (tokens_from Token rest)
    ∙ ap (λ t. with_front (34 ∷ t) (tokens_from Token rest)) (append_assoc inside (34 ∷ []) more)

unclosed_token : (token : List ℕ) → IsUnclosed token → tokens token ≡ token ∷ []
unclosed_token _ (whole inside q) =
    ap (λ b. in_front 34 (tokens_from Quoted b)) (sym (append-nil inside))
    ∙ ap (in_front 34) (unclosed_scanned inside q [] refl)
    ∙ ap (λ b. (34 ∷ b) ∷ []) (append-nil inside)
unclosed_token _ (cut inside q) = ap (in_front 34) (unclosed_scanned inside q (92 ∷ []) refl)

pub only_tokens : (line : List ℕ) (found : List (List ℕ)) → AreTokens line found → found ≡ tokens line
only_tokens _ _ none = refl
only_tokens _ _ (after_space line others more) = only_tokens line others more
only_tokens _ _ (before_space token line others is more) =
    sym (token_scanned token is (32 ∷ line)
    ∙ ap (λ t. t ∷ tokens_from Between line) (append-nil token)
    ∙ ap (λ o. token ∷ o) (sym (only_tokens (32 ∷ line) others more)))
only_tokens _ _ (last token is) =
    sym (ap (tokens_from Between) (sym (append-nil token)) ∙ token_scanned token is [] ∙ ap (λ t. t ∷ []) (append-nil token))
only_tokens _ _ (unclosed token is) = sym (unclosed_token token is)
