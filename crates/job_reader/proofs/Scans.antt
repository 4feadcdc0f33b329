-- A scan of a line for its tokens, byte by byte.
use Rattle.std.proofs.Common.{true, false, ◌≡◌, ℕ, ◌+◌, ◌-◌, ◌<◌, ◌≤◌, List, [], ◌∷◌, ◌++◌, length, get_or, take, drop, refl, ap, sym, ◌∙◌, append_assoc, arith}
use Rattle.std.proofs.Common.{length-drop, get_or-drop, drop-cons, add-one}
use Rattle.std.proofs.lemmas.List.{take_more, append-nil}
use Rattle.std.specs.Prelude.{slice_range}
use Rattle.swan_model.specs.Lines.{in_front}
use Rattle.swan_model.proofs.FirstLine.{with_front}
use Rattle.job_reader.specs.Tokens.{is_between, next, with_byte, tokens_from, tokens}
use Rattle.job_reader.specs.declared.scan.Scan.{Scan}
use Rattle.job_reader.specs.declared.scan.Scan.TheVariants.{Between, Token, Quoted, Escaped}

-- the tokens after some front, which is of the first token where one is open
abbrev pub opened : Scan → List ℕ → List (List ℕ) → List (List ℕ)
opened Between front tokens = tokens
opened _ front tokens = with_front front tokens

pub front_of_byte : (byte : ℕ) (tokens : List (List ℕ)) → in_front byte tokens ≡ with_front (byte ∷ []) tokens
front_of_byte byte [] = refl
front_of_byte byte (token ∷ tokens) = refl

front_more : (front : List ℕ) (byte : ℕ) (tokens : List (List ℕ)) → with_front front (in_front byte tokens) ≡ with_front (front ++ byte ∷ []) tokens
front_more front byte [] = refl
front_more front byte (token ∷ tokens) = ap (λ t. t ∷ tokens) (sym (append_assoc front (byte ∷ []) token))

step : (scan : Scan) (byte : ℕ) (bytes : List ℕ) → tokens_from scan (byte ∷ bytes) ≡ with_byte scan byte (next scan byte) (tokens_from (next scan byte) bytes)
step Between byte bytes = refl
step Token byte bytes = refl
step Quoted byte bytes = refl
step Escaped byte bytes = refl

-- a byte between two tokens, or at the front of one
begun : (scan after : Scan) (byte : ℕ) (front : List ℕ) (tokens : List (List ℕ)) → is_between scan ≡ true → opened scan front (with_byte scan byte after tokens) ≡ opened after (byte ∷ []) tokens
begun Between Between byte front tokens is = refl
begun Between _ byte front tokens is = front_of_byte byte tokens
begun _ _ byte front tokens is = cc

-- a space after a token
ended : (scan after : Scan) (byte : ℕ) (front : List ℕ) (tokens : List (List ℕ)) → is_between scan ≡ false → is_between after ≡ true → opened scan front (with_byte scan byte after tokens) ≡ front ∷ tokens
ended Between _ byte front tokens isnt is = cc
ended _ Between byte front tokens isnt is = ap (λ t. t ∷ tokens) (append-nil front)
ended _ _ byte front tokens isnt is = cc

no_token : (scan : Scan) (front : List ℕ) (tokens : List (List ℕ)) → is_between scan ≡ true → opened scan front tokens ≡ tokens
no_token Between front tokens is = refl
no_token _ front tokens is = cc

-- a byte of a token
went_on : (scan after : Scan) (byte : ℕ) (front : List ℕ) (tokens : List (List ℕ)) → is_between scan ≡ false → is_between after ≡ false → opened scan front (with_byte scan byte after tokens) ≡ opened after (front ++ byte ∷ []) tokens
went_on Between _ byte front tokens isnt is = cc
went_on _ Between byte front tokens isnt is = cc
went_on _ _ byte front tokens isnt is = front_more front byte tokens

-- the front of a list from a position on, with one more element
range_more : (line : List ℕ) (start i : ℕ) → start ≤ i → i < length line → slice_range line start (i + 1) ≡ slice_range line start i ++ get_or line i 0 ∷ []
range_more line start i begun inside =
    let more : i + 1 - start ≡ (i - start) + 1 = omega arith in
    let position : start + (i - start) ≡ i = omega arith in
    let at : get_or (drop start line) (i - start) 0 ≡ get_or line i 0 = get_or-drop start line (i - start) 0 ∙ ap (λ k. get_or line k 0) position in
    ap (λ n. take n (drop start line)) more ∙ take_more (drop start line) (i - start) 0 (omega (arith, length-drop start line)) ∙ ap (λ b. take (i - start) (drop start line) ++ b ∷ []) at

range_one : (line : List ℕ) (i : ℕ) → i < length line → slice_range line i (i + 1) ≡ get_or line i 0 ∷ []
range_one line i inside =
    let none : i - i ≡ 0 = omega arith in
    range_more line i i (omega arith) inside ∙ ap (λ n. take n (drop i line) ++ get_or line i 0 ∷ []) none

at_byte : (line : List ℕ) (i : ℕ) → i < length line → drop i line ≡ get_or line i 0 ∷ drop (i + 1) line
at_byte line i inside = rw (add-one, drop-cons line i 0)

-- what the tokens so far and the rest of the line make
abbrev pub Told : List ℕ → List (List ℕ) → ℕ → ℕ → Scan → Type 0
Told line found start i scan = found ++ opened scan (slice_range line start i) (tokens_from scan (drop i line)) ≡ tokens line

module _ (line : List ℕ) (found : List (List ℕ)) (start i : ℕ) (scan : Scan) (inside : i < length line) (told : Told line found start i scan) where
  at_turn : found ++ opened scan (slice_range line start i) (with_byte scan (get_or line i 0) (next scan (get_or line i 0)) (tokens_from (next scan (get_or line i 0)) (drop (i + 1) line))) ≡ tokens line
  at_turn = ap (λ rest. found ++ opened scan (slice_range line start i) rest) (sym (step scan (get_or line i 0) (drop (i + 1) line)) ∙ ap (tokens_from scan) (sym (at_byte line i inside))) ∙ told

  pub turn_begins : is_between scan ≡ true → Told line found i (i + 1) (next scan (get_or line i 0))
  turn_begins is =
      ap (λ front. found ++ opened (next scan (get_or line i 0)) front (tokens_from (next scan (get_or line i 0)) (drop (i + 1) line))) (range_one line i inside)
      ∙ ap (λ rest. found ++ rest) (sym (begun scan (next scan (get_or line i 0)) (get_or line i 0) (slice_range line start i) (tokens_from (next scan (get_or line i 0)) (drop (i + 1) line)) is))
      ∙ at_turn

  pub turn_ends : is_between scan ≡ false → is_between (next scan (get_or line i 0)) ≡ true → Told line (found ++ slice_range line start i ∷ []) start (i + 1) (next scan (get_or line i 0))
  turn_ends isnt is =
      append_assoc found (slice_range line start i ∷ []) (opened (next scan (get_or line i 0)) (slice_range line start (i + 1)) (tokens_from (next scan (get_or line i 0)) (drop (i + 1) line)))
      ∙ ap (λ rest. found ++ slice_range line start i ∷ rest) (no_token (next scan (get_or line i 0)) (slice_range line start (i + 1)) (tokens_from (next scan (get_or line i 0)) (drop (i + 1) line)) is)
      ∙ ap (λ rest. found ++ rest) (sym (ended scan (next scan (get_or line i 0)) (get_or line i 0) (slice_range line start i) (tokens_from (next scan (get_or line i 0)) (drop (i + 1) line)) isnt is))
      ∙ at_turn

  pub turn_goes_on : start ≤ i → is_between scan ≡ false → is_between (next scan (get_or line i 0)) ≡ false → Told line found start (i + 1) (next scan (get_or line i 0))
  turn_goes_on begun isnt is =
      ap (λ front. found ++ opened (next scan (get_or line i 0)) front (tokens_from (next scan (get_or line i 0)) (drop (i + 1) line))) (range_more line start i begun inside)
      ∙ ap (λ rest. found ++ rest) (sym (went_on scan (next scan (get_or line i 0)) (get_or line i 0) (slice_range line start i) (tokens_from (next scan (get_or line i 0)) (drop (i + 1) line)) isnt is))
      ∙ at_turn
