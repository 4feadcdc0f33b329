-- The lines of a text are its pieces between line feeds, and there is no other way to cut it.
use Rattle.std.proofs.Common.{◌≡◌, ℕ, true, false, List, [], ◌∷◌, refl, sym, ap, subst, ◌∙◌}
use Rattle.std.specs.Prelude.{◌==◌, not}
use Rattle.std.specs.List.{list_all}
use Rattle.std.proofs.lemmas.Bool.{cond_both, and_from, and_parts, eqb-true, not-true}
use Rattle.swan_model.specs.Lines.{lines, in_front}
use Rattle.swan_model.proofs.FirstLine.{line_ended}
use Rattle.job_reader.specs.Pieces.{HasNoLineFeed, AreLines}
use Rattle.job_reader.specs.Pieces.AreLines.{no_lines, ended, last_line}
use Rattle.job_reader.proofs.LineEnds.{other_byte}

no_feed : (byte : ℕ) (bytes : List ℕ) → (byte == 10) ≡ false → HasNoLineFeed bytes → HasNoLineFeed (byte ∷ bytes)
no_feed byte bytes isnt none = and_from (not (byte == 10)) (list_all (λ b. not (b == 10)) bytes) (ap not isnt) none

-- a byte at the front of the first line
longer : (byte : ℕ) (bytes : List ℕ) (found : List (List ℕ)) → (byte == 10) ≡ false → AreLines bytes found → AreLines (byte ∷ bytes) (in_front byte found)
longer byte _ _ isnt no_lines = last_line byte [] (no_feed byte [] isnt refl)
longer byte _ _ isnt (ended line rest others none more) = ended (byte ∷ line) rest others (no_feed byte line isnt none) more
longer byte _ _ isnt (last_line first line none) = last_line byte (first ∷ line) (no_feed byte (first ∷ line) isnt none)

pub are_lines : (text : List ℕ) → AreLines text (lines text)
are_lines [] = no_lines
are_lines (byte ∷ bytes) =
    cond_both (byte == 10) ([] ∷ lines bytes) (in_front byte (lines bytes)) (AreLines (byte ∷ bytes))
    (λ feed. subst (λ b. AreLines (b ∷ bytes) ([] ∷ lines bytes)) (sym (eqb-true byte 10 feed)) (ended [] bytes (lines bytes) refl (are_lines bytes)))
    (λ isnt. longer byte bytes (lines bytes) isnt (are_lines bytes))

-- a text without a line feed is one line
whole : (byte : ℕ) (line : List ℕ) → HasNoLineFeed (byte ∷ line) → lines (byte ∷ line) ≡ (byte ∷ line) ∷ []
whole byte [] none =
    let parts = and_parts (not (byte == 10)) true none in
    other_byte byte [] (not-true (byte == 10) parts.0)
whole byte (first ∷ line) none =
    let parts = and_parts (not (byte == 10)) (list_all (λ b. not (b == 10)) (first ∷ line)) none in
    other_byte byte (first ∷ line) (not-true (byte == 10) parts.0) ∙ ap (in_front byte) (whole first line parts.1)

pub only_lines : (text : List ℕ) (found : List (List ℕ)) → AreLines text found → found ≡ lines text
only_lines _ _ no_lines = refl
only_lines _ _ (ended line rest others none more) =
    ap (λ o. line ∷ o) (only_lines rest others more) ∙ sym (line_ended line rest none)
only_lines _ _ (last_line byte line none) = sym (whole byte line none)
