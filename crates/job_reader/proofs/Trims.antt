-- Spaces at the end of a line.
use Rattle.std.proofs.Common.{◌≡◌, ℕ, ◌==◌, false, List, [], ◌∷◌, ◌++◌, refl, ap, ◌∙◌, cond}
use Rattle.job_reader.specs.Tokens.{before_trimmed, without_end_spaces, without_front_spaces}

-- a space at the end goes
pub end_space : (line : List ℕ) (byte : ℕ) → byte ≡ 32 → without_end_spaces (line ++ byte ∷ []) ≡ without_end_spaces line
end_space [] byte is = ap (λ b. cond (b == 32) [] (b ∷ [])) is
end_space (first ∷ line) byte is = ap (before_trimmed first) (end_space line byte is)

before_trimmed_more : (byte : ℕ) (line : List ℕ) (other : ℕ) → before_trimmed byte (line ++ other ∷ []) ≡ byte ∷ (line ++ other ∷ [])
before_trimmed_more byte [] other = refl
before_trimmed_more byte (first ∷ line) other = refl

-- and any other byte stays
pub end_other : (line : List ℕ) (byte : ℕ) → (byte == 32) ≡ false → without_end_spaces (line ++ byte ∷ []) ≡ line ++ byte ∷ []
end_other [] byte isnt = ap (λ b. cond b [] (byte ∷ [])) isnt
end_other (first ∷ line) byte isnt =
    ap (before_trimmed first) (end_other line byte isnt) ∙ before_trimmed_more first line byte

pub front_other : (line : List ℕ) (byte : ℕ) → (byte == 32) ≡ false → without_front_spaces (byte ∷ line) ≡ byte ∷ line
front_other line byte isnt = ap (λ b. cond b (without_front_spaces line) (byte ∷ line)) isnt

pub front_space : (line : List ℕ) (byte : ℕ) → byte ≡ 32 → without_front_spaces (byte ∷ line) ≡ without_front_spaces line
front_space line byte is = ap (λ b. cond (b == 32) (without_front_spaces line) (b ∷ line)) is
