-- Tokens that are joined, and indentation.
use Rattle.std.proofs.Common.{◌≡◌, ℕ, ◌+◌, ◌*◌, List, [], ◌∷◌, ◌++◌, replicate, sym, ap, ◌∙◌, arith}
use Rattle.std.specs.Prelude.{flat_map, map}
use Rattle.std.specs.List.{join_with_byte}
use Rattle.std.proofs.lemmas.List.{append-nil, replicate-append-replicate}
use Rattle.job_reader.specs.CanonicalText.{atom_text}
use Rattle.job_reader.specs.Characters.{space}
use Rattle.job_reader.specs.declared.atom.Atom.{Atom}

-- a token, and atoms after it
pub join_atoms : (token : List ℕ) (atoms : List Atom) → join_with_byte space (token ∷ map atom_text atoms) ≡ token ++ flat_map (λ atom. space ∷ atom_text atom) atoms
join_atoms token [] = sym (append-nil token)
join_atoms token (atom ∷ atoms) = ap (λ rest. token ++ space ∷ rest) (join_atoms (atom_text atom) atoms)

-- one more step of indentation
pub step_more : (n : ℕ) → replicate (2 * (n + 1)) space ≡ replicate (2 * n) space ++ space ∷ space ∷ []
step_more n =
    let more : 2 * (n + 1) ≡ 2 * n + 2 = omega arith in
    ap (λ k. replicate k space) more ∙ sym (replicate-append-replicate (2 * n) 2 space)
