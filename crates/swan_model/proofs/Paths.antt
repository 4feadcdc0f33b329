-- Paths that are the same, and paths that are below another one.
use Rattle.std.proofs.Common.{◌≡◌, ℕ, true, nat_eq, List, [], ◌∷◌, ◌++◌, length, refl, sym, ap, ◌∙◌, append_assoc, arith, length-append}
use Rattle.std.proofs.lemmas.Bool.{eq-eqb}
use Rattle.std.proofs.lemmas.List.{append-nil}
use Rattle.std.proofs.lemmas.Slice.Eq.{bytes_eq-Decides}
use Rattle.std.specs.Cmp.Lexicographic.{pointwise}

pub same_part : (part : ℕ) → nat_eq part part ≡ true
same_part part = eq-eqb part part refl

-- a path that is below another one isn't the root
pub not_root : (path rest : List ℕ) (number : ℕ) → path ++ number ∷ rest ≡ [] → ⊥
not_root [] rest number is = absurd (cc)
not_root (part ∷ path) rest number is = absurd (cc)

-- a path is none of those below it
pub not_below-itself : (path rest : List ℕ) (number : ℕ) → path ≡ path ++ number ∷ rest → ⊥
not_below-itself path rest number is =
    let e : length path ≡ length (path ++ number ∷ rest) = ap length is in
    omega (arith, length-append path (number ∷ rest))

-- paths that are equal part by part are the same
pub same_path : (path other : List ℕ) → pointwise nat_eq path other ≡ true → path ≡ other
same_path path other is = (bytes_eq-Decides path other).0 is

-- a path is equal to itself part by part
pub path_is-itself : (path : List ℕ) → pointwise nat_eq path path ≡ true
path_is-itself path = (bytes_eq-Decides path path).1 refl

-- a path is another one, or below it
pub record IsUnder (path other : List ℕ) : Type 0 where
  pub rest : List ℕ
  pub is : other ≡ path ++ rest

pub under-moved : (path a b : List ℕ) → b ≡ a → IsUnder path a → IsUnder path b
under-moved path a b same under = record { rest = under.rest; is = same ∙ under.is }

pub under-child : (path a child : List ℕ) (number : ℕ) → child ≡ a ++ number ∷ [] → IsUnder path a → IsUnder path child
under-child path a child number same under =
    record { rest = under.rest ++ number ∷ []; is = same ∙ ap (λ p. p ++ number ∷ []) under.is ∙ append_assoc path under.rest (number ∷ []) }

pub under-itself : (path other : List ℕ) → other ≡ path → IsUnder path other
under-itself path other same = record { rest = []; is = same ∙ sym (append-nil path) }
