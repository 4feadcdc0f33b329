-- The number of a word's first bytes, and the order of words.
use Rattle.std.proofs.Common.{◌≡◌, ℕ, zero, suc, ◌+◌, ◌*◌, ◌^◌, ◌<◌, ◌≤◌, List, [], ◌∷◌, get_or, refl, sym, ap, ◌∙◌, arith, ◌⊎◌, inl, inr}
use Rattle.std.proofs.Math.Nat.{one-le-pow, pow-suc}
use Rattle.std.proofs.lemmas.Bool.{cases_lt}
use Rattle.std.proofs.lemmas.Nat.{mul-add-lt}
use Rattle.std.proofs.lemmas.Cmp.{nat_list_cmp_total}
use Rattle.std.specs.Cmp.{nat_cmp_is}
use Rattle.std.specs.Cmp.Lexicographic.{slice_cmp}
use Rattle.std.specs.Ordering.{nat_cmp, ordering_reverse, ordering_then}
use Rattle.std.specs.declared.cmp.Ordering.TheVariants.{Less, Equal, Greater}
use Rattle.index_pipeline.specs.Keys.{front_value}

-- each byte is one
abbrev Small : List ℕ → Type 0
Small word = (k : ℕ) → get_or word k 0 < 256

rest_small : (byte : ℕ) (word : List ℕ) → Small (byte ∷ word) → Small word
rest_small byte word small k = small (suc k)

front_below : (room : ℕ) (word : List ℕ) → Small word → front_value room word < 256 ^ room
front_below zero word small = omega arith
front_below (suc room) [] small = omega (arith, one-le-pow (suc room) 256 (omega arith))
front_below (suc room) (byte ∷ word) small =
    omega (arith, mul-add-lt byte (256 ^ room) (front_value room word) 256 (small 0) (front_below room word (rest_small byte word small)), pow-suc 256 room)

-- a word whose first bytes are below those of another comes before it
pub before : (room : ℕ) (a b : List ℕ) → Small a → Small b → front_value room a < front_value room b → slice_cmp nat_cmp a b ≡ Less
before zero a b small also less = absurd (omega arith)
before (suc room) [] [] small also less = absurd (omega arith)
before (suc room) [] (y ∷ b) small also less = refl
before (suc room) (x ∷ a) [] small also less = absurd (omega arith)
before (suc room) (x ∷ a) (y ∷ b) small also less =
    by_case (cases_lt x y) (before room a b (rest_small x a small) (rest_small y b also))
  where
    place : ℕ
    place = 256 ^ room

    rest_below : x ≡ y → front_value room a < front_value room b
    rest_below same = omega (arith, less, ap (λ n. n * place) same)

    more_not : y < x → ⊥
    more_not more = omega (arith, less, mul-add-lt y place (front_value room b) x more (front_below room b (rest_small y b also)))

    at_most : (y < x) ⊎ (x ≤ y) → y ≤ x → (front_value room a < front_value room b → slice_cmp nat_cmp a b ≡ Less) → slice_cmp nat_cmp (x ∷ a) (y ∷ b) ≡ Less
    at_most (inl more) above rest = absurd (more_not more)
    at_most (inr most) above rest =
        let same : x ≡ y = omega arith in
        ap (λ o. ordering_then o (slice_cmp nat_cmp a b)) (sym (nat_cmp_is x y Equal same)) ∙ rest (rest_below same)

    by_case : (x < y) ⊎ (y ≤ x) → (front_value room a < front_value room b → slice_cmp nat_cmp a b ≡ Less) → slice_cmp nat_cmp (x ∷ a) (y ∷ b) ≡ Less
    by_case (inl below) rest = ap (λ o. ordering_then o (slice_cmp nat_cmp a b)) (sym (nat_cmp_is x y Less below))
    by_case (inr above) rest = at_most (cases_lt y x) above rest

pub after : (room : ℕ) (a b : List ℕ) → Small a → Small b → front_value room b < front_value room a → slice_cmp nat_cmp a b ≡ Greater
after room a b small also less = nat_list_cmp_total.antisymm a b ∙ ap ordering_reverse (before room b a also small less)

-- eight bytes, one after the other
abbrev pub eight : List ℕ → ℕ
eight word = ((((((get_or word 0 0 * 256 + get_or word 1 0) * 256 + get_or word 2 0) * 256 + get_or word 3 0) * 256 + get_or word 4 0) * 256 + get_or word 5 0) * 256 + get_or word 6 0) * 256 + get_or word 7 0

pub eight_bytes : (word : List ℕ) → eight word ≡ front_value 8 word
eight_bytes [] = omega arith
eight_bytes (a ∷ []) = omega arith
eight_bytes (a ∷ b ∷ []) = omega arith
eight_bytes (a ∷ b ∷ c ∷ []) = omega arith
eight_bytes (a ∷ b ∷ c ∷ d ∷ []) = omega arith
eight_bytes (a ∷ b ∷ c ∷ d ∷ e ∷ []) = omega arith
eight_bytes (a ∷ b ∷ c ∷ d ∷ e ∷ f ∷ []) = omega arith
eight_bytes (a ∷ b ∷ c ∷ d ∷ e ∷ f ∷ g ∷ []) = omega arith
eight_bytes (a ∷ b ∷ c ∷ d ∷ e ∷ f ∷ g ∷ h ∷ word) = omega arith
