-- Numbers as 16 bytes, the highest first, and back.
use Rattle.std.proofs.Common.{◌≡◌, ℕ, zero, suc, ◌+◌, ◌*◌, ◌/◌, ◌%◌, ◌^◌, ◌<◌, true, nat_eq, ◌&&◌, List, [], ◌∷◌, length, get_or, refl, sym, ap, subst, ◌∙◌, arith, rules, tests}
use Rattle.std.proofs.Math.Arith.{mod-mul}
use Rattle.std.proofs.Math.Bool.{and-true}
use Rattle.std.proofs.Math.Nat.{pow-suc, one-le-pow}
use Rattle.std.proofs.lemmas.Bool.{and_parts}
use Rattle.std.proofs.lemmas.Nat.{mul-add-lt, same_from_place, mod_below}
use Rattle.std.specs.Int.{w128, byte_at, bytes_high_first, from_be_bytes, to_be_bytes}
use Rattle.std.specs.List.{list_all}
use Rattle.swan_reducers.specs.Sums.{is_byte, is_sum_part}

-- the number of bytes, the highest first
abbrev pub value : List ℕ → ℕ
value [] = 0
value (byte ∷ bytes) = byte * 256 ^ length bytes + value bytes

below : (byte : ℕ) → is_byte byte ≡ true → byte < 256
below byte is = search (rules, tests)

is_below : (byte : ℕ) → byte < 256 → is_byte byte ≡ true
is_below byte is = search (rules, tests)

every_byte : (bytes : List ℕ) → ((k : ℕ) → get_or bytes k 0 < 256) → list_all is_byte bytes ≡ true
every_byte [] small = refl
every_byte (byte ∷ bytes) small = ap (λ b. b && list_all is_byte bytes) (is_below byte (small 0)) ∙ every_byte bytes (λ k. small (suc k))

-- bytes are a part where there are 16
pub part_by_length : (bytes : List ℕ) → ((k : ℕ) → get_or bytes k 0 < 256) → nat_eq (length bytes) 16 ≡ is_sum_part bytes
part_by_length bytes small =
    sym (and-true (nat_eq (length bytes) 16)) ∙ ap (λ b. nat_eq (length bytes) 16 && b) (sym (every_byte bytes small))

positive : (k : ℕ) → 0 < 256 ^ k
positive k = omega (arith, one-le-pow k 256 (omega arith))

pub value_below : (bytes : List ℕ) → list_all is_byte bytes ≡ true → value bytes < 256 ^ length bytes
value_below [] all = omega arith
value_below (byte ∷ bytes) all =
    let both = and_parts (is_byte byte) (list_all is_byte bytes) all in
    let here : byte < 256 = below byte both.0 in
    let rest = value_below bytes both.1 in
    omega (arith, mul-add-lt byte (256 ^ length bytes) (value bytes) 256 here rest, pow-suc 256 (length bytes))

byte_at-is : (k n : ℕ) → byte_at k n ≡ n / 256 ^ k % 256
byte_at-is zero n = omega arith
byte_at-is (suc k) n = refl

-- the lowest byte last
low_digits : (k n : ℕ) → n % 256 ^ suc k ≡ (n / 256 ^ k % 256) * 256 ^ k + n % 256 ^ k
low_digits k n = ap (λ p. n % p) (pow-suc 256 k ∙ (let e : 256 ^ k * 256 ≡ 256 * 256 ^ k = omega arith in e)) ∙ mod-mul n (omega arith) (positive k)

pub bytes_of_value : (bytes : List ℕ) (n : ℕ) → list_all is_byte bytes ≡ true → n % 256 ^ length bytes ≡ value bytes → bytes_high_first (length bytes) n ≡ bytes
bytes_of_value [] n all is = refl
bytes_of_value (byte ∷ bytes) n all is =
    let k = length bytes in
    let rest = (and_parts (is_byte byte) (list_all is_byte bytes) all).1 in
    let split = same_from_place (n / 256 ^ k % 256) (n % 256 ^ k) byte (value bytes) (256 ^ k) (mod_below n (256 ^ k) (positive k)) (value_below bytes rest) (sym (low_digits k n) ∙ is) in
    ap (λ b. b ∷ bytes_high_first k n) (byte_at-is k n ∙ split.0) ∙ ap (λ bs. byte ∷ bs) (bytes_of_value bytes n rest split.1)

pub length-bytes : (k n : ℕ) → length (bytes_high_first k n) ≡ k
length-bytes zero n = refl
length-bytes (suc k) n = ap suc (length-bytes k n)

pub value_of_bytes : (k n : ℕ) → value (bytes_high_first k n) ≡ n % 256 ^ k
value_of_bytes zero n = omega arith
value_of_bytes (suc k) n =
    ap (λ m. byte_at k n * 256 ^ m + value (bytes_high_first k n)) (length-bytes k n)
    ∙ ap (λ b. b * 256 ^ k + value (bytes_high_first k n)) (byte_at-is k n)
    ∙ ap (λ v. (n / 256 ^ k % 256) * 256 ^ k + v) (value_of_bytes k n)
    ∙ sym (low_digits k n)

pub bytes_are_bytes : (k n : ℕ) → list_all is_byte (bytes_high_first k n) ≡ true
bytes_are_bytes zero n = refl
bytes_are_bytes (suc k) n =
    let here : n / 256 ^ k % 256 < 256 = mod_below (n / 256 ^ k) 256 (omega arith) in
    let first : is_byte (byte_at k n) ≡ true = ap is_byte (byte_at-is k n) ∙ is_below (n / 256 ^ k % 256) here in
    ap (λ b. b && list_all is_byte (bytes_high_first k n)) first ∙ bytes_are_bytes k n

-- std's word for it
pub be_value : (bytes : List ℕ) → length bytes ≡ 16 → from_be_bytes w128 bytes ≡ value bytes
be_value [] is = absurd (omega arith)
be_value (a ∷ []) is = absurd (omega arith)
be_value (a ∷ b ∷ []) is = absurd (omega arith)
be_value (a ∷ b ∷ c ∷ []) is = absurd (omega arith)
be_value (a ∷ b ∷ c ∷ d ∷ []) is = absurd (omega arith)
be_value (a ∷ b ∷ c ∷ d ∷ e ∷ []) is = absurd (omega arith)
be_value (a ∷ b ∷ c ∷ d ∷ e ∷ f ∷ []) is = absurd (omega arith)
be_value (a ∷ b ∷ c ∷ d ∷ e ∷ f ∷ g ∷ []) is = absurd (omega arith)
be_value (a ∷ b ∷ c ∷ d ∷ e ∷ f ∷ g ∷ h ∷ []) is = absurd (omega arith)
be_value (a ∷ b ∷ c ∷ d ∷ e ∷ f ∷ g ∷ h ∷ i ∷ []) is = absurd (omega arith)
be_value (a ∷ b ∷ c ∷ d ∷ e ∷ f ∷ g ∷ h ∷ i ∷ j ∷ []) is = absurd (omega arith)
be_value (a ∷ b ∷ c ∷ d ∷ e ∷ f ∷ g ∷ h ∷ i ∷ j ∷ k ∷ []) is = absurd (omega arith)
be_value (a ∷ b ∷ c ∷ d ∷ e ∷ f ∷ g ∷ h ∷ i ∷ j ∷ k ∷ l ∷ []) is = absurd (omega arith)
be_value (a ∷ b ∷ c ∷ d ∷ e ∷ f ∷ g ∷ h ∷ i ∷ j ∷ k ∷ l ∷ m ∷ []) is = absurd (omega arith)
be_value (a ∷ b ∷ c ∷ d ∷ e ∷ f ∷ g ∷ h ∷ i ∷ j ∷ k ∷ l ∷ m ∷ n ∷ []) is = absurd (omega arith)
be_value (a ∷ b ∷ c ∷ d ∷ e ∷ f ∷ g ∷ h ∷ i ∷ j ∷ k ∷ l ∷ m ∷ n ∷ o ∷ []) is = absurd (omega arith)
be_value (a ∷ b ∷ c ∷ d ∷ e ∷ f ∷ g ∷ h ∷ i ∷ j ∷ k ∷ l ∷ m ∷ n ∷ o ∷ p ∷ []) is = omega arith
be_value (a ∷ b ∷ c ∷ d ∷ e ∷ f ∷ g ∷ h ∷ i ∷ j ∷ k ∷ l ∷ m ∷ n ∷ o ∷ p ∷ q ∷ bytes) is = absurd (omega arith)

pub number_back : (n : ℕ) → n < 2 ^ 128 → from_be_bytes w128 (to_be_bytes w128 n) ≡ n
number_back n fits =
    be_value (bytes_high_first 16 n) (length-bytes 16 n) ∙ value_of_bytes 16 n ∙ (let e : n % 256 ^ 16 ≡ n = omega arith in e)

pub number_below : (bytes : List ℕ) → length bytes ≡ 16 → list_all is_byte bytes ≡ true → from_be_bytes w128 bytes < 2 ^ 128
number_below bytes is all =
    let most : value bytes < 256 ^ 16 = subst (λ k. value bytes < 256 ^ k) is (value_below bytes all) in
    omega (arith, most, be_value bytes is)

pub bytes_back : (bytes : List ℕ) → length bytes ≡ 16 → list_all is_byte bytes ≡ true → to_be_bytes w128 (from_be_bytes w128 bytes) ≡ bytes
bytes_back bytes is all =
    let most : value bytes < 256 ^ 16 = subst (λ k. value bytes < 256 ^ k) is (value_below bytes all) in
    let whole : value bytes % 256 ^ 16 ≡ value bytes = omega (arith, most) in
    ap (bytes_high_first 16) (be_value bytes is)
    ∙ ap (λ k. bytes_high_first k (value bytes)) (sym is)
    ∙ bytes_of_value bytes (value bytes) all (ap (λ k. value bytes % 256 ^ k) is ∙ whole)
