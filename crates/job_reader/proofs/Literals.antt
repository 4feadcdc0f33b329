-- A literal's canonical text stands for the same bytes, and is no longer than the token.
use Rattle.std.proofs.Common.{◌≡◌, ℕ, ◌+◌, ◌*◌, ◌/◌, ◌%◌, ◌<◌, ◌≤◌, zero, suc, Bool, true, false, List, [], ◌∷◌, ◌++◌, length, Option, Some, None, refl, sym, ap, subst, ◌∙◌, ⊎_elim, append_assoc, arith}
use Rattle.std.proofs.Common.{length-append}
use Rattle.std.specs.Prelude.{◌==◌, ◌&&◌, ◌||◌, slice_index, nat_le, nat_lt, flat_map, option_map, option_to_list}
use Rattle.std.specs.Char.{digit_value, digit_char, is_digit}
use Rattle.std.specs.List.{list_all}
use Rattle.std.proofs.Common.{lit≤, lit<}
use Rattle.std.proofs.lemmas.Grind.{flat_map-append}
use Rattle.std.proofs.lemmas.List.{append-nil}
use Rattle.std.proofs.lemmas.Str.{digit_value-digit_char}
use Rattle.std.proofs.lemmas.Bool.{cond-true, cond-false, cond_both, and_parts, lt-ltb, ltb-true, leb-true, eqb-true, eq-eqb, both_ways, or_cases, cases_lt}
use Rattle.std.proofs.lemmas.Iterator.Adapters.{option_map_id}
use Rattle.hex.specs.Hex.{encode_lower, encode_with, lower_digits}
use Rattle.hex.proofs.HexLemmas.{length-encode_with}
use Rattle.swan_model.proofs.Elements.{mapped_is}
use Rattle.job_reader.specs.Atoms.{and_then, decode, decoded, IsDecoding}
use Rattle.job_reader.specs.CanonicalText.{escaped}
use Rattle.job_reader.specs.Characters.{is_allowed}
use Rattle.job_reader.specs.declared.literal.Inside.{Inside}
use Rattle.job_reader.specs.declared.literal.Inside.TheVariants.{Plain, Escape, HighDigit, LowDigit, Closed}

-- one byte, and then what is decoded after it
abbrev pub after_byte : ℕ → Option (List ℕ) → Option (List ℕ)
after_byte byte more = option_map (λ bytes. byte ∷ bytes) more

pub step : (inside : Inside) (byte : ℕ) (rest : List ℕ) → decoded inside (byte ∷ rest) ≡ and_then (decode inside byte) (λ s. option_map (λ more. option_to_list s.1 ++ more) (decoded s.0 rest))
step Plain byte rest = refl
step Escape byte rest = refl
step HighDigit byte rest = refl
step (LowDigit high) byte rest = refl
step Closed byte rest = refl

pub by_step : (inside : Inside) (byte : ℕ) (rest : List ℕ) (next : Inside) (out : Option ℕ) → decode inside byte ≡ Some (next, out) → decoded inside (byte ∷ rest) ≡ option_map (λ more. option_to_list out ++ more) (decoded next rest)
by_step inside byte rest next out is = step inside byte rest ∙ ap (λ d. and_then d (λ s. option_map (λ more. option_to_list s.1 ++ more) (decoded s.0 rest))) is

-- whether the digits of values below n are those of the table
abbrev tabled : ℕ → Bool
tabled zero = true
tabled (suc n) = slice_index lower_digits n == digit_char n && tabled n

-- the digit of a value is the one at its place of the table
tabled_digit : (n d : ℕ) → tabled n ≡ true → d < n → slice_index lower_digits d ≡ digit_char d
tabled_digit zero d are below = absurd (omega arith)
tabled_digit (suc n) d are below =
    let parts = and_parts (slice_index lower_digits n == digit_char n) (tabled n) are in
    ⊎_elim (λ (less : d < n). tabled_digit n d parts.1 less)
    (λ (last : n ≤ d). let same : n ≡ d = omega arith in subst (λ k. slice_index lower_digits k ≡ digit_char k) same (eqb-true (slice_index lower_digits n) (digit_char n) parts.0))
    (cases_lt d n)

-- the hexadecimal text of a byte is its two digits
pub two_digits : (byte : ℕ) → byte < 256 → encode_lower (byte ∷ []) ≡ digit_char (byte / 16) ∷ digit_char (byte % 16) ∷ []
unfolding encode_with
two_digits byte small =
    ap (λ high. high ∷ slice_index lower_digits (byte % 16) ∷ []) (tabled_digit 16 (byte / 16) refl (omega arith))
    ∙ ap (λ low. digit_char (byte / 16) ∷ low ∷ []) (tabled_digit 16 (byte % 16) refl (omega arith))

hex_digit : (d : ℕ) → d < 16 → is_digit (digit_char d) 16 ≡ true
hex_digit d small =
    let value : digit_value (digit_char d) ≡ d = digit_value-digit_char d (omega arith) in
    ap (λ v. nat_lt v 16) value ∙ lt-ltb d 16 small

high_digit : (d : ℕ) → d < 16 → decode HighDigit (digit_char d) ≡ Some (LowDigit d, None)
high_digit d small =
    cond-true (is_digit (digit_char d) 16) _ _ (hex_digit d small) ∙ ap (λ v. Some (LowDigit v, None)) (digit_value-digit_char d (omega arith))

low_digit : (high d : ℕ) → d < 16 → decode (LowDigit high) (digit_char d) ≡ Some (Plain, Some (16 * high + d))
low_digit high d small =
    cond-true (is_digit (digit_char d) 16) _ _ (hex_digit d small) ∙ ap (λ v. Some (Plain, Some (16 * high + v))) (digit_value-digit_char d (omega arith))

hex_decodes : (byte : ℕ) (rest : List ℕ) → byte < 256 → decoded Plain (92 ∷ 120 ∷ digit_char (byte / 16) ∷ digit_char (byte % 16) ∷ rest) ≡ after_byte byte (decoded Plain rest)
hex_decodes byte rest small =
    let high : byte / 16 < 16 = omega arith in
    let low : byte % 16 < 16 = omega arith in
    let whole : 16 * (byte / 16) + byte % 16 ≡ byte = omega arith in
    option_map_id (option_map (λ more. more) (decoded HighDigit (digit_char (byte / 16) ∷ digit_char (byte % 16) ∷ rest)))
    ∙ option_map_id (decoded HighDigit (digit_char (byte / 16) ∷ digit_char (byte % 16) ∷ rest))
    ∙ by_step HighDigit (digit_char (byte / 16)) (digit_char (byte % 16) ∷ rest) (LowDigit (byte / 16)) None (high_digit (byte / 16) high)
    ∙ option_map_id (decoded (LowDigit (byte / 16)) (digit_char (byte % 16) ∷ rest))
    ∙ by_step (LowDigit (byte / 16)) (digit_char (byte % 16)) rest Plain (Some (16 * (byte / 16) + byte % 16)) (low_digit (byte / 16) (byte % 16) low)
    ∙ ap (λ b. after_byte b (decoded Plain rest)) whole

pub plain_byte : (byte : ℕ) → (byte == 34) ≡ false → (byte == 92) ≡ false → decode Plain byte ≡ Some (Plain, Some byte)
plain_byte byte quote backslash = cond-false (byte == 34) _ _ quote ∙ cond-false (byte == 92) _ _ backslash

-- how a byte is escaped, by cases
pub data Escaping (byte : ℕ) : List ℕ → Type 0 where
  at_quote : byte ≡ 34 → Escaping byte (92 ∷ 34 ∷ [])
  at_backslash : byte ≡ 92 → Escaping byte (92 ∷ 92 ∷ [])
  at_feed : byte ≡ 10 → Escaping byte (92 ∷ 110 ∷ [])
  at_tab : byte ≡ 9 → Escaping byte (92 ∷ 116 ∷ [])
  itself : (byte == 34) ≡ false → (byte == 92) ≡ false → is_allowed byte ≡ true → Escaping byte (byte ∷ [])
  by_digits : is_allowed byte ≡ false → Escaping byte (92 ∷ 120 ∷ encode_lower (byte ∷ []))

pub escaping : (byte : ℕ) → Escaping byte (escaped byte)
escaping byte =
    cond_both (byte == 34) _ _ (Escaping byte) (λ is. at_quote (eqb-true byte 34 is)) (λ quote.
    cond_both (byte == 92) _ _ (Escaping byte) (λ is. at_backslash (eqb-true byte 92 is)) (λ backslash.
    cond_both (byte == 10) _ _ (Escaping byte) (λ is. at_feed (eqb-true byte 10 is)) (λ feed.
    cond_both (byte == 9) _ _ (Escaping byte) (λ is. at_tab (eqb-true byte 9 is)) (λ tab.
    cond_both (is_allowed byte) _ _ (Escaping byte) (λ is. itself quote backslash is) (λ isnt. by_digits isnt)))))

decodes_as : (byte : ℕ) (text : List ℕ) → Escaping byte text → (rest : List ℕ) → byte < 256 → decoded Plain (text ++ rest) ≡ after_byte byte (decoded Plain rest)
decodes_as byte _ (at_quote is) rest small = option_map_id (after_byte 34 (decoded Plain rest)) ∙ ap (λ b. after_byte b (decoded Plain rest)) (sym is)
decodes_as byte _ (at_backslash is) rest small = option_map_id (after_byte 92 (decoded Plain rest)) ∙ ap (λ b. after_byte b (decoded Plain rest)) (sym is)
decodes_as byte _ (at_feed is) rest small = option_map_id (after_byte 10 (decoded Plain rest)) ∙ ap (λ b. after_byte b (decoded Plain rest)) (sym is)
decodes_as byte _ (at_tab is) rest small = option_map_id (after_byte 9 (decoded Plain rest)) ∙ ap (λ b. after_byte b (decoded Plain rest)) (sym is)
decodes_as byte _ (itself quote backslash is) rest small = by_step Plain byte rest Plain (Some byte) (plain_byte byte quote backslash)
decodes_as byte _ (by_digits isnt) rest small = ap (λ digits. decoded Plain (92 ∷ 120 ∷ digits ++ rest)) (two_digits byte small) ∙ hex_decodes byte rest small

abbrev pub AreBytes : List ℕ → Type 0
AreBytes [] = Unit {0}
AreBytes (byte ∷ bytes) = (byte < 256) × AreBytes bytes

-- the bytes of a literal are decoded as themselves
pub all_decode : (bytes : List ℕ) → AreBytes bytes → decoded Plain (flat_map escaped bytes ++ 34 ∷ []) ≡ Some bytes
all_decode [] are = refl
all_decode (byte ∷ bytes) are =
    ap (decoded Plain) (append_assoc (escaped byte) (flat_map escaped bytes) (34 ∷ []))
    ∙ decodes_as byte (escaped byte) (escaping byte) (flat_map escaped bytes ++ 34 ∷ []) are.0
    ∙ ap (after_byte byte) (all_decode bytes are.1)

-- how long an escaped byte is
short_as : (byte : ℕ) (text : List ℕ) → Escaping byte text → (length text ≤ 4) × ((byte == 34) ≡ false → (byte == 92) ≡ false → is_allowed byte ≡ true → length text ≡ 1)
short_as byte _ (at_quote is) = (lit≤ tt, λ quote backslash allowed. absurd (both_ways _ quote (eq-eqb byte 34 is)))
short_as byte _ (at_backslash is) = (lit≤ tt, λ quote backslash allowed. absurd (both_ways _ backslash (eq-eqb byte 92 is)))
short_as byte _ (at_feed is) = (lit≤ tt, λ quote backslash allowed. cc)
short_as byte _ (at_tab is) = (lit≤ tt, λ quote backslash allowed. cc)
short_as byte _ (itself quote backslash is) = (lit≤ tt, λ q b allowed. refl)
short_as byte _ (by_digits isnt) = (omega (arith, length-encode_with lower_digits (byte ∷ [])), λ quote backslash allowed. absurd (both_ways _ isnt allowed))

-- what is still owed of an escape that has begun, and the closing quote
abbrev pending : Inside → ℕ
pending Plain = 0
pending Escape = 1
pending HighDigit = 2
pending (LowDigit high) = 3
pending Closed = 0

abbrev tail : Inside → ℕ
tail Closed = 0
tail _ = 1

-- what a byte of a literal costs its canonical text
record Costs (inside next : Inside) (out : Option ℕ) : Type 0 where
  fits : IsDecoding next
  bytes : AreBytes (option_to_list out)
  short : length (flat_map escaped (option_to_list out)) + tail inside + pending next ≤ 1 + pending inside + tail next

short_of : (byte : ℕ) → length (flat_map escaped (byte ∷ [])) ≤ 4
short_of byte = let few = (short_as byte (escaped byte) (escaping byte)).0 in omega (arith, ap length (append-nil (escaped byte)), few)

itself_short : (byte : ℕ) → (byte == 34) ≡ false → (byte == 92) ≡ false → is_allowed byte ≡ true → length (flat_map escaped (byte ∷ [])) ≡ 1
itself_short byte quote backslash allowed = ap length (append-nil (escaped byte)) ∙ (short_as byte (escaped byte) (escaping byte)).1 quote backslash allowed

allowed_small : (byte : ℕ) → is_allowed byte ≡ true → byte < 256
allowed_small byte is = let parts = and_parts (nat_le 32 byte) (nat_le byte 126) is in let most : byte ≤ 126 = leb-true byte 126 parts.1 in omega arith

abbrev CostsStep : Inside → Option (Inside × Option ℕ) → Type 0
CostsStep inside None = Unit {0}
CostsStep inside (Some step) = Costs inside step.0 step.1

plain_costs : (byte : ℕ) → is_allowed byte ≡ true → CostsStep Plain (decode Plain byte)
plain_costs byte allowed =
    cond_both (byte == 34) _ _ (CostsStep Plain) (λ is. record { fits = tt; bytes = tt; short = lit≤ tt }) (λ quote.
    cond_both (byte == 92) _ _ (CostsStep Plain) (λ is. record { fits = tt; bytes = tt; short = lit≤ tt }) (λ backslash.
    record { fits = tt; bytes = (allowed_small byte allowed, tt); short = omega (arith, itself_short byte quote backslash allowed) }))

escaped_costs : (byte out : ℕ) → out < 256 → length (flat_map escaped (out ∷ [])) ≡ 2 → Costs Escape Plain (Some out)
escaped_costs byte out small two = record { fits = tt; bytes = (small, tt); short = omega arith }

escape_costs : (byte : ℕ) → is_allowed byte ≡ true → CostsStep Escape (decode Escape byte)
escape_costs byte allowed =
    cond_both ((byte == 92) || (byte == 34)) _ _ (CostsStep Escape) (λ is. escaped_costs byte byte (allowed_small byte allowed) (two_of byte is)) (λ _.
    cond_both (byte == 110) _ _ (CostsStep Escape) (λ is. escaped_costs byte 10 (lit< tt) refl) (λ _.
    cond_both (byte == 116) _ _ (CostsStep Escape) (λ is. escaped_costs byte 9 (lit< tt) refl) (λ _.
    cond_both (byte == 120) _ _ (CostsStep Escape) (λ is. record { fits = tt; bytes = tt; short = lit≤ tt }) (λ _. tt))))
  where
    two_of : (byte : ℕ) → ((byte == 92) || (byte == 34)) ≡ true → length (flat_map escaped (byte ∷ [])) ≡ 2
    two_of byte is = ⊎_elim
        (λ (backslash : (byte == 92) ≡ true). ap (λ b. length (flat_map escaped (b ∷ []))) (eqb-true byte 92 backslash))
        (λ (quote : (byte == 34) ≡ true). ap (λ b. length (flat_map escaped (b ∷ []))) (eqb-true byte 34 quote))
        (or_cases (byte == 92) (byte == 34) is)

high_costs : (byte : ℕ) → CostsStep HighDigit (decode HighDigit byte)
high_costs byte =
    cond_both (is_digit byte 16) _ _ (CostsStep HighDigit) (λ is. record { fits = ltb-true (digit_value byte) 16 is; bytes = tt; short = lit≤ tt }) (λ _. tt)

low_costs : (high byte : ℕ) → high < 16 → CostsStep (LowDigit high) (decode (LowDigit high) byte)
low_costs high byte small =
    cond_both (is_digit byte 16) _ _ (CostsStep (LowDigit high))
    (λ is. let low : digit_value byte < 16 = ltb-true (digit_value byte) 16 is in record { fits = tt; bytes = (omega arith, tt); short = omega (arith, short_of (16 * high + digit_value byte)) }) (λ _. tt)

costs : (inside : Inside) (byte : ℕ) → IsDecoding inside → is_allowed byte ≡ true → CostsStep inside (decode inside byte)
costs Plain byte fits allowed = plain_costs byte allowed
costs Escape byte fits allowed = escape_costs byte allowed
costs HighDigit byte fits allowed = high_costs byte
costs (LowDigit high) byte fits allowed = low_costs high byte fits
costs Closed byte fits allowed = tt

pub then_some : {A B : Type 0} (o : Option A) (f : A → Option B) (y : B) → and_then o f ≡ Some y → (x : A) × (o ≡ Some x) × (f x ≡ Some y)
then_some (Some x) f y is = (x, refl, is)
then_some None f y is = cc

are_joined : (xs ys : List ℕ) → AreBytes xs → AreBytes ys → AreBytes (xs ++ ys)
are_joined [] ys a b = b
are_joined (x ∷ xs) ys a b = (a.0, are_joined xs ys a.1 b)

-- what a literal's rest is decoded as: bytes, whose canonical text is no longer
record Decoded (inside : Inside) (rest bytes : List ℕ) : Type 0 where
  pub are : AreBytes bytes
  pub short : length (flat_map escaped bytes) + tail inside ≤ length rest + pending inside

no_bytes : (inside : Inside) (bytes : List ℕ) → decoded inside [] ≡ Some bytes → Decoded inside [] bytes
no_bytes Closed bytes is = let same : [] ≡ bytes = cc in subst (Decoded Closed []) same (record { are = tt; short = lit≤ tt })
no_bytes Plain bytes is = cc
no_bytes Escape bytes is = cc
no_bytes HighDigit bytes is = cc
no_bytes (LowDigit high) bytes is = cc

some_bytes : (inside : Inside) (rest bytes : List ℕ) → IsDecoding inside → list_all is_allowed rest ≡ true → decoded inside rest ≡ Some bytes → Decoded inside rest bytes
some_bytes inside [] bytes fits allowed is = no_bytes inside bytes is
some_bytes inside (byte ∷ rest) bytes fits allowed is =
    let parts = and_parts (is_allowed byte) (list_all is_allowed rest) allowed in
    let found = then_some (decode inside byte) (λ s. option_map (λ more. option_to_list s.1 ++ more) (decoded s.0 rest)) bytes (sym (step inside byte rest) ∙ is) in
    let next = found.0.0 in
    let out = found.0.1 in
    let more = mapped_is (λ more. option_to_list out ++ more) (decoded next rest) bytes found.2 in
    let cost : Costs inside next out = subst (CostsStep inside) found.1 (costs inside byte fits parts.0) in
    let others = some_bytes next rest more.0 cost.fits parts.1 more.1 in
    subst (Decoded inside (byte ∷ rest)) more.2 (record {
      are = are_joined (option_to_list out) more.0 cost.bytes others.are;
      short = omega (arith, cost.short, others.short, ap length (flat_map-append escaped (option_to_list out) more.0), length-append (flat_map escaped (option_to_list out)) (flat_map escaped more.0));
    })

-- a literal that is read: its bytes are bytes, and its canonical text is no longer
pub literal_short : (rest bytes : List ℕ) → list_all is_allowed rest ≡ true → decoded Plain rest ≡ Some bytes → AreBytes bytes × (length (flat_map escaped bytes) + 1 ≤ length rest)
literal_short rest bytes allowed is =
    let found = some_bytes Plain rest bytes tt allowed is in
    (found.are, omega (arith, found.short))
