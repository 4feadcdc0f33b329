-- Names and numbers are texts of ASCII.
use Rattle.std.proofs.Common.{◌≡◌, ℕ, ◌<◌, Bool, true, List, [], ◌∷◌, IsUtf8, refl, arith}
use Rattle.std.specs.Prelude.{◌&&◌, ◌==◌, IsAscii}
use Rattle.std.specs.List.{list_all}
use Rattle.std.specs.Char.{is_ascii_digit, is_ascii_lowercase}
use Rattle.std.proofs.lemmas.Str.{IsUtf8-from_ascii}
use Rattle.std.proofs.lemmas.Str.Ascii.{IsAscii-nil, IsAscii-cons}
use Rattle.std.proofs.lemmas.Bool.Decides.{nat_tests}
use Rattle.std.proofs.lemmas.Bool.{and_from, and_parts, cond_both}
use Rattle.job_reader.specs.Characters.{is_allowed}
use Rattle.job_reader.specs.Tokens.{before_trimmed, trimmed, without_end_spaces, without_front_spaces}
use Rattle.job_reader.specs.Atoms.{is_name, is_name_byte, is_natural}

name_byte_is_ascii : (byte : ℕ) → is_name_byte byte ≡ true → byte < 128
name_byte_is_ascii byte is = grind (arith, nat_tests)

digit_is_ascii : (byte : ℕ) → is_ascii_digit byte ≡ true → byte < 128
digit_is_ascii byte is = grind (arith, nat_tests)

letter_is_ascii : (byte : ℕ) → is_ascii_lowercase byte ≡ true → byte < 128
letter_is_ascii byte is = grind (arith, nat_tests)

-- bytes that all pass a test that only bytes of ASCII pass
all_ascii : (test : ℕ → Bool) → ((byte : ℕ) → test byte ≡ true → byte < 128) → (bytes : List ℕ) → list_all test bytes ≡ true → IsAscii bytes
all_ascii test only [] all = IsAscii-nil
all_ascii test only (byte ∷ bytes) all =
    let parts = and_parts (test byte) (list_all test bytes) all in
    IsAscii-cons byte bytes (only byte parts.0) (all_ascii test only bytes parts.1)

pub digits_are_ascii : (bytes : List ℕ) → list_all is_ascii_digit bytes ≡ true → IsAscii bytes
digits_are_ascii = all_ascii is_ascii_digit digit_is_ascii

pub name_is_ascii : (token : List ℕ) → is_name token ≡ true → IsAscii token
name_is_ascii [] is = cc
name_is_ascii (byte ∷ bytes) is =
    let front = and_parts (is_ascii_lowercase byte && list_all is_name_byte bytes) _ is in
    let parts = and_parts (is_ascii_lowercase byte) (list_all is_name_byte bytes) front.0 in
    IsAscii-cons byte bytes (letter_is_ascii byte parts.0) (all_ascii is_name_byte name_byte_is_ascii bytes parts.1)

pub natural_is_ascii : (text : List ℕ) → is_natural text ≡ true → IsAscii text
natural_is_ascii [] is = cc
natural_is_ascii (byte ∷ bytes) is = digits_are_ascii (byte ∷ bytes) (and_parts (list_all is_ascii_digit (byte ∷ bytes)) _ is).0

allowed_is_ascii : (byte : ℕ) → is_allowed byte ≡ true → byte < 128
allowed_is_ascii byte is = grind (arith, nat_tests)

-- a test that all bytes of a line pass is passed by those of the line without outer spaces
all_front : (test : ℕ → Bool) (bytes : List ℕ) → list_all test bytes ≡ true → list_all test (without_front_spaces bytes) ≡ true
all_front test [] all = refl
all_front test (byte ∷ bytes) all =
    cond_both (byte == 32) (without_front_spaces bytes) (byte ∷ bytes) (λ l. list_all test l ≡ true)
    (λ is. all_front test bytes (and_parts (test byte) (list_all test bytes) all).1) (λ isnt. all)

all_before : (test : ℕ → Bool) (byte : ℕ) (bytes : List ℕ) → test byte ≡ true → list_all test bytes ≡ true → list_all test (before_trimmed byte bytes) ≡ true
all_before test byte [] is all =
    cond_both (byte == 32) [] (byte ∷ []) (λ l. list_all test l ≡ true) (λ _. refl) (λ _. and_from _ _ is refl)
all_before test byte (other ∷ bytes) is all = and_from _ _ is all

all_end : (test : ℕ → Bool) (bytes : List ℕ) → list_all test bytes ≡ true → list_all test (without_end_spaces bytes) ≡ true
all_end test [] all = refl
all_end test (byte ∷ bytes) all =
    let parts = and_parts (test byte) (list_all test bytes) all in
    all_before test byte (without_end_spaces bytes) parts.0 (all_end test bytes parts.1)

pub trimmed_may : (bytes : List ℕ) → list_all is_allowed bytes ≡ true → list_all is_allowed (trimmed bytes) ≡ true
trimmed_may bytes all = all_end is_allowed (without_front_spaces bytes) (all_front is_allowed bytes all)

pub trimmed_is_text : (bytes : List ℕ) → list_all is_allowed bytes ≡ true → IsUtf8 (trimmed bytes)
trimmed_is_text bytes all =
    IsUtf8-from_ascii (trimmed bytes) (all_ascii is_allowed allowed_is_ascii (trimmed bytes) (all_end is_allowed (without_front_spaces bytes) (all_front is_allowed bytes all)))
