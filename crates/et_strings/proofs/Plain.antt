-- Bytes of ASCII that are no 0: each is the unit that it stands for, and is written as it is.
use Rattle.std.proofs.Common.{◌≡◌, ℕ, suc, ◌<◌, ◌≤◌, ◌^◌, ℤ, pos, negsuc, Bool, true, false, List, [], ◌∷◌, ◌++◌, length, refl, ap, ◌∙◌, arith}
use lib.Signed.{mag}
use lib.Utf8.{encode}
use Rattle.std.specs.Prelude.{encode_utf8, unwrap_or, ◌&&◌, nat_le, if◌then◌else◌}
use Rattle.std.specs.Char.Utf16.{utf16_chars}
use Rattle.std.specs.Fmt.{decimal, signed_decimal}
use Rattle.std.specs.List.{flat_map, list_all}
use Rattle.std.specs.Str.Parse.{AllDigits}
use Rattle.std.proofs.lemmas.Bool.{and_parts, leb-true, le-leb, lt-ltb}
use Rattle.std.proofs.lemmas.Fmt.{decimal_is_IsNumeral}
use Rattle.std.proofs.lemmas.Str.{utf16_chars-nil, utf16_chars_lone}
use Rattle.std.proofs.lemmas.Str.Parse.{digit_from_value}
use Rattle.et_pool.specs.Text.{is_one_byte, is_two, is_three, unit_of_two, unit_of_three, units_of}
use Rattle.et_event.specs.TextRows.{written_units}
use Rattle.et_strings.proofs.Chars.{below_surrogates}

abbrev IsPlain : List ℕ → Type 0
IsPlain s = list_all is_one_byte s ≡ true

first_plain : (a : ℕ) (rest : List ℕ) → IsPlain (a ∷ rest) → (is_one_byte a ≡ true) × IsPlain rest
first_plain a rest all = and_parts (is_one_byte a) (list_all is_one_byte rest) all

small : (a : ℕ) → is_one_byte a ≡ true → a < 128
small a is = let le : a ≤ 127 = leb-true a 127 (and_parts (nat_le 1 a) (nat_le a 127) is).1 in omega arith

-- ITS UNITS

first_unit : (a : ℕ) (rest : List ℕ) → is_one_byte a ≡ true → units_of (a ∷ rest) ≡ a ∷ units_of rest
unfolding units_of
first_unit a [] is = rw is refl
first_unit a (b ∷ []) is = rw is refl
first_unit a (b ∷ c ∷ rest) is = rw is refl

pub plain-units : (s : List ℕ) → IsPlain s → units_of s ≡ s
unfolding units_of
plain-units [] all = refl
plain-units (a ∷ rest) all =
    let parts = first_plain a rest all in
    first_unit a rest parts.0 ∙ ap (λ us. a ∷ us) (plain-units rest parts.1)

-- a text has no more units than bytes

fewer : (b : Bool) (xs ys : List ℕ) (n : ℕ) → length xs ≤ n → length ys ≤ n → length (if b then xs else ys) ≤ n
fewer true xs ys n first second = first
fewer false xs ys n first second = second

pub units-few : (s : List ℕ) → length (units_of s) ≤ length s
unfolding units_of
units-few [] = omega arith
units-few (a ∷ []) = fewer (is_one_byte a) (a ∷ []) [] 1 (omega arith) (omega arith)
units-few (a ∷ b ∷ []) =
    fewer (is_one_byte a) (a ∷ units_of (b ∷ [])) (if is_two a b then unit_of_two a b ∷ [] else []) 2 (omega (arith, units-few (b ∷ [])))
    (fewer (is_two a b) (unit_of_two a b ∷ []) [] 2 (omega arith) (omega arith))
units-few (a ∷ b ∷ c ∷ rest) =
    let last : List ℕ = if is_three a b c then unit_of_three a b c ∷ units_of rest else [] in
    let n : ℕ = length (a ∷ b ∷ c ∷ rest) in
    fewer (is_one_byte a) (a ∷ units_of (b ∷ c ∷ rest)) (if is_two a b then unit_of_two a b ∷ units_of (c ∷ rest) else last) n (omega (arith, units-few (b ∷ c ∷ rest)))
    (fewer (is_two a b) (unit_of_two a b ∷ units_of (c ∷ rest)) last n (omega (arith, units-few (c ∷ rest)))
    (fewer (is_three a b c) (unit_of_three a b c ∷ units_of rest) [] n (omega (arith, units-few rest)) (omega arith)))

-- WHAT IS WRITTEN

one_written : (a : ℕ) → a < 128 → encode_utf8 a ≡ a ∷ []
unfolding encode
one_written a lt = rw (lt-ltb a 128 lt) refl

pub plain-written : (s : List ℕ) → IsPlain s → written_units s ≡ s
plain-written [] all = ap (λ cs. flat_map (λ c. encode_utf8 (unwrap_or c 63)) cs) utf16_chars-nil
plain-written (a ∷ rest) all =
    let parts = first_plain a rest all in
    let lt : a < 128 = small a parts.0 in
    ap (λ cs. flat_map (λ c. encode_utf8 (unwrap_or c 63)) cs) (utf16_chars_lone a rest (λ pair. omega arith) ∙ ap (λ c. c ∷ utf16_chars rest) (below_surrogates a (omega arith)))
    ∙ (ap (λ bytes. bytes ++ written_units rest) (one_written a lt) ∙ ap (λ bytes. a ∷ bytes) (plain-written rest parts.1))

pub plain-said : (s : List ℕ) → IsPlain s → written_units (units_of s) ≡ s
plain-said s all = ap written_units (plain-units s all) ∙ plain-written s all

-- NUMBERS

between : (d : ℕ) → 1 ≤ d → d ≤ 127 → is_one_byte d ≡ true
between d low high = rw (le-leb 1 d low) (le-leb d 127 high)

digits_plain : (ds : List ℕ) → AllDigits 10 ds → IsPlain ds
digits_plain [] all = refl
digits_plain (d ∷ ds) all =
    let digit = digit_from_value d all.0 in
    ap (λ b. b && list_all is_one_byte ds) (between d (omega (arith, digit)) (omega (arith, digit))) ∙ digits_plain ds all.1

decimal_plain : (n : ℕ) → n < 2 ^ 64 → IsPlain (decimal n)
decimal_plain n lt = digits_plain (decimal n) (decimal_is_IsNumeral n lt).0.1

pub number_plain : (z : ℤ) → mag z < 2 ^ 63 → IsPlain (signed_decimal z)
number_plain (pos n) lt = decimal_plain n (omega arith)
number_plain (negsuc n) lt = decimal_plain (suc n) (omega arith)
