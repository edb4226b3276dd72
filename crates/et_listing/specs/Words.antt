-- Lines and words of a listing.
use Rattle.std.specs.Prelude.{ℕ, ◌+◌, ◌-◌, ◌*◌, List, [], ◌∷◌, length, take, drop, filter, slice_index, Bool, true, not, ◌==◌, ◌&&◌, ◌||◌, nat_le, nat_lt, nat_eq, if◌then◌else◌, ℤ, pos, neg_ℤ, fold, int_le, Option, Some, None, ◌^◌}
use Rattle.std.specs.List.{list_all}
use Rattle.std.specs.Cmp.Lexicographic.{pointwise}
use Rattle.et_base.specs.Digits.{is_digit}

abbrev pub before_first : ℕ → List (List ℕ) → List (List ℕ)
before_first c [] = (c ∷ []) ∷ []
before_first c (piece ∷ pieces) = (c ∷ piece) ∷ pieces

-- the pieces of a text that stand between separators, before the first and behind the last of them
unfoldable pub pieces : ℕ → List ℕ → List (List ℕ)
pieces separator [] = [] ∷ []
pieces separator (c ∷ rest) = if c == separator then [] ∷ pieces separator rest else before_first c (pieces separator rest)

abbrev pub is_some_text : List ℕ → Bool
is_some_text word = not (length word == 0)

-- words stand between spaces
abbrev pub words : List ℕ → List (List ℕ)
words line = filter is_some_text (pieces 32 line)

-- lines end with a line feed; the last one may lack it
abbrev pub without_last_empty : List (List ℕ) → List (List ℕ)
without_last_empty [] = []
without_last_empty (line ∷ []) = if is_some_text line then line ∷ [] else []
without_last_empty (line ∷ next ∷ more) = line ∷ without_last_empty (next ∷ more)

abbrev pub lines : List ℕ → List (List ℕ)
lines text = without_last_empty (pieces 10 text)

-- NAMES, DESCRIPTORS AND TEXTS. A byte below 33 or above 126, and `%`, is spelled `%` and two upper-case hexadecimal
-- digits; every other byte stands for itself.

abbrev pub is_upper_hex : ℕ → Bool
is_upper_hex c = is_digit c || (nat_le 65 c && nat_le c 70)

abbrev pub is_lower_hex : ℕ → Bool
is_lower_hex c = nat_le 97 c && nat_le c 102

-- the value of a hexadecimal digit of either case, and 0 of other bytes
abbrev pub hex : ℕ → ℕ
hex c = if is_lower_hex c then c - 87 else (if nat_le 65 c && nat_le c 70 then c - 55 else (if is_digit c then c - 48 else 0))

abbrev pub is_spelled_out : ℕ → Bool
is_spelled_out b = nat_le b 32 || (b == 37) || nat_le 127 b

abbrev pub is_escape : ℕ → ℕ → Bool
is_escape d e = is_upper_hex d && is_upper_hex e && is_spelled_out (hex d * 16 + hex e)

-- how many bytes spell the byte whose spelling stands at the front, or 0 where none does
abbrev pub spelled_len : List ℕ → ℕ
spelled_len xs =
    if not (slice_index xs 0 == 37) then (if is_spelled_out (slice_index xs 0) then 0 else 1)
    else (if nat_lt (length xs) 3 || not (is_escape (slice_index xs 1) (slice_index xs 2)) then 0 else 3)

-- spellings of bytes, one after the other
unfoldable pub is_spelling : List ℕ → Bool
is_spelling [] = true
is_spelling (c ∷ []) = not (spelled_len (c ∷ []) == 0)
is_spelling (c ∷ d ∷ []) = not (spelled_len (c ∷ d ∷ []) == 0) && is_spelling (d ∷ [])
is_spelling (c ∷ d ∷ e ∷ rest) =
    if spelled_len (c ∷ d ∷ e ∷ rest) == 3 then is_spelling rest else (not (spelled_len (c ∷ d ∷ e ∷ rest) == 0) && is_spelling (d ∷ e ∷ rest))

-- the bytes that a word spells
unfoldable pub unescaped : List ℕ → List ℕ
unescaped [] = []
unescaped (c ∷ []) = c ∷ []
unescaped (c ∷ d ∷ []) = c ∷ d ∷ []
unescaped (c ∷ d ∷ e ∷ rest) = if c == 37 then (hex d * 16 + hex e) ∷ unescaped rest else c ∷ unescaped (d ∷ e ∷ rest)

-- whether two words are the same
abbrev pub same_word : List ℕ → List ℕ → Bool
same_word a b = pointwise nat_eq a b

-- LABELS are of letters and digits

abbrev pub is_letter : ℕ → Bool
is_letter c = (nat_le 65 c && nat_le c 90) || (nat_le 97 c && nat_le c 122)

abbrev pub is_label_byte : ℕ → Bool
is_label_byte c = is_letter c || is_digit c

abbrev pub is_label : List ℕ → Bool
is_label word = is_some_text word && list_all is_label_byte word

-- a label and a colon
abbrev pub is_label_line : List ℕ → Bool
is_label_line word = (slice_index word (length word - 1) == 58) && is_label (take (length word - 1) word)

-- NUMBERS are decimal, with a `-` or without; zeros may lead

abbrev pub is_negative : List ℕ → Bool
is_negative word = slice_index word 0 == 45

abbrev pub digits : List ℕ → List ℕ
digits word = if is_negative word then drop 1 word else word

abbrev pub is_numeral : List ℕ → Bool
is_numeral word = is_some_text (digits word) && list_all is_digit (digits word)

abbrev pub magnitude : List ℕ → ℕ
magnitude ds = fold (λ n d. n * 10 + (d - 48)) 0 ds

abbrev pub value : List ℕ → ℤ
value word = if is_negative word then neg_ℤ (pos (magnitude (digits word))) else pos (magnitude (digits word))

-- FLAGS are four hexadecimal digits of either case

abbrev pub is_hex : ℕ → Bool
is_hex c = is_upper_hex c || is_lower_hex c

abbrev pub is_flags : List ℕ → Bool
is_flags word = (length word == 4) && list_all is_hex word

abbrev pub flags_of_words : List ℕ → ℕ
flags_of_words word = hex (slice_index word 0) * 4096 + hex (slice_index word 1) * 256 + hex (slice_index word 2) * 16 + hex (slice_index word 3)

-- a number that isn't negative and at most high, or one between two bounds
abbrev pub is_natural_in : ℕ → List ℕ → Bool
is_natural_in high word = int_le (pos 0) (value word) && int_le (value word) (pos high)

abbrev pub is_integer_in : ℤ → ℤ → List ℕ → Bool
is_integer_in low high word = int_le low (value word) && int_le (value word) high

abbrev pub is_int32 : List ℕ → Bool
is_int32 word = is_integer_in (neg_ℤ (pos (2 ^ 31))) (pos (2 ^ 31 - 1)) word

-- a number of 64 bits, by its sign and its size
abbrev pub signed : Bool → ℕ → Option ℤ
signed negative size = if negative then (if nat_le size (2 ^ 63) then Some (neg_ℤ (pos size)) else None) else (if nat_lt size (2 ^ 63) then Some (pos size) else None)
