-- The loops over the rows, the pairs and the keys of a switch.
use Rattle.std.proofs.Common.{◌≡◌, ℕ, zero, suc, ◌+◌, ◌-◌, ◌<◌, ◌≤◌, Bool, true, false, ◌&&◌, List, ◌∷◌, map, refl, sym, ap, ◌∙◌, arith}
use Rattle.std.specs.Prelude.{ℤ, int_lt}
use Rattle.std.specs.List.{list_all}
use Rattle.std.specs.Int.{w32, cast_signed}
use Rattle.et_code.specs.Decoding.{code_word_at}
use Rattle.et_code.specs.Switches.{rows_from, switch_pairs_from}
use Rattle.et_code.specs.Rules.{rises}
use Rattle.et_code.proofs.Switched.{rows_more, rows_none, pairs_more, pairs_none}

-- what is left to test is one test and what is left behind that
stop : (head tail now whole : Bool) → now ≡ (head && tail) → now ≡ whole → head ≡ false → false ≡ whole
stop head tail now whole e same f = ap (λ b. b && tail) (sym f) ∙ (sym e ∙ same)

next : (head tail now whole : Bool) → now ≡ (head && tail) → now ≡ whole → head ≡ true → tail ≡ whole
next head tail now whole e same t = ap (λ b. b && tail) (sym t) ∙ (sym e ∙ same)

-- THE ROWS OF A TABLE

pub rows_stop : (p : ℤ → Bool) (code : List ℕ) (count i at : ℕ) (whole : Bool) → i < count → list_all p (rows_from code (count - i) at) ≡ whole → p (code_word_at code at) ≡ false → false ≡ whole
rows_stop p code count i at whole lt same f = stop (p (code_word_at code at)) (list_all p (rows_from code (count - (i + 1)) (at + 4))) _ whole (ap (list_all p) (rows_more code count i at lt)) same f

pub rows_next : (p : ℤ → Bool) (code : List ℕ) (count i at place : ℕ) (whole : Bool) → i < count → list_all p (rows_from code (count - i) at) ≡ whole → p (code_word_at code at) ≡ true → place ≡ at + 4 → list_all p (rows_from code (count - (i + 1)) place) ≡ whole
rows_next p code count i at place whole lt same t e = rw e (next (p (code_word_at code at)) (list_all p (rows_from code (count - (i + 1)) (at + 4))) _ whole (ap (list_all p) (rows_more code count i at lt)) same t)

pub rows_end : (p : ℤ → Bool) (code : List ℕ) (count i at : ℕ) (whole : Bool) → count ≤ i → list_all p (rows_from code (count - i) at) ≡ whole → true ≡ whole
rows_end p code count i at whole le same = sym (ap (list_all p) (rows_none code count i at le)) ∙ same

-- THE PAIRS OF A LOOKUP

abbrev offsets_of : List ℕ → ℕ → ℕ → List ℤ
offsets_of code n at = map (λ (x : ℕ × ℤ). x.1) (switch_pairs_from code n at)

offsets_more : (p : ℤ → Bool) (code : List ℕ) (count i at : ℕ) → i < count → list_all p (offsets_of code (count - i) at) ≡ (p (code_word_at code (at + 4)) && list_all p (offsets_of code (count - (i + 1)) (at + 8)))
offsets_more p code count i at lt = ap (λ xs. list_all p (map (λ (x : ℕ × ℤ). x.1) xs)) (pairs_more code count i at lt)

pub pairs_stop : (p : ℤ → Bool) (code : List ℕ) (count i at : ℕ) (whole : Bool) → i < count → list_all p (offsets_of code (count - i) at) ≡ whole → p (code_word_at code (at + 4)) ≡ false → false ≡ whole
pairs_stop p code count i at whole lt same f = stop (p (code_word_at code (at + 4))) (list_all p (offsets_of code (count - (i + 1)) (at + 8))) _ whole (offsets_more p code count i at lt) same f

pub pairs_next : (p : ℤ → Bool) (code : List ℕ) (count i at place : ℕ) (whole : Bool) → i < count → list_all p (offsets_of code (count - i) at) ≡ whole → p (code_word_at code (at + 4)) ≡ true → place ≡ at + 8 → list_all p (offsets_of code (count - (i + 1)) place) ≡ whole
pairs_next p code count i at place whole lt same t e = rw e (next (p (code_word_at code (at + 4))) (list_all p (offsets_of code (count - (i + 1)) (at + 8))) _ whole (offsets_more p code count i at lt) same t)

pub pairs_end : (p : ℤ → Bool) (code : List ℕ) (count i at : ℕ) (whole : Bool) → count ≤ i → list_all p (offsets_of code (count - i) at) ≡ whole → true ≡ whole
pairs_end p code count i at whole le same = sym (ap (λ xs. list_all p (map (λ (x : ℕ × ℤ). x.1) xs)) (pairs_none code count i at le)) ∙ same

-- THE KEYS OF A LOOKUP

abbrev keys_of : List ℕ → ℕ → ℕ → List ℤ
keys_of code n at = map (λ (x : ℕ × ℤ). cast_signed w32 x.0) (switch_pairs_from code n at)

keys_more : (code : List ℕ) (count i at : ℕ) → i + 1 < count → rises (keys_of code (count - i) at) ≡ (int_lt (code_word_at code at) (code_word_at code (at + 8)) && rises (keys_of code (count - (i + 1)) (at + 8)))
keys_more code count i at lt =
    let a = ap (λ xs. rises (map (λ (x : ℕ × ℤ). cast_signed w32 x.0) xs)) (pairs_more code count i at (omega arith)) in
    let b = pairs_more code count (i + 1) (at + 8) lt in
    let c = ap (λ xs. rises (code_word_at code at ∷ map (λ (x : ℕ × ℤ). cast_signed w32 x.0) xs)) b in
    let d = ap (λ xs. int_lt (code_word_at code at) (code_word_at code (at + 8)) && rises (map (λ (x : ℕ × ℤ). cast_signed w32 x.0) xs)) (sym b) in
    a ∙ (c ∙ d)

pub keys_stop : (code : List ℕ) (count i at : ℕ) (whole : Bool) → i + 1 < count → rises (keys_of code (count - i) at) ≡ whole → int_lt (code_word_at code at) (code_word_at code (at + 8)) ≡ false → false ≡ whole
keys_stop code count i at whole lt same f = stop (int_lt (code_word_at code at) (code_word_at code (at + 8))) (rises (keys_of code (count - (i + 1)) (at + 8))) _ whole (keys_more code count i at lt) same f

pub keys_next : (code : List ℕ) (count i at place : ℕ) (whole : Bool) → i + 1 < count → rises (keys_of code (count - i) at) ≡ whole → int_lt (code_word_at code at) (code_word_at code (at + 8)) ≡ true → place ≡ at + 8 → rises (keys_of code (count - (i + 1)) place) ≡ whole
keys_next code count i at place whole lt same t e = rw e (next (int_lt (code_word_at code at) (code_word_at code (at + 8))) (rises (keys_of code (count - (i + 1)) (at + 8))) _ whole (keys_more code count i at lt) same t)

few_rise : (code : List ℕ) (n at : ℕ) → n ≤ 1 → rises (keys_of code n at) ≡ true
unfolding switch_pairs_from
few_rise code zero at le = refl
few_rise code (suc zero) at le = refl
few_rise code (suc (suc n)) at le = absurd (omega arith)

pub keys_end : (code : List ℕ) (count i at : ℕ) (whole : Bool) → count ≤ i + 1 → rises (keys_of code (count - i) at) ≡ whole → true ≡ whole
keys_end code count i at whole le same = sym (few_rise code (count - i) at (omega arith)) ∙ same
