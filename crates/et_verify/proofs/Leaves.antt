-- The targets in the rows of a table and the pairs of a lookup, one after another.
use Rattle.std.proofs.Common.{◌≡◌, ℕ, ◌+◌, ◌-◌, ◌<◌, ◌≤◌, List, [], ◌∷◌, ◌++◌, map, sym, ◌∙◌, ap}
use Rattle.std.specs.Prelude.{ℤ}
use Rattle.std.proofs.lemmas.List.{append_assoc, append-nil}
use Rattle.et_code.specs.Decoding.{code_word_at}
use Rattle.et_code.specs.Switches.{rows_from, switch_pairs_from}
use Rattle.et_code.proofs.Switched.{rows_more, rows_none, pairs_more, pairs_none}

-- one more was added
added : (ts whole : List ℕ) (f : ℤ → ℕ) (x : ℤ) (all xs : List ℤ) → all ≡ x ∷ xs → ts ++ map f all ≡ whole → (ts ++ f x ∷ []) ++ map f xs ≡ whole
added ts whole f x all xs e same = append_assoc ts (f x ∷ []) (map f xs) ∙ (ap (λ (ys : List ℤ). ts ++ map f ys) (sym e) ∙ same)

ended : (ts whole : List ℕ) (f : ℤ → ℕ) (all : List ℤ) → all ≡ [] → ts ++ map f all ≡ whole → ts ≡ whole
ended ts whole f all e same = sym (append-nil ts) ∙ (ap (λ (ys : List ℤ). ts ++ map f ys) (sym e) ∙ same)

pub row_added : (ts whole : List ℕ) (f : ℤ → ℕ) (code : List ℕ) (count i at place : ℕ) → i < count → place ≡ at + 4 → ts ++ map f (rows_from code (count - i) at) ≡ whole → (ts ++ f (code_word_at code at) ∷ []) ++ map f (rows_from code (count - (i + 1)) place) ≡ whole
row_added ts whole f code count i at place lt e same = rw e (added ts whole f (code_word_at code at) (rows_from code (count - i) at) (rows_from code (count - (i + 1)) (at + 4)) (rows_more code count i at lt) same)

pub rows_ended : (ts whole : List ℕ) (f : ℤ → ℕ) (code : List ℕ) (count i at : ℕ) → count ≤ i → ts ++ map f (rows_from code (count - i) at) ≡ whole → ts ≡ whole
rows_ended ts whole f code count i at le same = ended ts whole f (rows_from code (count - i) at) (rows_none code count i at le) same

abbrev offsets_of : List ℕ → ℕ → ℕ → List ℤ
offsets_of code n at = map (λ (x : ℕ × ℤ). x.1) (switch_pairs_from code n at)

pub pair_added : (ts whole : List ℕ) (f : ℤ → ℕ) (code : List ℕ) (count i at place : ℕ) → i < count → place ≡ at + 8 → ts ++ map f (offsets_of code (count - i) at) ≡ whole → (ts ++ f (code_word_at code (at + 4)) ∷ []) ++ map f (offsets_of code (count - (i + 1)) place) ≡ whole
pair_added ts whole f code count i at place lt e same = rw e (added ts whole f (code_word_at code (at + 4)) (offsets_of code (count - i) at) (offsets_of code (count - (i + 1)) (at + 8)) (ap (λ xs. map (λ (x : ℕ × ℤ). x.1) xs) (pairs_more code count i at lt)) same)

pub pairs_ended : (ts whole : List ℕ) (f : ℤ → ℕ) (code : List ℕ) (count i at : ℕ) → count ≤ i → ts ++ map f (offsets_of code (count - i) at) ≡ whole → ts ≡ whole
pairs_ended ts whole f code count i at le same = ended ts whole f (offsets_of code (count - i) at) (ap (λ xs. map (λ (x : ℕ × ℤ). x.1) xs) (pairs_none code count i at le)) same
