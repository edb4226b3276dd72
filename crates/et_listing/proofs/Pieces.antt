-- Pieces of a text, one after the other.
use Rattle.std.proofs.Common.{◌≡◌, ℕ, zero, suc, ◌+◌, ◌-◌, ◌<◌, ◌≤◌, Bool, true, false, cond, eqb, List, [], ◌∷◌, ◌++◌, length, get_or, take, drop, filter, refl, sym, ap, subst, ◌∙◌, arith, inl, inr, append_assoc, length-drop}
use Rattle.std.proofs.lemmas.Bool.{eq-eqb, ne_eqb, cases_eq}
use Rattle.std.proofs.lemmas.List.{get_or-drop, drop-drop}
use Rattle.std.proofs.lemmas.List.Elements.{filter-append}
use Rattle.et_listing.specs.Words.{before_first, pieces, is_some_text, without_last_empty}

-- no separator stands among the first n bytes
abbrev First : ℕ → List ℕ → ℕ → Type 0
First separator xs n = (k : ℕ) → k < n → get_or xs k 0 ≡ separator → ⊥

next_piece : (separator : ℕ) (xs : List ℕ) (n : ℕ) → First separator xs n → n < length xs → get_or xs n 0 ≡ separator → pieces separator xs ≡ take n xs ∷ pieces separator (drop (suc n) xs)
unfolding pieces
next_piece separator [] n none lt here = absurd (omega arith)
next_piece separator (x ∷ xs) zero none lt here = rw (eq-eqb x separator here) refl
next_piece separator (x ∷ xs) (suc n) none lt here =
    let other : eqb x separator ≡ false = ne_eqb x separator (none 0 (omega arith)) in
    rw other (ap (before_first x) (next_piece separator xs n (λ k h e. none (suc k) (omega arith) e) (omega arith) here))

last_piece : (separator : ℕ) (xs : List ℕ) → First separator xs (length xs) → pieces separator xs ≡ xs ∷ []
unfolding pieces
last_piece separator [] none = refl
last_piece separator (x ∷ xs) none =
    let other : eqb x separator ≡ false = ne_eqb x separator (none 0 (omega arith)) in
    rw other (ap (before_first x) (last_piece separator xs (λ k h e. none (suc k) (omega arith) e)))

-- no separator stands from a place up to another
abbrev pub Free : ℕ → List ℕ → ℕ → ℕ → Type 0
Free separator xs start end = (k : ℕ) → start ≤ k → k < end → get_or xs k 0 ≡ separator → ⊥

pub piece_here : (separator : ℕ) (xs : List ℕ) (start i : ℕ) → start ≤ i → i < length xs → Free separator xs start i → get_or xs i 0 ≡ separator → pieces separator (drop start xs) ≡ take (i - start) (drop start xs) ∷ pieces separator (drop (i + 1) xs)
piece_here separator xs start i le lt free here =
    let size = length-drop start xs in
    let at : start + (i - start) ≡ i = omega arith in
    let behind : start + suc (i - start) ≡ i + 1 = omega arith in
    let separated : get_or (drop start xs) (i - start) 0 ≡ separator = get_or-drop start xs (i - start) 0 ∙ (ap (λ n. get_or xs n 0) at ∙ here) in
    next_piece separator (drop start xs) (i - start) (λ k h e. free (start + k) (omega arith) (omega arith) (sym (get_or-drop start xs k 0) ∙ e)) (omega arith) separated
    ∙ ap (λ ys. take (i - start) (drop start xs) ∷ pieces separator ys) (drop-drop (suc (i - start)) start xs ∙ ap (λ n. drop n xs) behind)

pub piece_end : (separator : ℕ) (xs : List ℕ) (start : ℕ) → Free separator xs start (length xs) → pieces separator (drop start xs) ≡ drop start xs ∷ []
piece_end separator xs start free =
    let size = length-drop start xs in
    last_piece separator (drop start xs) (λ k h e. free (start + k) (omega arith) (omega arith) (sym (get_or-drop start xs k 0) ∙ e))

pub free_more : (separator : ℕ) (xs : List ℕ) (start i : ℕ) → Free separator xs start i → (get_or xs i 0 ≡ separator → ⊥) → Free separator xs start (i + 1)
free_more separator xs start i free other k low high e =
    elim (cases_eq k i) [
      | inl same ↦ other (subst (λ n. get_or xs n 0 ≡ separator) same e)
      | inr ne ↦ free k low (omega arith) e
    ]

pub free_none : (separator : ℕ) (xs : List ℕ) (i : ℕ) → Free separator xs i i
free_none separator xs i k low high e = absurd (omega arith)

-- WORDS

pub words_next : (found found' : List (List ℕ)) (line word : List ℕ) (start i : ℕ) (all : List (List ℕ)) → start ≤ i → i < length line → Free 32 line start i → get_or line i 0 ≡ 32 → word ≡ take (i - start) (drop start line) → found' ≡ found ++ filter is_some_text (word ∷ []) → found ++ filter is_some_text (pieces 32 (drop start line)) ≡ all → found' ++ filter is_some_text (pieces 32 (drop (i + 1) line)) ≡ all
words_next found found' line word start i all le lt free here word_is found_is before =
    let rest = pieces 32 (drop (i + 1) line) in
    ap (λ xs. xs ++ filter is_some_text rest) found_is
    ∙ (append_assoc found (filter is_some_text (word ∷ [])) (filter is_some_text rest)
    ∙ (ap (λ xs. found ++ xs) (sym (filter-append is_some_text (word ∷ []) rest))
    ∙ (ap (λ w. found ++ filter is_some_text (w ∷ rest)) word_is
    ∙ (ap (λ xs. found ++ filter is_some_text xs) (sym (piece_here 32 line start i le lt free here)) ∙ before))))

pub words_end : (found found' : List (List ℕ)) (line word : List ℕ) (start : ℕ) (all : List (List ℕ)) → Free 32 line start (length line) → word ≡ drop start line → found' ≡ found ++ filter is_some_text (word ∷ []) → found ++ filter is_some_text (pieces 32 (drop start line)) ≡ all → found' ≡ all
words_end found found' line word start all free word_is found_is before =
    found_is ∙ (ap (λ w. found ++ filter is_some_text (w ∷ [])) word_is ∙ (ap (λ xs. found ++ filter is_some_text xs) (sym (piece_end 32 line start free)) ∙ before))

-- LINES

not_none : (c : ℕ) (ps : List (List ℕ)) → before_first c ps ≡ [] → ⊥
not_none c [] e = cc
not_none c (p ∷ ps) e = cc

one_of_two : (x : ℕ) (ps : List (List ℕ)) (b : Bool) → cond b ([] ∷ ps) (before_first x ps) ≡ [] → ⊥
one_of_two x ps true e = cc
one_of_two x ps false e = not_none x ps e

some_piece : (separator : ℕ) (xs : List ℕ) → pieces separator xs ≡ [] → ⊥
unfolding pieces
some_piece separator [] e = cc
some_piece separator (x ∷ xs) e = one_of_two x (pieces separator xs) (eqb x separator) e

keeps_first : (line : List ℕ) (ps : List (List ℕ)) → (ps ≡ [] → ⊥) → without_last_empty (line ∷ ps) ≡ line ∷ without_last_empty ps
keeps_first line [] some = absurd (some refl)
keeps_first line (p ∷ ps) some = refl

pub lines_next : (found found' : List (List ℕ)) (text line : List ℕ) (start i : ℕ) (all : List (List ℕ)) → start ≤ i → i < length text → Free 10 text start i → get_or text i 0 ≡ 10 → line ≡ take (i - start) (drop start text) → found' ≡ found ++ line ∷ [] → found ++ without_last_empty (pieces 10 (drop start text)) ≡ all → found' ++ without_last_empty (pieces 10 (drop (i + 1) text)) ≡ all
lines_next found found' text line start i all le lt free here line_is found_is before =
    let rest = pieces 10 (drop (i + 1) text) in
    ap (λ xs. xs ++ without_last_empty rest) found_is
    ∙ (append_assoc found (line ∷ []) (without_last_empty rest)
    ∙ (ap (λ xs. found ++ xs) (sym (keeps_first line rest (some_piece 10 (drop (i + 1) text))))
    ∙ (ap (λ w. found ++ without_last_empty (w ∷ rest)) line_is
    ∙ (ap (λ xs. found ++ without_last_empty xs) (sym (piece_here 10 text start i le lt free here)) ∙ before))))

one_line : (line : List ℕ) → without_last_empty (line ∷ []) ≡ filter is_some_text (line ∷ [])
one_line line = refl

pub lines_end : (found found' : List (List ℕ)) (text line : List ℕ) (start : ℕ) (all : List (List ℕ)) → Free 10 text start (length text) → line ≡ drop start text → found' ≡ found ++ filter is_some_text (line ∷ []) → found ++ without_last_empty (pieces 10 (drop start text)) ≡ all → found' ≡ all
lines_end found found' text line start all free line_is found_is before =
    found_is ∙ (ap (λ w. found ++ filter is_some_text (w ∷ [])) line_is ∙ (ap (λ xs. found ++ xs) (sym (one_line (drop start text))) ∙ (ap (λ xs. found ++ without_last_empty xs) (sym (piece_end 10 text start free)) ∙ before)))
