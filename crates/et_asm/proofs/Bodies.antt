-- The lines of a body, up to its `end`.
use Rattle.std.proofs.Common.{◌≡◌, ℕ, ◌+◌, ◌<◌, ◌≤◌, true, false, cond, List, [], ◌∷◌, ◌++◌, length, get_or, take, drop, refl, sym, ap, ◌∙◌, append_assoc, append-nil}
use Rattle.std.proofs.lemmas.List.{take_more, at_drop_more, at_drop_all, take_all}
use Rattle.et_listing.specs.declared.line.Parsed.{Parsed}
use Rattle.et_asm.specs.Order.{lines_of_body, is_end_line}

pub body_here : (lines : List Parsed) (i : ℕ) (p : Parsed) → i < length lines → p ≡ get_or lines i p → is_end_line p.line ≡ true → lines_of_body (drop i lines) ≡ []
body_here lines i p lt e ends =
    at_drop_more lines_of_body lines i p lt ∙ ap (λ b. cond b [] (get_or lines i p ∷ lines_of_body (drop (i + 1) lines))) (ap (λ q. is_end_line q.line) (sym e) ∙ ends)

pub body_more : (lines : List Parsed) (i : ℕ) (p : Parsed) → i < length lines → p ≡ get_or lines i p → is_end_line p.line ≡ false → lines_of_body lines ≡ take i lines ++ lines_of_body (drop i lines) → lines_of_body lines ≡ take (i + 1) lines ++ lines_of_body (drop (i + 1) lines)
body_more lines i p lt e goes before =
    let here : lines_of_body (drop i lines) ≡ get_or lines i p ∷ lines_of_body (drop (i + 1) lines) = at_drop_more lines_of_body lines i p lt ∙ ap (λ b. cond b [] (get_or lines i p ∷ lines_of_body (drop (i + 1) lines))) (ap (λ q. is_end_line q.line) (sym e) ∙ goes) in
    before ∙ (ap (λ xs. take i lines ++ xs) here ∙ (sym (append_assoc (take i lines) (get_or lines i p ∷ []) (lines_of_body (drop (i + 1) lines))) ∙ ap (λ xs. xs ++ lines_of_body (drop (i + 1) lines)) (sym (take_more lines i p lt))))

pub body_none : (lines : List Parsed) (i : ℕ) → lines_of_body lines ≡ take i lines ++ lines_of_body (drop i lines) → lines_of_body (drop i lines) ≡ [] → take i lines ≡ lines_of_body lines
body_none lines i before none = sym (append-nil (take i lines)) ∙ (ap (λ xs. take i lines ++ xs) (sym none) ∙ sym before)

pub body_all : (lines : List Parsed) (i : ℕ) → length lines ≤ i → lines_of_body lines ≡ take i lines ++ lines_of_body (drop i lines) → lines ≡ lines_of_body lines
body_all lines i le before = sym (take_all i lines le) ∙ body_none lines i before (at_drop_all lines_of_body lines i le)
