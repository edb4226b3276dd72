-- The place of a label, one line after the other.
use Rattle.std.proofs.Common.{◌≡◌, ℕ, zero, suc, ◌+◌, ◌<◌, ◌≤◌, Bool, true, false, not, cond, eqb, ltb, List, [], ◌∷◌, ◌++◌, length, get_or, take, Option, Some, None, refl, sym, ap, subst, ◌∙◌, true≢false, arith, inl, inr, length-append, add-zero}
use Rattle.std.proofs.Math.Path.{fun_ext}
use Rattle.std.specs.Prelude.{is_some, option_map, position, nat_lt}
use Rattle.std.specs.List.{position_or_len}
use Rattle.std.specs.Cmp.Lexicographic.{same_text}
use Rattle.std.proofs.lemmas.Bool.{cases_lt, cases_Bool, lt-ltb, le-ltb, eq-eqb, ne_eqb}
use Rattle.std.proofs.lemmas.List.{take-append-le, take_all}
use Rattle.std.proofs.lemmas.List.Folds.{position_or_len_push}
use Rattle.std.proofs.lemmas.List.Sums.{prefix_len-le-length}
use Rattle.et_listing.specs.declared.entry.Entry.{Entry}
use Rattle.et_listing.specs.declared.line.Line.{Line}
use Rattle.et_listing.specs.declared.line.Line.TheVariants as line
use Rattle.et_listing.specs.declared.line.Parsed.{Parsed}
use Rattle.et_listing.specs.Words.{same_word}
use Rattle.et_asm.specs.Code.{place_behind, defines, labels_of}
use Rattle.et_asm.specs.Symbols.{places, define}
use Rattle.et_asm.proofs.Taken.{taken}

abbrev is_of : List ℕ → Parsed → Bool
is_of q p = defines q p.line

-- the label of the line at a place, if there is one
abbrev stands : List Entry → List Parsed → ℕ → Option ℕ
stands entries body n = cond (ltb n (length body)) (Some (place_behind entries (take n body))) None

mapped : (f : ℕ → ℕ) (b : Bool) (n : ℕ) → option_map f (cond b (Some n) None) ≡ cond b (Some (f n)) None
mapped f true n = refl
mapped f false n = refl

stands_at : (entries : List Entry) (body : List Parsed) (q : List ℕ) → labels_of entries body q ≡ stands entries body (position_or_len (is_of q) body)
unfolding labels_of
stands_at entries body q = mapped (λ i. place_behind entries (take i body)) (ltb (position_or_len (is_of q) body) (length body)) (position_or_len (is_of q) body)

within : (t : Parsed → Bool) (xs : List Parsed) → position_or_len t xs ≤ length xs
within t xs = prefix_len-le-length (λ x. not (t x)) xs

some_at : (entries : List Entry) (body : List Parsed) (n : ℕ) → n < length body → stands entries body n ≡ Some (place_behind entries (take n body))
some_at entries body n lt = ap (λ b. cond b (Some (place_behind entries (take n body))) None) (lt-ltb n (length body) lt)

none_at : (entries : List Entry) (body : List Parsed) (n : ℕ) → length body ≤ n → stands entries body n ≡ None
none_at entries body n le = ap (λ b. cond b (Some (place_behind entries (take n body))) None) (le-ltb n (length body) le)

at_end : (entries : List Entry) (body : List Parsed) (p : Parsed) (b : Bool) → stands entries (body ++ p ∷ []) (length body + cond b 0 1) ≡ cond b (Some (place_behind entries body)) None
at_end entries body p true =
    let size = length-append body (p ∷ []) in
    ap (stands entries (body ++ p ∷ [])) (add-zero (length body))
    ∙ (some_at entries (body ++ p ∷ []) (length body) (omega arith) ∙ ap (λ ys. Some (place_behind entries ys)) (take-append-le (length body) body (p ∷ []) (omega arith) ∙ take_all (length body) body (omega arith)))
at_end entries body p false =
    let size = length-append body (p ∷ []) in
    none_at entries (body ++ p ∷ []) (length body + 1) (omega arith)

abbrev Pushed : List Entry → List Parsed → Parsed → List ℕ → Option ℕ → Type 0
Pushed entries body p q o = labels_of entries (body ++ p ∷ []) q ≡ cond (is_some o) o (cond (is_of q p) (Some (place_behind entries body)) None)

push_old : (entries : List Entry) (body : List Parsed) (p : Parsed) (q : List ℕ) → position_or_len (is_of q) body < length body → Pushed entries body p q (labels_of entries body q)
push_old entries body p q lt =
    let n = position_or_len (is_of q) body in
    let was : labels_of entries body q ≡ Some (place_behind entries (take n body)) = stands_at entries body q ∙ some_at entries body n lt in
    let other : n ≡ length body → ⊥ = λ e. absurd (omega (arith, e)) in
    let same_place : position_or_len (is_of q) (body ++ p ∷ []) ≡ n =
    position_or_len_push (is_of q) body p ∙ ap (λ b. cond b (length body + cond (is_of q p) 0 1) n) (ne_eqb n (length body) other) in
    let longer : n < length (body ++ p ∷ []) = omega (arith, length-append body (p ∷ [])) in
    let now : labels_of entries (body ++ p ∷ []) q ≡ Some (place_behind entries (take n body)) =
    stands_at entries (body ++ p ∷ []) q ∙ (ap (stands entries (body ++ p ∷ [])) same_place ∙ (some_at entries (body ++ p ∷ []) n longer ∙ ap (λ ys. Some (place_behind entries ys)) (take-append-le n body (p ∷ []) (omega arith)))) in
    subst (Pushed entries body p q) (sym was) now

push_new : (entries : List Entry) (body : List Parsed) (p : Parsed) (q : List ℕ) → length body ≤ position_or_len (is_of q) body → Pushed entries body p q (labels_of entries body q)
push_new entries body p q le =
    let n = position_or_len (is_of q) body in
    let end : n ≡ length body = omega (arith, within (is_of q) body) in
    let was : labels_of entries body q ≡ None = stands_at entries body q ∙ none_at entries body n le in
    let place : position_or_len (is_of q) (body ++ p ∷ []) ≡ length body + cond (is_of q p) 0 1 =
    position_or_len_push (is_of q) body p ∙ ap (λ b. cond b (length body + cond (is_of q p) 0 1) n) (eq-eqb n (length body) end) in
    let now : labels_of entries (body ++ p ∷ []) q ≡ cond (is_of q p) (Some (place_behind entries body)) None =
    stands_at entries (body ++ p ∷ []) q ∙ (ap (stands entries (body ++ p ∷ [])) place ∙ at_end entries body p (is_of q p)) in
    subst (Pushed entries body p q) (sym was) now

-- one line more: what is defined stays, and a label line defines its label
push : (entries : List Entry) (body : List Parsed) (p : Parsed) (q : List ℕ) → Pushed entries body p q (labels_of entries body q)
push entries body p q = elim (cases_lt (position_or_len (is_of q) body) (length body)) [
  | inl lt ↦ push_old entries body p q lt
  | inr le ↦ push_new entries body p q le
]

-- as the map is written
defined : (labels : List ℕ → Option ℕ) (l : Line) (at : ℕ) (q : List ℕ) → cond (is_some (labels q)) (labels q) (cond (defines q l) (Some at) None) ≡ define at l labels q
defined labels (line.Label name) at q = by (same_word name q) (labels q) refl refl
  where
    kept : (o : Option ℕ) → cond (is_some o) o None ≡ o
    kept None = refl
    kept (Some n) = refl

    either : (b : Bool) (o : Option ℕ) → cond b o o ≡ o
    either true o = refl
    either false o = refl

    by : (b : Bool) (o : Option ℕ) → same_word name q ≡ b → labels q ≡ o → cond (is_some (labels q)) (labels q) (cond (same_word name q) (Some at) None) ≡ cond (is_some (labels name)) (labels q) (cond (same_word name q) (Some at) (labels q))
    by true o e h =
        let one : name ≡ q = same_text name q (sym e) in
        subst (λ x. cond (is_some (labels q)) (labels q) (cond (same_word name q) (Some at) None) ≡ cond (is_some (labels x)) (labels q) (cond (same_word name q) (Some at) (labels q))) (sym one)
        (ap (λ b. cond (is_some (labels q)) (labels q) (cond b (Some at) None)) e ∙ sym (ap (λ b. cond (is_some (labels q)) (labels q) (cond b (Some at) (labels q))) e))
    by false o e h =
        ap (λ b. cond (is_some (labels q)) (labels q) (cond b (Some at) None)) e ∙ (kept (labels q) ∙ (sym (either (is_some (labels name)) (labels q)) ∙ sym (ap (λ b. cond (is_some (labels name)) (labels q) (cond b (Some at) (labels q))) e)))
defined labels other at q = kept (labels q)
  where
    kept : (o : Option ℕ) → cond (is_some o) o None ≡ o
    kept None = refl
    kept (Some n) = refl

-- the loop over the lines of a body
pub labels_more : (entries : List Entry) (body : List Parsed) (i : ℕ) (p : Parsed) (at : ℕ) (es es' : List (List ℕ × ℕ)) → i < length body → p ≡ get_or body i p
    → at ≡ place_behind entries (take i body) → ((q : List ℕ) → places es' q ≡ define at p.line (places es) q) → ((q : List ℕ) → places es q ≡ labels_of entries (take i body) q)
    → (q : List ℕ) → places es' q ≡ labels_of entries (take (i + 1) body) q
labels_more entries body i p at es es' lt e at_is step before q =
    let labels : places es ≡ labels_of entries (take i body) = fun_ext before in
    step q ∙ (ap (λ ls. define at p.line ls q) labels ∙ (sym (defined (labels_of entries (take i body)) p.line at q)
    ∙ (ap (λ a. cond (is_some (labels_of entries (take i body) q)) (labels_of entries (take i body) q) (cond (is_of q p) (Some a) None)) at_is
    ∙ (sym (push entries (take i body) p q) ∙ ap (λ ys. labels_of entries ys q) (sym (taken body i p lt e))))))

pub labels_none : (entries : List Entry) (q : List ℕ) → places [] q ≡ labels_of entries [] q
unfolding labels_of
labels_none entries q = refl

pub labels_all : (entries : List Entry) (body : List Parsed) (i : ℕ) (es : List (List ℕ × ℕ)) → length body ≤ i → ((q : List ℕ) → places es q ≡ labels_of entries (take i body) q) → places es ≡ labels_of entries body
labels_all entries body i es le before = fun_ext (λ q. before q ∙ ap (λ ys. labels_of entries ys q) (take_all i body le))
