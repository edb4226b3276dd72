-- Entries added to a pool, one use after the other.
use Rattle.std.proofs.Common.{◌≡◌, ℕ, zero, suc, ◌+◌, ◌-◌, ◌<◌, ◌≤◌, Bool, true, false, not, List, [], ◌∷◌, ◌++◌, length, get_or, take, drop, cond, if◌then◌else◌, refl, sym, ap, ◌∙◌, arith, append_assoc, append-nil}
use Rattle.std.specs.List.{flat_map}
use Rattle.std.proofs.lemmas.List.{take_more, at_drop_more, at_drop_all, take_all}
use Rattle.std.proofs.lemmas.List.Sums.{fold-append}
use Rattle.std.proofs.lemmas.Grind.{flat_map-append}
use Rattle.indexmap.specs.IndexSet.{insert_all, insert_key}
use Rattle.et_listing.specs.declared.entry.Entry.{Entry}
use Rattle.et_listing.specs.declared.line.Parsed.{Parsed}
use Rattle.et_asm.specs.Order.{lines_of_body, is_end_line}
use Rattle.et_asm.specs.Pool.{same_entry, parts}
use Rattle.et_asm.specs.Symbols.{entry_added}
use Rattle.et_asm.proofs.Taken.{left, left_more, left_none}

pub added_more : (keys xs ys : List Entry) → entry_added (entry_added keys xs) ys ≡ entry_added keys (xs ++ ys)
unfolding entry_added
added_more keys xs ys = sym (fold-append (insert_key same_entry) keys (flat_map parts xs) (flat_map parts ys)) ∙ ap (insert_all same_entry keys) (sym (flat_map-append parts xs ys))

pub added_none : (keys : List Entry) → keys ≡ entry_added keys []
unfolding entry_added
added_none keys = refl

pub added_no_more : (keys xs : List Entry) → entry_added keys xs ≡ entry_added keys (xs ++ [])
added_no_more keys xs = ap (entry_added keys) (sym (append-nil xs))

pub added_two : (keys : List Entry) (x : Entry) (ys : List Entry) → entry_added (entry_added keys (x ∷ [])) ys ≡ entry_added keys (x ∷ ys)
added_two keys x ys = added_more keys (x ∷ []) ys

pub added_three : (keys : List Entry) (x y : Entry) (ys : List Entry) → entry_added (entry_added keys (x ∷ y ∷ [])) ys ≡ entry_added keys (x ∷ y ∷ ys)
added_three keys x y ys = added_more keys (x ∷ y ∷ []) ys

-- a loop over lines, each of which adds what it uses
pub loop_more : (f : Parsed → List Entry) (body : List Parsed) (i : ℕ) (p : Parsed) (keys keys' base : List Entry) → i < length body → p ≡ get_or body i p → keys' ≡ entry_added keys (f p) → keys ≡ entry_added base (flat_map f (take i body)) → keys' ≡ entry_added base (flat_map f (take (i + 1) body))
loop_more f body i p keys keys' base lt e step before =
    let taken : take (i + 1) body ≡ take i body ++ p ∷ [] = take_more body i p lt ∙ ap (λ x. take i body ++ x ∷ []) (sym e) in
    step ∙ (ap (λ k. entry_added k (f p)) before ∙ (added_more base (flat_map f (take i body)) (f p)
    ∙ ap (entry_added base) (ap (λ xs. flat_map f (take i body) ++ xs) (sym (append-nil (f p))) ∙ (sym (flat_map-append f (take i body) (p ∷ [])) ∙ ap (flat_map f) (sym taken)))))

pub loop_all : (f : Parsed → List Entry) (body : List Parsed) (i : ℕ) (keys base : List Entry) → length body ≤ i → keys ≡ entry_added base (flat_map f (take i body)) → keys ≡ entry_added base (flat_map f body)
loop_all f body i keys base le before = before ∙ ap (λ xs. entry_added base (flat_map f xs)) (take_all i body le)

-- THE LOOP OVER ALL LINES

module _ (give : List Parsed → Parsed → List Parsed → List Entry) where
  pub lines_more : (lines : List Parsed) (i : ℕ) (p : Parsed) (keys keys' whole : List Entry) → i < length lines → p ≡ get_or lines i p
      → keys' ≡ entry_added keys (give (take i lines) p (drop (i + 1) lines)) → entry_added keys (left give lines i) ≡ whole → entry_added keys' (left give lines (i + 1)) ≡ whole
  lines_more lines i p keys keys' whole lt e step before =
      ap (λ k. entry_added k (left give lines (i + 1))) step
      ∙ (added_more keys (give (take i lines) p (drop (i + 1) lines)) (left give lines (i + 1))
      ∙ (ap (entry_added keys) (sym (left_more give lines i p lt e)) ∙ before))

  pub lines_end : (lines : List Parsed) (i : ℕ) (keys whole : List Entry) → length lines ≤ i → entry_added keys (left give lines i) ≡ whole → keys ≡ whole
  unfolding entry_added
  lines_end lines i keys whole le before = sym (ap (entry_added keys) (left_none give lines i le)) ∙ before
