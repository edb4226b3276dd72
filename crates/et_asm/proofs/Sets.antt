-- A pool has each used entry once.
use Rattle.std.proofs.Common.{◌≡◌, ℕ, zero, suc, ◌<◌, Bool, true, false, not, cond, ◌||◌, List, [], ◌∷◌, length, get_or, take, filter, Some, None, refl, sym, ap, ◌∙◌, arith, inl, inr, true≢false}
use Rattle.std.specs.Prelude.{All, AllPairs, nat_lt, position}
use Rattle.std.specs.List.{list_any, position_or_len}
use Rattle.std.specs.Option.{option_map_or}
use Rattle.std.proofs.lemmas.Bool.{cases_Bool, lt-ltb, not-true}
use Rattle.std.proofs.lemmas.List.Elements.{filter_passes}
use Rattle.std.proofs.lemmas.List.Kept.{AllPairs-filter}
use Rattle.std.proofs.lemmas.List.Sums.{position_or_len_is}
use Rattle.et_listing.specs.declared.entry.Entry.{Entry}
use Rattle.std.specs.List.{flat_map}
use Rattle.et_asm.specs.Pool.{same_entry, parts, each_once, uses, pool, index_behind, entry_index}
use Rattle.et_asm.specs.Laws.{PoolsAreSets, IndicesName}
use Rattle.et_asm.proofs.Once.{laws}

abbrev Differ : Entry → Entry → Type 0
Differ a b = same_entry a b ≡ false

abbrev other : Entry → Entry → Bool
other x y = not (same_entry x y)

-- ONCE

apart_cons : (x : Entry) (ys : List Entry) → All (λ y. other x y ≡ true) ys → AllPairs Differ ys → AllPairs Differ (x ∷ ys)
apart_cons x ys others apart zero zero d lt small = absurd (omega arith)
apart_cons x ys others apart zero (suc j) d lt small = not-true (same_entry x (get_or ys j d)) (others j d (omega arith))
apart_cons x ys others apart (suc i) zero d lt small = absurd (omega arith)
apart_cons x ys others apart (suc i) (suc j) d lt small = apart i j d (omega arith) (omega arith)

each_apart : (xs : List Entry) → AllPairs Differ (each_once xs)
unfolding each_once
each_apart [] = λ i j d lt small. absurd (omega arith)
each_apart (x ∷ xs) = apart_cons x (filter (other x) (each_once xs)) (filter_passes (other x) (each_once xs)) (AllPairs-filter Differ (other x) (each_once xs) (each_apart xs))

-- THERE

or_true : (b : Bool) → b ≡ true → (c d : Bool) → (b || c) ≡ (b || d)
or_true true h c d = refl
or_true false h c d = absurd (true≢false (sym h))

-- what is the same as an entry that isn't there isn't there
kept_any : (e x : Entry) → same_entry e x ≡ false → (ys : List Entry) → list_any (same_entry e) (filter (other x) ys) ≡ list_any (same_entry e) ys
kept_any e x absent [] = refl
kept_any e x absent (y ∷ ys) = elim (cases_Bool (same_entry x y)) [
  | inl alike ↦
      let gone : same_entry e y ≡ false = laws.symm e y ∙ (sym (laws.congr x y e alike) ∙ (laws.symm x e ∙ absent)) in
      ap (λ b. list_any (same_entry e) (cond (not b) (y ∷ filter (other x) ys) (filter (other x) ys))) alike ∙ (kept_any e x absent ys ∙ sym (ap (λ b. b || list_any (same_entry e) ys) gone))
  | inr apart ↦
      ap (λ b. list_any (same_entry e) (cond (not b) (y ∷ filter (other x) ys) (filter (other x) ys))) apart ∙ ap (λ b. same_entry e y || b) (kept_any e x absent ys)
]

each_there : (e : Entry) (xs : List Entry) → list_any (same_entry e) (each_once xs) ≡ list_any (same_entry e) xs
unfolding each_once
each_there e [] = refl
each_there e (x ∷ xs) = elim (cases_Bool (same_entry e x)) [
  | inl there ↦ or_true (same_entry e x) there (list_any (same_entry e) (filter (other x) (each_once xs))) (list_any (same_entry e) xs)
  | inr absent ↦ ap (λ b. same_entry e x || b) (kept_any e x absent (each_once xs) ∙ each_there e xs)
]

pub sets : PoolsAreSets
unfolding pool
sets lines = record {
  once = each_apart (flat_map parts (uses lines));
  members = λ e. each_there e (flat_map parts (uses lines));
}

-- INDICES

at_place : (entries : List Entry) (test : Entry → Bool) (i : ℕ) → i < length entries → position_or_len test entries ≡ i → position test entries ≡ Some i
at_place entries test i lt is =
    ap (λ n. cond (nat_lt n (length entries)) (Some n) None) is ∙ ap (λ b. cond b (Some i) None) (lt-ltb i (length entries) lt)

pub named : IndicesName
unfolding entry_index
named lines i d lt =
    let entries = pool lines in
    let e = get_or entries i d in
    let once = (sets lines).once in
    let place : position_or_len (same_entry e) entries ≡ i =
    position_or_len_is (same_entry e) entries i d (omega arith) (λ k below. laws.symm e (get_or entries k d) ∙ once k i d below lt) (λ inside. laws.refl e) in
    ap (λ o. option_map_or (λ n. index_behind (take n entries)) o 0) (at_place entries (same_entry e) i lt place)
