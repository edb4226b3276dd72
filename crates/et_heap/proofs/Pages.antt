-- Lists that are cut in pages.
use Rattle.std.proofs.Common.{◌≡◌, ℕ, zero, suc, ◌+◌, ◌-◌, ◌*◌, ◌<◌, ◌≤◌, List, [], ◌∷◌, ◌++◌, length, Option, Some, None, get_or, set, replicate, true, false, ◌&&◌, nat_le, ap, subst, refl, sym, ◌∙◌, inl, inr, arith}
use Rattle.std.proofs.lemmas.List.{append-nil, append_assoc, length-append, length-set, length-replicate, get_or_append_left, get_or-append_right, set-append_left, set-append_right, get_or_default}
use Rattle.std.proofs.lemmas.List.Sums.{sum_by-cons}
use Rattle.std.proofs.lemmas.Bool.{cases_lt}
use Rattle.std.proofs.lemmas.Bool.Decides.{nat_tests}
use Rattle.std.specs.Option.{option_to_list}
use Rattle.et_heap.specs.Objects.{most_objects, most_slots}
use Rattle.et_heap.specs.Stored.{Stored, StoredPlaces, stored_in, as_stored, stored_at, is_stored, IsStored, IsNextStored, with_stored_at, ones_stored, stored_count, stored_slots, stored_referents, has_stored_room}
use Rattle.et_heap.specs.Links.{stored_with}
use Rattle.et_heap.specs.Pages.{page_at, place_in_page, empty_places, places_of, all_places, IsPaged}
use Rattle.et_heap.specs.declared.page.TheConstants.{PAGE_SIZE}
use Rattle.et_heap.proofs.Places.{there_below, held-positive, at-below, set-below, stored_count-set, stored_count-written, stored_slots-written, stored_referents-set}

-- ONE PAGE

none_there : (n j : ℕ) → is_stored (get_or (replicate n None) j None) → ⊥
none_there zero j there = there
none_there (suc n) zero there = there
none_there (suc n) (suc j) there = none_there n j there

empty_places-none : (j : ℕ) → IsStored empty_places j → ⊥
unfolding empty_places
empty_places-none j held = none_there PAGE_SIZE j held

-- a page in which an object stands was not given back
pub kept-held : (kept : StoredPlaces) (j : ℕ) → IsStored (places_of kept) j → (places_of kept ≡ kept) × (j < length kept)
kept-held [] j held = absurd (empty_places-none j held)
kept-held (x ∷ xs) j held = (refl, there_below (x ∷ xs) j held)

pub kept_within : (page kept : StoredPlaces) (j : ℕ) → places_of kept ≡ page → IsStored page j → j < length kept
kept_within page kept j view held = (kept-held kept j (subst (λ h. IsStored h j) (sym view) held)).1

place_read : (page kept : StoredPlaces) (j : ℕ) (p : Option Stored) → places_of kept ≡ page → IsStored page j → p ≡ get_or kept j p → p ≡ stored_in page j
place_read page kept j p view held is =
    let k = kept-held kept j (subst (λ h. IsStored h j) (sym view) held) in
    is ∙ (get_or_default kept j p None k.1 ∙ (ap (λ h. stored_in h j) (sym k.0) ∙ ap (λ h. stored_in h j) view))

-- what stands at the place of an object is that object
pub kept_found : (page kept : StoredPlaces) (j : ℕ) (p : Option Stored) → places_of kept ≡ page → IsStored page j → p ≡ get_or kept j p → as_stored p ≡ stored_at page j
kept_found page kept j p view held is = ap as_stored (place_read page kept j p view held is)

pub kept_stands : (page kept : StoredPlaces) (j : ℕ) (p : Option Stored) → places_of kept ≡ page → IsStored page j → p ≡ get_or kept j p → is_stored p
kept_stands page kept j p view held is = subst is_stored (sym (place_read page kept j p view held is)) held

some_stored : (p : Option Stored) → is_stored p → p ≡ Some (as_stored p)
some_stored None held = absurd held
some_stored (Some x) held = refl

pub kept-object : (page kept : StoredPlaces) (j : ℕ) (p : Option Stored) → places_of kept ≡ page → IsStored page j → p ≡ get_or kept j p → p ≡ Some (stored_at page j)
kept-object page kept j p view held is = place_read page kept j p view held is ∙ some_stored (stored_in page j) held

set-places_of : (kept : StoredPlaces) (j : ℕ) (y : Option Stored) → 0 < length kept → places_of (set kept j y) ≡ set (places_of kept) j y
set-places_of [] j y some = absurd (omega arith)
set-places_of (x ∷ xs) zero y some = refl
set-places_of (x ∷ xs) (suc j) y some = refl

-- writing in the list writes at the place
kept-written : (page kept : StoredPlaces) (j : ℕ) (y : Option Stored) → places_of kept ≡ page → IsStored page j → places_of (set kept j y) ≡ set page j y
kept-written page kept j y view held =
    let lt = kept_within page kept j view held in
    set-places_of kept j y (omega arith) ∙ ap (λ h. set h j y) view

pub stored_count-zero : (xs : StoredPlaces) → stored_count xs ≡ 0 → xs ≡ replicate (length xs) None
stored_count-zero [] none = refl
stored_count-zero (None ∷ xs) none =
    let e = sum_by-cons ones_stored None xs in
    ap (λ (ys : StoredPlaces). None ∷ ys) (stored_count-zero xs (omega arith))
stored_count-zero (Some x ∷ xs) none = let e = sum_by-cons ones_stored (Some x) xs in absurd (omega arith)

-- a page with all its places, in which no object stands, shows as much when it was given back
pub given_back : (kept : StoredPlaces) → stored_count kept ≡ 0 → length kept ≡ PAGE_SIZE → empty_places ≡ kept
unfolding empty_places
given_back kept none full = sym (stored_count-zero kept none ∙ ap (λ (n : ℕ). replicate {A = Option Stored} n None) full)

pub kept-given_back : (page kept : StoredPlaces) (j : ℕ) (q : Option Stored) → places_of kept ≡ page → IsStored page j → q ≡ None → stored_count (set kept j q) ≡ 0 → length kept ≡ PAGE_SIZE → empty_places ≡ set page j None
kept-given_back page kept j q view held gone none full =
    let k = kept-held kept j (subst (λ h. IsStored h j) (sym view) held) in
    let none' : stored_count (set kept j None) ≡ 0 = subst (λ p. stored_count (set kept j p) ≡ 0) gone none in
    given_back (set kept j None) none' (length-set kept j None ∙ full) ∙ ap (λ (h : StoredPlaces). set h j None) (sym k.0 ∙ view)

-- an object that is taken out of the list is taken out at its place
pub kept-emptied : (page kept : StoredPlaces) (j : ℕ) (q : Option Stored) → places_of kept ≡ page → IsStored page j → q ≡ None → places_of (set kept j q) ≡ set page j None
kept-emptied page kept j q view held gone = kept-written page kept j q view held ∙ ap (set page j) gone

-- changing what stands in the list changes it at the place
pub kept_changed : (page kept : StoredPlaces) (j : ℕ) (p q : Option Stored) (f : Stored → Stored) → places_of kept ≡ page → IsStored page j → p ≡ get_or kept j p → q ≡ Some (f (as_stored p)) → places_of (set kept j q) ≡ stored_with f j page
kept_changed page kept j p q f view held is changed =
    kept-written page kept j q view held ∙ ap (set page j) (changed ∙ ap (λ y. Some (f (as_stored y))) (place_read page kept j p view held is))

-- one object fewer
pub kept-fewer : (page kept : StoredPlaces) (j : ℕ) (q : Option Stored) → places_of kept ≡ page → IsStored page j → q ≡ None → stored_count (set kept j q) + 1 ≡ stored_count kept
kept-fewer page kept j q view held gone =
    let k = kept-held kept j (subst (λ h. IsStored h j) (sym view) held) in
    ap (λ p. stored_count (set kept j p) + 1) gone ∙ stored_count-set kept j (subst (λ h. IsStored h j) (sym view ∙ k.0) held)

-- nothing is held where nothing is counted
pub kept-none : (page kept : StoredPlaces) (j : ℕ) → places_of kept ≡ page → stored_count kept ≡ 0 → IsStored page j → ⊥
kept-none page kept j view none held =
    let k = kept-held kept j (subst (λ h. IsStored h j) (sym view) held) in
    none_there (length kept) j (subst (λ h. IsStored h j) (sym view ∙ (k.0 ∙ stored_count-zero kept none)) held)

length-empty_places : length empty_places ≡ PAGE_SIZE
unfolding empty_places
length-empty_places = length-replicate {A = Option Stored} PAGE_SIZE None

-- a page that has room was not given back
pub kept-push : (page kept more : StoredPlaces) (x : Option Stored) → places_of kept ≡ page → length page < PAGE_SIZE → more ≡ kept ++ x ∷ [] → places_of more ≡ page ++ x ∷ []
kept-push page [] more x view room e = let len = ap length view in absurd (omega (arith, length-empty_places))
kept-push page (y ∷ ys) more x view room e = ap places_of e ∙ ap (λ (h : StoredPlaces). h ++ x ∷ []) view

-- MANY PAGES

pub length-all_places : (n : ℕ) (pages : List StoredPlaces) → IsPaged n pages → length (all_places pages) ≡ n
length-all_places n [] paged = sym paged
length-all_places n (p ∷ ps) paged =
    let len = paged.1 in
    let some = paged.0 in
    let rest = length-all_places (n - PAGE_SIZE) ps paged.2 in
    omega (arith, length-append p (all_places ps))

-- the place of a number
pub record IsPlaced (pages : List StoredPlaces) (k j : ℕ) : Type 0 where
  pub page : k < length pages
  pub place : j < length (get_or pages k [])
  pub same : get_or (all_places pages) (PAGE_SIZE * k + j) None ≡ get_or (get_or pages k []) j None

pub place_of_pages : (n : ℕ) (pages : List StoredPlaces) (k j : ℕ) → IsPaged n pages → PAGE_SIZE * k + j < n → j < PAGE_SIZE → IsPlaced pages k j
place_of_pages n [] k j paged below short = absurd (omega arith)
place_of_pages n (p ∷ ps) zero j paged below short =
    let len = paged.1 in
    let lt : j < length p = omega arith in
    let e : PAGE_SIZE * 0 + j ≡ j = omega arith in
    record {
      page = omega arith;
      place = lt;
      same = ap (λ (i : ℕ). get_or (p ++ all_places ps) i None) e ∙ get_or_append_left p (all_places ps) None j lt;
    }
place_of_pages n (p ∷ ps) (suc k) j paged below short =
    let len = paged.1 in
    let full : length p ≡ PAGE_SIZE = omega arith in
    let rest = place_of_pages (n - PAGE_SIZE) ps k j paged.2 (omega arith) short in
    let there = rest.page in
    let e : PAGE_SIZE * suc k + j - PAGE_SIZE ≡ PAGE_SIZE * k + j = omega arith in
    record {
      page = omega arith;
      place = rest.place;
      same = get_or-append_right p (all_places ps) PAGE_SIZE (PAGE_SIZE * suc k + j) None full (omega arith) ∙ (ap (λ (i : ℕ). get_or (all_places ps) i None) e ∙ rest.same);
    }

-- writing at a place of a page writes at its number
pub pages_with : (n : ℕ) (pages : List StoredPlaces) (k j : ℕ) (y : Option Stored) → IsPaged n pages → PAGE_SIZE * k + j < n → j < PAGE_SIZE → all_places (set pages k (set (get_or pages k []) j y)) ≡ set (all_places pages) (PAGE_SIZE * k + j) y
pages_with n [] k j y paged below short = absurd (omega arith)
pages_with n (p ∷ ps) zero j y paged below short =
    let len = paged.1 in
    let e : j ≡ PAGE_SIZE * 0 + j = omega arith in
    sym (set-append_left p (all_places ps) j y (omega arith)) ∙ ap (λ (i : ℕ). set (p ++ all_places ps) i y) e
pages_with n (p ∷ ps) (suc k) j y paged below short =
    let len = paged.1 in
    let full : length p ≡ PAGE_SIZE = omega arith in
    let e : PAGE_SIZE * k + j ≡ PAGE_SIZE * suc k + j - PAGE_SIZE = omega arith in
    ap (λ (xs : StoredPlaces). p ++ xs) (pages_with (n - PAGE_SIZE) ps k j y paged.2 (omega arith) short ∙ ap (λ (i : ℕ). set (all_places ps) i y) e) ∙ sym (set-append_right p (all_places ps) PAGE_SIZE (PAGE_SIZE * suc k + j) y full (omega arith))

pub IsPaged-set : (n : ℕ) (pages : List StoredPlaces) (k : ℕ) (q : StoredPlaces) → IsPaged n pages → length q ≡ length (get_or pages k []) → IsPaged n (set pages k q)
IsPaged-set n [] k q paged same = paged
IsPaged-set n (p ∷ ps) zero q paged same = (paged.0, same ∙ paged.1, paged.2)
IsPaged-set n (p ∷ ps) (suc k) q paged same = (paged.0, paged.1, IsPaged-set (n - PAGE_SIZE) ps k q paged.2 same)

-- the number of a place
pub number_below : (n : ℕ) (pages : List StoredPlaces) (k j : ℕ) → IsPaged n pages → k < length pages → j < length (get_or pages k []) → (PAGE_SIZE * k + j < n) × (j < PAGE_SIZE)
number_below n [] k j paged page place = absurd (omega arith)
number_below n (p ∷ ps) zero j paged page place = let len = paged.1 in (omega arith, omega arith)
number_below n (p ∷ ps) (suc k) j paged page place =
    let len = paged.1 in
    let some = paged.0 in
    let rest = number_below (n - PAGE_SIZE) ps k j paged.2 (omega arith) place in
    let lt = rest.0 in
    (omega arith, rest.1)

-- AN OBJECT IN ITS PAGE

pub number_positive : (heap : StoredPlaces) (pages : List StoredPlaces) (o : ℕ) → None ∷ all_places pages ≡ heap → IsStored heap o → 0 < o
number_positive heap pages o view held = held-positive (all_places pages) o (subst (λ h. IsStored h o) (sym view) held)

pub number_within : (heap : StoredPlaces) (pages : List StoredPlaces) (made o : ℕ) → None ∷ all_places pages ≡ heap → IsPaged made pages → IsStored heap o → o ≤ made
number_within heap pages made o view paged held =
    let below = there_below (None ∷ all_places pages) o (subst (λ h. IsStored h o) (sym view) held) in
    let len = length-all_places made pages paged in
    omega arith

object_placed : (pages : List StoredPlaces) (made o k j : ℕ) → IsPaged made pages → 0 < o → o ≤ made → k ≡ page_at o → j ≡ place_in_page o → (PAGE_SIZE * k + j ≡ o - 1) × (j < PAGE_SIZE) × IsPlaced pages k j
object_placed pages made o k j paged some most page place =
    let q : PAGE_SIZE * k + j ≡ o - 1 = omega arith in
    (q, omega arith, place_of_pages made pages k j paged (omega arith) (omega arith))

-- an object that was made has a page
pub page_of-within : (pages : List StoredPlaces) (made o k : ℕ) → IsPaged made pages → 0 < o → o ≤ made → k ≡ page_at o → k < length pages
page_of-within pages made o k paged some most page = (object_placed pages made o k (place_in_page o) paged some most page refl).2.page

-- what stands at a number stands at its place of its page p
pub at-number : (heap : StoredPlaces) (pages : List StoredPlaces) (made o k j : ℕ) (p : StoredPlaces) → None ∷ all_places pages ≡ heap → IsPaged made pages → 0 < o → o ≤ made → k ≡ page_at o → j ≡ place_in_page o → p ≡ get_or pages k p → stored_in heap o ≡ stored_in p j
at-number heap pages made o k j p view paged some most page place is =
    let placed = object_placed pages made o k j paged some most page place in
    let same : get_or pages k [] ≡ p = sym (is ∙ get_or_default pages k p [] placed.2.page) in
    ap (λ h. stored_in h o) (sym view) ∙ (at-below (all_places pages) o some ∙ (ap (λ (i : ℕ). get_or (all_places pages) i None) (sym placed.0) ∙ (placed.2.same ∙ ap (λ h. stored_in h j) same)))

pub page-held-within : (heap : StoredPlaces) (pages : List StoredPlaces) (made o k : ℕ) → None ∷ all_places pages ≡ heap → IsPaged made pages → IsStored heap o → k ≡ page_at o → k < length pages
page-held-within heap pages made o k view paged held page = page_of-within pages made o k paged (number_positive heap pages o view held) (number_within heap pages made o view paged held) page

pub at-page : (heap : StoredPlaces) (pages : List StoredPlaces) (made o k j : ℕ) (p : StoredPlaces) → None ∷ all_places pages ≡ heap → IsPaged made pages → IsStored heap o → k ≡ page_at o → j ≡ place_in_page o → p ≡ get_or pages k p → stored_in heap o ≡ stored_in p j
at-page heap pages made o k j p view paged held page place is = at-number heap pages made o k j p view paged (number_positive heap pages o view held) (number_within heap pages made o view paged held) page place is

-- the pages after a write of y at the number of object o
pub record IsWritten (made : ℕ) (pages more : List StoredPlaces) (o : ℕ) (y : Option Stored) : Type 0 where
  pub paged : IsPaged made more
  pub same : all_places more ≡ set (all_places pages) (o - 1) y

pub page-written : (heap : StoredPlaces) (pages : List StoredPlaces) (made o k j : ℕ) (p q : StoredPlaces) (y : Option Stored) → None ∷ all_places pages ≡ heap → IsPaged made pages → IsStored heap o → k ≡ page_at o → j ≡ place_in_page o → p ≡ get_or pages k p → q ≡ set p j y → IsWritten made pages (set pages k q) o y
page-written heap pages made o k j p q y view paged held page place is wrote =
    let most = number_within heap pages made o view paged held in
    let some = number_positive heap pages o view held in
    let placed = object_placed pages made o k j paged some most page place in
    let at-o = placed.0 in
    let wrote' : q ≡ set (get_or pages k []) j y = wrote ∙ ap (λ h. set h j y) (is ∙ get_or_default pages k p [] placed.2.page) in
    record {
      paged = IsPaged-set made pages k q paged (ap length wrote' ∙ length-set (get_or pages k []) j y);
      same = ap (λ (h : StoredPlaces). all_places (set pages k h)) wrote' ∙ (pages_with made pages k j y paged (omega arith) placed.1 ∙ ap (λ (i : ℕ). set (all_places pages) i y) at-o);
    }

-- the same where what stands at the number is changed
pub page-changed : (heap : StoredPlaces) (pages : List StoredPlaces) (made o k j : ℕ) (p q : StoredPlaces) (f : Stored → Stored) → None ∷ all_places pages ≡ heap → IsPaged made pages → IsStored heap o → k ≡ page_at o → j ≡ place_in_page o → p ≡ get_or pages k p → q ≡ stored_with f j p → IsWritten made pages (set pages k q) o (Some (f (stored_at heap o)))
page-changed heap pages made o k j p q f view paged held page place is changed =
    let same = at-page heap pages made o k j p view paged held page place is in
    page-written heap pages made o k j p q (Some (f (stored_at heap o))) view paged held page place is (changed ∙ ap (λ (z : Option Stored). with_stored_at p j (f (as_stored z))) (sym same))

pub written-view : (heap : StoredPlaces) (pages more : List StoredPlaces) (made o : ℕ) (y : Option Stored) → None ∷ all_places pages ≡ heap → IsStored heap o → IsWritten made pages more o y → None ∷ all_places more ≡ set heap o y
written-view heap pages more made o y view held written =
    let held' : IsStored (None ∷ all_places pages) o = subst (λ h. IsStored h o) (sym view) held in
    ap (λ (xs : StoredPlaces). None ∷ xs) written.same ∙ (sym (set-below (all_places pages) o y (held-positive (all_places pages) o held')) ∙ ap (λ h. set h o y) view)

-- a write that leaves the object held, with as many slots, leaves the counts
pub written-counts : (heap : StoredPlaces) (pages more : List StoredPlaces) (made o : ℕ) (x : Stored) → None ∷ all_places pages ≡ heap → IsStored heap o → IsWritten made pages more o (Some x) → length x.state.slots ≡ length (stored_at heap o).state.slots → (stored_count (all_places more) ≡ stored_count (all_places pages)) × (stored_slots (all_places more) ≡ stored_slots (all_places pages))
written-counts heap pages more made o x view held written slots =
    let held' : IsStored (None ∷ all_places pages) o = subst (λ h. IsStored h o) (sym view) held in
    let slots' : length x.state.slots ≡ length (stored_at (None ∷ all_places pages) o).state.slots = slots ∙ ap (λ h. length (stored_at h o).state.slots) (sym view) in
    (ap stored_count written.same ∙ stored_count-written (all_places pages) o x held', ap stored_slots written.same ∙ stored_slots-written (all_places pages) o x held' slots')

-- .. and what objects refer to weakly is counted as what stands there now
pub written-referents : (heap : StoredPlaces) (pages more : List StoredPlaces) (made o : ℕ) (x : Stored) → None ∷ all_places pages ≡ heap → IsStored heap o → IsWritten made pages more o (Some x) → stored_referents (all_places more) + length (option_to_list (stored_at heap o).state.referent) ≡ stored_referents (all_places pages) + length (option_to_list x.state.referent)
written-referents heap pages more made o x view held written =
    let held' : IsStored (None ∷ all_places pages) o = subst (λ h. IsStored h o) (sym view) held in
    let same : length (option_to_list (stored_at (None ∷ all_places pages) o).state.referent) ≡ length (option_to_list (stored_at heap o).state.referent) = ap (λ h. length (option_to_list (stored_at h o).state.referent)) view in
    omega (arith, ap stored_referents written.same, stored_referents-set (all_places pages) o (Some x) held')

-- THE NEXT OBJECT

made-le : (n : ℕ) (pages : List StoredPlaces) → IsPaged n pages → n ≤ PAGE_SIZE * length pages
made-le n [] paged = let none : n ≡ 0 = paged in omega arith
made-le n (p ∷ ps) paged =
    let len = paged.1 in
    let rest = made-le (n - PAGE_SIZE) ps paged.2 in
    omega arith

-- a place of page p, from its number
pub held-in_page : (pages : List StoredPlaces) (made k u : ℕ) (p : StoredPlaces) → IsPaged made pages → p ≡ get_or pages k p → PAGE_SIZE * k < u → u ≤ PAGE_SIZE * k + PAGE_SIZE → IsStored (None ∷ all_places pages) u → IsStored p (u - 1 - PAGE_SIZE * k)
held-in_page pages made k u p paged is low high held =
    let e = at-page (None ∷ all_places pages) pages made u k (u - 1 - PAGE_SIZE * k) p refl paged held (omega arith) (omega arith) is in
    subst is_stored e held

-- what is held in a page was made
pub found_below : (pages : List StoredPlaces) (made k i : ℕ) (p : StoredPlaces) → IsPaged made pages → k < length pages → p ≡ get_or pages k p → IsStored p i → (PAGE_SIZE * k + i < made) × (i < PAGE_SIZE)
found_below pages made k i p paged there is held =
    let same : p ≡ get_or pages k [] = is ∙ get_or_default pages k p [] there in
    number_below made pages k i paged there (there_below (get_or pages k []) i (subst (λ h. IsStored h i) same held))

-- nothing is held from number f on before place j of page k
abbrev pub NoneBefore : List StoredPlaces → ℕ → ℕ → ℕ → Type 0
NoneBefore pages f k j = (u : ℕ) → f ≤ u → u < PAGE_SIZE * k + j + 1 → IsStored (None ∷ all_places pages) u → ⊥

pub none-page : (pages : List StoredPlaces) (made f k j : ℕ) (p : StoredPlaces) → IsPaged made pages → p ≡ get_or pages k p → ((v : ℕ) → j ≤ v → IsStored p v → ⊥) → NoneBefore pages f k j → NoneBefore pages f (k + 1) 0
none-page pages made f k j p paged is out before u from below held =
    elim (cases_lt u (PAGE_SIZE * k + j + 1)) [
      | inl lt ↦ before u from lt held
      | inr le ↦ out (u - 1 - PAGE_SIZE * k) (omega arith) (held-in_page pages made k u p paged is (omega arith) (omega arith) held)
    ]

pub none-end : (heap : StoredPlaces) (pages : List StoredPlaces) (made f k j : ℕ) → None ∷ all_places pages ≡ heap → IsPaged made pages → length pages ≤ k → NoneBefore pages f k j → (u : ℕ) → f ≤ u → IsStored heap u → ⊥
none-end heap pages made f k j view paged end before u from held =
    let most = number_within heap pages made u view paged held in
    let le = made-le made pages paged in
    before u from (omega arith) (subst (λ h. IsStored h u) (sym view) held)

pub next-found : (heap : StoredPlaces) (pages : List StoredPlaces) (made f k j i : ℕ) (p : StoredPlaces) → None ∷ all_places pages ≡ heap → IsPaged made pages → k < length pages → p ≡ get_or pages k p → f ≤ PAGE_SIZE * k + j + 1 → NoneBefore pages f k j → IsNextStored p j i → IsNextStored heap f (PAGE_SIZE * k + i + 1)
next-found heap pages made f k j i p view paged there is from before next =
    let o = PAGE_SIZE * k + i + 1 in
    let below = found_below pages made k i p paged there is next.held in
    let short = below.1 in
    let few = below.0 in
    let le = next.from in
    let e = at-number heap pages made o k i p view paged (omega arith) (omega arith) (omega arith) (omega arith) is in
    record {
      held = subst is_stored (sym e) next.held;
      from = omega arith;
      first = λ u low held. elim (cases_lt u o) [
        | inl lt ↦
            let held' : IsStored (None ∷ all_places pages) u = subst (λ h. IsStored h u) (sym view) held in
            elim (cases_lt u (PAGE_SIZE * k + j + 1)) [
              | inl early ↦ absurd (before u low early held')
              | inr late ↦
                  let le' = next.first (u - 1 - PAGE_SIZE * k) (omega arith) (held-in_page pages made k u p paged is (omega arith) (omega arith) held') in
                  absurd (omega arith)
            ]
        | inr le' ↦ le'
      ];
    }

-- ONE OBJECT MORE

pub IsPaged-new_page : (n : ℕ) (pages : List StoredPlaces) (k : ℕ) (x : Option Stored) → IsPaged n pages → n ≡ PAGE_SIZE * k → IsPaged (n + 1) (pages ++ (x ∷ []) ∷ [])
IsPaged-new_page n [] k x paged e =
    let none : n ≡ 0 = paged in
    (omega arith, omega arith, omega arith)
IsPaged-new_page n (p ∷ ps) zero x paged e = let some = paged.0 in absurd (omega arith)
IsPaged-new_page n (p ∷ ps) (suc k) x paged e =
    let len = paged.1 in
    let same : n - PAGE_SIZE + 1 ≡ n + 1 - PAGE_SIZE = omega arith in
    (omega arith, omega arith, subst (λ (m : ℕ). IsPaged m (ps ++ (x ∷ []) ∷ [])) same (IsPaged-new_page (n - PAGE_SIZE) ps k x paged.2 (omega arith)))

no_pages : (ps : List StoredPlaces) → IsPaged 0 ps → ps ≡ []
no_pages [] paged = refl
no_pages (p ∷ ps) paged = let some = paged.0 in absurd (omega arith)

-- the last page of those that have n places has room while n is no multiple of the size
pub last_page : (n : ℕ) (pages : List StoredPlaces) (k j : ℕ) → IsPaged n pages → n ≡ PAGE_SIZE * k + j → 0 < j → j < PAGE_SIZE → (k < length pages) × (length (get_or pages k []) ≡ j)
last_page n [] k j paged e some short = let none : n ≡ 0 = paged in absurd (omega arith)
last_page n (p ∷ ps) zero j paged e some short = let len = paged.1 in (omega arith, omega arith)
last_page n (p ∷ ps) (suc k) j paged e some short =
    let rest = last_page (n - PAGE_SIZE) ps k j paged.2 (omega arith) some short in
    let lt = rest.0 in
    (omega arith, rest.1)

pub all_places-push : (n : ℕ) (pages : List StoredPlaces) (k j : ℕ) (x : Option Stored) → IsPaged n pages → n ≡ PAGE_SIZE * k + j → 0 < j → j < PAGE_SIZE → all_places (set pages k (get_or pages k [] ++ x ∷ [])) ≡ all_places pages ++ x ∷ []
all_places-push n [] k j x paged e some short = let none : n ≡ 0 = paged in absurd (omega arith)
all_places-push n (p ∷ ps) zero j x paged e some short =
    let z : n - PAGE_SIZE ≡ 0 = omega arith in
    let last : ps ≡ [] = no_pages ps (subst (λ (m : ℕ). IsPaged m ps) z paged.2) in
    ap (λ (qs : List StoredPlaces). p ++ x ∷ [] ++ all_places qs) last ∙ (append-nil (p ++ x ∷ []) ∙ (ap (λ (xs : StoredPlaces). xs ++ x ∷ []) (sym (append-nil p)) ∙ ap (λ (qs : List StoredPlaces). p ++ all_places qs ++ x ∷ []) (sym last)))
all_places-push n (p ∷ ps) (suc k) j x paged e some short =
    ap (λ (xs : StoredPlaces). p ++ xs) (all_places-push (n - PAGE_SIZE) ps k j x paged.2 (omega arith) some short) ∙ sym (append_assoc p (all_places ps) (x ∷ []))

pub IsPaged-push : (n : ℕ) (pages : List StoredPlaces) (k j : ℕ) (x : Option Stored) → IsPaged n pages → n ≡ PAGE_SIZE * k + j → 0 < j → j < PAGE_SIZE → IsPaged (n + 1) (set pages k (get_or pages k [] ++ x ∷ []))
IsPaged-push n [] k j x paged e some short = let none : n ≡ 0 = paged in absurd (omega arith)
IsPaged-push n (p ∷ ps) zero j x paged e some short =
    let len = paged.1 in
    let more = length-append p (x ∷ []) in
    let z : n - PAGE_SIZE ≡ n + 1 - PAGE_SIZE = omega arith in
    (omega arith, omega arith, subst (λ (m : ℕ). IsPaged m ps) z paged.2)
IsPaged-push n (p ∷ ps) (suc k) j x paged e some short =
    let len = paged.1 in
    let same : n - PAGE_SIZE + 1 ≡ n + 1 - PAGE_SIZE = omega arith in
    (omega arith, omega arith, subst (λ (m : ℕ). IsPaged m (set ps k (get_or ps k [] ++ x ∷ []))) same (IsPaged-push (n - PAGE_SIZE) ps k j x paged.2 (omega arith) some short))

-- ROOM

pub length-heap : (heap : StoredPlaces) (pages : List StoredPlaces) (made : ℕ) → None ∷ all_places pages ≡ heap → IsPaged made pages → length heap ≡ made + 1
length-heap heap pages made view paged =
    let len = length-all_places made pages paged in
    let same : length (None ∷ all_places pages) ≡ length heap = ap length view in
    omega arith

room-paged : (heap : StoredPlaces) (pages : List StoredPlaces) (made s : ℕ) → None ∷ all_places pages ≡ heap → IsPaged made pages → has_stored_room heap 1 s ≡ (nat_le (made + 1) most_objects && nat_le (stored_slots (all_places pages) + s) most_slots)
room-paged heap pages made s view paged =
    let len = length-all_places made pages paged in
    let e : length (None ∷ all_places pages) - 1 + 1 ≡ made + 1 = omega arith in
    ap (λ h. has_stored_room h 1 s) (sym view) ∙ ap (λ (n : ℕ). nat_le n most_objects && nat_le (stored_slots (all_places pages) + s) most_slots) e

pub room-there : (heap : StoredPlaces) (pages : List StoredPlaces) (made s : ℕ) → None ∷ all_places pages ≡ heap → IsPaged made pages → made < most_objects → stored_slots (all_places pages) + s ≤ most_slots → has_stored_room heap 1 s ≡ true
room-there heap pages made s view paged few small = rw (room-paged heap pages made s view paged) (grind (arith, nat_tests))

pub room-out : (heap : StoredPlaces) (pages : List StoredPlaces) (made s : ℕ) → None ∷ all_places pages ≡ heap → IsPaged made pages → most_objects ≤ made → has_stored_room heap 1 s ≡ false
room-out heap pages made s view paged many = rw (room-paged heap pages made s view paged) (grind (arith, nat_tests))

pub room-small : (heap : StoredPlaces) (pages : List StoredPlaces) (made s : ℕ) → None ∷ all_places pages ≡ heap → IsPaged made pages → most_slots < stored_slots (all_places pages) + s → has_stored_room heap 1 s ≡ false
room-small heap pages made s view paged much = rw (room-paged heap pages made s view paged) (grind (arith, nat_tests))
