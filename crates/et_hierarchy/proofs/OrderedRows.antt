-- Rows that are made in an order in which each class stands behind those right above it.
use Rattle.std.proofs.Common.{◌≡◌, ℕ, ◌+◌, ◌<◌, ◌≤◌, Bool, List, ◌∷◌, ◌++◌, length, get_or, set, refl, sym, ◌∙◌, ap, subst, arith}
use Rattle.std.specs.Prelude.{Contains}
use Rattle.std.specs.List.{slice_index_or, flat_map}
use Rattle.std.proofs.lemmas.List.{get_or_default}
use Rattle.et_hierarchy.specs.Links.{LinkEntry, no_links, parents, IsAcyclic, HasLinksWithin}
use Rattle.et_hierarchy.specs.Ancestry.{Ancestry, ancestry_at, once, field_order_over, ancestry_of, IsAncestry, IsBelow}
use Rattle.et_hierarchy.specs.Sorting.{IsAmong, IsSorted}
use Rattle.et_hierarchy.proofs.Rounds.{IsMaking, making_start, making_step, making_end, all_done}
use Rattle.et_hierarchy.proofs.Sortings.{among_wider, among_cases}
use Rattle.et_hierarchy.proofs.OnceLemmas.{once_again, once_over, above_is}

pub ordered_start : (table : List LinkEntry) (rows : List Ancestry) (order : List ℕ) → length rows ≡ length table → IsMaking table rows (IsAmong order 0)
ordered_start table rows order size = making_start table rows (IsAmong order 0) size (λ k h. omega (arith, h.1))

pub same_sorted : (table : List LinkEntry) (order order' : List ℕ) (done : List Bool) → order' ≡ order → IsSorted table order done → IsSorted table order' done
same_sorted table order order' done e s = subst (λ (o : List ℕ). IsSorted table o done) (sym e) s

-- the row of the next class of the order
pub ordered_turn : (table : List LinkEntry) (order order' : List ℕ) (done : List Bool) (rows rows' : List Ancestry) (i : ℕ) (l : LinkEntry) (row : Ancestry) → HasLinksWithin (length table) table → IsSorted table order done → order' ≡ order → i < length order' → IsMaking table rows (IsAmong order' i) → rows' ≡ rows
    → l ≡ get_or table (slice_index_or order' i 0) l → row ≡ ancestry_of l rows' (slice_index_or order' i 0) → IsMaking table (set rows (slice_index_or order' i 0) row) (IsAmong order' (i + 1))
ordered_turn table order order' done rows rows' i l row within sorted same lt making er el is =
    let s : IsSorted table order' done = same_sorted table order order' done same sorted in
    let k : ℕ = slice_index_or order' i 0 in
    let inside : k < length table = s.sorted.inside i lt in
    let links : l ≡ slice_index_or table k no_links = el ∙ get_or_default table k l no_links inside in
    making_step table rows (IsAmong order' i) (IsAmong order' (i + 1)) k row within inside making (λ c m. among_cases order' i c m) (λ c m. among_wider order' i (i + 1) c (omega arith) m) (i, omega arith, refl) (λ p h. s.sorted.above i p lt h)
    (is ∙ (ap (λ (x : LinkEntry). ancestry_of x rows' k) links ∙ ap (λ (rs : List Ancestry). ancestry_of (slice_index_or table k no_links) rs k) er))

-- the superclass of the next class of the order has each place where it looks for a field once
pub ordered_once : (table : List LinkEntry) (order order' : List ℕ) (done : List Bool) (rows rows' : List Ancestry) (i : ℕ) (l : LinkEntry) → IsSorted table order done → order' ≡ order → i < length order' → IsMaking table rows (IsAmong order' i) → rows' ≡ rows
    → l ≡ get_or table (slice_index_or order' i 0) l → once (field_order_over rows' l.above) ≡ field_order_over rows' l.above
ordered_once table order order' done rows rows' i l sorted same lt making er el =
    let s : IsSorted table order' done = same_sorted table order order' done same sorted in
    let k : ℕ = slice_index_or order' i 0 in
    let at : LinkEntry = slice_index_or table k no_links in
    let links : l ≡ at = el ∙ get_or_default table k l no_links (s.sorted.inside i lt) in
    let made : (p : ℕ) → Contains (parents table k) p → once (ancestry_at rows p).field_order ≡ (ancestry_at rows p).field_order = λ p h.
    let e : (ancestry_at rows p).field_order ≡ (ancestry_of (slice_index_or table p no_links) rows p).field_order = ap (λ (r : Ancestry). r.field_order) (making.each p (s.sorted.above i p lt h)) in
    ap once e ∙ (once_again (p ∷ flat_map (λ i. (ancestry_at rows i).field_order) (slice_index_or table p no_links).interfaces ++ field_order_over rows (slice_index_or table p no_links).above) ∙ sym e) in
    let here : once (field_order_over rows at.above) ≡ field_order_over rows at.above = once_over rows at.above (above_is (λ p. once (ancestry_at rows p).field_order ≡ (ancestry_at rows p).field_order) at.above at.interfaces made) in
    subst (λ (rs : List Ancestry). once (field_order_over rs l.above) ≡ field_order_over rs l.above) (sym er) (subst (λ (x : LinkEntry). once (field_order_over rows x.above) ≡ field_order_over rows x.above) (sym links) here)

pub ordered_all : (table : List LinkEntry) (order order' : List ℕ) (done : List Bool) (i : ℕ) → HasLinksWithin (length table) table → IsSorted table order done → order' ≡ order → IsAcyclic table → length order' ≤ i → (k : ℕ) → k < length table → IsAmong order' i k
ordered_all table order order' done i within sorted same acyclic over k lt =
    let s : IsSorted table order' done = same_sorted table order order' done same sorted in
    among_wider order' (length order') i k over ((s.marks k).0 (all_done table done within s.full acyclic k lt))

pub ordered_end : (table : List LinkEntry) (order order' : List ℕ) (done : List Bool) (rows : List Ancestry) (i : ℕ) → HasLinksWithin (length table) table → IsSorted table order done → order' ≡ order → IsAcyclic table → length order' ≤ i → IsMaking table rows (IsAmong order' i) → IsAncestry table rows
ordered_end table order order' done rows i within sorted same acyclic over making = making_end table rows (IsAmong order' i) making (ordered_all table order order' done i within sorted same acyclic over)

pub ordered_below : (table : List LinkEntry) (order order' : List ℕ) (done : List Bool) (rows : List Ancestry) (i : ℕ) → HasLinksWithin (length table) table → IsSorted table order done → order' ≡ order → IsAcyclic table → length order' ≤ i → IsMaking table rows (IsAmong order' i) → (k : ℕ) → k < length table → IsBelow (length table) (ancestry_at rows k)
ordered_below table order order' done rows i within sorted same acyclic over making k lt = making.below k (ordered_all table order order' done i within sorted same acyclic over k lt)

-- the class that is next is one of the set
pub ordered_inside : (table : List LinkEntry) (order order' : List ℕ) (done : List Bool) (i n : ℕ) → IsSorted table order done → order' ≡ order → i < length order' → n ≡ length table → slice_index_or order' i 0 < n
ordered_inside table order order' done i n sorted same lt size =
    let s : IsSorted table order' done = same_sorted table order order' done same sorted in
    subst (λ m. slice_index_or order' i 0 < m) (sym size) (s.sorted.inside i lt)
