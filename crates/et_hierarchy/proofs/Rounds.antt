-- Rows that are made one after another.
use Rattle.std.proofs.Common.{◌≡◌, ℕ, zero, suc, ◌<◌, ◌≤◌, ◌⊎◌, Bool, true, false, ◌&&◌, List, [], ◌∷◌, ◌++◌, length, get_or, set, replicate, Option, None, Some, IfSome, refl, sym, ◌∙◌, ap, subst, arith, get_or-set_same, get_or-set_other, true≢false}
use mathlib.Core.Logic.{⊎_elim}
use Rattle.std.specs.Prelude.{All, Contains}
use Rattle.std.specs.List.{list_all, flat_map, slice_index_or}
use Rattle.std.specs.Option.{option_to_list}
use Rattle.std.proofs.lemmas.Bool.{cases_Bool, cases_eq, and_parts}
use Rattle.std.proofs.lemmas.List.{length-set, length-replicate}
use Rattle.et_hierarchy.specs.Links.{LinkEntry, no_links, parents_of, parents, IsAncestor, IsAcyclic, HasLinksWithin}
use Rattle.et_hierarchy.specs.Search.{IsMarkedIn, unmarked}
use Rattle.et_hierarchy.proofs.Marks.{unmarked-set, marked_before, no_marks}
use Rattle.et_hierarchy.specs.Ancestry.{Ancestry, no_ancestry, ancestry_at, once, ancestry_of, IsAncestry, IsBelow}
use Rattle.std.proofs.lemmas.List.Elements.{All-contains, Contains-get_or}
use Rattle.et_hierarchy.proofs.AddLemmas.{record_is}
use Rattle.et_hierarchy.proofs.BelowLemmas.{below_of}
use Rattle.et_hierarchy.specs.Sorting.{is_done}

Contains-here : (x : ℕ) (xs : List ℕ) → Contains (x ∷ xs) x
Contains-here x xs = (0, omega arith, refl)

Contains-there : (y : ℕ) (xs : List ℕ) (x : ℕ) → Contains xs x → Contains (y ∷ xs) x
Contains-there y xs x (k, lt, e) = (suc k, omega arith, e)

-- some member of the list isn't done
pub not_all : (done : List Bool) (xs : List ℕ) → list_all (is_done done) xs ≡ false → (x : ℕ) × Contains xs x × (is_done done x ≡ false)
not_all done [] h = absurd (cc)
not_all done (x ∷ xs) h =
    ⊎_elim
    (λ y. let r = not_all done xs (sym (ap (λ b. b && list_all (is_done done) xs) y) ∙ h) in (r.0, Contains-there x xs r.0 r.1, r.2))
    (λ n. (x, Contains-here x xs, n))
    (cases_Bool (is_done done x))

-- each member of the list is done
pub all_of : (done : List Bool) (xs : List ℕ) → list_all (is_done done) xs ≡ true → All (λ x. IsMarkedIn done x) xs
all_of done [] h k d lt = absurd (omega arith)
all_of done (x ∷ xs) h zero d lt = (and_parts (is_done done x) (list_all (is_done done) xs) h).0
all_of done (x ∷ xs) h (suc k) d lt = all_of done xs ((and_parts (is_done done x) (list_all (is_done done) xs) h).1) k d (omega arith)

agree_flat : (f g : ℕ → List ℕ) (xs : List ℕ) → All (λ i. f i ≡ g i) xs → flat_map f xs ≡ flat_map g xs
agree_flat f g [] h = refl
agree_flat f g (x ∷ xs) h =
    let e : f x ≡ g x = h 0 x (omega arith) in
    let r : flat_map f xs ≡ flat_map g xs = agree_flat f g xs (λ k d lt. h (suc k) d (omega arith)) in
    ap (λ a. a ++ flat_map f xs) e ∙ ap (λ a. g x ++ a) r

above_below : (n : ℕ) (o : Option ℕ) (ys : List ℕ) → All (λ k. k < n) (option_to_list o ++ ys) → IfSome o (λ s. s < n)
above_below n None ys h = tt
above_below n (Some s) ys h = h 0 s (omega arith)

interfaces_below : (n : ℕ) (o : Option ℕ) (ys : List ℕ) → All (λ k. k < n) (option_to_list o ++ ys) → All (λ k. k < n) ys
interfaces_below n None ys h = h
interfaces_below n (Some s) ys h = λ k d lt. h (suc k) d (omega arith)

pub links_at : (table : List LinkEntry) (k n : ℕ) (x : LinkEntry) → HasLinksWithin (length table) table → k < length table → x ≡ get_or table k x → n ≡ length table → All (λ j. j < n) (parents_of x)
links_at table k n x within lt e f =
    subst (λ m. All (λ j. j < m) (parents_of x)) (sym f) (subst (λ (l : LinkEntry). All (λ j. j < length table) (parents_of l)) (sym e) (within k x lt))

pub next_above : (table : List LinkEntry) (k n : ℕ) (x : LinkEntry) → HasLinksWithin (length table) table → k < length table → x ≡ get_or table k x → n ≡ length table → IfSome x.above (λ s. s < n)
next_above table k n x within lt e f = above_below n x.above x.interfaces (links_at table k n x within lt e f)

pub next_interfaces : (table : List LinkEntry) (k n : ℕ) (x : LinkEntry) → HasLinksWithin (length table) table → k < length table → x ≡ get_or table k x → n ≡ length table → All (λ i. i < n) x.interfaces
next_interfaces table k n x within lt e f = interfaces_below n x.above x.interfaces (links_at table k n x within lt e f)

abbrev pub linked : Option ℕ → List ℕ → LinkEntry
linked o ints = record { above = o; interfaces = ints }

-- the lists of a class depend on those of the classes right above it alone
same_by : (o : Option ℕ) (ints : List ℕ) (rows rows' : List Ancestry) (k : ℕ) → All (λ p. ancestry_at rows' p ≡ ancestry_at rows p) (option_to_list o ++ ints) → ancestry_of (linked o ints) rows' k ≡ ancestry_of (linked o ints) rows k
same_by None ints rows rows' k h =
    let f = agree_flat (λ i. (ancestry_at rows' i).superinterfaces ++ i ∷ []) (λ i. (ancestry_at rows i).superinterfaces ++ i ∷ []) ints (λ j d lt. ap (λ (r : Ancestry). r.superinterfaces ++ slice_index_or ints j d ∷ []) (h j d lt)) in
    let g = agree_flat (λ i. (ancestry_at rows' i).field_order) (λ i. (ancestry_at rows i).field_order) ints (λ j d lt. ap (λ (r : Ancestry). r.field_order) (h j d lt)) in
    record_is _ _ _ _ _ _ refl (ap (λ (z : List ℕ). once ([] ++ z)) f) (ap (λ (z : List ℕ). once (k ∷ z ++ [])) g)
same_by (Some s) ints rows rows' k h =
    let e : ancestry_at rows' s ≡ ancestry_at rows s = h 0 s (omega arith) in
    let f = agree_flat (λ i. (ancestry_at rows' i).superinterfaces ++ i ∷ []) (λ i. (ancestry_at rows i).superinterfaces ++ i ∷ []) ints (λ j d lt. ap (λ (r : Ancestry). r.superinterfaces ++ slice_index_or ints j d ∷ []) (h (suc j) d (omega arith))) in
    let g = agree_flat (λ i. (ancestry_at rows' i).field_order) (λ i. (ancestry_at rows i).field_order) ints (λ j d lt. ap (λ (r : Ancestry). r.field_order) (h (suc j) d (omega arith))) in
    record_is _ _ _ _ _ _ (ap (λ (r : Ancestry). s ∷ r.supers) e)
    (ap (λ (r : Ancestry). once (r.superinterfaces ++ flat_map (λ i. (ancestry_at rows' i).superinterfaces ++ i ∷ []) ints)) e ∙ ap (λ (z : List ℕ). once ((ancestry_at rows s).superinterfaces ++ z)) f)
    (ap (λ (r : Ancestry). once (k ∷ flat_map (λ i. (ancestry_at rows' i).field_order) ints ++ r.field_order)) e ∙ ap (λ (z : List ℕ). once (k ∷ z ++ (ancestry_at rows s).field_order)) g)

pub ancestry_same : (l : LinkEntry) (rows rows' : List Ancestry) (k : ℕ) → All (λ p. ancestry_at rows' p ≡ ancestry_at rows p) (parents_of l) → ancestry_of l rows' k ≡ ancestry_of l rows k
ancestry_same l rows rows' k h = same_by l.above l.interfaces rows rows' k h

-- the rows of the classes that are done are right
pub record IsMaking (table : List LinkEntry) (rows : List Ancestry) (IsDone : ℕ → Type 0) : Type 0 where
  pub rows_length : length rows ≡ length table
  pub each : (k : ℕ) → IsDone k → ancestry_at rows k ≡ ancestry_of (slice_index_or table k no_links) rows k
  pub above : (k p : ℕ) → IsDone k → Contains (parents table k) p → IsDone p
  pub below : (k : ℕ) → IsDone k → IsBelow (length table) (ancestry_at rows k)

pub making_start : (table : List LinkEntry) (rows : List Ancestry) (IsDone : ℕ → Type 0) → length rows ≡ length table → ((k : ℕ) → IsDone k → ⊥) → IsMaking table rows IsDone
making_start table rows IsDone e none = record {
  rows_length = e;
  each = λ k y. absurd (none k y);
  above = λ k p y h. absurd (none k y);
  below = λ k y. absurd (none k y);
}

-- the row of class k is written, when those right above it are done; it may have been done before, and then it stays
-- the same
module _ (table : List LinkEntry) (rows : List Ancestry) (IsDone IsDone' : ℕ → Type 0) (k : ℕ) (row : Ancestry) where
  pub making_step : HasLinksWithin (length table) table → k < length table → IsMaking table rows IsDone → ((c : ℕ) → IsDone' c → (c ≡ k) ⊎ IsDone c) → ((c : ℕ) → IsDone c → IsDone' c) → IsDone' k → ((p : ℕ) → Contains (parents table k) p → IsDone p)
      → row ≡ ancestry_of (slice_index_or table k no_links) rows k → IsMaking table (set rows k row) IsDone'
  making_step within lt making grow keep now parents_done is =
      let lt_rows : k < length rows = subst (λ n. k < n) (sym making.rows_length) lt in
      let links = λ (j : ℕ). slice_index_or table j no_links in
      let kept : (p : ℕ) → IsDone p → ancestry_at (set rows k row) p ≡ ancestry_at rows p = λ p y.
      ⊎_elim
      (λ e. subst (λ q. ancestry_at (set rows k row) q ≡ ancestry_at rows q) (sym e) (get_or-set_same rows k row no_ancestry lt_rows ∙ (is ∙ sym (making.each k (subst IsDone e y)))))
      (λ ne. get_or-set_other rows k p row no_ancestry ne)
      (cases_eq p k) in
      let same : (j : ℕ) → ((p : ℕ) → Contains (parents table j) p → IsDone p) → ancestry_of (links j) (set rows k row) j ≡ ancestry_of (links j) rows j = λ j above. ancestry_same (links j) rows (set rows k row) j (λ i d l. kept (slice_index_or (parents table j) i d) (above (slice_index_or (parents table j) i d) (Contains-get_or (parents table j) i d l))) in
      let here : ancestry_at (set rows k row) k ≡ ancestry_of (links k) (set rows k row) k = get_or-set_same rows k row no_ancestry lt_rows ∙ (is ∙ sym (same k parents_done)) in
      let inside : IsBelow (length table) row = subst (IsBelow (length table)) (sym is) (below_of (length table) (links k) rows k lt (within k no_links lt) (λ i d l. making.below (slice_index_or (parents table k) i d) (parents_done (slice_index_or (parents table k) i d) (Contains-get_or (parents table k) i d l)))) in
      record {
        rows_length = length-set rows k row ∙ making.rows_length;
        each = λ j y.
            ⊎_elim
            (λ e. subst (λ i. ancestry_at (set rows k row) i ≡ ancestry_of (links i) (set rows k row) i) (sym e) here)
            (λ b. kept j b ∙ (making.each j b ∙ sym (same j (λ p h. making.above j p b h))))
            (grow j y);
        above = λ j p y h. ⊎_elim (λ e. keep p (parents_done p (subst (λ i. Contains (parents table i) p) e h))) (λ b. keep p (making.above j p b h)) (grow j y);
        below = λ j y.
            ⊎_elim
            (λ e. subst (λ i. IsBelow (length table) (ancestry_at (set rows k row) i)) (sym e) (subst (IsBelow (length table)) (sym (get_or-set_same rows k row no_ancestry lt_rows)) inside))
            (λ b. subst (IsBelow (length table)) (sym (kept j b)) (making.below j b))
            (grow j y);
      }

pub making_end : (table : List LinkEntry) (rows : List Ancestry) (IsDone : ℕ → Type 0) → IsMaking table rows IsDone → ((k : ℕ) → k < length table → IsDone k) → IsAncestry table rows
making_end table rows IsDone making all = record {
  each = making.rows_length;
  row = λ k lt. making.each k (all k lt);
}

-- each class is done, or one right above it isn't
abbrev pub IsFull : List LinkEntry → List Bool → Type 0
IsFull table done = (c : ℕ) → c < length table → IsMarkedIn done c ⊎ ((p : ℕ) × Contains (parents table c) p × (is_done done p ≡ false))

-- from a class that isn't done one climbs without end
module _ (table : List LinkEntry) (done : List Bool) (within : HasLinksWithin (length table) table) (full : IsFull table done) (acyclic : IsAcyclic table) where
  -- each class from which one has come up to class u is marked as seen
  climb : (fuel : ℕ) (seen : List Bool) (u : ℕ) → u < length table → length seen ≡ length table → is_done done u ≡ false → ((v : ℕ) → IsMarkedIn seen v → IsAncestor table v u) → unmarked seen ≤ fuel → ⊥
  climb zero seen u lt len undone below few =
      ⊎_elim (λ y. acyclic u lt (below u y)) (λ n. let w = unmarked-set seen u (subst (λ m. u < m) (sym len) lt) n in omega arith) (cases_Bool (is_done seen u))
  climb (suc fuel) seen u lt len undone below few =
      let lt' : u < length seen = subst (λ m. u < m) (sym len) lt in
      ⊎_elim
      (λ y. acyclic u lt (below u y))
      (λ n.
      let w = unmarked-set seen u lt' n in
      ⊎_elim
      (λ y. true≢false (sym y ∙ undone))
      (λ p. climb fuel (set seen u true) p.0 (All-contains (λ k. k < length table) (parents table u) p.0 (within u no_links lt) p.1) (length-set seen u true ∙ len) p.2
      (λ v m. ⊎_elim (λ e. subst (λ q. IsAncestor table q p.0) (sym e) (0, p.1)) (λ b. let a = below v b in (suc a.0, (u, a.1, p.1))) (marked_before seen u v lt' m)) (omega arith))
      (full u lt))
      (cases_Bool (is_done seen u))

  pub all_done : (k : ℕ) → k < length table → IsMarkedIn done k
  all_done k lt =
      ⊎_elim (λ y. y)
      (λ n. absurd (climb (unmarked (replicate (length table) false)) (replicate (length table) false) k lt (length-replicate (length table) false) n (λ v m. absurd (no_marks (length table) v m)) (omega arith)))
      (cases_Bool (is_done done k))
