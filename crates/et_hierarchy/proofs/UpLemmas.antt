-- Lists of superclasses upward.
use Rattle.std.proofs.Common.{◌≡◌, ℕ, zero, suc, ◌+◌, ◌<◌, ◌⊎◌, ◌==◌, Bool, true, false, List, [], ◌∷◌, ◌++◌, length, drop, get_or, set, replicate, Option, None, Some, IfSome, refl, sym, ◌∙◌, ap, subst, arith, append-nil, append_assoc, inl, inr, get_or-set_same, get_or-set_other}
use mathlib.Core.Logic.{⊎_elim}
use Rattle.std.specs.Prelude.{All, Contains}
use Rattle.std.specs.List.{slice_index_or, list_any, flat_map}
use Rattle.std.specs.Option.{option_to_list}
use Rattle.std.proofs.lemmas.Bool.{cases_Bool, cases_eq, eqb-true}
use Rattle.std.proofs.lemmas.List.{length-set, length-replicate, get_or_default}
use Rattle.std.proofs.lemmas.List.Elements.{All-nil, All-cons, All-head, All-tail, All-push, All-contains, Contains-push_cases}
use Rattle.et_base.proofs.Lists.{Contains-none, Contains-here, Contains-there, Contains-cons, any_contains}
use Rattle.et_hierarchy.specs.Links.{LinkEntry, no_links, parents, IsAncestorIn, IsAncestor, IsAcyclic, HasLinksWithin}
use Rattle.et_hierarchy.specs.Search.{IsMarkedIn, unmarked}
use Rattle.et_hierarchy.specs.Sorting.{is_done, IsAmong, IsSorted}
use Rattle.et_hierarchy.specs.Ancestry.{Ancestry, ancestry_at, once, supers_over, field_order_over}
use Rattle.et_hierarchy.specs.Upward.{LeadsUp, HasListUp, AreListsUp, ListsGrow}
use Rattle.et_hierarchy.proofs.Marks.{unmarked-set, marked_before, no_marks}
use Rattle.et_hierarchy.proofs.OnceLemmas.{above_is}
use Rattle.et_hierarchy.proofs.OrderParts.{added_behind}
use Rattle.et_hierarchy.proofs.Rounds.{IsMaking}
use Rattle.et_hierarchy.proofs.OrderedRows.{same_sorted}

-- THE CLASSES OF A LIST, as marks: the fewer are left, the shorter is the way up

abbrev pub marked_by : List Bool → List ℕ → List Bool
marked_by marks [] = marks
marked_by marks (x ∷ xs) = marked_by (set marks x true) xs

marked_by-push : (marks : List Bool) (xs : List ℕ) (k : ℕ) → marked_by marks (xs ++ k ∷ []) ≡ set (marked_by marks xs) k true
marked_by-push marks [] k = refl
marked_by-push marks (x ∷ xs) k = marked_by-push (set marks x true) xs k

length-marked_by : (marks : List Bool) (xs : List ℕ) → length (marked_by marks xs) ≡ length marks
length-marked_by marks [] = refl
length-marked_by marks (x ∷ xs) = length-marked_by (set marks x true) xs ∙ length-set marks x true

marked_in : (marks : List Bool) (xs : List ℕ) (v : ℕ) → All (λ x. x < length marks) xs → IsMarkedIn (marked_by marks xs) v → IsMarkedIn marks v ⊎ Contains xs v
marked_in marks [] v w m = inl m
marked_in marks (x ∷ xs) v w m =
    ⊎_elim
    (λ a.
    ⊎_elim
    (λ e. inr (subst (λ y. Contains (x ∷ xs) y) (sym e) (Contains-here x xs)))
    (λ b. inl b)
    (marked_before marks x v (All-head (λ y. y < length marks) x xs w) a))
    (λ d. inr (Contains-there x xs v d))
    (marked_in (set marks x true) xs v (subst (λ n. All (λ y. y < n) xs) (sym (length-set marks x true)) (All-tail (λ y. y < length marks) x xs w)) m)

above_within : (table : List LinkEntry) (k : ℕ) → HasLinksWithin (length table) table → k < length table → IfSome (slice_index_or table k no_links).above (λ s. s < length table)
above_within table k within lt =
    let l : LinkEntry = slice_index_or table k no_links in
    above_is (λ s. s < length table) l.above l.interfaces (λ p h. All-contains (λ j. j < length table) (parents table k) p (within k no_links lt) h)

-- THE WAY UP from a class, as it is climbed

pub record IsClimbing (table : List LinkEntry) (class : ℕ) (list : List ℕ) (next : Option ℕ) : Type 0 where
  pub inside : All (λ v. v < length table) list
  pub next_inside : IfSome next (λ s. s < length table)
  pub ways : (v s : ℕ) → Contains list v → next ≡ Some s → IsAncestor table v s
  pub leads : (rest : List ℕ) → LeadsUp table next rest → LeadsUp table (Some class) (list ++ rest)

pub climb_start : (table : List LinkEntry) (class : ℕ) (list : List ℕ) → class < length table → list ≡ [] → IsClimbing table class list (Some class)
climb_start table class list lt none =
    subst (λ (xs : List ℕ). IsClimbing table class xs (Some class)) (sym none)
    (record {
      inside = All-nil (λ v. v < length table);
      next_inside = lt;
      ways = λ v s h e. absurd (Contains-none v h);
      leads = λ rest h. h;
    })

to_parent : (o : Option ℕ) (ys : List ℕ) (s : ℕ) → o ≡ Some s → Contains (option_to_list o ++ ys) s
to_parent None ys s e = absurd (cc)
to_parent (Some t) ys s e = (0, omega arith, cc)

module _ (table : List LinkEntry) (class k : ℕ) (list : List ℕ) (climbing : IsClimbing table class list (Some k)) where
  pub climb_inside : k < length table
  climb_inside = climbing.next_inside

  pub climb_turn : HasLinksWithin (length table) table → (list' : List ℕ) (x : LinkEntry) (next : Option ℕ) → x ≡ get_or table k x → list' ≡ list ++ k ∷ [] → next ≡ x.above → IsClimbing table class list' next
  climb_turn within list' x next is push above =
      let at : next ≡ (slice_index_or table k no_links).above = above ∙ ap (λ (l : LinkEntry). l.above) (is ∙ get_or_default table k x no_links climb_inside) in
      let up : (s : ℕ) → next ≡ Some s → IsAncestorIn table k 0 s = λ s e. to_parent (slice_index_or table k no_links).above (slice_index_or table k no_links).interfaces s (sym at ∙ e) in
      subst (λ (xs : List ℕ). IsClimbing table class xs next) (sym push)
      (record {
        inside = All-push (λ v. v < length table) list k climbing.inside climb_inside;
        next_inside = subst (λ (o : Option ℕ). IfSome o (λ s. s < length table)) (sym at) (above_within table k within climb_inside);
        ways = λ v s h e.
            ⊎_elim
            (λ d. let w = climbing.ways v k d refl in (suc w.0, (k, w.1, up s e)))
            (λ same. subst (λ u. IsAncestor table u s) same (0, up s e))
            (Contains-push_cases list k v h);
        leads = λ rest h.
            subst (λ (xs : List ℕ). LeadsUp table (Some class) xs) (sym (append_assoc list (k ∷ []) rest))
            (climbing.leads (k ∷ rest) (refl, subst (λ (o : Option ℕ). LeadsUp table o rest) at h));
      })

  pub climb_less : IsAcyclic table → (list' : List ℕ) → list' ≡ list ++ k ∷ [] → unmarked (marked_by (replicate (length table) false) list') < unmarked (marked_by (replicate (length table) false) list)
  climb_less acyclic list' push =
      let none : List Bool = replicate (length table) false in
      let marks : List Bool = marked_by none list in
      let size : length none ≡ length table = length-replicate (length table) false in
      let long : k < length marks = subst (λ n. k < n) (sym (length-marked_by none list ∙ size)) climb_inside in
      let new : is_done marks k ≡ false =
      ⊎_elim
      (λ y.
      absurd
      (⊎_elim
      (λ m. no_marks (length table) k m)
      (λ d. acyclic k climb_inside (climbing.ways k k d refl))
      (marked_in none list k (subst (λ n. All (λ y. y < n) list) (sym size) climbing.inside) y)))
      (λ n. n)
      (cases_Bool (is_done marks k)) in
      let less : unmarked (set marks k true) + 1 ≡ unmarked marks = unmarked-set marks k long new in
      let same : unmarked (marked_by none list') ≡ unmarked (set marks k true) = ap (λ (xs : List ℕ). unmarked (marked_by none xs)) push ∙ ap unmarked (marked_by-push none list k) in
      omega arith

pub climb_end : (table : List LinkEntry) (class : ℕ) (list : List ℕ) (next : Option ℕ) → IsClimbing table class list next → next ≡ None → LeadsUp table (Some class) list
climb_end table class list next climbing none = subst (λ (xs : List ℕ). LeadsUp table (Some class) xs) (append-nil list) (climbing.leads [] none)

-- PARTS OF A LIST

pub leads_at : (table : List LinkEntry) (o : Option ℕ) (xs : List ℕ) (i : ℕ) → i < length xs → LeadsUp table o xs → LeadsUp table (Some (slice_index_or xs i 0)) (drop i xs)
leads_at table o [] i lt h = absurd (omega arith)
leads_at table o (x ∷ xs) zero lt h = (refl, h.1)
leads_at table o (x ∷ xs) (suc i) lt h = leads_at table (slice_index_or table x no_links).above xs i (omega arith) h.1

leads_first : (table : List LinkEntry) (k : ℕ) (xs : List ℕ) → LeadsUp table (Some k) xs → slice_index_or xs 0 k ≡ k
leads_first table k [] h = refl
leads_first table k (x ∷ xs) h = let e : Some k ≡ Some x = h.0 in cc

pub leads_from : (table : List LinkEntry) (k : ℕ) (xs : List ℕ) → 0 < length xs → LeadsUp table (Some k) xs → slice_index_or xs 0 0 ≡ k
leads_from table k xs lt h = get_or_default xs 0 0 k lt ∙ leads_first table k xs h

leads_in : (table : List LinkEntry) (o : Option ℕ) (xs : List ℕ) → HasLinksWithin (length table) table → IfSome o (λ s. s < length table) → LeadsUp table o xs → All (λ v. v < length table) xs
leads_in table o [] within i h = All-nil (λ v. v < length table)
leads_in table o (x ∷ xs) within i h =
    let inside : x < length table = subst (λ (p : Option ℕ). IfSome p (λ s. s < length table)) h.0 i in
    All-cons (λ v. v < length table) x xs inside (leads_in table (slice_index_or table x no_links).above xs within (above_within table x within inside) h.1)

pub leads_within : (table : List LinkEntry) (k m : ℕ) (xs : List ℕ) → HasLinksWithin (length table) table → k < length table → m ≡ length table → LeadsUp table (Some k) xs → All (λ v. v < m) xs
leads_within table k m xs within lt e h = subst (λ n. All (λ v. v < n) xs) (sym e) (leads_in table (Some k) xs within lt h)

-- LISTS THAT ARE GIVEN

pub up_none : (table : List LinkEntry) (lists : List (List ℕ)) → length lists ≡ length table → ((k : ℕ) → slice_index_or lists k [] ≡ []) → AreListsUp table lists
up_none table lists size none = record { each = size; right = λ k lt. inl (none k) }

pub up_same : (table : List LinkEntry) (lists : List (List ℕ)) → AreListsUp table lists → ListsGrow table lists lists
up_same table lists are = record { lists = are; kept = λ k h. h }

pub up_there : (table : List LinkEntry) (lists : List (List ℕ)) (k : ℕ) → AreListsUp table lists → k < length table → (length (slice_index_or lists k []) ≡ 0 → ⊥) → HasListUp table lists k
up_there table lists k are lt full = ⊎_elim (λ e. absurd (full (ap length e))) (λ h. h) (are.right k lt)

up_here : (table : List LinkEntry) (lists : List (List ℕ)) (k : ℕ) (list : List ℕ) → k < length lists → LeadsUp table (Some k) list → HasListUp table (set lists k list) k
up_here table lists k list lt h = subst (λ (xs : List ℕ). LeadsUp table (Some k) xs) (sym (get_or-set_same lists k list [] lt)) h

up_other : (table : List LinkEntry) (lists : List (List ℕ)) (k j : ℕ) (list : List ℕ) → (j ≡ k → ⊥) → HasListUp table lists j → HasListUp table (set lists k list) j
up_other table lists k j list ne h = subst (λ (xs : List ℕ). LeadsUp table (Some j) xs) (sym (get_or-set_other lists k j list [] ne)) h

up_set : (table : List LinkEntry) (lists : List (List ℕ)) (k j : ℕ) (list : List ℕ) → k < length lists → LeadsUp table (Some k) list → HasListUp table lists j → HasListUp table (set lists k list) j
up_set table lists k j list lt up h =
    ⊎_elim
    (λ e. subst (λ m. HasListUp table (set lists k list) m) (sym e) (up_here table lists k list lt up))
    (λ ne. up_other table lists k j list ne h)
    (cases_eq j k)

pub up_grow : (table : List LinkEntry) (old new : List (List ℕ)) (k : ℕ) (list : List ℕ) → ListsGrow table old new → k < length new → LeadsUp table (Some k) list → ListsGrow table old (set new k list)
up_grow table old new k list g lt up = record {
  lists = record {
    each = length-set new k list ∙ g.lists.each;
    right = λ j l.
        ⊎_elim
        (λ e. inr (subst (λ m. HasListUp table (set new k list) m) (sym e) (up_here table new k list lt up)))
        (λ ne. ⊎_elim (λ none. inl (get_or-set_other new k j list [] ne ∙ none)) (λ h. inr (up_other table new k j list ne h)) (g.lists.right j l))
        (cases_eq j k);
  };
  kept = λ j h. up_set table new k j list lt up (g.kept j h);
}

-- the first class of the list has it, once it was gone over
pub up_first : (table : List LinkEntry) (new : List (List ℕ)) (class k i : ℕ) (part : List ℕ) → k < length new → LeadsUp table (Some k) part → (i ≡ 0 → k ≡ class) → (0 < i → HasListUp table new class) → HasListUp table (set new k part) class
up_first table new class k zero part lt up first later = subst (λ m. HasListUp table (set new k part) m) (first refl) (up_here table new k part lt up)
up_first table new class k (suc i) part lt up first later = up_set table new k class part lt up (later (omega arith))

-- ROWS OVER SUCH LISTS

module _ (table : List LinkEntry) (rows : List Ancestry) (IsDone : ℕ → Type 0) (making : IsMaking table rows IsDone) where
  leads_rows : (o : Option ℕ) (xs : List ℕ) → ((s : ℕ) → o ≡ Some s → IsDone s) → LeadsUp table o xs → xs ≡ supers_over rows o
  leads_rows o [] there h = sym (ap (supers_over rows) h)
  leads_rows o (x ∷ xs) there h =
      let here : IsDone x = there x h.0 in
      let l : LinkEntry = slice_index_or table x no_links in
      let over : xs ≡ supers_over rows l.above = leads_rows l.above xs (λ s e. making.above x s here (to_parent l.above l.interfaces s e)) h.1 in
      let row : (ancestry_at rows x).supers ≡ supers_over rows l.above = ap (λ (r : Ancestry). r.supers) (making.each x here) in
      ap (λ (ys : List ℕ). x ∷ ys) (over ∙ sym row) ∙ sym (ap (supers_over rows) h.0)

  leads_over : (k : ℕ) (xs : List ℕ) → ((p : ℕ) → Contains (parents table k) p → IsDone p) → LeadsUp table (Some k) xs → xs ≡ k ∷ supers_over rows (slice_index_or table k no_links).above
  leads_over k [] there h = absurd (cc)
  leads_over k (x ∷ xs) there h =
      let same : k ≡ x = let e : Some k ≡ Some x = h.0 in cc in
      let l : LinkEntry = slice_index_or table k no_links in
      let up : LeadsUp table l.above xs = subst (λ y. LeadsUp table (slice_index_or table y no_links).above xs) (sym same) h.1 in
      ap (λ (y : ℕ). y ∷ xs) (sym same) ∙ ap (λ (ys : List ℕ). k ∷ ys) (leads_rows l.above xs (λ s e. there s (to_parent l.above l.interfaces s e)) up)

-- the list of the next class of the order, by the rows of those above it
pub ordered_upward : (table : List LinkEntry) (order order' : List ℕ) (done : List Bool) (rows rows' : List Ancestry) (i : ℕ) (l : LinkEntry) (lists : List (List ℕ)) (x upward : List ℕ) → IsSorted table order done → order' ≡ order → i < length order' → IsMaking table rows (IsAmong order' i) → rows' ≡ rows
    → l ≡ get_or table (slice_index_or order' i 0) l → length lists ≡ length table → All (HasListUp table lists) order' → x ≡ get_or lists (slice_index_or order' i 0) x → upward ≡ x → upward ≡ slice_index_or order' i 0 ∷ supers_over rows' l.above
ordered_upward table order order' done rows rows' i l lists x upward sorted same lt making er el size up ex is =
    let s : IsSorted table order' done = same_sorted table order order' done same sorted in
    let k : ℕ = slice_index_or order' i 0 in
    let inside : k < length table = s.sorted.inside i lt in
    let links : l ≡ slice_index_or table k no_links = el ∙ get_or_default table k l no_links inside in
    let read : upward ≡ slice_index_or lists k [] = is ∙ (ex ∙ get_or_default lists k x [] (omega arith)) in
    let here : slice_index_or lists k [] ≡ k ∷ supers_over rows (slice_index_or table k no_links).above = leads_over table rows (IsAmong order' i) making k (slice_index_or lists k []) (λ p h. s.sorted.above i p lt h) (up i 0 lt) in
    read ∙ (here ∙ (ap (λ (y : LinkEntry). k ∷ supers_over rows y.above) (sym links) ∙ ap (λ (rs : List Ancestry). k ∷ supers_over rs l.above) (sym er)))

-- what a list leads to is above
leads_above : (table : List LinkEntry) (k v : ℕ) (o : Option ℕ) (xs : List ℕ) → ((s : ℕ) → o ≡ Some s → IsAncestor table k s) → LeadsUp table o xs → Contains xs v → IsAncestor table k v
leads_above table k v o [] way h c = absurd (Contains-none v c)
leads_above table k v o (x ∷ xs) way h c =
    let l : LinkEntry = slice_index_or table x no_links in
    let here : IsAncestor table k x = way x h.0 in
    ⊎_elim
    (λ e. subst (λ u. IsAncestor table k u) e here)
    (λ d. leads_above table k v l.above xs (λ s e. (suc here.0, (x, here.1, to_parent l.above l.interfaces s e))) h.1 d)
    (Contains-cons x xs v c)

-- .. so the next class of the order is none of its superclasses
pub ordered_new : (table : List LinkEntry) (order order' : List ℕ) (done : List Bool) (rows rows' : List Ancestry) (i : ℕ) (l : LinkEntry) (lists : List (List ℕ)) (x upward : List ℕ) → IsSorted table order done → order' ≡ order → i < length order' → IsMaking table rows (IsAmong order' i) → rows' ≡ rows
    → l ≡ get_or table (slice_index_or order' i 0) l → length lists ≡ length table → All (HasListUp table lists) order' → x ≡ get_or lists (slice_index_or order' i 0) x → upward ≡ x → IsAcyclic table → list_any (λ y. y == slice_index_or order' i 0) (supers_over rows' l.above) ≡ false
ordered_new table order order' done rows rows' i l lists x upward sorted same lt making er el size up ex is acyclic =
    let s : IsSorted table order' done = same_sorted table order order' done same sorted in
    let k : ℕ = slice_index_or order' i 0 in
    let at : LinkEntry = slice_index_or table k no_links in
    let inside : k < length table = s.sorted.inside i lt in
    let over : List ℕ = supers_over rows' l.above in
    let read : upward ≡ slice_index_or lists k [] = is ∙ (ex ∙ get_or_default lists k x [] (omega arith)) in
    let whole : slice_index_or lists k [] ≡ k ∷ over = sym read ∙ ordered_upward table order order' done rows rows' i l lists x upward sorted same lt making er el size up ex is in
    let leads : LeadsUp table (Some k) (k ∷ over) = subst (λ (xs : List ℕ). LeadsUp table (Some k) xs) whole (up i 0 lt) in
    ⊎_elim
    (λ t.
    absurd
    (acyclic k inside
    (leads_above table k k at.above over (λ p e. (0, to_parent at.above at.interfaces p e)) leads.1 (any_contains (λ y. y == k) k (λ y e. eqb-true y k e) over t))))
    (λ n. n)
    (cases_Bool (list_any (λ y. y == k) over))

first_once : (k : ℕ) (xs ys : List ℕ) → ys ≡ once (k ∷ xs) → ys ≡ k ∷ drop 1 ys
first_once k xs ys e =
    let more = added_behind (k ∷ []) xs in
    let is : ys ≡ k ∷ more.0 = e ∙ more.1 in
    is ∙ ap (λ (zs : List ℕ). k ∷ drop 1 zs) (sym is)

-- a superclass looks for a field in itself first
pub ordered_first : (table : List LinkEntry) (order order' : List ℕ) (done : List Bool) (rows rows' : List Ancestry) (i : ℕ) (l : LinkEntry) → IsSorted table order done → order' ≡ order → i < length order' → IsMaking table rows (IsAmong order' i) → rows' ≡ rows
    → l ≡ get_or table (slice_index_or order' i 0) l → IfSome l.above (λ s. (ancestry_at rows' s).field_order ≡ s ∷ drop 1 (ancestry_at rows' s).field_order)
ordered_first table order order' done rows rows' i l sorted same lt making er el =
    let s : IsSorted table order' done = same_sorted table order order' done same sorted in
    let k : ℕ = slice_index_or order' i 0 in
    let at : LinkEntry = slice_index_or table k no_links in
    let links : l ≡ at = el ∙ get_or_default table k l no_links (s.sorted.inside i lt) in
    let IsFirst : List Ancestry → ℕ → Type 0 = λ rs p. (ancestry_at rs p).field_order ≡ p ∷ drop 1 (ancestry_at rs p).field_order in
    let made : (p : ℕ) → Contains (parents table k) p → IsFirst rows p = λ p h.
    first_once p (flat_map (λ j. (ancestry_at rows j).field_order) (slice_index_or table p no_links).interfaces ++ field_order_over rows (slice_index_or table p no_links).above) (ancestry_at rows p).field_order
    (ap (λ (r : Ancestry). r.field_order) (making.each p (s.sorted.above i p lt h))) in
    subst (λ (rs : List Ancestry). IfSome l.above (IsFirst rs)) (sym er) (subst (λ (y : LinkEntry). IfSome y.above (IsFirst rows)) (sym links) (above_is (IsFirst rows) at.above at.interfaces made))
