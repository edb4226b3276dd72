-- A set of classes has no fault, or its one fault; and what is above each class is there where no class is its own
-- ancestor.
use Rattle.std.proofs.Common.{◌≡◌, ℕ, zero, suc, ◌+◌, ◌<◌, ◌≤◌, ◌⊎◌, inl, inr, Bool, true, false, List, [], ◌∷◌, ◌++◌, length, set, replicate, refl, sym, ◌∙◌, ap, subst, arith, get_or-set_same, true≢false}
use mathlib.Core.Logic.{⊎_elim}
use Rattle.std.specs.Prelude.{All}
use Rattle.std.specs.List.{slice_index_or, list_all}
use Rattle.std.specs.Str.{bytes_eq}
use Rattle.std.proofs.lemmas.Bool.{cases_Bool, cases_order}
use Rattle.std.proofs.lemmas.Slice.Eq.{bytes_eq-Decides}
use Rattle.std.proofs.lemmas.List.{length-map, length-set, length-replicate, length-append}
use Rattle.std.proofs.lemmas.List.Elements.{All-head, All-tail, All-contains}
use Rattle.et_hierarchy.specs.Outline.{Outline, outline_at}
use Rattle.et_hierarchy.specs.Links.{LinkEntry, no_links, parents, links, links_of, IsAncestor, IsAcyclic, HasLinksWithin}
use Rattle.et_hierarchy.specs.Search.{VisitsLinks, IsMarkedIn, unmarked}
use Rattle.et_hierarchy.specs.Sorting.{is_done}
use Rattle.et_hierarchy.specs.Ancestry.{Ancestry, no_ancestry, ancestry_of, IsAncestry}
use Rattle.et_hierarchy.specs.Faults.{IsRepeated, has_supers, has_final_super, Shows, IsFree, IsFirstToShow, IsLinkFault, IsFaultless}
use Rattle.et_hierarchy.specs.declared.fault.FaultKind.{FaultKind}
use Rattle.et_hierarchy.specs.declared.fault.FaultKind.TheVariants.{Duplicate, NoSuper, Cycle, FinalSuper}
use Rattle.et_hierarchy.proofs.LinkLemmas.{are_within}
use Rattle.et_hierarchy.proofs.Marks.{Searching, visits_none, visits_marked, visits_fresh, visits_join, searching_start, searching_taken, searching_end, taken_within, unmarked-set, marked_before, marked_after, no_marks}
use Rattle.et_hierarchy.proofs.Rounds.{IsMaking, making_start, making_step, making_end, not_all, all_of, all_done}
use Rattle.et_hierarchy.proofs.FaultLemmas.{fault_duplicate, fault_no_super, fault_cycle, fault_final, faultless}

-- THE FIRST NUMBER

-- none of the first n numbers is such a one, or one of them is the first
abbrev pub FirstOf : (ℕ → Type 0) → ℕ → Type 0
FirstOf P n = ((k : ℕ) → k < n → P k → ⊥) ⊎ ((k : ℕ) × (k < n) × P k × ((j : ℕ) → j < k → P j → ⊥))

pub first_of : (P : ℕ → Type 0) (n : ℕ) → ((k : ℕ) → k < n → P k ⊎ (P k → ⊥)) → FirstOf P n
first_of P zero decide = inl (λ k lt. absurd (omega arith))
first_of P (suc n) decide =
    ⊎_elim
    (λ none. ⊎_elim (λ p. inr (n, omega arith, p, none)) (λ q. inl (λ k lt. ⊎_elim (λ below. none k below) (λ e. subst (λ i. P i → ⊥) (sym e) q) (last k n lt))) (decide n (omega arith)))
    (λ (k, lt, p, first). inr (k, omega arith, p, first))
    (first_of P n (λ k lt. decide k (omega arith)))
  where
    last : (k n : ℕ) → k < suc n → (k < n) ⊎ (k ≡ n)
    last k n lt = ⊎_elim (λ e. inr e) (λ o. ⊎_elim (λ l. inl l) (λ g. absurd (omega arith)) o) (cases_order k n)

-- THE ANCESTORS OF A CLASS

visit_all : (os : List ℕ) (marks : List Bool) (work : List ℕ) → All (λ o. o < length marks) os → (ms : List Bool) × (ws : List ℕ) × VisitsLinks os marks work ms ws
visit_all [] marks work h = (marks, work, visits_none marks work)
visit_all (o ∷ os) marks work h =
    let lt : o < length marks = All-head (λ u. u < length marks) o os h in
    let left : All (λ u. u < length marks) os = All-tail (λ u. u < length marks) o os h in
    ⊎_elim
    (λ y. let r = visit_all os marks work left in (r.0, r.1, visits_join (o ∷ []) os marks marks r.0 work work r.1 (visits_marked marks work o y) r.2))
    (λ n.
    let r = visit_all os (set marks o true) (work ++ o ∷ []) (subst (λ m. All (λ u. u < m) os) (sym (length-set marks o true)) left) in
    (r.0, r.1, visits_join (o ∷ []) os marks (set marks o true) r.0 work (work ++ o ∷ []) r.1 (visits_fresh marks work o lt n) r.2))
    (cases_Bool (is_done marks o))

split_last : (x : ℕ) (xs : List ℕ) → (before : List ℕ) × (u : ℕ) × (x ∷ xs ≡ before ++ u ∷ [])
split_last x [] = ([], x, refl)
split_last x (y ∷ ys) = let r = split_last y ys in (x ∷ r.0, r.1, ap (λ l. x ∷ l) r.2)

module _ (table : List LinkEntry) (within : HasLinksWithin (length table) table) where
  search : (fuel k : ℕ) (marks : List Bool) (work : List ℕ) → Searching table k marks work → unmarked marks + length work ≤ fuel → (ms : List Bool) × Searching table k ms []
  search fuel k marks [] s few = (marks, s)
  search zero k marks (x ∷ xs) s few = absurd (omega arith)
  search (suc fuel) k marks (x ∷ xs) s few =
      let l = split_last x xs in
      let lt : l.1 < length table = taken_within table k marks (x ∷ xs) l.0 l.1 s l.2 in
      let r = visit_all (parents table l.1) marks l.0 (subst (λ m. All (λ u. u < m) (parents table l.1)) (sym s.same_length) (within l.1 no_links lt)) in
      let size = ap length l.2 in
      let more = length-append l.0 (l.1 ∷ []) in
      let weight = r.2.weight in
      search fuel k r.0 r.1 (searching_taken table k marks (x ∷ xs) l.0 l.1 (parents table l.1) r.0 r.1 s l.2 refl r.2) (omega arith)

  is_ancestor : (k : ℕ) → k < length table → IsAncestor table k k ⊎ (IsAncestor table k k → ⊥)
  is_ancestor k lt =
      let n = length table in
      let r = visit_all (parents table k) (replicate n false) [] (subst (λ m. All (λ u. u < m) (parents table k)) (sym (length-replicate n false)) (within k no_links lt)) in
      let s = search (unmarked r.0 + length r.1) k r.0 r.1 (searching_start table k n r.0 r.1 refl r.2) (omega arith) in
      let e = searching_end table k s.0 s.1 k in
      ⊎_elim (λ y. inl (e.0 y)) (λ no'. inr (λ a. true≢false (sym (e.1 a) ∙ no'))) (cases_Bool (is_done s.0 k))

  -- WHAT IS ABOVE EACH CLASS

  abbrev are_done : List Bool → ℕ → Bool
  are_done done k = list_all (is_done done) (parents table k)

  abbrev IsNext : List Bool → ℕ → Type 0
  IsNext done k = (is_done done k ≡ false) × (are_done done k ≡ true)

  is_next : (done : List Bool) (k : ℕ) → IsNext done k ⊎ (IsNext done k → ⊥)
  is_next done k =
      ⊎_elim
      (λ y. inr (λ h. true≢false (sym y ∙ h.0)))
      (λ n. ⊎_elim (λ a. inl (n, a)) (λ b. inr (λ h. true≢false (sym h.1 ∙ b))) (cases_Bool (are_done done k)))
      (cases_Bool (is_done done k))

  module _ (acyclic : IsAcyclic table) where
    make : (fuel : ℕ) (rows : List Ancestry) (done : List Bool) → length done ≡ length table → IsMaking table rows (IsMarkedIn done) → unmarked done ≤ fuel → (rs : List Ancestry) × IsAncestry table rs
    make zero rows done len making few =
        (rows, making_end table rows (IsMarkedIn done) making (λ k lt. ⊎_elim (λ y. y) (λ n. let w = unmarked-set done k (subst (λ m. k < m) (sym len) lt) n in absurd (omega arith)) (cases_Bool (is_done done k))))
    make (suc fuel) rows done len making few =
        ⊎_elim
        (λ none. (rows, making_end table rows (IsMarkedIn done) making (all_done table done within (λ k lt. ⊎_elim (λ y. inl y) (λ n. ⊎_elim (λ a. absurd (none k lt (n, a))) (λ b. inr (not_all done (parents table k) b)) (cases_Bool (are_done done k))) (cases_Bool (is_done done k))) acyclic)))
        (λ (k, lt, h, first).
        let row : Ancestry = ancestry_of (slice_index_or table k no_links) rows k in
        let inside : k < length done = subst (λ m. k < m) (sym len) lt in
        let w = unmarked-set done k inside h.0 in
        make fuel (set rows k row) (set done k true) (length-set done k true ∙ len)
        (making_step table rows (IsMarkedIn done) (IsMarkedIn (set done k true)) k row within lt making (λ c m. marked_before done k c inside m) (λ c m. marked_after done k c inside m) (get_or-set_same done k true false inside)
        (λ p here. All-contains (λ q. IsMarkedIn done q) (parents table k) p (all_of done (parents table k) h.1) here) refl)
        (omega arith))
        (first_of (IsNext done) (length table) (λ k lt. is_next done k))

    pub rows_exist : (rs : List Ancestry) × IsAncestry table rs
    rows_exist =
        let n = length table in
        make (unmarked (replicate n false)) (replicate n no_ancestry) (replicate n false) (length-replicate n false) (making_start table (replicate n no_ancestry) (IsMarkedIn (replicate n false)) (length-replicate n no_ancestry) (λ k m. no_marks n k m)) (omega arith)

-- THE FAULT OF A SET

module _ (set : List Outline) where
  is_repeated : (k : ℕ) → IsRepeated set k ⊎ (IsRepeated set k → ⊥)
  is_repeated k =
      ⊎_elim
      (λ none. inr (λ (j, lt, e). none j lt e))
      (λ (j, lt, e, first). inl (j, lt, e))
      (first_of (λ j. (outline_at set j).name ≡ (outline_at set k).name) k (λ j lt. ⊎_elim (λ y. inl ((bytes_eq-Decides (outline_at set j).name (outline_at set k).name).0 y)) (λ n. inr (λ e. true≢false (sym ((bytes_eq-Decides (outline_at set j).name (outline_at set k).name).1 e) ∙ n))) (cases_Bool (bytes_eq (outline_at set j).name (outline_at set k).name))))

  is_true : (b : Bool) → (b ≡ true) ⊎ (b ≡ true → ⊥)
  is_true b = ⊎_elim (λ y. inl y) (λ n. inr (λ y. true≢false (sym y ∙ n))) (cases_Bool b)

  is_false : (b : Bool) → (b ≡ false) ⊎ (b ≡ false → ⊥)
  is_false b = ⊎_elim (λ y. inr (λ n. true≢false (sym y ∙ n))) (λ n. inl n) (cases_Bool b)

  shows : (kind : FaultKind) (k : ℕ) → k < length set → Shows set kind k ⊎ (Shows set kind k → ⊥)
  shows Duplicate k lt = is_repeated k
  shows NoSuper k lt = is_false (has_supers set (outline_at set k))
  shows Cycle k lt =
      let size : length (links set) ≡ length set = length-map set (links_of set) in
      is_ancestor (links set) (subst (λ n. HasLinksWithin n (links set)) (sym size) (are_within set)) k (omega arith)
  shows FinalSuper k lt = is_true (has_final_super set (outline_at set k))

  first_shown : (kind : FaultKind) → IsFree set kind ⊎ ((k : ℕ) × IsFirstToShow set kind k)
  first_shown kind =
      ⊎_elim (λ none. inl none) (λ (k, lt, h, first). inr (k, record { inside = lt; shows = h; first = first })) (first_of (Shows set kind) (length set) (shows kind))

  pub set_answer : IsFaultless set ⊎ ((kind : FaultKind) × (k : ℕ) × IsLinkFault set kind k)
  set_answer =
      ⊎_elim
      (λ d. ⊎_elim
      (λ n. ⊎_elim
      (λ c. ⊎_elim (λ f. inl (faultless set d n c f)) (λ (k, h). inr (FinalSuper, k, fault_final set k d n c h)) (first_shown FinalSuper))
      (λ (k, h). inr (Cycle, k, fault_cycle set k d n h)) (first_shown Cycle))
      (λ (k, h). inr (NoSuper, k, fault_no_super set k d h)) (first_shown NoSuper))
      (λ (k, h). inr (Duplicate, k, fault_duplicate set k h)) (first_shown Duplicate)
