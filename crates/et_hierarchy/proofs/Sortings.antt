-- Classes that are put in order.
use Rattle.std.proofs.Common.{◌≡◌, ℕ, zero, suc, ◌+◌, ◌-◌, ◌<◌, ◌≤◌, ◌↔◌, ◌⊎◌, inl, inr, Bool, true, false, List, [], ◌∷◌, ◌++◌, length, drop, get_or, set, replicate, Option, None, Some, refl, sym, ◌∙◌, ap, subst, arith, get_or-set_same, get_or-set_other, true≢false}
use mathlib.Core.Logic.{⊎_elim}
use Rattle.std.specs.Prelude.{All, Contains}
use Rattle.std.specs.List.{slice_index_or}
use Rattle.std.specs.Option.{option_to_list}
use Rattle.std.proofs.lemmas.Bool.{cases_Bool, cases_eq, cases_lt}
use Rattle.std.proofs.lemmas.List.{length-set, length-append, length-replicate, get_or-replicate, get_or_append_left, get_or_push, get_or_default, get_or_past, get_or_read, drop_more, drop_all}
use Rattle.std.proofs.lemmas.List.Elements.{All-head, All-tail, Contains-get_or, Contains-append_left, Contains-push, Contains-push_cases}
use Rattle.et_base.proofs.Lists.{Contains-none, Contains-cons}
use Rattle.et_hierarchy.specs.Links.{LinkEntry, parents_of, parents, IsAncestorIn, IsAncestor, HasLinksWithin}
use Rattle.et_hierarchy.specs.Search.{IsMarkedIn}
use Rattle.et_hierarchy.specs.Sorting.{is_done, IsAmong, IsTopological, AreSortedBefore, Waits, IsGrowing, waiting_count, IsSorted}
use Rattle.et_hierarchy.proofs.Marks.{marked_after, marked_before, no_marks, read_links}
use Rattle.et_hierarchy.proofs.Rounds.{links_at}

-- THE CLASSES RIGHT ABOVE, BY NUMBER

parents_are : (l : LinkEntry) (o : Option ℕ) (ys : List ℕ) → o ≡ l.above → ys ≡ l.interfaces → option_to_list o ++ ys ≡ parents_of l
parents_are l o ys eo ey = ap (λ (p : Option ℕ). option_to_list p ++ ys) eo ∙ ap (λ (zs : List ℕ). option_to_list l.above ++ zs) ey

with_super : (l : LinkEntry) (o : Option ℕ) (s : ℕ) (ys : List ℕ) → o ≡ l.above → ys ≡ l.interfaces → o ≡ Some s → s ∷ ys ≡ parents_of l
with_super l o s ys eo ey is = ap (λ (p : Option ℕ). option_to_list p ++ ys) (sym is) ∙ parents_are l o ys eo ey

without_super : (l : LinkEntry) (o : Option ℕ) (ys : List ℕ) → o ≡ l.above → ys ≡ l.interfaces → o ≡ None → ys ≡ parents_of l
without_super l o ys eo ey is = ap (λ (p : Option ℕ). option_to_list p ++ ys) (sym is) ∙ parents_are l o ys eo ey

pub count_with : (l : LinkEntry) (o : Option ℕ) (s : ℕ) (ys : List ℕ) → o ≡ l.above → ys ≡ l.interfaces → o ≡ Some s → length ys + 1 ≡ length (parents_of l)
count_with l o s ys eo ey is =
    let e : length (s ∷ ys) ≡ length (parents_of l) = ap length (with_super l o s ys eo ey is) in
    omega arith

pub count_without : (l : LinkEntry) (o : Option ℕ) (ys : List ℕ) → o ≡ l.above → ys ≡ l.interfaces → o ≡ None → length ys ≡ length (parents_of l)
count_without l o ys eo ey is = ap length (without_super l o ys eo ey is)

pub first_parent : (l : LinkEntry) (o : Option ℕ) (s i : ℕ) (ys : List ℕ) → o ≡ l.above → ys ≡ l.interfaces → o ≡ Some s → i ≡ 0 → s ≡ slice_index_or (parents_of l) i 0
first_parent l o s i ys eo ey is first =
    subst (λ (ps : List ℕ). s ≡ slice_index_or ps i 0) (with_super l o s ys eo ey is) (subst (λ k. s ≡ slice_index_or (s ∷ ys) k 0) (sym first) refl)

next_parent : (s i : ℕ) (ys : List ℕ) → 0 < i → slice_index_or ys (i - 1) 0 ≡ slice_index_or (s ∷ ys) i 0
next_parent s zero ys pos = absurd (omega arith)
next_parent s (suc i) ys pos = let e : suc i - 1 ≡ i = omega arith in ap (λ k. slice_index_or ys k 0) e

pub later_parent : (l : LinkEntry) (o : Option ℕ) (s i : ℕ) (ys : List ℕ) → o ≡ l.above → ys ≡ l.interfaces → o ≡ Some s → (i ≡ 0 → ⊥) → slice_index_or ys (i - 1) 0 ≡ slice_index_or (parents_of l) i 0
later_parent l o s i ys eo ey is ne = subst (λ (ps : List ℕ). slice_index_or ys (i - 1) 0 ≡ slice_index_or ps i 0) (with_super l o s ys eo ey is) (next_parent s i ys (omega arith))

pub later_inside : (l : LinkEntry) (o : Option ℕ) (s i : ℕ) (ys : List ℕ) → o ≡ l.above → ys ≡ l.interfaces → o ≡ Some s → (i ≡ 0 → ⊥) → i < length (parents_of l) → i - 1 < length ys
later_inside l o s i ys eo ey is ne lt =
    let e : length (s ∷ ys) ≡ length (parents_of l) = ap length (with_super l o s ys eo ey is) in
    omega arith

pub same_parent : (l : LinkEntry) (o : Option ℕ) (i : ℕ) (ys : List ℕ) → o ≡ l.above → ys ≡ l.interfaces → o ≡ None → slice_index_or ys i 0 ≡ slice_index_or (parents_of l) i 0
same_parent l o i ys eo ey is = ap (λ (ps : List ℕ). slice_index_or ps i 0) (without_super l o ys eo ey is)

pub same_inside : (l : LinkEntry) (o : Option ℕ) (i : ℕ) (ys : List ℕ) → o ≡ l.above → ys ≡ l.interfaces → o ≡ None → i < length (parents_of l) → i < length ys
same_inside l o i ys eo ey is lt = subst (λ (ps : List ℕ). i < length ps) (sym (without_super l o ys eo ey is)) lt

-- AMONG THE FIRST OF AN ORDER

pub among_wider : (order : List ℕ) (n m p : ℕ) → n ≤ m → IsAmong order n p → IsAmong order m p
among_wider order n m p le (i, lt, e) = (i, omega arith, e)

among_more : (order : List ℕ) (c n p : ℕ) → n ≤ length order → IsAmong order n p → IsAmong (order ++ c ∷ []) n p
among_more order c n p le (i, lt, e) = (i, lt, get_or_append_left order (c ∷ []) 0 i (omega arith) ∙ e)

-- one class more is among them
pub among_cases : (order : List ℕ) (i p : ℕ) → IsAmong order (i + 1) p → (p ≡ slice_index_or order i 0) ⊎ IsAmong order i p
among_cases order i p (j, lt, e) =
    ⊎_elim
    (λ b. inr (j, b, e))
    (λ g. let same : j ≡ i = omega arith in inl (sym e ∙ ap (λ k. slice_index_or order k 0) same))
    (cases_lt j i)

-- a class is put behind the order
topological_push : (table : List LinkEntry) (order : List ℕ) (c : ℕ) → c < length table → ((p : ℕ) → Contains (parents table c) p → IsAmong order (length order) p) → IsTopological table order → IsTopological table (order ++ c ∷ [])
topological_push table order c lt here t = record {
  inside = λ i l.
      ⊎_elim
      (λ b. subst (λ k. k < length table) (sym (get_or_append_left order (c ∷ []) 0 i b)) (t.inside i b))
      (λ g. let e : length order ≡ i = omega (arith, length-append order (c ∷ [])) in subst (λ k. k < length table) (sym (get_or_push order c 0 i e)) lt)
      (cases_lt i (length order));
  above = λ i p l h.
      ⊎_elim
      (λ b. among_more order c i p (omega arith) (t.above i p b (subst (λ k. Contains (parents table k) p) (get_or_append_left order (c ∷ []) 0 i b) h)))
      (λ g.
      let e : length order ≡ i = omega (arith, length-append order (c ∷ [])) in
      subst (λ n. IsAmong (order ++ c ∷ []) n p) e (among_more order c (length order) p (omega arith) (here p (subst (λ k. Contains (parents table k) p) (get_or_push order c 0 i e) h))))
      (cases_lt i (length order));
}

marks_push : (order : List ℕ) (done : List Bool) (c : ℕ) → c < length done → ((x : ℕ) → IsMarkedIn done x ↔ IsAmong order (length order) x) → (x : ℕ) → IsMarkedIn (set done c true) x ↔ IsAmong (order ++ c ∷ []) (length (order ++ c ∷ [])) x
marks_push order done c lt m x = (
  λ h.
      ⊎_elim
      (λ e. (length order, omega (arith, length-append order (c ∷ [])), get_or_push order c 0 (length order) refl ∙ sym e))
      (λ b. among_wider (order ++ c ∷ []) (length order) (length (order ++ c ∷ [])) x (omega (arith, length-append order (c ∷ []))) (among_more order c (length order) x (omega arith) ((m x).0 b)))
      (marked_before done c x lt h),
  λ (i, l, e).
      ⊎_elim
      (λ b. marked_after done c x lt ((m x).1 (i, b, sym (get_or_append_left order (c ∷ []) 0 i b) ∙ e)))
      (λ g.
      let same : length order ≡ i = omega (arith, length-append order (c ∷ [])) in
      subst (λ v. IsMarkedIn (set done c true) v) (sym (get_or_push order c 0 i same) ∙ e) (get_or-set_same done c true false lt))
      (cases_lt i (length order)),
)

-- A CLASS IS PLACED

passed_grow : (done : List Bool) (ps : List ℕ) (n c : ℕ) → c < length done → AreSortedBefore done ps n → AreSortedBefore (set done c true) ps n
passed_grow done ps n c lt h i l inside = marked_after done c (slice_index_or ps i 0) lt (h i l inside)

passed_set : (table : List LinkEntry) (done : List Bool) (passed : List ℕ) (c n : ℕ) → c < length passed → ((x : ℕ) → AreSortedBefore done (parents table x) (slice_index_or passed x 0)) → AreSortedBefore done (parents table c) n → (x : ℕ) → AreSortedBefore done (parents table x) (slice_index_or (set passed c n) x 0)
passed_set table done passed c n lt h new x =
    ⊎_elim
    (λ e. subst (λ y. AreSortedBefore done (parents table y) (slice_index_or (set passed c n) y 0)) (sym e) (subst (λ m. AreSortedBefore done (parents table c) m) (sym (get_or-set_same passed c n 0 lt)) new))
    (λ ne. subst (λ m. AreSortedBefore done (parents table x) m) (sym (get_or-set_other passed c x n 0 ne)) (h x))
    (cases_eq x c)

hand_at : (c : ℕ) (rest : List ℕ) (x k : ℕ) → k < length (c ∷ rest) → slice_index_or (c ∷ rest) k x ≡ x → (c ≡ x) ⊎ Contains rest x
hand_at c rest x zero lt e = inl e
hand_at c rest x (suc k) lt e = inr (k, omega arith, e)

-- a longer list of those that wait for class p
waits_more : (table : List LinkEntry) (waiting : List (List ℕ)) (p : ℕ) (w : List ℕ) (x : ℕ) → p < length waiting → ((y : ℕ) → Contains (slice_index_or waiting p []) y → Contains w y) → Waits table waiting x → Waits table (set waiting p w) x
waits_more table waiting p w x lt keep (q, above, here) =
    ⊎_elim
    (λ e. (q, above, subst (λ r. Contains (slice_index_or (set waiting p w) r []) x) (sym e) (subst (λ (v : List ℕ). Contains v x) (sym (get_or-set_same waiting p w [] lt)) (keep x (subst (λ r. Contains (slice_index_or waiting r []) x) e here)))))
    (λ ne. (q, above, subst (λ (v : List ℕ). Contains v x) (sym (get_or-set_other waiting p q w [] ne)) here))
    (cases_eq q p)

-- the class waits for one right above it that isn't done
pub growing_wait : (table : List LinkEntry) (rest order : List ℕ) (done : List Bool) (passed : List ℕ) (waiting : List (List ℕ)) (next c n : ℕ) (w w' : List ℕ) (p : ℕ) → IsGrowing table (c ∷ rest) order done passed waiting next → n < length (parents table c) → slice_index_or (parents table c) n 0 ≡ p → is_done done p ≡ false
    → AreSortedBefore done (parents table c) n → p < length waiting → w ≡ get_or waiting p w → w' ≡ w ++ c ∷ [] → IsGrowing table rest order done (set passed c n) (set waiting p w') next
growing_wait table rest order done passed waiting next c n w w' p g lt is undone new inside read push =
    let lt_c : c < length table = All-head (λ k. k < length table) c rest g.in_hand in
    let old : w ≡ get_or waiting p [] = get_or_read waiting p w inside read [] in
    let pushed : w' ≡ get_or waiting p [] ++ c ∷ [] = push ∙ ap (λ (v : List ℕ). v ++ c ∷ []) old in
    let keep : (y : ℕ) → Contains (get_or waiting p []) y → Contains w' y = λ y h. subst (λ (v : List ℕ). Contains v y) (sym pushed) (Contains-append_left (get_or waiting p []) (c ∷ []) y h) in
    let above : Contains (parents table c) p = subst (λ v. Contains (parents table c) v) is (Contains-get_or (parents table c) n 0 lt) in
    let waits : Contains (get_or (set waiting p w') p []) c = subst (λ (v : List ℕ). Contains v c) (sym (get_or-set_same waiting p w' [] inside)) (subst (λ (v : List ℕ). Contains v c) (sym pushed) (Contains-push (get_or waiting p []) c)) in
    record {
      done_length = g.done_length;
      passed_length = length-set passed c n ∙ g.passed_length;
      waiting_length = length-set waiting p w' ∙ g.waiting_length;
      turn = g.turn;
      in_hand = All-tail (λ k. k < length table) c rest g.in_hand;
      sorted = g.sorted;
      marks = g.marks;
      passes = passed_set table done passed c n (omega arith) g.passes new;
      seated = λ x l.
          ⊎_elim (λ y. inl y)
          (λ s.
          ⊎_elim
          (λ h. ⊎_elim (λ e. inr (inr (subst (λ v. Waits table (set waiting p w') v) e (p, above, waits)))) (λ r. inr (inl r)) (Contains-cons c rest x h))
          (λ h. inr (inr (waits_more table waiting p w' x inside keep h)))
          s)
          (g.seated x l);
      awaited = λ q x h.
          ⊎_elim
          (λ e.
          let here : Contains w' x = subst (λ (v : List ℕ). Contains v x) (get_or-set_same waiting p w' [] inside) (subst (λ r. Contains (slice_index_or (set waiting p w') r []) x) e h) in
          ⊎_elim
          (λ b. let a = g.awaited p x b in (a.0, λ m. let r = a.1 (subst (λ v. IsMarkedIn done v) e m) in (r.0, r.1, r.2, r.3 ∙ sym e)))
          (λ s. (subst (λ v. v < length table) s lt_c, λ m. absurd (true≢false (sym m ∙ (ap (λ v. is_done done v) e ∙ undone)))))
          (Contains-push_cases (get_or waiting p []) c x (subst (λ (v : List ℕ). Contains v x) pushed here)))
          (λ ne. g.awaited q x (subst (λ (v : List ℕ). Contains v x) (get_or-set_other waiting p q w' [] ne) h))
          (cases_eq q p);
    }

-- all of those right above the class are done, and it is put behind the order
pub growing_done : (table : List LinkEntry) (rest order : List ℕ) (done : List Bool) (passed : List ℕ) (waiting : List (List ℕ)) (next c n : ℕ) → IsGrowing table (c ∷ rest) order done passed waiting next → length (parents table c) ≤ n → AreSortedBefore done (parents table c) n
    → IsGrowing table rest (order ++ c ∷ []) (set done c true) (set passed c n) waiting next
growing_done table rest order done passed waiting next c n g full new =
    let lt_c : c < length table = All-head (λ k. k < length table) c rest g.in_hand in
    let lt_d : c < length done = omega arith in
    let size : length (order ++ c ∷ []) ≡ length order + 1 = length-append order (c ∷ []) in
    let above : (p : ℕ) → Contains (parents table c) p → IsAmong order (length order) p = λ p h. let l : h.0 < length (parents table c) = h.1 in (g.marks p).0 (subst (λ v. IsMarkedIn done v) (get_or_default (parents table c) h.0 0 p l ∙ h.2) (new h.0 (omega arith) l)) in
    record {
      done_length = length-set done c true ∙ g.done_length;
      passed_length = length-set passed c n ∙ g.passed_length;
      waiting_length = g.waiting_length;
      turn = omega arith;
      in_hand = All-tail (λ k. k < length table) c rest g.in_hand;
      sorted = topological_push table order c lt_c above g.sorted;
      marks = marks_push order done c lt_d g.marks;
      passes = passed_set table (set done c true) passed c n (omega arith) (λ x. passed_grow done (parents table x) (slice_index_or passed x 0) c lt_d (g.passes x)) (passed_grow done (parents table c) n c lt_d new);
      seated = λ x l.
          ⊎_elim (λ y. inl (marked_after done c x lt_d y))
          (λ s.
          ⊎_elim
          (λ h. ⊎_elim (λ e. inl (subst (λ v. IsMarkedIn (set done c true) v) e (get_or-set_same done c true false lt_d))) (λ r. inr (inl r)) (Contains-cons c rest x h))
          (λ h. inr (inr h))
          s)
          (g.seated x l);
      awaited = λ q x h. (
        (g.awaited q x h).0,
        λ m.
            ⊎_elim
            (λ e. (length order, g.turn, omega arith, get_or_push order c 0 (length order) refl ∙ sym e))
            (λ b. let r = (g.awaited q x h).1 b in let l : r.0 < length order = r.2 in (r.0, r.1, omega arith, get_or_append_left order (c ∷ []) 0 r.0 l ∙ r.3))
            (marked_before done c q lt_d m),
      );
    }

-- what was counted holds of the classes right above class c
counted : (table : List LinkEntry) (done done' : List Bool) (passed : List ℕ) (c from n : ℕ) (x : LinkEntry) → c < length table → c < length passed → x ≡ get_or table c x → done' ≡ done → from ≡ get_or passed c from
    → (AreSortedBefore done' (parents_of x) from → AreSortedBefore done' (parents_of x) n) → AreSortedBefore done (parents table c) (slice_index_or passed c 0) → AreSortedBefore done (parents table c) n
counted table done done' passed c from n x lt lt_p is ed read step h =
    let P : parents table c ≡ parents_of x = read_links table c x lt is in
    let known : slice_index_or passed c 0 ≡ from = sym (read ∙ get_or_default passed c from 0 lt_p) in
    let before : AreSortedBefore done (parents_of x) from = subst (λ (ps : List ℕ). AreSortedBefore done ps from) P (subst (λ m. AreSortedBefore done (parents table c) m) known h) in
    subst (λ (ps : List ℕ). AreSortedBefore done ps n) (sym P) (subst (λ (d : List Bool). AreSortedBefore d (parents_of x) n) ed (step (subst (λ (d : List Bool). AreSortedBefore d (parents_of x) from) (sym ed) before)))

-- the class for which another one waits
pub parent_within : (table : List LinkEntry) (c n size count p : ℕ) (x : LinkEntry) → HasLinksWithin (length table) table → c < length table → x ≡ get_or table c x → size ≡ length table → count ≡ length (parents_of x) → n < count → p ≡ slice_index_or (parents_of x) n 0 → p < size
parent_within table c n size count p x within lt is same ec few ep =
    let l : n < length (parents_of x) = omega arith in
    subst (λ v. v < size) (sym ep) (links_at table c size x within lt is same n 0 l)

pub place_waits : (table : List LinkEntry) (rest order : List ℕ) (done done' : List Bool) (passed : List ℕ) (waiting : List (List ℕ)) (next c from n count p : ℕ) (x : LinkEntry) (w w' : List ℕ) → HasLinksWithin (length table) table → c < length table → x ≡ get_or table c x → done' ≡ done → from ≡ get_or passed c from
    → (AreSortedBefore done' (parents_of x) from → AreSortedBefore done' (parents_of x) n) → (n < length (parents_of x) → is_done done' (slice_index_or (parents_of x) n 0) ≡ false) → count ≡ length (parents_of x) → n < count → p ≡ slice_index_or (parents_of x) n 0 → w ≡ get_or waiting p w → w' ≡ w ++ c ∷ []
    → IsGrowing table (c ∷ rest) order done passed waiting next → IsGrowing table rest order done (set passed c n) (set waiting p w') next
place_waits table rest order done done' passed waiting next c from n count p x w w' within lt is ed read step open_yet ec few ep old push g =
    let P : parents table c ≡ parents_of x = read_links table c x lt is in
    let l : n < length (parents_of x) = omega arith in
    let undone : is_done done p ≡ false = subst (λ v. is_done done v ≡ false) (sym ep) (subst (λ (d : List Bool). is_done d (slice_index_or (parents_of x) n 0) ≡ false) ed (open_yet l)) in
    growing_wait table rest order done passed waiting next c n w w' p g (subst (λ (ps : List ℕ). n < length ps) (sym P) l) (ap (λ (ps : List ℕ). slice_index_or ps n 0) P ∙ sym ep) undone
    (counted table done done' passed c from n x lt (omega arith) is ed read step (g.passes c)) (parent_within table c n (length waiting) count p x within lt is g.waiting_length ec few ep) old push

pub place_done : (table : List LinkEntry) (rest order order' : List ℕ) (done done' : List Bool) (passed : List ℕ) (waiting : List (List ℕ)) (next c from n count : ℕ) (x : LinkEntry) → c < length table → x ≡ get_or table c x → done' ≡ done → from ≡ get_or passed c from
    → (AreSortedBefore done' (parents_of x) from → AreSortedBefore done' (parents_of x) n) → count ≡ length (parents_of x) → count ≤ n → order' ≡ order ++ c ∷ [] → IsGrowing table (c ∷ rest) order done passed waiting next → IsGrowing table rest order' (set done c true) (set passed c n) waiting next
place_done table rest order order' done done' passed waiting next c from n count x lt is ed read step ec all push g =
    let P : parents table c ≡ parents_of x = read_links table c x lt is in
    let l : length (parents_of x) ≤ n = omega arith in
    subst (λ (o : List ℕ). IsGrowing table rest o (set done c true) (set passed c n) waiting next) (sym push)
    (growing_done table rest order done passed waiting next c n g (subst (λ (ps : List ℕ). length ps ≤ n) (sym P) l) (counted table done done' passed c from n x lt (omega arith) is ed read step (g.passes c)))

-- A TURN, THE START AND THE END

turned : (table : List LinkEntry) (order : List ℕ) (done : List Bool) (passed : List ℕ) (waiting : List (List ℕ)) (next u : ℕ) (w : List ℕ) → IsGrowing table [] order done passed waiting next → next < length order → slice_index_or order next 0 ≡ u → u < length waiting → w ≡ get_or waiting u []
    → IsGrowing table w order done passed (set waiting u []) (next + 1)
turned table order done passed waiting next u w g more is inside old = record {
  done_length = g.done_length;
  passed_length = g.passed_length;
  waiting_length = length-set waiting u [] ∙ g.waiting_length;
  turn = omega arith;
  in_hand = λ k d l. (g.awaited u (slice_index_or w k d) (subst (λ (v : List ℕ). Contains v (slice_index_or w k d)) old (Contains-get_or w k d l))).0;
  sorted = g.sorted;
  marks = g.marks;
  passes = g.passes;
  seated = λ x l.
      ⊎_elim (λ y. inl y)
      (λ s.
      ⊎_elim (λ h. absurd (Contains-none x h))
      (λ h.
      ⊎_elim
      (λ e. inr (inl (subst (λ (v : List ℕ). Contains v x) (sym old) (subst (λ r. Contains (slice_index_or waiting r []) x) e h.2))))
      (λ ne. inr (inr (h.0, h.1, subst (λ (v : List ℕ). Contains v x) (sym (get_or-set_other waiting u h.0 [] [] ne)) h.2)))
      (cases_eq h.0 u))
      s)
      (g.seated x l);
  awaited = λ q x h.
      ⊎_elim
      (λ e. absurd (Contains-none x (subst (λ (v : List ℕ). Contains v x) (get_or-set_same waiting u [] [] inside) (subst (λ r. Contains (slice_index_or (set waiting u []) r []) x) e h))))
      (λ ne.
      let a = g.awaited q x (subst (λ (v : List ℕ). Contains v x) (get_or-set_other waiting u q [] [] ne) h) in
      (a.0, λ m. let r = a.1 m in (r.0, after r.0 q r.1 ne r.3, r.2, r.3)))
      (cases_eq q u);
}
  where
    after : (i q : ℕ) → next ≤ i → (q ≡ u → ⊥) → slice_index_or order i 0 ≡ q → next + 1 ≤ i
    after i q le ne e =
        ⊎_elim (λ b. omega arith)
        (λ b. let same : i ≡ next = omega arith in absurd (ne (sym e ∙ (ap (λ k. slice_index_or order k 0) same ∙ is))))
        (cases_lt next i)

-- the next class of the order is one of the set
pub turn_inside : (table : List LinkEntry) (order : List ℕ) (done : List Bool) (passed : List ℕ) (waiting : List (List ℕ)) (next u : ℕ) → IsGrowing table [] order done passed waiting next → next < length order → u ≡ get_or order next u → u < length waiting
turn_inside table order done passed waiting next u g more is =
    let inside : slice_index_or order next 0 < length table = g.sorted.inside next more in
    let same : u ≡ slice_index_or order next 0 = is ∙ get_or_default order next u 0 more in
    omega (arith, g.waiting_length)

-- it has its turn: those that waited for it are in hand
pub growing_turn : (table : List LinkEntry) (order : List ℕ) (done : List Bool) (passed : List ℕ) (waiting : List (List ℕ)) (next u : ℕ) (w freed none : List ℕ) → IsGrowing table [] order done passed waiting next → next < length order → u ≡ get_or order next u → w ≡ get_or waiting u w → freed ≡ w → none ≡ []
    → IsGrowing table freed order done passed (set waiting u none) (next + 1)
growing_turn table order done passed waiting next u w freed none g more is read same empty =
    let inside : u < length waiting = turn_inside table order done passed waiting next u g more is in
    subst (λ (v : List ℕ). IsGrowing table freed order done passed (set waiting u v) (next + 1)) (sym empty)
    (turned table order done passed waiting next u freed g more (sym (is ∙ get_or_default order next u 0 more)) inside (same ∙ get_or_read waiting u w inside read []))

get_zero : (n c : ℕ) → slice_index_or (replicate n zero) c zero ≡ zero
get_zero n c =
    ⊎_elim (λ l. get_or-replicate n c zero zero l) (λ g. get_or_past (replicate n zero) c zero (subst (λ m. m ≤ c) (sym (length-replicate n zero)) g)) (cases_lt c n)

started : (table : List LinkEntry) (hand order : List ℕ) (done : List Bool) (passed : List ℕ) (waiting : List (List ℕ)) (next n : ℕ) → n ≡ length table → All (λ c. c < n) hand → ((c : ℕ) → c < n → Contains hand c) → order ≡ [] → done ≡ replicate n false → passed ≡ replicate n 0 → length waiting ≡ n
    → ((k : ℕ) → slice_index_or waiting k [] ≡ []) → next ≡ 0 → IsGrowing table hand order done passed waiting next
started table hand order done passed waiting next n size within all eo ed ep lw lists en =
    let empty : length order ≡ 0 = ap length eo in
    record {
      done_length = ap length ed ∙ (length-replicate n false ∙ size);
      passed_length = ap length ep ∙ (length-replicate n zero ∙ size);
      waiting_length = lw ∙ size;
      turn = omega arith;
      in_hand = subst (λ m. All (λ c. c < m) hand) size within;
      sorted = record { inside = λ i l. absurd (omega arith); above = λ i p l h. absurd (omega arith) };
      marks = λ c. (λ m. absurd (no_marks n c (subst (λ (ms : List Bool). IsMarkedIn ms c) ed m)), λ (i, l, e). absurd (omega arith));
      passes = λ c i l inside. let few : i < slice_index_or (replicate n zero) c zero = subst (λ (ps : List ℕ). i < slice_index_or ps c 0) ep l in absurd (omega (arith, get_zero n c));
      seated = λ c l. inr (inl (all c (subst (λ m. c < m) (sym size) l)));
      awaited = λ p c h. absurd (Contains-none c (subst (λ (v : List ℕ). Contains v c) (lists p) h));
    }

pub growing_start : (table : List LinkEntry) (hand all order : List ℕ) (done : List Bool) (passed : List ℕ) (waiting : List (List ℕ)) (next : ℕ) → hand ≡ all → All (λ c. c < length table) all → ((c : ℕ) → c < length table → Contains all c) → order ≡ [] → done ≡ replicate (length table) false → passed ≡ replicate (length table) 0
    → length waiting ≡ length table → ((k : ℕ) → slice_index_or waiting k [] ≡ []) → next ≡ 0 → IsGrowing table hand order done passed waiting next
growing_start table hand all order done passed waiting next same within each eo ed ep lw lists en =
    subst (λ (h : List ℕ). IsGrowing table h order done passed waiting next) (sym same) (started table all order done passed waiting next (length table) refl within each eo ed ep lw lists en)

-- the first of those in hand
pub hand_next : (table : List LinkEntry) (hand order : List ℕ) (done : List Bool) (passed : List ℕ) (waiting : List (List ℕ)) (next i : ℕ) → i < length hand → IsGrowing table (drop i hand) order done passed waiting next → IsGrowing table (get_or hand i 0 ∷ drop (i + 1) hand) order done passed waiting next
hand_next table hand order done passed waiting next i lt g = subst (λ (h : List ℕ). IsGrowing table h order done passed waiting next) (drop_more hand i 0 lt) g

pub hand_inside : (table : List LinkEntry) (hand order : List ℕ) (done : List Bool) (passed : List ℕ) (waiting : List (List ℕ)) (next i : ℕ) → i < length hand → IsGrowing table (drop i hand) order done passed waiting next → get_or hand i 0 < length table
hand_inside table hand order done passed waiting next i lt g =
    let h = hand_next table hand order done passed waiting next i lt g in
    All-head (λ k. k < length table) (get_or hand i 0) (drop (i + 1) hand) h.in_hand

pub hand_over : (table : List LinkEntry) (hand order : List ℕ) (done : List Bool) (passed : List ℕ) (waiting : List (List ℕ)) (next i : ℕ) → length hand ≤ i → IsGrowing table (drop i hand) order done passed waiting next → IsGrowing table [] order done passed waiting next
hand_over table hand order done passed waiting next i le g = subst (λ (h : List ℕ). IsGrowing table h order done passed waiting next) (drop_all i hand le) g

pub growing_end : (table : List LinkEntry) (order : List ℕ) (done : List Bool) (passed : List ℕ) (waiting : List (List ℕ)) (next : ℕ) → IsGrowing table [] order done passed waiting next → length order ≤ next → IsSorted table order done
growing_end table order done passed waiting next g over = record {
  done_length = g.done_length;
  sorted = g.sorted;
  marks = g.marks;
  full = λ c l.
      ⊎_elim (λ y. inl y)
      (λ s.
      ⊎_elim (λ h. absurd (Contains-none c h))
      (λ h.
      inr (
        h.0,
        h.1,
        ⊎_elim
            (λ m. let r = (g.awaited h.0 c h.2).1 m in let a : next ≤ r.0 = r.1 in let b : r.0 < length order = r.2 in absurd (omega arith))
            (λ n. n)
            (cases_Bool (is_done done h.0)),
      ))
      s)
      (g.seated c l);
}

-- HOW MANY WAIT

waiting_count-set : (ws : List (List ℕ)) (p : ℕ) (v : List ℕ) → p < length ws → waiting_count (set ws p v) + length (get_or ws p []) ≡ waiting_count ws + length v
waiting_count-set [] p v lt = absurd (omega arith)
waiting_count-set (w ∷ ws) zero v lt = omega arith
waiting_count-set (w ∷ ws) (suc p) v lt = omega (arith, waiting_count-set ws p v (omega arith))

pub count_wait : (ws : List (List ℕ)) (p c n : ℕ) (w w' : List ℕ) → p < length ws → w ≡ get_or ws p w → w' ≡ w ++ c ∷ [] → waiting_count (set ws p w') + n ≡ waiting_count ws + n + 1
count_wait ws p c n w w' lt read push =
    let more = waiting_count-set ws p w' lt in
    let longer : length w' ≡ length w + 1 = ap length push ∙ length-append w (c ∷ []) in
    let old : length w ≡ length (get_or ws p []) = ap length (get_or_read ws p w lt read []) in
    omega arith

pub count_done : (k c : ℕ) (order order' : List ℕ) → order' ≡ order ++ c ∷ [] → k + length order' ≡ k + length order + 1
count_done k c order order' push =
    let longer : length order' ≡ length order + 1 = ap length push ∙ length-append order (c ∷ []) in
    omega arith

pub count_turn : (ws : List (List ℕ)) (u n p : ℕ) (w freed none : List ℕ) → u < length ws → w ≡ get_or ws u w → freed ≡ w → none ≡ [] → p ≡ waiting_count (set ws u none) + n + length freed → p ≡ waiting_count ws + n
count_turn ws u n p w freed none lt read same empty sum =
    let less = waiting_count-set ws u none lt in
    let nothing : length none ≡ 0 = ap length empty in
    let old : length freed ≡ length (get_or ws u []) = ap length (same ∙ get_or_read ws u w lt read []) in
    omega arith

-- NO CLASS OF AN ORDER IS ITS OWN ANCESTOR

module _ (table : List LinkEntry) (order : List ℕ) (t : IsTopological table order) where
  -- what is above a class of the order stands before it
  ancestor_among : (i : ℕ) → i < length order → (n a : ℕ) → IsAncestorIn table (slice_index_or order i 0) n a → IsAmong order i a
  ancestor_among i lt zero a h = t.above i a lt h
  ancestor_among i lt (suc n) a h =
      let r = ancestor_among i lt n h.0 h.1 in
      let l : r.0 < i = r.1 in
      among_wider order r.0 i a (omega arith) (t.above r.0 a (omega arith) (subst (λ v. Contains (parents table v) a) (sym r.2) h.2))

  not_at : (fuel i : ℕ) → i < fuel → i < length order → IsAncestor table (slice_index_or order i 0) (slice_index_or order i 0) → ⊥
  not_at zero i l lt h = omega arith
  not_at (suc fuel) i l lt h =
      let r = ancestor_among i lt h.0 (slice_index_or order i 0) h.1 in
      let less : r.0 < i = r.1 in
      not_at fuel r.0 (omega arith) (omega arith) (subst (λ v. IsAncestor table v v) (sym r.2) h)

  pub not_on_cycle : (k : ℕ) → IsAmong order (length order) k → IsAncestor table k k → ⊥
  not_on_cycle k (i, l, e) h = not_at (length order) i l l (subst (λ v. IsAncestor table v v) (sym e) h)

-- a class that was seen to be done
pub done_free : (table : List LinkEntry) (order : List ℕ) (done : List Bool) (k : ℕ) → IsSorted table order done → is_done done k ≡ true → IsAncestor table k k → ⊥
done_free table order done k s y h = not_on_cycle table order s.sorted k ((s.marks k).0 y) h

-- ALL CLASSES BY NUMBER

pub number_more : (all all' : List ℕ) (n : ℕ) → length all ≡ n → ((c : ℕ) → c < n → slice_index_or all c 0 ≡ c) → all' ≡ all ++ n ∷ [] → (c : ℕ) → c < n + 1 → slice_index_or all' c 0 ≡ c
number_more all all' n size h e c lt =
    subst (λ (l : List ℕ). slice_index_or l c 0 ≡ c) (sym e)
    (⊎_elim
    (λ b. get_or_append_left all (n ∷ []) 0 c (omega arith) ∙ h c b)
    (λ g. let same : n ≡ c = omega arith in get_or_push all n 0 c (size ∙ same) ∙ same)
    (cases_lt c n))

pub numbers_within : (all : List ℕ) (n count : ℕ) → length all ≡ n → n ≤ count → ((c : ℕ) → c < n → slice_index_or all c 0 ≡ c) → All (λ c. c < count) all
numbers_within all n count size few h k d l =
    let e : slice_index_or all k d ≡ k = get_or_default all k d 0 l ∙ h k (omega arith) in
    subst (λ v. v < count) (sym e) (omega arith)

pub numbers_all : (all : List ℕ) (n count : ℕ) → length all ≡ n → count ≤ n → ((c : ℕ) → c < n → slice_index_or all c 0 ≡ c) → (c : ℕ) → c < count → Contains all c
numbers_all all n count size many h c lt = (c, omega arith, get_or_default all c c 0 (omega arith) ∙ h c (omega arith))
