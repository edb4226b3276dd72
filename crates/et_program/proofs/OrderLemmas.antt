-- What is looked for in a table stands at its place in the order, or nowhere.
use Rattle.std.proofs.Common.{◌≡◌, ℕ, zero, suc, ◌+◌, ◌-◌, ◌<◌, ◌≤◌, Bool, true, false, cond, ◌==◌, ◌&&◌, ◌||◌, nat_lt, ⊎_elim, List, [], ◌∷◌, ◌++◌, length, map, get_or, take, drop, Option, None, Some, All, refl, sym, ◌∙◌, ap, subst, arith, true≢false, Ordering, Less, Equal, Greater, nat_cmp, is_lt, is_eq}
use Rattle.std.specs.List.{position_from, position_or_len, list_any}
use Rattle.std.specs.List.Sorted.{IsPartitionedBy, IsPartitionPoint, IsPermutation, IsSortedBy}
use Rattle.std.specs.Ordering.{ordering_then, ordering_reverse}
use Rattle.std.specs.Cmp.{IsTotalOrder, IsStrictWeakOrder}
use Rattle.std.specs.Cmp.Lexicographic.{slice_cmp}
use Rattle.std.specs.Str.{bytes_eq}
use Rattle.std.proofs.lemmas.Bool.{cases_Bool, cases_lt, cond-true, cond-false, and_parts, or_right, eqb-true, eq-eqb, ltb-true, lt-ltb, le-ltb, false_from_ne_true, true_from_ne_false}
use Rattle.std.proofs.lemmas.Cmp.{nat_cmp_total, nat_list_cmp_total, nat_list_eq_equiv, on_total, then_total, tied_itself}
use Rattle.std.proofs.lemmas.List.{get_or_default, get_or-take, get_or-drop, get_or_append_left, get_or_push, length_push, length-take-le, length-drop}
use Rattle.std.proofs.lemmas.List.Elements.{All-from_get_or}
use Rattle.std.proofs.lemmas.List.Sorted.{ranks_by, sorted_far, All-permutation, list_any-IsPermutation}
use Rattle.std.proofs.lemmas.List.Sums.{prefix_len_is, prefix_len_passes, prefix_len_stops, prefix_len-le-length, position_or_len_is}
use Rattle.std.proofs.lemmas.Iterator.Adapters.{position_from-zero}
use Rattle.std.proofs.lemmas.Map.Text.{is_eq-slice_cmp}
use Rattle.std.proofs.lemmas.Slice.Eq.{bytes_eq-Decides}
use Rattle.et_base.proofs.Tests.{eq_then}
use Rattle.et_program.specs.declared.info.MethodInfo.{MethodInfo}
use Rattle.et_program.specs.Entries.{ClassEntry}
use Rattle.et_program.specs.Members.{is_method}
use Rattle.et_program.specs.Order.{KeyOf, key_cmp, is_key, class_key, method_key, key_at, entry_cmp, IsOrder, is_before, place_of}

-- TWO KEYS

pub key_total : IsTotalOrder key_cmp
key_total = then_total (then_total (on_total (λ (x : KeyOf). x.0) nat_list_cmp_total) (on_total (λ (x : KeyOf). x.1) nat_list_cmp_total)) (on_total (λ (x : KeyOf). x.2) nat_cmp_total)

key_weak : IsStrictWeakOrder (λ (x y : KeyOf). is_lt (key_cmp x y))
key_weak = ranks_by key_total (λ (x : KeyOf). x)

pub entry_weak : (keys : List KeyOf) → IsStrictWeakOrder (λ (e f : ℕ × ℕ). is_lt (entry_cmp keys e f))
entry_weak keys = ranks_by (then_total (on_total (λ (e : ℕ × ℕ). key_at keys e.1) key_total) (on_total (λ (e : ℕ × ℕ). e.1) nat_cmp_total)) (λ (e : ℕ × ℕ). e)

and_turned : (a b : Bool) → (a && b) ≡ (b && a)
and_turned true true = refl
and_turned true false = refl
and_turned false true = refl
and_turned false false = refl

eq_test : (a b : ℕ) (s t : Bool) → nat_lt a b ≡ s → (a == b) ≡ t → is_eq (cond s Less (cond t Equal Greater)) ≡ t
eq_test a b true true h k = let lt : a < b = ltb-true a b h in let e : a ≡ b = eqb-true a b k in absurd (omega arith)
eq_test a b true false h k = refl
eq_test a b false true h k = refl
eq_test a b false false h k = refl

eq_numbers : (a b : ℕ) → is_eq (nat_cmp a b) ≡ (a == b)
eq_numbers a b = eq_test a b (nat_lt a b) (a == b) refl refl

lt_test : (s t : Bool) → is_lt (cond s Less (cond t Equal Greater)) ≡ s
lt_test true t = refl
lt_test false true = refl
lt_test false false = refl

lt_numbers : (a b : ℕ) → is_lt (nat_cmp a b) ≡ nat_lt a b
lt_numbers a b = lt_test (nat_lt a b) (a == b)

pub eq_keys : (x q : KeyOf) → is_eq (key_cmp x q) ≡ is_key q x
eq_keys x q =
    eq_then (ordering_then (slice_cmp nat_cmp x.0 q.0) (slice_cmp nat_cmp x.1 q.1)) (nat_cmp x.2 q.2)
    ∙ (ap (λ b. b && is_eq (nat_cmp x.2 q.2)) (eq_then (slice_cmp nat_cmp x.0 q.0) (slice_cmp nat_cmp x.1 q.1))
    ∙ (ap (λ b. (b && is_eq (slice_cmp nat_cmp x.1 q.1)) && is_eq (nat_cmp x.2 q.2)) (is_eq-slice_cmp x.0 q.0)
    ∙ (ap (λ b. (bytes_eq x.0 q.0 && b) && is_eq (nat_cmp x.2 q.2)) (is_eq-slice_cmp x.1 q.1)
    ∙ (ap (λ b. (bytes_eq x.0 q.0 && bytes_eq x.1 q.1) && b) (eq_numbers x.2 q.2)
    ∙ and_turned (bytes_eq x.0 q.0 && bytes_eq x.1 q.1) (x.2 == q.2)))))

same_key : (q x : KeyOf) → is_key q x ≡ true → x ≡ q
same_key q x h =
    let a = and_parts (x.2 == q.2) (bytes_eq x.0 q.0 && bytes_eq x.1 q.1) h in
    let b = and_parts (bytes_eq x.0 q.0) (bytes_eq x.1 q.1) a.1 in
    ap (λ (n : List ℕ). (n, x.1, x.2)) ((bytes_eq-Decides x.0 q.0).0 b.0)
    ∙ (ap (λ (d : List ℕ). (q.0, d, x.2)) ((bytes_eq-Decides x.1 q.1).0 b.1)
    ∙ ap (λ (c : ℕ). (q.0, q.1, c)) (eqb-true x.2 q.2 a.0))

not_below_itself : (q : KeyOf) → is_lt (key_cmp q q) ≡ false
not_below_itself q = ap is_lt (tied_itself key_total q)

neither : (r : Ordering) → is_lt r ≡ false → is_lt (ordering_reverse r) ≡ false → is_eq r ≡ true
neither Less h k = absurd (true≢false h)
neither Equal h k = refl
neither Greater h k = absurd (true≢false k)

-- of two keys neither of which is below the other
level : (q x : KeyOf) → is_lt (key_cmp x q) ≡ false → is_lt (key_cmp q x) ≡ false → is_key q x ≡ true
level q x h k = sym (eq_keys x q) ∙ neither (key_cmp x q) h (ap is_lt (sym (key_total.antisymm q x)) ∙ k)

-- THE FIRST PLACE THAT PASSES

first_at : {X : Type 0} (t : X → Bool) (xs : List X) (n : ℕ) (d : X) → n < length xs → t (get_or xs n d) ≡ true → ((j : ℕ) → j < n → t (get_or xs j d) ≡ false) → position_from t 0 xs ≡ Some n
first_at t xs n d lt passes fails =
    let is : position_or_len t xs ≡ n = position_or_len_is t xs n d (omega arith) fails (λ l. passes) in
    sym (position_from-zero t xs) ∙ (ap (λ k. cond (nat_lt k (length xs)) (Some k) None) is ∙ cond-true (nat_lt n (length xs)) (Some n) None (lt-ltb n (length xs) lt))

first_nowhere : {X : Type 0} (t : X → Bool) (xs : List X) (d : X) → ((j : ℕ) → j < length xs → t (get_or xs j d) ≡ false) → position_from t 0 xs ≡ None
first_nowhere t xs d fails =
    let n = length xs in
    let is : position_or_len t xs ≡ n = position_or_len_is t xs n d (omega arith) fails (λ l. absurd (omega arith)) in
    sym (position_from-zero t xs) ∙ (ap (λ k. cond (nat_lt k n) (Some k) None) is ∙ cond-false (nat_lt n n) (Some n) None (le-ltb n n (omega arith)))

any_at : {X : Type 0} (t : X → Bool) (xs : List X) (d : X) → list_any t xs ≡ true → (i : ℕ) × (i < length xs) × (t (get_or xs i d) ≡ true)
any_at t [] d h = absurd (true≢false (sym h))
any_at t (x ∷ xs) d h =
    ⊎_elim
    (λ e. (0, omega arith, e))
    (λ e.
    let r = any_at t xs d (sym (ap (λ b. b || list_any t xs) e) ∙ h) in
    let lt : r.0 < length xs = r.1 in
    (suc r.0, omega arith, r.2))
    (cases_Bool (t x))

-- THE ORDER

then_not_lt : (r s : Ordering) → is_lt (ordering_then r s) ≡ false → is_lt r ≡ false
then_not_lt Less s h = h
then_not_lt Equal s h = refl
then_not_lt Greater s h = refl

numbers_then : (r s : Ordering) → r ≡ Equal → ordering_then r s ≡ s
numbers_then r s e = ap (λ o. ordering_then o s) e

-- a key between two of one name and descriptor has these
squeezed : (r s t : Ordering) → is_lt (ordering_then r s) ≡ false → is_lt (ordering_then r t) ≡ true → r ≡ Equal
squeezed Less s t h k = absurd (true≢false h)
squeezed Equal s t h k = refl
squeezed Greater s t h k = absurd (true≢false (sym k))

texts_cmp : KeyOf → List ℕ → List ℕ → Ordering
texts_cmp x n d = ordering_then (slice_cmp nat_cmp x.0 n) (slice_cmp nat_cmp x.1 d)

texts_level : (n d : List ℕ) → ordering_then (slice_cmp nat_cmp n n) (slice_cmp nat_cmp d d) ≡ Equal
texts_level n d = ap (λ r. ordering_then r (slice_cmp nat_cmp d d)) (tied_itself nat_list_cmp_total n) ∙ tied_itself nat_list_cmp_total d

module _ (keys : List KeyOf) (entries : List (ℕ × ℕ)) (order : IsOrder keys entries) where
  far : (i j : ℕ) (d : ℕ × ℕ) → i ≤ j → j < length entries → is_lt (entry_cmp keys (get_or entries j d) (get_or entries i d)) ≡ false
  far i j d le lt = sorted_far _ (entry_weak keys) entries order.sorted i j d le lt

  pub falls_once : (q : KeyOf) → IsPartitionedBy (is_before keys q) entries
  falls_once q i j d le lt h =
      let x : KeyOf = key_at keys (get_or entries i d).1 in
      let y : KeyOf = key_at keys (get_or entries j d).1 in
      true_from_ne_false (is_lt (key_cmp x q)) (λ f. true≢false (sym h ∙ key_weak.chain y x q (then_not_lt (key_cmp y x) _ (far i j d le lt)) f))

  -- where a search by halves ends
  pub place_is : (q : KeyOf) (k : ℕ) → k ≤ length entries → IsPartitionPoint (λ e. is_before keys q e ≡ true) (λ e. is_before keys q e ≡ false) entries k → k ≡ place_of keys entries q
  place_is q k le point =
      sym (prefix_len_is (is_before keys q) entries k (0, 0) le (λ i lt. point.0 i (0, 0) (omega arith) lt) (λ lt. point.1 k (0, 0) (omega arith) lt))

  below_place : (q : KeyOf) (i : ℕ) → i < place_of keys entries q → is_before keys q (get_or entries i (0, 0)) ≡ true
  below_place q i lt = prefix_len_passes (is_before keys q) entries i (0, 0) lt

  from_place : (q : KeyOf) (i : ℕ) → place_of keys entries q ≤ i → i < length entries → is_before keys q (get_or entries i (0, 0)) ≡ false
  from_place q i le lt =
      let k : ℕ = place_of keys entries q in
      let stop : is_before keys q (get_or entries k (0, 0)) ≡ false = prefix_len_stops (is_before keys q) entries (0, 0) (omega arith) in
      false_from_ne_true (is_before keys q (get_or entries i (0, 0))) (λ t. true≢false (sym (falls_once q k i (0, 0) le lt t) ∙ stop))

  -- an element with a key stands at the place of the key or behind it
  stands : (q : KeyOf) (n : ℕ) → n < length keys → is_key q (key_at keys n) ≡ true → (i : ℕ) × (place_of keys entries q ≤ i) × (i < length entries) × ((get_or entries i (0, 0)).1 ≡ n)
  stands q n lt has =
      let r = any_at (λ (e : ℕ × ℕ). e.1 == n) entries (0, 0) (order.whole n lt) in
      let i : ℕ = r.0 in
      let number : (get_or entries i (0, 0)).1 ≡ n = eqb-true _ n r.2 in
      let key : key_at keys (get_or entries i (0, 0)).1 ≡ q = ap (key_at keys) number ∙ same_key q (key_at keys n) has in
      let level' : is_before keys q (get_or entries i (0, 0)) ≡ false = ap (λ x. is_lt (key_cmp x q)) key ∙ not_below_itself q in
      let behind : place_of keys entries q ≤ i =
      ⊎_elim (λ (l : i < place_of keys entries q). absurd (true≢false (sym (below_place q i l) ∙ level'))) (λ l. l) (cases_lt i (place_of keys entries q)) in
      (i, behind, r.1, number)

  -- the entry at the place has the key: it is the first
  pub found_here : (q : KeyOf) (k : ℕ) (e : ℕ × ℕ) → k ≡ place_of keys entries q → k < length entries → e ≡ get_or entries k (0, 0) → is_key q (key_at keys e.1) ≡ true → position_from (is_key q) 0 keys ≡ Some e.1
  found_here q k e at lt is has =
      let within : e.1 < length keys = subst (λ (f : ℕ × ℕ). f.1 < length keys) (sym is) (order.within k (0, 0) lt).0 in
      first_at (is_key q) keys e.1 ([], [], 0) within has
      (λ j less. false_from_ne_true (is_key q (key_at keys j)) (λ t.
      let s = stands q j (omega arith) t in
      let le : place_of keys entries q ≤ s.0 = s.1 in
      let order_of : is_lt (entry_cmp keys (get_or entries s.0 (0, 0)) (get_or entries k (0, 0))) ≡ false = far k s.0 (0, 0) (omega arith) s.2 in
      let one : key_at keys (get_or entries s.0 (0, 0)).1 ≡ q = ap (key_at keys) s.3 ∙ same_key q (key_at keys j) t in
      let other : key_at keys (get_or entries k (0, 0)).1 ≡ q = ap (λ (f : ℕ × ℕ). key_at keys f.1) (sym is) ∙ same_key q (key_at keys e.1) has in
      let tied : key_cmp (key_at keys (get_or entries s.0 (0, 0)).1) (key_at keys (get_or entries k (0, 0)).1) ≡ Equal =
      ap (λ x. key_cmp x (key_at keys (get_or entries k (0, 0)).1)) one ∙ (ap (key_cmp q) other ∙ tied_itself key_total q) in
      let later : nat_lt (get_or entries s.0 (0, 0)).1 (get_or entries k (0, 0)).1 ≡ false =
      sym (lt_numbers _ _) ∙ (ap is_lt (sym (numbers_then _ _ tied)) ∙ order_of) in
      let no' : nat_lt j e.1 ≡ false = ap (λ n. nat_lt n e.1) (sym s.3) ∙ (ap (λ (f : ℕ × ℕ). nat_lt (get_or entries s.0 (0, 0)).1 f.1) is ∙ later) in
      true≢false (sym (lt-ltb j e.1 less) ∙ no')))

  -- it has another: no element has the key
  pub found_other : (q : KeyOf) (k : ℕ) (e : ℕ × ℕ) → k ≡ place_of keys entries q → k < length entries → e ≡ get_or entries k (0, 0) → is_key q (key_at keys e.1) ≡ false → position_from (is_key q) 0 keys ≡ None
  found_other q k e at lt is other =
      first_nowhere (is_key q) keys ([], [], 0)
      (λ j within. false_from_ne_true (is_key q (key_at keys j)) (λ t.
      let s = stands q j within t in
      let le : place_of keys entries q ≤ s.0 = s.1 in
      let x : KeyOf = key_at keys (get_or entries k (0, 0)).1 in
      let one : key_at keys (get_or entries s.0 (0, 0)).1 ≡ q = ap (key_at keys) s.3 ∙ same_key q (key_at keys j) t in
      let above : is_lt (key_cmp q x) ≡ false =
      ap (λ y. is_lt (key_cmp y x)) (sym one) ∙ then_not_lt (key_cmp (key_at keys (get_or entries s.0 (0, 0)).1) x) _ (far k s.0 (0, 0) (omega arith) s.2) in
      let here : is_lt (key_cmp x q) ≡ false = from_place q k (omega arith) lt in
      let has : is_key q (key_at keys e.1) ≡ true = ap (λ (f : ℕ × ℕ). is_key q (key_at keys f.1)) is ∙ level q x here above in
      true≢false (sym has ∙ other)))

  -- it is the end
  pub found_end : (q : KeyOf) (k : ℕ) → k ≡ place_of keys entries q → length entries ≤ k → position_from (is_key q) 0 keys ≡ None
  found_end q k at le =
      first_nowhere (is_key q) keys ([], [], 0)
      (λ j within. false_from_ne_true (is_key q (key_at keys j)) (λ t.
      let s = stands q j within t in
      let behind : place_of keys entries q ≤ s.0 = s.1 in
      let lt : s.0 < length entries = s.2 in
      absurd (omega arith)))

-- HOW IT IS MADE: an entry for each element in turn, and then sorted

pub record IsListed (keys : List KeyOf) (entries : List (ℕ × ℕ)) (n : ℕ) : Type 0 where
  pub long : length entries ≡ n
  pub each : (k : ℕ) → k < n → get_or entries k (0, 0) ≡ ((key_at keys k).2, k)

pub listed_more : (keys : List KeyOf) (old new : List (ℕ × ℕ)) (c n : ℕ) → IsListed keys old n → c ≡ (key_at keys n).2 → new ≡ old ++ (c, n) ∷ [] → IsListed keys new (n + 1)
listed_more keys old new c n listed class is =
    let long : length old ≡ n = listed.long in
    record {
      long = ap length is ∙ (length_push old (c, n) ∙ ap (λ k. k + 1) long);
      each = λ k lt.
          ap (λ (l : List (ℕ × ℕ)). get_or l k (0, 0)) is
          ∙ ⊎_elim
          (λ (l : k < n). get_or_append_left old ((c, n) ∷ []) (0, 0) k (omega arith) ∙ listed.each k l)
          (λ (l : n ≤ k).
          let e : n ≡ k = omega arith in
          get_or_push old (c, n) (0, 0) k (long ∙ e) ∙ (ap (λ (x : ℕ). (x, n)) class ∙ ap (λ (i : ℕ). ((key_at keys i).2, i)) e))
          (cases_lt k n);
    }

any_there : {X : Type 0} (t : X → Bool) (xs : List X) (i : ℕ) (d : X) → i < length xs → t (get_or xs i d) ≡ true → list_any t xs ≡ true
any_there t [] i d lt h = absurd (omega arith)
any_there t (x ∷ xs) zero d lt h = ap (λ b. b || list_any t xs) h
any_there t (x ∷ xs) (suc i) d lt h = or_right (t x) (list_any t xs) (any_there t xs i d (omega arith) h)

pub sorted_order : (keys : List KeyOf) (old new : List (ℕ × ℕ)) → IsListed keys old (length keys) → IsPermutation old new → IsSortedBy (λ e f. is_lt (entry_cmp keys e f)) new → IsOrder keys new
sorted_order keys old new listed moved up =
    let long : length old ≡ length keys = listed.long in
    record {
      within = All-permutation (λ (e : ℕ × ℕ). (e.1 < length keys) × (e.0 ≡ (key_at keys e.1).2)) old new moved
          (All-from_get_or (λ (e : ℕ × ℕ). (e.1 < length keys) × (e.0 ≡ (key_at keys e.1).2)) old (0, 0)
          (λ i lt.
          let below : i < length keys = omega arith in
          subst (λ (e : ℕ × ℕ). (e.1 < length keys) × (e.0 ≡ (key_at keys e.1).2)) (sym (listed.each i below)) (below, refl)));
      whole = λ n lt.
          sym (list_any-IsPermutation (λ (e : ℕ × ℕ). e.1 == n) old new moved)
          ∙ any_there (λ (e : ℕ × ℕ). e.1 == n) old n (0, 0) (omega arith) (ap (λ (e : ℕ × ℕ). e.1 == n) (listed.each n lt) ∙ eq-eqb n n refl);
      sorted = up;
    }

-- THE ELEMENTS OF ONE NAME AND DESCRIPTOR, which stand side by side in the order of their classes, all of which have numbers
-- below a count

module _ (keys : List KeyOf) (entries : List (ℕ × ℕ)) (order : IsOrder keys entries) (n d : List ℕ) (count : ℕ) (few : All (λ (x : KeyOf). x.2 < count) keys) where
  abbrev pub start : ℕ
  start = place_of keys entries (n, d, 0)

  abbrev pub end : ℕ
  end = place_of keys entries (n, d, count)

  abbrev key_of : ℕ → KeyOf
  key_of i = key_at keys (get_or entries i (0, 0)).1

  of_class : (i : ℕ) → i < length entries → (get_or entries i (0, 0)).0 ≡ (key_of i).2
  of_class i lt = (order.within i (0, 0) lt).1

  few_at : (i : ℕ) → i < length entries → (key_of i).2 < count
  few_at i lt = few (get_or entries i (0, 0)).1 ([], [], 0) (order.within i (0, 0) lt).0

  pub ends : end ≤ length entries
  ends = prefix_len-le-length (is_before keys (n, d, count)) entries

  of_texts : (i : ℕ) → start ≤ i → i < end → ordering_then (slice_cmp nat_cmp (key_of i).0 n) (slice_cmp nat_cmp (key_of i).1 d) ≡ Equal
  of_texts i le lt =
      let high : end ≤ length entries = ends in
      squeezed _ (nat_cmp (key_of i).2 0) (nat_cmp (key_of i).2 count) (from_place keys entries order (n, d, 0) i le (omega arith)) (below_place keys entries order (n, d, count) i lt)

  before_class : (c i : ℕ) → start ≤ i → i < end → is_before keys (n, d, c) (get_or entries i (0, 0)) ≡ nat_lt (get_or entries i (0, 0)).0 c
  before_class c i le lt =
      let high : end ≤ length entries = ends in
      ap is_lt (numbers_then _ (nat_cmp (key_of i).2 c) (of_texts i le lt)) ∙ (lt_numbers (key_of i).2 c ∙ ap (λ a. nat_lt a c) (sym (of_class i (omega arith))))

  has_class : (c i : ℕ) → start ≤ i → i < end → is_key (n, d, c) (key_of i) ≡ ((get_or entries i (0, 0)).0 == c)
  has_class c i le lt =
      let high : end ≤ length entries = ends in
      sym (eq_keys (key_of i) (n, d, c)) ∙ (ap is_eq (numbers_then _ (nat_cmp (key_of i).2 c) (of_texts i le lt)) ∙ (eq_numbers (key_of i).2 c ∙ ap (λ a. a == c) (sym (of_class i (omega arith)))))

  before_start : (c i : ℕ) → i < start → is_before keys (n, d, c) (get_or entries i (0, 0)) ≡ true
  before_start c i lt =
      true_from_ne_false (is_lt (key_cmp (key_of i) (n, d, c))) (λ f.
      let back : is_lt (key_cmp (n, d, c) (n, d, 0)) ≡ false = ap is_lt (numbers_then _ (nat_cmp c 0) (texts_level n d)) ∙ (lt_numbers c 0 ∙ le-ltb c 0 (omega arith)) in
      true≢false (sym (below_place keys entries order (n, d, 0) i lt) ∙ key_weak.chain (key_of i) (n, d, c) (n, d, 0) f back))

  after_end : (c i : ℕ) → end ≤ i → i < length entries → is_before keys (n, d, c) (get_or entries i (0, 0)) ≡ false
  after_end c i le lt =
      let past : is_lt (key_cmp (key_of i) (n, d, count)) ≡ false = from_place keys entries order (n, d, count) i le lt in
      false_from_ne_true (is_lt (key_cmp (key_of i) (n, d, c))) (λ t.
      let same = squeezed _ (nat_cmp (key_of i).2 count) (nat_cmp (key_of i).2 c) past t in
      true≢false (sym (ap is_lt (numbers_then _ (nat_cmp (key_of i).2 count) same) ∙ (lt_numbers (key_of i).2 count ∙ lt-ltb (key_of i).2 count (few_at i lt))) ∙ past))

  pub starts : start ≤ end
  starts =
      ⊎_elim
      (λ (lt : end < start).
      let high : start ≤ length entries = prefix_len-le-length (is_before keys (n, d, 0)) entries in
      absurd (true≢false (sym (before_start count end lt) ∙ from_place keys entries order (n, d, count) end (omega arith) (omega arith))))
      (λ (le : start ≤ end). le) (cases_lt end start)

  -- what a search by halves among them, by class alone, finds
  module _ (c : ℕ) (among : List (ℕ × ℕ)) (is : among ≡ take (end - start) (drop start entries)) where
    long : length among ≡ end - start
    long =
        let high : end ≤ length entries = ends in
        ap length is ∙ length-take-le (end - start) (drop start entries) (omega (arith, length-drop start entries))

    at : (i : ℕ) (e : ℕ × ℕ) → i < length among → get_or among i e ≡ get_or entries (start + i) e
    at i e lt =
        ap (λ (l : List (ℕ × ℕ)). get_or l i e) is ∙ (get_or-take (end - start) (drop start entries) i e (omega (arith, lt, long)) ∙ get_or-drop start entries i e)

    at_zero : (i : ℕ) (e : ℕ × ℕ) → i < length among → get_or among i e ≡ get_or entries (start + i) (0, 0)
    at_zero i e lt =
        let high : end ≤ length entries = ends in
        let low : start ≤ end = starts in
        at i e lt ∙ get_or_default entries (start + i) e (0, 0) (omega (arith, lt, long))

    class_before : (i : ℕ) (e : ℕ × ℕ) → i < length among → nat_lt (get_or among i e).0 c ≡ is_before keys (n, d, c) (get_or entries (start + i) (0, 0))
    class_before i e lt =
        let low : start ≤ end = starts in
        ap (λ (f : ℕ × ℕ). nat_lt f.0 c) (at_zero i e lt) ∙ sym (before_class c (start + i) (omega arith) (omega (arith, lt, long)))

    pub classes_fall_once : IsPartitionedBy (λ (e : ℕ × ℕ). nat_lt e.0 c) among
    classes_fall_once i j e le lt h =
        let high : end ≤ length entries = ends in
        let low : start ≤ end = starts in
        class_before i e (omega arith)
        ∙ falls_once keys entries order (n, d, c) (start + i) (start + j) (0, 0) (omega arith) (omega (arith, lt, long)) (sym (class_before j e lt) ∙ h)

    module _ (k : ℕ) (le : k ≤ length among) (point : IsPartitionPoint (λ (e : ℕ × ℕ). nat_lt e.0 c ≡ true) (λ (e : ℕ × ℕ). nat_lt e.0 c ≡ false) among k) where
      passes : (i : ℕ) → i < start + k → is_before keys (n, d, c) (get_or entries i (0, 0)) ≡ true
      passes i lt =
          ⊎_elim (λ (l : i < start). before_start c i l)
          (λ (l : start ≤ i).
          let back : start + (i - start) ≡ i = omega arith in
          ap (λ j. is_before keys (n, d, c) (get_or entries j (0, 0))) (sym back)
          ∙ (sym (class_before (i - start) (0, 0) (omega arith)) ∙ point.0 (i - start) (0, 0) (omega arith) (omega arith)))
          (cases_lt i start)

      stops : start + k < length entries → is_before keys (n, d, c) (get_or entries (start + k) (0, 0)) ≡ false
      stops lt =
          ⊎_elim (λ (l : k < length among). sym (class_before k (0, 0) l) ∙ point.1 k (0, 0) (omega arith) l)
          (λ (l : length among ≤ k).
          let low : start ≤ end = starts in
          after_end c (start + k) (omega (arith, l, long)) lt)
          (cases_lt k (length among))

      pub class_place : start + k ≡ place_of keys entries (n, d, c)
      class_place =
          let high : end ≤ length entries = ends in
          let low : start ≤ end = starts in
          sym (prefix_len_is (is_before keys (n, d, c)) entries (start + k) (0, 0) (omega (arith, le, long)) passes stops)

      -- there is an entry, of the class or of another one, or there is none
      pub class_found : (e : ℕ × ℕ) → k < length among → e ≡ get_or among k e → (e.0 == c) ≡ true → position_from (is_key (n, d, c)) 0 keys ≡ Some e.1
      class_found e lt read has =
          let high : end ≤ length entries = ends in
          let low : start ≤ end = starts in
          let there : e ≡ get_or entries (start + k) (0, 0) = read ∙ at_zero k e lt in
          found_here keys entries order (n, d, c) (start + k) e class_place (omega (arith, lt, long)) there
          (ap (λ (f : ℕ × ℕ). is_key (n, d, c) (key_at keys f.1)) there ∙ (has_class c (start + k) (omega arith) (omega (arith, lt, long)) ∙ (ap (λ (f : ℕ × ℕ). f.0 == c) (sym there) ∙ has)))

      pub class_other : (e : ℕ × ℕ) → k < length among → e ≡ get_or among k e → (e.0 == c) ≡ false → position_from (is_key (n, d, c)) 0 keys ≡ None
      class_other e lt read other =
          let high : end ≤ length entries = ends in
          let low : start ≤ end = starts in
          let there : e ≡ get_or entries (start + k) (0, 0) = read ∙ at_zero k e lt in
          found_other keys entries order (n, d, c) (start + k) e class_place (omega (arith, lt, long)) there
          (ap (λ (f : ℕ × ℕ). is_key (n, d, c) (key_at keys f.1)) there ∙ (has_class c (start + k) (omega arith) (omega (arith, lt, long)) ∙ (ap (λ (f : ℕ × ℕ). f.0 == c) (sym there) ∙ other)))

      -- behind them stand elements of another name or descriptor
      not_after : (i : ℕ) → end ≤ i → i < length entries → is_key (n, d, c) (key_of i) ≡ false
      not_after i behind lt =
          false_from_ne_true (is_key (n, d, c) (key_of i)) (λ t.
          let key : key_of i ≡ (n, d, c) = same_key (n, d, c) (key_of i) t in
          let one : is_before keys (n, d, c + 1) (get_or entries i (0, 0)) ≡ true =
          ap (λ x. is_lt (key_cmp x (n, d, c + 1))) key ∙ (ap is_lt (numbers_then _ (nat_cmp c (c + 1)) (texts_level n d)) ∙ (lt_numbers c (c + 1) ∙ lt-ltb c (c + 1) (omega arith))) in
          true≢false (sym one ∙ after_end (c + 1) i behind lt))

      pub class_end : length among ≤ k → position_from (is_key (n, d, c)) 0 keys ≡ None
      class_end none =
          let high : end ≤ length entries = ends in
          let low : start ≤ end = starts in
          ⊎_elim
          (λ (l : start + k < length entries).
          found_other keys entries order (n, d, c) (start + k) (get_or entries (start + k) (0, 0)) class_place l refl (not_after (start + k) (omega (arith, none, long)) l))
          (λ (l : length entries ≤ start + k). found_end keys entries order (n, d, c) (start + k) class_place l)
          (cases_lt (start + k) (length entries))

-- A TABLE of classes, of methods or of fields

pub position_map : {X Y : Type 0} (t : Y → Bool) (u : X → Bool) (f : X → Y) → ((x : X) → t (f x) ≡ u x) → (xs : List X) (i : ℕ) → position_from t i (map f xs) ≡ position_from u i xs
position_map t u f same [] i = refl
position_map t u f same (x ∷ xs) i =
    ap (λ b. cond b (Some i) (position_from t (i + 1) (map f xs))) (same x) ∙ ap (λ o. cond (u x) (Some i) o) (position_map t u f same xs (i + 1))

by_name : (name : List ℕ) (c : ClassEntry) → is_key (name, [], 0) (class_key c) ≡ bytes_eq name c.info.name
by_name name c = and_turned (bytes_eq c.info.name name) true ∙ nat_list_eq_equiv.symm c.info.name name

pub class_by_name : (name : List ℕ) (classes : List ClassEntry) → position_from (is_key (name, [], 0)) 0 (map class_key classes) ≡ position_from (λ (c : ClassEntry). bytes_eq name c.info.name) 0 classes
class_by_name name classes = position_map (is_key (name, [], 0)) (λ (c : ClassEntry). bytes_eq name c.info.name) class_key (by_name name) classes 0

-- what is found by a key, in the table
pub found_by_key : {T : Type 0} (key_of : T → KeyOf) (is_one : T → Bool) (sought key : KeyOf) (seen items : List T) (found : Option ℕ) → ((x : T) → is_key sought (key_of x) ≡ is_one x) → found ≡ position_from (is_key key) 0 (map key_of seen) → key ≡ sought → seen ≡ items → found ≡ position_from is_one 0 items
found_by_key key_of is_one sought key seen items found alike is same read =
    is ∙ (ap (λ (k : KeyOf). position_from (is_key k) 0 (map key_of seen)) same
    ∙ (position_map (is_key sought) is_one key_of alike seen 0 ∙ ap (position_from is_one 0) read))

pub method_by_key : (name descriptor : List ℕ) (c : ℕ) (methods : List MethodInfo) → position_from (is_key (name, descriptor, c)) 0 (map method_key methods) ≡ position_from (is_method name descriptor c) 0 methods
method_by_key name descriptor c methods = position_map (is_key (name, descriptor, c)) (is_method name descriptor c) method_key (λ m. refl) methods 0
