-- Orders of initialization that are parts of one another.
use Rattle.std.proofs.Common.{◌≡◌, ℕ, zero, suc, ◌+◌, ◌<◌, ◌≤◌, ◌==◌, Bool, cond, List, [], ◌∷◌, ◌++◌, length, take, drop, get_or, set, Option, None, Some, refl, sym, ◌∙◌, ap, subst, arith, reverse, append-nil, append_assoc, inl, inr, get_or-set_same, get_or-set_other, take_all}
use mathlib.Core.Logic.{⊎_elim}
use Rattle.std.specs.Prelude.{All}
use Rattle.std.specs.List.{slice_index_or, list_any, flat_map}
use Rattle.std.specs.Option.{option_to_list}
use Rattle.std.proofs.lemmas.Bool.{cases_Bool, cases_eq, cases_lt}
use Rattle.std.proofs.lemmas.List.{length-set, length-append, drop_more, drop_all, reverse-append, take-append-le, get_or_default}
use Rattle.std.proofs.lemmas.List.Concat.{flat_map-append}
use Rattle.et_hierarchy.specs.Links.{LinkEntry, no_links, HasLinksWithin}
use Rattle.et_hierarchy.specs.Ancestry.{Ancestry, ancestry_at, class_added, added_all, once, supers_over, IsAncestry}
use Rattle.et_hierarchy.specs.Initialization.{with_interfaces, downward, class_order}
use Rattle.et_hierarchy.specs.Orders.{order_down, IsStop, HasOrder, AreOrders, OrdersGrow}
use Rattle.et_hierarchy.specs.declared.order.Stop.{Stop}
use Rattle.et_hierarchy.proofs.AddLemmas.{added_all-append}
use Rattle.et_hierarchy.proofs.OnceLemmas.{once_again}

-- WHAT IS ADDED stands behind

class_behind : (seen : List ℕ) (x : ℕ) → (more : List ℕ) × (class_added seen x ≡ seen ++ more)
class_behind seen x =
    ⊎_elim
    (λ y. ([], ap (λ b. cond b seen (seen ++ x ∷ [])) y ∙ sym (append-nil seen)))
    (λ n. (x ∷ [], ap (λ b. cond b seen (seen ++ x ∷ [])) n))
    (cases_Bool (list_any (λ y. x == y) seen))

pub added_behind : (seen xs : List ℕ) → (more : List ℕ) × (added_all seen xs ≡ seen ++ more)
added_behind seen [] = ([], sym (append-nil seen))
added_behind seen (x ∷ xs) =
    let one = class_behind seen x in
    let r = added_behind (class_added seen x) xs in
    (one.0 ++ r.0, r.1 ∙ (ap (λ (s : List ℕ). s ++ r.0) one.1 ∙ append_assoc seen one.0 r.0))

-- THE SUPERCLASSES OF A SUPERCLASS are what stands behind it

first_below : (n : ℕ) (o : Option ℕ) (ys : List ℕ) (s : ℕ) → o ≡ Some s → All (λ k. k < n) (option_to_list o ++ ys) → s < n
first_below n None ys s e h = absurd (cc)
first_below n (Some t) ys s e h =
    let same : t ≡ s = cc in
    subst (λ x. x < n) same (h 0 t (omega arith))

module _ (table : List LinkEntry) (rows : List Ancestry) (ancestry : IsAncestry table rows) (within : HasLinksWithin (length table) table) where
  supers_by : (k : ℕ) (o : Option ℕ) → k < length table → (slice_index_or table k no_links).above ≡ o → (ancestry_at rows k).supers ≡ supers_over rows o
  supers_by k o lt e = ap (λ (r : Ancestry). r.supers) (ancestry.row k lt) ∙ ap (supers_over rows) e

  abbrev IsAt : List ℕ → ℕ → Type 0
  IsAt xs i = (slice_index_or xs i 0 < length table) × (drop (i + 1) xs ≡ (ancestry_at rows (slice_index_or xs i 0)).supers)

  super_in : (i k : ℕ) (o : Option ℕ) → k < length table → (slice_index_or table k no_links).above ≡ o → i < length (ancestry_at rows k).supers → IsAt (ancestry_at rows k).supers i
  super_in i k None lt e less = absurd (omega (arith, ap length (supers_by k None lt e)))
  super_in zero k (Some s) lt e less =
      let inside : s < length table = first_below (length table) (slice_index_or table k no_links).above (slice_index_or table k no_links).interfaces s e (within k no_links lt) in
      subst (λ (xs : List ℕ). IsAt xs 0) (sym (supers_by k (Some s) lt e)) (inside, refl)
  super_in (suc i) k (Some s) lt e less =
      let is = supers_by k (Some s) lt e in
      let inside : s < length table = first_below (length table) (slice_index_or table k no_links).above (slice_index_or table k no_links).interfaces s e (within k no_links lt) in
      let r = super_in i s (slice_index_or table s no_links).above inside refl (omega (arith, ap length is)) in
      let on : suc i + 1 ≡ suc (i + 1) = omega arith in
      subst (λ (xs : List ℕ). IsAt xs (suc i)) (sym is) (r.0, ap (λ n. drop n (s ∷ (ancestry_at rows s).supers)) on ∙ r.1)

  pub super_at : (k i : ℕ) → k < length table → i < length (ancestry_at rows k).supers → IsAt (ancestry_at rows k).supers i
  super_at k i lt less = super_in i k (slice_index_or table k no_links).above lt refl less

  -- each superclass is one of the set
  pub supers_within : (k m : ℕ) (supers : List ℕ) → k < length table → supers ≡ (ancestry_at rows k).supers → m ≡ length table → All (λ s. s < m) supers
  supers_within k m supers lt es em i d less =
      let inside : i < length (ancestry_at rows k).supers = subst (λ (xs : List ℕ). i < length xs) es less in
      let e : get_or supers i d ≡ slice_index_or (ancestry_at rows k).supers i 0 = get_or_default supers i d 0 less ∙ ap (λ (xs : List ℕ). slice_index_or xs i 0) es in
      subst (λ x. x < m) (sym e) (subst (λ n. slice_index_or (ancestry_at rows k).supers i 0 < n) (sym em) (super_at k i lt inside).0)

-- AN ORDER that goes down one class more

module _ (needs : ℕ → Bool) (table : List LinkEntry) (rows : List Ancestry) where
  down_one : (x : ℕ) (zs : List ℕ) → order_down needs table rows (x ∷ zs) ≡ added_all (order_down needs table rows zs) (with_interfaces needs table rows x)
  down_one x zs =
      let F : ℕ → List ℕ = with_interfaces needs table rows in
      ap (λ (xs : List ℕ). once (flat_map F xs)) (reverse-append (x ∷ []) zs)
      ∙ (ap once (flat_map-append F (reverse zs) (x ∷ [])) ∙ (added_all-append [] (flat_map F (reverse zs)) (F x ++ []) ∙ ap (added_all (order_down needs table rows zs)) (append-nil (F x))))

  -- what was a stop in a list is one in a longer list
  stop_on : (list list' part : List ℕ) (s : Stop) → list' ≡ added_all list part → IsStop needs table rows list s → IsStop needs table rows list' s
  stop_on list list' part s is h =
      let more = added_behind list part in
      let e : list' ≡ list ++ more.0 = is ∙ more.1 in
      let longer = length-append list more.0 in
      record {
        class = h.class;
        within = omega (arith, h.within, ap length e, longer);
        before = ap (take s.end) e ∙ (take-append-le s.end list more.0 h.within ∙ h.before);
      }

  pub stops_on : (list list' part : List ℕ) (stops : List Stop) → list' ≡ added_all list part → All (IsStop needs table rows list) stops → All (IsStop needs table rows list') stops
  stops_on list list' part stops is h = λ i d lt. stop_on list list' part (get_or stops i d) is (h i d lt)

  -- one superclass further down
  module _ (ancestry : IsAncestry table rows) (within : HasLinksWithin (length table) table) (k i : ℕ) (lt : k < length table) (less : i < length (ancestry_at rows k).supers) where
    abbrev here : ℕ
    here = slice_index_or (ancestry_at rows k).supers i 0

    pub down_turn : (list list' : List ℕ) → list ≡ order_down needs table rows (drop (i + 1) (ancestry_at rows k).supers) → list' ≡ added_all list (with_interfaces needs table rows here) → list' ≡ order_down needs table rows (drop i (ancestry_at rows k).supers)
    down_turn list list' old is =
        is ∙ (ap (λ (xs : List ℕ). added_all xs (with_interfaces needs table rows here)) old ∙ (sym (down_one here (drop (i + 1) (ancestry_at rows k).supers)) ∙ ap (order_down needs table rows) (sym (drop_more (ancestry_at rows k).supers i 0 less))))

    from_here : order_down needs table rows (drop i (ancestry_at rows k).supers) ≡ class_order needs table rows here
    from_here = ap (order_down needs table rows) (drop_more (ancestry_at rows k).supers i 0 less ∙ ap (λ (xs : List ℕ). here ∷ xs) (super_at table rows ancestry within k i lt less).1)

    pub stop_here : (list : List ℕ) (x e : ℕ) → x ≡ here → e ≡ length list → list ≡ order_down needs table rows (drop i (ancestry_at rows k).supers) → IsStop needs table rows list (record { class = x; end = e })
    stop_here list x e ex ee is =
        subst (λ n. IsStop needs table rows list (record { class = n; end = e })) (sym ex)
        (subst (λ m. IsStop needs table rows list (record { class = here; end = m })) (sym ee)
        (record {
          class = (super_at table rows ancestry within k i lt less).0;
          within = omega arith;
          before = take_all (length list) list (omega arith) ∙ (is ∙ from_here);
        }))

    -- the list of this superclass, where it has one
    pub from_list : (orders : List (List ℕ)) (list : List ℕ) → AreOrders needs table rows orders → 0 < length (slice_index_or orders here []) → list ≡ once (slice_index_or orders here []) → list ≡ order_down needs table rows (drop i (ancestry_at rows k).supers)
    from_list orders list are long is =
        ⊎_elim
        (λ e. absurd (omega (arith, ap length e)))
        (λ e. is ∙ (ap once e ∙ (once_again (flat_map (with_interfaces needs table rows) (downward rows here)) ∙ sym from_here)))
        (are.right here (super_at table rows ancestry within k i lt less).0)

  -- how an order is begun
  module _ (ancestry : IsAncestry table rows) (within : HasLinksWithin (length table) table) (k i : ℕ) (orders : List (List ℕ)) (lt : k < length table) (are : AreOrders needs table rows orders) where
    begun : (list : List ℕ) → (i < length (ancestry_at rows k).supers → 0 < length (slice_index_or orders (slice_index_or (ancestry_at rows k).supers i 0) []))
        → (i < length (ancestry_at rows k).supers → list ≡ once (slice_index_or orders (slice_index_or (ancestry_at rows k).supers i 0) []))
        → (length (ancestry_at rows k).supers ≤ i → list ≡ []) → list ≡ order_down needs table rows (drop i (ancestry_at rows k).supers)
    begun list long over none =
        ⊎_elim
        (λ less. from_list ancestry within k i lt less orders list are (long less) (over less))
        (λ past. none past ∙ ap (order_down needs table rows) (sym (drop_all i (ancestry_at rows k).supers past)))
        (cases_lt i (length (ancestry_at rows k).supers))

    pub order_begun : (os os' : List (List ℕ)) (xs list : List ℕ) → xs ≡ (ancestry_at rows k).supers → os ≡ orders → os' ≡ orders → (i < length xs → 0 < length (slice_index_or os (slice_index_or xs i 0) []))
        → (i < length xs → list ≡ once (slice_index_or os' (slice_index_or xs i 0) [])) → (length xs ≤ i → list ≡ []) → list ≡ order_down needs table rows (drop i (ancestry_at rows k).supers)
    order_begun os os' xs list ex eo eo' long over none =
        begun list
        (subst (λ (ys : List ℕ). i < length ys → 0 < length (slice_index_or orders (slice_index_or ys i 0) [])) ex (subst (λ (o : List (List ℕ)). i < length xs → 0 < length (slice_index_or o (slice_index_or xs i 0) [])) eo long))
        (subst (λ (ys : List ℕ). i < length ys → list ≡ once (slice_index_or orders (slice_index_or ys i 0) [])) ex (subst (λ (o : List (List ℕ)). i < length xs → list ≡ once (slice_index_or o (slice_index_or xs i 0) [])) eo' over))
        (subst (λ (ys : List ℕ). length ys ≤ i → list ≡ []) ex none)

  -- the order of a class is that of its superclasses, with its own interfaces and itself
  pub whole_order : (k : ℕ) (over list : List ℕ) → over ≡ order_down needs table rows (ancestry_at rows k).supers → list ≡ added_all over (with_interfaces needs table rows k) → list ≡ class_order needs table rows k
  whole_order k over list e is = is ∙ (ap (λ (xs : List ℕ). added_all xs (with_interfaces needs table rows k)) e ∙ sym (down_one k (ancestry_at rows k).supers))

  pub stops_fit : (list : List ℕ) (stops : List Stop) (m : ℕ) → m ≡ length table → All (IsStop needs table rows list) stops → All (λ (s : Stop). (s.class < m) × (s.end ≤ length list)) stops
  stops_fit list stops m e h = λ i d lt. let s = h i d lt in (subst (λ n. (get_or stops i d).class < n) (sym e) s.class, s.within)

  -- ORDERS THAT ARE FOUND

  pub orders_none : (orders : List (List ℕ)) → length orders ≡ length table → ((k : ℕ) → slice_index_or orders k [] ≡ []) → AreOrders needs table rows orders
  orders_none orders size none = record { each = size; right = λ k lt. inl (none k) }

  set_has : (orders : List (List ℕ)) (k j : ℕ) (list : List ℕ) → k < length orders → list ≡ class_order needs table rows k → HasOrder needs table rows orders j → HasOrder needs table rows (set orders k list) j
  set_has orders k j list lt is h =
      ⊎_elim
      (λ e. subst (λ m. HasOrder needs table rows (set orders k list) m) (sym e) (get_or-set_same orders k list [] lt ∙ is))
      (λ ne. get_or-set_other orders k j list [] ne ∙ h)
      (cases_eq j k)

  pub set_here : (orders : List (List ℕ)) (k : ℕ) (list : List ℕ) → k < length orders → list ≡ class_order needs table rows k → HasOrder needs table rows (set orders k list) k
  set_here orders k list lt is = get_or-set_same orders k list [] lt ∙ is

  pub grow_none : (orders : List (List ℕ)) → AreOrders needs table rows orders → OrdersGrow needs table rows orders orders
  grow_none orders are = record { orders = are; kept = λ k h. h }

  pub grow_set : (old new : List (List ℕ)) (k : ℕ) (list : List ℕ) → OrdersGrow needs table rows old new → k < length new → list ≡ class_order needs table rows k → OrdersGrow needs table rows old (set new k list)
  grow_set old new k list g lt is = record {
    orders = record {
      each = length-set new k list ∙ g.orders.each;
      right = λ j l.
          ⊎_elim
          (λ e. inr (subst (λ m. HasOrder needs table rows (set new k list) m) (sym e) (set_here new k list lt is)))
          (λ ne. ⊎_elim (λ none. inl (get_or-set_other new k j list [] ne ∙ none)) (λ h. inr (get_or-set_other new k j list [] ne ∙ h)) (g.orders.right j l))
          (cases_eq j k);
    };
    kept = λ j h. set_has new k j list lt is (g.kept j h);
  }

-- THE PLACE of a superclass that was read
pub super_read : (xs supers : List ℕ) (i x n : ℕ) → xs ≡ supers → i < length supers → x ≡ get_or xs i x → n ≡ x → n ≡ slice_index_or supers i 0
super_read xs supers i x n e lt is same =
    let less : i < length xs = subst (λ (ys : List ℕ). i < length ys) (sym e) lt in
    same ∙ (is ∙ (get_or_default xs i x 0 less ∙ ap (λ (ys : List ℕ). slice_index_or ys i 0) e))
