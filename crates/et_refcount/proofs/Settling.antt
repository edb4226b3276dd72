-- What is freed by counts is what the definition frees by paths and cycles.
use Rattle.std.proofs.Common.{◌≡◌, ◌≢◌, ℕ, zero, suc, ◌+◌, ◌<◌, ◌≤◌, Bool, true, false, cond, not, ◌&&◌, eqb, List, [], ◌∷◌, ◌++◌, length, get_or, filter, map, Option, Some, None, refl, sym, ap, subst, ◌∙◌, arith, inl, inr, ◌⊎◌}
use Rattle.std.specs.Prelude.{Contains, is_some, unwrap_or}
use Rattle.std.specs.List.{list_any, cons_option}
use Rattle.std.specs.List.Sorted.{IsStrictlySortedBy}
use Rattle.std.specs.Map.{keys_of}
use Rattle.std.specs.Ordering.{nat_cmp, eq_by_cmp}
use Rattle.std.specs.Cmp.{nat_cmp_total, eq_by_cmp_equiv}
use Rattle.std.proofs.lemmas.Map.Keys.{IsDistinct-from_sorted}
use Rattle.std.proofs.lemmas.Map.Views.{lookup-from_Contains}
use Rattle.std.proofs.lemmas.List.Elements.{All-contains, All-filter, Contains-append_left, Contains-append_right, Contains-append_cases}
use Rattle.std.proofs.lemmas.Bool.{cases_Bool, not-true, not_from_false}
use Rattle.et_base.proofs.Lists.{Contains-none, Contains-here, Contains-there, Contains-cons, filter_kept, filter_keeps, has_contains, contains_has}
use Rattle.et_base.proofs.Tests.{cases_eqb, bool_same}
use Rattle.et_graph.specs.Graph.{Graph, Decides, IsReached}
use Rattle.et_graph.proofs.Walks.{leads_itself, leads_first, reached_on, root_reached, reached_all}
use Rattle.et_replay.specs.declared.item.Item.{Item}
use Rattle.et_replay.specs.Fed.{AreFed}
use Rattle.et_replay.specs.Heap.{size_in, is_made, is_live, ends_life, bytes}
use Rattle.et_replay.specs.Tally.{Counted, Reference, is_among, live_of, targets_of, searched_from, is_on_cycle, unfreed, left_with, settled}
use Rattle.et_replay.proofs.ByKey.{filter_same}
use Rattle.et_replay.proofs.Coming.{in_range, not_both}
use Rattle.et_refcount.specs.Objects.{Slots, Tables, held_at, flag_at, count_at, slots_at, target_at, all_hits, weight, KeepsItself, IsFreeing}
use Rattle.et_refcount.specs.Counts.{AgreesWith}
use Rattle.et_refcount.proofs.Cycles.{last_step, cycle_from}
use Rattle.et_refcount.proofs.Hits.{left_of, hits_entry, all_entry}
use Rattle.et_refcount.proofs.Weighing.{weight_is_sum, filter_distinct}

abbrev pair_of : Reference → ℕ × ℕ
pair_of r = (r.0, r.2)

pub empty_sorted : IsStrictlySortedBy nat_cmp []
unfolding IsStrictlySortedBy
empty_sorted = tt

-- THE REFERENCES AS PAIRS

pub pair_in : (refs : List Reference) (u s x : ℕ) → Contains refs (u, s, x) → Contains (map pair_of refs) (u, x)
pair_in [] u s x c = absurd (Contains-none (u, s, x) c)
pair_in (r ∷ refs) u s x c = elim (Contains-cons r refs (u, s, x) c) [
  | inl e ↦ subst (λ (p : ℕ × ℕ). Contains (pair_of r ∷ map pair_of refs) p) (ap (λ (q : Reference). pair_of q) e) (Contains-here (pair_of r) (map pair_of refs))
  | inr d ↦ Contains-there (pair_of r) (map pair_of refs) (u, x) (pair_in refs u s x d)
]

pub of_pair : (refs : List Reference) (u x : ℕ) → Contains (map pair_of refs) (u, x) → (s : ℕ) × Contains refs (u, s, x)
of_pair [] u x c = absurd (Contains-none (u, x) c)
of_pair (r ∷ refs) u x c = elim (Contains-cons (pair_of r) (map pair_of refs) (u, x) c) [
  | inl e ↦ (r.1, subst (λ (q : Reference). Contains (r ∷ refs) q) (three r.0 u r.1 r.2 x (ap (λ (p : ℕ × ℕ). p.0) e) (ap (λ (p : ℕ × ℕ). p.1) e)) (Contains-here r refs))
  | inr d ↦ (let m = of_pair refs u x d in (m.0, Contains-there r refs (u, m.0, x) m.1))
]
  where
    three : (a u b c x : ℕ) → a ≡ u → c ≡ x → ◌≡◌ {A = Reference} (a, b, c) (u, b, x)
    three a u b c x e f = cc

-- the targets, where the first reference is of the object or isn't
abbrev front : Bool → ℕ → List ℕ → List ℕ
front b y ys = cons_option (cond b (Some y) None) ys

pub target_in : (refs : List Reference) (u s x : ℕ) → Contains refs (u, s, x) → Contains (targets_of refs u) x
target_in [] u s x c = absurd (Contains-none (u, s, x) c)
target_in (r ∷ refs) u s x c = elim (Contains-cons r refs (u, s, x) c) [
  | inl e ↦
      let same : eqb r.0 u ≡ true = elim (cases_eqb r.0 u) [ inl q ↦ q.0 | inr q ↦ absurd (let far = q.1 in far (ap (λ (p : Reference). p.0) e)) ] in
      let is : r.2 ≡ x = ap (λ (p : Reference). p.2) e in
      listed (eqb r.0 u) same r.2 (targets_of refs u) is
  | inr d ↦ behind (eqb r.0 u) r.2 (targets_of refs u) (target_in refs u s x d)
]
  where
    listed : (b : Bool) → b ≡ true → (y : ℕ) (ys : List ℕ) → y ≡ x → Contains (front b y ys) x
    listed true t y ys e = subst (λ (z : ℕ). Contains (y ∷ ys) z) e (Contains-here y ys)
    listed false t y ys e = absurd cc

    behind : (b : Bool) (y : ℕ) (ys : List ℕ) → Contains ys x → Contains (front b y ys) x
    behind true y ys k = Contains-there y ys x k
    behind false y ys k = k

pub of_target : (refs : List Reference) (u x : ℕ) → Contains (targets_of refs u) x → (s : ℕ) × Contains refs (u, s, x)
of_target [] u x c = absurd (Contains-none x c)
of_target (r ∷ refs) u x c = elim (cases_eqb r.0 u) [
  | inl e ↦ elim (Contains-cons r.2 (targets_of refs u) x (yes (eqb r.0 u) e.0 r.2 (targets_of refs u) c)) [
    | inl f ↦ (r.1, subst (λ (q : Reference). Contains (r ∷ refs) q) (three r.0 u r.1 r.2 x e.1 f) (Contains-here r refs))
    | inr d ↦ (let m = of_target refs u x d in (m.0, Contains-there r refs (u, m.0, x) m.1))
  ]
  | inr e ↦ (let m = of_target refs u x (no (eqb r.0 u) e.0 r.2 (targets_of refs u) c) in (m.0, Contains-there r refs (u, m.0, x) m.1))
]
  where
    yes : (b : Bool) → b ≡ true → (y : ℕ) (ys : List ℕ) → Contains (front b y ys) x → Contains (y ∷ ys) x
    yes true t y ys k = k
    yes false t y ys k = absurd cc

    no : (b : Bool) → b ≡ false → (y : ℕ) (ys : List ℕ) → Contains (front b y ys) x → Contains ys x
    no false t y ys k = k
    no true t y ys k = absurd cc

    three : (a u b c x : ℕ) → a ≡ u → c ≡ x → ◌≡◌ {A = Reference} (a, b, c) (u, b, x)
    three a u b c x e f = cc

-- WHAT IS HELD

made_some : (past : List Item) (o : ℕ) → is_made past o ≡ true → (z : ℕ) × (size_in past o ≡ Some z)
made_some past o m = some (size_in past o) m
  where
    some : (x : Option ℕ) → is_some x ≡ true → (z : ℕ) × (x ≡ Some z)
    some (Some z) e = (z, refl)
    some None e = absurd cc

pub held_made : (t : Tables) (n : ℕ) (past : List Item) (c : Counted) (o : ℕ) → AgreesWith t n past c → Contains c.heap.space o → held_at t.places o ≡ size_in past o
held_made t n past c o a k = a.held_is o ∙ ap (λ (b : Bool). cond b (size_in past o) None) (contains_has c.heap.space o k)

pub held_some : (t : Tables) (n : ℕ) (past : List Item) (c : Counted) (o : ℕ) → AgreesWith t n past c → Contains c.heap.space o → is_some (held_at t.places o) ≡ true
held_some t n past c o a k = ap (λ (x : Option ℕ). is_some x) (held_made t n past c o a k) ∙ All-contains (λ p. is_made past p ≡ true) c.heap.space o a.made k

pub held_among : (t : Tables) (n : ℕ) (past : List Item) (c : Counted) (o : ℕ) → AgreesWith t n past c → is_some (held_at t.places o) ≡ true → Contains c.heap.space o
held_among t n past c o a h = has_contains c.heap.space o (yes (is_among c.heap.space o) (ap (λ (x : Option ℕ). is_some x) (sym (a.held_is o)) ∙ h))
  where
    yes : (b : Bool) → is_some (cond b (size_in past o) None) ≡ true → b ≡ true
    yes true e = refl
    yes false e = absurd cc

-- an object that isn't held
pub held_none : (t : Tables) (n : ℕ) (past : List Item) (c : Counted) (o : ℕ) → AgreesWith t n past c → (Contains c.heap.space o → ⊥) → held_at t.places o ≡ None
held_none t n past c o a out = a.held_is o ∙ ap (λ (b : Bool). cond b (size_in past o) None) (no (is_among c.heap.space o) refl)
  where
    no : (b : Bool) → is_among c.heap.space o ≡ b → is_among c.heap.space o ≡ false
    no true e = absurd (out (has_contains c.heap.space o e))
    no false e = e

pub weight_is : (t : Tables) (n : ℕ) (past : List Item) (c : Counted) → AgreesWith t n past c → weight t.places ≡ bytes past c.heap.space
weight_is t n past c a = weight_is_sum (λ o. unwrap_or (size_in past o) 0) c.heap.space t.places a.distinct
    (λ o k. (let z = made_some past o (All-contains (λ p. is_made past p ≡ true) c.heap.space o a.made k) in held_made t n past c o a k ∙ (z.1 ∙ ap (λ (y : ℕ). Some y) (sym (ap (λ (x : Option ℕ). unwrap_or x 0) z.1)))))
    (λ o out. held_none t n past c o a out)

-- whether an object lives
pub live_flag : (t : Tables) (n : ℕ) (past : List Item) (c : Counted) (o : ℕ) → AreFed n past → AgreesWith t n past c → Contains c.heap.space o → is_live past o ≡ not (flag_at t.dead o)
live_flag t n past c o fed a k =
    let m = All-contains (λ p. is_made past p ≡ true) c.heap.space o a.made k in
    let le = (in_range n past o fed m).1 in
    ap (λ (b : Bool). b && not (list_any (ends_life o) past)) m ∙ ap not (sym (a.dead_is o le))

-- the test and a proof that it decides, the tables before and after, and what the definition has before
module _ (reached : Graph → ℕ → Bool) (decides : Decides reached) (start t : Tables) (n : ℕ) (past : List Item) (c : Counted) (freed : ℕ) (fed : AreFed n past) (a : AgreesWith start n past c) (i : IsFreeing start t [] freed) where
  abbrev space : List ℕ
  space = c.heap.space

  abbrev refs : List Reference
  refs = c.references

  abbrev g : Graph
  g = searched_from (live_of past space ++ filter (is_on_cycle reached refs) space) refs

  among_pair : (u x : ℕ) → Contains g.pairs (u, x) → Contains space u × Contains space x
  among_pair u x p = let r = of_pair refs u x p in a.among u r.0 x r.1

  root_among : (r : ℕ) → Contains g.roots r → Contains space r
  root_among r k = elim (Contains-append_cases (live_of past space) (filter (is_on_cycle reached refs) space) r k) [
    | inl l ↦ (filter_kept (is_live past) space r l).0
    | inr l ↦ (filter_kept (is_on_cycle reached refs) space r l).0
  ]

  reached_among : (o : ℕ) → IsReached g o → Contains space o
  reached_among o r = reached_all (Contains space) g root_among (λ u x p k. (among_pair u x p).1) o r

  reached_next : (u x : ℕ) → IsReached g u → Contains g.pairs (u, x) → IsReached g x
  reached_next u x r p = reached_on g u x r (leads_first g.pairs u x x p (leads_itself g.pairs x))

  abbrev IsHeldUp : ℕ → Type 0
  IsHeldUp o = (flag_at start.dead o ≡ false) ⊎ ((u : ℕ) × (s : ℕ) × (reached g u ≡ true) × (target_at (slots_at start.slots u) s ≡ Some o))

  held_by : (u o : ℕ) → IsReached g u → Contains g.pairs (u, o) → IsHeldUp o
  held_by u o r p = (let m = of_pair refs u o p in inr (u, m.0, (decides g u).1 r, a.found u m.0 o m.1))

  cycle_held : (o : ℕ) → IsReached g o → is_on_cycle reached refs o ≡ true → IsHeldUp o
  cycle_held o r k =
      let p = (decides (searched_from (targets_of refs o) refs) o).0 k in
      let s = of_target refs o p.0 p.1 in
      let first = pair_in refs o s.0 p.0 s.1 in
      elim (last_step g.pairs p.0 p.2.0 o p.2.1) [
        | inl e ↦ inr (o, s.0, (decides g o).1 r, subst (λ (z : ℕ). target_at (slots_at start.slots o) s.0 ≡ Some z) e (a.found o s.0 p.0 s.1))
        | inr q ↦ held_by q.0 o (reached_on g o q.0 r (leads_first g.pairs o p.0 q.0 first q.1)) q.2
      ]

  held_up : (o : ℕ) → IsReached g o → IsHeldUp o
  held_up o r = elim (last_step g.pairs r.0 r.2.0 o r.2.1) [
    | inl e ↦
        let root : Contains g.roots o = subst (λ (k : ℕ). Contains g.roots k) e r.1 in
        elim (Contains-append_cases (live_of past space) (filter (is_on_cycle reached refs) space) o root) [
          | inl l ↦ (let f = filter_kept (is_live past) space o l in inl (not-true (flag_at start.dead o) (sym (live_flag start n past c o fed a f.0) ∙ f.1)))
          | inr l ↦ cycle_held o r (filter_kept (is_on_cycle reached refs) space o l).1
        ]
    | inr q ↦ held_by q.0 o (r.0, r.1, q.1) q.2
  ]

  keeps : KeepsItself start (reached g)
  keeps = record {
    held = λ o e. held_some start n past c o a (reached_among o ((decides g o).0 e));
    by = λ o e. held_up o ((decides g o).0 e);
  }

  -- what the definition keeps isn't freed
  stays : (o : ℕ) → reached g o ≡ true → is_some (held_at t.places o) ≡ true
  stays o e = i.kept (reached g) keeps o e

  abbrev is_held : ℕ → Bool
  is_held o = is_some (held_at t.places o)

  pub record IsBad (o : ℕ) : Type 0 where
    pub among : Contains space o
    pub held : is_held o ≡ true
    pub out : reached g o ≡ false

  positive : (k : ℕ) → k ≢ 0 → 1 ≤ k
  positive k ne = grind (arith, ne)

  some_not : {A : Type 0} (x : Option ℕ) → is_some x ≡ true → x ≡ None → A
  some_not (Some z) e f = absurd cc
  some_not None e f = absurd cc

  referred : (o : ℕ) → IsBad o → (u : ℕ) × IsBad u × Contains g.pairs (u, o)
  referred o b =
      let died : flag_at t.dead o ≡ true = elim (cases_Bool (flag_at start.dead o)) [
        | inl d ↦ subst (λ (l : List Bool). flag_at l o ≡ true) (sym i.dead_is) d
        | inr d ↦ not_both (reached g o) ((decides g o).1 (root_reached g o (Contains-append_left (live_of past space) (filter (is_on_cycle reached refs) space) o (filter_keeps (is_live past) space o b.among (live_flag start n past c o fed a b.among ∙ not_from_false (flag_at start.dead o) d))))) b.out
      ] in
      let counted : count_at t.counts o ≢ 0 = λ z. Contains-none o (i.all o b.held (left_of t.dead t.counts o died z)) in
      let many : 1 ≤ all_hits t.slots o = subst (λ (k : ℕ). 1 ≤ k) (i.tables.counted o) (positive (count_at t.counts o) counted) in
      let u = all_entry t.slots o many in
      let s = hits_entry (slots_at t.slots u.0) o u.1 in
      elim (i.each u.0) [
        | inl before ↦
            let entry : Contains (slots_at start.slots u.0) (s.0, o) = subst (λ (m : Slots). Contains m (s.0, o)) before.1 s.1 in
            let target : target_at (slots_at start.slots u.0) s.0 ≡ Some o = lookup-from_Contains {eq = eq_by_cmp nat_cmp} (eq_by_cmp_equiv nat_cmp_total) s.0 o (slots_at start.slots u.0) (IsDistinct-from_sorted nat_cmp (keys_of (slots_at start.slots u.0)) (a.sorted u.0)) entry in
            let first = (in_range n past o fed (All-contains (λ p. is_made past p ≡ true) space o a.made b.among)).0 in
            let r = a.stands u.0 s.0 o target (λ z. absurd (omega (arith, first, z))) in
            let p = pair_in refs u.0 s.0 o r in
            let k = (a.among u.0 s.0 o r).0 in (
              u.0,
              record {
                among = k;
                held = ap (λ (x : Option ℕ). is_some x) before.0 ∙ held_some start n past c u.0 a k;
                out = elim (cases_Bool (reached g u.0)) [
                  | inl e ↦ not_both (reached g o) ((decides g o).1 (reached_next u.0 o ((decides g u.0).0 e) p)) b.out
                  | inr e ↦ e
                ];
              },
              p,
            )
        | inr gone ↦ absurd (Contains-none (s.0, o) (subst (λ (m : Slots). Contains m (s.0, o)) gone.2 s.1))
      ]

  -- .. and nothing else stays
  only : (o : ℕ) → Contains space o → is_held o ≡ true → reached g o ≡ true
  only o k h = elim (cases_Bool (reached g o)) [
    | inl e ↦ e
    | inr e ↦
        let bad : IsBad o = record { among = k; held = h; out = e } in
        let z = cycle_from g.pairs IsBad (n + 1) (λ x b. (let le = (in_range n past x fed (All-contains (λ p. is_made past p ≡ true) space x a.made b.among)).1 in omega (arith, le))) referred o bad in
        let y = z.1 in
        let s = of_pair refs z.0 y.next y.refers in
        let cyclic : is_on_cycle reached refs z.0 ≡ true = (decides (searched_from (targets_of refs z.0) refs) z.0).1 (y.next, target_in refs z.0 s.0 y.next s.1, y.back) in
        let root : Contains g.roots z.0 = Contains-append_right (live_of past space) (filter (is_on_cycle reached refs) space) z.0 (filter_keeps (is_on_cycle reached refs) space z.0 y.among.among cyclic) in
        not_both (reached g z.0) ((decides g z.0).1 (root_reached g z.0 root)) y.among.out
  ]

  pub unfreed_is : filter is_held space ≡ unfreed reached past c
  unfreed_is = filter_same is_held (reached g) space (λ k d lt. (let o = get_or space k d in
      bool_same (is_held o) (reached g o) (λ h. only o (k, lt, own space k d lt) h) (λ e. stays o e)))
    where
      own : (xs : List ℕ) (k d : ℕ) → k < length xs → get_or xs k (get_or xs k d) ≡ get_or xs k d
      own [] k d lt = absurd (omega (arith, lt))
      own (x ∷ xs) zero d lt = refl
      own (x ∷ xs) (suc k) d lt = own xs k d (omega (arith, lt))

  among_held : (o : ℕ) → Contains (filter is_held space) o → Contains space o × (is_held o ≡ true)
  among_held o k = filter_kept is_held space o k

  before_held : (o : ℕ) → is_held o ≡ true → (held_at t.places o ≡ held_at start.places o) × (slots_at t.slots o ≡ slots_at start.slots o)
  before_held o h = elim (i.each o) [ inl b ↦ b | inr f ↦ some_not (held_at t.places o) h f.0 ]

  held_now : (o : ℕ) → held_at t.places o ≡ cond (is_among (filter is_held space) o) (size_in past o) None
  held_now o = elim (cases_Bool (is_held o)) [
    | inl h ↦
        let b = before_held o h in
        let k = held_among start n past c o a (ap (λ (x : Option ℕ). is_some x) (sym b.0) ∙ h) in
        let in_both = contains_has (filter is_held space) o (filter_keeps is_held space o k h) in
        b.0 ∙ (held_made start n past c o a k ∙ sym (ap (λ (x : Bool). cond x (size_in past o) None) in_both))
    | inr h ↦ none (held_at t.places o) h ∙ sym (ap (λ (x : Bool). cond x (size_in past o) None) (out (is_among (filter is_held space) o) refl h))
  ]
    where
      none : (x : Option ℕ) → is_some x ≡ false → x ≡ None
      none (Some z) e = absurd cc
      none None e = refl

      out : (b : Bool) → is_among (filter is_held space) o ≡ b → is_held o ≡ false → is_among (filter is_held space) o ≡ false
      out true e h = not_both (is_held o) (among_held o (has_contains (filter is_held space) o e)).1 h
      out false e h = e

  -- a reference of what stays
  kept_reference : (u s x : ℕ) → Contains (filter (λ r. is_among (filter is_held space) r.0) refs) (u, s, x) → Contains refs (u, s, x) × Contains (filter is_held space) u
  kept_reference u s x k = (let f = filter_kept (λ (r : Reference). is_among (filter is_held space) r.0) refs (u, s, x) k in (f.0, has_contains (filter is_held space) u f.1))

  pub agrees_held : AgreesWith t n past (left_with reached past (filter is_held space) c)
  agrees_held = record {
    long = i.as_long ∙ a.long;
    dead_long = ap (λ (d : List Bool). length d) i.dead_is ∙ a.dead_long;
    tables = i.tables;
    held_is = held_now;
    made_is = λ o le. i.made_is o ∙ a.made_is o le;
    made = All-filter is_held (λ o. is_made past o ≡ true) space a.made;
    distinct = filter_distinct is_held space a.distinct;
    dead_is = λ o le. ap (λ (d : List Bool). flag_at d o) i.dead_is ∙ a.dead_is o le;
    stands = λ u s x e ne. elim (i.each u) [
      | inl b ↦
          let r = a.stands u s x (ap (λ (m : Slots). target_at m s) (sym b.1) ∙ e) ne in
          let k = (a.among u s x r).0 in
          let h : is_held u ≡ true = ap (λ (z : Option ℕ). is_some z) b.0 ∙ held_some start n past c u a k in
          filter_keeps (λ (q : Reference). is_among (filter is_held space) q.0) refs (u, s, x) r (contains_has (filter is_held space) u (filter_keeps is_held space u k h))
      | inr f ↦ nothing s x (ap (λ (m : Slots). target_at m s) (sym f.2) ∙ e)
    ];
    found = λ u s x k. (let r = kept_reference u s x k in let b = before_held u (among_held u r.1).1 in ap (λ (m : Slots). target_at m s) b.1 ∙ a.found u s x r.0);
    among = λ u s x k.
        (let r = kept_reference u s x k in
        let m = among_held u r.1 in
        let next = reached_next u x ((decides g u).0 (only u m.0 m.1)) (pair_in refs u s x r.0) in
        (r.1, filter_keeps is_held space x (a.among u s x r.0).1 (stays x ((decides g x).1 next))));
    sorted = λ u. elim (i.each u) [
      | inl b ↦ subst (λ (m : Slots). IsStrictlySortedBy nat_cmp (keys_of m)) (sym b.1) (a.sorted u)
      | inr f ↦ subst (λ (m : Slots). IsStrictlySortedBy nat_cmp (keys_of m)) (sym f.2) empty_sorted
    ];
  }
    where
      nothing : {A : Type 0} (s x : ℕ) → target_at [] s ≡ Some x → A
      nothing s x e = absurd cc

  -- what the definition leaves agrees with the tables
  pub agrees_settled : AgreesWith t n past (settled reached past c)
  agrees_settled = subst (λ (l : List ℕ). AgreesWith t n past (left_with reached past l c)) unfreed_is agrees_held

  -- each live object stays
  pub live_stays : live_of past (unfreed reached past c) ≡ live_of past space
  live_stays = both space (λ o k e. (decides g o).1 (root_reached g o (Contains-append_left (live_of past space) (filter (is_on_cycle reached refs) space) o (filter_keeps (is_live past) space o k e))))
    where
      both : (xs : List ℕ) → ((o : ℕ) → Contains xs o → is_live past o ≡ true → reached g o ≡ true) → filter (is_live past) (filter (reached g) xs) ≡ filter (is_live past) xs
      both [] h = refl
      both (x ∷ xs) h =
          let rest = both xs (λ o k e. h o (Contains-there x xs o k) e) in
          at x xs (reached g x) (is_live past x) refl refl rest (h x (Contains-here x xs))
        where
          at : (x : ℕ) (xs : List ℕ) (p q : Bool) → reached g x ≡ p → is_live past x ≡ q → filter (is_live past) (filter (reached g) xs) ≡ filter (is_live past) xs → (is_live past x ≡ true → reached g x ≡ true) → filter (is_live past) (filter (reached g) (x ∷ xs)) ≡ filter (is_live past) (x ∷ xs)
          at x xs true true e f r h = rw (e, f) (ap (λ (l : List ℕ). x ∷ l) r)
          at x xs true false e f r h = rw (e, f) r
          at x xs false false e f r h = rw (e, f) r
          at x xs false true e f r h = not_both (reached g x) (h f) e

  -- the bytes that were freed
  pub bytes_settled : freed + bytes past (unfreed reached past c) ≡ bytes past space
  bytes_settled =
      let now = weight_is t n past (settled reached past c) agrees_settled in
      let was = weight_is start n past c a in
      let all = i.bytes in
      omega (arith, now, was, all)
