-- A heap with reference counts accounts for all items as its policy does.
use Rattle.std.proofs.Common.{◌≡◌, ℕ, zero, suc, ◌+◌, ◌-◌, ◌^◌, ◌<◌, ◌≤◌, Bool, true, false, cond, not, List, [], ◌∷◌, replicate, Option, Some, refl, sym, ap, subst, ◌∙◌, arith, inl, inr}
use Rattle.std.specs.Prelude.{is_some, unwrap_or, nat_eq}
use Rattle.std.specs.List.{IsDistinct}
use Rattle.std.specs.List.Sorted.{IsStrictlySortedBy}
use Rattle.std.specs.Map.{keys_of}
use Rattle.std.specs.Ordering.{nat_cmp}
use Rattle.std.proofs.Math.ListN.{set}
use Rattle.std.proofs.lemmas.Bool.{cond-false, cond-true, le-leb, lt-leb, cases_Bool}
use Rattle.std.proofs.lemmas.List.{length-replicate}
use Rattle.std.proofs.lemmas.List.Filters.{sum_by-filter_both}
use Rattle.et_base.proofs.Lists.{Contains-none, all_same}
use Rattle.et_graph.specs.Graph.{Graph, Decides}
use Rattle.et_graph.proofs.Walks.{is_reached, is_reached_decides}
use Rattle.et_replay.specs.declared.item.Item.{Item}
use Rattle.et_replay.specs.declared.item.Item.TheVariants.{Alloc, Write, Death}
use Rattle.et_replay.specs.declared.model.Kind.{Kind}
use Rattle.et_replay.specs.declared.model.Kind.TheVariants.{RefCount}
use Rattle.et_replay.specs.declared.model.Policy.{Policy}
use Rattle.et_replay.specs.declared.model.Report.{Report}
use Rattle.et_replay.specs.declared.model.Totals.{Totals}
use Rattle.et_refcount.specs.declared.counts.Counts.{Counts}
use Rattle.et_replay.specs.Feeding.{MayCome, HasItemRoom}
use Rattle.et_replay.specs.Heap.{size_in, is_live, bytes}
use Rattle.et_replay.specs.Tally.{account, totals_of, Heap, Counted, empty_counted, fits_capacity, exhaust, live_of, dead_of, unfreed, settled, entered, counted_on, counted_after, heap_by, heap_after, tally, is_exhausted}
use Rattle.et_replay.proofs.Coming.{all_low, not_both}
use Rattle.et_refcount.specs.declared.objects.Place.{Place}
use Rattle.et_refcount.specs.declared.objects.Place.TheVariants.{Unmade}
use Rattle.et_refcount.specs.Objects.{Tables, Slots, size_of, is_not_unmade, held_at, flag_at, slots_at, target_at, hits, all_hits, weight, is_left, empty_tables, IsFreeing}
use Rattle.et_refcount.specs.Counts.{View, AgreesWith, IsReady, IsCountedHeap, Settles, TakesItem, WritesTo, Accounts, placed, left_out, ended, opened, view_of}
use Rattle.et_refcount.proofs.Hits.{all-cons}
use Rattle.et_refcount.proofs.Noting.{left_out_stands, placed_ready, ended_ready, written_ready}
use Rattle.et_refcount.proofs.Settling.{empty_sorted, weight_is, agrees_settled, live_stays, bytes_settled}

-- WHAT FITS

pub record IsLow (v : View) : Type 0 where
  pub bytes : v.freed + v.bytes ≤ 2 ^ 54
  pub leaked : v.leaked ≤ v.bytes
  pub weight : weight v.tables.places ≡ v.bytes

pub ready_low : (v : View) (object n : ℕ) (past : List Item) (c : Counted) → IsReady v object n past c → IsLow v
ready_low v object n past c r =
    let low = all_low n past r.few r.fed in
    let t = r.totals in let b = t.bytes_is in let f = t.freed_is in let s = t.sums in
    let l = r.leaked_is in
    record { bytes = omega (arith, low, b, f, s); leaked = omega (arith, l); weight = weight_is v.tables n past c r.agrees ∙ sym t.bytes_is }

pub heap_low : (v : View) (n : ℕ) (past : List Item) (c : Counted) → IsCountedHeap v n past c → IsLow v
heap_low v n past c r =
    let low = all_low n past r.few r.fed in
    let t = r.totals in let b = t.bytes_is in let f = t.freed_is in let s = t.sums in
    let l = r.leaked_is in let k = r.kept_is in
    record { bytes = omega (arith, low, b, f, s); leaked = omega (arith, l, k, b); weight = weight_is v.tables n past c r.agrees ∙ sym t.bytes_is }

-- what is freed was leaked
pub record IsFreedLow (v : View) (gone : ℕ) : Type 0 where
  pub bytes : gone ≤ v.bytes
  pub leaked : gone ≤ v.leaked
  pub freed : v.freed + gone ≤ 2 ^ 54

live_part : (past : List Item) (xs : List ℕ) → bytes past (live_of past xs) + bytes past (dead_of past xs) ≡ bytes past xs
live_part past xs = let s = sum_by-filter_both (is_live past) (λ o. not (is_live past o)) (λ o. refl) (λ o. unwrap_or (size_in past o) 0) xs in omega (arith, s)

pub freed_low : (v : View) (t : Tables) (object n : ℕ) (past : List Item) (c : Counted) (freed : ℕ) → IsReady v object n past c → IsFreeing v.tables t [] freed → IsFreedLow v freed
freed_low v t object n past c freed r i =
    let all = bytes_settled is_reached is_reached_decides v.tables t n past c freed r.fed r.agrees i in
    let live : bytes past (live_of past (unfreed is_reached past c)) ≡ bytes past (live_of past c.heap.space) = ap (λ (xs : List ℕ). bytes past xs) (live_stays is_reached is_reached_decides v.tables t n past c freed r.fed r.agrees i) in
    let part = live_part past (unfreed is_reached past c) in
    let b = r.totals.bytes_is in let l = r.leaked_is in
    let low = (ready_low v object n past c r).bytes in
    record { bytes = omega (arith, all, b); leaked = omega (arith, all, live, part, b, l); freed = omega (arith, all, b, low) }

abbrev after_freeing : View → Tables → ℕ → View
after_freeing v t freed = record v { tables = t; bytes = v.bytes - freed; leaked = v.leaked - freed; freed = v.freed + freed }

pub settles : (v : View) (t : Tables) (object freed : ℕ) → IsFreeing v.tables t [] freed → Settles v (after_freeing v t freed) object
settles v t object freed i = record {
  capacity_is = refl;
  settled = λ n past c r reached decides.
      (let agrees = agrees_settled reached decides v.tables t n past c freed r.fed r.agrees i in
      let all = bytes_settled reached decides v.tables t n past c freed r.fed r.agrees i in
      let stay = unfreed reached past c in
      let live : bytes past (live_of past stay) ≡ bytes past (live_of past c.heap.space) = ap (λ (xs : List ℕ). bytes past xs) (live_stays reached decides v.tables t n past c freed r.fed r.agrees i) in
      let part = live_part past stay in
      let o = r.totals in
      let b = o.bytes_is in let f = o.freed_is in let s = o.sums in let l = r.leaked_is in
      record {
        few = r.few;
        fed = r.fed;
        agrees = agrees;
        totals = record {
          bytes_is = omega (arith, all, b);
          freed_is = omega (arith, all, f);
          peak_is = o.peak_is;
          exhausted_is = o.exhausted_is;
          nursery_none = o.nursery_none;
          minor_is = o.minor_is;
          major_is = o.major_is;
          sums = omega (arith, all, s);
        };
        leaked_is = omega (arith, all, live, part, b, l);
        kept_is = omega (arith, part);
        none = λ x h. elim (cases_Bool (is_left t.dead t.counts x)) [ inl e ↦ absurd (Contains-none x (i.all x h e)) | inr e ↦ e ];
      });
}

-- EACH ITEM

-- an object for which there is no room
pub takes_none : (v : View) (event object size : ℕ) → v.capacity < v.bytes + size → TakesItem (Alloc event object size) v (left_out event object v)
takes_none v event object size lt = record {
  capacity_is = refl;
  taken = λ n past c new h reached decides.
      (let b = h.totals.bytes_is in
      subst (λ (d : Counted). IsCountedHeap (left_out event object v) n (Alloc event object size ∷ past) d)
      (sym (cond-false (fits_capacity past c.heap.space size v.capacity) (settled reached (Alloc event object size ∷ past) (entered (Alloc event object size ∷ past) object c)) (record c { heap = exhaust event c.heap }) (lt-leb (bytes past c.heap.space + size) v.capacity (omega (arith, lt, b)))))
      (left_out_stands v n past c event object size new h));
}

-- .. and one that is placed
pub takes_some : (v v' : View) (event object size : ℕ) → v.bytes + size ≤ v.capacity → Settles (placed object size v) v' object → TakesItem (Alloc event object size) v v'
takes_some v v' event object size le s = record {
  capacity_is = s.capacity_is;
  taken = λ n past c new h reached decides.
      (let b = h.totals.bytes_is in
      subst (λ (d : Counted). IsCountedHeap v' n (Alloc event object size ∷ past) d)
      (sym (cond-true (fits_capacity past c.heap.space size v.capacity) (settled reached (Alloc event object size ∷ past) (entered (Alloc event object size ∷ past) object c)) (record c { heap = exhaust event c.heap }) (le-leb (bytes past c.heap.space + size) v.capacity (omega (arith, le, b)))))
      (s.settled n (Alloc event object size ∷ past) (entered (Alloc event object size ∷ past) object c) (placed_ready v n past c event object size new h) reached decides));
}

pub takes_write : (v w v' : View) (event object slot new old : ℕ) → WritesTo object slot new old v w → Settles w v' old → TakesItem (Write event object slot new) v v'
takes_write v w v' event object slot new old x s = record {
  capacity_is = s.capacity_is ∙ ap (λ (u : View). u.capacity) x.rest;
  taken = λ n past c may h reached decides. s.settled n (Write event object slot new ∷ past) _ (written_ready v w n past c event object slot new old h x) reached decides;
}

pub takes_death : (v v' : View) (object time : ℕ) → Settles (ended object v) v' object → TakesItem (Death object time) v v'
takes_death v v' object time s = record {
  capacity_is = s.capacity_is ∙ at (flag_at v.tables.dead object);
  taken = λ n past c may h reached decides. s.settled n (Death object time ∷ past) c (ended_ready v n past c object time h) reached decides;
}
  where
    at : (b : Bool) → (cond b v (record v { tables = record v.tables { dead = set v.tables.dead object true }; leaked = v.leaked + unwrap_or (held_at v.tables.places object) 0 })).capacity ≡ v.capacity
    at true = refl
    at false = refl

-- ALL ITEMS

pub stands_next : (own policy : Policy) (v v' : View) (n : ℕ) (past : List Item) (item : Item) → is_some v.exhausted ≡ false → MayCome n past item → TakesItem item v v' → Accounts own policy v n past → Accounts own policy v' n (item ∷ past)
stands_next own policy v v' n past item room may s t = record {
  policy_is = t.policy_is;
  kind_is = t.kind_is;
  capacity_is = s.capacity_is ∙ t.capacity_is;
  stands = λ reached decides.
      (let c = counted_after reached v.capacity past in
      let h = t.stands reached decides in
      let none : is_some c.heap.exhausted ≡ false = ap (λ (e : Option ℕ). is_some e) (sym h.totals.exhausted_is) ∙ room in
      let next = s.taken n past c may h reached decides in
      let here = subst (λ (d : Counted). IsCountedHeap v' n (item ∷ past) d) (sym (cond-false (is_some c.heap.exhausted) c (counted_on reached v.capacity past item c) none)) next in
      subst (λ (k : ℕ). IsCountedHeap v' n (item ∷ past) (counted_after reached k (item ∷ past))) (sym s.capacity_is) here);
}

by_kind : (reached : Graph → ℕ → Bool) (k : Kind) (first second : ℕ) (past : List Item) → k ≡ RefCount → heap_by reached k first second past ≡ (counted_after reached first past).heap
by_kind reached k first second past e = subst (λ (j : Kind). heap_by reached j first second past ≡ (counted_after reached first past).heap) (sym e) refl

pub stands_heap : (reached : Graph → ℕ → Bool) (own policy : Policy) (v : View) (n : ℕ) (past : List Item) → Accounts own policy v n past → heap_after reached policy past ≡ (counted_after reached v.capacity past).heap
stands_heap reached own policy v n past t = by_kind reached policy.kind policy.first policy.second past t.kind_is ∙ ap (λ (k : ℕ). (counted_after reached k past).heap) (sym t.capacity_is)

totals_are : (v : View) (n : ℕ) (past : List Item) (c : Counted) (totals : Totals) → IsCountedHeap v n past c → totals ≡ record { minor = v.minor; major = v.major; kept = v.leaked; freed = v.freed; peak = v.peak; exhausted = v.exhausted } → totals ≡ totals_of c.heap
totals_are v n past c totals h is =
    let a = h.leaked_is in let b = h.totals.freed_is in let d = h.totals.peak_is in let e = h.totals.exhausted_is in let f = h.totals.minor_is in let g = h.totals.major_is in
    cc

pub stands_tally : (reached : Graph → ℕ → Bool) → Decides reached → (own policy : Policy) (counts : Counts) (n : ℕ) (past : List Item) → Accounts own policy (view_of counts) n past → record { policy = own; totals = counts.totals } ≡ tally reached policy past
stands_tally reached decides own policy counts n past t =
    let v = view_of counts in
    let totals = totals_are v n past (counted_after reached v.capacity past) counts.totals (t.stands reached decides) refl in
    let to : Policy → Totals → Report = λ p t. record { policy = p; totals = t } in
    ap (λ (p : Policy). to p counts.totals) t.policy_is ∙ (ap (λ (t : Totals). to policy t) totals ∙ ap (λ (h : Heap). account policy h) (sym (stands_heap reached own policy v n past t)))

pub stands_exhausted : (reached : Graph → ℕ → Bool) → Decides reached → (own policy : Policy) (v : View) (n : ℕ) (past : List Item) → Accounts own policy v n past → is_some v.exhausted ≡ is_exhausted reached policy past
stands_exhausted reached decides own policy v n past t = (let h = t.stands reached decides in ap (λ (e : Option ℕ). is_some e) h.totals.exhausted_is ∙ ap (λ (g : Heap). is_some g.exhausted) (sym (stands_heap reached own policy v n past t)))

pub stands_room : (own policy : Policy) (v : View) (n : ℕ) (past : List Item) → Accounts own policy v n past → HasItemRoom policy past → is_some v.exhausted ≡ false
stands_room own policy v n past t r = stands_exhausted r.reached r.decides own policy v n past t ∙ r.room

-- what may come after some items may come after all that the tables know
pub may_move : (v : View) (n n' : ℕ) (past past' : List Item) (c c' : Counted) (item : Item) → IsCountedHeap v n past c → IsCountedHeap v n' past' c' → MayCome n past item → MayCome n' past' item
may_move v n n' past past' c c' (Alloc event object size) h h' m =
    let a = h.agrees.long in let b = h'.agrees.long in
    let last = m.last in
    let same : n ≡ n' = omega (arith, a, b) in
    let le : object ≤ n' = omega (arith, last, same) in
    record { first = m.first; last = le; new = sym (h'.agrees.made_is object le) ∙ (h.agrees.made_is object last ∙ m.new); small = m.small }
may_move v n n' past past' c c' (Write event object slot new) h h' m = m
may_move v n n' past past' c c' (Death object time) h h' m = m

-- AT FIRST

nothing : (x : ℕ) (s t : ℕ) (n : ℕ) → target_at (slots_at (replicate n []) x) s ≡ Some t → ⊥
nothing x s t n e = none (subst (λ (m : Slots). target_at m s ≡ Some t) (all_same n x []) e)
  where
    none : target_at [] s ≡ Some t → ⊥
    none f = cc

no_hits : (k t : ℕ) → all_hits (replicate k []) t ≡ 0
no_hits zero t = refl
no_hits (suc k) t = (let s = all-cons [] (replicate k []) t in let ih = no_hits k t in let z : hits [] t ≡ 0 = refl in omega (arith, s, ih, z))

none_distinct : IsDistinct nat_eq []
unfolding IsDistinct
none_distinct = tt

empty_agrees : (n : ℕ) → AgreesWith (empty_tables (n + 1)) n [] empty_counted
empty_agrees n = record {
  long = length-replicate (n + 1) Unmade;
  dead_long = length-replicate (n + 1) false;
  tables = record {
    slots_long = length-replicate (n + 1) [] ∙ sym (length-replicate (n + 1) Unmade);
    counts_long = length-replicate (n + 1) 0 ∙ sym (length-replicate (n + 1) Unmade);
    counted = λ o. all_same (n + 1) o 0 ∙ sym (no_hits (n + 1) o);
  };
  held_is = λ o. ap (λ (p : Place). size_of p) (all_same (n + 1) o Unmade);
  made_is = λ o le. ap (λ (p : Place). is_not_unmade p) (all_same (n + 1) o Unmade);
  made = λ k d lt. absurd (omega (arith, lt));
  distinct = none_distinct;
  dead_is = λ o le. all_same (n + 1) o false;
  stands = λ u s x e ne. absurd (nothing u s x (n + 1) e);
  found = λ u s x k. absurd (Contains-none (u, s, x) k);
  among = λ u s x k. absurd (Contains-none (u, s, x) k);
  sorted = λ u. subst (λ (m : Slots). IsStrictlySortedBy nat_cmp (keys_of m)) (sym (all_same (n + 1) u [])) empty_sorted;
}

pub opened_stands : (policy : Policy) (n : ℕ) → n ≤ 16777215 → policy.kind ≡ RefCount → Accounts policy policy (opened policy.first n) n []
opened_stands policy n few kind = record {
  policy_is = refl;
  kind_is = kind;
  capacity_is = refl;
  stands = λ reached decides. record {
    few = few;
    fed = tt;
    agrees = empty_agrees n;
    totals = record { bytes_is = refl; freed_is = refl; peak_is = refl; exhausted_is = refl; nursery_none = refl; minor_is = refl; major_is = refl; sums = omega arith };
    leaked_is = refl;
    kept_is = refl;
    none = λ o h. absurd (not_held o h);
  };
}
  where
    not_held : (o : ℕ) → is_some (held_at (replicate (n + 1) Unmade) o) ≡ true → ⊥
    not_held o h = not_both (is_some (held_at (replicate (n + 1) Unmade) o)) h (ap (λ (p : Place). is_some (size_of p)) (all_same (n + 1) o Unmade))

-- ONE ITEM, WHATEVER THE HEAP STANDS FOR

-- the heap is ready to take it
pub can_take : (own policy : Policy) (v : View) (n : ℕ) (past : List Item) (item : Item) → Accounts own policy v n past → MayCome n past item → (m : ℕ) × (seen : List Item) × (c : Counted) × IsCountedHeap v m seen c × MayCome m seen item
can_take own policy v n past item t may = (n, past, counted_after is_reached v.capacity past, t.stands is_reached is_reached_decides, may)

pub takes_next : (own policy policy' : Policy) (v v' : View) (n n' : ℕ) (past past' : List Item) (item : Item) → Accounts own policy v n past → HasItemRoom policy past → MayCome n past item → TakesItem item v v' → Accounts own policy' v n' past' → Accounts own policy' v' n' (item ∷ past')
takes_next own policy policy' v v' n n' past past' item t room may s t' =
    let h = t.stands is_reached is_reached_decides in
    let h' = t'.stands is_reached is_reached_decides in
    let may' = may_move v n n' past past' (counted_after is_reached v.capacity past) (counted_after is_reached v.capacity past') item h h' may in
    stands_next own policy' v v' n' past' item (stands_room own policy v n past t room) may' s t'
