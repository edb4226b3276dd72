-- The running totals of a space are those of its heap.
use Rattle.std.proofs.Common.{◌≡◌, ◌≢◌, ℕ, ◌+◌, ◌*◌, ◌^◌, ◌<◌, ◌≤◌, Bool, true, false, cond, not, ◌&&◌, eqb, leb, List, [], ◌∷◌, ◌++◌, length, get_or, Option, Some, None, refl, sym, ap, subst, ◌∙◌, arith, inl, inr, get_or-set_same, get_or-set_other, max}
use Rattle.std.specs.Prelude.{is_some, unwrap_or}
use Rattle.std.specs.List.{list_any, sum_by}
use Rattle.std.proofs.Math.ListN.{length-set, set}
use Rattle.std.proofs.lemmas.List.Filters.{sum_by-filter_both, length-filter_both}
use Rattle.std.proofs.lemmas.Bool.Decides.{nat_tests}
use Rattle.std.proofs.lemmas.List.Elements.{All-filter}
use Rattle.std.proofs.lemmas.List.Sums.{sum_by_push}
use Rattle.et_base.proofs.Tests.{cases_eqb}
use Rattle.et_replay.specs.declared.item.Item.{Item}
use Rattle.et_replay.specs.declared.item.Item.TheVariants.{Alloc, Write, Death}
use Rattle.et_replay.specs.Feeding.{MayCome, IsNewObject}
use Rattle.et_replay.specs.Heap.{size_in, is_made, is_live, ends_life, bytes}
use Rattle.et_replay.specs.Items.{made_objects}
use Rattle.et_graph.specs.Graph.{Graph}
use Rattle.et_replay.specs.declared.model.Kind.{Kind}
use Rattle.et_replay.specs.declared.model.Report.{Report}
use Rattle.et_replay.specs.declared.model.Totals.{Totals}
use Rattle.et_models.specs.declared.space.Space.{Space}
use Rattle.et_replay.specs.Tally.{heap_by, heap_after, account, totals_of, tally, Heap, fits_capacity, live_of, collect, exhaust, place, space_on, space_after}
use Rattle.et_replay.proofs.ByKey.{filter_same}
use Rattle.et_replay.specs.Fed.{AreFed}
use Rattle.et_models.specs.Tables.{size_at, flag_at, with_size, with_flag, Knows}
use Rattle.et_replay.specs.declared.model.Policy.{Policy}
use Rattle.et_models.specs.Spaces.{View, view_of, Accounts, collected, has_place, roomy, object_placed, unflagged, IsReplayedHeap}
use Rattle.et_replay.proofs.Coming.{AreMade, in_range, sum_same, bytes_stay, size_here, size_there, all_low, few_made}
use Rattle.et_models.proofs.Facts.{HasFacts, facts_ready, space_facts}

-- what the tables tell of objects that are made
pub sum_is : (n : ℕ) (past : List Item) (s : List (Option ℕ)) (d : List Bool) (xs : List ℕ) → AreFed n past → Knows s d n past → AreMade past xs → sum_by (size_at s) xs ≡ bytes past xs
sum_is n past s d xs f k m = sum_same (size_at s) (λ o. unwrap_or (size_in past o) 0) xs (λ i e lt. ap (λ (v : Option ℕ). unwrap_or v 0) (k.size_is (get_or xs i e) (in_range n past (get_or xs i e) f (m i e lt)).1))

live_test : (a b c : Bool) → a ≡ true → c ≡ b → not c ≡ (a && not b)
live_test true b c h e = ap not e
live_test false b c h e = absurd cc

pub unflagged_is : (n : ℕ) (past : List Item) (s : List (Option ℕ)) (d : List Bool) (xs : List ℕ) → AreFed n past → Knows s d n past → AreMade past xs → unflagged d xs ≡ live_of past xs
unflagged_is n past s d xs f k m = filter_same (λ o. not (flag_at d o)) (is_live past) xs
    (λ i e lt. (let o = get_or xs i e in live_test (is_made past o) (list_any (ends_life o) past) (flag_at d o) (m i e lt) (k.dead_is o (in_range n past o f (m i e lt)).1)))

pub collected_is : (n : ℕ) (past : List Item) (v : View) (heap : Heap) (most : ℕ) → AreFed n past → IsReplayedHeap v n past heap → HasFacts past heap most → IsReplayedHeap (collected v) n past (collect past heap)
collected_is n past v heap most f h a =
    let live : unflagged v.dead v.held ≡ live_of past heap.space = ap (λ (xs : List ℕ). unflagged v.dead xs) h.held_is ∙ unflagged_is n past v.sizes v.dead heap.space f h.knows a.held in
    let stay : AreMade past (live_of past heap.space) = All-filter (is_live past) (λ o. is_made past o ≡ true) heap.space a.held in
    let kept : sum_by (size_at v.sizes) (unflagged v.dead v.held) ≡ bytes past (live_of past heap.space) = ap (λ (xs : List ℕ). sum_by (size_at v.sizes) xs) live ∙ sum_is n past v.sizes v.dead (live_of past heap.space) f h.knows stay in
    let parts = sum_by-filter_both (is_live past) (λ o. not (is_live past o)) (λ o. refl) (λ o. unwrap_or (size_in past o) 0) heap.space in
    let b = h.bytes_is in let k = h.kept_is in let m = h.major_is in let r = h.freed_is in
    record {
      knows = h.knows;
      held_is = live;
      bytes_is = kept;
      minor_is = h.minor_is;
      major_is = omega (arith, m);
      kept_is = omega (arith, k, kept);
      freed_is = omega (arith, r, b, kept, parts);
      peak_is = h.peak_is;
      exhausted_is = h.exhausted_is;
    }

pub place_is : (n : ℕ) (past : List Item) (v : View) (heap : Heap) (size : ℕ) → IsReplayedHeap v n past heap → has_place size v ≡ fits_capacity past heap.space size v.capacity
place_is n past v heap size h = ap (λ (b : ℕ). leb (b + size) v.capacity) h.bytes_is

pub roomy_is : (n : ℕ) (past : List Item) (v : View) (heap : Heap) (most size : ℕ) → AreFed n past → IsReplayedHeap v n past heap → HasFacts past heap most → IsReplayedHeap (roomy size v) n past (cond (fits_capacity past heap.space size v.capacity) heap (collect past heap))
roomy_is n past v heap most size f h a =
    subst (λ (b : Bool). IsReplayedHeap (roomy size v) n past (cond b heap (collect past heap))) (place_is n past v heap size h)
    (elim (has_place size v) as (λ b. IsReplayedHeap (cond b v (collected v)) n past (cond b heap (collect past heap))) [ true ↦ h | false ↦ collected_is n past v heap most f h a ])

-- an object comes
pub knows_more : (n : ℕ) (past : List Item) (s : List (Option ℕ)) (d : List Bool) (event object size : ℕ) → IsNewObject n past object size → Knows s d n past → Knows (with_size s object size) d n (Alloc event object size ∷ past)
knows_more n past s d event object size c k = record {
  sizes_long = length-set s object (Some size) ∙ k.sizes_long;
  dead_long = k.dead_long;
  size_is = λ o le. elim (cases_eqb object o) [
    | inl e ↦
        let last = c.last in let long = k.sizes_long in
        let within : object < length s = omega (arith, last, long) in
        let here : get_or (set s object (Some size)) object None ≡ Some size = rw get_or-set_same refl in
        subst (λ (j : ℕ). get_or (set s object (Some size)) j None ≡ size_in (Alloc event object size ∷ past) j) e.1 (here ∙ sym (size_here past event object size))
    | inr e ↦
        let ne : o ≢ object = (let far = e.1 in λ (q : o ≡ object). far (sym q)) in
        let there : get_or (set s object (Some size)) o None ≡ get_or s o None = rw get_or-set_other refl in
        there ∙ (k.size_is o le ∙ sym (size_there past event object size o e.1))
  ];
  dead_is = k.dead_is;
}

zero_plus : (a b c : ℕ) → a ≡ 0 → b ≡ c → b ≡ a + c
zero_plus a b c z e = omega arith

pub placed_is : (n : ℕ) (past : List Item) (v : View) (heap : Heap) (most event object size : ℕ) → IsNewObject n past object size → IsReplayedHeap v n past heap → HasFacts past heap most
    → IsReplayedHeap (object_placed event object size v) n (Alloc event object size ∷ past) (cond (fits_capacity past heap.space size v.capacity) (place (Alloc event object size ∷ past) object heap) (exhaust event heap))
placed_is n past v heap most event object size c h a =
    let item = Alloc event object size in
    let knows = knows_more n past v.sizes v.dead event object size c h.knows in
    let same = bytes_stay n past item heap.space c a.held in
    let one : unwrap_or (size_in (item ∷ past) object) 0 ≡ size = ap (λ (s : Option ℕ). unwrap_or s 0) (size_here past event object size) in
    let more = sum_by_push (λ o. unwrap_or (size_in (item ∷ past) o) 0) heap.space object in
    let b = h.bytes_is in
    let total : v.bytes + size ≡ bytes (item ∷ past) (heap.space ++ object ∷ []) = omega (arith, b, same, one, more) in
    let young : bytes (item ∷ past) heap.nursery ≡ 0 = ap (λ (xs : List ℕ). bytes (item ∷ past) xs) a.young in
    let both = zero_plus (bytes (item ∷ past) heap.nursery) (v.bytes + size) (bytes (item ∷ past) (heap.space ++ object ∷ [])) young total in
    subst (λ (t : Bool). IsReplayedHeap (object_placed event object size v) n (item ∷ past) (cond t (place (item ∷ past) object heap) (exhaust event heap))) (place_is n past v heap size h)
    (elim (has_place size v) as (λ t. IsReplayedHeap (cond t (record v { sizes = with_size v.sizes object size; held = v.held ++ object ∷ []; bytes = v.bytes + size; peak = max v.peak (v.bytes + size) }) (record v { sizes = with_size v.sizes object size; exhausted = Some event })) n (item ∷ past) (cond t (place (item ∷ past) object heap) (exhaust event heap))) [
      | true ↦ record {
        knows = knows;
        held_is = ap (λ (xs : List ℕ). xs ++ object ∷ []) h.held_is;
        bytes_is = total;
        minor_is = h.minor_is;
        major_is = h.major_is;
        kept_is = h.kept_is;
        freed_is = h.freed_is;
        peak_is = ap (λ (p : ℕ). max p (v.bytes + size)) h.peak_is ∙ ap (λ (p : ℕ). max heap.peak p) both;
        exhausted_is = h.exhausted_is;
      }
      | false ↦ record {
        knows = knows;
        held_is = h.held_is;
        bytes_is = omega (arith, b, same);
        minor_is = h.minor_is;
        major_is = h.major_is;
        kept_is = h.kept_is;
        freed_is = h.freed_is;
        peak_is = h.peak_is;
        exhausted_is = refl;
      }
    ])

-- an object comes to a space that isn't exhausted
pub came_is : (n : ℕ) (past : List Item) (v : View) (event object size : ℕ) → n ≤ 16777215 → AreFed n past → IsNewObject n past object size → v.exhausted ≡ None → IsReplayedHeap v n past (space_after v.capacity past)
    → IsReplayedHeap (object_placed event object size (roomy size v)) n (Alloc event object size ∷ past) (space_after v.capacity (Alloc event object size ∷ past))
came_is n past v event object size few f c none h =
    let heap = space_after v.capacity past in
    let a = space_facts n v.capacity past few f in
    let low = all_low n past few f in
    let on : (heap.exhausted ≡ None) = sym h.exhausted_is ∙ none in
    let goes : is_some heap.exhausted ≡ false = ap (λ (o : Option ℕ). is_some o) on in
    let ready = cond (fits_capacity past heap.space size v.capacity) heap (collect past heap) in
    let r = roomy_is n past v heap (length (made_objects past)) size f h a in
    let b = facts_ready past size v.capacity heap (length (made_objects past)) low a in
    let p = placed_is n past (roomy size v) ready (length (made_objects past) + 1) event object size c r b in
    let cap : (roomy size v).capacity ≡ v.capacity = elim (has_place size v) as (λ t. (cond t v (collected v)).capacity ≡ v.capacity) [ true ↦ refl | false ↦ refl ] in
    let q = subst (λ (k : ℕ). IsReplayedHeap (object_placed event object size (roomy size v)) n (Alloc event object size ∷ past) (cond (fits_capacity past ready.space size k) (place (Alloc event object size ∷ past) object ready) (exhaust event ready))) cap p in
    subst (λ (t : Bool). IsReplayedHeap (object_placed event object size (roomy size v)) n (Alloc event object size ∷ past) (cond t heap (space_on v.capacity past (Alloc event object size) heap))) (sym goes) q

-- a Write item
pub wrote_is : (n : ℕ) (past : List Item) (v : View) (event object slot new : ℕ) → v.exhausted ≡ None → IsReplayedHeap v n past (space_after v.capacity past) → IsReplayedHeap v n (Write event object slot new ∷ past) (space_after v.capacity (Write event object slot new ∷ past))
wrote_is n past v event object slot new none h =
    let heap = space_after v.capacity past in
    subst (λ (g : Heap). IsReplayedHeap v n (Write event object slot new ∷ past) g) (elim (is_some heap.exhausted) as (λ t. heap ≡ cond t heap heap) [ true ↦ refl | false ↦ refl ])
    (record { knows = record { sizes_long = h.knows.sizes_long; dead_long = h.knows.dead_long; size_is = h.knows.size_is; dead_is = h.knows.dead_is }; held_is = h.held_is; bytes_is = h.bytes_is; minor_is = h.minor_is; major_is = h.major_is; kept_is = h.kept_is; freed_is = h.freed_is; peak_is = h.peak_is; exhausted_is = h.exhausted_is })

-- a Death item
pub knows_death : (n : ℕ) (past : List Item) (s : List (Option ℕ)) (d : List Bool) (object time : ℕ) → Knows s d n past → Knows s (with_flag d object) n (Death object time ∷ past)
knows_death n past s d object time k = record {
  sizes_long = k.sizes_long;
  dead_long = length-set d object true ∙ k.dead_long;
  size_is = k.size_is;
  dead_is = λ o le. elim (cases_eqb object o) [
    | inl e ↦
        let same = e.1 in let long = k.dead_long in
        let within : object < length d = omega (arith, same, le, long) in
        let here : get_or (set d object true) object false ≡ true = rw get_or-set_same refl in
        let told : list_any (ends_life object) (Death object time ∷ past) ≡ true = (let y : eqb object object ≡ true = grind (arith, nat_tests) in rw y refl) in
        subst (λ (j : ℕ). get_or (set d object true) j false ≡ list_any (ends_life j) (Death object time ∷ past)) e.1 (here ∙ sym told)
    | inr e ↦
        let ne : o ≢ object = (let far = e.1 in λ (q : o ≡ object). far (sym q)) in
        let there : get_or (set d object true) o false ≡ get_or d o false = rw get_or-set_other refl in
        let no : eqb object o ≡ false = e.0 in
        let untold : list_any (ends_life o) (Death object time ∷ past) ≡ list_any (ends_life o) past = rw no refl in
        there ∙ (k.dead_is o le ∙ sym untold)
  ];
}

pub died_is : (n : ℕ) (past : List Item) (v : View) (object time : ℕ) → v.exhausted ≡ None → IsReplayedHeap v n past (space_after v.capacity past) → IsReplayedHeap (record v { dead = with_flag v.dead object }) n (Death object time ∷ past) (space_after v.capacity (Death object time ∷ past))
died_is n past v object time none h =
    let heap = space_after v.capacity past in
    subst (λ (g : Heap). IsReplayedHeap (record v { dead = with_flag v.dead object }) n (Death object time ∷ past) g) (elim (is_some heap.exhausted) as (λ t. heap ≡ cond t heap heap) [ true ↦ refl | false ↦ refl ])
    (record { knows = knows_death n past v.sizes v.dead object time h.knows; held_is = h.held_is; bytes_is = h.bytes_is; minor_is = h.minor_is; major_is = h.major_is; kept_is = h.kept_is; freed_is = h.freed_is; peak_is = h.peak_is; exhausted_is = h.exhausted_is })

-- what is kept is no more than all
pub kept_le : (s s' : List (Option ℕ)) (d d' : List Bool) (held xs : List ℕ) → s' ≡ s → d' ≡ d → xs ≡ unflagged d' held → sum_by (size_at s') xs ≤ sum_by (size_at s) held
kept_le s s' d d' held xs e g h =
    let both = sum_by-filter_both (λ o. not (flag_at d o)) (λ o. not (not (flag_at d o))) (λ o. refl) (size_at s) held in
    let is : sum_by (size_at s') xs ≡ sum_by (size_at s) (unflagged d held) = ap (λ (t : List (Option ℕ)). sum_by (size_at t) xs) e ∙ ap (λ (t : List ℕ). sum_by (size_at s) t) (h ∙ ap (λ (t : List Bool). unflagged t held) g) in
    omega (arith, both, is)

-- what is needed to take an object
pub record CanTake (v : View) (n : ℕ) : Type 0 where
  pub sums : sum_by (size_at v.sizes) v.held ≡ v.bytes
  pub low : v.bytes ≤ 2 ^ 54
  pub freed : v.freed + v.bytes ≤ 2 ^ 54
  pub major : v.major ≤ n
  pub kept : v.kept ≤ v.major * 2 ^ 54
  pub short : length v.held < n

pub can_take : (n : ℕ) (past : List Item) (v : View) (event object size : ℕ) → n ≤ 16777215 → AreFed n past → IsNewObject n past object size → IsReplayedHeap v n past (space_after v.capacity past) → CanTake v n
can_take n past v event object size few f c h =
    let heap = space_after v.capacity past in
    let a = space_facts n v.capacity past few f in
    let low = all_low n past few f in
    let many = few_made n (Alloc event object size ∷ past) (f, c) in
    let b = h.bytes_is in let r = h.freed_is in let m = h.major_is in let k = h.kept_is in
    let sums = a.sums in let major = a.few in let kept = a.kept_low in let short = a.short in
    let long = ap (λ (xs : List ℕ). length xs) h.held_is in
    record {
      sums = ap (λ (xs : List ℕ). sum_by (size_at v.sizes) xs) h.held_is ∙ (sum_is n past v.sizes v.dead heap.space f h.knows a.held ∙ sym b);
      low = omega (arith, b, sums, low);
      freed = omega (arith, b, r, sums, low);
      major = omega (arith, m, major, many);
      kept = omega (arith, k, m, kept);
      short = omega (arith, long, short, many);
    }

-- what may come after these items may come after all that the space stands for
pub may_come : (n n' : ℕ) (past past' : List Item) (v : View) (heap heap' : Heap) (item : Item) → IsReplayedHeap v n past heap → IsReplayedHeap v n' past' heap' → MayCome n past item → MayCome n' past' item
may_come n n' past past' v heap heap' (Alloc event object size) h h' c =
    let a = h.knows.sizes_long in let b = h'.knows.sizes_long in
    let last = c.last in
    let same : n ≡ n' = omega (arith, a, b) in
    let le : object ≤ n' = omega (arith, last, same) in
    record { first = c.first; last = le; new = ap (λ (s : Option ℕ). is_some s) (sym (h'.knows.size_is object le) ∙ h.knows.size_is object last) ∙ c.new; small = c.small }
may_come n n' past past' v heap heap' (Write event object slot new) h h' c = c
may_come n n' past past' v heap heap' (Death object time) h h' c = c

-- what is left to take it, once there was room made
pub record CanPlace (v : View) (n size : ℕ) : Type 0 where
  pub fits : v.bytes + size < 2 ^ 64
  pub short : length v.held < n

pub can_place : (v : View) (n size : ℕ) → size ≤ 2 ^ 30 → CanTake v n → CanPlace (roomy size v) n size
can_place v n size small t = elim (has_place size v) as (λ b. CanPlace (cond b v (collected v)) n size) [
  | true ↦ (let low = t.low in record { fits = omega (arith, low, small); short = t.short })
  | false ↦
      let le = kept_le v.sizes v.sizes v.dead v.dead v.held (unflagged v.dead v.held) refl refl refl in
      let sums = t.sums in let low = t.low in let short = t.short in
      let both = length-filter_both (λ o. not (flag_at v.dead o)) (λ o. not (not (flag_at v.dead o))) (λ o. refl) v.held in
      record { fits = omega (arith, le, sums, low, small); short = omega (arith, both, short) }
]

pub placed_capacity : (event object size : ℕ) (v : View) → (object_placed event object size (roomy size v)).capacity ≡ v.capacity
placed_capacity event object size v = after_place (roomy size v) ∙ after_room
  where
    after_room : (roomy size v).capacity ≡ v.capacity
    after_room = elim (has_place size v) as (λ b. (cond b v (collected v)).capacity ≡ v.capacity) [ true ↦ refl | false ↦ refl ]

    after_place : (u : View) → (object_placed event object size u).capacity ≡ u.capacity
    after_place u = elim (has_place size u) as (λ b. (cond b (record u { sizes = with_size u.sizes object size; held = u.held ++ object ∷ []; bytes = u.bytes + size; peak = max u.peak (u.bytes + size) }) (record u { sizes = with_size u.sizes object size; exhausted = Some event })).capacity ≡ u.capacity) [ true ↦ refl | false ↦ refl ]

-- the totals of a space are those of the heap
totals_are : (n : ℕ) (past : List Item) (v : View) (heap : Heap) (totals : Totals) → IsReplayedHeap v n past heap → totals ≡ record { minor = v.minor; major = v.major; kept = v.kept; freed = v.freed; peak = v.peak; exhausted = v.exhausted } → totals ≡ totals_of heap
totals_are n past v heap totals h is =
    let f = h.minor_is in let a = h.major_is in let b = h.kept_is in let c = h.freed_is in let d = h.peak_is in let e = h.exhausted_is in
    cc

-- the report of a space is the tally of its policy
pub is_tally : (reached : Graph → ℕ → Bool) (space : Space) (own policy : Policy) (kind : Kind) (capacity n : ℕ) (past : List Item) → ((k : Kind) → k ≡ kind → heap_by reached k policy.first policy.second past ≡ space_after capacity past) → Accounts own policy kind capacity space n past → record { policy = own; totals = space.totals } ≡ tally reached policy past
is_tally reached space own policy kind capacity n past by a =
    let s = a.stands in
    let heap : heap_after reached policy past ≡ space_after space.capacity past = by policy.kind a.kind_is ∙ ap (λ (k : ℕ). space_after k past) (sym a.capacity_is) in
    let totals = totals_are n past (view_of space) (space_after space.capacity past) space.totals s.heap refl in
    let own_is = a.policy_is in
    let to : Policy → Totals → Report = λ p t. record { policy = p; totals = t } in
    ap (λ (p : Policy). to p space.totals) own_is ∙ (ap (λ (t : Totals). to policy t) totals ∙ ap (λ (h : Heap). account policy h) (sym heap))
