-- The slots of one object, as they are taken out and written to.
use Rattle.std.proofs.Common.{◌≡◌, ◌≢◌, ℕ, ◌+◌, ◌-◌, ◌<◌, ◌≤◌, Bool, cond, eqb, List, [], length, get_or, Option, Some, None, refl, sym, ap, subst, ◌∙◌, arith, inl, inr}
use Rattle.std.specs.Prelude.{unwrap_or, option_map}
use Rattle.std.specs.List.{sum_by}
use Rattle.std.specs.List.Sorted.{IsStrictlySortedBy}
use Rattle.std.specs.Map.{keys_of, values_of}
use Rattle.std.specs.BTreeMap.{BTreeMap, is_at, insert_entry}
use Rattle.std.specs.Ordering.{is_eq, nat_cmp}
use Rattle.std.specs.declared.cmp.Ordering.TheVariants.{Less, Equal, Greater}
use Rattle.std.specs.Cmp.{nat_cmp_is, nat_cmp_total}
use Rattle.std.proofs.Math.ListN.{set, length-set}
use Rattle.std.proofs.lemmas.List.{get_or-set_same, get_or-set_other, get_or-map, length-map, map-set}
use Rattle.std.proofs.lemmas.List.Sums.{get_or-le-sum_by, sum_by-set}
use Rattle.std.proofs.lemmas.Map.Entries.{sum_by-insert_entry}
use Rattle.std.proofs.lemmas.Bool.{cases_lt}
use Rattle.et_base.proofs.Tests.{cases_eqb}
use Rattle.et_refcount.specs.declared.objects.Place.TheVariants.{Gone}
use Rattle.et_refcount.specs.Objects.{Slots, Tables, slots_of, held_at, count_at, slots_at, target_at, is_target, hits, all_hits, added, dropped, left_by, Released, FreesOne, AreCounted, WritesReference}
use Rattle.et_refcount.proofs.Freeing.{held_within}
use Rattle.et_refcount.proofs.Hits.{hits_found, target_yes, target_no}
use Rattle.et_refcount.proofs.Releasing.{counted_within}

-- the slots of an object in the table of maps
pub own_is : (maps : List (BTreeMap ℕ ℕ)) (object : ℕ) (m : BTreeMap ℕ ℕ) → object < length maps → m ≡ get_or maps object m → slots_at (slots_of maps) object ≡ m.entries
own_is maps object m lt e = get_or-map (λ (k : BTreeMap ℕ ℕ). k.entries) maps object m [] lt ∙ ap (λ (k : BTreeMap ℕ ℕ). k.entries) (sym e)

pub maps_long : (t : Tables) (maps : List (BTreeMap ℕ ℕ)) → AreCounted t → t.slots ≡ slots_of maps → length maps ≡ length t.places
maps_long t maps a e = sym (length-map maps (λ (k : BTreeMap ℕ ℕ). k.entries)) ∙ (ap (λ (l : List Slots). length l) (sym e) ∙ a.slots_long)

-- a slot's place in the order tells whether it is the same one
pub same_slot : (a b : ℕ) → is_at (nat_cmp a) b ≡ eqb a b
same_slot a b = elim (cases_eqb a b) [
  | inl e ↦ ap is_eq (sym (nat_cmp_is a b Equal e.1)) ∙ sym e.0
  | inr e ↦ elim (cases_lt a b) [
    | inl lt ↦ ap is_eq (sym (nat_cmp_is a b Less lt)) ∙ sym e.0
    | inr ge ↦ (let ne = e.1 in let gt : b < a = apart a b ge ne in ap is_eq (sym (nat_cmp_is a b Greater gt)) ∙ sym e.0)
  ]
]
  where
    apart : (x y : ℕ) → y ≤ x → x ≢ y → y < x
    apart x y le n = grind arith

-- TAKEN OUT

pub own_low : (t : Tables) (maps : List (BTreeMap ℕ ℕ)) (object size : ℕ) (m own : BTreeMap ℕ ℕ) (counts : List ℕ) → AreCounted t → t.slots ≡ slots_of maps → held_at t.places object ≡ Some size → m ≡ get_or maps object m → own ≡ m → counts ≡ t.counts → (o : ℕ) → hits own.entries o ≤ count_at counts o
own_low t maps object size m own counts a slots was at same counts_is o =
    let in_places = held_within t.places object size was in
    let long = maps_long t maps a slots in
    let lt : object < length maps = omega (arith, in_places, long) in
    let slots_long = a.slots_long in
    let in_slots : object < length t.slots = omega (arith, in_places, slots_long) in
    let entries : slots_at t.slots object ≡ own.entries = ap (λ (l : List Slots). slots_at l object) slots ∙ (own_is maps object m lt at ∙ ap (λ (k : BTreeMap ℕ ℕ). k.entries) (sym same)) in
    let le = get_or-le-sum_by (λ (s : Slots). hits s o) t.slots object [] in_slots in
    let here : hits (slots_at t.slots object) o ≡ hits own.entries o = ap (λ (s : Slots). hits s o) entries in
    let counted = a.counted o in
    let now : count_at counts o ≡ count_at t.counts o = ap (λ (l : List ℕ). count_at l o) counts_is in
    omega (arith, le, here, counted, now)

pub freed_one : (t : Tables) (maps : List (BTreeMap ℕ ℕ)) (object size : ℕ) (m own empty : BTreeMap ℕ ℕ) (dead : List Bool) (counts counts' counts'' work work' : List ℕ) → AreCounted t → t.slots ≡ slots_of maps → held_at t.places object ≡ Some size → m ≡ get_or maps object m → own ≡ m → empty.entries ≡ [] → dead ≡ t.dead → counts ≡ t.counts → counts'' ≡ counts' → Released own.entries dead counts work counts' work'
    → FreesOne object size t (record { places = set t.places object Gone; dead = t.dead; counts = counts''; slots = slots_of (set maps object empty) }) work work'
freed_one t maps object size m own empty dead counts counts' counts'' work work' a slots was at same none dead_is counts_is last r =
    let in_places = held_within t.places object size was in
    let long = maps_long t maps a slots in
    let lt : object < length maps = omega (arith, in_places, long) in
    let entries : own.entries ≡ slots_at t.slots object = ap (λ (k : BTreeMap ℕ ℕ). k.entries) same ∙ (sym (own_is maps object m lt at) ∙ ap (λ (l : List Slots). slots_at l object) (sym slots)) in
    record {
      was = was;
      places_is = refl;
      dead_is = refl;
      slots_is = map-set (λ (k : BTreeMap ℕ ℕ). k.entries) maps object empty ∙ (ap (λ (s : Slots). set (slots_of maps) object s) none ∙ ap (λ (l : List Slots). set l object []) (sym slots));
      released = subst (λ (s : Slots). Released s t.dead t.counts work counts'' work') entries (subst (λ (d : List Bool). Released own.entries d t.counts work counts'' work') dead_is (subst (λ (k : List ℕ). Released own.entries dead k work counts'' work') counts_is (subst (λ (k : List ℕ). Released own.entries dead counts work k work') (sym last) r)));
    }

-- WRITTEN TO

added_is : (counts : List ℕ) (new o : ℕ) → new < length counts → count_at (added counts new) o ≡ count_at counts o + is_target o new
added_is counts new o lt = elim (cases_eqb o new) [
  | inl e ↦ subst (λ (k : ℕ). count_at (added counts new) k ≡ count_at counts k + is_target k new) (sym e.1) (get_or-set_same counts new (count_at counts new + 1) 0 lt ∙ (let one = target_yes new in omega (arith, one)))
  | inr e ↦ (let far = e.1 in let none = target_no o new (λ q. far (sym q)) in let same = get_or-set_other counts new o (count_at counts new + 1) 0 e.1 in omega (arith, none, same))
]

-- what stood in the slot has a count
pub old_counted : (t : Tables) (maps : List (BTreeMap ℕ ℕ)) (object slot new old : ℕ) (m : BTreeMap ℕ ℕ) (counts : List ℕ) → AreCounted t → t.slots ≡ slots_of maps → object < length t.places → new < length t.places → m ≡ get_or maps object m → target_at m.entries slot ≡ Some old → counts ≡ added t.counts new → 1 ≤ count_at counts old
old_counted t maps object slot new old m counts a slots in_places new_in at was is =
    let long = maps_long t maps a slots in
    let lt : object < length maps = omega (arith, in_places, long) in
    let slots_long = a.slots_long in let counts_long = a.counts_long in
    let in_slots : object < length t.slots = omega (arith, in_places, slots_long) in
    let in_counts : new < length t.counts = omega (arith, new_in, counts_long) in
    let entries : slots_at t.slots object ≡ m.entries = ap (λ (l : List Slots). slots_at l object) slots ∙ own_is maps object m lt at in
    let found = hits_found m.entries slot old was in
    let le = get_or-le-sum_by (λ (s : Slots). hits s old) t.slots object [] in_slots in
    let here : hits (slots_at t.slots object) old ≡ hits m.entries old = ap (λ (s : Slots). hits s old) entries in
    let counted = a.counted old in
    let more = added_is t.counts new old in_counts in
    let now : count_at counts old ≡ count_at (added t.counts new) old = ap (λ (l : List ℕ). count_at l old) is in
    omega (arith, found, le, here, counted, more, now)

dropped_is : (counts : List ℕ) (old o : ℕ) → 1 ≤ count_at counts old → count_at (dropped counts old) o + is_target o old ≡ count_at counts o
dropped_is counts old o low =
    let lt = counted_within counts old low in
    elim (cases_eqb o old) [
      | inl e ↦ subst (λ (k : ℕ). count_at (dropped counts old) k + is_target k old ≡ count_at counts k) (sym e.1) (let here = get_or-set_same counts old (count_at counts old - 1) 0 lt in let one = target_yes old in omega (arith, here, one, low))
      | inr e ↦ (let far = e.1 in let none = target_no o old (λ q. far (sym q)) in let same = get_or-set_other counts old o (count_at counts old - 1) 0 e.1 in omega (arith, none, same))
    ]

-- how many references the old one is
abbrev was_target : ℕ → Option ℕ → ℕ
was_target o old = unwrap_or (option_map (is_target o) old) 0

left_is : (counts : List ℕ) (old : Option ℕ) (o : ℕ) → ((k : ℕ) → old ≡ Some k → 1 ≤ count_at counts k) → count_at (left_by counts old) o + was_target o old ≡ count_at counts o
left_is counts None o low = omega arith
left_is counts (Some k) o low = dropped_is counts k o (low k refl)

left_long : (counts : List ℕ) (old : Option ℕ) → length (left_by counts old) ≡ length counts
left_long counts None = refl
left_long counts (Some k) = length-set counts k (count_at counts k - 1)

-- what was referred to once is left, or the new one is
only_old : (o : ℕ) (old : Option ℕ) → 1 ≤ was_target o old → o ≡ unwrap_or old 0
only_old o None le = absurd (omega (arith, le))
only_old o (Some k) le = elim (cases_eqb o k) [ inl e ↦ e.1 | inr e ↦ (let far = e.1 in let none = target_no o k (λ q. far (sym q)) in absurd (omega (arith, none, le))) ]

pub wrote : (t : Tables) (maps : List (BTreeMap ℕ ℕ)) (object slot new : ℕ) (old : Option ℕ) (m m' : BTreeMap ℕ ℕ) (counts counts' : List ℕ) → AreCounted t → t.slots ≡ slots_of maps → object < length t.places → new < length t.places → m ≡ get_or maps object m → old ≡ target_at m.entries slot
    → m'.entries ≡ insert_entry nat_cmp m.entries slot new → ((s : ℕ) → target_at m'.entries s ≡ cond (is_at (nat_cmp slot) s) (Some new) (target_at m.entries s)) → IsStrictlySortedBy nat_cmp (keys_of m.entries) → IsStrictlySortedBy nat_cmp (keys_of m'.entries) → counts ≡ added t.counts new → counts' ≡ left_by counts old
    → WritesReference object slot new (unwrap_or old 0) t (record { places = t.places; dead = t.dead; counts = counts'; slots = slots_of (set maps object m') })
wrote t maps object slot new old m m' counts counts' a slots in_places new_in at was entries updates sorted sorted' is last =
    let long = maps_long t maps a slots in
    let lt : object < length maps = omega (arith, in_places, long) in
    let slots_long = a.slots_long in let counts_long = a.counts_long in
    let in_slots : object < length t.slots = omega (arith, in_places, slots_long) in
    let in_counts : new < length t.counts = omega (arith, new_in, counts_long) in
    let own : slots_at t.slots object ≡ m.entries = ap (λ (l : List Slots). slots_at l object) slots ∙ own_is maps object m lt at in
    let after : slots_of (set maps object m') ≡ set t.slots object m'.entries = map-set (λ (k : BTreeMap ℕ ℕ). k.entries) maps object m' ∙ ap (λ (l : List Slots). set l object m'.entries) (sym slots) in
    let here : slots_at (slots_of (set maps object m')) object ≡ m'.entries = ap (λ (l : List Slots). slots_at l object) after ∙ get_or-set_same t.slots object m'.entries [] in_slots in
    let low : (k : ℕ) → old ≡ Some k → 1 ≤ count_at counts k = λ k e. old_counted t maps object slot new k m counts a slots in_places new_in at (sym was ∙ e) is in
    let count : (o : ℕ) → count_at counts' o + was_target o old ≡ count_at t.counts o + is_target o new = λ o.
    (let x = left_is counts old o low in
    let y = added_is t.counts new o in_counts in
    let z : count_at counts' o ≡ count_at (left_by counts old) o = ap (λ (l : List ℕ). count_at l o) last in
    let w : count_at counts o ≡ count_at (added t.counts new) o = ap (λ (l : List ℕ). count_at l o) is in
    omega (arith, x, y, z, w)) in
    record {
      places_is = refl;
      dead_is = refl;
      tables = record {
        slots_long = ap (λ (l : List Slots). length l) after ∙ (length-set t.slots object m'.entries ∙ a.slots_long);
        counts_long = ap (λ (l : List ℕ). length l) last ∙ (left_long counts old ∙ (ap (λ (l : List ℕ). length l) is ∙ (length-set t.counts new (count_at t.counts new + 1) ∙ a.counts_long)));
        counted = λ o.
            (let put = sum_by-insert_entry (is_target o) nat_cmp_total m.entries slot new sorted in
            let gone : unwrap_or (option_map (is_target o) (target_at m.entries slot)) 0 ≡ was_target o old = ap (λ (x : Option ℕ). was_target o x) (sym was) in
            let now : hits m'.entries o ≡ sum_by (is_target o) (values_of (insert_entry nat_cmp m.entries slot new)) = ap (λ (s : Slots). hits s o) entries in
            let all = sum_by-set (λ (s : Slots). hits s o) t.slots object m'.entries [] in_slots in
            let before : hits (slots_at t.slots object) o ≡ hits m.entries o = ap (λ (s : Slots). hits s o) own in
            let sum : all_hits (slots_of (set maps object m')) o ≡ all_hits (set t.slots object m'.entries) o = ap (λ (l : List Slots). all_hits l o) after in
            let counted = a.counted o in
            let c = count o in
            omega (arith, put, gone, now, all, before, sum, counted, c));
      };
      here = λ s. ap (λ (l : Slots). target_at l s) here ∙ (updates s ∙ (ap (λ (b : Bool). cond b (Some new) (target_at m.entries s)) (same_slot slot s) ∙ ap (λ (l : Slots). cond (eqb slot s) (Some new) (target_at l s)) (sym own)));
      there = λ o ne. ap (λ (l : List Slots). slots_at l o) after ∙ get_or-set_other t.slots object o m'.entries [] ne;
      sorted = subst (λ (l : Slots). IsStrictlySortedBy nat_cmp (keys_of l)) (sym here) sorted';
      counts_low = λ o z. elim (cases_lt 0 (was_target o old)) [
        | inl one ↦ inr (only_old o old (omega (arith, one)))
        | inr none ↦ (let c = count o in inl (omega (arith, c, z, none)))
      ];
    }
