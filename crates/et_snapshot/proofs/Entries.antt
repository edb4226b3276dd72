-- The entries of objects, of which some are dead.
use Rattle.std.proofs.Common.{◌≡◌, ◌≢◌, ◌∙◌, ℕ, zero, suc, ◌<◌, ◌≤◌, ◌+◌, Bool, true, false, cond, not, List, [], ◌∷◌, ◌++◌, length, get_or, take, drop, map, Option, Some, None, Result, Ok, Err, refl, sym, ap, subst, arith, drop-cons, inl, inr}
use Rattle.std.specs.Prelude.{filter, option_map, is_some, IfSome, IfNone, All}
use Rattle.std.specs.Result.{result_ok}
use Rattle.std.specs.List.{cons_option, flat_map, AllByRecursion, HoldsAt}
use Rattle.std.proofs.Math.ListN.{set}
use Rattle.std.proofs.lemmas.Grind.{flat_map-append}
use Rattle.std.proofs.lemmas.List.{append-nil, take_more, take-append-drop, length-map, with_items_is}
use Rattle.std.proofs.lemmas.List.Elements.{filter_map-append, All-from_recursion, recursion_from_All}
use Rattle.std.specs.List.Sorted.{IsSearchInRange, IsBinarySearchResult, IsNonDecreasingBy}
use Rattle.std.specs.Ordering.{nat_cmp, ordering_index}
use Rattle.std.specs.declared.cmp.Ordering.TheVariants.{Less, Equal, Greater}
use Rattle.std.proofs.lemmas.Bool.Decides.{nat_tests}
use Rattle.std.proofs.lemmas.Cmp.{ranked}
use Rattle.std.proofs.lemmas.List.Sorted.{IsNonDecreasingBy-from_default}
use Rattle.std.specs.declared.vec.Vec.{Vec}
use Rattle.std.specs.declared.alloc.Global.{Global}
use Rattle.std.specs.Vec.{with_items}
use Rattle.std.proofs.lemmas.Bool.{cases_lt, ne_eqb, eq-eqb}
use Rattle.et_snapshot.specs.declared.objects.Entry.{Entry}
use Rattle.et_snapshot.specs.declared.objects.Seen.{Seen}
use Rattle.et_snapshot.specs.Heap.{Kept, body_of, kept_as, kept_in, kept_where, objects_of, numbers_of, written_to, is_other, with_slot, rows_of, rows_in, RiseTo}

-- NUMBERS THAT RISE

rise_above : (top low low' : ℕ) (ns : List ℕ) → low' ≤ low → RiseTo top low ns → RiseTo top low' ns
rise_above top low low' [] le r = omega (arith, le, r)
rise_above top low low' (n ∷ ns) le r = ((let lt = r.0 in omega (arith, lt, le)), r.1)

pub rise_wider : (top next low : ℕ) (ns : List ℕ) → top ≤ next → RiseTo top low ns → RiseTo next low ns
rise_wider top next low [] le r = omega (arith, le, r)
rise_wider top next low (n ∷ ns) le r = (r.0, rise_wider top next n ns le r.1)

pub rise_push : (top low x : ℕ) (ns : List ℕ) → RiseTo top low ns → top < x → RiseTo x low (ns ++ x ∷ [])
rise_push top low x [] r lt = (omega (arith, r, lt), omega arith)
rise_push top low x (n ∷ ns) r lt = (r.0, rise_push top n x ns r.1 lt)

pub rise_filter : (top low : ℕ) (p : Entry → Bool) (es : List Entry) → RiseTo top low (numbers_of es) → RiseTo top low (numbers_of (filter p es))
rise_filter top low p [] r = r
rise_filter top low p (e ∷ es) r = elim (p e) as (λ b. RiseTo top low (numbers_of (cond b (e ∷ filter p es) (filter p es)))) [
  | true ↦ (r.0, rise_filter top e.object p es r.1)
  | false ↦ (let lt = r.0 in rise_filter top low p es (rise_above top e.object low (numbers_of es) (omega (arith, lt)) r.1))
]

-- each number is above `low`
number_above : (top low : ℕ) (es : List Entry) (i : ℕ) (d : Entry) → RiseTo top low (numbers_of es) → i < length es → low < (get_or es i d).object
number_above top low [] i d r lt = absurd (omega (arith, lt))
number_above top low (e ∷ es) zero d r lt = r.0
number_above top low (e ∷ es) (suc i) d r lt = let more = number_above top e.object es i d r.1 (omega (arith, lt)) in let first = r.0 in omega (arith, more, first)

numbers_rise : (top low : ℕ) (es : List Entry) (i j : ℕ) (d : Entry) → RiseTo top low (numbers_of es) → i ≤ j → j < length es → (get_or es i d).object ≤ (get_or es j d).object
numbers_rise top low [] i j d r le lt = absurd (omega (arith, lt))
numbers_rise top low (e ∷ es) zero zero d r le lt = omega arith
numbers_rise top low (e ∷ es) zero (suc j) d r le lt = let more = number_above top e.object es j d r.1 (omega (arith, lt)) in omega (arith, more)
numbers_rise top low (e ∷ es) (suc i) zero d r le lt = absurd (omega (arith, le))
numbers_rise top low (e ∷ es) (suc i) (suc j) d r le lt = numbers_rise top e.object es i j d r.1 (omega (arith, le)) (omega (arith, lt))

others_above : (top low object : ℕ) (es : List Entry) → RiseTo top low (numbers_of es) → object ≤ low → AllByRecursion (λ (e : Entry). e.object ≢ object) es
others_above top low object [] r le = tt
others_above top low object (e ∷ es) r le = let lt = r.0 in ((λ s. omega (arith, s, lt, le)), others_above top e.object object es r.1 (omega (arith, lt, le)))

-- A SEARCH

module _ (top : ℕ) (es : List Entry) (r : RiseTo top 0 (numbers_of es)) (object : ℕ) where
  -- the comparisons rise along the list, as a binary search asks
  comparisons_rise : Entry → IsNonDecreasingBy (λ (e : Entry). ordering_index (nat_cmp e.object object)) es
  comparisons_rise e = IsNonDecreasingBy-from_default (λ (e : Entry). ordering_index (nat_cmp e.object object)) es e (λ i j le within.
      let rises : (get_or es i e).object ≤ (get_or es j e).object = numbers_rise top 0 es i j e r le within in
      grind (arith, nat_tests, rises))

  -- the place of the entry of the object, if there is one
  pub record IsPlace (place : Option ℕ) : Type 0 where
    pub within : IfSome place (λ i. i < length es)
    pub found : IfSome place (λ i. HoldsAt (λ (e : Entry). e.object ≡ object) es i)
    pub absent : IfNone place (All (λ (e : Entry). e.object ≢ object) es)

  less_not : (a : ℕ) → nat_cmp a object ≡ Less → a ≢ object
  less_not a is e = let lt : a < object = ranked a object Less (sym is) in omega (arith, e, lt)

  greater_not : (a : ℕ) → nat_cmp a object ≡ Greater → a ≢ object
  greater_not a is e = let lt : object < a = ranked a object Greater (sym is) in omega (arith, e, lt)

  pub search_finds : (answer : Result ℕ ℕ) → IsSearchInRange answer (length es) → IsBinarySearchResult (λ (e : Entry). nat_cmp e.object object) es answer → IsPlace (result_ok answer)
  search_finds (Ok i) within equal = record { within = within; found = λ d. ranked (get_or es i d).object object Equal (sym (equal d)); absent = tt }
  search_finds (Err i) within parted = record {
    within = tt;
    found = tt;
    absent = λ k d lt. elim (cases_lt k i) [
      | inl below ↦ less_not (get_or es k d).object ((parted (comparisons_rise d)).0 k d (omega arith) below)
      | inr above ↦ greater_not (get_or es k d).object ((parted (comparisons_rise d)).1 k d above lt)
    ];
  }

-- WHAT IS KEPT

map_option : {A B : Type 0} (f : A → B) (o : Option A) (xs : List A) → map f (cons_option o xs) ≡ cons_option (option_map f o) (map f xs)
map_option f None xs = refl
map_option f (Some x) xs = refl

-- a write to another object
other_written : (object slot new n : ℕ) (s : Option Seen) → n ≢ object → option_map (written_to object slot new) (kept_as n s) ≡ kept_as n s
other_written object slot new n None ne = refl
other_written object slot new n (Some s) ne = ap (λ (b : Bool). Some (cond b (n, with_slot slot new (body_of s)) (n, body_of s))) (ne_eqb object n (λ e. ne (sym e)))

pub absent_written : (object slot new : ℕ) (es : List Entry) → AllByRecursion (λ (e : Entry). e.object ≢ object) es → map (written_to object slot new) (objects_of es) ≡ objects_of es
absent_written object slot new [] a = refl
absent_written object slot new (e ∷ es) a =
    map_option (written_to object slot new) (kept_in e) (objects_of es)
    ∙ (ap (λ (o : Option Kept). cons_option o (map (written_to object slot new) (objects_of es))) (other_written object slot new e.object e.seen a.0)
    ∙ ap (λ (t : List Kept). cons_option (kept_in e) t) (absent_written object slot new es a.1))

-- another object stays
other_stays : (object n : ℕ) (s : Option Seen) (ks ks' : List Kept) → n ≢ object → filter (is_other object) ks ≡ ks' → filter (is_other object) (cons_option (kept_as n s) ks) ≡ cons_option (kept_as n s) ks'
other_stays object n None ks ks' ne is = is
other_stays object n (Some s) ks ks' ne is =
    ap (λ (b : Bool). cond (not b) ((n, body_of s) ∷ filter (is_other object) ks) (filter (is_other object) ks)) (ne_eqb object n (λ e. ne (sym e))) ∙ ap (λ (t : List Kept). (n, body_of s) ∷ t) is

-- .. and the dead one goes
dead_goes : (object n : ℕ) (s : Option Seen) (ks : List Kept) → n ≡ object → filter (is_other object) (cons_option (kept_as n s) ks) ≡ filter (is_other object) ks
dead_goes object n None ks is = refl
dead_goes object n (Some s) ks is = ap (λ (b : Bool). cond (not b) ((n, body_of s) ∷ filter (is_other object) ks) (filter (is_other object) ks)) (eq-eqb object n (sym is))

pub absent_forgotten : (object : ℕ) (es : List Entry) → AllByRecursion (λ (e : Entry). e.object ≢ object) es → filter (is_other object) (objects_of es) ≡ objects_of es
absent_forgotten object [] a = refl
absent_forgotten object (e ∷ es) a = other_stays object e.object e.seen (objects_of es) (objects_of es) a.0 (absent_forgotten object es a.1)

-- the entry of the object is written to
pub written_at : (top low object slot new : ℕ) (es : List Entry) (i : ℕ) (y : Entry) → RiseTo top low (numbers_of es) → i < length es → HoldsAt (λ (e : Entry). e.object ≡ object) es i → (d : Entry) → kept_in y ≡ kept_where (written_to (get_or es i d).object slot new) (get_or es i d)
    → objects_of (set es i y) ≡ map (written_to object slot new) (objects_of es)
written_at top low object slot new [] i y r lt at d is = absurd (omega (arith, lt))
written_at top low object slot new (e ∷ es) zero y r lt at d is =
    let same : e.object ≡ object = at d in
    ap (λ (o : Option Kept). cons_option o (objects_of es)) (is ∙ ap (λ (n : ℕ). kept_where (written_to n slot new) e) same)
    ∙ sym (map_option (written_to object slot new) (kept_in e) (objects_of es)
    ∙ ap (λ (t : List Kept). cons_option (kept_where (written_to object slot new) e) t) (absent_written object slot new es (others_above top e.object object es r.1 (omega (arith, same)))))
written_at top low object slot new (e ∷ es) (suc i) y r lt at d is =
    let above = number_above top e.object es i d r.1 (omega (arith, lt)) in
    let here : (get_or es i d).object ≡ object = at d in
    let ne : e.object ≢ object = λ s. omega (arith, s, above, here) in
    ap (λ (t : List Kept). cons_option (kept_in e) t) (written_at top e.object object slot new es i y r.1 (omega (arith, lt)) at d is)
    ∙ sym (map_option (written_to object slot new) (kept_in e) (objects_of es) ∙ ap (λ (o : Option Kept). cons_option o (map (written_to object slot new) (objects_of es))) (other_written object slot new e.object e.seen ne))

-- the entry of the object is emptied
pub forgotten_at : (top low object : ℕ) (es : List Entry) (i : ℕ) (y : Entry) → RiseTo top low (numbers_of es) → i < length es → HoldsAt (λ (e : Entry). e.object ≡ object) es i → kept_in y ≡ None → objects_of (set es i y) ≡ filter (is_other object) (objects_of es)
forgotten_at top low object [] i y r lt at is = absurd (omega (arith, lt))
forgotten_at top low object (e ∷ es) zero y r lt at is =
    let same : e.object ≡ object = at y in
    ap (λ (o : Option Kept). cons_option o (objects_of es)) is ∙ sym (dead_goes object e.object e.seen (objects_of es) same ∙ absent_forgotten object es (others_above top e.object object es r.1 (omega (arith, same))))
forgotten_at top low object (e ∷ es) (suc i) y r lt at is =
    let above = number_above top e.object es i y r.1 (omega (arith, lt)) in
    let here : (get_or es i y).object ≡ object = at y in
    let ne : e.object ≢ object = λ s. omega (arith, s, above, here) in
    sym (other_stays object e.object e.seen (objects_of es) (objects_of (set es i y)) ne (sym (forgotten_at top e.object object es i y r.1 (omega (arith, lt)) at is)))

-- the dead keep nothing
abbrev is_live : Entry → Bool
is_live e = is_some e.seen

given_up : (e : Entry) (es : List Entry) (s : Option Seen) → e.seen ≡ s → objects_of (filter is_live es) ≡ objects_of es → objects_of (filter is_live (e ∷ es)) ≡ objects_of (e ∷ es)
given_up e es None is rest =
    ap (λ (o : Option Seen). objects_of (cond (is_some o) (e ∷ filter is_live es) (filter is_live es))) is ∙ (rest ∙ sym (ap (λ (o : Option Seen). cons_option (kept_as e.object o) (objects_of es)) is))
given_up e es (Some s) is rest = ap (λ (o : Option Seen). objects_of (cond (is_some o) (e ∷ filter is_live es) (filter is_live es))) is ∙ ap (λ (t : List Kept). cons_option (kept_in e) t) rest

pub dead_given_up : (es : List Entry) → objects_of (filter (λ (e : Entry). is_some e.seen) es) ≡ objects_of es
dead_given_up [] = refl
dead_given_up (e ∷ es) = given_up e es e.seen refl (dead_given_up es)

-- the entries of a vector, with others of the same numbers in their place
pub in_place : (v : Vec Entry Global) (new : List Entry) → numbers_of new ≡ numbers_of v.items → (with_items v new).items ≡ new
in_place v new same =
    let long = ap (λ (ns : List ℕ). length ns) same in
    let a = length-map new (λ (e : Entry). e.object) in
    let b = length-map v.items (λ (e : Entry). e.object) in
    let ok = v.ok.0 in
    with_items_is v new (omega (arith, long, a, b, ok))

-- ONE ENTRY AFTER THE OTHER

pub rest_is : {A : Type 0} (xs : List A) (i : ℕ) (x : A) → i < length xs → x ≡ get_or xs i x → drop i xs ≡ x ∷ drop (i + 1) xs
rest_is {A = A} xs i x lt is =
    let next : suc i ≡ i + 1 = omega arith in
    drop-cons xs i x lt ∙ (ap (λ (k : ℕ). get_or xs i x ∷ drop k xs) next ∙ ap (λ (y : A). y ∷ drop (i + 1) xs) (sym is))

All-middle : (P : Kept → Type 0) (a b c : List Kept) → All P (a ++ (b ++ c)) → All P b
All-middle P [] b c h = All-from_recursion P b (front b c (recursion_from_All P (b ++ c) h))
  where
    front : (b c : List Kept) → AllByRecursion P (b ++ c) → AllByRecursion P b
    front [] c h = tt
    front (k ∷ b) c h = (h.0, front b c h.1)
All-middle P (k ∷ a) b c h = All-middle P a b c (All-from_recursion P (a ++ (b ++ c)) (recursion_from_All P (k ∷ (a ++ (b ++ c))) h).1)

pub one_live : (x : Entry) (s : Seen) → x.seen ≡ Some s → objects_of (x ∷ []) ≡ (x.object, body_of s) ∷ []
one_live x s is = ap (λ (o : Option Seen). cons_option (kept_as x.object o) []) is

pub one_dead : (x : Entry) → x.seen ≡ None → objects_of (x ∷ []) ≡ []
one_dead x is = ap (λ (o : Option Seen). cons_option (kept_as x.object o) []) is

pub objects_more : (es : List Entry) (i : ℕ) (x : Entry) → i < length es → x ≡ get_or es i x → objects_of (take (i + 1) es) ≡ objects_of (take i es) ++ objects_of (x ∷ [])
objects_more es i x lt is = ap objects_of (take_more es i x lt ∙ ap (λ (y : Entry). take i es ++ y ∷ []) (sym is)) ∙ filter_map-append kept_in (take i es) (x ∷ [])

pub objects_split : (es : List Entry) (i : ℕ) (x : Entry) → i < length es → x ≡ get_or es i x → objects_of es ≡ objects_of (take i es) ++ (objects_of (x ∷ []) ++ objects_of (drop (i + 1) es))
objects_split es i x lt is =
    let rest : drop i es ≡ x ∷ drop (i + 1) es = rest_is es i x lt is in
    ap objects_of (sym (take-append-drop i es) ∙ ap (λ (l : List Entry). take i es ++ l) rest)
    ∙ (filter_map-append kept_in (take i es) (x ∷ drop (i + 1) es)
    ∙ ap (λ (t : List Kept). objects_of (take i es) ++ t) (filter_map-append kept_in (x ∷ []) (drop (i + 1) es)))

pub live_rows : (fields : List (List ℕ)) (x : Entry) (s : Seen) → x.seen ≡ Some s → rows_in fields x ≡ rows_of fields (x.object, body_of s)
live_rows fields x s is = ap (λ (l : List Kept). flat_map (rows_of fields) l) (one_live x s is) ∙ append-nil (rows_of fields (x.object, body_of s))

pub dead_rows : (fields : List (List ℕ)) (x : Entry) → x.seen ≡ None → rows_in fields x ≡ []
dead_rows fields x is = ap (λ (l : List Kept). flat_map (rows_of fields) l) (one_dead x is)

pub rows_are : (fields : List (List ℕ)) (es : List Entry) → flat_map (rows_in fields) es ≡ flat_map (rows_of fields) (objects_of es)
rows_are fields [] = refl
rows_are fields (e ∷ es) =
    ap (λ (t : List ℕ). rows_in fields e ++ t) (rows_are fields es)
    ∙ (sym (flat_map-append (rows_of fields) (objects_of (e ∷ [])) (objects_of es)) ∙ ap (λ (l : List Kept). flat_map (rows_of fields) l) (sym (filter_map-append kept_in (e ∷ []) es)))

-- what holds of all objects holds of that of an entry
pub one_fits : (P : Kept → Type 0) (es : List Entry) (i : ℕ) (x : Entry) → i < length es → x ≡ get_or es i x → All P (objects_of es) → All P (objects_of (x ∷ []))
one_fits P es i x lt is a =
    All-middle P (objects_of (take i es)) (objects_of (x ∷ [])) (objects_of (drop (i + 1) es)) (subst (λ (l : List Kept). All P l) (objects_split es i x lt is) a)

pub live_fits : (P : Kept → Type 0) (es : List Entry) (i : ℕ) (x : Entry) (s : Seen) → i < length es → x ≡ get_or es i x → x.seen ≡ Some s → All P (objects_of es) → P (x.object, body_of s)
live_fits P es i x s lt is live a = subst (λ (l : List Kept). All P l) (one_live x s live) (one_fits P es i x lt is a) 0 (x.object, body_of s) (omega arith)

few_more : (object : ℕ) (s : Option Seen) (ks : List Kept) (n : ℕ) → length ks ≤ n → length (cons_option (kept_as object s) ks) ≤ n + 1
few_more object None ks n le = omega (arith, le)
few_more object (Some s) ks n le = omega (arith, le)

pub live_split : (es : List Entry) (i : ℕ) (x : Entry) (s : Seen) → i < length es → x ≡ get_or es i x → x.seen ≡ Some s → objects_of es ≡ objects_of (take i es) ++ (x.object, body_of s) ∷ objects_of (drop (i + 1) es)
live_split es i x s lt is live = objects_split es i x lt is ∙ ap (λ (t : List Kept). objects_of (take i es) ++ (t ++ objects_of (drop (i + 1) es))) (one_live x s live)

pub few_objects : (es : List Entry) → length (objects_of es) ≤ length es
few_objects [] = omega arith
few_objects (e ∷ es) = let more = few_more e.object e.seen (objects_of es) (length es) (few_objects es) in omega (arith, more)
