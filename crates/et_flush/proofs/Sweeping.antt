-- Objects that are swept one after the other.
use Rattle.std.proofs.Common.{◌≡◌, ℕ, zero, suc, ◌+◌, ◌-◌, ◌<◌, ◌≤◌, Bool, true, false, ◌&&◌, [], ◌∷◌, length, get_or, set, Option, Some, None, refl, sym, ◌∙◌, ap, subst, inl, inr, arith, drop, drop-cons}
use Rattle.std.proofs.lemmas.List.{set-get_or, drop_all}
use Rattle.std.specs.Option.{option_to_list}
use Rattle.std.proofs.lemmas.List.Sums.{sum_by-cons}
use Rattle.std.specs.Prelude.{if◌then◌else◌, not}
use Rattle.std.proofs.lemmas.Bool.{le-leb, cases_lt}
use Rattle.et_heap.proofs.References.{found_there}
use Rattle.et_base.specs.declared.value.Value.TheVariants.{Ref}
use Rattle.et_heap.specs.Objects.{ObjectState, Objects, IsHeld, is_there, at, found, object_at, referent_value, referents_in, referent_count}
use Rattle.et_heap.specs.Remaining.{is_cleared, kept_referent, left_place, remaining}
use Rattle.et_heap.specs.Cleared.{loses_referent}
use Rattle.et_flush.specs.declared.times.TheConstants.{NOW}
use Rattle.et_flush.specs.declared.ranks.Ranks.{Ranks}
use Rattle.et_flush.specs.Sweeps.{is_now, ReferentsWithin, visits_of, visits_from}

-- the first n places are swept
abbrev pub swept : (ℕ → Bool) → ℕ → ℕ → Objects → Objects
swept here zero k xs = xs
swept here (suc n) k [] = []
swept here (suc n) k (x ∷ xs) = left_place here (here k) x ∷ swept here n (k + 1) xs

-- the next place is as it was
pub swept_at : (here : ℕ → Bool) (n k : ℕ) (xs : Objects) → get_or (swept here n k xs) n None ≡ get_or xs n None
swept_at here zero k xs = refl
swept_at here (suc n) k [] = refl
swept_at here (suc n) k (x ∷ xs) = swept_at here n (k + 1) xs

pub swept_next : (here : ℕ → Bool) (n k : ℕ) (xs : Objects) → n < length xs → swept here (suc n) k xs ≡ set (swept here n k xs) n (left_place here (here (k + n)) (get_or xs n None))
swept_next here zero k [] lt = absurd (omega arith)
swept_next here zero k (x ∷ xs) lt = ap (λ (j : ℕ). left_place here (here j) x ∷ xs) (let e : k ≡ k + 0 = omega arith in e)
swept_next here (suc n) k [] lt = absurd (omega arith)
swept_next here (suc n) k (x ∷ xs) lt =
    let next = swept_next here n (k + 1) xs (omega arith) in
    let place : k + 1 + n ≡ k + suc n = omega arith in
    ap (λ (ys : Objects). left_place here (here k) x ∷ ys) (next ∙ ap (λ (j : ℕ). set (swept here n (k + 1) xs) n (left_place here (here j) (get_or xs n None))) place)

pub swept_all : (here : ℕ → Bool) (n k : ℕ) (xs : Objects) → length xs ≤ n → swept here n k xs ≡ remaining here k xs
swept_all here zero k [] le = refl
swept_all here zero k (x ∷ xs) le = absurd (omega arith)
swept_all here (suc n) k [] le = refl
swept_all here (suc n) k (x ∷ xs) le = ap (λ (ys : Objects). left_place here (here k) x ∷ ys) (swept_all here n (k + 1) xs (omega arith))

-- where nothing is held, nothing changes
left_none : (here : ℕ → Bool) (b : Bool) (p : Option ObjectState) → (is_there p → ⊥) → left_place here b p ≡ p
left_none here b None out = refl
left_none here b (Some x) out = absurd (out tt)

swept_same : (here : ℕ → Bool) (xs : Objects) (n : ℕ) → (IsHeld xs n → ⊥) → swept here (n + 1) 0 xs ≡ swept here n 0 xs
swept_same here xs n out =
    ap (λ (k : ℕ). swept here k 0 xs) (let e : n + 1 ≡ suc n = omega arith in e)
    ∙ elim (cases_lt n (length xs)) [
      | inl lt ↦
          swept_next here n 0 xs lt
          ∙ (ap (λ (p : Option ObjectState). set (swept here n 0 xs) n p) (left_none here (here (0 + n)) (get_or xs n None) out ∙ sym (swept_at here n 0 xs))
          ∙ set-get_or (swept here n 0 xs) n None)
      | inr past ↦ swept_all here (suc n) 0 xs (omega arith) ∙ sym (swept_all here n 0 xs past)
    ]

-- what stays at each place where nothing is held stays over all of them
skipped : {X : Type 0} (F : ℕ → X) (xs : Objects) → ((n : ℕ) → (IsHeld xs n → ⊥) → F (n + 1) ≡ F n) → (n m : ℕ) → ((u : ℕ) → n ≤ u → u < n + m → IsHeld xs u → ⊥) → F (n + m) ≡ F n
skipped F xs same n zero out = ap F (let e : n + 0 ≡ n = omega arith in e)
skipped F xs same n (suc m) out =
    ap F (let e : n + suc m ≡ n + m + 1 = omega arith in e)
    ∙ (same (n + m) (out (n + m) (omega arith) (omega arith)) ∙ skipped F xs same n m (λ u le lt. out u le (omega arith)))

pub none_between : {X : Type 0} (F : ℕ → X) (xs : Objects) → ((n : ℕ) → (IsHeld xs n → ⊥) → F (n + 1) ≡ F n) → (n m : ℕ) → n ≤ m → ((u : ℕ) → n ≤ u → u < m → IsHeld xs u → ⊥) → F n ≡ F m
none_between F xs same n m le out =
    let e : n + (m - n) ≡ m = omega arith in
    sym (skipped F xs same n (m - n) (λ u from lt. out u from (omega arith))) ∙ ap F e

-- places where nothing is held are swept
pub swept_to : (here : ℕ → Bool) (n m : ℕ) (xs : Objects) → n ≤ m → ((u : ℕ) → n ≤ u → u < m → IsHeld xs u → ⊥) → swept here n 0 xs ≡ swept here m 0 xs
swept_to here n m xs le out = none_between (λ (k : ℕ). swept here k 0 xs) xs (swept_same here xs) n m le out

-- ONE PLACE

no_visit : (here : ℕ → Bool) (b : Bool) (p : Option ObjectState) → (is_there p → ⊥) → visits_of here b p ≡ 0
no_visit here b None out = refl
no_visit here b (Some x) out = absurd (out tt)

-- THE REFERENT OF ONE OBJECT

-- the referent stays
pub referent_kept : (here : ℕ → Bool) (xs : Objects) (o : ℕ) → IsHeld xs o → kept_referent here (object_at xs o).referent ≡ (object_at xs o).referent → xs ≡ set xs o (left_place here true (Some (object_at xs o)))
referent_kept here xs o held same =
    sym (ap (λ (r : Option ℕ). set xs o (Some (record (object_at xs o) { referent = r }))) same ∙ (ap (λ (p : Option ObjectState). set xs o p) (found_there (at xs o) held) ∙ set-get_or xs o None))

-- where nothing is referred to weakly, no referent is there
none_in : (xs : Objects) (o : ℕ) → referent_count xs ≡ 0 → referents_in (get_or xs o None) ≡ 0
none_in [] o none = refl
none_in (x ∷ xs) zero none = omega (arith, sum_by-cons referents_in x xs)
none_in (x ∷ xs) (suc o) none = none_in xs o (omega (arith, sum_by-cons referents_in x xs))

no_option : (r : Option ℕ) → length (option_to_list r) ≡ 0 → r ≡ None
no_option None none = refl
no_option (Some o) none = absurd (omega (arith, none))

none_found : (p : Option ObjectState) → referents_in p ≡ 0 → (found p).referent ≡ None
none_found None none = refl
none_found (Some x) none = no_option x.referent none

pub no_referent : (xs : Objects) (o : ℕ) → referent_count xs ≡ 0 → (object_at xs o).referent ≡ None
no_referent xs o none = none_found (at xs o) (none_in xs o none)

pub none_kept : (here : ℕ → Bool) (r : Option ℕ) → r ≡ None → kept_referent here r ≡ r
none_kept here None is = refl
none_kept here (Some o) is = absurd (cc)

pub none_lost : (here : ℕ → Bool) (x : ObjectState) → x.referent ≡ None → loses_referent here true (Some x) ≡ false
none_lost here x is = ap (λ (r : Option ℕ). true && is_cleared here r) is

-- what stays refers to what stays
pub kept_same : (here : ℕ → Bool) (p : Option ℕ) (r : ℕ) → p ≡ Some r → here r ≡ true → kept_referent here p ≡ p
kept_same here p r is on =
    subst (λ (q : Option ℕ). kept_referent here q ≡ q) (sym is) (ap (λ (b : Bool). if not b then None else Some r) on)

pub referent_is : (p : Option ℕ) (r : ℕ) → Ref r ≡ referent_value p → p ≡ Some r
referent_is None r e = absurd (cc)
referent_is (Some q) r e = cc

-- an object is reached now where its time is no less than NOW
pub now_is : (time : ℕ → ℕ) (o t : ℕ) → t ≡ time o → NOW ≤ t → is_now time o ≡ true
now_is time o t at le = le-leb NOW (time o) (subst (λ (k : ℕ). NOW ≤ k) at le)

-- ALL

pub swept_step : (here : ℕ → Bool) (xs ys zs : Objects) (n o : ℕ) → ys ≡ swept here n 0 xs → o ≡ n → n < length xs → zs ≡ set ys o (left_place here (here o) (at ys o)) → zs ≡ swept here (n + 1) 0 xs
swept_step here xs ys zs n o before same lt is =
    let number : (λ (k : ℕ). set ys k (left_place here (here k) (at ys k))) o ≡ set ys n (left_place here (here n) (at ys n)) = ap (λ (k : ℕ). set ys k (left_place here (here k) (at ys k))) same in
    let now : set ys n (left_place here (here n) (at ys n)) ≡ set (swept here n 0 xs) n (left_place here (here n) (at (swept here n 0 xs) n)) = ap (λ (v : Objects). set v n (left_place here (here n) (at v n))) before in
    let place : set (swept here n 0 xs) n (left_place here (here n) (at (swept here n 0 xs) n)) ≡ set (swept here n 0 xs) n (left_place here (here n) (get_or xs n None)) = ap (λ (p : Option ObjectState). set (swept here n 0 xs) n (left_place here (here n) p)) (swept_at here n 0 xs) in
    let zero_first : set (swept here n 0 xs) n (left_place here (here n) (get_or xs n None)) ≡ set (swept here n 0 xs) n (left_place here (here (0 + n)) (get_or xs n None)) = ap (λ (k : ℕ). set (swept here n 0 xs) n (left_place here (here k) (get_or xs n None))) (let e : n ≡ 0 + n = omega arith in e) in
    let more : swept here (suc n) 0 xs ≡ swept here (n + 1) 0 xs = ap (λ (k : ℕ). swept here k 0 xs) (let e : suc n ≡ n + 1 = omega arith in e) in
    is ∙ (number ∙ (now ∙ (place ∙ (zero_first ∙ (sym (swept_next here n 0 xs lt) ∙ more)))))

pub place_before : (here : ℕ → Bool) (xs ys : Objects) (n o : ℕ) → ys ≡ swept here n 0 xs → o ≡ n → at ys o ≡ at xs n
place_before here xs ys n o before same = ap (λ (k : ℕ). at ys k) same ∙ (ap (λ (v : Objects). at v n) before ∙ swept_at here n 0 xs)

pub held_before : (here : ℕ → Bool) (xs ys : Objects) (n o : ℕ) → ys ≡ swept here n 0 xs → o ≡ n → IsHeld xs n → IsHeld ys o
held_before here xs ys n o before same held = subst is_there (sym (place_before here xs ys n o before same)) held

pub within_before : (here : ℕ → Bool) (ranks : Ranks) (xs ys : Objects) (n o m : ℕ) → ys ≡ swept here n 0 xs → o ≡ n → ReferentsWithin ranks m (object_at xs n) → ReferentsWithin ranks m (object_at ys o)
within_before here ranks xs ys n o m before same within = subst (λ (p : Option ObjectState). ReferentsWithin ranks m (found p)) (sym (place_before here xs ys n o before same)) within

-- THE VISITS OF ALL

-- the place that comes next is the first that is left
pub first_dropped : (n : ℕ) (xs : Objects) → n < length xs → drop n xs ≡ get_or xs n None ∷ drop (n + 1) xs
first_dropped n xs lt = drop-cons xs n None lt ∙ ap (λ (j : ℕ). get_or xs n None ∷ drop j xs) (let e : suc n ≡ n + 1 = omega arith in e)

pub visits_end : (here : ℕ → Bool) (n : ℕ) (xs : Objects) → length xs ≤ n → visits_from here n (drop n xs) ≡ 0
visits_end here n xs all = ap (λ (ys : Objects). visits_from here n ys) (drop_all n xs all)

visits_left : (here : ℕ → Bool) (n : ℕ) (xs : Objects) → n < length xs → visits_from here n (drop n xs) ≡ visits_of here (here n) (get_or xs n None) + visits_from here (n + 1) (drop (n + 1) xs)
visits_left here n xs lt = ap (λ (ys : Objects). visits_from here n ys) (first_dropped n xs lt)

visits_same : (here : ℕ → Bool) (xs : Objects) (n : ℕ) → (IsHeld xs n → ⊥) → visits_from here (n + 1) (drop (n + 1) xs) ≡ visits_from here n (drop n xs)
visits_same here xs n out =
    elim (cases_lt n (length xs)) [
      | inl lt ↦ let none = no_visit here (here n) (get_or xs n None) out in omega (arith, visits_left here n xs lt)
      | inr past ↦ visits_end here (n + 1) xs (omega arith) ∙ sym (visits_end here n xs past)
    ]

pub visits_to : (here : ℕ → Bool) (n m : ℕ) (xs : Objects) → n ≤ m → ((u : ℕ) → n ≤ u → u < m → IsHeld xs u → ⊥) → visits_from here n (drop n xs) ≡ visits_from here m (drop m xs)
visits_to here n m xs le out = none_between (λ (k : ℕ). visits_from here k (drop k xs)) xs (visits_same here xs) n m le out

pub visits_step : (here : ℕ → Bool) (xs ys : Objects) (n o all old v v' : ℕ) → ys ≡ swept here n 0 xs → o ≡ n → n < length xs → v + visits_from here n (drop n xs) ≤ old + all → v' ≤ v + visits_of here (here o) (at ys o) → v' + visits_from here (n + 1) (drop (n + 1) xs) ≤ old + all
visits_step here xs ys n o all old v v' before same lt sum is =
    let here_now : visits_of here (here o) (at ys o) ≡ visits_of here (here n) (get_or xs n None) = ap (λ (p : Option ObjectState). visits_of here (here o) p) (place_before here xs ys n o before same) ∙ ap (λ (k : ℕ). visits_of here (here k) (get_or xs n None)) same in
    omega (arith, visits_left here n xs lt)

pub swept_end : (here : ℕ → Bool) (xs ys : Objects) (n : ℕ) → ys ≡ swept here n 0 xs → length xs ≤ n → ys ≡ remaining here 0 xs
swept_end here xs ys n before all = before ∙ swept_all here n 0 xs all
