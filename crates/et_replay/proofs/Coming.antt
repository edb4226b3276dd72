-- What holds of items that came as they may.
use Rattle.std.proofs.Common.{◌≡◌, ◌≢◌, ℕ, suc, ◌+◌, ◌*◌, ◌^◌, ◌<◌, ◌≤◌, Bool, true, false, cond, ◌||◌, eqb, List, [], ◌∷◌, length, get_or, Option, Some, sum, refl, ap, subst, ◌∙◌, arith, inl, inr}
use Rattle.std.specs.Prelude.{is_some, unwrap_or}
use Rattle.std.specs.List.{list_any, sum_by, All, AllByRecursion, IsDistinct}
use Rattle.std.proofs.lemmas.Bool.Decides.{nat_tests}
use Rattle.std.proofs.lemmas.List.Sums.{sum_by-cons}
use Rattle.std.proofs.lemmas.Map.Steps.{length-le_from_distinct_below}
use Rattle.et_base.proofs.Tests.{cases_eqb}
use Rattle.et_replay.specs.declared.item.Item.{Item}
use Rattle.et_replay.specs.declared.item.Item.TheVariants.{Alloc, Write, Death}
use Rattle.et_replay.specs.Feeding.{MayCome}
use Rattle.et_replay.specs.Heap.{size_in, is_made, bytes}
use Rattle.et_replay.specs.Items.{made_objects, sizes}
use Rattle.et_replay.specs.Fed.{AreFed}

pub not_both : {A : Type 0} (b : Bool) → b ≡ true → b ≡ false → A
not_both true p q = absurd cc
not_both false p q = absurd cc

-- ONE ITEM MORE

pub size_here : (past : List Item) (event object size : ℕ) → size_in (Alloc event object size ∷ past) object ≡ Some size
size_here past event object size = let y : eqb object object ≡ true = grind (arith, nat_tests) in rw y refl

pub size_there : (past : List Item) (event object size o : ℕ) → object ≢ o → size_in (Alloc event object size ∷ past) o ≡ size_in past o
size_there past event object size o ne = let n : eqb object o ≡ false = grind (arith, nat_tests) in rw n refl

pub apart : (past : List Item) (object o : ℕ) → is_made past object ≡ false → is_made past o ≡ true → object ≢ o
apart past object o new old e = not_both (is_made past o) old (subst (λ (k : ℕ). is_made past k ≡ false) e new)

pub made_stays : (past : List Item) (item : Item) (o : ℕ) → is_made past o ≡ true → is_made (item ∷ past) o ≡ true
made_stays past (Alloc event object size) o h = elim (eqb object o) as (λ v. is_some (cond v (Some size) (size_in past o)) ≡ true) [ true ↦ refl | false ↦ h ]
made_stays past (Write event object slot new) o h = h
made_stays past (Death object time) o h = h

pub sum_same : (f g : ℕ → ℕ) (xs : List ℕ) → All (λ x. f x ≡ g x) xs → sum_by f xs ≡ sum_by g xs
sum_same f g [] h = refl
sum_same f g (x ∷ xs) h =
    let here : f x ≡ g x = h 0 x (omega arith) in
    let rest = sum_same f g xs (λ k d lt. h (suc k) d (omega (arith, lt))) in
    sum_by-cons f x xs ∙ (omega (arith, here, rest, sum_by-cons g x xs))

abbrev pub AreMade : List Item → List ℕ → Type 0
AreMade past xs = All (λ o. is_made past o ≡ true) xs

pub are_made_on : (past : List Item) (item : Item) (xs : List ℕ) → AreMade past xs → AreMade (item ∷ past) xs
are_made_on past item xs h k d lt = made_stays past item (get_or xs k d) (h k d lt)

-- the bytes of objects stay, whatever comes
pub bytes_stay : (n : ℕ) (past : List Item) (item : Item) (xs : List ℕ) → MayCome n past item → AreMade past xs → bytes (item ∷ past) xs ≡ bytes past xs
bytes_stay n past (Alloc event object size) xs new h =
    sum_same (λ o. unwrap_or (size_in (Alloc event object size ∷ past) o) 0) (λ o. unwrap_or (size_in past o) 0) xs
    (λ k d lt. ap (λ (s : Option ℕ). unwrap_or s 0) (size_there past event object size (get_or xs k d) (apart past object (get_or xs k d) new.new (h k d lt))))
bytes_stay n past (Write event object slot new) xs c h = refl
bytes_stay n past (Death object time) xs c h = refl

-- ALL ITEMS

pub in_range : (n : ℕ) (past : List Item) (o : ℕ) → AreFed n past → is_made past o ≡ true → (1 ≤ o) × (o ≤ n)
in_range n [] o f h = absurd cc
in_range n (Alloc event object size ∷ past) o f h = elim (cases_eqb object o) [
  | inl e ↦ let first = f.1.first in let last = f.1.last in let same = e.1 in (omega (arith, first, same), omega (arith, last, same))
  | inr e ↦ in_range n past o f.0 (subst (λ (s : Option ℕ). is_some s ≡ true) (size_there past event object size o e.1) h)
]
in_range n (Write event object slot new ∷ past) o f h = in_range n past o f.0 h
in_range n (Death object time ∷ past) o f h = in_range n past o f.0 h

unmade_apart : (past : List Item) (x : ℕ) → is_made past x ≡ false → AllByRecursion (λ y. eqb x y ≡ false) (made_objects past)
unmade_apart [] x h = tt
unmade_apart (Alloc event object size ∷ past) x h = elim (cases_eqb object x) [
  | inl e ↦ not_both (is_made (Alloc event object size ∷ past) x) (subst (λ (k : ℕ). is_made (Alloc event object size ∷ past) k ≡ true) e.1 (ap (λ (s : Option ℕ). is_some s) (size_here past event object size))) h
  | inr e ↦
      let ne : object ≢ x = e.1 in
      let n : eqb x object ≡ false = grind (arith, nat_tests) in
      (n, unmade_apart past x (subst (λ (s : Option ℕ). is_some s ≡ false) (size_there past event object size x ne) h))
]
unmade_apart (Write event object slot new ∷ past) x h = unmade_apart past x h
unmade_apart (Death object time ∷ past) x h = unmade_apart past x h

distinct : (n : ℕ) (past : List Item) → AreFed n past → IsDistinct eqb (made_objects past)
unfolding IsDistinct
distinct n [] f = tt
distinct n (Alloc event object size ∷ past) f = (unmade_apart past object f.1.new, distinct n past f.0)
distinct n (Write event object slot new ∷ past) f = distinct n past f.0
distinct n (Death object time ∷ past) f = distinct n past f.0

no_zero : (n : ℕ) (past : List Item) → AreFed n past → AllByRecursion (λ y. eqb 0 y ≡ false) (made_objects past)
no_zero n [] f = tt
no_zero n (Alloc event object size ∷ past) f = (let first = f.1.first in let z : eqb 0 object ≡ false = grind (arith, nat_tests) in z, no_zero n past f.0)
no_zero n (Write event object slot new ∷ past) f = no_zero n past f.0
no_zero n (Death object time ∷ past) f = no_zero n past f.0

listed_low : (n : ℕ) (past : List Item) (q : ℕ) → AreFed n past → list_any (eqb q) (made_objects past) ≡ true → q < n + 1
listed_low n [] q f h = absurd cc
listed_low n (Alloc event object size ∷ past) q f h = elim (cases_eqb q object) [
  | inl e ↦ let last = f.1.last in let same = e.1 in omega (arith, last, same)
  | inr e ↦ listed_low n past q f.0 (subst (λ (b : Bool). (b || list_any (eqb q) (made_objects past)) ≡ true) e.0 h)
]
listed_low n (Write event object slot new ∷ past) q f h = listed_low n past q f.0 h
listed_low n (Death object time ∷ past) q f h = listed_low n past q f.0 h

distinct_front : (n : ℕ) (past : List Item) → AreFed n past → IsDistinct eqb (0 ∷ made_objects past)
unfolding IsDistinct
distinct_front n past f = (no_zero n past f, distinct n past f)

front_low : (n : ℕ) (past : List Item) (q : ℕ) → AreFed n past → list_any (eqb q) (0 ∷ made_objects past) ≡ true → q < n + 1
front_low n past q f h = elim (cases_eqb q 0) [
  | inl e ↦ let same = e.1 in omega (arith, same)
  | inr e ↦ listed_low n past q f (subst (λ (b : Bool). (b || list_any (eqb q) (made_objects past)) ≡ true) e.0 h)
]

-- no more objects are made than were told of
pub few_made : (n : ℕ) (past : List Item) → AreFed n past → length (made_objects past) ≤ n
few_made n past f =
    let le = length-le_from_distinct_below (0 ∷ made_objects past) (n + 1) (distinct_front n past f) (λ q h. front_low n past q f h) in
    omega (arith, le)

pub low_sum : (n : ℕ) (past : List Item) → AreFed n past → sum (sizes past) ≤ length (made_objects past) * 2 ^ 30
low_sum n [] f = omega arith
low_sum n (Alloc event object size ∷ past) f =
    let ih = low_sum n past f.0 in
    let small = f.1.small in
    omega (arith, ih, small, sum_by-cons (λ x. x) size (sizes past))
low_sum n (Write event object slot new ∷ past) f = low_sum n past f.0
low_sum n (Death object time ∷ past) f = low_sum n past f.0

-- .. and all their bytes are at most 2^54
pub all_low : (n : ℕ) (past : List Item) → n ≤ 16777215 → AreFed n past → sum (sizes past) ≤ 2 ^ 54
all_low n past few f = let a = few_made n past f in let b = low_sum n past f in omega (arith, few, a, b)
