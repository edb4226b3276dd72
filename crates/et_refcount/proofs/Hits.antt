-- How many slots refer to an object.
use Rattle.std.proofs.Common.{◌≡◌, ◌≢◌, ℕ, suc, ◌+◌, ◌<◌, ◌≤◌, Bool, true, cond, eqb, List, [], ◌∷◌, length, Option, Some, refl, sym, ap, subst, ◌∙◌, arith, inl, inr}
use Rattle.std.specs.Prelude.{Contains, unwrap_or}
use Rattle.std.specs.Map.{values_of}
use Rattle.std.specs.BTreeMap.{is_at}
use Rattle.std.specs.Ordering.{nat_cmp}
use Rattle.std.proofs.Math.ListN.{set}
use Rattle.std.proofs.lemmas.Bool.Decides.{nat_tests}
use Rattle.std.proofs.lemmas.List.{get_or_past}
use Rattle.std.proofs.lemmas.List.Sums.{sum_by-cons, sum_by-set, get_or-le-sum_by}
use Rattle.std.proofs.lemmas.Bool.{cases_lt, cases_Bool, and_parts, and_from}
use Rattle.et_base.proofs.Lists.{Contains-here, Contains-there}
use Rattle.et_base.proofs.Tests.{cases_eqb}
use Rattle.et_refcount.specs.Objects.{Slots, target_at, is_target, hits, all_hits, slots_at, count_at, flag_at, is_left}

eqb_zero : (n : ℕ) → eqb n 0 ≡ true → n ≡ 0
eqb_zero n e = grind (arith, nat_tests)

zero_eqb : (n : ℕ) → n ≡ 0 → eqb n 0 ≡ true
zero_eqb n e = grind (arith, nat_tests)

-- what is left, in parts
pub left_parts : (dead : List Bool) (counts : List ℕ) (o : ℕ) → is_left dead counts o ≡ true → (flag_at dead o ≡ true) × (count_at counts o ≡ 0)
left_parts dead counts o e = let p = and_parts (flag_at dead o) (eqb (count_at counts o) 0) e in (p.0, eqb_zero (count_at counts o) p.1)

pub left_of : (dead : List Bool) (counts : List ℕ) (o : ℕ) → flag_at dead o ≡ true → count_at counts o ≡ 0 → is_left dead counts o ≡ true
left_of dead counts o e f = and_from (flag_at dead o) (eqb (count_at counts o) 0) e (zero_eqb (count_at counts o) f)

pub hits-cons : (x : ℕ × ℕ) (own : Slots) (t : ℕ) → hits (x ∷ own) t ≡ is_target t x.1 + hits own t
hits-cons x own t = sum_by-cons (is_target t) x.1 (values_of own)

pub target_yes : (t : ℕ) → is_target t t ≡ 1
target_yes t = elim (cases_eqb t t) [ inl e ↦ ap (λ (b : Bool). cond b 1 0) e.0 | inr e ↦ absurd (e.1 refl) ]

pub target_no : (t x : ℕ) → x ≢ t → is_target t x ≡ 0
target_no t x ne = elim (cases_eqb x t) [ inl e ↦ absurd (ne e.1) | inr e ↦ ap (λ (b : Bool). cond b 1 0) e.0 ]

-- a slot that refers to the target counts
pub hits_found : (own : Slots) (s t : ℕ) → target_at own s ≡ Some t → 1 ≤ hits own t
hits_found [] s t e = absurd cc
hits_found (x ∷ own) s t e = elim (cases_Bool (is_at (nat_cmp s) x.0)) [
  | inl y ↦
      let same : Some x.1 ≡ Some t = sym (ap (λ (b : Bool). cond b (Some x.1) (target_at own s)) y) ∙ e in
      let is : x.1 ≡ t = ap (λ (v : Option ℕ). unwrap_or v 0) same in
      let one : is_target t x.1 ≡ 1 = subst (λ (k : ℕ). is_target t k ≡ 1) (sym is) (target_yes t) in
      let sum = hits-cons x own t in
      omega (arith, one, sum)
  | inr n ↦
      let rest : target_at own s ≡ Some t = sym (ap (λ (b : Bool). cond b (Some x.1) (target_at own s)) n) ∙ e in
      let ih = hits_found own s t rest in
      let sum = hits-cons x own t in
      omega (arith, ih, sum)
]

-- .. and what counts is in a slot
pub hits_entry : (own : Slots) (t : ℕ) → 1 ≤ hits own t → (s : ℕ) × Contains own (s, t)
hits_entry [] t le = absurd (let z : hits [] t ≡ 0 = refl in omega (arith, le, z))
hits_entry (x ∷ own) t le = elim (cases_eqb x.1 t) [
  | inl e ↦ (x.0, subst (λ (k : ℕ). Contains (x ∷ own) (x.0, k)) e.1 (Contains-here x own))
  | inr e ↦
      let no = target_no t x.1 e.1 in
      let sum = hits-cons x own t in
      let r = hits_entry own t (omega (arith, le, no, sum)) in
      (r.0, Contains-there x own (r.0, t) r.1)
]

pub all-cons : (own : Slots) (slots : List Slots) (t : ℕ) → all_hits (own ∷ slots) t ≡ hits own t + all_hits slots t
all-cons own slots t = sum_by-cons (λ (m : Slots). hits m t) own slots

pub all_entry : (slots : List Slots) (t : ℕ) → 1 ≤ all_hits slots t → (u : ℕ) × (1 ≤ hits (slots_at slots u) t)
all_entry [] t le = absurd (let z : all_hits [] t ≡ 0 = refl in omega (arith, le, z))
all_entry (own ∷ slots) t le = elim (cases_lt 0 (hits own t)) [
  | inl lt ↦ (0, omega (arith, lt))
  | inr z ↦
      let sum = all-cons own slots t in
      let r = all_entry slots t (omega (arith, le, z, sum)) in
      (suc r.0, r.1)
]

pub all_found : (slots : List Slots) (u s t : ℕ) → target_at (slots_at slots u) s ≡ Some t → 1 ≤ all_hits slots t
all_found slots u s t e = elim (cases_lt u (length slots)) [
  | inl lt ↦
      let here = hits_found (slots_at slots u) s t e in
      let le = get_or-le-sum_by (λ (m : Slots). hits m t) slots u [] lt in
      omega (arith, here, le)
  | inr ge ↦
      let none : slots_at slots u ≡ [] = get_or_past slots u [] ge in
      absurd (nothing s t (subst (λ (m : Slots). target_at m s ≡ Some t) none e))
]
  where
    nothing : (s t : ℕ) → target_at [] s ≡ Some t → ⊥
    nothing s t f = cc

-- without the slots of one object
pub all_without : (slots : List Slots) (u t : ℕ) → u < length slots → all_hits (set slots u []) t + hits (slots_at slots u) t ≡ all_hits slots t
all_without slots u t lt =
    let s = sum_by-set (λ (m : Slots). hits m t) slots u [] [] lt in
    let z : hits [] t ≡ 0 = refl in
    omega (arith, s, z)
