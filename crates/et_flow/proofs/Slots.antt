-- Types that are kept in slots: what writing one does.
use Rattle.std.proofs.Common.{◌≡◌, ℕ, zero, suc, ◌+◌, ◌-◌, ◌<◌, ◌≤◌, List, [], ◌∷◌, ◌++◌, length, get_or, set, Option, Some, None, refl, sym, ◌∙◌, ap, subst, inl, inr, arith, get_or-set_same, get_or-set_other}
use Rattle.std.specs.List.{slice_get}
use Rattle.std.proofs.lemmas.Bool.{cases_eq}
use Rattle.std.proofs.lemmas.List.{length-map, length-set, get_or_read}
use Rattle.std.specs.Prelude.{replicate}
use Rattle.std.proofs.lemmas.Option.{same_Some}
use Rattle.et_flow.specs.declared.types.EntryType.{EntryType}
use Rattle.et_flow.specs.Types.{TypesOf, joined_lists}
use Rattle.et_flow.specs.Flows.{types_at, joined_with, IsJoinable}
use Rattle.et_flow.specs.Slots.{in_slot, shown, slot_at, AreApart}

-- WHAT IS FOUND

pub found_in : (found : List TypesOf) (slots : List ℕ) (pc : ℕ) → types_at (shown found slots) pc ≡ in_slot found (slot_at slots pc)
found_in found [] pc = refl
found_in found (s ∷ slots) zero = refl
found_in found (s ∷ slots) (suc pc) = found_in found slots pc

read_in : (found : List TypesOf) (k : ℕ) (ts : TypesOf) → k < length found → get_or found k ts ≡ ts → slice_get found k ≡ Some ts
read_in [] k ts lt e = absurd (omega (arith, lt))
read_in (x ∷ found) zero ts lt e = ap (λ (t : TypesOf). Some t) e
read_in (x ∷ found) (suc k) ts lt e = read_in found k ts (omega (arith, lt)) e

-- .. in a slot that is taken
pub taken_in : (found : List TypesOf) (slots : List ℕ) (pc k : ℕ) (ts : TypesOf) → slot_at slots pc ≡ suc k → k < length found → get_or found k ts ≡ ts → types_at (shown found slots) pc ≡ Some ts
taken_in found slots pc k ts e lt is = found_in found slots pc ∙ (ap (in_slot found) e ∙ read_in found k ts lt is)

pub free_in : (found : List TypesOf) (slots : List ℕ) (pc : ℕ) → slot_at slots pc ≡ 0 → types_at (shown found slots) pc ≡ None
free_in found slots pc e = found_in found slots pc ∙ ap (in_slot found) e

-- nothing is found where no slot is taken
none_in : (n pc : ℕ) (found : List TypesOf) → types_at (shown found (replicate n 0)) pc ≡ None
none_in zero pc found = refl
none_in (suc n) zero found = refl
none_in (suc n) (suc pc) found = none_in n pc found

pub none_there : (n : ℕ) (found : List TypesOf) (slots : List ℕ) → slots ≡ replicate n 0 → (pc : ℕ) → types_at (shown found slots) pc ≡ None
none_there n found slots e pc = ap (λ (xs : List ℕ). types_at (shown found xs) pc) e ∙ none_in n pc found

-- MORE TYPES at the end

get_kept : (found : List TypesOf) (ts : TypesOf) (k : ℕ) → k < length found → slice_get (found ++ ts ∷ []) k ≡ slice_get found k
get_kept [] ts k lt = absurd (omega (arith, lt))
get_kept (x ∷ found) ts zero lt = refl
get_kept (x ∷ found) ts (suc k) lt = get_kept found ts k (omega (arith, lt))

in_kept : (found : List TypesOf) (ts : TypesOf) (s : ℕ) → s ≤ length found → in_slot (found ++ ts ∷ []) s ≡ in_slot found s
in_kept found ts zero le = refl
in_kept found ts (suc k) le = get_kept found ts k (omega (arith, le))

-- two lists in which the same is found are the same
same_found : (xs ys : List (Option TypesOf)) → length xs ≡ length ys → ((pc : ℕ) → pc < length xs → types_at xs pc ≡ types_at ys pc) → xs ≡ ys
same_found [] [] e f = refl
same_found [] (y ∷ ys) e f = absurd (omega (arith, e))
same_found (x ∷ xs) [] e f = absurd (omega (arith, e))
same_found (x ∷ xs) (y ∷ ys) e f = ap (λ (z : Option TypesOf). z ∷ xs) (f 0 (omega arith)) ∙ ap (λ (zs : List (Option TypesOf)). y ∷ zs) (same_found xs ys (omega (arith, e)) (λ pc lt. f (suc pc) (omega (arith, lt))))

pub long_shown : (found : List TypesOf) (slots : List ℕ) → length (shown found slots) ≡ length slots
long_shown found slots = length-map slots (in_slot found)

pub put_apart : (slots : List ℕ) (pc count : ℕ) → pc < length slots → AreApart slots count → AreApart (set slots pc (count + 1)) (count + 1)
put_apart slots pc count lt a =
    let here : slot_at (set slots pc (count + 1)) pc ≡ count + 1 = get_or-set_same slots pc (count + 1) 0 lt in
    let other : (q : ℕ) → (q ≡ pc → ⊥) → slot_at (set slots pc (count + 1)) q ≡ slot_at slots q = λ q ne. get_or-set_other slots pc q (count + 1) 0 ne in
    record {
      there = λ q. elim (cases_eq q pc) [
        | inl same ↦ subst (λ (k : ℕ). slot_at (set slots pc (count + 1)) k ≤ count + 1) (sym same) (omega (arith, here))
        | inr ne ↦ omega (arith, other q ne, a.there q)
      ];
      apart = λ p q some same. elim (cases_eq p pc) [
        | inl at_p ↦ elim (cases_eq q pc) [
          | inl at_q ↦ at_p ∙ sym at_q
          | inr ne ↦ absurd (let e : slot_at (set slots pc (count + 1)) p ≡ count + 1 = subst (λ (k : ℕ). slot_at (set slots pc (count + 1)) k ≡ count + 1) (sym at_p) here in omega (arith, e, same, other q ne, a.there q))
        ]
        | inr ne ↦ elim (cases_eq q pc) [
          | inl at_q ↦ absurd (let e : slot_at (set slots pc (count + 1)) q ≡ count + 1 = subst (λ (k : ℕ). slot_at (set slots pc (count + 1)) k ≡ count + 1) (sym at_q) here in omega (arith, e, same, other p ne, a.there p))
          | inr ne' ↦ a.apart p q (omega (arith, some, other p ne)) (sym (other p ne) ∙ (same ∙ other q ne'))
        ]
      ];
    }

-- TYPES CHANGE where they are

get_set_here : (found : List TypesOf) (k : ℕ) (us : TypesOf) → k < length found → slice_get (set found k us) k ≡ Some us
get_set_here [] k us lt = absurd (omega (arith, lt))
get_set_here (x ∷ found) zero us lt = refl
get_set_here (x ∷ found) (suc k) us lt = get_set_here found k us (omega (arith, lt))

get_set_there : (found : List TypesOf) (k j : ℕ) (us : TypesOf) → (j ≡ k → ⊥) → slice_get (set found k us) j ≡ slice_get found j
get_set_there [] k j us ne = refl
get_set_there (x ∷ found) zero zero us ne = absurd (ne refl)
get_set_there (x ∷ found) zero (suc j) us ne = refl
get_set_there (x ∷ found) (suc k) zero us ne = refl
get_set_there (x ∷ found) (suc k) (suc j) us ne = get_set_there found k j us (λ e. ne (ap suc e))

in_set_there : (found : List TypesOf) (k s : ℕ) (us : TypesOf) → (s ≡ suc k → ⊥) → in_slot (set found k us) s ≡ in_slot found s
in_set_there found k zero us ne = refl
in_set_there found k (suc j) us ne = get_set_there found k j us (λ e. ne (ap suc e))

pub change_in : (found : List TypesOf) (slots : List ℕ) (pc k : ℕ) (us : TypesOf) → pc < length slots → slot_at slots pc ≡ suc k → AreApart slots (length found) → shown (set found k us) slots ≡ set (shown found slots) pc (Some us)
change_in found slots pc k us lt e a =
    let inside : k < length found = omega (arith, e, a.there pc) in
    same_found (shown (set found k us) slots) (set (shown found slots) pc (Some us)) (long_shown (set found k us) slots ∙ sym (length-set (shown found slots) pc (Some us) ∙ long_shown found slots))
    (λ q _. found_in (set found k us) slots q ∙ elim (cases_eq q pc) [
      | inl same ↦ subst (λ (n : ℕ). in_slot (set found k us) (slot_at slots n) ≡ types_at (set (shown found slots) pc (Some us)) n) (sym same)
          (ap (in_slot (set found k us)) e ∙ (get_set_here found k us inside ∙ sym (get_or-set_same (shown found slots) pc (Some us) None (omega (arith, lt, long_shown found slots)))))
      | inr ne ↦ in_set_there found k (slot_at slots q) us (λ f. ne (sym (a.apart pc q (omega (arith, e)) (e ∙ sym f))))
          ∙ (sym (found_in found slots q) ∙ sym (get_or-set_other (shown found slots) pc q (Some us) None ne))
    ])

-- .. or over those that are of no place

in_set_below : (found : List TypesOf) (k s : ℕ) (us : TypesOf) → s ≤ k → in_slot (set found k us) s ≡ in_slot found s
in_set_below found k s us le = in_set_there found k s us (λ e. omega (arith, le, e))

pub put_over : (found : List TypesOf) (slots : List ℕ) (pc used : ℕ) (ts : TypesOf) → pc < length slots → used < length found → AreApart slots used → shown (set found used ts) (set slots pc (used + 1)) ≡ set (shown found slots) pc (Some ts)
put_over found slots pc used ts lt room a =
    let last : used + 1 ≡ suc used = omega arith in
    let long : length (shown (set found used ts) (set slots pc (used + 1))) ≡ length slots = long_shown (set found used ts) (set slots pc (used + 1)) ∙ length-set slots pc (used + 1) in
    let long' : length (set (shown found slots) pc (Some ts)) ≡ length slots = length-set (shown found slots) pc (Some ts) ∙ long_shown found slots in
    same_found (shown (set found used ts) (set slots pc (used + 1))) (set (shown found slots) pc (Some ts)) (long ∙ sym long')
    (λ q _. found_in (set found used ts) (set slots pc (used + 1)) q ∙ elim (cases_eq q pc) [
      | inl same ↦ subst (λ (k : ℕ). in_slot (set found used ts) (slot_at (set slots pc (used + 1)) k) ≡ types_at (set (shown found slots) pc (Some ts)) k) (sym same)
          (ap (in_slot (set found used ts)) (get_or-set_same slots pc (used + 1) 0 lt ∙ last)
          ∙ (get_set_here found used ts room ∙ sym (get_or-set_same (shown found slots) pc (Some ts) None (omega (arith, lt, long_shown found slots)))))
      | inr ne ↦ ap (in_slot (set found used ts)) (get_or-set_other slots pc q (used + 1) 0 ne)
          ∙ (in_set_below found used (slot_at slots q) ts (a.there q)
          ∙ (sym (found_in found slots q) ∙ sym (get_or-set_other (shown found slots) pc q (Some ts) None ne)))
    ])

-- .. which leave what is found as it was
pub more_shown : (found : List TypesOf) (slots : List ℕ) (ts : TypesOf) → AreApart slots (length found) → shown (found ++ ts ∷ []) slots ≡ shown found slots
more_shown found slots ts a =
    same_found (shown (found ++ ts ∷ []) slots) (shown found slots) (long_shown (found ++ ts ∷ []) slots ∙ sym (long_shown found slots))
    (λ q _. found_in (found ++ ts ∷ []) slots q ∙ (in_kept found ts (slot_at slots q) (a.there q) ∙ sym (found_in found slots q)))

pub apart_within : (slots : List ℕ) (used count : ℕ) → used ≤ count → AreApart slots used → AreApart slots count
apart_within slots used count le a = record { there = λ place. omega (arith, le, a.there place); apart = a.apart }

-- TYPES THAT JOIN with those in a slot

abbrev pub IsShaped : TypesOf → TypesOf → Type 0
IsShaped us ts = (us.operands ≡ ts.operands) × (length us.locals ≡ length ts.locals)

pub same_shape : (found : List TypesOf) (k : ℕ) (us vs ts : TypesOf) → k < length found → us ≡ get_or found k us → vs ≡ get_or found k vs → IsShaped us ts → IsShaped vs ts
same_shape found k us vs ts lt u v shape =
    let same : us ≡ vs = get_or_read found k us lt u vs ∙ sym v in
    subst (λ (x : TypesOf). IsShaped x ts) same shape

pub both_joined : (us ts vs : TypesOf) → vs.operands ≡ us.operands → vs.locals ≡ joined_lists us.locals ts.locals → vs ≡ joined_with (Some us) ts
both_joined us ts vs e f =
    ap (λ (ops : List EntryType). let x : TypesOf = record { operands = ops; locals = vs.locals } in x) e
    ∙ ap (λ (ls : List EntryType). let x : TypesOf = record { operands = us.operands; locals = ls } in x) f

pub not_shaped : (us ts : TypesOf) (o : Option TypesOf) → o ≡ Some us → (IsShaped us ts → ⊥) → IsJoinable o ts → ⊥
not_shaped us ts None e never joinable = absurd (cc e)
not_shaped us ts (Some vs) e never joinable = never (subst (λ (x : TypesOf). IsShaped x ts) (same_Some vs us e) joinable)

-- THE SLOT OF A PLACE, as it was read

pub slot_read : (states : List (Option TypesOf)) (found : List TypesOf) (slots : List ℕ) (place slot : ℕ) → shown found slots ≡ states → place < length states → slot ≡ get_or slots place slot → slot ≡ slot_at slots place
slot_read states found slots place slot view lt read = get_or_read slots place slot (omega (arith, lt, ap length view, long_shown found slots)) read 0

-- .. is taken
pub record IsTaken (found : List TypesOf) (slots : List ℕ) (place slot : ℕ) : Type 0 where
  pub inside : place < length slots
  pub there : slot_at slots place ≡ suc (slot - 1)
  pub within : slot - 1 < length found

pub slot_taken : (states : List (Option TypesOf)) (found : List TypesOf) (slots : List ℕ) (used place slot : ℕ) → shown found slots ≡ states → AreApart slots used × (used ≤ length found) → place < length states → slot ≡ get_or slots place slot → 0 < slot → IsTaken found slots place slot
slot_taken states found slots used place slot view kept lt read some =
    let is : slot ≡ slot_at slots place = slot_read states found slots place slot view lt read in
    record {
      inside = omega (arith, lt, ap length view, long_shown found slots);
      there = omega (arith, is, some);
      within = omega (arith, is, some, kept.0.there place, kept.1);
    }

pub taken_types : (states : List (Option TypesOf)) (found : List TypesOf) (slots : List ℕ) (place slot : ℕ) (us : TypesOf) → shown found slots ≡ states → IsTaken found slots place slot → us ≡ get_or found (slot - 1) us → types_at states place ≡ Some us
taken_types states found slots place slot us view taken read =
    subst (λ (xs : List (Option TypesOf)). types_at xs place ≡ Some us) view (taken_in found slots place (slot - 1) us taken.there taken.within (sym read))

-- .. and other types joined those that are kept in it
pub record IsJoinedIn (states : List (Option TypesOf)) (found : List TypesOf) (slots : List ℕ) (place slot : ℕ) (us ts vs : TypesOf) : Type 0 where
  pub there : types_at states place ≡ Some us
  pub shape : IsShaped us ts
  pub new : vs ≡ joined_with (Some us) ts
  pub shown_now : shown (set found (slot - 1) vs) slots ≡ set states place (Some vs)

pub types_joined : (states : List (Option TypesOf)) (found : List TypesOf) (slots : List ℕ) (used place slot : ℕ) (us ts vs : TypesOf) → shown found slots ≡ states → AreApart slots used × (used ≤ length found) → IsTaken found slots place slot → us ≡ get_or found (slot - 1) us → IsShaped us ts → vs.operands ≡ us.operands → vs.locals ≡ joined_lists us.locals ts.locals → IsJoinedIn states found slots place slot us ts vs
types_joined states found slots used place slot us ts vs view kept taken read shape operands locals = record {
  there = taken_types states found slots place slot us view taken read;
  shape = shape;
  new = both_joined us ts vs operands locals;
  shown_now =
      change_in found slots place (slot - 1) vs taken.inside taken.there (apart_within slots used (length found) kept.1 kept.0)
      ∙ ap (λ (xs : List (Option TypesOf)). set xs place (Some vs)) view;
}
