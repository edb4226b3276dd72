-- Slots in which no reference stands.
use Rattle.std.proofs.Common.{◌≡◌, ℕ, zero, suc, List, [], ◌∷◌, ◌++◌, set, replicate, refl, ◌∙◌, ap, ◌≤◌, length, take, get_or, Option, Some, None, Contains, arith, inl, inr, append_assoc, sym}
use Rattle.std.proofs.lemmas.List.{length-append}
use Rattle.std.proofs.lemmas.List.Elements.{Contains-append_left, Contains-append_right, Contains-append_cases}
use Rattle.et_base.specs.declared.value.Value.{Value}
use Rattle.et_base.specs.declared.value.Value.TheVariants.{Unset, Int, Long, LongHigh, Null, Ref}
use Rattle.et_heap.specs.Refs.{refs_of_value, refs_of}
use Rattle.et_base.proofs.Lists.{Contains-none}
use Rattle.et_heap.specs.Objects.{ObjectState, found, is_there}

pub none_unset : (n : ℕ) → refs_of (replicate n Unset) ≡ []
none_unset zero = refl
none_unset (suc n) = none_unset n

none_behind : (xs ys : List ℕ) → xs ++ ys ≡ [] → ys ≡ []
none_behind [] ys e = e
none_behind (x ∷ xs) ys e = cc

both_none : (xs ys : List ℕ) → xs ≡ [] → ys ≡ [] → xs ++ ys ≡ []
both_none xs ys e f = ap (λ (zs : List ℕ). zs ++ ys) e ∙ f

none_before : (xs ys : List ℕ) → xs ++ ys ≡ [] → xs ≡ []
none_before [] ys e = refl
none_before (x ∷ xs) ys e = cc

-- what is written is no reference either
pub none_written : (vs : List Value) (i : ℕ) (v : Value) → refs_of vs ≡ [] → refs_of_value v ≡ [] → refs_of (set vs i v) ≡ []
none_written [] i v none new = refl
none_written (x ∷ vs) zero v none new = both_none (refs_of_value v) (refs_of vs) new (none_behind (refs_of_value x) (refs_of vs) none)
none_written (x ∷ vs) (suc i) v none new =
    both_none (refs_of_value x) (refs_of (set vs i v)) (none_before (refs_of_value x) (refs_of vs) none) (none_written vs i v (none_behind (refs_of_value x) (refs_of vs) none) new)

pub no_reference : (v : Value) → ((o : ℕ) → v ≡ Ref o → ⊥) → refs_of_value v ≡ []
no_reference (Ref o) out = absurd (out o refl)
no_reference Unset out = refl
no_reference (Int n) out = refl
no_reference (Long n) out = refl
no_reference LongHigh out = refl
no_reference Null out = refl

-- a value refers to one object at most
pub one_reference : (v : Value) → length (refs_of_value v) ≤ 1
one_reference Unset = omega arith
one_reference (Int n) = omega arith
one_reference (Long n) = omega arith
one_reference LongHigh = omega arith
one_reference Null = omega arith
one_reference (Ref o) = omega arith

-- .. and so many values to no more objects
pub few_references : (n : ℕ) (vs : List Value) → length (refs_of (take n vs)) ≤ n
few_references zero vs = omega arith
few_references (suc n) [] = omega arith
few_references (suc n) (v ∷ vs) = omega (arith, length-append (refs_of_value v) (refs_of (take n vs)), one_reference v, few_references n vs)

-- what the first values refer to, all refer to
pub refs_taken : (xs : List Value) (n o : ℕ) → Contains (refs_of (take n xs)) o → Contains (refs_of xs) o
refs_taken xs zero o c = absurd (Contains-none o c)
refs_taken [] (suc n) o c = absurd (Contains-none o c)
refs_taken (x ∷ xs) (suc n) o c = elim (Contains-append_cases (refs_of_value x) (refs_of (take n xs)) o c) [
  | inl d ↦ Contains-append_left (refs_of_value x) (refs_of xs) o d
  | inr d ↦ Contains-append_right (refs_of_value x) (refs_of xs) o (refs_taken xs n o d)
]

-- no value stands past the end, nor in new slots
pub unset_past : (xs : List Value) (j : ℕ) → length xs ≤ j → get_or xs j Unset ≡ Unset
unset_past [] zero le = refl
unset_past [] (suc j) le = refl
unset_past (x ∷ xs) zero le = absurd (omega arith)
unset_past (x ∷ xs) (suc j) le = unset_past xs j (omega arith)

pub unset_at : (n j : ℕ) → get_or (replicate n Unset) j Unset ≡ Unset
unset_at zero j = refl
unset_at (suc n) zero = refl
unset_at (suc n) (suc j) = unset_at n j

pub found_there : (x : Option ObjectState) → is_there x → Some (found x) ≡ x
found_there None h = absurd h
found_there (Some x) h = refl

pub there_is : (x : Option ObjectState) → is_there x → x ≡ Some (found x)
there_is None h = absurd h
there_is (Some x) h = refl

-- values in a row refer to what each part refers to
pub refs_append : (xs ys : List Value) → refs_of (xs ++ ys) ≡ refs_of xs ++ refs_of ys
refs_append [] ys = refl
refs_append (x ∷ xs) ys = ap (λ (os : List ℕ). refs_of_value x ++ os) (refs_append xs ys) ∙ sym (append_assoc (refs_of_value x) (refs_of xs) (refs_of ys))
