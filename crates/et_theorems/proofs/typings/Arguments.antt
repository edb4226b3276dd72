-- The arguments of a call, among operands of types.
use Rattle.std.proofs.Common.{◌≡◌, ℕ, true, List, [], ◌∷◌, ◌++◌, length, take, drop, Some, refl, sym, ◌∙◌, ap}
use Rattle.std.specs.Prelude.{map, reverse}
use Rattle.std.specs.List.{flat_map}
use Rattle.std.proofs.lemmas.List.{map-append, reverse-append, reverse-reverse, length-reverse, take-map, drop-map, append_assoc, append-nil}
use Rattle.std.proofs.lemmas.List.Concat.{flat_map-append}
use Rattle.std.proofs.lemmas.Option.{same_Some}
use Rattle.et_base.specs.declared.value.Value.{Value}
use Rattle.et_base.specs.declared.value.Value.TheVariants as value
use Rattle.et_class.specs.PoolOperands.Operand.{Operand}
use Rattle.et_class.specs.PoolOperands.Operand.TheVariants as operand
use Rattle.et_event.specs.Calls.{are_of}
use Rattle.et_flow.specs.declared.types.EntryType.{EntryType}
use Rattle.et_flow.specs.declared.types.EntryType.TheVariants as entry
use Rattle.et_flow.specs.Types.{type_of, operand_entries, local_entries}
use Rattle.et_verify.specs.Steps.{below_taken}
use Rattle.et_theorems.specs.typings.Values.{AreOperandsOf}
use Rattle.et_verify.proofs.Taken.{Takes, takes}

-- WHAT IS TAKEN is the first of the types

pub taken_first : (kinds : List Operand) (types left : List EntryType) → below_taken kinds types ≡ Some left → types ≡ flat_map operand_entries kinds ++ left
taken_first [] types left e = same_Some types left e
taken_first (kind ∷ kinds) types left e =
    let t : Takes kind kinds types left = takes kind kinds types left e in
    t.types_are ∙ (ap (λ (xs : List EntryType). operand_entries kind ++ xs) (taken_first kinds t.rest left t.more) ∙ sym (append_assoc (operand_entries kind) (flat_map operand_entries kinds) left))

-- THE LAST ARGUMENT IS ON TOP

turned : (kind : Operand) → operand_entries kind ≡ reverse (local_entries kind)
turned operand.Int = refl
turned operand.Long = refl
turned operand.Reference = refl

pub all_turned : (kinds : List Operand) → flat_map operand_entries (reverse kinds) ≡ reverse (flat_map local_entries kinds)
all_turned [] = refl
all_turned (kind ∷ kinds) =
    ap (flat_map operand_entries) (reverse-append (kind ∷ []) kinds)
    ∙ (flat_map-append operand_entries (reverse kinds) (kind ∷ [])
    ∙ (ap (λ (xs : List EntryType). xs ++ flat_map operand_entries (kind ∷ [])) (all_turned kinds)
    ∙ (ap (λ (xs : List EntryType). reverse (flat_map local_entries kinds) ++ xs) (append-nil (operand_entries kind) ∙ turned kind)
    ∙ sym (reverse-append (local_entries kind) (flat_map local_entries kinds)))))

-- OPERANDS are the arguments of a call, and others

take_front : {A : Type 0} (xs ys : List A) → take (length xs) (xs ++ ys) ≡ xs
take_front [] ys = refl
take_front (x ∷ xs) ys = ap (λ (zs : List _). x ∷ zs) (take_front xs ys)

drop_front : {A : Type 0} (xs ys : List A) → drop (length xs) (xs ++ ys) ≡ ys
drop_front [] ys = refl
drop_front (x ∷ xs) ys = drop_front xs ys

map_turned : (f : Value → EntryType) (vs : List Value) → map f (reverse vs) ≡ reverse (map f vs)
map_turned f [] = refl
map_turned f (v ∷ vs) =
    ap (map f) (reverse-append (v ∷ []) vs)
    ∙ (map-append f (reverse vs) (v ∷ []) ∙ (ap (λ (xs : List EntryType). xs ++ f v ∷ []) (map_turned f vs) ∙ sym (reverse-append (f v ∷ []) (map f vs))))

pub record Passes (kinds : List Operand) (ops : List Value) (left : List EntryType) (count : ℕ) : Type 0 where
  pub arguments : map type_of (reverse (take count ops)) ≡ flat_map local_entries kinds
  pub others : AreOperandsOf (drop count ops) left

pub passed : (kinds : List Operand) (ops : List Value) (types left : List EntryType) (count : ℕ) → AreOperandsOf ops types → below_taken (reverse kinds) types ≡ Some left → count ≡ length (flat_map local_entries kinds) → Passes kinds ops left count
passed kinds ops types left count are e long =
    let front : List EntryType = reverse (flat_map local_entries kinds) in
    let all : map type_of ops ≡ front ++ left = are ∙ (taken_first (reverse kinds) types left e ∙ ap (λ (xs : List EntryType). xs ++ left) (all_turned kinds)) in
    let same : count ≡ length front = long ∙ sym (length-reverse (flat_map local_entries kinds)) in
    record {
      arguments =
          map_turned type_of (take count ops)
          ∙ (ap reverse (sym (take-map type_of count ops) ∙ (ap (take count) all ∙ (ap (λ (n : ℕ). take n (front ++ left)) same ∙ take_front front left)))
          ∙ reverse-reverse (flat_map local_entries kinds));
      others = sym (drop-map type_of count ops) ∙ (ap (drop count) all ∙ (ap (λ (n : ℕ). drop n (front ++ left)) same ∙ drop_front front left));
    }

-- .. so they pass the test of a call

pub arguments_are : (kinds : List Operand) (vs : List Value) → map type_of vs ≡ flat_map local_entries kinds → are_of (map Some kinds) vs ≡ true
arguments_are [] [] e = refl
arguments_are [] (v ∷ vs) e = cc
arguments_are (operand.Int ∷ kinds) [] e = cc
arguments_are (operand.Int ∷ kinds) (value.Unset ∷ vs) e = cc
arguments_are (operand.Int ∷ kinds) (value.Int n ∷ vs) e = arguments_are kinds vs (let same : entry.Int ∷ map type_of vs ≡ entry.Int ∷ flat_map local_entries kinds = e in cc)
arguments_are (operand.Int ∷ kinds) (value.Long n ∷ vs) e = cc
arguments_are (operand.Int ∷ kinds) (value.LongHigh ∷ vs) e = cc
arguments_are (operand.Int ∷ kinds) (value.Null ∷ vs) e = cc
arguments_are (operand.Int ∷ kinds) (value.Ref o ∷ vs) e = cc
arguments_are (operand.Long ∷ kinds) [] e = cc
arguments_are (operand.Long ∷ kinds) (value.Unset ∷ vs) e = cc
arguments_are (operand.Long ∷ kinds) (value.Int n ∷ vs) e = cc
arguments_are (operand.Long ∷ kinds) (value.Long n ∷ []) e = cc
arguments_are (operand.Long ∷ kinds) (value.Long n ∷ value.Unset ∷ vs) e = cc
arguments_are (operand.Long ∷ kinds) (value.Long n ∷ value.Int k ∷ vs) e = cc
arguments_are (operand.Long ∷ kinds) (value.Long n ∷ value.Long k ∷ vs) e = cc
arguments_are (operand.Long ∷ kinds) (value.Long n ∷ value.LongHigh ∷ vs) e = arguments_are kinds vs (let same : entry.Long ∷ entry.LongHigh ∷ map type_of vs ≡ entry.Long ∷ entry.LongHigh ∷ flat_map local_entries kinds = e in cc)
arguments_are (operand.Long ∷ kinds) (value.Long n ∷ value.Null ∷ vs) e = cc
arguments_are (operand.Long ∷ kinds) (value.Long n ∷ value.Ref o ∷ vs) e = cc
arguments_are (operand.Long ∷ kinds) (value.LongHigh ∷ vs) e = cc
arguments_are (operand.Long ∷ kinds) (value.Null ∷ vs) e = cc
arguments_are (operand.Long ∷ kinds) (value.Ref o ∷ vs) e = cc
arguments_are (operand.Reference ∷ kinds) [] e = cc
arguments_are (operand.Reference ∷ kinds) (value.Unset ∷ vs) e = cc
arguments_are (operand.Reference ∷ kinds) (value.Int n ∷ vs) e = cc
arguments_are (operand.Reference ∷ kinds) (value.Long n ∷ vs) e = cc
arguments_are (operand.Reference ∷ kinds) (value.LongHigh ∷ vs) e = cc
arguments_are (operand.Reference ∷ kinds) (value.Null ∷ vs) e = arguments_are kinds vs (let same : entry.Reference ∷ map type_of vs ≡ entry.Reference ∷ flat_map local_entries kinds = e in cc)
arguments_are (operand.Reference ∷ kinds) (value.Ref o ∷ vs) e = arguments_are kinds vs (let same : entry.Reference ∷ map type_of vs ≡ entry.Reference ∷ flat_map local_entries kinds = e in cc)
