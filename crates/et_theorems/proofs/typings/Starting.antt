-- The local variables with which a method begins are of its first types.
use Rattle.std.proofs.Common.{◌≡◌, ℕ, ◌+◌, ◌-◌, ◌++◌, ◌==◌, Bool, true, false, List, [], ◌∷◌, length, Option, Some, None, refl, sym, ◌∙◌, ap, subst, arith, inl, suc, zero}
use Rattle.std.specs.Prelude.{if◌then◌else◌, map, slice_index_or, replicate, sum_by, unwrap_or, option_map}
use Rattle.std.specs.List.{flat_map}
use Rattle.std.proofs.lemmas.List.Sums.{sum_by-cons}
use Rattle.std.proofs.lemmas.List.{length-append, length-map, map-append}
use Rattle.std.proofs.lemmas.Option.{none-some, same_Some}
use Rattle.et_base.specs.declared.value.Value.{Value}
use Rattle.et_base.specs.declared.value.Value.TheVariants.{Unset}
use Rattle.et_class.specs.PoolOperands.Operand.{Operand}
use Rattle.et_class.specs.PoolOperands.Operand.TheVariants as operand
use Rattle.et_class.specs.Operands.{operand_kind}
use Rattle.et_class.specs.Descriptors.{MethodType, width_of}
use Rattle.et_event.specs.Calls.{entry_count}
use Rattle.et_state.specs.Threads.{locals_with}
use Rattle.et_flow.specs.declared.types.EntryType.{EntryType}
use Rattle.et_flow.specs.declared.types.EntryType.TheVariants as entry
use Rattle.et_verify.specs.Effects.{all_kinds, arguments_with}
use Rattle.et_flow.specs.Types.{local_entries, operand_entries, type_of}
use Rattle.et_flow.specs.Stores.{with_free}
use Rattle.et_verify.specs.Typings.{argument_entries, parameter_entries}
use Rattle.et_theorems.specs.typings.Values.{AreLocalsOf, ArePaired, type_at}
use Rattle.et_theorems.proofs.typings.Moves.{width_is}

-- PAIRS

abbrev in_list : List EntryType → ℕ → EntryType
in_list xs i = slice_index_or xs i entry.Free

behind_one : (t : EntryType) (xs : List EntryType) (k : ℕ) → in_list (t ∷ xs) (suc k + 1) ≡ in_list xs (k + 1)
behind_one t xs k = ap (λ (n : ℕ). in_list (t ∷ xs) n) (let same : suc k + 1 ≡ suc (k + 1) = omega arith in same)

next_one : (t : EntryType) (xs : List EntryType) → in_list (t ∷ xs) (0 + 1) ≡ in_list xs 0
next_one t xs = refl

-- an entry that is no half of a long
single_paired : (t : EntryType) (xs : List EntryType) → (t ≡ entry.Long → ⊥) → (t ≡ entry.LongHigh → ⊥) → ArePaired (in_list xs) → ArePaired (in_list (t ∷ xs))
single_paired t xs long high h = record { upper = up; lower = low; first = λ e. high e }
  where
    up : (i : ℕ) → in_list (t ∷ xs) i ≡ entry.Long → in_list (t ∷ xs) (i + 1) ≡ entry.LongHigh
    up zero e = absurd (long e)
    up (suc k) e = behind_one t xs k ∙ h.upper k e

    low : (i : ℕ) → in_list (t ∷ xs) (i + 1) ≡ entry.LongHigh → in_list (t ∷ xs) i ≡ entry.Long
    low zero e = absurd (h.first e)
    low (suc k) e = h.lower k (sym (behind_one t xs k) ∙ e)

-- a long
long_paired : (xs : List EntryType) → ArePaired (in_list xs) → ArePaired (in_list (entry.Long ∷ entry.LongHigh ∷ xs))
long_paired xs h = record { upper = up; lower = low; first = λ e. cc }
  where
    high_long : entry.LongHigh ≡ entry.Long → ⊥
    high_long e = cc

    two : (k : ℕ) → in_list (entry.Long ∷ entry.LongHigh ∷ xs) (suc (suc k) + 1) ≡ in_list xs (k + 1)
    two k = ap (λ (n : ℕ). in_list (entry.Long ∷ entry.LongHigh ∷ xs) n) (let same : suc (suc k) + 1 ≡ suc (suc (k + 1)) = omega arith in same)

    up : (i : ℕ) → in_list (entry.Long ∷ entry.LongHigh ∷ xs) i ≡ entry.Long → in_list (entry.Long ∷ entry.LongHigh ∷ xs) (i + 1) ≡ entry.LongHigh
    up zero e = refl
    up (suc zero) e = absurd (high_long e)
    up (suc (suc k)) e = two k ∙ h.upper k e

    low : (i : ℕ) → in_list (entry.Long ∷ entry.LongHigh ∷ xs) (i + 1) ≡ entry.LongHigh → in_list (entry.Long ∷ entry.LongHigh ∷ xs) i ≡ entry.Long
    low zero e = refl
    low (suc zero) e = absurd (h.first e)
    low (suc (suc k)) e = h.lower k (sym (two k) ∙ e)

free_paired : (n : ℕ) → ArePaired (in_list (replicate n entry.Free))
free_paired zero = record { upper = λ i e. absurd (none i e); lower = λ i e. absurd (no_high (i + 1) e); first = λ e. cc }
  where
    at_none : (i : ℕ) → in_list [] i ≡ entry.Free
    at_none i = refl

    free_long : entry.Free ≡ entry.Long → ⊥
    free_long q = cc

    free_high : entry.Free ≡ entry.LongHigh → ⊥
    free_high q = cc

    none : (i : ℕ) → in_list [] i ≡ entry.Long → ⊥
    none i e = free_long (sym (at_none i) ∙ e)

    no_high : (i : ℕ) → in_list [] i ≡ entry.LongHigh → ⊥
    no_high i e = free_high (sym (at_none i) ∙ e)
free_paired (suc n) = single_paired entry.Free (replicate n entry.Free) (λ q. cc) (λ q. cc) (free_paired n)

entries_paired : (kinds : List Operand) (n : ℕ) → ArePaired (in_list (flat_map local_entries kinds ++ replicate n entry.Free))
entries_paired [] n = free_paired n
entries_paired (operand.Int ∷ kinds) n = single_paired entry.Int (flat_map local_entries kinds ++ replicate n entry.Free) (λ q. cc) (λ q. cc) (entries_paired kinds n)
entries_paired (operand.Long ∷ kinds) n = long_paired (flat_map local_entries kinds ++ replicate n entry.Free) (entries_paired kinds n)
entries_paired (operand.Reference ∷ kinds) n = single_paired entry.Reference (flat_map local_entries kinds ++ replicate n entry.Free) (λ q. cc) (λ q. cc) (entries_paired kinds n)

-- VALUES WHOSE TYPES ARE THESE

typed_at : (vs : List Value) (i : ℕ) → type_at vs i ≡ in_list (map type_of vs) i
typed_at [] i = refl
typed_at (v ∷ vs) zero = refl
typed_at (v ∷ vs) (suc i) = typed_at vs i

pub locals_are : (vs : List Value) (types : List EntryType) → map type_of vs ≡ types → ArePaired (in_list types) → AreLocalsOf vs types
locals_are vs types same paired = record {
  long = sym (length-map vs type_of) ∙ ap length same;
  each = λ i lt. inl (is i);
  paired = record {
    upper = λ i e. is (i + 1) ∙ paired.upper i (sym (is i) ∙ e);
    lower = λ i e. is i ∙ paired.lower i (sym (is (i + 1)) ∙ e);
    first = λ e. paired.first (sym (is 0) ∙ e);
  };
}
  where
    is : (i : ℕ) → type_at vs i ≡ in_list types i
    is i = typed_at vs i ∙ ap (λ (xs : List EntryType). in_list xs i) same

unset_free : (n : ℕ) → map type_of (replicate n Unset) ≡ replicate n entry.Free
unset_free zero = refl
unset_free (suc n) = ap (λ (xs : List EntryType). entry.Free ∷ xs) (unset_free n)

-- arguments of these kinds, and the rest unset
pub arguments_local : (kinds : List Operand) (count : ℕ) (arguments : List Value) → map type_of arguments ≡ flat_map local_entries kinds → AreLocalsOf (locals_with count arguments) (with_free count (flat_map local_entries kinds))
arguments_local kinds count arguments are =
    let long : length arguments ≡ length (flat_map local_entries kinds) = sym (length-map arguments type_of) ∙ ap length are in
    locals_are (locals_with count arguments) (with_free count (flat_map local_entries kinds))
    (map-append type_of arguments (replicate (count - length arguments) Unset)
    ∙ (ap (λ (xs : List EntryType). xs ++ map type_of (replicate (count - length arguments) Unset)) are
    ∙ ap (λ (xs : List EntryType). flat_map local_entries kinds ++ xs) (unset_free (count - length arguments) ∙ ap (λ (n : ℕ). replicate (count - n) entry.Free) long)))
    (entries_paired kinds (count - length (flat_map local_entries kinds)))

-- PARAMETERS

more_kinds : (kind : Operand) (x : Option (List Operand)) (kinds : List Operand) → option_map (λ more. kind ∷ more) x ≡ Some kinds → (more : List Operand) × (x ≡ Some more) × (kinds ≡ kind ∷ more)
more_kinds kind None kinds e = absurd (none-some kinds e)
more_kinds kind (Some more) kinds e = (more, refl, sym (same_Some (kind ∷ more) kinds e))

pub all_some : (os : List (Option Operand)) (kinds : List Operand) → all_kinds os ≡ Some kinds → os ≡ map Some kinds
all_some [] kinds e = subst (λ (ks : List Operand). [] ≡ map Some ks) (same_Some [] kinds e) refl
all_some (None ∷ os) kinds e = absurd (none-some kinds e)
all_some (Some kind ∷ os) kinds e =
    let x = more_kinds kind (all_kinds os) kinds e in
    subst (λ (ks : List Operand). Some kind ∷ os ≡ map Some ks) (sym x.2) (ap (λ (more : List (Option Operand)). Some kind ∷ more) (all_some os x.0 x.1))

kind_width : (descriptor : List ℕ) (kind : Operand) → operand_kind descriptor ≡ Some kind → length (local_entries kind) ≡ width_of descriptor
kind_width descriptor kind e =
    same_width kind ∙ (sym (ap (λ (k : Option Operand). length (operand_entries (unwrap_or k (if width_of descriptor == 2 then operand.Long else operand.Int)))) e) ∙ width_is descriptor)
  where
    same_width : (k : Operand) → length (local_entries k) ≡ length (operand_entries k)
    same_width operand.Int = refl
    same_width operand.Long = refl
    same_width operand.Reference = refl

-- as many entries as the parameters are wide
pub parameters_width : (types : List (List ℕ)) (kinds : List Operand) → map operand_kind types ≡ map Some kinds → sum_by width_of types ≡ length (flat_map local_entries kinds)
parameters_width [] [] e = refl
parameters_width [] (kind ∷ kinds) e = cc
parameters_width (type ∷ types) [] e = cc
parameters_width (type ∷ types) (kind ∷ kinds) e =
    let head : operand_kind type ≡ Some kind = (let q : operand_kind type ∷ map operand_kind types ≡ Some kind ∷ map Some kinds = e in cc) in
    let tail : map operand_kind types ≡ map Some kinds = (let q : operand_kind type ∷ map operand_kind types ≡ Some kind ∷ map Some kinds = e in cc) in
    let one : length (local_entries kind) ≡ width_of type = kind_width type kind head in
    let rest : sum_by width_of types ≡ length (flat_map local_entries kinds) = parameters_width types kinds tail in
    let step : sum_by width_of (type ∷ types) ≡ width_of type + sum_by width_of types = sum_by-cons width_of type types in
    let more : length (flat_map local_entries (kind ∷ kinds)) ≡ length (local_entries kind) + length (flat_map local_entries kinds) = length-append (local_entries kind) (flat_map local_entries kinds) in
    omega (arith, one, rest, step, more)

pub count_is : (static : Bool) (type : MethodType) (kinds : List Operand) → map operand_kind type.parameters ≡ map Some kinds → entry_count static type ≡ length (flat_map local_entries (arguments_with static kinds))
count_is true type kinds e = (let w = parameters_width type.parameters kinds e in omega (arith, w))
count_is false type kinds e = (let w = parameters_width type.parameters kinds e in omega (arith, w))

parameter_same : (kinds : List Operand) → flat_map parameter_entries (map Some kinds) ≡ flat_map local_entries kinds
parameter_same [] = refl
parameter_same (kind ∷ kinds) = ap (λ (xs : List EntryType). local_entries kind ++ xs) (parameter_same kinds)

pub entries_are : (static : Bool) (os : List (Option Operand)) (kinds : List Operand) → os ≡ map Some kinds → argument_entries static os ≡ flat_map local_entries (arguments_with static kinds)
entries_are true os kinds e = ap (λ (x : List (Option Operand)). flat_map parameter_entries x) e ∙ parameter_same kinds
entries_are false os kinds e = ap (λ (x : List (Option Operand)). entry.Reference ∷ flat_map parameter_entries x) e ∙ ap (λ (xs : List EntryType). entry.Reference ∷ xs) (parameter_same kinds)
