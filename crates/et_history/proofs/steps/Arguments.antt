-- The arguments that a built-in method writes to a slot are references.
use Rattle.std.proofs.Common.{◌≡◌, ℕ, ◌+◌, suc, Bool, true, false, List, [], ◌∷◌, Option, Some, None, refl, sym, ◌∙◌, ap, subst, arith}
use Rattle.std.specs.Prelude.{if◌then◌else◌, codes, drop, find, option_map}
use Rattle.std.specs.Option.{option_map_or}
use Rattle.std.specs.List.{list_all}
use Rattle.std.specs.Str.{bytes_eq}
use Rattle.std.proofs.lemmas.Bool.{and_parts, false≢true}
use Rattle.std.proofs.lemmas.Slice.Eq.{bytes_eq-Decides}
use Rattle.std.proofs.lemmas.Option.{same_Some}
use Rattle.et_base.specs.declared.value.Value.{Value}
use Rattle.et_base.specs.declared.value.Value.TheVariants.{Unset, Int, Long, LongHigh, Null, Ref}
use Rattle.et_class.specs.Descriptors.{MethodType, method_type, types_of, after_dimensions, after_name}
use Rattle.et_class.specs.Names.{has}
use Rattle.et_class.specs.declared.flags.TheConstants.{ABSTRACT}
use Rattle.et_program.specs.BootMethods.BuiltIn.{BuiltIn}
use Rattle.et_program.specs.BootMethods.BuiltIn.TheVariants as built
use Rattle.et_program.specs.BootTable.{built_ins, is_called}
use Rattle.et_program.specs.BuiltIns.{built_in_of}
use Rattle.et_program.specs.declared.info.MethodInfo.{MethodInfo}
use Rattle.et_event.specs.BuiltIns.{argument}
use Rattle.et_event.specs.Calls.{begin_with, is_empty, are_arguments}
use Rattle.et_event.specs.PoolOperands.Operand.TheVariants as operand
use Rattle.et_history.specs.steps.Steps.{IsReference}
use Rattle.et_event.proofs.BuiltInRoom.{none_some}

-- THE DESCRIPTORS of those that write arguments to slots

abbrev message_type : List ℕ
message_type = codes "(Ljava/lang/String;)V"

abbrev cause_type : List ℕ
cause_type = codes "(Ljava/lang/String;Ljava/lang/Throwable;)V"

abbrev target_type : List ℕ
target_type = codes "(Ljava/lang/Runnable;)V"

abbrev type_of : BuiltIn → Option (List ℕ)
type_of built.SetMessage = Some message_type
type_of built.SetMessageAndCause = Some cause_type
type_of built.SetTarget = Some target_type
type_of other = None

abbrev is_described : List ℕ × List ℕ × BuiltIn → Bool
is_described row = option_map_or (λ (type : List ℕ). bytes_eq row.1 type) (type_of row.2) true

all_described : list_all is_described built_ins ≡ true
all_described = refl

described_by : (b : BuiltIn) (descriptor type : List ℕ) → option_map_or (λ (t : List ℕ). bytes_eq descriptor t) (type_of b) true ≡ true → type_of b ≡ Some type → descriptor ≡ type
described_by b descriptor type e is = (bytes_eq-Decides descriptor type).0 (subst (λ (o : Option (List ℕ)). option_map_or (λ (t : List ℕ). bytes_eq descriptor t) o true ≡ true) is e)

module _ (m : MethodInfo) (b : BuiltIn) (type : List ℕ) (is : type_of b ≡ Some type) where
  abbrev third : List ℕ × List ℕ × BuiltIn → BuiltIn
  third row = row.2

  found_described : (rows : List (List ℕ × List ℕ × BuiltIn)) → list_all is_described rows ≡ true → option_map third (find (is_called m.name m.descriptor) rows) ≡ Some b → m.descriptor ≡ type
  found_described [] all e = absurd (none_some b None refl e)
  found_described (row ∷ rows) all e = by (is_called m.name m.descriptor row) refl e (found_described rows parts.1)
    where
      parts : (is_described row ≡ true) × (list_all is_described rows ≡ true)
      parts = and_parts (is_described row) (list_all is_described rows) all

      by : (x : Bool) → is_called m.name m.descriptor row ≡ x → option_map third (if x then Some row else find (is_called m.name m.descriptor) rows) ≡ Some b
          → (option_map third (find (is_called m.name m.descriptor) rows) ≡ Some b → m.descriptor ≡ type) → m.descriptor ≡ type
      by true called q more =
          sym ((bytes_eq-Decides row.1 m.descriptor).0 (and_parts (bytes_eq row.0 m.name) (bytes_eq row.1 m.descriptor) called).1)
          ∙ described_by row.2 row.1 type parts.0 (ap (λ (k : BuiltIn). type_of k) (same_Some row.2 b q) ∙ is)
      by false called q more = more q

  described : built_in_of m ≡ Some b → m.descriptor ≡ type
  described e = by (has m.flags ABSTRACT) e
    where
      by : (x : Bool) → (if x then None else option_map third (find (is_called m.name m.descriptor) built_ins)) ≡ Some b → m.descriptor ≡ type
      by true q = absurd (none_some b None refl q)
      by false q = found_described built_ins all_described q

-- ARGUMENTS

-- the first is a reference, and the rest passes the test
head_reference : (rest : List Value → Bool) (vs : List Value) → begin_with (Some operand.Reference) rest vs ≡ true → IsReference (argument vs 0) × (rest (drop 1 vs) ≡ true)
head_reference rest [] e = absurd (false≢true e)
head_reference rest (Unset ∷ vs) e = absurd (false≢true e)
head_reference rest (Int n ∷ vs) e = absurd (false≢true e)
head_reference rest (Long n ∷ vs) e = absurd (false≢true e)
head_reference rest (LongHigh ∷ vs) e = absurd (false≢true e)
head_reference rest (Null ∷ vs) e = (tt, e)
head_reference rest (Ref o ∷ vs) e = (tt, e)

behind : (vs : List Value) (i : ℕ) → IsReference (argument (drop 1 vs) i) → IsReference (argument vs (i + 1))
behind [] i h = h
behind (v ∷ vs) i h = subst (λ (n : ℕ). IsReference (argument (v ∷ vs) n)) (next i) h
  where
    next : (n : ℕ) → suc n ≡ n + 1
    next n = omega arith

-- one behind the receiver
second : (rest : List Value → Bool) (vs : List Value) → begin_with (Some operand.Reference) (begin_with (Some operand.Reference) rest) vs ≡ true → IsReference (argument vs 1) × (rest (drop 1 (drop 1 vs)) ≡ true)
second rest vs e =
    let one = head_reference (begin_with (Some operand.Reference) rest) vs e in
    let two = head_reference rest (drop 1 vs) one.1 in
    (behind vs 0 two.0, two.1)

-- a method without code is called with these, behind a receiver
pub record IsPassed (m : MethodInfo) (arguments : List Value) : Type 0 where
  pub type : MethodType
  pub typed : method_type m.descriptor ≡ Some type
  pub passed : are_arguments false type arguments ≡ true

-- .. of this descriptor
typed_so : (m : MethodInfo) (arguments : List Value) (descriptor : List ℕ) (type : MethodType) → IsPassed m arguments → m.descriptor ≡ descriptor → method_type descriptor ≡ Some type → are_arguments false type arguments ≡ true
typed_so m arguments descriptor type h is typed =
    subst (λ (t : MethodType). are_arguments false t arguments ≡ true) (same_Some h.type type (sym h.typed ∙ (ap method_type is ∙ typed))) h.passed

abbrev message_typed : MethodType
message_typed = record { parameters = codes "Ljava/lang/String;" ∷ []; returned = codes "V" }

abbrev cause_typed : MethodType
cause_typed = record { parameters = codes "Ljava/lang/String;" ∷ codes "Ljava/lang/Throwable;" ∷ []; returned = codes "V" }

abbrev target_typed : MethodType
target_typed = record { parameters = codes "Ljava/lang/Runnable;" ∷ []; returned = codes "V" }

message_is : method_type message_type ≡ Some message_typed
unfolding types_of after_dimensions after_name
message_is = refl

cause_is : method_type cause_type ≡ Some cause_typed
unfolding types_of after_dimensions after_name
cause_is = refl

target_is : method_type target_type ≡ Some target_typed
unfolding types_of after_dimensions after_name
target_is = refl

module _ (m : MethodInfo) (arguments : List Value) (h : IsPassed m arguments) where
  pub message_reference : built_in_of m ≡ Some built.SetMessage → IsReference (argument arguments 1)
  message_reference is = (second is_empty arguments (typed_so m arguments message_type message_typed h (described m built.SetMessage message_type refl is) message_is)).0

  pub target_reference : built_in_of m ≡ Some built.SetTarget → IsReference (argument arguments 1)
  target_reference is = (second is_empty arguments (typed_so m arguments target_type target_typed h (described m built.SetTarget target_type refl is) target_is)).0

  pub cause_references : built_in_of m ≡ Some built.SetMessageAndCause → IsReference (argument arguments 1) × IsReference (argument arguments 2)
  cause_references is =
      let are : are_arguments false cause_typed arguments ≡ true = typed_so m arguments cause_type cause_typed h (described m built.SetMessageAndCause cause_type refl is) cause_is in
      let two = second (begin_with (Some operand.Reference) is_empty) arguments are in
      let three = head_reference is_empty (drop 1 (drop 1 arguments)) two.1 in
      (two.0, behind arguments 1 (behind (drop 1 arguments) 0 three.0))
