-- The methods of texts: what each answers is of the type that its descriptor returns, and charAt takes an int.
use Rattle.std.proofs.Common.{◌≡◌, ℕ, ◌++◌, ◌==◌, ◌&&◌, Bool, true, false, List, [], ◌∷◌, Option, Some, None, refl, ◌∙◌, ap, subst}
use Rattle.std.specs.Prelude.{find, if◌then◌else◌, map, not, option_map, unwrap_or}
use Rattle.std.specs.List.{list_all, slice_index_or}
use Rattle.std.specs.Str.{bytes_eq}
use Rattle.std.proofs.lemmas.Bool.{and_parts, false≢true, not-true}
use Rattle.std.proofs.lemmas.Slice.Eq.{bytes_eq-Decides}
use Rattle.std.proofs.lemmas.Option.{none-some, same_Some}
use Rattle.et_boot.specs.TextMethods.{is_text_method, text_methods}
use Rattle.et_class.specs.Descriptors.{MethodType, after_dimensions, after_name, is_void, method_type, types_of, width_of}
use Rattle.et_class.specs.Operands.{operand_kind}
use Rattle.et_class.specs.PoolOperands.Operand.{Operand}
use Rattle.et_class.specs.PoolOperands.Operand.TheVariants as operand
use Rattle.et_event.specs.Sound.{returned_of}
use Rattle.et_program.specs.BootTexts.TextMethod.{TextMethod}
use Rattle.et_program.specs.BootTexts.TextMethod.TheVariants.{Append, Begin, BeginWith, CharAt, EndLine, Equals, Length, Print, PrintLine, ToString}
use Rattle.et_program.specs.BuiltIns.{text_method_in, text_method_of}
use Rattle.et_program.specs.Entries.{Linked, method_at, no_class}
use Rattle.et_program.specs.declared.info.MethodInfo.{MethodInfo}
use Rattle.et_flow.specs.declared.types.EntryType.{EntryType}
use Rattle.et_flow.specs.declared.types.EntryType.TheVariants as entry
use Rattle.et_verify.specs.Effects.{result_kind, returned_kind}
use Rattle.et_verify.specs.Steps.{with_given}
use Rattle.et_flow.specs.Types.{operand_entries}
use Rattle.et_theorems.proofs.typings.Answering.{answers_as, described, nothing_given, reference_given}

-- WHAT IT ANSWERS

abbrev pub text_answer : TextMethod → Option Operand
text_answer Length = Some operand.Int
text_answer CharAt = Some operand.Int
text_answer Equals = Some operand.Int
text_answer Begin = None
text_answer BeginWith = None
text_answer ToString = Some operand.Reference
text_answer (Append kind) = Some operand.Reference
text_answer (Print kind) = None
text_answer (PrintLine kind) = None
text_answer EndLine = None

abbrev is_int_kind : Option Operand → Bool
is_int_kind (Some operand.Int) = true
is_int_kind other = false

abbrev pub answered_as : Option Operand → List ℕ → Bool
answered_as None returned = answers_as 0 returned
answered_as (Some operand.Int) returned = not (is_void returned) && is_int_kind (operand_kind returned)
answered_as (Some operand.Long) returned = false
answered_as (Some operand.Reference) returned = answers_as 1 returned

int_given : (returned : List ℕ) (left : List EntryType) → answered_as (Some operand.Int) returned ≡ true → with_given (returned_kind returned) left ≡ entry.Int ∷ left
int_given returned left h =
    let p = and_parts (not (is_void returned)) (is_int_kind (operand_kind returned)) h in
    ap (λ (b : Bool). with_given (if b then None else Some (result_kind returned)) left) (not-true (is_void returned) p.0) ∙ by (operand_kind returned) p.1
  where
    by : (k : Option Operand) → is_int_kind k ≡ true → operand_entries (unwrap_or k (if width_of returned == 2 then operand.Long else operand.Int)) ++ left ≡ entry.Int ∷ left
    by None q = absurd (false≢true q)
    by (Some operand.Int) q = refl
    by (Some operand.Long) q = absurd (false≢true q)
    by (Some operand.Reference) q = absurd (false≢true q)

-- .. so what is left is of the types after it
pub given_as : (answer : Option Operand) (returned : List ℕ) (left : List EntryType) → answered_as answer returned ≡ true → with_given (returned_kind returned) left ≡ with_given answer left
given_as None returned left h = nothing_given returned left h
given_as (Some operand.Int) returned left h = int_given returned left h
given_as (Some operand.Long) returned left h = absurd (false≢true h)
given_as (Some operand.Reference) returned left h = reference_given returned left h

-- WHAT IT TAKES

abbrev are_one_int : List (Option Operand) → Bool
are_one_int (Some operand.Int ∷ []) = true
are_one_int other = false

abbrev is_of_one_int : Option MethodType → Bool
is_of_one_int None = false
is_of_one_int (Some type) = are_one_int (map operand_kind type.parameters)

abbrev pub takes_index : TextMethod → List ℕ → Bool
takes_index CharAt descriptor = is_of_one_int (method_type descriptor)
takes_index other descriptor = true

one_int : (kinds : List (Option Operand)) → are_one_int kinds ≡ true → kinds ≡ Some operand.Int ∷ []
one_int [] h = absurd (false≢true h)
one_int (None ∷ kinds) h = absurd (false≢true h)
one_int (Some operand.Int ∷ []) h = refl
one_int (Some operand.Int ∷ kind ∷ kinds) h = absurd (false≢true h)
one_int (Some operand.Long ∷ kinds) h = absurd (false≢true h)
one_int (Some operand.Reference ∷ kinds) h = absurd (false≢true h)

pub index_taken : (descriptor : List ℕ) (type : MethodType) → takes_index CharAt descriptor ≡ true → method_type descriptor ≡ Some type → map operand_kind type.parameters ≡ Some operand.Int ∷ []
index_taken descriptor type h typed = one_int (map operand_kind type.parameters) (subst (λ (o : Option MethodType). is_of_one_int o ≡ true) typed h)

-- THE TABLE

abbrev Row : Type 0
Row = List ℕ × List ℕ × List ℕ × TextMethod

abbrev row_fits : Row → Bool
row_fits row = answered_as (text_answer row.3) (returned_of (described row.2)) && takes_index row.3 row.2

all_fit : list_all row_fits text_methods ≡ true
unfolding types_of after_dimensions after_name
all_fit = refl

pub record FitsType (m : MethodInfo) (x : TextMethod) : Type 0 where
  pub answers : answered_as (text_answer x) (returned_of m) ≡ true
  pub index : takes_index x m.descriptor ≡ true

fits_by : (m : MethodInfo) (class : List ℕ) (x : TextMethod) (rs : List Row) → list_all row_fits rs ≡ true → option_map (λ (row : Row). row.3) (find (is_text_method class m.name m.descriptor) rs) ≡ Some x → FitsType m x
fits_by m class x [] all e = absurd (none-some x e)
fits_by m class x (row ∷ rs) all e = by (is_text_method class m.name m.descriptor row) refl e (fits_by m class x rs parts.1)
  where
    parts : (row_fits row ≡ true) × (list_all row_fits rs ≡ true)
    parts = and_parts (row_fits row) (list_all row_fits rs) all

    by : (b : Bool) → is_text_method class m.name m.descriptor row ≡ b → option_map (λ (r : Row). r.3) (if b then Some row else find (is_text_method class m.name m.descriptor) rs) ≡ Some x → (option_map (λ (r : Row). r.3) (find (is_text_method class m.name m.descriptor) rs) ≡ Some x → FitsType m x) → FitsType m x
    by true is q more =
        let type : row.2 ≡ m.descriptor = (bytes_eq-Decides row.2 m.descriptor).0 (and_parts (bytes_eq row.0 class && bytes_eq row.1 m.name) (bytes_eq row.2 m.descriptor) is).1 in
        let same : row.3 ≡ x = same_Some row.3 x q in
        let fits = and_parts (answered_as (text_answer row.3) (returned_of (described row.2))) (takes_index row.3 row.2) parts.0 in
        record {
          answers = subst (λ (y : TextMethod). answered_as (text_answer y) (returned_of m) ≡ true) same (subst (λ (d : List ℕ). answered_as (text_answer row.3) (returned_of (described d)) ≡ true) type fits.0);
          index = subst (λ (y : TextMethod). takes_index y m.descriptor ≡ true) same (subst (λ (d : List ℕ). takes_index row.3 d ≡ true) type fits.1);
        }
    by false is q more = more q

pub fits_type : (p : Linked) (k : ℕ) (x : TextMethod) → text_method_of p k ≡ Some x → FitsType (method_at p k) x
unfolding text_method_in
fits_type p k x is = fits_by (method_at p k) (slice_index_or p.classes (method_at p k).class no_class).info.name x text_methods all_fit is
