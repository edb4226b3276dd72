-- The built-in classes that declare no field, and what stands above them in the table.
use Rattle.std.proofs.Common.{◌≡◌, ℕ, zero, suc, ◌+◌, ◌<◌, ◌≤◌, Bool, true, false, cond, not, ◌&&◌, List, [], ◌∷◌, length, Option, None, Some, refl, subst, arith}
use Rattle.std.specs.Prelude.{All, nat_lt, codes}
use Rattle.std.specs.List.{slice_index_or, position_from, list_all}
use Rattle.std.specs.Option.{option_map_or}
use Rattle.std.specs.Str.{bytes_eq}
use Rattle.std.proofs.lemmas.Bool.{and_parts, not-true, false≢true}
use Rattle.std.proofs.lemmas.List.Elements.{All-nil, All-cons}
use Rattle.et_boot.specs.Classes.{BootClassOf, BootFieldOf, no_boot_class}
use Rattle.et_program.specs.declared.info.FieldInfo.{FieldInfo}
use Rattle.et_program.specs.Files.{boots}
use Rattle.et_program.specs.MembersOf.{numbered, boot_fields}
use Rattle.et_event.specs.declared.errors.GuestError.{GuestError}
use Rattle.et_event.specs.declared.errors.GuestError.TheVariants.{AbstractMethodError, ArithmeticException, ArrayIndexOutOfBoundsException, ArrayStoreException, ClassCastException, ExceptionInInitializerError, IllegalMonitorStateException, IllegalThreadStateException, IncompatibleClassChangeError, InstantiationError, NegativeArraySizeException, NoClassDefFoundError, NoSuchFieldError, NoSuchMethodError, NullPointerException, OutOfMemoryError, StackOverflowError, StringIndexOutOfBoundsException, UnsatisfiedLinkError}
use Rattle.et_event.specs.Errors.{error_name}

abbrev is_none_of : List BootFieldOf → Bool
is_none_of [] = true
is_none_of (f ∷ fs) = false

-- class k of the table declares no field
pub has_no_fields : List BootClassOf → ℕ → Bool
has_no_fields [] k = false
has_no_fields (c ∷ cs) zero = is_none_of c.fields
has_no_fields (c ∷ cs) (suc k) = has_no_fields cs k

pub no_fields_within : (cs : List BootClassOf) (k : ℕ) → has_no_fields cs k ≡ true → k < length cs
unfolding has_no_fields
no_fields_within [] k h = absurd (false≢true h)
no_fields_within (c ∷ cs) zero h = omega arith
no_fields_within (c ∷ cs) (suc k) h = let lt : k < length cs = no_fields_within cs k h in omega arith

pub none_behind : (cs : List BootClassOf) (k : ℕ) → length cs ≤ k → has_no_fields cs k ≡ false
unfolding has_no_fields
none_behind [] k le = refl
none_behind (c ∷ cs) zero le = absurd (omega arith)
none_behind (c ∷ cs) (suc k) le = none_behind cs k (omega arith)

-- where a class of this name stands in a table
abbrev pub place_among : List BootClassOf → List ℕ → Option ℕ
place_among table name = position_from (λ (c : BootClassOf). bytes_eq name c.name) 0 table

abbrev pub boot_place : List ℕ → Option ℕ
boot_place name = place_among boots name

-- a class of the table that declares no field, before class k
abbrev pub is_before : List BootClassOf → ℕ → Option ℕ → Bool
is_before table k None = false
is_before table k (Some q) = nat_lt q k && has_no_fields table q

abbrev pub are_before : List BootClassOf → ℕ → BootClassOf → Bool
are_before table k c = option_map_or (λ name. is_before table k (place_among table name)) c.super_name true && list_all (λ name. is_before table k (place_among table name)) c.interfaces

abbrev all_are_before : List BootClassOf → ℕ → List BootClassOf → Bool
all_are_before table k [] = true
all_are_before table k (c ∷ cs) = cond (is_none_of c.fields) (are_before table k c) true && all_are_before table (k + 1) cs

table_in_order : all_are_before boots 0 boots ≡ true
unfolding boots has_no_fields
table_in_order = refl

before_at : (table : List BootClassOf) (j : ℕ) (cs : List BootClassOf) (k : ℕ) → all_are_before table j cs ≡ true → has_no_fields cs k ≡ true → are_before table (j + k) (slice_index_or cs k no_boot_class) ≡ true
unfolding has_no_fields
before_at table j [] k h n = absurd (false≢true n)
before_at table j (c ∷ cs) zero h n =
    let here : cond (is_none_of c.fields) (are_before table j c) true ≡ true = (and_parts (cond (is_none_of c.fields) (are_before table j c) true) (all_are_before table (j + 1) cs) h).0 in
    let there : are_before table j c ≡ true = subst (λ b. cond b (are_before table j c) true ≡ true) n here in
    subst (λ i. are_before table i c ≡ true) (let same : j ≡ j + 0 = omega arith in same) there
before_at table j (c ∷ cs) (suc k) h n =
    let rest : all_are_before table (j + 1) cs ≡ true = (and_parts (cond (is_none_of c.fields) (are_before table j c) true) (all_are_before table (j + 1) cs) h).1 in
    subst (λ i. are_before table i (slice_index_or cs k no_boot_class) ≡ true) (let same : j + 1 + k ≡ j + suc k = omega arith in same) (before_at table (j + 1) cs k rest n)

-- what a class that declares no field names above itself declares none either
pub above_in_table : (k : ℕ) → has_no_fields boots k ≡ true → are_before boots k (slice_index_or boots k no_boot_class) ≡ true
above_in_table k n = subst (λ i. are_before boots i (slice_index_or boots k no_boot_class) ≡ true) (let same : 0 + k ≡ k = omega arith in same) (before_at boots 0 boots k table_in_order n)

-- THE FIELDS of the table are of other classes

abbrev are_of_others : List BootClassOf → List FieldInfo → Bool
are_of_others table fs = list_all (λ (f : FieldInfo). not (has_no_fields table f.class)) fs

each_of_others : (table : List BootClassOf) (fs : List FieldInfo) → are_of_others table fs ≡ true → All (λ (f : FieldInfo). has_no_fields table f.class ≡ false) fs
each_of_others table [] h = All-nil (λ (f : FieldInfo). has_no_fields table f.class ≡ false)
each_of_others table (f ∷ fs) h =
    let parts = and_parts (not (has_no_fields table f.class)) (are_of_others table fs) h in
    All-cons (λ (g : FieldInfo). has_no_fields table g.class ≡ false) f fs (not-true (has_no_fields table f.class) parts.0) (each_of_others table fs parts.1)

table_of_others : (static : Bool) → are_of_others boots (numbered (boot_fields static) 0 boots) ≡ true
unfolding boots has_no_fields
table_of_others true = refl
table_of_others false = refl

pub fields_of_others : (static : Bool) → All (λ (f : FieldInfo). has_no_fields boots f.class ≡ false) (numbered (boot_fields static) 0 boots)
fields_of_others static = each_of_others boots (numbered (boot_fields static) 0 boots) (table_of_others static)

-- STRINGS, PRINT STREAMS AND THE EXCEPTIONS of the machine are of classes that declare no field

-- there is a class of this name, which declares no field
pub record IsFieldless (name : List ℕ) : Type 0 where
  pub place : ℕ
  pub found : boot_place name ≡ Some place
  pub fieldless : has_no_fields boots place ≡ true

abbrev fieldless_among : List BootClassOf → List ℕ → Bool
fieldless_among table name = option_map_or (has_no_fields table) (place_among table name) false

abbrev has_fieldless : List ℕ → Bool
has_fieldless name = fieldless_among boots name

fieldless_by : (name : List ℕ) (o : Option ℕ) → boot_place name ≡ o → option_map_or (has_no_fields boots) o false ≡ true → IsFieldless name
fieldless_by name None e h = absurd (false≢true h)
fieldless_by name (Some k) e h = record { place = k; found = e; fieldless = h }

fieldless : (name : List ℕ) → has_fieldless name ≡ true → IsFieldless name
fieldless name h = fieldless_by name (boot_place name) refl h

error_fieldless : (error : GuestError) → has_fieldless (error_name error) ≡ true
unfolding boots has_no_fields
error_fieldless AbstractMethodError = refl
error_fieldless ArithmeticException = refl
error_fieldless ArrayIndexOutOfBoundsException = refl
error_fieldless ArrayStoreException = refl
error_fieldless ClassCastException = refl
error_fieldless ExceptionInInitializerError = refl
error_fieldless IllegalMonitorStateException = refl
error_fieldless IllegalThreadStateException = refl
error_fieldless IncompatibleClassChangeError = refl
error_fieldless InstantiationError = refl
error_fieldless NegativeArraySizeException = refl
error_fieldless NoClassDefFoundError = refl
error_fieldless NoSuchFieldError = refl
error_fieldless NoSuchMethodError = refl
error_fieldless NullPointerException = refl
error_fieldless OutOfMemoryError = refl
error_fieldless StackOverflowError = refl
error_fieldless StringIndexOutOfBoundsException = refl
error_fieldless UnsatisfiedLinkError = refl

string_fieldless : has_fieldless (codes "java/lang/String") ≡ true
unfolding boots has_no_fields
string_fieldless = refl

stream_fieldless : has_fieldless (codes "java/io/PrintStream") ≡ true
unfolding boots has_no_fields
stream_fieldless = refl

pub of_error : (error : GuestError) → IsFieldless (error_name error)
of_error error = fieldless (error_name error) (error_fieldless error)

pub of_string : IsFieldless (codes "java/lang/String")
of_string = fieldless (codes "java/lang/String") string_fieldless

pub of_stream : IsFieldless (codes "java/io/PrintStream")
of_stream = fieldless (codes "java/io/PrintStream") stream_fieldless

-- no class of the table has the name of the type of main's arguments
pub no_boot_array : boot_place (codes "[Ljava/lang/String;") ≡ None
unfolding boots
no_boot_array = refl

-- Object, Cloneable and Serializable, which stand above each array class
pub object_fieldless : has_no_fields boots 0 ≡ true
unfolding boots has_no_fields
object_fieldless = refl

pub cloneable_fieldless : has_no_fields boots 2 ≡ true
unfolding boots has_no_fields
cloneable_fieldless = refl

pub serializable_fieldless : has_no_fields boots 4 ≡ true
unfolding boots has_no_fields
serializable_fieldless = refl
