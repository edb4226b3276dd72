-- The constant of a field of a class file is of the type of the field (JVMS 4.7.2).
use Rattle.std.proofs.Common.{◌≡◌, ℕ, ℤ, Bool, true, false, ◌||◌, ◌==◌, List, [], ◌∷◌, length, Option, None, Some, option_map, refl, sym, ap, subst}
use mathlib.Core.Logic.{⊎_elim}
use Rattle.std.specs.Prelude.{if◌then◌else◌}
use Rattle.std.specs.Int.{w16, from_be_bytes}
use Rattle.std.specs.List.{find}
use Rattle.std.specs.Option.{option_or}
use Rattle.std.specs.Str.{bytes_eq}
use Rattle.std.proofs.lemmas.Bool.{and_parts, or_cases, eqb-true, false≢true}
use Rattle.std.proofs.lemmas.List.Elements.{All-map}
use Rattle.std.proofs.lemmas.Option.{none-some}
use Rattle.et_base.specs.declared.value.Value.TheVariants.{Int, Long, Null}
use Rattle.et_pool.specs.Entries.{Item, Text, Word, Wide, Name, Pair, Handle}
use Rattle.et_pool.specs.Looks.{slot_at, utf8_at, tag_at, tag_of_slot, integer_of_slot, long_of_slot, named_by}
use Rattle.et_pool.specs.declared.tags.TheConstants.{INTEGER, LONG, STRING}
use Rattle.et_class.specs.declared.flags.TheConstants.{STATIC, INTERFACE}
use Rattle.et_class.specs.declared.names.TheConstants.{STRING_TYPE}
use Rattle.et_class.specs.Classes.{IsClassFile}
use Rattle.et_class.specs.Fields.{is_constant, is_constant_for, is_constant_value, is_int_type, is_long_type, constant_of, index_in}
use Rattle.et_class.specs.Layout.{ClassOf, MemberOf, AttributeOf}
use Rattle.et_class.specs.Names.{has}
use Rattle.et_hierarchy.proofs.Names.{same_name}
use Rattle.et_event.specs.Operands.{operand_kind, kind_of_letter}
use Rattle.et_event.specs.Sites.{LoadedConstant, AnInt, ALong, AString, constant_at}
use Rattle.et_event.specs.Sound.{is_of_kind}
use Rattle.et_event.specs.PoolOperands.Operand.TheVariants as operand
use Rattle.et_program.specs.Files.{or_empty}
use Rattle.et_program.specs.Loaded.{LoadedMember, loaded_class, loaded_field}
use Rattle.et_program.specs.MembersOf.{pool_text}
use Rattle.et_event.specs.Programs.{value_like}
use Rattle.et_history.specs.programs.Fields.{HasTypedConstants, KeepsFieldRules}
use Rattle.et_history.proofs.programs.Files.{IsWellField, well_fields, constant_by, static_fields, static_constants}
use Rattle.et_history.proofs.programs.PromisedFiles.{found}
use Rattle.et_history.proofs.programs.Lists.{if_true}

-- TYPES

abbrev IsIntLetter : ℕ → Type 0
IsIntLetter a = kind_of_letter a ≡ Some operand.Int

letter_is : (a b : ℕ) → IsIntLetter b → (a == b) ≡ true → IsIntLetter a
letter_is a b h e = subst IsIntLetter (sym (eqb-true a b e)) h

int_letter : (a : ℕ) → ((a == 73) || (a == 83) || (a == 67) || (a == 66) || (a == 90)) ≡ true → IsIntLetter a
int_letter a h =
    ⊎_elim
    (λ x.
    ⊎_elim
    (λ y.
    ⊎_elim
    (λ z. ⊎_elim (λ i. letter_is a 73 refl i) (λ s. letter_is a 83 refl s) (or_cases (a == 73) (a == 83) z))
    (λ c. letter_is a 67 refl c)
    (or_cases ((a == 73) || (a == 83)) (a == 67) y))
    (λ b. letter_is a 66 refl b)
    (or_cases ((a == 73) || (a == 83) || (a == 67)) (a == 66) x))
    (λ z. letter_is a 90 refl z)
    (or_cases ((a == 73) || (a == 83) || (a == 67) || (a == 66)) (a == 90) h)

abbrev Fits : List ℕ → LoadedConstant → Type 0
Fits type k = is_of_kind (operand_kind type) (value_like k) ≡ true

int_fits : (type : List ℕ) (n : ℤ) → is_int_type type ≡ true → Fits type (AnInt n)
int_fits [] n h = absurd (false≢true h)
int_fits (a ∷ rest) n h = ap (λ o. is_of_kind o (Int n)) (int_letter a (and_parts _ (length rest == 0) h).0)

long_fits : (type : List ℕ) (n : ℤ) → is_long_type type ≡ true → Fits type (ALong n)
long_fits [] n h = absurd (false≢true h)
long_fits (a ∷ rest) n h = ap (λ (b : ℕ). is_of_kind (kind_of_letter b) (Long n)) (eqb-true a 74 (and_parts (a == 74) (length rest == 0) h).0)

string_fits : (type bytes : List ℕ) → bytes_eq type STRING_TYPE.now ≡ true → Fits type (AString bytes)
string_fits type bytes h = ap (λ (t : List ℕ). is_of_kind (operand_kind t) Null) (same_name type STRING_TYPE.now h)

-- ENTRIES of the pool

some_is : (type : List ℕ) (c k : LoadedConstant) → Some c ≡ Some k → Fits type c → Fits type k
some_is type c k e h = subst (Fits type) (same e) h
  where
    same : Some c ≡ Some k → c ≡ k
    same q = cc

abbrev constant_in : List (Option Item) → Option Item → Option LoadedConstant
constant_in slots s = option_or (option_map AnInt (integer_of_slot s)) (option_or (option_map ALong (long_of_slot s)) (option_map AString (named_by slots STRING s)))

word_fits : (type : List ℕ) (tag : ℕ) (n : ℤ) (k : LoadedConstant) (b : Bool) → (tag == INTEGER) ≡ b → is_constant_for (Some type) tag ≡ true → option_or (option_map AnInt (if b then Some n else None)) None ≡ Some k → Fits type k
word_fits type tag n k true t h e = some_is type (AnInt n) k e (int_fits type n (subst (λ (i : ℕ). is_constant_for (Some type) i ≡ true) (eqb-true tag INTEGER t) h))
word_fits type tag n k false t h e = absurd (none-some k e)

wide_fits : (type : List ℕ) (tag : ℕ) (n : ℤ) (k : LoadedConstant) (b : Bool) → (tag == LONG) ≡ b → is_constant_for (Some type) tag ≡ true → option_or (option_map ALong (if b then Some n else None)) None ≡ Some k → Fits type k
wide_fits type tag n k true t h e = some_is type (ALong n) k e (long_fits type n (subst (λ (i : ℕ). is_constant_for (Some type) i ≡ true) (eqb-true tag LONG t) h))
wide_fits type tag n k false t h e = absurd (none-some k e)

name_fits : (type : List ℕ) (tag : ℕ) (o : Option (List ℕ)) (k : LoadedConstant) (b : Bool) → (tag == STRING) ≡ b → is_constant_for (Some type) tag ≡ true → option_map AString (if b then o else None) ≡ Some k → Fits type k
name_fits type tag None k true t h e = absurd (none-some k e)
name_fits type tag (Some bytes) k true t h e = some_is type (AString bytes) k e (string_fits type bytes (subst (λ (i : ℕ). is_constant_for (Some type) i ≡ true) (eqb-true tag STRING t) h))
name_fits type tag o k false t h e = absurd (none-some k e)

slot_fits : (slots : List (Option Item)) (type : List ℕ) (s : Option Item) (k : LoadedConstant) → is_constant_for (Some type) (tag_of_slot s) ≡ true → constant_in slots s ≡ Some k → Fits type k
slot_fits slots type None k h e = absurd (none-some k e)
slot_fits slots type (Some (Text bytes)) k h e = absurd (none-some k e)
slot_fits slots type (Some (Word tag bits)) k h e = word_fits type tag _ k (tag == INTEGER) refl h e
slot_fits slots type (Some (Wide tag bits)) k h e = wide_fits type tag _ k (tag == LONG) refl h e
slot_fits slots type (Some (Name tag index)) k h e = name_fits type tag (utf8_at slots index) k (tag == STRING) refl h e
slot_fits slots type (Some (Pair tag first second)) k h e = absurd (none-some k e)
slot_fits slots type (Some (Handle kind index)) k h e = absurd (none-some k e)

entry_fits : (slots : List (Option Item)) (type : Option (List ℕ)) (i : ℕ) (k : LoadedConstant) → is_constant_for type (tag_at slots i) ≡ true → constant_at slots i ≡ Some k → Fits (or_empty type) k
entry_fits slots None i k h e = absurd (false≢true h)
entry_fits slots (Some type) i k h e = slot_fits slots type (slot_at slots i) k h e

-- FIELDS

field_fits : (slots : List (Option Item)) (face : Bool) (m : MemberOf) → IsWellField slots face m → (k : LoadedConstant) → (constant_of slots m == 0) ≡ false → constant_at slots (constant_of slots m) ≡ Some k → Fits (pool_text slots m.descriptor) k
field_fits slots face m w k h e =
    by (find (is_constant_value slots) m.attributes) refl (subst (λ (i : ℕ). (i == 0) ≡ false) index h) (subst (λ (i : ℕ). constant_at slots i ≡ Some k) index e)
  where
    static : has m.flags STATIC ≡ true
    static = constant_by (has m.flags STATIC) (index_in (find (is_constant_value slots) m.attributes)) h

    index : constant_of slots m ≡ index_in (find (is_constant_value slots) m.attributes)
    index = if_true (has m.flags STATIC) (index_in (find (is_constant_value slots) m.attributes)) 0 static

    by : (o : Option AttributeOf) → find (is_constant_value slots) m.attributes ≡ o → (index_in o == 0) ≡ false → constant_at slots (index_in o) ≡ Some k → Fits (pool_text slots m.descriptor) k
    by None f z at = absurd (false≢true (sym z))
    by (Some a) f z at =
        let well : is_constant slots m a.body ≡ true = found (is_constant_value slots) (λ (x : AttributeOf). has m.flags STATIC ≡ true → is_constant slots m x.body ≡ true) m.attributes w.values a f static in
        let parts = and_parts (length a.body == 2) (is_constant_for (utf8_at slots m.descriptor) (tag_at slots (from_be_bytes w16 a.body))) well in
        let place : index_in (Some a) ≡ from_be_bytes w16 a.body = if_true (length a.body == 2) (from_be_bytes w16 a.body) 0 parts.0 in
        entry_fits slots (utf8_at slots m.descriptor) (from_be_bytes w16 a.body) k parts.1 (subst (λ (i : ℕ). constant_at slots i ≡ Some k) place at)

typed_constants : (bytes : List ℕ) (c : ClassOf) → IsClassFile bytes c → HasTypedConstants (loaded_class c)
typed_constants bytes c is =
    All-map (λ (f : LoadedMember). (k : LoadedConstant) → (f.constant == 0) ≡ false → constant_at c.slots f.constant ≡ Some k → Fits (pool_text c.slots f.descriptor) k) (loaded_field c.slots) c.fields
    (λ i d lt k h e. field_fits c.slots (has c.flags INTERFACE) _ (well_fields bytes c is i d lt) k h e)

-- ALL RULES

pub keeps_field_rules : (bytes : List ℕ) (c : ClassOf) → IsClassFile bytes c → KeepsFieldRules (loaded_class c)
keeps_field_rules bytes c is = record { interface = static_fields bytes c is; constants = static_constants c; types = typed_constants bytes c is }
