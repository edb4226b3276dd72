-- What the rules on the fields of class files say.
use Rattle.std.proofs.Common.{◌≡◌, ℕ, ◌+◌, Bool, true, false, not, ◌&&◌, ◌||◌, ◌==◌, List, [], map, Option, refl, sym}
use mathlib.Core.Logic.{⊎_elim}
use Rattle.std.specs.Prelude.{All, if◌then◌else◌}
use Rattle.std.specs.List.{list_any, find}
use Rattle.std.proofs.lemmas.Bool.{and_parts, or_cases, not-true, both_ways, false≢true}
use Rattle.std.proofs.lemmas.List.Elements.{All-map}
use Rattle.et_pool.specs.Entries.{Item}
use Rattle.et_class.specs.declared.flags.TheConstants.{STATIC, INTERFACE}
use Rattle.et_class.specs.Names.{has}
use Rattle.et_class.specs.Layout.{ClassOf, MemberOf, AttributeOf, member_bytes, attribute_bytes}
use Rattle.et_class.specs.Fields.{field_marks, field_attribute_marks, is_field_flags, is_field_attribute, is_value_well, is_constant_value, is_constant, index_in}
use Rattle.et_class.specs.Classes.{IsClassFile}
use Rattle.et_program.specs.Loaded.{LoadedMember, loaded_class, loaded_field}
use Rattle.et_history.specs.programs.Fields.{HasStaticFields, HasStaticConstants}
use Rattle.et_history.proofs.programs.Marks.{AreWell, along_each, fields_place, well_first, well_members, well_rest}

-- the rules on a field
pub record IsWellField (slots : List (Option Item)) (interface : Bool) (m : MemberOf) : Type 0 where
  pub flags : is_field_flags interface m.flags ≡ true
  pub values : All (λ (a : AttributeOf). is_constant_value slots a ≡ true → has m.flags STATIC ≡ true → is_constant slots m a.body ≡ true) m.attributes

value_by : (slots : List (Option Item)) (m : MemberOf) (seen : Bool) (a : AttributeOf) → is_field_attribute slots m seen a ≡ true → is_constant_value slots a ≡ true → has m.flags STATIC ≡ true → is_constant slots m a.body ≡ true
value_by slots m seen a h named static =
    let well : is_value_well slots m seen a ≡ true = (and_parts _ (is_value_well slots m seen a) h).1 in
    ⊎_elim
    (λ n. absurd (both_ways (is_constant_value slots a) (not-true (is_constant_value slots a) n) named))
    (λ r.
    ⊎_elim
    (λ n. absurd (both_ways (has m.flags STATIC) (not-true (has m.flags STATIC) n) static))
    (λ y. y)
    (or_cases (not (has m.flags STATIC)) (is_constant slots m a.body) (and_parts (not seen) (not (has m.flags STATIC) || is_constant slots m a.body) r).1))
    (or_cases (not (is_constant_value slots a)) (not seen && (not (has m.flags STATIC) || is_constant slots m a.body)) well)

well_field : (slots : List (Option Item)) (interface : Bool) (before : List MemberOf) (place : ℕ) (m : MemberOf) → AreWell (field_marks slots interface before place m) → IsWellField slots interface m
well_field slots interface before place m h = record {
  flags = well_first _ _ h;
  values =
      along_each (λ (a : AttributeOf). is_constant_value slots a ≡ true → has m.flags STATIC ≡ true → is_constant slots m a.body ≡ true) attribute_bytes (field_attribute_marks slots m)
      (λ earlier at a w. value_by slots m (list_any (is_constant_value slots) earlier) a (well_first _ [] w)) [] (place + 8) m.attributes
      (well_rest _ _ (well_rest _ _ (well_rest _ _ (well_rest _ _ h))));
}

pub well_fields : (bytes : List ℕ) (c : ClassOf) → IsClassFile bytes c → All (IsWellField c.slots (has c.flags INTERFACE)) c.fields
well_fields bytes c is =
    let face : Bool = has c.flags INTERFACE in
    along_each (IsWellField c.slots face) member_bytes (field_marks c.slots face) (λ before at m w. well_field c.slots face before at m w) [] (fields_place c) c.fields (well_members bytes c is).fields

-- those of an interface are static
static_by : (face : Bool) (flags : ℕ) → is_field_flags face flags ≡ true → face ≡ true → has flags STATIC ≡ true
static_by face flags h e =
    ⊎_elim
    (λ n. absurd (both_ways face (not-true face n) e))
    (λ y. y)
    (or_cases (not face) (has flags STATIC) (and_parts _ (not face || has flags STATIC) h).1)

all_mapped : {X Y : Type 0} (P : Y → Type 0) (f : X → Y) (Q : X → Type 0) → ((x : X) → Q x → P (f x)) → (xs : List X) → All Q xs → All P (map f xs)
all_mapped P f Q says xs h = All-map P f xs (λ i d lt. says _ (h i d lt))

pub static_fields : (bytes : List ℕ) (c : ClassOf) → IsClassFile bytes c → HasStaticFields (loaded_class c)
static_fields bytes c is face =
    all_mapped (λ (f : LoadedMember). has f.flags STATIC ≡ true) (loaded_field c.slots) (IsWellField c.slots (has c.flags INTERFACE)) (λ m w. static_by (has c.flags INTERFACE) m.flags w.flags face) c.fields (well_fields bytes c is)

-- only a static field has a constant
pub constant_by : (b : Bool) (n : ℕ) → ((if b then n else 0) == 0) ≡ false → b ≡ true
constant_by true n h = refl
constant_by false n h = absurd (false≢true (sym h))

pub static_constants : (c : ClassOf) → HasStaticConstants (loaded_class c)
static_constants c =
    all_mapped (λ (f : LoadedMember). (f.constant == 0) ≡ false → has f.flags STATIC ≡ true) (loaded_field c.slots) (λ m. Unit {0})
    (λ m w h. constant_by (has m.flags STATIC) (index_in (find (is_constant_value c.slots) m.attributes)) h) c.fields (λ i d lt. tt)
