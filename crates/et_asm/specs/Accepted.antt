-- WHAT A CLASS FILE SAYS, with the names and the constants in place of the indices at which its pool has them, and what
-- a listing says in the same words.
use Rattle.std.specs.Prelude.{◌≡◌, ℕ, ℤ, true, List, [], ◌∷◌, map, Option, Some, None, option_map, option_and_then, Result, Ok, Err, if◌then◌else◌}
use Rattle.std.specs.Option.{option_or}
use Rattle.std.specs.List.{flat_map, list_any, find}
use Rattle.std.specs.Global.{Vec}
use Rattle.et_pool.specs.Entries.{Item}
use Rattle.et_pool.specs.Looks.{slot_at, utf8_at, class_name_at, integer_at, long_at, string_at}
use Rattle.et_code.specs.declared.body.TableRow.{TableRow}
use Rattle.et_code.specs.Bodies.{Body}
use Rattle.et_class.specs.Layout.{AttributeOf, MemberOf, ClassOf}
use Rattle.et_class.specs.Fields.{is_constant_value, index_in}
use Rattle.et_class.specs.Methods.{code_of}
use Rattle.et_class.specs.Classes.{IsClassFile}
use Rattle.et_listing.specs.declared.entry.Entry.{Entry}
use Rattle.et_listing.specs.declared.entry.Entry.TheVariants as entry
use Rattle.et_listing.specs.declared.line.Line.{Line}
use Rattle.et_listing.specs.declared.line.Line.TheVariants as line
use Rattle.et_listing.specs.declared.line.Parsed.{Parsed}
use Rattle.et_listing.specs.Words.{unescaped}
use Rattle.et_asm.specs.declared.fault.AsmFault.{AsmFault}
use Rattle.et_asm.specs.Along.{along_lines}
use Rattle.et_asm.specs.Order.{lines_of_body, stage_of, is_inside}
use Rattle.et_asm.specs.Pool.{same_entry, uses, pool, entry_index}
use Rattle.et_asm.specs.Spelled.{pool_item_of, entry_slots}
use Rattle.et_asm.specs.Code.{Labels, labels_of, label_place, caught_index, code_bytes}
use Rattle.et_asm.specs.Listings.{parsed_lines}

-- the access flags of a class, its name and its superclass's (JVMS 4.1)
pub record Header : Type 0 where
  pub flags : ℕ
  pub name : Option (List ℕ)
  pub super : Option (List ℕ)

-- the value of a ConstantValue (JVMS 4.7.2)
pub data Constant : Type 0 where
  IntValue : (value : ℤ) → Constant
  LongValue : (value : ℤ) → Constant
  StringValue : (text : List ℕ) → Constant

-- a field (JVMS 4.5)
pub record AcceptedField : Type 0 where
  pub flags : ℕ
  pub name : Option (List ℕ)
  pub descriptor : Option (List ℕ)
  pub constant : Option Constant

-- a method (JVMS 4.6)
pub record AcceptedMethod : Type 0 where
  pub flags : ℕ
  pub name : Option (List ℕ)
  pub descriptor : Option (List ℕ)
  pub code : Option Body

-- BY THE CLASS FILE

abbrev pub header_in : ClassOf → Header
header_in c = record { flags = c.flags; name = class_name_at c.slots c.this; super = class_name_at c.slots c.super }

abbrev pub accepted_constant : List (Option Item) → ℕ → Option Constant
accepted_constant entry_slots i = option_or (option_map IntValue (integer_at entry_slots i)) (option_or (option_map LongValue (long_at entry_slots i)) (option_map StringValue (string_at entry_slots i)))

abbrev pub constant_in : List (Option Item) → List AttributeOf → Option Constant
constant_in entry_slots attributes = option_and_then (λ a. accepted_constant entry_slots (index_in (Some a))) (find (is_constant_value entry_slots) attributes)

abbrev pub accepted_field : List (Option Item) → MemberOf → AcceptedField
accepted_field entry_slots m = record { flags = m.flags; name = utf8_at entry_slots m.name; descriptor = utf8_at entry_slots m.descriptor; constant = constant_in entry_slots m.attributes }

abbrev pub accepted_method : List (Option Item) → MemberOf → AcceptedMethod
accepted_method entry_slots m = record { flags = m.flags; name = utf8_at entry_slots m.name; descriptor = utf8_at entry_slots m.descriptor; code = code_of entry_slots m }

-- BY THE LISTING

abbrev pub listed_header : Line → List Header
listed_header (line.Class name super flags) = record { flags = flags; name = Some (unescaped name); super = Some (unescaped super) } ∷ []
listed_header other = []

abbrev pub listed_interface : Line → List (Option (List ℕ))
listed_interface (line.Interface name) = Some (unescaped name) ∷ []
listed_interface other = []

abbrev pub listed_constant : Entry → Option Constant
listed_constant (entry.Integer value) = Some (IntValue value)
listed_constant (entry.Long value) = Some (LongValue value)
listed_constant (entry.Text text) = Some (StringValue (unescaped text))
listed_constant other = None

abbrev pub listed_field : Line → List AcceptedField
listed_field (line.Field name descriptor flags constant) =
    record { flags = flags; name = Some (unescaped name); descriptor = Some (unescaped descriptor); constant = option_and_then listed_constant constant } ∷ []
listed_field other = []

-- a handler: the places of its labels, and the index of the class that it catches
abbrev pub listed_row : List Entry → Labels → Line → List TableRow
listed_row entries labels (line.Catch from to handler class) =
    record { start = label_place labels from; end = label_place labels to; handler = label_place labels handler; catch = caught_index entries class } ∷ []
listed_row entries labels other = []

abbrev pub listed_body : List Entry → List Parsed → ℕ × ℕ → Body
listed_body entries body limits = record {
  max_stack = limits.0;
  max_locals = limits.1;
  code = code_bytes entries (labels_of entries body) body;
  table = flat_map (λ p. listed_row entries (labels_of entries body) p.line) body;
}

abbrev pub listed_method : List Entry → Line → List Parsed → List AcceptedMethod
listed_method entries (line.Method name descriptor flags limits) behind =
    record { flags = flags; name = Some (unescaped name); descriptor = Some (unescaped descriptor); code = option_map (listed_body entries (lines_of_body behind)) limits } ∷ []
listed_method entries other behind = []

-- the method of a line outside of bodies, by the lines before and behind it
abbrev pub listed_methods : List Entry → List Parsed → Parsed → List Parsed → List AcceptedMethod
listed_methods entries before p behind = if is_inside (stage_of before) then [] else listed_method entries p.line behind

-- The class file, of version 52.0, says what the lines say, each in its order: the one class line, the interfaces, the
-- fields and the methods. Its pool is that of the listing, and what lines name stands at the index that code has for it.
pub record HasListing (lines : List Parsed) (c : ClassOf) : Type 0 where
  pub minor : c.minor ≡ 0
  pub major : c.major ≡ 52
  pub constants : c.slots ≡ entry_slots (pool lines)
  pub named : (e : Entry) → list_any (same_entry e) (uses lines) ≡ true → slot_at c.slots (entry_index (pool lines) e) ≡ Some (pool_item_of (pool lines) e)
  pub header : header_in c ∷ [] ≡ flat_map (λ p. listed_header p.line) lines
  pub interfaces : map (class_name_at c.slots) c.interfaces ≡ flat_map (λ p. listed_interface p.line) lines
  pub fields : map (accepted_field c.slots) c.fields ≡ flat_map (λ p. listed_field p.line) lines
  pub methods : map (accepted_method c.slots) c.methods ≡ along_lines (listed_methods (pool lines)) lines
  pub attributes : c.attributes ≡ []

-- where the bytes that are answered are a class file, it has the listing
abbrev pub AcceptedAre : List ℕ → Result (Vec ℕ) AsmFault → Type 0
AcceptedAre text (Ok bytes) = (c : ClassOf) → IsClassFile bytes.items c → HasListing (parsed_lines text) c
AcceptedAre text (Err fault) = Unit {0}
