-- THE SECOND PASS: all rules of a class file that the first pass lets through, each marked at its item.
use Rattle.std.specs.Prelude.{ℕ, ◌+◌, List, [], ◌∷◌, ◌++◌, length, Bool, not, ◌&&◌, ◌||◌, if◌then◌else◌, Option}
use Rattle.et_base.specs.Marks.{Mark, mark}
use Rattle.et_pool.specs.Entries.{Item}
use Rattle.et_pool.specs.Looks.{class_name_at, is_fit_slot, slot_bytes, end_of}
use Rattle.et_class.specs.declared.fault.TheConstants.{POOL, FLAGS, MEMBER}
use Rattle.et_class.specs.declared.flags.TheConstants.{FINAL, INTERFACE, ABSTRACT}
use Rattle.et_class.specs.declared.names.TheConstants.{OBJECT}
use Rattle.et_class.specs.Layout.{ClassOf, u2, counted_bytes, member_bytes, attribute_bytes}
use Rattle.et_class.specs.Reading.{HeaderOf, MembersOf}
use Rattle.et_class.specs.Along.{along}
use Rattle.et_class.specs.Names.{has, is_text, is_plain_class}
use Rattle.et_class.specs.Fields.{field_marks, attribute_marks}
use Rattle.et_class.specs.Methods.{method_marks}

-- each entry of the pool names entries of the needed form (4.4); the first one stands at 10
abbrev pub pool_marks : List (Option Item) → List Mark
pool_marks slots = along slot_bytes (λ before place s. mark place POOL (is_fit_slot slots s) ∷ []) [] 10 slots

-- an interface is abstract and not final; a class isn't final and abstract (4.1)
abbrev pub is_class_flags : ℕ → Bool
is_class_flags flags = if has flags INTERFACE then has flags ABSTRACT && not (has flags FINAL) else not (has flags FINAL && has flags ABSTRACT)

abbrev pub interface_marks : List (Option Item) → List ℕ → ℕ → ℕ → List Mark
interface_marks slots before place index = mark place POOL (is_plain_class slots index) ∷ []

-- the header at a place. This class, its superclass and its interfaces are Class entries that name no array; there is
-- a superclass, and that of an interface is java/lang/Object (4.1).
abbrev pub header_marks : List (Option Item) → ℕ → HeaderOf → List Mark
header_marks slots place h =
    mark place FLAGS (is_class_flags h.flags) ∷
    mark (place + 2) POOL (is_plain_class slots h.this) ∷
    mark (place + 4) POOL (is_plain_class slots h.super) ∷
    mark (place + 4) MEMBER (not (has h.flags INTERFACE) || is_text (class_name_at slots h.super) OBJECT.now) ∷
    along u2 (interface_marks slots) [] (place + 8) h.interfaces

-- the fields, methods and attributes whose first count stands at a place
abbrev pub members_marks : List (Option Item) → Bool → ℕ → MembersOf → List Mark
members_marks slots interface place m =
    along member_bytes (field_marks slots interface) [] (place + 2) m.fields
    ++ (along member_bytes (method_marks slots) [] (place + length (counted_bytes member_bytes m.fields) + 2) m.methods
    ++ along attribute_bytes (attribute_marks slots) [] (place + length (counted_bytes member_bytes m.fields) + length (counted_bytes member_bytes m.methods) + 2) m.attributes)

abbrev pub header_of : ClassOf → HeaderOf
header_of c = record { flags = c.flags; this = c.this; super = c.super; interfaces = c.interfaces }

abbrev pub members_of : ClassOf → MembersOf
members_of c = record { fields = c.fields; methods = c.methods; attributes = c.attributes }

-- the header stands behind the pool, and the count of the fields behind the header
abbrev pub class_marks : ClassOf → List Mark
class_marks c =
    pool_marks c.slots
    ++ (header_marks c.slots (end_of 8 c.slots) (header_of c)
    ++ members_marks c.slots (has c.flags INTERFACE) (end_of 8 c.slots + 6 + length (counted_bytes u2 c.interfaces)) (members_of c))
