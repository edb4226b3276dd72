-- The items of a class file (JVMS 4.1, 4.5, 4.6, 4.7), and the bytes that spell them.
use Rattle.std.specs.Prelude.{ℕ, List, ◌++◌, length, map, Option}
use Rattle.std.specs.List.{flat_map}
use Rattle.std.specs.Int.{w16, w32, to_be_bytes}
use Rattle.et_pool.specs.Entries.{Item}
use Rattle.et_pool.specs.Looks.{slot_bytes}
use Rattle.et_class.specs.declared.member.Attribute.{Attribute}
use Rattle.et_class.specs.declared.member.Member.{Member}

-- an attribute (4.7)
pub record AttributeOf : Type 0 where
  pub name : ℕ
  pub body : List ℕ

-- a field or a method (4.5, 4.6)
pub record MemberOf : Type 0 where
  pub flags : ℕ
  pub name : ℕ
  pub descriptor : ℕ
  pub attributes : List AttributeOf

-- a class file (4.1)
pub record ClassOf : Type 0 where
  pub minor : ℕ
  pub major : ℕ
  pub slots : List (Option Item)
  pub flags : ℕ
  pub this : ℕ
  pub super : ℕ
  pub interfaces : List ℕ
  pub fields : List MemberOf
  pub methods : List MemberOf
  pub attributes : List AttributeOf

-- THEIR BYTES

abbrev pub u2 : ℕ → List ℕ
u2 n = to_be_bytes w16 n

abbrev pub u4 : ℕ → List ℕ
u4 n = to_be_bytes w32 n

-- a count, and so many items
abbrev pub counted_bytes : {X : Type 0} → (X → List ℕ) → List X → List ℕ
counted_bytes bytes xs = u2 (length xs) ++ flat_map bytes xs

abbrev pub attribute_bytes : AttributeOf → List ℕ
attribute_bytes a = u2 a.name ++ (u4 (length a.body) ++ a.body)

abbrev pub member_bytes : MemberOf → List ℕ
member_bytes m = u2 m.flags ++ (u2 m.name ++ (u2 m.descriptor ++ counted_bytes attribute_bytes m.attributes))

-- what stands behind the pool
abbrev pub tail_bytes : ClassOf → List ℕ
tail_bytes c =
    u2 c.flags ++ (u2 c.this ++ (u2 c.super ++ (counted_bytes u2 c.interfaces ++ (counted_bytes member_bytes c.fields ++ (counted_bytes member_bytes c.methods ++ counted_bytes attribute_bytes c.attributes)))))

-- the magic number, the two versions, the pool, and what stands behind it
abbrev pub class_bytes : ClassOf → List ℕ
class_bytes c = u4 0xCAFEBABE ++ (u2 c.minor ++ (u2 c.major ++ (counted_bytes slot_bytes c.slots ++ tail_bytes c)))

-- WHAT THE RECORDS OF THE CODE STAND FOR

abbrev pub attribute_of : Attribute → AttributeOf
attribute_of a = record { name = a.name_index; body = a.body.items }

abbrev pub attributes_of : List Attribute → List AttributeOf
attributes_of xs = map attribute_of xs

abbrev pub member_of : Member → MemberOf
member_of m = record { flags = m.access_flags; name = m.name_index; descriptor = m.descriptor_index; attributes = attributes_of m.attributes.items }

abbrev pub member_list : List Member → List MemberOf
member_list xs = map member_of xs
