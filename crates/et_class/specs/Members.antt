-- What the calls that read fields, methods and the rest answer: the items of the first pass, and the first broken rule
-- of the second so far.
use Rattle.std.specs.Prelude.{◌≡◌, ℕ, List, [], map, Bool, Option, None, Result, Ok, Err}
use Rattle.std.specs.Global.{Vec}
use Rattle.et_base.specs.Marks.{first_from}
use Rattle.et_pool.specs.Entries.{Item}
use Rattle.et_class.specs.declared.fault.ClassFault.{ClassFault}
use Rattle.et_class.specs.declared.member.Member.{Member}
use Rattle.et_class.specs.declared.members.Members.{Members}
use Rattle.et_class.specs.Layout.{member_bytes, member_list, attributes_of}
use Rattle.et_class.specs.Reading.{IsClassFaultOf, many_at, member_read_at, MembersOf, members_at}
use Rattle.et_class.specs.Along.{along}
use Rattle.et_class.specs.Fields.{field_marks, constant_of}
use Rattle.et_class.specs.Methods.{method_marks}
use Rattle.et_class.specs.Kept.{kept_code}
use Rattle.et_class.specs.Rules.{members_marks}

-- fields that were read from a place on, up to another, and the first broken rule behind those on them
pub record AreFields (slots : List (Option Item)) (interface : Bool) (first : Option (ℕ × ℕ)) (bytes : List ℕ) (count start : ℕ) (fields : List Member) (after : ℕ) (found : Option (ℕ × ℕ)) : Type 0 where
  pub read : many_at (member_read_at bytes) count start ≡ Ok (member_list fields, after)
  pub found_is : found ≡ first_from first (along member_bytes (field_marks slots interface) [] start (member_list fields))
  pub constants : map (λ m. m.constant) fields ≡ map (constant_of slots) (member_list fields)
  pub no_code : map (λ m. m.code) fields ≡ map (λ m. None) fields

abbrev pub ReadsFields : List (Option Item) → Bool → Option (ℕ × ℕ) → List ℕ → ℕ → ℕ → Result (Vec Member × ℕ × Option (ℕ × ℕ)) ClassFault → Type 0
ReadsFields slots interface first bytes count start (Ok x) = AreFields slots interface first bytes count start x.0.items x.1 x.2
ReadsFields slots interface first bytes count start (Err e) = IsClassFaultOf e (λ f. many_at (member_read_at bytes) count start ≡ Err f)

-- the same for methods
pub record AreMethods (slots : List (Option Item)) (first : Option (ℕ × ℕ)) (bytes : List ℕ) (count start : ℕ) (methods : List Member) (after : ℕ) (found : Option (ℕ × ℕ)) : Type 0 where
  pub read : many_at (member_read_at bytes) count start ≡ Ok (member_list methods, after)
  pub found_is : found ≡ first_from first (along member_bytes (method_marks slots) [] start (member_list methods))
  pub codes : map (λ m. m.code) methods ≡ map (kept_code slots) (member_list methods)
  pub no_constants : map (λ m. m.constant) methods ≡ map (λ m. 0) methods

abbrev pub ReadsMethods : List (Option Item) → Option (ℕ × ℕ) → List ℕ → ℕ → ℕ → Result (Vec Member × ℕ × Option (ℕ × ℕ)) ClassFault → Type 0
ReadsMethods slots first bytes count start (Ok x) = AreMethods slots first bytes count start x.0.items x.1 x.2
ReadsMethods slots first bytes count start (Err e) = IsClassFaultOf e (λ f. many_at (member_read_at bytes) count start ≡ Err f)

abbrev pub members_view : Members → MembersOf
members_view m = record { fields = member_list m.fields.items; methods = member_list m.methods.items; attributes = attributes_of m.attributes.items }

-- the fields, methods and attributes that stand at the end of the bytes
pub record AreMembers (slots : List (Option Item)) (interface : Bool) (first : Option (ℕ × ℕ)) (bytes : List ℕ) (at : ℕ) (m : Members) (found : Option (ℕ × ℕ)) : Type 0 where
  pub read : members_at bytes at ≡ Ok (members_view m)
  pub found_is : found ≡ first_from first (members_marks slots interface at (members_view m))
  pub constants : map (λ f. f.constant) m.fields.items ≡ map (constant_of slots) (member_list m.fields.items)
  pub no_code : map (λ f. f.code) m.fields.items ≡ map (λ f. None) m.fields.items
  pub codes : map (λ f. f.code) m.methods.items ≡ map (kept_code slots) (member_list m.methods.items)
  pub no_constants : map (λ f. f.constant) m.methods.items ≡ map (λ f. 0) m.methods.items

abbrev pub ReadsMembers : List (Option Item) → Bool → Option (ℕ × ℕ) → List ℕ → ℕ → Result (Members × Option (ℕ × ℕ)) ClassFault → Type 0
ReadsMembers slots interface first bytes at (Ok x) = AreMembers slots interface first bytes at x.0 x.1
ReadsMembers slots interface first bytes at (Err e) = IsClassFaultOf e (λ f. members_at bytes at ≡ Err f)
