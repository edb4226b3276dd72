-- A CLASS FILE, or its first fault.
use Rattle.std.specs.Prelude.{◌≡◌, ℕ, List, map, Option, None, Result, Ok, Err}
use Rattle.et_base.specs.Marks.{MarksAre, IsFirstBroken}
use Rattle.et_pool.specs.Entries.{Item, Constants}
use Rattle.et_class.specs.declared.fault.ClassFault.{ClassFault}
use Rattle.et_class.specs.declared.member.Member.{Member}
use Rattle.et_class.specs.declared.class.ClassFile.{ClassFile}
use Rattle.et_class.specs.Layout.{ClassOf, member_list, attributes_of}
use Rattle.et_class.specs.Reading.{IsClassFaultOf, IsRead, BreaksRead}
use Rattle.et_class.specs.Fields.{constant_of}
use Rattle.et_class.specs.Methods.{code_of}
use Rattle.et_class.specs.Rules.{class_marks}

-- The bytes are the items of the class, in order and whole, and every rule holds.
pub record IsClassFile (bytes : List ℕ) (c : ClassOf) : Type 0 where
  pub read : IsRead bytes c
  pub rules : MarksAre (class_marks c) None

-- The place and the kind of the first fault: the first broken item of the first pass; where there is none, the first
-- item that breaks a rule of the second.
pub data ShowsFirstFault (bytes : List ℕ) (f : ℕ × ℕ) : Type 0 where
  InFirstPass : BreaksRead bytes f → ShowsFirstFault bytes f
  InSecondPass : (c : ClassOf) → IsRead bytes c → IsFirstBroken (class_marks c) f.0 f.1 → ShowsFirstFault bytes f

-- one of the two
abbrev pub ClassIs : List ℕ → Result ClassOf (ℕ × ℕ) → Type 0
ClassIs bytes (Ok c) = IsClassFile bytes c
ClassIs bytes (Err f) = ShowsFirstFault bytes f

-- exactly one of the two
pub record HasOneClass (bytes : List ℕ) : Type 0 where
  pub answer : Result ClassOf (ℕ × ℕ)
  pub holds : ClassIs bytes answer
  pub only : (other : Result ClassOf (ℕ × ℕ)) → ClassIs bytes other → other ≡ answer

-- WHAT THE CODE ANSWERS

-- the class that the record of the code stands for
abbrev pub class_of : ClassFile → ClassOf
class_of c = record {
  minor = c.minor_version;
  major = c.major_version;
  slots = c.pool.slots;
  flags = c.access_flags;
  this = c.this_class;
  super = c.super_class;
  interfaces = c.interfaces.items;
  fields = member_list c.fields.items;
  methods = member_list c.methods.items;
  attributes = attributes_of c.attributes.items;
}

-- each field has the index of its constant and no code, and each method its code and no constant
pub record HasParts (slots : List (Option Item)) (fields methods : List Member) : Type 0 where
  pub constants : map (λ m. m.constant) fields ≡ map (constant_of slots) (member_list fields)
  pub no_code : map (λ m. m.code) fields ≡ map (λ m. None) fields
  pub codes : map (λ m. m.code) methods ≡ map (code_of slots) (member_list methods)
  pub no_constants : map (λ m. m.constant) methods ≡ map (λ m. 0) methods

-- the pool of a class: its count stands behind the magic number and the two versions
abbrev pub pool_of : ClassOf → Constants
pool_of c = record { at = 8; slots = c.slots }

-- the record of the code has the pool of the class that it stands for, and the parts of its members
pub record HasItsParts (c : ClassFile) : Type 0 where
  pub pool : c.pool ≡ pool_of (class_of c)
  pub members : HasParts c.pool.slots c.fields.items c.methods.items

-- a class file and its parts, or the first fault; want of memory says nothing
abbrev pub ReadsClass : List ℕ → Result ClassFile ClassFault → Type 0
ReadsClass bytes (Ok c) = IsClassFile bytes (class_of c) × HasItsParts c
ReadsClass bytes (Err e) = IsClassFaultOf e (ShowsFirstFault bytes)
