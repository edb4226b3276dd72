-- WHAT LINKING READS OF A CLASS (JVMS 4.1, 4.5, 4.6).
use Rattle.std.specs.Prelude.{ℕ, List, map, Option, None}
use Rattle.et_class.specs.Entries.{Item, Constants}
use Rattle.et_class.specs.Bodies.{Body}
use Rattle.et_class.specs.declared.member.Member.{Member}
use Rattle.et_class.specs.declared.class.ClassFile.{ClassFile}
use Rattle.et_class.specs.Layout.{MemberOf, ClassOf}
use Rattle.et_class.specs.Fields.{constant_of}
use Rattle.et_class.specs.Methods.{code_of}
use Rattle.et_class.specs.Classes.{pool_of}

-- a field or a method, with the index of the constant of a static field (4.7.2) and the code of a method (4.7.3)
pub record LoadedMember : Type 0 where
  pub flags : ℕ
  pub name : ℕ
  pub descriptor : ℕ
  pub constant : ℕ
  pub code : Option Body

-- a class or interface, with the indices of the Class entries of itself, of its superclass and of its superinterfaces
pub record LoadedClass : Type 0 where
  pub pool : Constants
  pub flags : ℕ
  pub this : ℕ
  pub super : ℕ
  pub interfaces : List ℕ
  pub fields : List LoadedMember
  pub methods : List LoadedMember

-- OF THE CLASS THAT THE BYTES OF A FILE ARE

abbrev pub loaded_field : List (Option Item) → MemberOf → LoadedMember
loaded_field slots f = record { flags = f.flags; name = f.name; descriptor = f.descriptor; constant = constant_of slots f; code = None }

abbrev pub loaded_method : List (Option Item) → MemberOf → LoadedMember
loaded_method slots m = record { flags = m.flags; name = m.name; descriptor = m.descriptor; constant = 0; code = code_of slots m }

abbrev pub loaded_class : ClassOf → LoadedClass
loaded_class c = record {
  pool = pool_of c;
  flags = c.flags;
  this = c.this;
  super = c.super;
  interfaces = c.interfaces;
  fields = map (loaded_field c.slots) c.fields;
  methods = map (loaded_method c.slots) c.methods;
}

-- OF THE RECORD OF THE CODE

abbrev pub loaded_member : Member → LoadedMember
loaded_member m = record { flags = m.access_flags; name = m.name_index; descriptor = m.descriptor_index; constant = m.constant; code = m.code }

abbrev pub loaded_file : ClassFile → LoadedClass
loaded_file c = record {
  pool = c.pool;
  flags = c.access_flags;
  this = c.this_class;
  super = c.super_class;
  interfaces = c.interfaces.items;
  fields = map loaded_member c.fields.items;
  methods = map loaded_member c.methods.items;
}
