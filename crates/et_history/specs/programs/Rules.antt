-- What holds of the methods of a class file and of their code (JVMS 4.6, 4.7.3, 4.9.1).
use Rattle.std.specs.Prelude.{◌≡◌, ℕ, ◌<◌, ◌≤◌, ◌^◌, List, length, map, Bool, true, false, not, ◌||◌, All, Option, Some, None, is_some, codes, Ok}
use Rattle.std.specs.Str.{bytes_eq}
use Rattle.et_base.specs.Marks.{MarksAre}
use Rattle.et_pool.specs.Entries.{Item}
use Rattle.et_pool.specs.Looks.{class_name_at, tag_of_slot}
use Rattle.et_pool.specs.Descriptors.{MethodType, method_type}
use Rattle.et_code.specs.declared.instr.Instr.{Instr}
use Rattle.et_code.specs.Bodies.{Body}
use Rattle.et_code.specs.Decoding.{instruction_at}
use Rattle.et_code.specs.Rules.{code_marks}
use Rattle.et_code.specs.Starts.{IsStart}
use Rattle.et_class.specs.Codes.{index_of, is_member_well, is_class_well}
use Rattle.et_class.specs.Methods.{is_method_flags}
use Rattle.et_class.specs.Names.{has}
use Rattle.et_class.specs.declared.flags.TheConstants.{STATIC, NATIVE, ABSTRACT}
use Rattle.et_event.specs.Calls.{entry_count}
use Rattle.et_program.specs.Loaded.{LoadedClass, LoadedMember}
use Rattle.et_program.specs.MembersOf.{pool_text}

-- METHODS

-- the name of a method that initializes a class (2.9). No rule looks at the flags of such a method, nor at whether it has
-- code, and it counts as having no receiver.
abbrev pub is_clinit_name : List ℕ → Bool
is_clinit_name name = bytes_eq name (codes "<clinit>")

abbrev pub member_name_of : LoadedClass → LoadedMember → List ℕ
member_name_of c m = pool_text c.pool.slots m.name

abbrev pub descriptor_of : LoadedClass → LoadedMember → List ℕ
descriptor_of c m = pool_text c.pool.slots m.descriptor

-- each method but <clinit> has the flags of a method: none is abstract and static (4.6)
abbrev pub HasMethodFlags : LoadedClass → Type 0
HasMethodFlags c = All (λ (m : LoadedMember). is_clinit_name (member_name_of c m) ≡ false → is_method_flags m.flags ≡ true) c.methods

-- .. and has code exactly where it is neither native nor abstract (4.7.3)
abbrev pub HasCodeWhere : LoadedClass → Type 0
HasCodeWhere c = All (λ (m : LoadedMember). is_clinit_name (member_name_of c m) ≡ false → is_some m.code ≡ not (has m.flags NATIVE || has m.flags ABSTRACT)) c.methods

-- each has the descriptor of a method, and at most 255 entries of arguments (4.3.3)
abbrev pub HasMethodTypes : LoadedClass → Type 0
HasMethodTypes c = All (λ (m : LoadedMember). (type : MethodType) × (method_type (descriptor_of c m) ≡ Some type) × (entry_count (has m.flags STATIC || is_clinit_name (member_name_of c m)) type ≤ 255)) c.methods

-- .. which its local variables take (4.7.3)
abbrev pub HasArgumentRoom : LoadedClass → Type 0
HasArgumentRoom c = All (λ (m : LoadedMember). (body : Body) (type : MethodType) → m.code ≡ Some body → method_type (descriptor_of c m) ≡ Some type → entry_count (has m.flags STATIC || is_clinit_name (member_name_of c m)) type ≤ body.max_locals) c.methods

-- all of it
pub record KeepsMethodRules (c : LoadedClass) : Type 0 where
  pub flags : HasMethodFlags c
  pub codes : HasCodeWhere c
  pub types : HasMethodTypes c
  pub room : HasArgumentRoom c

-- CODE

-- an instruction names no <clinit>, <init> only as invokespecial, and no class that it may not name
pub record KeepsNames (slots : List (Option Item)) (i : Instr) : Type 0 where
  pub member : is_member_well slots i ≡ true
  pub class : is_class_well i (class_name_at slots (index_of i.first)) ≡ true

-- each instruction of the code keeps the rules that code alone decides, and those that the pool decides
pub record KeepsCode (slots : List (Option Item)) (b : Body) : Type 0 where
  pub rules : MarksAre (code_marks b (map tag_of_slot slots)) None
  pub names : (pc : ℕ) (x : Instr × ℕ) → IsStart b.code pc → instruction_at b.code pc ≡ Ok x → KeepsNames slots x.0

pub record KeepsCodeRules (c : LoadedClass) : Type 0 where
  -- each entry of the pool has an index of two bytes
  pub few : length c.pool.slots < 2 ^ 16
  pub methods : All (λ (m : LoadedMember). (body : Body) → m.code ≡ Some body → KeepsCode c.pool.slots body) c.methods
