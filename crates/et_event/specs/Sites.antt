-- The instruction at which a thread stands, and what it names in the pool of its class.
use Rattle.std.specs.Prelude.{ℕ, ◌==◌, ℤ, pos, negsuc, ◌+ℤ◌, Bool, List, [], Option, Result, unwrap_or, option_map, option_and_then}
use Rattle.std.specs.Option.{option_or}
use Rattle.et_class.specs.Entries.{Item}
use Rattle.et_class.specs.Looks.{tag_at, class_name_at, string_at, integer_at, long_at, member_at}
use Rattle.et_class.specs.PoolTags.TheConstants.{INTERFACE_METHODREF}
use Rattle.et_code.specs.declared.instr.Instr.{Instr}
use Rattle.et_code.specs.Bodies.{Body}
use Rattle.et_code.specs.Decoding.{instruction_at}
use Rattle.et_code.specs.declared.instr.CodeFault.{CodeFault}
use Rattle.et_program.specs.Entries.{Linked, method_at}
pub use Rattle.et_program.specs.Referring.{no_constants, pool_of_class, Member}
use Rattle.et_program.specs.Referring.{described}
use Rattle.et_program.specs.declared.info.MethodInfo.{MethodInfo}
use Rattle.et_state.specs.Threads.{FrameState}
use Rattle.et_event.specs.declared.rows.Local.{Local}
use Rattle.et_event.specs.declared.rows.Local.TheVariants.{Named, At}

-- an instruction, the pc behind it, the code and the pool in which it stands, and the class of both
pub record Site : Type 0 where
  pub instr : Instr
  pub next : ℕ
  pub code : List ℕ
  pub pool : List (Option Item)
  pub class : ℕ

abbrev pub no_body : Body
no_body = record { max_stack = 0; max_locals = 0; code = []; table = [] }

-- the method of a frame
abbrev pub running_method : Linked → FrameState → MethodInfo
running_method p f = method_at p (unwrap_or f.method 0)

abbrev pub present_body : Option Body → Body
present_body code = unwrap_or code no_body

-- the code of a frame's method
abbrev pub code_of_frame : Linked → FrameState → Body
code_of_frame p f = present_body (running_method p f).code

-- what stands at the pc of a frame
abbrev pub decoded_at : Linked → FrameState → Result (Instr × ℕ) CodeFault
decoded_at p f = instruction_at (code_of_frame p f).code f.pc

abbrev pub site_of : Linked → FrameState → Instr × ℕ → Site
site_of p f decoded = record {
  instr = decoded.0;
  next = decoded.1;
  code = (code_of_frame p f).code;
  pool = pool_of_class p (running_method p f).class;
  class = (running_method p f).class;
}

-- a number that isn't negative
abbrev pub natural_of : ℤ → ℕ
natural_of (pos n) = n
natural_of (negsuc n) = 0

-- the local variable that an instruction names
abbrev pub local_index : Local → Site → ℕ
local_index Named at = natural_of at.instr.first
local_index (At n) at = n

-- the index into the pool that an instruction has
abbrev pub pool_index : Site → ℕ
pool_index at = natural_of at.instr.first

-- the place so far from pc to which an instruction goes
abbrev pub target : ℕ → ℤ → ℕ
target pc offset = natural_of (pos pc +ℤ offset)

-- CONSTANTS (JVMS 4.4.3 to 4.4.5)
pub data LoadedConstant : Type 0 where
  AnInt : (n : ℤ) → LoadedConstant
  ALong : (n : ℤ) → LoadedConstant
  AString : (bytes : List ℕ) → LoadedConstant

abbrev pub constant_at : List (Option Item) → ℕ → Option LoadedConstant
constant_at pool i =
    option_or (option_map AnInt (integer_at pool i)) (option_or (option_map ALong (long_at pool i)) (option_map AString (string_at pool i)))

-- the member that an instruction names
abbrev pub site_member : Site → Option Member
site_member at = option_and_then (described at.pool) (member_at at.pool (pool_index at))

-- the entry is one of a method of an interface
abbrev pub names_interface : Site → Bool
names_interface at = tag_at at.pool (pool_index at) == INTERFACE_METHODREF

-- the name of the class that an instruction has as its operand
abbrev pub class_operand : Site → Option (List ℕ)
class_operand at = class_name_at at.pool (pool_index at)
