-- TYPINGS of methods, and the programs that are verified.
use Rattle.std.specs.Prelude.{◌≡◌, ℕ, ◌≤◌, ◌&&◌, ◌||◌, nat_lt, Bool, true, false, if◌then◌else◌, List, [], ◌∷◌, ◌++◌, length, map, All, Option, Some, None, Result, Ok, Err, Contains}
use Rattle.std.specs.List.{flat_map, list_all}
use Rattle.et_class.specs.Descriptors.{MethodType, method_type}
use Rattle.et_class.specs.Operands.{operand_kind}
use Rattle.et_class.specs.PoolOperands.Operand.{Operand}
use Rattle.et_code.specs.declared.instr.Instr.{Instr}
use Rattle.et_code.specs.Bodies.{Body}
use Rattle.et_code.specs.Decoding.{instruction_at}
use Rattle.et_code.specs.Starts.{IsStart, is_start}
use Rattle.et_code.specs.declared.instr.CodeFault.{CodeFault}
use Rattle.et_program.specs.Entries.{Linked, method_at, is_static}
use Rattle.et_event.specs.declared.rows.Row.{Row}
use Rattle.et_event.specs.Programs.{is_initializing}
use Rattle.et_event.specs.Sound.{returned_of}
use Rattle.et_event.specs.Table.{row_of}
use Rattle.et_flow.specs.declared.types.EntryType.{EntryType}
use Rattle.et_flow.specs.declared.types.EntryType.TheVariants.{Free, Reference}
use Rattle.et_flow.specs.Types.{TypesOf, local_entries}
use Rattle.et_flow.specs.Flows.{LeadOf, Typing, IsThere}
use Rattle.et_flow.specs.Stores.{with_free}
use Rattle.et_verify.specs.Steps.{types_after}
use Rattle.et_flow.specs.Types.{caught}
use Rattle.et_verify.specs.Leads.{site_in, next_places, handlers_at}

abbrev pub AreThere : Typing → List ℕ → TypesOf → Type 0
AreThere typing places ts = (q : ℕ) → Contains places q → IsThere typing q ts

-- THE FIRST TYPES: no operands, the receiver and the parameters, and nothing else. A method named <clinit> has no receiver,
-- whatever its flags.
abbrev pub receiver_entries : Bool → List EntryType
receiver_entries true = []
receiver_entries false = Reference ∷ []

-- no method of a program has a parameter of type F or D, of which there are no operands
abbrev pub parameter_entries : Option Operand → List EntryType
parameter_entries None = []
parameter_entries (Some kind) = local_entries kind

abbrev pub argument_entries : Bool → List (Option Operand) → List EntryType
argument_entries static kinds = receiver_entries static ++ flat_map parameter_entries kinds

abbrev pub first_types : Linked → ℕ → Body → MethodType → TypesOf
first_types p m body type =
    record { operands = []; locals = with_free body.max_locals (argument_entries (is_static p m || is_initializing p m) (map operand_kind type.parameters)) }

-- A TYPING OF A METHOD with this code

-- types of a frame of the method: no operand is of type Free
pub record FitFrame (body : Body) (ts : TypesOf) : Type 0 where
  pub used : All (λ (t : EntryType). t ≡ Free → ⊥) ts.operands
  pub few : length ts.operands ≤ body.max_stack
  pub locals : length ts.locals ≡ body.max_locals

-- the instruction at pc accepts types, and each place to which it leads has types above those with which it leads there
pub record IsAccepted (p : Linked) (m : ℕ) (body : Body) (typing : Typing) (pc : ℕ) (ts : TypesOf) : Type 0 where
  pub decoded : Instr × ℕ
  pub at : instruction_at body.code pc ≡ Ok decoded
  pub row : Row
  pub does : row_of decoded.0.opcode ≡ Some row
  pub after : TypesOf
  pub accepts : types_after body.max_stack (returned_of (method_at p m)) (site_in p m body decoded) row ts ≡ Some after
  pub goes_on : AreThere typing (next_places pc (site_in p m body decoded) row) after
  pub handled : AreThere typing (handlers_at p m body pc) (caught ts)

pub record IsTyping (p : Linked) (m : ℕ) (body : Body) (typing : Typing) : Type 0 where
  pub starts : (pc : ℕ) (ts : TypesOf) → typing pc ≡ Some ts → IsStart body.code pc
  pub fits : (pc : ℕ) (ts : TypesOf) → typing pc ≡ Some ts → FitFrame body ts
  pub type : MethodType
  pub typed : method_type (method_at p m).descriptor ≡ Some type
  pub entry : IsThere typing 0 (first_types p m body type)
  pub accepted : (pc : ℕ) (ts : TypesOf) → typing pc ≡ Some ts → IsAccepted p m body typing pc ts

-- a method has a typing, if it has code
pub record HasTyping (p : Linked) (m : ℕ) : Type 0 where
  pub typing : Typing
  pub is : (body : Body) → (method_at p m).code ≡ Some body → IsTyping p m body typing

-- each method of the files has one
abbrev pub IsVerified : Linked → Type 0
IsVerified p = (m : ℕ) → Contains p.file_methods m → HasTyping p m

-- WHERE AN INSTRUCTION LEADS, as the search asks: to starts alone

abbrev pub are_starts : List ℕ → List ℕ → Bool
are_starts code places = list_all (is_start code) places

-- a handler is entered with one operand
abbrev pub has_room : ℕ → List ℕ → Bool
has_room room [] = true
has_room room (h ∷ hs) = nat_lt 0 room

abbrev pub led : Body → List ℕ → List ℕ → TypesOf → Option TypesOf → Option LeadOf
led body nexts handlers ts None = None
led body nexts handlers ts (Some after) =
    if are_starts body.code nexts && are_starts body.code handlers && has_room body.max_stack handlers
    then Some (record { after = after; nexts = nexts; caught = caught ts; handlers = handlers })
    else None

abbrev pub leads_by_row : Linked → ℕ → Body → ℕ → TypesOf → Instr × ℕ → Option Row → Option LeadOf
leads_by_row p m body pc ts decoded None = None
leads_by_row p m body pc ts decoded (Some row) =
    led body (next_places pc (site_in p m body decoded) row) (handlers_at p m body pc) ts
    (types_after body.max_stack (returned_of (method_at p m)) (site_in p m body decoded) row ts)

abbrev pub leads_by : Linked → ℕ → Body → ℕ → TypesOf → Result (Instr × ℕ) CodeFault → Option LeadOf
leads_by p m body pc ts (Err fault) = None
leads_by p m body pc ts (Ok decoded) = leads_by_row p m body pc ts decoded (row_of decoded.0.opcode)

abbrev pub leads_in : Linked → ℕ → Body → ℕ → TypesOf → Option LeadOf
leads_in p m body pc ts = if is_start body.code pc then leads_by p m body pc ts (instruction_at body.code pc) else None
