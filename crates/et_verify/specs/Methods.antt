-- THE CODE OF A METHOD, as the search for its typing goes over it.
use Rattle.std.specs.Prelude.{◌≡◌, ℕ, ◌<◌, ◌^◌, ◌++◌, Bool, true, false, List, length, filter, Option, Some, None, IfSome, Ok, Contains}
use Rattle.et_code.specs.declared.body.TableRow.{TableRow}
use Rattle.et_code.specs.Bodies.{Body}
use Rattle.et_code.specs.Decoding.{instruction_at, Fits}
use Rattle.et_code.specs.Rules.{flag}
use Rattle.et_code.specs.Starts.{is_start}
use Rattle.et_program.specs.Entries.{Linked, method_at}
use Rattle.et_program.specs.declared.info.MethodInfo.{MethodInfo}
use Rattle.et_pool.specs.declared.operand.Returned.{Returned}
use Rattle.et_pool.specs.Operands.{return_of}
use Rattle.et_event.specs.Sites.{pool_of_class}
use Rattle.et_event.specs.Sound.{returned_of}
use Rattle.et_event.specs.Table.{row_of}
use Rattle.et_flow.specs.declared.search.Lead.{Lead}
use Rattle.et_flow.specs.Flows.{some_place}
use Rattle.et_flow.specs.Types.{TypesOf}
use Rattle.et_verify.specs.declared.decoded.Decoded.{Decoded}
use Rattle.et_verify.specs.Leads.{may_catch, site_in, handlers_at}
use Rattle.et_verify.specs.Steps.{types_after}
use Rattle.et_verify.specs.Targets.{HasTargets}
use Rattle.et_verify.specs.Typings.{led, leads_by}

-- an instruction that has a row stands at a place of code
pub record StandsAt (code : List ℕ) (pc : ℕ) (x : Decoded) : Type 0 where
  pub decoded : instruction_at code pc ≡ Ok (x.instr, x.next)
  pub row : row_of x.instr.opcode ≡ Some x.row
  pub fits : Fits code pc x.instr x.next

-- a method of a program, and its code
pub record MethodOf : Type 0 where
  pub program : Linked
  pub method : ℕ
  pub body : Body
  pub targets : List Bool

-- the types after an instruction of it
abbrev pub types_after_it : MethodOf → Decoded → TypesOf → Option TypesOf
types_after_it f x ts = types_after f.body.max_stack (returned_of (method_at f.program f.method)) (site_in f.program f.method f.body (x.instr, x.next)) x.row ts

-- the answer that there are types after an instruction, and these are they, or that there are none
pub record IsAnswered (answer : Option TypesOf) (after : TypesOf) (b : Bool) : Type 0 where
  pub done : b ≡ true → answer ≡ Some after
  pub refused : b ≡ false → answer ≡ None

-- the same of the instruction that stands at pc, with the places at which the code goes on from it
pub record IsStepped (f : MethodOf) (pc : ℕ) (before after : TypesOf) (old new : Lead) (b : Bool) : Type 0 where
  pub done : b ≡ true → leads_by f.program f.method f.body pc before (instruction_at f.body.code pc)
      ≡ led f.body (some_place new.on ++ new.nexts.items) (handlers_at f.program f.method f.body pc) before (Some after)
  pub refused : b ≡ false → leads_by f.program f.method f.body pc before (instruction_at f.body.code pc) ≡ None
  pub on : b ≡ true → IfSome new.on (λ q. flag f.targets q ≡ false)
  pub turns : b ≡ true → (q : ℕ) → Contains new.nexts.items q → is_start f.body.code q ≡ true → flag f.targets q ≡ true
  pub handlers : b ≡ true → new.handlers.items ≡ old.handlers.items
  pub caught : b ≡ true → new.caught ≡ old.caught

-- what is kept of it: the rows of the exception table that may catch anything, and flags
-- that tell the starts of instructions, and the targets
pub record IsMethod (p : Linked) (m : ℕ) (info : MethodInfo) (body : Body) (returned : Returned) (handling : List TableRow) (starts targets : List Bool) : Type 0 where
  pub info_is : info ≡ method_at p m
  pub class : (method_at p m).class < length p.classes
  pub code : (method_at p m).code ≡ Some body
  pub returns : return_of (returned_of (method_at p m)) ≡ returned
  pub rows : handling ≡ filter (may_catch p (pool_of_class p (method_at p m).class)) body.table
  pub flags : (place : ℕ) → flag starts place ≡ is_start body.code place
  pub few : length body.code < 2 ^ 16
  pub marked : HasTargets starts body.code body.table targets
