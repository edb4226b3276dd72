-- WHICH FAMILY A TURN IS OF
use Rattle.std.specs.Prelude.{ℕ, Option, Some, None, Result, Ok, Err}
use Rattle.et_code.specs.declared.instr.Instr.{Instr}
use Rattle.et_code.specs.declared.instr.CodeFault.{CodeFault}
use Rattle.et_program.specs.Entries.{Linked}
use Rattle.et_state.specs.declared.stage.Turn.{Turn}
use Rattle.et_state.specs.declared.stage.Turn.TheVariants.{Unwind, EndThread, Entry, Initialize, Instruction}
use Rattle.et_state.specs.Threads.{turn_of}
use Rattle.et_state.specs.State.{Kept}
use Rattle.et_state.specs.Words.{thread_at, top}
use Rattle.et_event.specs.declared.families.Family.{Family}
use Rattle.et_event.specs.declared.families.Family.TheVariants.{Ops, Refs, Calls, Throw, Sync}
use Rattle.et_event.specs.declared.rows.Row.{Row}
use Rattle.et_event.specs.declared.rows.Row.TheVariants as row
use Rattle.et_event.specs.Sites.{decoded_at}
use Rattle.et_event.specs.Table.{row_of}

-- the row of what was decoded; none at the end of the code
abbrev pub row_at : Result (Instr × ℕ) CodeFault → Option Row
row_at (Err fault) = None
row_at (Ok x) = row_of x.0.opcode

-- an instruction, by its row
abbrev pub family_of_row : Option Row → Family
family_of_row None = Ops
family_of_row (Some (row.Frame r)) = Ops
family_of_row (Some row.PoolConstant) = Ops
family_of_row (Some (row.Divide n o)) = Ops
family_of_row (Some (row.Heap r)) = Refs
family_of_row (Some (row.Call r)) = Calls
family_of_row (Some row.Throw) = Throw
family_of_row (Some (row.Monitor r)) = Sync

-- a turn, in which this row would be done
abbrev pub family_of_turn : Turn → Option Row → Family
family_of_turn Unwind r = Throw
family_of_turn EndThread r = Sync
family_of_turn Entry r = Calls
family_of_turn Initialize r = Calls
family_of_turn Instruction r = family_of_row r

-- the turn of a thread in a state
abbrev pub family_of : Linked → Kept → ℕ → Family
family_of p s t = family_of_turn (turn_of (thread_at s.guest t)) (row_at (decoded_at p (top s.guest t)))
