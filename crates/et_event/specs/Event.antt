-- THE TABLE OF EVENTS: what each event of each thread leads to.
use Rattle.std.specs.Prelude.{ℕ, Option, Some, None, Result, Ok, Err}
use Rattle.et_code.specs.declared.instr.Instr.{Instr}
use Rattle.et_code.specs.declared.instr.CodeFault.{CodeFault}
use Rattle.et_program.specs.Entries.{Linked}
use Rattle.et_state.specs.declared.stage.Stage.{Stage}
use Rattle.et_state.specs.declared.stage.Stage.TheVariants.{Plain, Before, Clinit}
use Rattle.et_state.specs.declared.stage.Turn.{Turn}
use Rattle.et_state.specs.declared.stage.Turn.TheVariants.{Unwind, EndThread, Entry, Initialize, Instruction}
use Rattle.et_state.specs.Threads.{turn_of}
use Rattle.et_state.specs.State.{Kept}
use Rattle.et_state.specs.Outcome.{Outcome}
use Rattle.et_event.specs.declared.rows.Row.{Row}
use Rattle.et_event.specs.declared.rows.Row.TheVariants as row
use Rattle.et_event.specs.Table.{row_of}
use Rattle.et_event.specs.Moments.{Moment, thread_of, current_frame, ill_typed}
use Rattle.et_event.specs.Sites.{Site, site_of, decoded_at, pool_index, constant_at}
use Rattle.et_event.specs.Plain.{frame_after, on_frame, constant, divides}
use Rattle.et_event.specs.Heap.{heap_event}
use Rattle.et_event.specs.Calls.{call_event, entry_call}
use Rattle.et_event.specs.Initialization.{initialization_step}
use Rattle.et_event.specs.Throw.{throw, unwinding_step}
use Rattle.et_event.specs.Sync.{monitor_event, end_of_thread}

-- an instruction, by its row
abbrev pub does : Moment → Site → Row → Outcome Kept
does e at (row.Frame r) = on_frame e (frame_after at r (current_frame e))
does e at row.PoolConstant = constant e at (constant_at at.pool (pool_index at))
does e at (row.Divide n o) = divides e at n o
does e at (row.Heap r) = heap_event e at r
does e at (row.Call r) = call_event e at r
does e at row.Throw = throw e
does e at (row.Monitor r) = monitor_event e at r

abbrev pub by_row : Moment → Site → Option Row → Outcome Kept
by_row e at None = ill_typed e
by_row e at (Some r) = does e at r

-- the instruction at the pc; at the end of the code there is none
abbrev pub by_instruction : Moment → Result (Instr × ℕ) CodeFault → Outcome Kept
by_instruction e (Err fault) = ill_typed e
by_instruction e (Ok x) = by_row e (site_of e.program (current_frame e) x) (row_of x.0.opcode)

abbrev pub instruction : Moment → Outcome Kept
instruction e = by_instruction e (decoded_at e.program (current_frame e))

-- a step of the initializer at the top
abbrev pub initializes : Moment → Stage → Outcome Kept
initializes e Plain = ill_typed e
initializes e (Before c) = initialization_step e c
initializes e (Clinit c) = ill_typed e

-- what the turn does
abbrev pub does_turn : Moment → Turn → Outcome Kept
does_turn e Unwind = unwinding_step e (thread_of e).pending
does_turn e EndThread = end_of_thread e
does_turn e Entry = entry_call e
does_turn e Initialize = initializes e (current_frame e).stage
does_turn e Instruction = instruction e

-- the event of a thread in a state
unfoldable pub event : Linked → Kept → ℕ → Outcome Kept
event p s t =
    let e : Moment = record { program = p; before = s; thread = t } in
    does_turn e (turn_of (thread_of e))
