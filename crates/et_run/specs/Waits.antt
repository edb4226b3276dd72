-- Threads that wait.
use Rattle.std.specs.Prelude.{◌≡◌, ℕ, Some, Ok}
use Rattle.et_code.specs.declared.instr.Instr.{Instr}
use Rattle.et_program.specs.Entries.{Linked}
use Rattle.et_state.specs.declared.stage.Turn.TheVariants.{Instruction}
use Rattle.et_state.specs.Outcome.{Waits}
use Rattle.et_state.specs.State.{Kept}
use Rattle.et_state.specs.Threads.{turn_of}
use Rattle.et_state.specs.Words.{thread_at, top}
use Rattle.et_event.specs.declared.rows.MonitorRow.TheVariants.{Enter}
use Rattle.et_event.specs.declared.rows.Row.TheVariants.{Monitor}
use Rattle.et_event.specs.Moments.{later}
use Rattle.et_event.specs.Sites.{decoded_at}
use Rattle.et_event.specs.Table.{row_of}
use Rattle.et_event.specs.Told.{event_with_texts}

-- state s came from one in which thread t waited
pub record HasWaited (p : Linked) (s : Kept) (t : ℕ) : Type 0 where
  pub before : Kept
  pub later_is : s ≡ later before
  pub waited : event_with_texts p before t ≡ Waits s

-- thread t stands at a monitorenter
pub record IsAtMonitor (p : Linked) (s : Kept) (t : ℕ) : Type 0 where
  pub decoded : Instr × ℕ
  pub turn : turn_of (thread_at s.guest t) ≡ Instruction
  pub there : decoded_at p (top s.guest t) ≡ Ok decoded
  pub row : row_of decoded.0.opcode ≡ Some (Monitor Enter)
