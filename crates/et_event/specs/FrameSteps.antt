-- INSTRUCTIONS THAT READ AND CHANGE NOTHING BUT THEIR FRAME, one after the other.
use Rattle.std.specs.Prelude.{◌≡◌, ℕ, zero, suc, ◌+◌, Bool, true, false, List, [], Contains, Option, Some, None, Result, Ok, Err, length, slice_index}
use Rattle.et_code.specs.declared.instr.Instr.{Instr}
use Rattle.et_code.specs.declared.instr.CodeFault.{CodeFault}
use Rattle.et_code.specs.Decoding.{instruction_at}
use Rattle.et_state.specs.Running.{RunningState, MovesInFrame}
use Rattle.et_state.specs.Threads.{FrameState}
use Rattle.et_event.specs.declared.rows.Row.{Row}
use Rattle.et_event.specs.declared.rows.Row.TheVariants as row
use Rattle.et_event.specs.Plain.{frame_after}
use Rattle.et_event.specs.Sites.{Site}
use Rattle.et_event.specs.Table.{row_of}

-- the frame after an instruction of this row, where that reads and changes nothing else
abbrev pub frame_by_row : Site → Option Row → FrameState → Option FrameState
frame_by_row at (Some (row.Frame r)) f = frame_after at r f
frame_by_row at other f = None

-- .. after what was decoded from this code: such an instruction names nothing in a pool
abbrev pub frame_decoded : List ℕ → Result (Instr × ℕ) CodeFault → FrameState → Option FrameState
frame_decoded code (Err fault) f = None
frame_decoded code (Ok x) f = frame_by_row (record { instr = x.0; next = x.1; code = code; pool = []; class = 0 }) (row_of x.0.opcode) f

-- .. after the instruction at its pc
abbrev pub frame_next : List ℕ → FrameState → Option FrameState
frame_next code f = frame_decoded code (instruction_at code f.pc) f

-- What is answered by a call that does such an instruction: true exactly where there is a frame after it, which runs then.
-- Else all is as before.
abbrev pub StepsRunning : Option FrameState → Bool → RunningState → RunningState → Type 0
StepsRunning (Some f) true r r' = (r'.frame ≡ f) × (r'.below ≡ r.below) × MovesInFrame r.frame f r'.lost
StepsRunning None false r r' = r' ≡ r
StepsRunning f done r r' = ⊥

-- The event after event e is such an instruction of frame f. What it loses has the stamp e then, and all else its own.
pub record IsFrameStep (code : List ℕ) (e : ℕ) (f f' : FrameState) (old new : List ℕ) : Type 0 where
  pub next : frame_next code f ≡ Some f'
  pub lost : List ℕ
  pub moves : MovesInFrame f f' lost
  pub stamped : (o : ℕ) → Contains lost o → slice_index new o ≡ e
  pub kept : (o : ℕ) → ¬ Contains lost o → slice_index new o ≡ slice_index old o
  pub long : length new ≡ length old

-- so many of them, of which the first is the event after event e
unfoldable pub AreFrameSteps : List ℕ → ℕ → ℕ → FrameState → FrameState → List ℕ → List ℕ → Type 0
AreFrameSteps code zero e f f' old new = (f' ≡ f) × (new ≡ old)
AreFrameSteps code (suc k) e f f' old new = (mid : FrameState) × (between : List ℕ) × AreFrameSteps code k e f mid old between × IsFrameStep code (e + k) mid f' between new
