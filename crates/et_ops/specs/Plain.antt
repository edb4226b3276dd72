-- WHAT BECOMES OF A PLAIN INSTRUCTION, by what the table says of it in each moment with its frame.
use Rattle.std.specs.Prelude.{◌≡◌, ℕ, Bool, true, false, List, Option, Some, None}
use Rattle.et_state.specs.Running.{RunningState, MovesInFrame}
use Rattle.et_state.specs.State.{MachineState}
use Rattle.et_state.specs.Threads.{FrameState}
use Rattle.et_state.specs.Words.{top}
use Rattle.et_event.specs.declared.errors.GuestError.TheVariants.{ArithmeticException}
use Rattle.et_event.specs.declared.rows.Row.{Row}
use Rattle.et_event.specs.declared.rows.Row.TheVariants as rows
use Rattle.et_event.specs.Answered.{StepsFrame}
use Rattle.et_event.specs.Event.{does}
use Rattle.et_event.specs.Moments.{Moment, begins, current_frame, throws}
use Rattle.et_event.specs.Plain.{on_frame}
use Rattle.et_event.specs.Sites.{Site, AString, constant_at, pool_index}
use Rattle.et_ops.specs.declared.ends.PlainEnd.{PlainEnd}
use Rattle.et_ops.specs.declared.ends.PlainEnd.TheVariants as ends

-- it changes nothing but frame f, which becomes this one; None where it has no meaning
abbrev pub ChangesFrame : Site → Row → FrameState → Option FrameState → Type 0
ChangesFrame at row f f' = (e : Moment) → current_frame e ≡ f → does e at row ≡ on_frame e f'

-- it changes more than its frame: it loads a string of the pool, or divides by 0
abbrev pub ChangesMore : Site → Row → FrameState → Type 0
ChangesMore at rows.PoolConstant f = (bytes : List ℕ) × (constant_at at.pool (pool_index at) ≡ Some (AString bytes))
ChangesMore at (rows.Divide number division) f = (e : Moment) → current_frame e ≡ f → does e at (rows.Divide number division) ≡ throws e ArithmeticException (begins e)
ChangesMore at other f = ⊥

abbrev pub is_done : PlainEnd → Bool
is_done ends.Done = true
is_done ends.IllTyped = false
is_done ends.More = false

-- What is answered by a call that does it over the frame that runs, where it changes nothing else. Else all is as before.
abbrev pub RunsPlain : Site → Row → PlainEnd → RunningState → RunningState → Type 0
RunsPlain at row ends.Done r r' = ChangesFrame at row r.frame (Some r'.frame) × (r'.below ≡ r.below) × MovesInFrame r.frame r'.frame r'.lost
RunsPlain at row ends.IllTyped r r' = ChangesFrame at row r.frame None × (r' ≡ r)
RunsPlain at row ends.More r r' = ChangesMore at row r.frame × (r' ≡ r)

-- .. as an event of thread t
abbrev pub DoesPlain : Site → Row → PlainEnd → ℕ → MachineState → MachineState → Type 0
DoesPlain at row ends.Done t m m' = (f : FrameState) × ChangesFrame at row (top m.guest t) (Some f) × StepsFrame (Some f) true t m m'
DoesPlain at row ends.IllTyped t m m' = ChangesFrame at row (top m.guest t) None × (m' ≡ m)
DoesPlain at row ends.More t m m' = ChangesMore at row (top m.guest t) × (m' ≡ m)

-- the frame f' is f with another pc and other operands
abbrev pub KeepsLocals : FrameState → FrameState → Type 0
KeepsLocals f f' = f' ≡ record f { pc = f'.pc; operands = f'.operands }
