-- A method is entered (JVMS 2.6, 2.11.8, 2.11.10): where its arguments stand, and what its event comes to.
use Rattle.std.specs.Prelude.{◌≡◌, ℕ, ◌<◌, ◌≤◌, true, List, [], length, All, option_to_list}
use Rattle.std.specs.List.{list_all}
use Rattle.et_base.specs.declared.value.Value.{Value}
use Rattle.et_state.specs.Threads.{FrameState, as_entered, entered_by, popped}
use Rattle.et_state.specs.State.{GuestState, Kept, MachineState}
use Rattle.et_state.specs.Words.{HasFrame, thread_at, top, steps_top, steps_thread}
use Rattle.et_state.specs.Outcome.{Outcome}
use Rattle.et_program.specs.Entries.{Linked, method_at}
use Rattle.et_event.specs.Calls.{entering_frame, entry_arguments, taking}
use Rattle.et_event.specs.Frames.{enters_code, frame_entered}
use Rattle.et_event.specs.Initialization.{is_ready, prepared}
use Rattle.et_event.specs.Moments.{Doing, Moment, begins, ends_event, current_frame, moment}
use Rattle.et_builtins.specs.Arguments.{arguments_in}
use Rattle.et_calls.specs.declared.new_frames.Entered.{Entered}
use Rattle.et_calls.specs.declared.new_frames.Passed.{Passed}
use Rattle.et_calls.specs.declared.new_frames.Passed.TheVariants.{Operands, Object}
use Rattle.et_calls.specs.Fresh.{IsArgument, IsFresh}

-- the arguments, in the order of the locals
abbrev pub arguments_passed : FrameState → Passed → List Value
arguments_passed f (Operands count) = arguments_in f count
arguments_passed f (Object argument) = entry_arguments argument

-- they are there: so many operands of the topmost frame, or an object of a thread that is to be entered
abbrev pub ArePassedTo : GuestState → ℕ → Passed → Type 0
ArePassedTo g t (Operands count) = HasFrame g t × (count ≤ length (top g t).operands)
ArePassedTo g t (Object argument) = IsFresh g t × IsArgument g t argument

-- they are taken from where they stand; a thread that is entered first counts as entered then, and its entry slot is empty
abbrev pub passing : Moment → Passed → Doing → Doing
passing e (Operands count) d = taking e count d
passing e (Object argument) d = entering_frame e d

abbrev pub given_up : MachineState → ℕ → MachineState
given_up m t = steps_thread m t (as_entered (thread_at m.guest t)) (option_to_list (thread_at m.guest t).entry)

-- .. in the machine: operands aren't lost, since they stand in the new frame then
abbrev pub passed_by : MachineState → ℕ → Passed → MachineState
passed_by m t (Operands count) = steps_top m t (popped count (top m.guest t)) []
passed_by m t (Object argument) = given_up m t

-- .. and a frame is put on top
abbrev pub pushed_by : MachineState → ℕ → Passed → FrameState → MachineState
pushed_by m t passed f = steps_thread (passed_by m t passed) t (entered_by f (thread_at (passed_by m t passed).guest t)) []

-- a method of the program, whose arguments are there, and before which the quiet ones among its classes may become done
pub record IsEntered (p : Linked) (m : MachineState) (t : ℕ) (x : Entered) : Type 0 where
  pub info : x.info.now ≡ method_at p x.method
  pub class : x.info.now.class < length p.classes
  pub passed : ArePassedTo m.guest t x.passed
  pub classes : All (λ c. c < length p.classes) x.classes.now
  pub ready : list_all (is_ready (moment p m t) (begins (moment p m t))) x.classes.now ≡ true

-- what was done as they became done
abbrev pub prepared_for : Moment → Entered → Doing
prepared_for e x = prepared e x.classes.now (begins e)

-- the event in which its frame is put on top
abbrev pub pushed_event : Moment → Entered → Outcome Kept
pushed_event e x = ends_event (frame_entered e x.method x.code.now (arguments_passed (current_frame e) x.passed) (passing e x.passed (prepared_for e x)))

-- .. if the thread may enter the monitor of the method, and has room for a frame
abbrev pub entering_event : Moment → Entered → Outcome Kept
entering_event e x = enters_code e (prepared_for e x) (passing e x.passed) x.method (arguments_passed (current_frame e) x.passed) x.code.now
