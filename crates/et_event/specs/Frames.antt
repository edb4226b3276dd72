-- FRAMES ENTERED AND LEFT (JVMS 2.6, 2.11.8).
use Rattle.std.specs.Prelude.{ℕ, not, if◌then◌else◌, List, [], ◌∷◌, ◌++◌, Option, Some, None, unwrap_or, Result, Ok, Err}
use Rattle.et_base.specs.declared.value.Value.{Value}
use Rattle.et_base.specs.declared.value.Value.TheVariants.{Ref}
use Rattle.et_class.specs.Names.{has}
use Rattle.et_class.specs.declared.flags.TheConstants.{SYNCHRONIZED, NATIVE}
use Rattle.et_code.specs.Bodies.{Body}
use Rattle.et_code.specs.declared.instr.Instr.{Instr}
use Rattle.et_code.specs.declared.instr.CodeFault.{CodeFault}
use Rattle.et_program.specs.Entries.{Linked, method_at, is_static}
use Rattle.et_state.specs.declared.stage.Stage.{Stage}
use Rattle.et_state.specs.declared.stage.Stage.TheVariants.{Plain, Before, Clinit}
use Rattle.et_state.specs.Threads.{FrameState, locals_with, entered_by}
use Rattle.et_state.specs.State.{Kept}
use Rattle.et_state.specs.Words.{thread_at}
use Rattle.et_state.specs.declared.records.Record.TheVariants.{Enter}
use Rattle.et_state.specs.Outcome.{Outcome}
use Rattle.et_event.specs.declared.errors.GuestError.TheVariants.{UnsatisfiedLinkError}
use Rattle.et_event.specs.Moments.{Moment, Doing, told, with_thread_state, ends_event}
use Rattle.et_event.specs.Checks.{throws_unless, waits_unless, frame_fits}
use Rattle.et_event.specs.Monitors.{lock_for, may_enter_some, entered_some}
use Rattle.et_event.specs.Sites.{decoded_at}

-- the object on which a method is called: the first argument, where it isn't static
abbrev pub first_reference : List Value → Option ℕ
first_reference (Ref o ∷ rest) = Some o
first_reference other = None

abbrev pub receiver_of : Linked → ℕ → List Value → Option ℕ
receiver_of p m arguments = if is_static p m then None else first_reference arguments

-- the lock slot holds the receiver of a synchronized method that isn't static
abbrev pub lock_slot : Linked → ℕ → List Value → Option ℕ
lock_slot p m arguments = if has (method_at p m).flags SYNCHRONIZED then receiver_of p m arguments else None

abbrev pub method_frame : Linked → ℕ → Body → List Value → FrameState
method_frame p m body arguments = record {
  method = Some m;
  stage = Plain;
  lock = lock_slot p m arguments;
  pc = 0;
  room = body.max_stack;
  locals = locals_with body.max_locals arguments;
  operands = [];
}

-- a frame of the method is pushed, and its monitor entered
abbrev pub frame_entered : Moment → ℕ → Body → List Value → Doing → Doing
frame_entered e m body arguments d =
    let x = entered_some e (lock_for (method_at e.program m) (receiver_of e.program m arguments)) d in
    told (Enter x.state.guest.clock e.thread m (unwrap_or (receiver_of e.program m arguments) 0))
    (with_thread_state e (entered_by (method_frame e.program m body arguments) (thread_at x.state.guest e.thread)) x)

-- 10 to 13. THE SELECTED METHOD IS ENTERED. `leave` takes the arguments from where they stand; `built_in` is the event of a
-- built-in method without code. Arguments are in the order of the locals.
abbrev pub enters_code : Moment → Doing → (Doing → Doing) → ℕ → List Value → Body → Outcome Kept
enters_code e d leave m arguments body =
    waits_unless e (may_enter_some e d (lock_for (method_at e.program m) (receiver_of e.program m arguments)))
    (frame_fits e d (ends_event (frame_entered e m body arguments (leave d))))

abbrev pub by_code : Moment → Doing → (Doing → Doing) → ℕ → List Value → Outcome Kept → Option Body → Outcome Kept
by_code e d leave m arguments built_in (Some body) = enters_code e d leave m arguments body
by_code e d leave m arguments built_in None =
    throws_unless e d UnsatisfiedLinkError (not (has (method_at e.program m).flags NATIVE)) built_in

abbrev pub enters : Moment → Doing → (Doing → Doing) → ℕ → List Value → Outcome Kept → Outcome Kept
enters e d leave m arguments built_in = by_code e d leave m arguments built_in (method_at e.program m).code

-- A FRAME IS LEFT

-- the pc behind the instruction at which a frame stands
abbrev pub behind_or : ℕ → Result (Instr × ℕ) CodeFault → ℕ
behind_or pc (Ok x) = x.1
behind_or pc (Err fault) = pc

abbrev pub next_place_of : Linked → FrameState → ℕ
next_place_of p f = behind_or f.pc (decoded_at p f)

-- the caller gets what is returned, and goes on behind its call
abbrev pub resumed : Linked → List Value → List FrameState → List FrameState
resumed p values [] = []
resumed p values (f ∷ below) = record f { pc = next_place_of p f; operands = values ++ f.operands } ∷ below

-- a method returns: below an initializer the instruction is done again
abbrev pub frames_after_return : Linked → Stage → List Value → List FrameState → List FrameState
frames_after_return p Plain values below = resumed p values below
frames_after_return p (Before c) values below = below
frames_after_return p (Clinit c) values below = below
