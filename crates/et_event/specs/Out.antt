-- System.out (JLS 12.4: System is a built-in class, and initialized from the start). Its print stream is made at the first
-- getstatic that reads it, which is no write that a record tells, and stays in the static slot.
use Rattle.std.specs.Prelude.{ℕ, ◌&&◌, Bool, true, false, if◌then◌else◌, ◌∷◌, codes, Option, Some, None, unwrap_or, Result, Ok, Err, option_and_then, option_map}
use Rattle.std.specs.Result.{result_ok}
use Rattle.et_base.specs.declared.value.Value.{Value}
use Rattle.et_base.specs.declared.value.Value.TheVariants.{Ref}
use Rattle.et_code.specs.declared.instr.Instr.{Instr}
use Rattle.et_code.specs.declared.instr.CodeFault.{CodeFault}
use Rattle.et_class.specs.Descriptors.{is_field_descriptor}
use Rattle.et_program.specs.Entries.{Linked, field_at}
use Rattle.et_program.specs.Resolution.{resolve_class, resolve_field}
use Rattle.et_state.specs.State.{Kept}
use Rattle.et_state.specs.Words.{class_state_at, static_at, top, with_static}
use Rattle.et_state.specs.Outcome.{Outcome}
use Rattle.et_state.specs.Threads.{turn_of}
use Rattle.et_state.specs.declared.class_state.ClassState.{ClassState}
use Rattle.et_state.specs.declared.class_state.ClassState.TheVariants.{Done}
use Rattle.et_state.specs.declared.stage.Turn.{Turn}
use Rattle.et_state.specs.declared.stage.Turn.TheVariants.{Instruction}
use Rattle.et_event.specs.declared.rows.HeapRow.TheVariants.{GetStatic}
use Rattle.et_event.specs.declared.rows.Row.{Row}
use Rattle.et_event.specs.declared.rows.Row.TheVariants.{Heap}
use Rattle.et_event.specs.Errors.{class_called}
use Rattle.et_event.specs.Heap.{field_fits, is_out, is_static_at, leaving_values}
use Rattle.et_event.specs.Moments.{Moment, Doing, begins, current_frame, doing_with_guest, ends_event, instance_made, next_object, thread_of}
use Rattle.et_event.specs.Sites.{Member, Site, decoded_at, site_member, site_of}
use Rattle.et_event.specs.Table.{row_of}

-- WHERE A TURN READS IT: where the instruction stands, and the field

pub record OutRead : Type 0 where
  pub at : Site
  pub field : ℕ

abbrev pub is_done : ClassState → Bool
is_done Done = true
is_done other = false

-- the field that a member names, where there is room for its value
abbrev pub field_read : Moment → Member → Option ℕ
field_read e m =
    if is_field_descriptor m.descriptor && field_fits e (current_frame e).operands m
    then option_and_then (λ owner. result_ok (resolve_field e.program owner m.name m.descriptor)) (result_ok (resolve_class e.program m.owner))
    else None

-- .. where it is the static field of System
abbrev pub out_of : Moment → ℕ → Option ℕ
out_of e f =
    if is_static_at e.program f && (is_out e.program f && is_done (class_state_at e.before.guest (field_at e.program f).class)) then Some f else None

abbrev pub out_at : Moment → Site → Row → Option OutRead
out_at e at (Heap GetStatic) = option_map (λ f. record { at = at; field = f }) (option_and_then (out_of e) (option_and_then (field_read e) (site_member at)))
out_at e at other = None

abbrev pub out_by : Moment → Result (Instr × ℕ) CodeFault → Option OutRead
out_by e (Err fault) = None
out_by e (Ok x) = option_and_then (out_at e (site_of e.program (current_frame e) x)) (row_of x.0.opcode)

abbrev pub out_in : Moment → Turn → Option OutRead
out_in e Instruction = out_by e (decoded_at e.program (current_frame e))
out_in e other = None

-- the turn of thread t in state s
unfoldable pub out_turn : Linked → Kept → ℕ → Option OutRead
out_turn p s t =
    let e : Moment = record { program = p; before = s; thread = t } in
    out_in e (turn_of (thread_of e))

-- .. and the method whose frame reads it, which is that of an event without meaning
abbrev pub out_method : Linked → Kept → ℕ → Option ℕ
out_method p s t = option_map (λ (x : OutRead). unwrap_or (top s.guest t).method 0) (out_turn p s t)

-- WHAT IS READ: the print stream, which is made where there is none yet

abbrev pub out_made : Moment → Site → ℕ → Doing → Outcome Kept
out_made e at slot d =
    let x = instance_made e (class_called e.program (codes "java/io/PrintStream")) d in
    ends_event (leaving_values e at (Ref (next_object d) ∷ (current_frame e).operands) (doing_with_guest (with_static x.state.guest slot (Ref (next_object d))) x))

abbrev pub out_read : Moment → Site → ℕ → Value → Doing → Outcome Kept
out_read e at slot (Ref o) d = ends_event (leaving_values e at (Ref o ∷ (current_frame e).operands) d)
out_read e at slot other d = out_made e at slot d

abbrev pub out_row : Moment → OutRead → Outcome Kept
out_row e x = let slot = (field_at e.program x.field).slot in out_read e x.at slot (static_at e.before.guest slot) (begins e)
