-- DEFERRED CALLS: those of the built-in methods of threads, of weak references and of their queues, and of texts. The event call
-- that does calls leaves them to the one that does monitors and threads, and to the one that does texts.
use Rattle.std.specs.Prelude.{ℕ, Bool, true, false, if◌then◌else◌, List, [], Option, None, option_and_then, option_map, Result, Ok, Err}
use Rattle.std.specs.Option.{option_map_or}
use Rattle.std.specs.Result.{result_ok}
use Rattle.et_class.specs.Descriptors.{MethodType, method_type}
use Rattle.et_code.specs.declared.instr.Instr.{Instr}
use Rattle.et_code.specs.declared.instr.CodeFault.{CodeFault}
use Rattle.et_program.specs.BuiltIns.{is_deferred, text_method_of}
use Rattle.et_program.specs.BootTexts.TextMethod.{TextMethod}
use Rattle.et_program.specs.Entries.{Linked, is_static}
use Rattle.et_program.specs.Members.{kept}
use Rattle.et_program.specs.Resolution.{resolve_class, resolve_method, select, select_special}
use Rattle.et_base.specs.declared.value.Value.{Value}
use Rattle.et_state.specs.declared.stage.Turn.{Turn}
use Rattle.et_state.specs.declared.stage.Turn.TheVariants.{Instruction}
use Rattle.et_state.specs.Threads.{turn_of}
use Rattle.et_state.specs.State.{Kept}
use Rattle.et_event.specs.declared.rows.CallKind.{CallKind}
use Rattle.et_event.specs.declared.rows.CallKind.TheVariants.{Virtual, Special, Static, Interface}
use Rattle.et_event.specs.declared.rows.CallRow.TheVariants.{Invoke}
use Rattle.et_event.specs.declared.rows.Row.{Row}
use Rattle.et_event.specs.declared.rows.Row.TheVariants.{Call}
use Rattle.et_event.specs.Calls.{arguments_of, call_fits, entry_count, fits_resolved, is_as, is_static_call, special_class}
use Rattle.et_event.specs.Frames.{first_reference}
use Rattle.et_event.specs.Moments.{Moment, begins, object_class, current_frame, thread_of}
use Rattle.et_event.specs.Sites.{Member, Site, decoded_at, site_member, names_interface, site_of}
use Rattle.et_event.specs.Table.{row_of}

-- WHICH METHOD IS SELECTED (JVMS 5.4.3.3, 5.4.3.4, 5.4.6 and 6.5 invokevirtual, invokespecial, invokeinterface), where no check
-- of the table of events refuses. An invokestatic selects none: it calls the method that was resolved.

-- by the receiver o, from the method m that was resolved in the named class
abbrev pub selected_on : Moment → Site → CallKind → List Value → ℕ → ℕ → ℕ → Option ℕ
selected_on e at Virtual arguments named m o =
    if fits_resolved e (begins e) arguments m o then result_ok (select e.program (object_class (begins e) o) m false) else None
selected_on e at Special arguments named m o =
    if fits_resolved e (begins e) arguments m o then result_ok (select_special e.program at.class (special_class e.program named) m) else None
selected_on e at Static arguments named m o = None
selected_on e at Interface arguments named m o = result_ok (select e.program (object_class (begins e) o) m true)

-- .. where m is static or not as the invoke wants it, and the receiver, the first argument, isn't null
abbrev pub selected_from : Moment → Site → CallKind → List Value → ℕ → ℕ → Option ℕ
selected_from e at kind arguments named m =
    if is_as (is_static_call kind) (is_static e.program m) then option_and_then (selected_on e at kind arguments named m) (first_reference arguments) else None

-- what is found by the class and the method that a member names
abbrev pub with_resolved : Linked → Bool → Member → (ℕ → ℕ → Option ℕ) → Option ℕ
with_resolved p by_interface named go =
    option_and_then (λ owner. option_and_then (go owner) (result_ok (resolve_method p owner by_interface named.name named.descriptor))) (result_ok (resolve_class p named.owner))

-- .. of this type, where the arguments are there
abbrev pub selected_by : Moment → Site → CallKind → Member → MethodType → Option ℕ
selected_by e at kind named type =
    if call_fits e (is_static_call kind) type
    then with_resolved e.program (names_interface at) named (selected_from e at kind (arguments_of e (entry_count (is_static_call kind) type)))
    else None

abbrev pub selected_method : Moment → Site → CallKind → Option ℕ
selected_method e at kind = option_and_then (λ named. option_and_then (selected_by e at kind named) (method_type named.descriptor)) (site_member at)

-- THE DEFERRED METHOD THAT A TURN CALLS, if it calls one

abbrev pub deferred_at : Moment → Site → Row → Option ℕ
deferred_at e at (Call (Invoke kind)) = kept (is_deferred e.program) (selected_method e at kind)
deferred_at e at other = None

abbrev pub deferred_by : Moment → Result (Instr × ℕ) CodeFault → Option ℕ
deferred_by e (Err fault) = None
deferred_by e (Ok x) = option_and_then (deferred_at e (site_of e.program (current_frame e) x)) (row_of x.0.opcode)

abbrev pub deferred_in : Moment → Turn → Option ℕ
deferred_in e Instruction = deferred_by e (decoded_at e.program (current_frame e))
deferred_in e other = None

-- the turn of thread t in state s
unfoldable pub deferred_call : Linked → Kept → ℕ → Option ℕ
deferred_call p s t =
    let e : Moment = record { program = p; before = s; thread = t } in
    deferred_in e (turn_of (thread_of e))

-- THE CALL OF A METHOD OF TEXTS THAT A TURN MAKES, if it makes one: where it stands, what is passed, and the method

pub record TextCall : Type 0 where
  pub at : Site
  pub arguments : List Value
  pub method : TextMethod

-- the entries that an invoke passes
abbrev pub passed_at : Moment → Site → CallKind → List Value
passed_at e at kind =
    option_map_or (λ (type : MethodType). arguments_of e (entry_count (is_static_call kind) type)) (option_and_then (λ (named : Member). method_type named.descriptor) (site_member at)) []

abbrev pub text_call_of : Site → List Value → Option TextMethod → Option TextCall
text_call_of at arguments method = option_map (λ m. record { at = at; arguments = arguments; method = m }) method

abbrev pub text_call_at : Moment → Site → Row → Option TextCall
text_call_at e at (Call (Invoke kind)) = option_and_then (λ m. text_call_of at (passed_at e at kind) (text_method_of e.program m)) (deferred_at e at (Call (Invoke kind)))
text_call_at e at other = None

abbrev pub text_call_by : Moment → Result (Instr × ℕ) CodeFault → Option TextCall
text_call_by e (Err fault) = None
text_call_by e (Ok x) = option_and_then (text_call_at e (site_of e.program (current_frame e) x)) (row_of x.0.opcode)

abbrev pub text_call_in : Moment → Turn → Option TextCall
text_call_in e Instruction = text_call_by e (decoded_at e.program (current_frame e))
text_call_in e other = None

-- the turn of thread t in state s
unfoldable pub text_call : Linked → Kept → ℕ → Option TextCall
text_call p s t =
    let e : Moment = record { program = p; before = s; thread = t } in
    text_call_in e (turn_of (thread_of e))
