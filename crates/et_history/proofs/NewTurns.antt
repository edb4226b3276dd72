-- What each turn of a thread makes is reached after it.
use Rattle.std.proofs.Common.{◌≡◌, ℕ, ◌+◌, ◌<◌, ◌==◌, true, false, List, [], ◌∷◌, ◌++◌, length, drop, Option, Some, None, Result, Ok, Err, refl, ◌∙◌}
use Rattle.std.specs.Prelude.{not, codes, unwrap_or, nat_lt, find, take_while}
use Rattle.std.proofs.lemmas.List.{length-set, length_push}
use Rattle.et_base.specs.declared.value.Value.{Value}
use Rattle.et_base.specs.declared.value.Value.TheVariants.{Ref}
use Rattle.et_pool.specs.Descriptors.{MethodType, method_type}
use Rattle.et_class.specs.Names.{has}
use Rattle.et_class.specs.declared.flags.TheConstants.{NATIVE}
use Rattle.et_code.specs.Bodies.{Body}
use Rattle.et_code.specs.declared.instr.Instr.{Instr}
use Rattle.et_code.specs.declared.instr.CodeFault.{CodeFault}
use Rattle.et_code.specs.declared.body.TableRow.{TableRow}
use Rattle.et_program.specs.Entries.{Linked, class_at, method_at, is_static}
use Rattle.et_program.specs.Resolution.{resolve_class, resolve_method, select, select_special}
use Rattle.et_program.specs.declared.info.MethodInfo.{MethodInfo}
use Rattle.et_heap.specs.Objects.{ObjectState, new_object, object_at, with_slot, referent_of, referent_value}
use Rattle.et_state.specs.declared.stage.Stage.{Stage}
use Rattle.et_state.specs.declared.stage.Stage.TheVariants.{Plain, Before, Clinit}
use Rattle.et_state.specs.declared.stage.Turn.{Turn}
use Rattle.et_state.specs.declared.stage.Turn.TheVariants.{Unwind, EndThread, Entry, Initialize, Instruction}
use Rattle.et_state.specs.Threads.{FrameState, ThreadState, as_entered, entered_by, rest_of, without_top, with_pending, with_top_of, in_clinit, thread_with, most_threads, turn_of}
use Rattle.et_state.specs.declared.class_state.ClassState.TheVariants.{Done, Failed}
use Rattle.et_state.specs.State.{Kept}
use Rattle.et_state.specs.Words.{thread_at}
use Rattle.et_state.specs.declared.records.Record.TheVariants as records
use Rattle.et_state.specs.Outcome.{Outcome}
use Rattle.et_program.specs.BootMethods.BuiltIn.{BuiltIn}
use Rattle.et_program.specs.BootMethods.BuiltIn.TheVariants as built
use Rattle.et_event.specs.declared.rows.CallKind.{CallKind}
use Rattle.et_event.specs.declared.rows.CallKind.TheVariants.{Virtual, Special, Static, Interface}
use Rattle.et_event.specs.declared.rows.CallRow.TheVariants as calls
use Rattle.et_event.specs.PoolOperands.Operand.{Operand}
use Rattle.et_event.specs.declared.rows.Row.{Row}
use Rattle.et_event.specs.declared.rows.Row.TheVariants as row
use Rattle.et_event.specs.declared.errors.GuestError.TheVariants as errors
use Rattle.et_program.specs.BuiltIns.{built_in_of}
use Rattle.et_event.specs.BuiltIns.{argument, answering, reference_in, with_referent_of, starts_thread, with_thread_for, has_thread_ended, is_fit_for, row_done, done_by, built_in_event, with_reference_made, with_first_taken}
use Rattle.et_event.specs.Calls.{is_static_call, call_fits, with_type, with_method, taking, enters_method, fits_resolved, is_of_owner, special_class, dispatched, is_as, arguments_of, entry_count, invoke, entering_frame, entry_arguments, enters_first, enters_run, entry_call, with_returned, class_done_by, frame_returned, returned_by, return}
use Rattle.et_event.specs.Checks.{entries_of}
use Rattle.et_event.specs.Errors.{class_called, error_class}
use Rattle.et_event.specs.Event.{by_row, by_instruction, initializes, does_turn, event}
use Rattle.et_event.specs.Frames.{first_reference, receiver_of, frame_entered, method_frame, by_code, enters, frames_after_return}
use Rattle.et_event.specs.Initialization.{with_state, prepared, is_ready, enters_clinit, step_by, initialization_step}
use Rattle.et_event.specs.Operands.{may_return}
use Rattle.et_event.specs.Moments.{Moment, Doing, object_class, current_frame, thread_of, begins, told, with_frame, with_thread_state, next_object, instance_made, slot_written, pending_now, ill_typed, ends_event, goes, throws}
use Rattle.et_event.specs.Monitors.{Lock, monitor_of, lock_for, lock_in, may_enter_some, entered_some, owns, owns_some, left, left_some, left_once}
use Rattle.et_event.specs.Plain.{frame_after}
use Rattle.et_event.specs.Sites.{Site, Member, site_member, names_interface, site_of, decoded_at, pool_index, constant_at, running_method, present_body}
use Rattle.et_event.specs.Table.{row_of}
use Rattle.et_event.specs.Throw.{caught, handled, handler_of, left_if_owned, dropped, is_error, replaced, failed, unwound, unwound_clinit, by_handler, unwinds, unwinding_step}
use Rattle.et_history.specs.Reaching.{AreReachedFrom, ReachesNew}
use Rattle.et_history.proofs.NewStrings.{OfStrings, first, thread_strings, top_strings, state_strings, started_strings, slot_strings, referent_strings, monitor_strings, prepared_strings, reference_strings, first_taken_strings}
use Rattle.et_history.proofs.NewWays.{New, reached_beyond, one_reached, pending_reached, goes_new, ends_reached, ends_new, throws_new, unless_ill_typed, unless_thrown, where_resolved, where_not_null, unless_waiting, where_frame_fits, initialized_new, each_value}
use Rattle.et_history.proofs.NewRows.{Starts, on_top, heap_new, throw_new, end_new, monitor_new, on_frame_new, constant_new, divides_new}
use Rattle.et_heap.specs.Queues.{first_value}
use Rattle.et_history.proofs.soundness.Outcomes.{if_case}

-- A METHOD IS ENTERED

entered_strings : (e : Moment) (lock : Option Lock) (d : Doing) → OfStrings e d.state → OfStrings e (entered_some e lock d).state
entered_strings e None d h = h
entered_strings e (Some lock) d h = monitor_strings e lock (record { owner = Some e.thread; count = (monitor_of d lock).count + 1 }) d h

-- what takes the arguments from where they stand
abbrev Leaves : Moment → (Doing → Doing) → Type 0
Leaves e leave = (x : Doing) → OfStrings e x.state → OfStrings e (leave x).state

code_new : (e : Moment) (d : Doing) (leave : Doing → Doing) (m : ℕ) (arguments : List Value) (built_in : Outcome Kept) (code : Option Body) → OfStrings e d.state → Leaves e leave → New e built_in → New e (by_code e d leave m arguments built_in code)
code_new e d leave m arguments built_in (Some body) h step other =
    let lock : Option Lock = lock_for (method_at e.program m) (receiver_of e.program m arguments) in
    let x : Doing = entered_some e lock (leave d) in
    let t : ThreadState = entered_by (method_frame e.program m body arguments) (thread_at x.state.guest e.thread) in
    unless_waiting e (may_enter_some e d lock) _
    (where_frame_fits e d _ h (ends_new e (frame_entered e m body arguments (leave d)) (thread_strings e t x (entered_strings e lock (leave d) (step d h)))))
code_new e d leave m arguments built_in None h step other = unless_thrown e d errors.UnsatisfiedLinkError (not (has (method_at e.program m).flags NATIVE)) built_in h other

enters_new : (e : Moment) (d : Doing) (leave : Doing → Doing) (m : ℕ) (arguments : List Value) (built_in : Outcome Kept) → OfStrings e d.state → Leaves e leave → New e built_in → New e (enters e d leave m arguments built_in)
enters_new e d leave m arguments built_in h step other = code_new e d leave m arguments built_in (method_at e.program m).code h step other

-- BUILT-IN METHODS

answering_strings : (e : Moment) (at : Site) (arguments values : List Value) (d : Doing) → OfStrings e d.state → OfStrings e (answering e at arguments values d).state
answering_strings e at arguments values d h = on_top e at.next (values ++ drop (length arguments) (current_frame e).operands) d h

answered_new : (e : Moment) (at : Site) (arguments values : List Value) (d : Doing) → OfStrings e d.state → New e (goes (answering e at arguments values d))
answered_new e at arguments values d h = goes_new e (answering e at arguments values d) (answering_strings e at arguments values d h)

starts_new : (e : Moment) (d : Doing) (o : ℕ) (go : Outcome Kept) (k : Option ℕ) → OfStrings e d.state → New e go → New e (starts_thread e d o go k)
starts_new e d o go (Some k) h g = throws_new e errors.IllegalThreadStateException d h
starts_new e d o go None h g = unless_thrown e d errors.OutOfMemoryError (nat_lt (length d.state.guest.threads) most_threads) go h g

row_new : (e : Moment) (at : Site) (d : Doing) (arguments : List Value) (o : ℕ) (b : BuiltIn) → OfStrings e d.state → New e (row_done e at d arguments o b)
row_new e at d arguments o built.Nothing h = answered_new e at arguments [] d h
row_new e at d arguments o built.SetMessage h =
    let x : Doing = answering e at arguments [] d in
    goes_new e (slot_written e o 0 (argument arguments 1) x) (slot_strings e o 0 (argument arguments 1) x (answering_strings e at arguments [] d h))
row_new e at d arguments o built.SetMessageAndCause h =
    let x : Doing = answering e at arguments [] d in
    let y : Doing = slot_written e o 0 (argument arguments 1) x in
    goes_new e (slot_written e o 1 (argument arguments 2) y) (slot_strings e o 1 (argument arguments 2) y (slot_strings e o 0 (argument arguments 1) x (answering_strings e at arguments [] d h)))
row_new e at d arguments o built.GetMessage h = answered_new e at arguments (reference_in d o 0 ∷ []) d h
row_new e at d arguments o built.GetCause h = answered_new e at arguments (reference_in d o 1 ∷ []) d h
row_new e at d arguments o built.SetTarget h =
    let x : Doing = answering e at arguments [] d in
    goes_new e (slot_written e o 0 (argument arguments 1) x) (slot_strings e o 0 (argument arguments 1) x (answering_strings e at arguments [] d h))
row_new e at d arguments o built.Start h =
    let x : Doing = answering e at arguments [] d in
    starts_new e d o (goes (with_thread_for o x)) (thread_with d.state.guest.threads o) h (goes_new e (with_thread_for o x) (started_strings e o x (answering_strings e at arguments [] d h)))
row_new e at d arguments o built.Join h = unless_waiting e (has_thread_ended d (thread_with d.state.guest.threads o)) _ (answered_new e at arguments [] d h)
row_new e at d arguments o built.SetReferent h =
    let x : Doing = answering e at arguments [] d in
    goes_new e (with_reference_made o (referent_of (argument arguments 1)) None x) (reference_strings e o (referent_of (argument arguments 1)) None x (answering_strings e at arguments [] d h))
row_new e at d arguments o built.SetReferentAndQueue h =
    let x : Doing = answering e at arguments [] d in
    goes_new e (with_reference_made o (referent_of (argument arguments 1)) (referent_of (argument arguments 2)) x)
    (reference_strings e o (referent_of (argument arguments 1)) (referent_of (argument arguments 2)) x (answering_strings e at arguments [] d h))
row_new e at d arguments o built.Poll h =
    let first : List Value = first_value (object_at d.state.heap o).waiting ∷ [] in
    let x : Doing = answering e at arguments first d in
    goes_new e (with_first_taken o x) (first_taken_strings e o x (answering_strings e at arguments first d h))
row_new e at d arguments o built.GetReferent h = answered_new e at arguments (referent_value (object_at d.state.heap o).referent ∷ []) d h
row_new e at d arguments o built.ClearReferent h =
    let x : Doing = answering e at arguments [] d in
    goes_new e (with_referent_of o None x) (referent_strings e o None x (answering_strings e at arguments [] d h))

done_new : (e : Moment) (at : Site) (d : Doing) (arguments : List Value) (r : Option ℕ) (b : Option BuiltIn) → OfStrings e d.state → New e (done_by e at d arguments r b)
done_new e at d arguments (Some o) (Some b) h = unless_ill_typed e (is_fit_for e d o b) (row_done e at d arguments o b) (row_new e at d arguments o b h)
done_new e at d arguments (Some o) None h = throws_new e errors.AbstractMethodError d h
done_new e at d arguments None (Some b) h = throws_new e errors.AbstractMethodError d h
done_new e at d arguments None None h = throws_new e errors.AbstractMethodError d h

-- INVOKES

method_new : (e : Moment) (at : Site) (d : Doing) (arguments : List Value) (m : ℕ) → OfStrings e d.state → New e (enters_method e at d arguments m)
method_new e at d arguments m h =
    let x : MethodInfo = method_at e.program m in
    enters_new e d (taking e (length arguments)) m arguments (built_in_event e at d arguments x) h (λ u g. on_top e (current_frame e).pc (drop (length arguments) (current_frame e).operands) u g)
    (done_new e at d arguments (first_reference arguments) (built_in_of x) h)

dispatched_new : (e : Moment) (at : Site) (kind : CallKind) (arguments : List Value) (named m : ℕ) → Starts e → New e (dispatched e at kind arguments named m)
dispatched_new e at Static arguments named m here = initialized_new e (begins e) (method_at e.program m).class _ (first e here) (λ d h. method_new e at d arguments m h)
dispatched_new e at Virtual arguments named m here =
    where_not_null e (begins e) (first_reference arguments) _ (first e here) (λ o.
    unless_ill_typed e (fits_resolved e (begins e) arguments m o) _
    (where_resolved e (begins e) (select e.program (object_class (begins e) o) m false) _ (first e here) (λ k. method_new e at (begins e) arguments k (first e here))))
dispatched_new e at Special arguments named m here =
    where_not_null e (begins e) (first_reference arguments) _ (first e here) (λ o.
    unless_ill_typed e (fits_resolved e (begins e) arguments m o) _
    (where_resolved e (begins e) (select_special e.program at.class (special_class e.program named) m) _ (first e here) (λ k. method_new e at (begins e) arguments k (first e here))))
dispatched_new e at Interface arguments named m here =
    where_not_null e (begins e) (first_reference arguments) _ (first e here) (λ o.
    where_resolved e (begins e) (select e.program (object_class (begins e) o) m true) _ (first e here) (λ k. method_new e at (begins e) arguments k (first e here)))

type_new : (e : Moment) (t : Option MethodType) (go : MethodType → Outcome Kept) → ((x : MethodType) → New e (go x)) → New e (with_type e t go)
type_new e None go h = tt
type_new e (Some x) go h = h x

named_new : (e : Moment) (o : Option Member) (go : Member → MethodType → Outcome Kept) → ((m : Member) (x : MethodType) → New e (go m x)) → New e (with_method e o go)
named_new e None go h = tt
named_new e (Some m) go h = type_new e (method_type m.descriptor) (go m) (h m)

invoke_new : (e : Moment) (at : Site) (kind : CallKind) → Starts e → New e (invoke e at kind)
invoke_new e at kind here =
    named_new e (site_member at) _ (λ m type.
    unless_ill_typed e (call_fits e (is_static_call kind) type) _ (
    where_resolved e (begins e) (resolve_class e.program m.owner) _ (first e here) (λ owner.
    where_resolved e (begins e) (resolve_method e.program owner (names_interface at) m.name m.descriptor) _ (first e here) (λ method.
    unless_thrown e (begins e) errors.IncompatibleClassChangeError (is_as (is_static_call kind) (is_static e.program method)) _ (first e here)
    (dispatched_new e at kind (arguments_of e (entry_count (is_static_call kind) type)) owner method here)))))

-- ENTRY

first_new : (e : Moment) (d : Doing) (arguments : List Value) (m : ℕ) → OfStrings e d.state → New e (enters_first e d arguments m)
first_new e d arguments m h =
    enters_new e d (entering_frame e) m arguments (throws e errors.AbstractMethodError d) h (λ u g. thread_strings e (as_entered (thread_at u.state.guest e.thread)) u g) (throws_new e errors.AbstractMethodError d h)

run_new : (e : Moment) (o : Option ℕ) → Starts e → New e (enters_run e o)
run_new e None here = tt
run_new e (Some o) here =
    let thread : ℕ = class_called e.program (codes "java/lang/Thread") in
    where_resolved e (begins e) (resolve_method e.program thread false (codes "run") (codes "()V")) _ (first e here) (λ m.
    unless_ill_typed e (is_of_owner e (begins e) m o) _
    (where_resolved e (begins e) (select e.program (object_class (begins e) o) m false) _ (first e here) (λ k. first_new e (begins e) (Ref o ∷ []) k (first e here))))

entry_new : (e : Moment) → Starts e → New e (entry_call e)
entry_new e here =
    if_case (New e) (e.thread == 0) _ _
    (initialized_new e (begins e) (method_at e.program e.program.main).class _ (first e here) (λ d h. first_new e d (entry_arguments (thread_of e).entry) e.program.main h))
    (run_new e (thread_of e).object here)

-- RETURNS

left_strings : (e : Moment) (lock : Option Lock) (d : Doing) → OfStrings e d.state → OfStrings e (left_some lock d).state
left_strings e None d h = h
left_strings e (Some lock) d h = monitor_strings e lock (left_once (monitor_of d lock)) d h

stage_strings : (e : Moment) (stage : Stage) (d : Doing) → OfStrings e d.state → OfStrings e (class_done_by stage d).state
stage_strings e Plain d h = h
stage_strings e (Before c) d h = h
stage_strings e (Clinit c) d h = state_strings e c Done d h

abbrev own_lock : Moment → Option Lock
own_lock e = lock_in (current_frame e).stage (running_method e.program (current_frame e)) (current_frame e).lock

returned_new : (e : Moment) (values : List Value) → Starts e → New e (goes (frame_returned e values (begins e)))
returned_new e values here =
    let stage : Stage = (current_frame e).stage in
    let x : Doing = class_done_by stage (left_some (own_lock e) (begins e)) in
    let t : ThreadState = record (thread_of e) { frames = frames_after_return e.program stage values (rest_of (thread_of e).frames) } in
    goes_new e (frame_returned e values (begins e))
    (thread_strings e t x (stage_strings e stage (left_some (own_lock e) (begins e)) (left_strings e (own_lock e) (begins e) (first e here))))

with_returned_new : (e : Moment) (kind : Option Operand) (ops : List Value) (go : List Value → Outcome Kept) → ((vs : List Value) → New e (go vs)) → New e (with_returned kind (ill_typed e) ops go)
with_returned_new e None ops go h = h []
with_returned_new e (Some kind) ops go h = each_value e (ill_typed e) tt (Some kind) ops (λ v below. go (entries_of v)) (λ v below. h (entries_of v))

return_new : (e : Moment) (kind : Option Operand) → Starts e → New e (return e kind)
return_new e kind here =
    unless_ill_typed e (may_return kind (returned_by e)) _ (
    with_returned_new e kind (current_frame e).operands _ (λ values.
    unless_thrown e (begins e) errors.IllegalMonitorStateException (owns_some e (begins e) (own_lock e)) _ (first e here) (returned_new e values here)))

-- UNWINDING

dropped_strings : (e : Moment) (d : Doing) → OfStrings e d.state → OfStrings e (dropped e d).state
dropped_strings e d h = thread_strings e (without_top (thread_at d.state.guest e.thread)) d h

owned_strings : (e : Moment) (lock : Option Lock) (d : Doing) → OfStrings e d.state → OfStrings e (left_if_owned e lock d).state
owned_strings e None d h = h
owned_strings e (Some lock) d h = if_case (λ (x : Doing). OfStrings e x.state) (owns e d lock) (left lock d) d (monitor_strings e lock (left_once (monitor_of d lock)) d h) h

caught_new : (e : Moment) (o handler : ℕ) → Starts e → New e (caught e o handler)
caught_new e o handler here =
    let t : ThreadState = with_pending None (with_top_of (thread_of e) (handled (current_frame e) handler o)) in
    unless_ill_typed e (nat_lt 0 (current_frame e).room) _ (goes_new e (with_thread_state e t (begins e)) (thread_strings e t (begins e) (first e here)))

handler_new : (e : Moment) (o : ℕ) (other : Outcome Kept) (r : Option TableRow) → Starts e → New e other → New e (by_handler e o other r)
handler_new e o other (Some r) here h = caught_new e o r.handler here
handler_new e o other None here h = h

unwound_new : (e : Moment) (o : ℕ) → Starts e → New e (unwound e o)
unwound_new e o here =
    let x : Doing = left_if_owned e (own_lock e) (begins e) in
    let f : FrameState = current_frame e in
    goes_new e (told (records.Unwind (begins e).state.guest.clock e.thread (unwrap_or f.method 0) o) (dropped e x)) (dropped_strings e x (owned_strings e (own_lock e) (begins e) (first e here)))

-- the exception that takes the place of another is pending
replaced_reached : (e : Moment) (o : ℕ) (d : Doing) → OfStrings e d.state → AreReachedFrom (length e.before.heap) (replaced e o d).state
replaced_reached e o d h =
    let class : ℕ = error_class e.program errors.ExceptionInInitializerError in
    let object : ObjectState = new_object class 0 (class_at e.program class).info.slots in
    let error : ℕ = next_object d in
    let x : Doing = instance_made e class d in
    let y : Doing = slot_written e error 1 (Ref o) x in
    let z : Doing = pending_now e error y in
    let len : length z.state.heap ≡ length d.state.heap + 1 =
    length-set x.state.heap error (Some (with_slot 1 (Ref o) (object_at x.state.heap error))) ∙ length_push d.state.heap (Some object) in
    reached_beyond e d.state z.state h refl (one_reached error z.state len (pending_reached e error y h.thread))

failed_new : (e : Moment) (c o : ℕ) (d : Doing) → OfStrings e d.state → New e (ends_event (failed e c o d))
failed_new e c o d h =
    let x : Doing = with_state c Failed d in
    let there : OfStrings e x.state = state_strings e c Failed d h in
    if_case (λ (y : Doing). New e (ends_event y)) (is_error e o) x (replaced e o x) (ends_new e x there) (ends_reached e (replaced e o x) (replaced_reached e o x there))

unwinds_new : (e : Moment) (o : ℕ) (stage : Stage) → Starts e → New e (unwinds e o stage)
unwinds_new e o Plain here = handler_new e o (unwound e o) (handler_of e.program (current_frame e) (object_class (begins e) o)) here (unwound_new e o here)
unwinds_new e o (Before c) here = failed_new e c o (dropped e (begins e)) (dropped_strings e (begins e) (first e here))
unwinds_new e o (Clinit c) here =
    handler_new e o (unwound_clinit e c o) (handler_of e.program (current_frame e) (object_class (begins e) o)) here
    (failed_new e c o (told (records.Unwind (begins e).state.guest.clock e.thread (unwrap_or (current_frame e).method 0) o) (dropped e (begins e))) (dropped_strings e (begins e) (first e here)))

unwinding_new : (e : Moment) (o : Option ℕ) → Starts e → New e (unwinding_step e o)
unwinding_new e None here = tt
unwinding_new e (Some o) here = unwinds_new e o (current_frame e).stage here

-- A STEP OF AN INITIALIZER

clinit_new : (e : Moment) (c : ℕ) (m : Option ℕ) (d : Doing) → OfStrings e d.state → New e (enters_clinit e c m d)
clinit_new e c None d h = let x : Doing = with_state c Done d in ends_new e (dropped e x) (dropped_strings e x (state_strings e c Done d h))
clinit_new e c (Some m) d h =
    let body : Body = present_body (method_at e.program m).code in
    let f : FrameState = in_clinit m body.max_stack body.max_locals (current_frame e) in
    ends_new e (told (records.Enter d.state.guest.clock e.thread m 0) (with_frame e f d)) (top_strings e f d h)

blocker_new : (e : Moment) (c : ℕ) (d : Doing) (blocker : Option ℕ) → OfStrings e d.state → New e (step_by e c d blocker)
blocker_new e c d (Some k) h = initialized_new e d k ends_event h (λ x g. ends_new e x g)
blocker_new e c d None h = clinit_new e c (class_at e.program c).info.clinit d h

step_new : (e : Moment) (c : ℕ) → Starts e → New e (initialization_step e c)
step_new e c here =
    let classes : List ℕ = (class_at e.program c).info.prerequisites in
    let ready : List ℕ = take_while (is_ready e (begins e)) classes in
    blocker_new e c (prepared e ready (begins e)) (find (λ k. not (is_ready e (begins e) k)) classes) (prepared_strings e ready (begins e) (first e here))

-- THE TURNS

by_row_new : (e : Moment) (at : Site) (r : Option Row) → Starts e → New e (by_row e at r)
by_row_new e at None here = tt
by_row_new e at (Some (row.Frame r)) here = on_frame_new e (frame_after at r (current_frame e)) here
by_row_new e at (Some row.PoolConstant) here = constant_new e at (constant_at at.pool (pool_index at)) here
by_row_new e at (Some (row.Divide n o)) here = divides_new e at n o here
by_row_new e at (Some (row.Heap r)) here = heap_new e at r here
by_row_new e at (Some (row.Call (calls.Invoke kind))) here = invoke_new e at kind here
by_row_new e at (Some (row.Call (calls.Return kind))) here = return_new e kind here
by_row_new e at (Some row.Throw) here = throw_new e here
by_row_new e at (Some (row.Monitor r)) here = monitor_new e at r here

instruction_new : (e : Moment) (x : Result (Instr × ℕ) CodeFault) → Starts e → New e (by_instruction e x)
instruction_new e (Err fault) here = tt
instruction_new e (Ok x) here = by_row_new e (site_of e.program (current_frame e) x) (row_of x.0.opcode) here

initializes_new : (e : Moment) (stage : Stage) → Starts e → New e (initializes e stage)
initializes_new e Plain here = tt
initializes_new e (Before c) here = step_new e c here
initializes_new e (Clinit c) here = tt

turn_new : (e : Moment) (turn : Turn) → Starts e → New e (does_turn e turn)
turn_new e Unwind here = unwinding_new e (thread_of e).pending here
turn_new e EndThread here = end_new e here
turn_new e Entry here = entry_new e here
turn_new e Initialize here = initializes_new e (current_frame e).stage here
turn_new e Instruction here = instruction_new e (decoded_at e.program (current_frame e)) here

pub event_reaches : (p : Linked) (s : Kept) (t : ℕ) → t < length s.guest.threads → ReachesNew s (event p s t)
unfolding event
event_reaches p s t lt =
    let e : Moment = record { program = p; before = s; thread = t } in
    turn_new e (turn_of (thread_of e)) lt
