-- Calls, entries, returns, unwinding, and the steps of an initializer.
use Rattle.et_base.specs.declared.value.Value.{Value}
use Rattle.et_base.specs.declared.value.Value.TheVariants.{Ref}
use Rattle.et_class.specs.Names.{has}
use Rattle.et_class.specs.declared.flags.TheConstants.{NATIVE}
use Rattle.et_code.specs.Bodies.{Body}
use Rattle.et_code.specs.declared.body.TableRow.{TableRow}
use Rattle.et_event.specs.BuiltIns.{answering, is_object_of_class, argument, built_in_event, built_in_row, done_by, has_thread_ended, reference_in, starts_thread, with_first_taken, with_reference_made, with_referent_of, with_thread_for}
use Rattle.et_event.specs.Calls.{are_arguments, arguments_of, call_event, call_fits, dispatched, entering_frame, enters_first, enters_method, enters_run, entry_arguments, entry_call, entry_count, fits_resolved, frame_returned, invoke, is_as, is_of_owner, is_static_call, return, returned_by, special_class, taking, with_method, with_returned, with_type}
use Rattle.et_event.specs.Checks.{entries_of, ill_typed_unless}
use Rattle.et_event.specs.Errors.{class_called}
use Rattle.et_event.specs.Frames.{by_code, enters, first_reference, frame_entered, receiver_of}
use Rattle.et_event.specs.Initialization.{enters_clinit, initialization_step, is_ready, prepared, step_by, with_state}
use Rattle.et_event.specs.Moments.{Doing, Moment, begins, current_frame, ends_event, goes, ill_typed, object_class, slot_written, thread_of, throws, told, with_frame, with_thread_state}
use Rattle.et_event.specs.Monitors.{Lock, OfClass, OfObject, lock_for, lock_in, may_enter_some, owns_some}
use Rattle.et_event.specs.Operands.{may_return, returned_width}
use Rattle.et_event.specs.Programs.{KeepsFree, KeepsTarget, is_initializing}
use Rattle.et_event.specs.PoolOperands.Operand.{Operand}
use Rattle.et_event.specs.Sites.{Member, Site, names_interface, present_body, running_method, site_member}
use Rattle.et_event.specs.Sound.{IsSoundObject, IsStaged, slots_by}
use Rattle.et_event.specs.Throw.{by_handler, caught, dropped, failed, handled, handler_of, is_error, left_if_owned, replaced, unwinding_step, unwinds, unwound, unwound_clinit}
use Rattle.et_event.specs.declared.rows.CallKind.{CallKind}
use Rattle.et_event.specs.declared.rows.CallKind.TheVariants.{Interface, Special, Static, Virtual}
use Rattle.et_event.specs.declared.rows.CallRow.{CallRow}
use Rattle.et_heap.specs.Objects.{IsHeld, ObjectState, at, object_at, referent_of, referent_value, slot_of}
use Rattle.et_heap.specs.Queues.{first_value}
use Rattle.et_pool.specs.Descriptors.{MethodType, method_type}
use Rattle.et_program.specs.BootMethods.BuiltIn.{BuiltIn}
use Rattle.et_program.specs.BuiltIns.{built_in_of}
use Rattle.et_program.specs.Entries.{class_at, is_static, method_at}
use Rattle.et_program.specs.Members.{is_subclass}
use Rattle.et_program.specs.Resolution.{resolve_class, resolve_method, select, select_special}
use Rattle.et_program.specs.declared.info.Element.{Element}
use Rattle.et_program.specs.declared.info.Element.TheVariants.{NoArray}
use Rattle.et_program.specs.declared.info.MethodInfo.{MethodInfo}
use Rattle.et_history.proofs.soundness.Invoking.{as_wanted}
use Rattle.et_history.proofs.soundness.Resolving.{resolved_method, selected_method, selected_special}
use Rattle.et_history.specs.soundness.Methods.{IsInstanceMethod, IsMethod}
use Rattle.et_history.proofs.soundness.Outcomes.{if_case}
use Rattle.et_state.specs.Outcome.{Outcome}
use Rattle.et_state.specs.State.{Kept}
use Rattle.et_state.specs.Threads.{FrameState, in_clinit, most_threads, thread_with, with_pending, with_top_of}
use Rattle.et_state.specs.declared.class_state.ClassState.TheVariants.{Done, Failed}
use Rattle.et_state.specs.declared.records.Record.TheVariants.{Enter, Unwind}
use Rattle.et_state.specs.declared.stage.Stage.{Stage}
use Rattle.et_state.specs.declared.stage.Stage.TheVariants.{Before, Clinit, Plain}
use Rattle.et_history.proofs.steps.Arguments.{IsPassed, cause_references, message_reference, target_reference}
use Rattle.et_history.proofs.steps.Recording.{slot_steady}
use Rattle.et_history.proofs.steps.Heaps.{first_waiting_fine, referent_fine, slots_fine}
use Rattle.et_graph.specs.Graph.{IsReached}
use Rattle.et_state.specs.Roots.{graph_of}
use Rattle.et_history.proofs.steps.AtHand.{near, near_held, near_reached, operands_near}
use Rattle.et_history.proofs.steps.Held.{IsInMethod, Ready, entry_fine, first_fine, frame_fine, lock_there, own_there, receiver_fine, reference_fine, thread_fine}
use Rattle.et_history.proofs.steps.Rows.{later_fine, object_sound, on_top, operands_fine}
use Rattle.et_history.proofs.steps.Taken.{any_value, fine_entries, fine_read, fine_value}
use Rattle.et_history.proofs.steps.Values.{fine_at, fine_grows, fines_append, fines_drop, fines_reverse, fines_take, fines_unset}
use Rattle.et_history.proofs.steps.Ways.{end_leads, ends_lead, initialized_leads, prepared_comes, throws_lead, unless_ill_typed, unless_thrown, unless_waiting, where_frame_fits, where_not_null, where_resolved}
use Rattle.et_history.specs.steps.Steps.{AllThere, Begins, Catches, ClassBecomes, Comes, CountsEntered, Drops, Ended, EntersClinit, EntersCode, IsFramed, IsMethodOf, IsReference, IsUnder, Leads, Level, MayWrite, Plainly, Polls, Returns, SetsQueue, SetsReferent, Shifted, Starts, StringsAlone, Unwinds, UnwindsClinit, WithCause, WritesSlot, own_lock}
use Rattle.et_history.specs.steps.Values.{Fine, FineFrame, FineSome, FineThread, Fines}
use Rattle.std.proofs.Common.{List, None, Option, Some, [], ap, arith, drop, false, inl, length, refl, sym, take, true, ℕ, ◌++◌, ◌+◌, ◌-◌, ◌<◌, ◌==◌, ◌∙◌, ◌∷◌, ◌≡◌, ◌≤◌}
use Rattle.std.proofs.lemmas.Bool.{and_parts, not-true, true≢false}
use Rattle.std.specs.Str.{bytes_eq}
use Rattle.std.specs.Prelude.{IfSome, codes, find, nat_le, nat_lt, not, take_while, unwrap_or}
use Rattle.et_event.specs.declared.rows.CallRow.TheVariants as calls
use Rattle.et_event.specs.declared.errors.GuestError.TheVariants as errors
use Rattle.et_program.specs.BootMethods.BuiltIn.TheVariants as built
use Rattle.et_event.specs.PoolOperands.Operand.TheVariants as operand

is_method : (e : Moment) (ready : Ready e) (m : ℕ) → m < length e.program.methods → IsMethodOf e.program m
is_method e ready m lt = record { method = lt; class = ready.may.owners m lt }

-- the method of a frame that runs one is of the program
pub frame_method : (e : Moment) (ready : Ready e) (f : FrameState) (stage : Stage) (method : Option ℕ) → IsStaged e.program f stage method → IsInMethod stage → IsMethodOf e.program (unwrap_or method 0)
frame_method e ready f Plain (Some m) h runs = is_method e ready m h.0.method
frame_method e ready f Plain None h runs = absurd h
frame_method e ready f (Before c) method h runs = absurd runs
frame_method e ready f (Clinit c) (Some m) h runs = is_method e ready m h.1.method
frame_method e ready f (Clinit c) None h runs = absurd h

-- the call names no <clinit>
abbrev pub NamesNoInitializer : Site → Type 0
NamesNoInitializer at = (m : Member) → site_member at ≡ Some m → bytes_eq m.name (codes "<clinit>") ≡ false

module _ (e : Moment) (ready : Ready e) where
  -- A METHOD IS ENTERED

  -- what takes the arguments from where they stand
  record LeavesArguments (leave : Doing → Doing) : Type 0 where
    comes : (x : Doing) → Comes e StringsAlone Level x → Comes e StringsAlone Level (leave x)
    -- .. and no monitor
    may : (x : Doing) (lock : Option Lock) → may_enter_some e (leave x) lock ≡ may_enter_some e x lock

  -- what a method does that has no code and is not native
  abbrev LeadsBuiltIn : ℕ → Outcome Kept → Type 0
  LeadsBuiltIn m built_in = (method_at e.program m).code ≡ None → has (method_at e.program m).flags NATIVE ≡ false → Leads e built_in

  code_leads : (d : Doing) (leave : Doing → Doing) (m : ℕ) (arguments : List Value) (built_in : Outcome Kept) (code : Option Body) → (method_at e.program m).code ≡ code → m < length e.program.methods → Fines e.before.heap arguments → Comes e StringsAlone Level d → LeavesArguments leave
      → LeadsBuiltIn m built_in → Leads e (by_code e d leave m arguments built_in code)
  code_leads d leave m arguments built_in (Some body) same lt f h step other =
      let receiver : Option ℕ = receiver_of e.program m arguments in
      let has : AllThere e (lock_for (method_at e.program m) receiver) = lock_there e ready m receiver (receiver_fine e.before.heap e.program m arguments f) in
      let lock : Option Lock = lock_for (method_at e.program m) receiver in
      unless_waiting e ready (may_enter_some e d lock) _ (λ may.
      where_frame_fits e ready d _ h (end_leads e ready Shifted (frame_entered e m body arguments (leave d)) (EntersCode m body arguments (leave d) (step.comes d h) (is_method e ready m lt) f has (step.may d lock ∙ may))))
  code_leads d leave m arguments built_in None same lt f h step other =
      unless_thrown e ready d errors.UnsatisfiedLinkError (not (has (method_at e.program m).flags NATIVE)) built_in h (λ own. other same (not-true (has (method_at e.program m).flags NATIVE) own))

  enters_leads : (d : Doing) (leave : Doing → Doing) (m : ℕ) (arguments : List Value) (built_in : Outcome Kept) → m < length e.program.methods → Fines e.before.heap arguments → Comes e StringsAlone Level d → LeavesArguments leave → LeadsBuiltIn m built_in
      → Leads e (enters e d leave m arguments built_in)
  enters_leads d leave m arguments built_in lt f h step other = code_leads d leave m arguments built_in (method_at e.program m).code refl lt f h step other

  -- ENTRY

  entering_may : (x : Doing) (lock : Option Lock) → may_enter_some e (entering_frame e x) lock ≡ may_enter_some e x lock
  entering_may x None = refl
  entering_may x (Some (OfObject o)) = refl
  entering_may x (Some (OfClass c)) = refl

  entering : LeavesArguments (entering_frame e)
  entering = record { comes = λ x g. CountsEntered x g; may = entering_may }

  first_leads : (d : Doing) (arguments : List Value) (m : ℕ) → m < length e.program.methods → Fines e.before.heap arguments → Comes e StringsAlone Level d → Leads e (enters_first e d arguments m)
  first_leads d arguments m lt f h =
      enters_leads d (entering_frame e) m arguments (throws e errors.AbstractMethodError d) lt f h entering (λ none native. throws_lead e ready errors.AbstractMethodError d h)

  run_leads : (o : Option ℕ) → FineSome e.before.heap o → Leads e (enters_run e o)
  run_leads None held = tt
  run_leads (Some o) held =
      let thread : ℕ = class_called e.program (codes "java/lang/Thread") in
      where_resolved e ready (begins e) (resolve_method e.program thread false (codes "run") (codes "()V")) _ Begins (λ m is.
      unless_ill_typed e ready (is_of_owner e (begins e) m o) _ (λ own.
      where_resolved e ready (begins e) (select e.program (object_class (begins e) o) m false) _ Begins (λ k found.
      first_leads (begins e) (Ref o ∷ []) k (selected_method e.program (object_class (begins e) o) m false k (resolved_method e.program thread false (codes "run") (codes "()V") m is).within (ready.may.run m is) found).method.within (held, tt) Begins)))

  pub entry_leads : Leads e (entry_call e)
  entry_leads =
      let was : FineThread e.before.heap (thread_of e) = thread_fine e ready in
      if_case (Leads e) (e.thread == 0) _ _
      (initialized_leads e ready (begins e) (method_at e.program e.program.main).class _ Begins (λ d h.
      first_leads d (entry_arguments (thread_of e).entry) e.program.main ready.may.methods.main (entry_fine e.before.heap (thread_of e).entry (was.entry ready.knows.thread.unended)) h))
      (run_leads (thread_of e).object (was.object ready.knows.thread.unended))

module _ (e : Moment) (ready : Ready e) (framed : IsFramed e) where
  -- BUILT-IN METHODS

  pub answering_comes : (at : Site) (arguments values : List Value) (d : Doing) → Comes e StringsAlone Level d → (IsUnder e d.state → Fines d.state.heap values) → Comes e StringsAlone Level (answering e at arguments values d)
  answering_comes at arguments values d h f =
      on_top e ready framed at.next (values ++ drop (length arguments) (current_frame e).operands) d h (λ u.
      fines_append d.state.heap values (drop (length arguments) (current_frame e).operands) (f u) (fines_drop d.state.heap (length arguments) (current_frame e).operands (later_fine e ready framed d.state (current_frame e).operands u (operands_fine e ready framed))))

  slots_are : (o count : ℕ) → IsHeld e.before.heap o → (class_at e.program (object_at e.before.heap o).class).info.element ≡ NoArray → count ≤ (class_at e.program (object_at e.before.heap o).class).info.slots → count ≤ length (object_at e.before.heap o).slots
  slots_are o count held bare room =
      let x : ObjectState = object_at e.before.heap o in
      let many : length x.slots ≡ (class_at e.program x.class).info.slots = (object_sound e ready framed o held).slots ∙ ap (λ (el : Element). slots_by el (class_at e.program x.class).info.slots x.length) bare in
      omega (arith, many, room)

  starts_leads : (d : Doing) (o : ℕ) (go : Outcome Kept) (t : Option ℕ) → Comes e StringsAlone Level d → Leads e go → Leads e (starts_thread e d o go t)
  starts_leads d o go (Some t) h g = throws_lead e ready errors.IllegalThreadStateException d h
  starts_leads d o go None h g = unless_thrown e ready d errors.OutOfMemoryError (nat_lt (length d.state.guest.threads) most_threads) go h (λ few. g)

  on_leads : (name : List ℕ) (o : ℕ) (go : Outcome Kept) → (is_subclass e.program (object_at e.before.heap o).class (class_called e.program name) ≡ true → Leads e go) → Leads e (ill_typed_unless e (is_object_of_class e (begins e) o name) go)
  on_leads name o go g = unless_ill_typed e ready (is_subclass e.program (object_class (begins e) o) (class_called e.program name)) go g

  -- an argument, and a slot that the machine uses, in a later state
  later_value : (s : Kept) (arguments : List Value) (i : ℕ) → IsUnder e s → Fines e.before.heap arguments → Fine s.heap (argument arguments i)
  later_value s arguments i u f = fine_grows e.before.heap s.heap (argument arguments i) u.stays (fine_at e.before.heap arguments i f)

  later_write : (s : Kept) (o i : ℕ) (v : Value) → IsUnder e s → IsHeld e.before.heap o → i < 2 → Fine s.heap v → MayWrite s.heap o i v
  later_write s o i v u held lt fine = record { held = u.stays o held; slot = inl lt; value = fine }

  -- the message and the cause of a Throwable, and the target of a Thread
  throwable_slots : (o : ℕ) → IsHeld e.before.heap o → is_subclass e.program (object_at e.before.heap o).class (class_called e.program (codes "java/lang/Throwable")) ≡ true → 1 < length (object_at e.before.heap o).slots
  throwable_slots o held below =
      let x : IsSoundObject e.program (object_at e.before.heap o) = object_sound e ready framed o held in
      let k : KeepsFree e.program (object_at e.before.heap o).class 2 = ready.may.machine_slots.throwables (object_at e.before.heap o).class x.class below in
      slots_are o 2 held k.bare k.room

  thread_slots : (o : ℕ) → IsHeld e.before.heap o → is_subclass e.program (object_at e.before.heap o).class (class_called e.program (codes "java/lang/Thread")) ≡ true → 0 < length (object_at e.before.heap o).slots
  thread_slots o held below =
      let x : IsSoundObject e.program (object_at e.before.heap o) = object_sound e ready framed o held in
      let k : KeepsTarget e.program (object_at e.before.heap o).class = ready.may.machine_slots.threads (object_at e.before.heap o).class x.class below in
      slots_are o 1 held k.bare k.room

  read_reference : (o i : ℕ) → Fine e.before.heap (reference_in (begins e) o i)
  read_reference o i =
      fine_read e.before.heap (Some operand.Reference) (slot_of (object_at e.before.heap o) i) (fine_at e.before.heap (object_at e.before.heap o).slots i (slots_fine e.before o ready.knows.sound.held))

  answer_leads : (at : Site) (arguments values : List Value) → Fines e.before.heap values → Leads e (goes (answering e at arguments values (begins e)))
  answer_leads at arguments values f = Plainly Level (answering e at arguments values (begins e)) (answering_comes at arguments values (begins e) Begins (λ u. f))

  -- the arguments are taken
  taken_comes : (at : Site) (arguments : List Value) → Comes e StringsAlone Level (answering e at arguments [] (begins e))
  taken_comes at arguments = answering_comes at arguments [] (begins e) Begins (λ u. tt)

  -- an argument is written to the first slot
  first_comes : (at : Site) (arguments : List Value) (o : ℕ) → Fines e.before.heap arguments → IsHeld e.before.heap o → 0 < length (object_at e.before.heap o).slots → IsReference (argument arguments 1) → IsReached (graph_of e.before) o
      → Comes e StringsAlone Level (slot_written e o 0 (argument arguments 1) (answering e at arguments [] (begins e)))
  first_comes at arguments o f held inside is hand =
      let x : Doing = answering e at arguments [] (begins e) in
      WritesSlot Level o 0 (argument arguments 1) x (taken_comes at arguments) (λ u. later_write x.state o 0 (argument arguments 1) u held (omega arith) (later_value x.state arguments 1 u f)) (record { slot = λ cause. inside; plain = inl is; own = inl is; at_hand = inl hand })

  -- .. and one to the second
  second_comes : (at : Site) (arguments : List Value) (o : ℕ) → Fines e.before.heap arguments → IsHeld e.before.heap o → 1 < length (object_at e.before.heap o).slots → IsReference (argument arguments 1) × IsReference (argument arguments 2) → IsReached (graph_of e.before) o
      → Comes e StringsAlone Level (slot_written e o 1 (argument arguments 2) (slot_written e o 0 (argument arguments 1) (answering e at arguments [] (begins e))))
  second_comes at arguments o f held inside is hand =
      let x : Doing = answering e at arguments [] (begins e) in
      let y : Doing = slot_written e o 0 (argument arguments 1) x in
      let same : length (object_at y.state.heap o).slots ≡ length (object_at e.before.heap o).slots = ((slot_steady e o 0 (argument arguments 1) x held).alike o held).slots in
      WritesSlot Level o 1 (argument arguments 2) y (first_comes at arguments o f held (omega (arith, inside)) is.0 hand) (λ u. later_write y.state o 1 (argument arguments 2) u held (omega arith) (later_value y.state arguments 2 u f))
      (record { slot = λ cause. omega (arith, inside, same); plain = inl is.1; own = inl is.1; at_hand = inl hand })

  -- a weak reference is made
  made_leads : (at : Site) (arguments : List Value) (o : ℕ) (r q : Option ℕ) → IsHeld e.before.heap o → ((s : Kept) → IsUnder e s → FineSome s.heap r) → ((s : Kept) → IsUnder e s → FineSome s.heap q) → Leads e (goes (with_reference_made o r q (answering e at arguments [] (begins e))))
  made_leads at arguments o r q held fine queue =
      let x : Doing = answering e at arguments [] (begins e) in
      let y : Doing = with_referent_of o r x in
      Plainly Level (with_reference_made o r q x) (SetsQueue o q y (SetsReferent o r x (taken_comes at arguments) (λ u. (u.stays o held, fine x.state u))) (λ u. (u.stays o held, queue y.state u)))

  built_in_leads : (at : Site) (m : MethodInfo) (arguments : List Value) (o : ℕ) (b : BuiltIn) → built_in_of m ≡ Some b → IsPassed m arguments → Fines e.before.heap arguments → IsHeld e.before.heap o → IsReached (graph_of e.before) o
      → Leads e (built_in_row e at (begins e) arguments o b)
  built_in_leads at m arguments o built.Nothing is passed f held hand = answer_leads at arguments [] tt
  built_in_leads at m arguments o built.SetMessage is passed f held hand =
      on_leads (codes "java/lang/Throwable") o _ (λ below.
      let inside : 1 < length (object_at e.before.heap o).slots = throwable_slots o held below in
      Plainly Level (slot_written e o 0 (argument arguments 1) (answering e at arguments [] (begins e))) (first_comes at arguments o f held (omega (arith, inside)) (message_reference m arguments passed is) hand))
  built_in_leads at m arguments o built.SetMessageAndCause is passed f held hand =
      on_leads (codes "java/lang/Throwable") o _ (λ below.
      Plainly Level (slot_written e o 1 (argument arguments 2) (slot_written e o 0 (argument arguments 1) (answering e at arguments [] (begins e)))) (second_comes at arguments o f held (throwable_slots o held below) (cause_references m arguments passed is) hand))
  built_in_leads at m arguments o built.GetMessage is passed f held hand = on_leads (codes "java/lang/Throwable") o _ (λ below. answer_leads at arguments (reference_in (begins e) o 0 ∷ []) (read_reference o 0, tt))
  built_in_leads at m arguments o built.GetCause is passed f held hand = on_leads (codes "java/lang/Throwable") o _ (λ below. answer_leads at arguments (reference_in (begins e) o 1 ∷ []) (read_reference o 1, tt))
  built_in_leads at m arguments o built.SetTarget is passed f held hand =
      on_leads (codes "java/lang/Thread") o _ (λ below.
      Plainly Level (slot_written e o 0 (argument arguments 1) (answering e at arguments [] (begins e))) (first_comes at arguments o f held (thread_slots o held below) (target_reference m arguments passed is) hand))
  built_in_leads at m arguments o built.Start is passed f held hand =
      let x : Doing = answering e at arguments [] (begins e) in
      on_leads (codes "java/lang/Thread") o _ (λ below.
      starts_leads (begins e) o (goes (with_thread_for o x)) (thread_with e.before.guest.threads o) Begins (Plainly Level (with_thread_for o x) (Starts o x (taken_comes at arguments) (λ u. u.stays o held))))
  built_in_leads at m arguments o built.Join is passed f held hand =
      unless_waiting e ready (has_thread_ended (begins e) (thread_with e.before.guest.threads o)) _ (λ ended. answer_leads at arguments [] tt)
  built_in_leads at m arguments o built.SetReferent is passed f held hand = made_leads at arguments o (referent_of (argument arguments 1)) None held (λ s u. reference_fine s.heap (argument arguments 1) (later_value s arguments 1 u f)) (λ s u. tt)
  built_in_leads at m arguments o built.SetReferentAndQueue is passed f held hand =
      made_leads at arguments o (referent_of (argument arguments 1)) (referent_of (argument arguments 2)) held (λ s u. reference_fine s.heap (argument arguments 1) (later_value s arguments 1 u f))
      (λ s u. reference_fine s.heap (argument arguments 2) (later_value s arguments 2 u f))
  built_in_leads at m arguments o built.GetReferent is passed f held hand =
      answer_leads at arguments (referent_value (object_at e.before.heap o).referent ∷ []) (fine_value e.before.heap (object_at e.before.heap o).referent (referent_fine e.before o ready.knows.sound.held), tt)
  built_in_leads at m arguments o built.ClearReferent is passed f held hand =
      let x : Doing = answering e at arguments [] (begins e) in
      Plainly Level (with_referent_of o None x) (SetsReferent o None x (taken_comes at arguments) (λ u. (u.stays o held, tt)))
  built_in_leads at m arguments o built.Poll is passed f held hand =
      let first : List Value = first_value (object_at e.before.heap o).waiting ∷ [] in
      let x : Doing = answering e at arguments first (begins e) in
      Plainly Level (with_first_taken o x) (Polls o x (answering_comes at arguments first (begins e) Begins (λ u. (first_waiting_fine e.before o ready.knows.sound.held, tt))) (λ u. u.stays o held))

  done_leads : (at : Site) (m : MethodInfo) (arguments : List Value) (r : Option ℕ) (b : Option BuiltIn) → built_in_of m ≡ b → IsPassed m arguments → Fines e.before.heap arguments → FineSome (near e) r → Leads e (done_by e at (begins e) arguments r b)
  done_leads at m arguments (Some o) (Some b) is passed f hand = built_in_leads at m arguments o b is passed f (near_held e o hand) (near_reached e o hand)
  done_leads at m arguments (Some o) None is passed f held = throws_lead e ready errors.AbstractMethodError (begins e) Begins
  done_leads at m arguments None (Some b) is passed f held = throws_lead e ready errors.AbstractMethodError (begins e) Begins
  done_leads at m arguments None None is passed f held = throws_lead e ready errors.AbstractMethodError (begins e) Begins

  taking_may : (count : ℕ) (x : Doing) (lock : Option Lock) → may_enter_some e (taking e count x) lock ≡ may_enter_some e x lock
  taking_may count x None = refl
  taking_may count x (Some (OfObject o)) = refl
  taking_may count x (Some (OfClass c)) = refl

  taking_comes : (count : ℕ) (d : Doing) → Comes e StringsAlone Level d → Comes e StringsAlone Level (taking e count d)
  taking_comes count d h =
      on_top e ready framed (current_frame e).pc (drop count (current_frame e).operands) d h (λ u. fines_drop d.state.heap count (current_frame e).operands (later_fine e ready framed d.state (current_frame e).operands u (operands_fine e ready framed)))

  taking_leaves : (count : ℕ) → LeavesArguments e ready (taking e count)
  taking_leaves count = record { comes = λ d h. taking_comes count d h; may = λ x lock. taking_may count x lock }

  method_leads : (at : Site) (d : Doing) (arguments : List Value) (m : ℕ) → m < length e.program.methods → Fines e.before.heap arguments → Comes e StringsAlone Level d
      → LeadsBuiltIn e ready m (built_in_event e at d arguments (method_at e.program m)) → Leads e (enters_method e at d arguments m)
  method_leads at d arguments m lt f h other =
      enters_leads e ready d (taking e (length arguments)) m arguments (built_in_event e at d arguments (method_at e.program m)) lt f h (taking_leaves (length arguments)) other

  -- INVOKES

  -- a method of the name and the descriptor that the call names, with its arguments
  record IsInvoked (kind : CallKind) (member : Member) (arguments : List Value) : Type 0 where
    type : MethodType
    typed : method_type member.descriptor ≡ Some type
    passed : are_arguments (is_static_call kind) type arguments ≡ true
    called : bytes_eq member.name (codes "<clinit>") ≡ false
    fine : Fines e.before.heap arguments
    at_hand : Fines (near e) arguments

  -- a static one has code, or is native
  static_leads : (at : Site) (member : Member) (arguments : List Value) (m : ℕ) (d : Doing) → IsInvoked Static member arguments → IsMethod e.program member.name member.descriptor m → is_static e.program m ≡ true → Comes e StringsAlone Level d → Leads e (enters_method e at d arguments m)
  static_leads at member arguments m d call is static h =
      let plain : is_initializing e.program m ≡ false = ap (λ (name : List ℕ). bytes_eq name (codes "<clinit>")) is.named ∙ call.called in
      method_leads at d arguments m is.within call.fine h (λ none native. absurd (true≢false (sym (ready.may.methods.static m is.within static plain none) ∙ native)))

  instance_leads : (at : Site) (member : Member) (arguments : List Value) (m k : ℕ) (type : MethodType) → method_type member.descriptor ≡ Some type → are_arguments false type arguments ≡ true → Fines e.before.heap arguments → Fines (near e) arguments → IsMethod e.program member.name member.descriptor m
      → IsInstanceMethod e.program (method_at e.program m).name (method_at e.program m).descriptor k → Leads e (enters_method e at (begins e) arguments k)
  instance_leads at member arguments m k type typed are f hand is selected =
      let passed : IsPassed (method_at e.program k) arguments = record { type = type; typed = ap method_type (selected.method.descriptor ∙ is.descriptor) ∙ typed; passed = are } in
      method_leads at (begins e) arguments k selected.method.within f Begins (λ none native. done_leads at (method_at e.program k) arguments (first_reference arguments) (built_in_of (method_at e.program k)) refl passed f (first_fine (near e) arguments hand))

  dispatched_leads : (at : Site) (kind : CallKind) (member : Member) (arguments : List Value) (named m : ℕ) → IsInvoked kind member arguments → IsMethod e.program member.name member.descriptor m → is_static e.program m ≡ is_static_call kind → Leads e (dispatched e at kind arguments named m)
  dispatched_leads at Static member arguments named m call is static =
      initialized_leads e ready (begins e) (method_at e.program m).class _ Begins (λ d h. static_leads at member arguments m d call is static h)
  dispatched_leads at Virtual member arguments named m call is instance =
      where_not_null e ready e.before.heap (begins e) (first_reference arguments) _ Begins (first_fine e.before.heap arguments call.fine) (λ o held.
      unless_ill_typed e ready (fits_resolved e (begins e) arguments m o) _ (λ fit.
      where_resolved e ready (begins e) (select e.program (object_class (begins e) o) m false) _ Begins (λ k found.
      instance_leads at member arguments m k call.type call.typed call.passed call.fine call.at_hand is (selected_method e.program (object_class (begins e) o) m false k is.within instance found))))
  dispatched_leads at Special member arguments named m call is instance =
      where_not_null e ready e.before.heap (begins e) (first_reference arguments) _ Begins (first_fine e.before.heap arguments call.fine) (λ o held.
      unless_ill_typed e ready (fits_resolved e (begins e) arguments m o) _ (λ fit.
      where_resolved e ready (begins e) (select_special e.program at.class (special_class e.program named) m) _ Begins (λ k found.
      instance_leads at member arguments m k call.type call.typed call.passed call.fine call.at_hand is (selected_special e.program at.class (special_class e.program named) m k is.within instance found))))
  dispatched_leads at Interface member arguments named m call is instance =
      where_not_null e ready e.before.heap (begins e) (first_reference arguments) _ Begins (first_fine e.before.heap arguments call.fine) (λ o held.
      where_resolved e ready (begins e) (select e.program (object_class (begins e) o) m true) _ Begins (λ k found.
      instance_leads at member arguments m k call.type call.typed call.passed call.fine call.at_hand is (selected_method e.program (object_class (begins e) o) m true k is.within instance found)))

  type_leads : (t : Option MethodType) (go : MethodType → Outcome Kept) → ((x : MethodType) → t ≡ Some x → Leads e (go x)) → Leads e (with_type e t go)
  type_leads None go h = tt
  type_leads (Some x) go h = h x refl

  named_leads : (o : Option Member) (go : Member → MethodType → Outcome Kept) → ((m : Member) (x : MethodType) → o ≡ Some m → method_type m.descriptor ≡ Some x → Leads e (go m x)) → Leads e (with_method e o go)
  named_leads None go h = tt
  named_leads (Some m) go h = type_leads (method_type m.descriptor) (go m) (λ x typed. h m x refl typed)

  pub arguments_fine : (count : ℕ) → Fines e.before.heap (arguments_of e count)
  arguments_fine count = fines_reverse e.before.heap (take count (current_frame e).operands) (fines_take e.before.heap count (current_frame e).operands (operands_fine e ready framed))

  arguments_near : (count : ℕ) → Fines (near e) (arguments_of e count)
  arguments_near count = fines_reverse (near e) (take count (current_frame e).operands) (fines_take (near e) count (current_frame e).operands (operands_near e ready framed))

  pub invoke_leads : (at : Site) (kind : CallKind) → NamesNoInitializer at → Leads e (invoke e at kind)
  invoke_leads at kind names =
      named_leads (site_member at) _ (λ m type same typed.
      unless_ill_typed e ready (call_fits e (is_static_call kind) type) _ (λ fits.
      where_resolved e ready (begins e) (resolve_class e.program m.owner) _ Begins (λ owner is.
      where_resolved e ready (begins e) (resolve_method e.program owner (names_interface at) m.name m.descriptor) _ Begins (λ method found.
      unless_thrown e ready (begins e) errors.IncompatibleClassChangeError (is_as (is_static_call kind) (is_static e.program method)) _ Begins (λ wanted.
      let count : ℕ = entry_count (is_static_call kind) type in
      let passed = and_parts (are_arguments (is_static_call kind) type (arguments_of e count)) (nat_le (length (drop count (current_frame e).operands) + returned_width type.returned) (current_frame e).room) fits in
      dispatched_leads at kind m (arguments_of e count) owner method (record { type = type; typed = typed; passed = passed.0; called = names m same; fine = arguments_fine count; at_hand = arguments_near count })
      (resolved_method e.program owner (names_interface at) m.name m.descriptor method found) (as_wanted (is_static_call kind) (is_static e.program method) wanted))))))

  -- RETURNS

  with_returned_leads : (kind : Option Operand) (ops : List Value) (go : List Value → Outcome Kept) → Fines e.before.heap ops → ((vs : List Value) → Fines e.before.heap vs → Leads e (go vs)) → Leads e (with_returned kind (ill_typed e) ops go)
  with_returned_leads None ops go f h = h [] tt
  with_returned_leads (Some kind) ops go f h = any_value (Leads e) (ill_typed e) tt e.before.heap (Some kind) ops (λ v below. go (entries_of v)) f (λ v below fine typed g. h (entries_of v) (fine_entries e.before.heap v fine))

  return_leads : (kind : Option Operand) → IsMethodOf e.program (unwrap_or (current_frame e).method 0) → Leads e (return e kind)
  return_leads kind is =
      unless_ill_typed e ready (may_return kind (returned_by e)) _ (λ may.
      with_returned_leads kind (current_frame e).operands _ (operands_fine e ready framed) (λ values f.
      unless_thrown e ready (begins e) errors.IllegalMonitorStateException (owns_some e (begins e) (own_lock e)) _ Begins (λ owned.
      Plainly Shifted (frame_returned e values (begins e)) (Returns values framed is f (own_there e ready) owned))))

  pub call_leads : (at : Site) (r : CallRow) → IsMethodOf e.program (unwrap_or (current_frame e).method 0) → ((kind : CallKind) → r ≡ calls.Invoke kind → NamesNoInitializer at) → Leads e (call_event e at r)
  call_leads at (calls.Invoke kind) is names = invoke_leads at kind (names kind refl)
  call_leads at (calls.Return kind) is names = return_leads kind is

  -- UNWINDING

  caught_leads : (o handler : ℕ) → IsHeld e.before.heap o → Leads e (caught e o handler)
  caught_leads o handler held =
      unless_ill_typed e ready (nat_lt 0 (current_frame e).room) _ (λ room. Plainly Level (with_thread_state e (with_pending None (with_top_of (thread_of e) (handled (current_frame e) handler o))) (begins e)) (Catches o handler framed held))

  handler_leads : (o : ℕ) (other : Outcome Kept) (r : Option TableRow) → IsHeld e.before.heap o → Leads e other → Leads e (by_handler e o other r)
  handler_leads o other (Some r) held h = caught_leads o r.handler held
  handler_leads o other None held h = h

  unwound_leads : (o : ℕ) → IsMethodOf e.program (unwrap_or (current_frame e).method 0) → IsHeld e.before.heap o → Leads e (unwound e o)
  unwound_leads o is held = Plainly Shifted (told (Unwind (begins e).state.guest.clock e.thread (unwrap_or (current_frame e).method 0) o) (dropped e (left_if_owned e (own_lock e) (begins e)))) (Unwinds o framed is held (own_there e ready))

  failed_leads : (c o : ℕ) (d : Doing) → IsHeld e.before.heap o → d.state.heap ≡ e.before.heap → Comes e StringsAlone Shifted d → Leads e (ends_event (failed e c o d))
  failed_leads c o d held none h =
      let x : Doing = with_state c Failed d in
      let hx : Comes e StringsAlone Shifted x = ClassBecomes Shifted c Failed d h in
      ends_lead e ready (failed e c o d) (if_case (Ended e) (is_error e o) x (replaced e o x) (Plainly Shifted x hx) (WithCause Shifted o x hx none held))

  -- an initializer has no lock
  initializer_lock : (stage : Stage) → (current_frame e).stage ≡ stage → lock_in stage (running_method e.program (current_frame e)) (current_frame e).lock ≡ None → own_lock e ≡ None
  initializer_lock stage same none = ap (λ (s : Stage). lock_in s (running_method e.program (current_frame e)) (current_frame e).lock) same ∙ none

  unwinds_leads : (o : ℕ) (stage : Stage) → (current_frame e).stage ≡ stage → (IsInMethod stage → IsMethodOf e.program (unwrap_or (current_frame e).method 0)) → IsHeld e.before.heap o → Leads e (unwinds e o stage)
  unwinds_leads o Plain same is held = handler_leads o (unwound e o) (handler_of e.program (current_frame e) (object_class (begins e) o)) held (unwound_leads o (is tt) held)
  unwinds_leads o (Before c) same is held = failed_leads c o (dropped e (begins e)) held refl (Drops (begins e) Begins framed (initializer_lock (Before c) same refl))
  unwinds_leads o (Clinit c) same is held =
      handler_leads o (unwound_clinit e c o) (handler_of e.program (current_frame e) (object_class (begins e) o)) held
      (failed_leads c o (told (Unwind (begins e).state.guest.clock e.thread (unwrap_or (current_frame e).method 0) o) (dropped e (begins e))) held refl (UnwindsClinit o framed (is tt) held (initializer_lock (Clinit c) same refl)))

  pub unwinding_leads : (o : Option ℕ) → (IsInMethod (current_frame e).stage → IsMethodOf e.program (unwrap_or (current_frame e).method 0)) → FineSome e.before.heap o → Leads e (unwinding_step e o)
  unwinding_leads None is held = tt
  unwinding_leads (Some o) is held = unwinds_leads o (current_frame e).stage refl is held

  -- A STEP OF AN INITIALIZER

  clinit_leads : (c : ℕ) (m : Option ℕ) (d : Doing) → own_lock e ≡ None → IfSome m (λ k. k < length e.program.methods) → Comes e StringsAlone Level d → Leads e (enters_clinit e c m d)
  clinit_leads c None d none lt h = end_leads e ready Shifted (dropped e (with_state c Done d)) (Drops (with_state c Done d) (ClassBecomes Level c Done d h) framed none)
  clinit_leads c (Some m) d none lt h =
      let body : Body = present_body (method_at e.program m).code in
      let f : FrameState = in_clinit m body.max_stack body.max_locals (current_frame e) in
      let fine : FineFrame e.before.heap f = record { locals = fines_unset e.before.heap (body.max_locals - 0); operands = tt; lock = (frame_fine e ready).lock } in
      end_leads e ready Level (told (Enter d.state.guest.clock e.thread m 0) (with_frame e f d)) (EntersClinit m body d h framed (is_method e ready m lt) fine)

  by_blocker_leads : (c : ℕ) (d : Doing) (blocker : Option ℕ) → own_lock e ≡ None → IfSome (class_at e.program c).info.clinit (λ k. k < length e.program.methods) → Comes e StringsAlone Level d → Leads e (step_by e c d blocker)
  by_blocker_leads c d (Some k) none lt h = initialized_leads e ready d k ends_event h (λ x g. end_leads e ready Level x g)
  by_blocker_leads c d None none lt h = clinit_leads c (class_at e.program c).info.clinit d none lt h

  clinit_within : (c : ℕ) → c < length e.program.classes → IfSome (class_at e.program c).info.clinit (λ k. k < length e.program.methods)
  clinit_within c lt = by (class_at e.program c).info.clinit (λ m is. (ready.may.initializers.clinits c m lt is).method)
    where
      by : (o : Option ℕ) → ((m : ℕ) → o ≡ Some m → m < length e.program.methods) → IfSome o (λ k. k < length e.program.methods)
      by None all = tt
      by (Some m) all = all m refl

  pub step_leads : (c : ℕ) → (current_frame e).stage ≡ Before c → c < length e.program.classes → Leads e (initialization_step e c)
  step_leads c same lt =
      let classes : List ℕ = (class_at e.program c).info.prerequisites in
      let ready_ones : List ℕ = take_while (is_ready e (begins e)) classes in
      by_blocker_leads c (prepared e ready_ones (begins e)) (find (λ k. not (is_ready e (begins e) k)) classes) (initializer_lock (Before c) same refl) (clinit_within c lt) (prepared_comes e ready ready_ones (begins e) Begins)
