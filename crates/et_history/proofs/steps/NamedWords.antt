-- What the words of an event tell: each takes what was told so far on.
use Rattle.et_history.specs.steps.Steps.{IsMethodOf}
use Rattle.et_state.specs.declared.stage.Stage.{Stage}
use Rattle.et_state.specs.declared.stage.Stage.TheVariants.{Plain, Before, Clinit}
use Rattle.et_event.specs.Calls.{class_done_by}
use Rattle.et_event.specs.Throw.{dropped, left_if_owned}
use Rattle.et_event.specs.Monitors.{owns, Lock, OfObject, OfClass, entered, left, entered_some, left_some}
use Rattle.et_state.specs.Threads.{without_top, FrameState, ThreadState}
use Rattle.et_event.specs.BuiltIns.{with_queue_of, with_referent_of, with_first_taken}
use Rattle.std.proofs.Common.{◌≡◌, ℕ, ◌+◌, ◌<◌, List, [], ◌∷◌, length, Option, Some, None, refl, ◌∙◌}
use Rattle.std.specs.Prelude.{All, codes, is_some}
use Rattle.std.proofs.lemmas.List.Elements.{All-nil, All-cons, All-append}
use Rattle.et_base.specs.declared.value.Value.{Value}
use Rattle.et_base.specs.declared.value.Value.TheVariants.{Unset, Int, Long, LongHigh, Null, Ref}
use Rattle.et_program.specs.Entries.{Linked, method_at}
use Rattle.et_heap.specs.Objects.{with_object_at, with_slot, slot_of, object_at}
use Rattle.et_state.specs.declared.class_state.ClassState.{ClassState}
use Rattle.et_state.specs.declared.class_state.ClassState.TheVariants.{Done}
use Rattle.et_state.specs.Interned.{object_of}
use Rattle.et_state.specs.State.{GuestState}
use Rattle.et_state.specs.Words.{thread_at, static_at, with_static, with_string}
use Rattle.et_state.specs.declared.records.Record.{Record}
use Rattle.et_state.specs.declared.records.Record.TheVariants.{Alloc, Update, Enter, Exit, Unwind}
use Rattle.et_state.specs.Naming.{IsNamed}
use Rattle.et_event.specs.Errors.{class_called}
use Rattle.et_event.specs.Initialization.{with_state}
use Rattle.et_event.specs.Moments.{Moment, Doing, begins, doing_with_guest, with_thread_state, with_frame, told, next_object, instance_made, array_made, updated, slot_written, static_written, pending_now}
use Rattle.et_event.specs.Strings.{interned}
use Rattle.et_history.specs.steps.Telling.{names_of_program}
use Rattle.et_history.proofs.soundness.Outcomes.{if_case}

-- so far the clock is one on, and what the records name is of the program
pub record Tells (e : Moment) (d : Doing) : Type 0 where
  pub clock : d.state.guest.clock ≡ e.before.guest.clock + 1
  pub records : All (IsNamed (names_of_program e.program)) d.records

pub begun : (e : Moment) → Tells e (begins e)
begun e = record { clock = refl; records = All-nil (IsNamed (names_of_program e.program)) }

pub guest_told : (e : Moment) (g : GuestState) (d : Doing) → g.clock ≡ d.state.guest.clock → Tells e d → Tells e (doing_with_guest g d)
guest_told e g d same h = record { clock = same ∙ h.clock; records = h.records }

pub thread_told : (e : Moment) (x : ThreadState) (d : Doing) → Tells e d → Tells e (with_thread_state e x d)
thread_told e x d h = record { clock = h.clock; records = h.records }

pub frame_told : (e : Moment) (f : FrameState) (d : Doing) → Tells e d → Tells e (with_frame e f d)
frame_told e f d h = record { clock = h.clock; records = h.records }

pub state_told : (e : Moment) (c : ℕ) (x : ClassState) (d : Doing) → Tells e d → Tells e (with_state c x d)
state_told e c x d h = record { clock = h.clock; records = h.records }

pub record_told : (e : Moment) (r : Record) (d : Doing) → IsNamed (names_of_program e.program) r → Tells e d → Tells e (told r d)
record_told e r d named h =
    record { clock = h.clock; records = All-append (IsNamed (names_of_program e.program)) d.records (r ∷ []) h.records (All-cons (IsNamed (names_of_program e.program)) r [] named (All-nil (IsNamed (names_of_program e.program)))) }

-- OBJECTS

one_class : (p : Linked) (c : ℕ) → c < length p.classes → All (λ k. k < (names_of_program p).class_count) (c ∷ [])
one_class p c lt = All-cons (λ k. k < (names_of_program p).class_count) c [] lt (All-nil (λ k. k < (names_of_program p).class_count))

no_method : (p : Linked) → All (λ k. k < (names_of_program p).method_count) []
no_method p = All-nil (λ k. k < (names_of_program p).method_count)

no_class : (p : Linked) → All (λ k. k < (names_of_program p).class_count) []
no_class p = All-nil (λ k. k < (names_of_program p).class_count)

one_method : (p : Linked) (m : ℕ) → m < length p.methods → All (λ k. k < (names_of_program p).method_count) (m ∷ [])
one_method p m lt = All-cons (λ k. k < (names_of_program p).method_count) m [] lt (All-nil (λ k. k < (names_of_program p).method_count))

alloc_named : (p : Linked) (event thread object class size elements : ℕ) → class < length p.classes → IsNamed (names_of_program p) (Alloc event thread object class size elements)
alloc_named p event thread object class size elements lt = record { classes = one_class p class lt; methods = no_method p }

update_named : (p : Linked) (event thread object slot old new : ℕ) → IsNamed (names_of_program p) (Update event thread object slot old new)
update_named p event thread object slot old new = record { classes = no_class p; methods = no_method p }

pub enter_named : (p : Linked) (event thread m receiver : ℕ) → IsMethodOf p m → IsNamed (names_of_program p) (Enter event thread m receiver)
enter_named p event thread m receiver is = record { classes = one_class p (method_at p m).class is.class; methods = one_method p m is.method }

pub exit_named : (p : Linked) (event thread m : ℕ) → IsMethodOf p m → IsNamed (names_of_program p) (Exit event thread m)
exit_named p event thread m is = record { classes = one_class p (method_at p m).class is.class; methods = one_method p m is.method }

pub unwind_named : (p : Linked) (event thread m exception : ℕ) → IsMethodOf p m → IsNamed (names_of_program p) (Unwind event thread m exception)
unwind_named p event thread m exception is = record { classes = one_class p (method_at p m).class is.class; methods = one_method p m is.method }

pub instance_told : (e : Moment) (class : ℕ) (d : Doing) → class < length e.program.classes → Tells e d → Tells e (instance_made e class d)
instance_told e class d lt h =
    let x : Doing = record { state = (instance_made e class d).state; records = d.records } in
    let there : Tells e x = record { clock = h.clock; records = h.records } in
    record_told e (Alloc d.state.guest.clock e.thread (next_object d) class _ 0) x (alloc_named e.program _ _ _ class _ _ lt) there

pub array_told : (e : Moment) (class n : ℕ) (d : Doing) → class < length e.program.classes → Tells e d → Tells e (array_made e class n d)
array_told e class n d lt h =
    let x : Doing = record { state = (array_made e class n d).state; records = d.records } in
    let there : Tells e x = record { clock = h.clock; records = h.records } in
    record_told e (Alloc d.state.guest.clock e.thread (next_object d) class _ n) x (alloc_named e.program _ _ _ class _ _ lt) there

updated_told : (e : Moment) (o i : ℕ) (old v : Value) (d : Doing) → Tells e d → Tells e (updated e o i old v d)
updated_told e o i old Unset d h = h
updated_told e o i old (Int n) d h = h
updated_told e o i old (Long n) d h = h
updated_told e o i old LongHigh d h = h
updated_told e o i old Null d h = record_told e _ d (update_named e.program _ _ _ _ _ _) h
updated_told e o i old (Ref new) d h = record_told e _ d (update_named e.program _ _ _ _ _ _) h

pub slot_told : (e : Moment) (o i : ℕ) (v : Value) (d : Doing) → Tells e d → Tells e (slot_written e o i v d)
slot_told e o i v d h =
    let x = object_at d.state.heap o in
    updated_told e o i (slot_of x i) v (record { state = record { heap = with_object_at d.state.heap o (with_slot i v x); guest = d.state.guest }; records = d.records }) (record { clock = h.clock; records = h.records })

pub static_told : (e : Moment) (i : ℕ) (v : Value) (d : Doing) → Tells e d → Tells e (static_written e i v d)
static_told e i v d h = updated_told e 0 i (static_at d.state.guest i) v (doing_with_guest (with_static d.state.guest i v) d) (record { clock = h.clock; records = h.records })

pub referent_told : (e : Moment) (o : ℕ) (r : Option ℕ) (d : Doing) → Tells e d → Tells e (with_referent_of o r d)
referent_told e o r d h = record { clock = h.clock; records = h.records }

pub first_taken_told : (e : Moment) (q : ℕ) (d : Doing) → Tells e d → Tells e (with_first_taken q d)
first_taken_told e q d h = record { clock = h.clock; records = h.records }

pub interned_told : (e : Moment) (bytes : List ℕ) (d : Doing) → class_called e.program (codes "java/lang/String") < length e.program.classes → Tells e d → Tells e (interned e bytes d)
interned_told e bytes d lt h =
    let x : Doing = instance_made e (class_called e.program (codes "java/lang/String")) d in
    let there : Tells e x = instance_told e (class_called e.program (codes "java/lang/String")) d lt h in
    if_case (Tells e) (is_some (object_of d.state.guest.interned bytes)) d (doing_with_guest (with_string x.state.guest bytes (next_object d)) x) h (record { clock = there.clock; records = there.records })

-- MONITORS

pub entered_told : (e : Moment) (lock : Lock) (d : Doing) → Tells e d → Tells e (entered e lock d)
entered_told e (OfObject o) d h = record { clock = h.clock; records = h.records }
entered_told e (OfClass c) d h = record { clock = h.clock; records = h.records }

pub left_told : (e : Moment) (lock : Lock) (d : Doing) → Tells e d → Tells e (left lock d)
left_told e (OfObject o) d h = record { clock = h.clock; records = h.records }
left_told e (OfClass c) d h = record { clock = h.clock; records = h.records }

pub entered_some_told : (e : Moment) (lock : Option Lock) (d : Doing) → Tells e d → Tells e (entered_some e lock d)
entered_some_told e None d h = h
entered_some_told e (Some lock) d h = entered_told e lock d h

pub left_some_told : (e : Moment) (lock : Option Lock) (d : Doing) → Tells e d → Tells e (left_some lock d)
left_some_told e None d h = h
left_some_told e (Some lock) d h = left_told e lock d h

-- EXCEPTIONS

pub pending_told : (e : Moment) (o : ℕ) (d : Doing) → Tells e d → Tells e (pending_now e o d)
pending_told e o d h = thread_told e _ d h

-- FRAMES

pub done_told : (e : Moment) (stage : Stage) (d : Doing) → Tells e d → Tells e (class_done_by stage d)
done_told e Plain d h = h
done_told e (Before c) d h = h
done_told e (Clinit c) d h = state_told e c Done d h

pub dropped_told : (e : Moment) (d : Doing) → Tells e d → Tells e (dropped e d)
dropped_told e d h = thread_told e (without_top (thread_at d.state.guest e.thread)) d h

pub owned_told : (e : Moment) (lock : Option Lock) (d : Doing) → Tells e d → Tells e (left_if_owned e lock d)
owned_told e None d h = h
owned_told e (Some lock) d h = if_case (Tells e) (owns e d lock) (left lock d) d (left_told e lock d h) h

pub queue_told : (e : Moment) (o : ℕ) (q : Option ℕ) (d : Doing) → Tells e d → Tells e (with_queue_of o q d)
queue_told e o q d h = record { clock = h.clock; records = h.records }
