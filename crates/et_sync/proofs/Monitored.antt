-- `monitorenter` and `monitorexit`.
use Rattle.std.proofs.Common.{◌≡◌, ℕ, ◌+◌, ◌<◌, ◌≤◌, ◌^◌, Bool, true, false, List, [], ◌∷◌, length, get_or, drop, Some, None, refl, sym, ◌∙◌, ap, subst, append-nil}
use Rattle.std.specs.Prelude.{Result, Ok, Err, IfOk}
use Rattle.std.proofs.lemmas.List.{length-set}
use Rattle.et_event.proofs.Referred.{on_top, no_reference}
use Rattle.et_base.specs.declared.value.Value.{Value}
use Rattle.et_base.specs.declared.value.Value.TheVariants.{Unset, Int, Long, LongHigh, Null, Ref}
use Rattle.et_heap.specs.declared.monitor.Monitor.{Monitor}
use Rattle.et_heap.specs.Objects.{IsHeld, object_at, with_monitor, with_object_at}
use Rattle.et_program.specs.Entries.{Linked}
use Rattle.et_state.specs.Threads.{FrameState, at_pc, popped, operand_of}
use Rattle.et_state.specs.State.{Kept, MachineState, kept_of}
use Rattle.et_state.specs.Words.{top, with_top, HasFrame, ticked, begun, steps_top}
use Rattle.et_state.specs.Sound.{IsSound}
use Rattle.et_state.specs.Moves.{IsOnWay, Led}
use Rattle.et_state.proofs.Calls.{on_begin_event}
use Rattle.et_state.proofs.Steps.{Did, did_begin, did_pop, did_set_pc, did_on_way, led_plain, operand_there}
use Rattle.et_state.specs.declared.records.Record.{Record}
use Rattle.et_state.specs.declared.ends.EventEnd.{EventEnd}
use Rattle.et_state.specs.declared.ends.EventEnd.TheVariants as ends
use Rattle.et_state.specs.Outcome.{Outcome}
use Rattle.et_event.specs.declared.errors.GuestError.TheVariants.{NullPointerException, IllegalMonitorStateException}
use Rattle.et_event.specs.declared.rows.MonitorRow.{MonitorRow}
use Rattle.et_event.specs.declared.rows.MonitorRow.TheVariants.{Enter, Exit}
use Rattle.et_event.specs.Answered.{EventAnswers}
use Rattle.et_event.specs.Checks.{Reference, with_reference, not_null, throws_unless, waits_unless}
use Rattle.et_event.specs.Heap.{leaving_values}
use Rattle.et_event.specs.Moments.{Moment, moment, begins, ill_typed, goes, throws, waits}
use Rattle.et_event.specs.Monitors.{OfObject, owns, may_enter, entered, left, left_once}
use Rattle.et_event.specs.Sites.{Site}
use Rattle.et_event.specs.Sound.{IsSoundFor}
use Rattle.et_event.specs.Sync.{monitor_event}
use Rattle.et_event.specs.Locks.{monitor_at, with_monitor_at, owns_at, may_enter_at}
use Rattle.et_event.proofs.Keeping.{monitor_on_way}
use Rattle.et_event.proofs.There.{few_times}
use Rattle.et_event.specs.Tops.{entry_reference}
use Rattle.et_event.proofs.Answering.{ill_typed_answers, ill_typed_end}
use Rattle.et_sync.specs.Monitoring.{gone_past, taken}

-- THE REFERENCE ON TOP

reference_taken : {A : Type 0} (refused : A) (go : Reference → List Value → A) (ops : List Value) (r : Reference) → entry_reference (get_or ops 0 Unset) ≡ Some r → with_reference refused ops go ≡ go r (drop 1 ops)
reference_taken refused go [] r e = cc
reference_taken refused go (Unset ∷ below) r e = cc
reference_taken refused go (Int n ∷ below) r e = cc
reference_taken refused go (Long n ∷ below) r e = cc
reference_taken refused go (LongHigh ∷ below) r e = cc
reference_taken refused go (Null ∷ below) r e = let same : None ≡ r = cc in ap (λ (x : Reference). go x below) same
reference_taken refused go (Ref o ∷ below) r e = let same : Some o ≡ r = cc in ap (λ (x : Reference). go x below) same

pub operand_there_is : (m : MachineState) (t o : ℕ) → entry_reference (operand_of (top m.guest t) 0) ≡ Some (Some o) → 0 < length (top m.guest t).operands
operand_there_is m t o e = (on_top (top m.guest t).operands o e).0

pub object_few : (p : Linked) (m : MachineState) (o : ℕ) → IsSoundFor p (kept_of m) → IsHeld m.heap o → (object_at m.heap o).monitor.count ≤ 2 ^ 40
object_few p m o sound held = few_times p m (Some (OfObject o)) sound held

-- THE STEP

-- the state in which a frame has gone on, and a monitor has changed
abbrev pub gone_on : (Monitor → Monitor) → MachineState → ℕ → ℕ → ℕ → Kept
gone_on change m t o next =
    record { heap = with_object_at m.heap o (with_monitor (change (object_at m.heap o).monitor) (object_at m.heap o)); guest = with_top (ticked m.guest) t (record (top m.guest t) { pc = next; operands = drop 1 (top m.guest t).operands }) }

abbrev pub once_more : ℕ → Monitor → Monitor
once_more t y = record { owner = Some t; count = y.count + 1 }

-- an event that changed the topmost frame, and then writes the monitor of an object
monitored_led : (change : Monitor → Monitor) (m : MachineState) (t : ℕ) (f : FrameState) (l : List ℕ) (m₁ m₂ : MachineState) (o : ℕ) → IsSound (kept_of m) → HasFrame m.guest t → IsHeld m.heap o → Did (kept_of m) (begun m) t f l m₁
    → m₂ ≡ with_monitor_at (OfObject o) (change (monitor_at m₁ (OfObject o))) m₁
    → Led (kept_of m) (record { heap = with_object_at m.heap o (with_monitor (change (object_at m.heap o).monitor) (object_at m.heap o)); guest = with_top (ticked m.guest) t f }) m₂
monitored_led change m t f l m₁ m₂ o sound has held d e =
    let s : Kept = kept_of m in
    let b : MachineState = steps_top (begun m) t f l in
    let w : IsOnWay s b = subst (λ (n : MachineState). IsOnWay s n) d.is (did_on_way s (begun m) t f l m₁ (on_begin_event m sound) (record { thread = has.thread; frame = has.frame }) d) in
    let next : IsOnWay s (with_monitor_at (OfObject o) (change (monitor_at b (OfObject o))) b) = monitor_on_way s b (OfObject o) (change (monitor_at b (OfObject o))) w held in
    let is : m₂ ≡ with_monitor_at (OfObject o) (change (monitor_at b (OfObject o))) b = e ∙ ap (λ (n : MachineState). with_monitor_at (OfObject o) (change (monitor_at n (OfObject o))) n) d.is in
    led_plain s _ m₂ (subst (λ (n : MachineState). IsOnWay s n) (sym is) next)
    (ap (λ (n : MachineState). length n.heap) is ∙ length-set m.heap o (Some (with_monitor (change (object_at m.heap o).monitor) (object_at m.heap o)))) (ap (λ (n : MachineState). kept_of n) is)

-- the reference is taken, the pc goes on, and the monitor is written
pub changed_led : (change : Monitor → Monitor) (m : MachineState) (t o next : ℕ) (m₁ m₂ : MachineState) → IsSound (kept_of m) → HasFrame m.guest t → IsHeld m.heap o → 0 < length (top m.guest t).operands → m₁ ≡ gone_past t next m
    → m₂ ≡ with_monitor_at (OfObject o) (change (monitor_at m₁ (OfObject o))) m₁
    → Led (kept_of m) (gone_on change m t o next) m₂
changed_led change m t o next m₁ m₂ sound has held some e₁ e₂ =
    let s : Kept = kept_of m in
    let b : MachineState = begun m in
    let f : FrameState = top m.guest t in
    let framed : HasFrame b.guest t = record { thread = has.thread; frame = has.frame } in
    let d₁ = did_begin s m t b has refl in
    let d₂ = did_pop s b t f [] b (taken t m) framed d₁ refl some (λ q c. operand_there m (kept_of b) t 0 has some q c) in
    let d₃ = did_set_pc s b t (popped 1 f) _ (taken t m) m₁ next framed d₂ e₁ in
    monitored_led change m t (at_pc next (popped 1 f)) _ m₁ m₂ o sound has held d₃ e₂

-- WHAT IT ANSWERS

abbrev enters : Moment → Site → Reference → List Value → Outcome Kept
enters e at r below =
    not_null e (begins e) r (λ o. waits_unless e (may_enter e (begins e) (OfObject o)) (goes (entered e (OfObject o) (leaving_values e at below (begins e)))))

abbrev exits : Moment → Site → Reference → List Value → Outcome Kept
exits e at r below =
    not_null e (begins e) r (λ o. throws_unless e (begins e) IllegalMonitorStateException (owns e (begins e) (OfObject o)) (goes (left (OfObject o) (leaving_values e at below (begins e)))))

enters_it : (p : Linked) (m : MachineState) (t : ℕ) (at : Site) (r : Reference) → entry_reference (operand_of (top m.guest t) 0) ≡ Some r → monitor_event (moment p m t) at Enter ≡ enters (moment p m t) at r (drop 1 (top m.guest t).operands)
enters_it p m t at r e = reference_taken (ill_typed (moment p m t)) (λ x below. enters (moment p m t) at x below) (top m.guest t).operands r e

exits_it : (p : Linked) (m : MachineState) (t : ℕ) (at : Site) (r : Reference) → entry_reference (operand_of (top m.guest t) 0) ≡ Some r → monitor_event (moment p m t) at Exit ≡ exits (moment p m t) at r (drop 1 (top m.guest t).operands)
exits_it p m t at r e = reference_taken (ill_typed (moment p m t)) (λ x below. exits (moment p m t) at x below) (top m.guest t).operands r e

pub entered_answers : (p : Linked) (t o next : ℕ) (m m' : MachineState) (at : Site) (out : List Record) → at.next ≡ next → entry_reference (operand_of (top m.guest t) 0) ≡ Some (Some o) → may_enter_at t (OfObject o) m ≡ true
    → Led (kept_of m) (gone_on (once_more t) m t o next) m' → EventAnswers (monitor_event (moment p m t) at Enter) ends.Done m m' out out
entered_answers p t o next m m' at out same e may led =
    let x : Moment = moment p m t in
    let here : Led (kept_of m) (gone_on (once_more t) m t o at.next) m' = subst (λ (k : ℕ). Led (kept_of m) (gone_on (once_more t) m t o k) m') (sym same) led in
    subst (λ (z : Outcome Kept). EventAnswers z ends.Done m m' out out) (sym (enters_it p m t at (Some o) e))
    (subst (λ (b : Bool). EventAnswers (waits_unless x b (goes (entered x (OfObject o) (leaving_values x at (drop 1 (top m.guest t).operands) (begins x))))) ends.Done m m' out out) (sym may) (here, sym (append-nil out)))

pub waited_answers : (p : Linked) (t o : ℕ) (m m' : MachineState) (at : Site) (out : List Record) (end : EventEnd) → entry_reference (operand_of (top m.guest t) 0) ≡ Some (Some o) → may_enter_at t (OfObject o) m ≡ false
    → EventAnswers (waits (moment p m t)) end m m' out out → EventAnswers (monitor_event (moment p m t) at Enter) end m m' out out
waited_answers p t o m m' at out end e shut h =
    let x : Moment = moment p m t in
    subst (λ (z : Outcome Kept). EventAnswers z end m m' out out) (sym (enters_it p m t at (Some o) e))
    (subst (λ (b : Bool). EventAnswers (waits_unless x b (goes (entered x (OfObject o) (leaving_values x at (drop 1 (top m.guest t).operands) (begins x))))) end m m' out out) (sym shut) h)

pub exited_answers : (p : Linked) (t o next : ℕ) (m m' : MachineState) (at : Site) (out : List Record) → at.next ≡ next → entry_reference (operand_of (top m.guest t) 0) ≡ Some (Some o) → owns_at t (OfObject o) m ≡ true
    → Led (kept_of m) (gone_on left_once m t o next) m' → EventAnswers (monitor_event (moment p m t) at Exit) ends.Done m m' out out
exited_answers p t o next m m' at out same e owned led =
    let x : Moment = moment p m t in
    let here : Led (kept_of m) (gone_on left_once m t o at.next) m' = subst (λ (k : ℕ). Led (kept_of m) (gone_on left_once m t o k) m') (sym same) led in
    subst (λ (z : Outcome Kept). EventAnswers z ends.Done m m' out out) (sym (exits_it p m t at (Some o) e))
    (subst (λ (b : Bool). EventAnswers (throws_unless x (begins x) IllegalMonitorStateException b (goes (left (OfObject o) (leaving_values x at (drop 1 (top m.guest t).operands) (begins x))))) ends.Done m m' out out) (sym owned) (here, sym (append-nil out)))

pub null_answers : {E : Type 0} (p : Linked) (t : ℕ) (row : MonitorRow) (m m' : MachineState) (at : Site) (out out' : List Record) (r : Result EventEnd E) → entry_reference (operand_of (top m.guest t) 0) ≡ Some None
    → IfOk r (λ end. EventAnswers (throws (moment p m t) NullPointerException (begins (moment p m t))) end m m' out out') → IfOk r (λ end. EventAnswers (monitor_event (moment p m t) at row) end m m' out out')
null_answers p t Enter m m' at out out' r e h = subst (λ (z : Outcome Kept). IfOk r (λ end. EventAnswers z end m m' out out')) (sym (enters_it p m t at None e)) h
null_answers p t Exit m m' at out out' r e h = subst (λ (z : Outcome Kept). IfOk r (λ end. EventAnswers z end m m' out out')) (sym (exits_it p m t at None e)) h

-- at each place in front of the pc
pub null_each : {E : Type 0} (p : Linked) (t next : ℕ) (row : MonitorRow) (m m' : MachineState) (out out' : List Record) (r : Result EventEnd E) → entry_reference (operand_of (top m.guest t) 0) ≡ Some None
    → IfOk r (λ end. EventAnswers (throws (moment p m t) NullPointerException (begins (moment p m t))) end m m' out out') → IfOk r (λ end. (at : Site) → at.next ≡ next → EventAnswers (monitor_event (moment p m t) at row) end m m' out out')
null_each {E} p t next row m m' out out' (Ok end) e h = λ at same. null_answers {E = E} p t row m m' at out out' (Ok end) e h
null_each {E} p t next row m m' out out' (Err fault) e h = tt

pub ill_typed_row : (p : Linked) (t : ℕ) (row : MonitorRow) (m m' : MachineState) (at : Site) (out : List Record) (end : EventEnd) → entry_reference (operand_of (top m.guest t) 0) ≡ None → m' ≡ m → end ≡ ill_typed_end m' t
    → EventAnswers (monitor_event (moment p m t) at row) end m m' out out
ill_typed_row p t Enter m m' at out end e same is =
    subst (λ (z : Outcome Kept). EventAnswers z end m m' out out) (sym (no_reference (ill_typed (moment p m t)) (λ x below. enters (moment p m t) at x below) (top m.guest t).operands e)) (ill_typed_answers p t m m' out end same is)
ill_typed_row p t Exit m m' at out end e same is =
    subst (λ (z : Outcome Kept). EventAnswers z end m m' out out) (sym (no_reference (ill_typed (moment p m t)) (λ x below. exits (moment p m t) at x below) (top m.guest t).operands e)) (ill_typed_answers p t m m' out end same is)
