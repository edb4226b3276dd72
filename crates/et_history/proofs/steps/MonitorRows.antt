-- What the two monitor instructions do to monitors, and so what each event does.
use Rattle.std.proofs.Common.{◌≡◌, ℕ, Bool, true, false, List, [], ◌∷◌, length, Option, Some, None, Result, Ok, Err, refl, sym, ◌∙◌, ap, subst, arith}
use Rattle.std.specs.Prelude.{if◌then◌else◌, is_some}
use Rattle.std.specs.Option.{option_or}
use Rattle.std.proofs.lemmas.Option.{none-some}
use Rattle.et_event.proofs.Running.{some_frame}
use Rattle.et_base.specs.declared.value.Value.{Value}
use Rattle.et_base.specs.declared.value.Value.TheVariants.{Unset, Int, Long, LongHigh, Null, Ref}
use Rattle.et_base.proofs.Options.{is_none}
use Rattle.et_code.specs.declared.instr.Instr.{Instr}
use Rattle.et_code.specs.declared.instr.CodeFault.{CodeFault}
use Rattle.et_heap.specs.Objects.{IsHeld, ObjectState, new_object}
use Rattle.et_state.specs.declared.stage.Turn.{Turn}
use Rattle.et_state.specs.declared.stage.Turn.TheVariants.{Unwind, EndThread, Entry, Initialize, Instruction}
use Rattle.et_state.specs.Threads.{FrameState, ThreadState, has_frame, is_before_class, top_of, with_top_of, turn_of, as_entered, with_pending}
use Rattle.et_state.specs.State.{Kept}
use Rattle.et_state.specs.Words.{thread_at, IsUnended}
use Rattle.et_state.specs.Outcome.{Outcome}
use Rattle.et_event.specs.declared.rows.MonitorRow.{MonitorRow}
use Rattle.et_event.specs.declared.rows.Row.{Row}
use Rattle.et_event.specs.Checks.{with_reference, not_null, waits_unless, throws_unless}
use Rattle.et_event.specs.Event.{by_row, by_instruction, does_turn, event}
use Rattle.et_event.specs.Heap.{leaving_values}
use Rattle.et_event.specs.Moments.{Moment, Doing, later, thread_of, current_frame, begins, ill_typed, goes, throws, next_object, instance_made, with_thread_state, entry_given_up, pending_now, fits_heap}
use Rattle.et_event.specs.Monitors.{Lock, OfObject, may_enter, owns, entered, left}
use Rattle.et_event.specs.Sites.{Site, site_of, decoded_at}
use Rattle.et_event.specs.Sync.{monitor_event}
use Rattle.et_event.specs.Table.{row_of}
use Rattle.et_program.specs.Entries.{Linked, class_at}
use Rattle.et_event.specs.declared.errors.GuestError.{GuestError}
use Rattle.et_event.specs.Errors.{error_class}
use Rattle.et_event.specs.Sound.{IsSoundFor}
use Rattle.et_history.specs.steps.Holding.{monitor_row, monitor_row_at, row_decoded, object_on, entered_by_row, left_by_row}
use Rattle.et_history.specs.steps.Changing.{KeepsMonitors}
use Rattle.et_history.specs.steps.Steps.{AllObjects, Comes, IsFramed, Leads, Phase}
use Rattle.et_history.specs.steps.Values.{Fines, FineFrame}
use Rattle.et_state.proofs.Steps.{newest_held}
use Rattle.et_history.proofs.steps.Held.{Ready, frame_fine}
use Rattle.et_history.proofs.steps.Monitors.{way, entered_still, left_still}
use Rattle.et_history.proofs.steps.MonitorFrames.{Does, Fits, Moved, moved_by, pushed_lock, dropped_lock, beyond_none, level_fits}
use Rattle.et_history.proofs.steps.SaysMonitors.{by_monitors, by_steps}
use Rattle.et_history.proofs.steps.Turns.{event_leads}
use Rattle.et_history.proofs.steps.WaitingLists.{KeepLists}
use Rattle.et_history.proofs.steps.Words.{Still, level, begun, thread_now, top_still, instance_still, pending_still, given_up_still}
use Rattle.et_event.specs.Runnable.{IsRunnable}
use Rattle.et_history.proofs.soundness.Turning.{parts}
use Rattle.et_history.proofs.soundness.Outcomes.{if_case}
use Rattle.et_state.specs.Outcome as outcome
use Rattle.et_event.specs.declared.errors.GuestError.TheVariants as errors
use Rattle.et_event.specs.declared.rows.MonitorRow.TheVariants as monitor
use Rattle.et_event.specs.declared.rows.Row.TheVariants as row

-- what throws leaves something pending
abbrev IsPending : Moment → Kept → Type 0
IsPending e after = (o : ℕ) × ((thread_at after.guest e.thread).pending ≡ Some o)

abbrev Throws : Moment → Outcome Kept → Type 0
Throws e (outcome.Goes after records) = Fits e after × IsPending e after
Throws e (outcome.Waits after) = ⊥
Throws e (outcome.IllTyped method pc) = Unit {0}
Throws e outcome.ObjectLimit = Unit {0}

throws_pends : (e : Moment) (error : GuestError) (d : Doing) → Still e (level e) d.state → Throws e (throws e error d)
throws_pends e error d h =
    let class : ℕ = error_class e.program error in
    let made : ObjectState = new_object class 0 (class_at e.program class).info.slots in
    let x : Doing = entry_given_up e d in
    let y : Doing = instance_made e class x in
    let z : Doing = pending_now e (next_object d) y in
    let there : Still e (level e) y.state = instance_still e class x (given_up_still e d h) in
    let held : IsHeld y.state.heap (next_object d) =
    if_case (λ (u : Doing). IsHeld (instance_made e class u).state.heap (next_object d)) (has_frame (thread_at d.state.guest e.thread).frames) d (with_thread_state e (as_entered (thread_at d.state.guest e.thread)) d)
    (newest_held d.state.heap made) (newest_held d.state.heap made) in
    let pends : (thread_at z.state.guest e.thread).pending ≡ Some (next_object d) =
    ap (λ (t : ThreadState). t.pending) (thread_now y.state e.thread (with_pending (Some (next_object d)) (thread_at y.state.guest e.thread)) there.thread) in
    if_case (Throws e) (fits_heap z.state.heap) (outcome.Goes z.state z.records) outcome.ObjectLimit (level_fits e z.state (pending_still e (next_object d) y there held), (next_object d, pends)) tt

record Stands (e : Moment) : Type 0 where
  ready : Ready e
  framed : IsFramed e

first : (e : Moment) → Stands e → Still e (level e) (begins e).state
first e here = begun e here.ready.knows.sound.held here.ready.knows.thread.thread

leaving_still : (e : Moment) (at : Site) (ops : List Value) → Stands e → Fines e.before.heap ops → Still e (level e) (leaving_values e at ops (begins e)).state
leaving_still e at ops here f =
    let was : FineFrame e.before.heap (current_frame e) = frame_fine e here.ready in
    top_still e (record (current_frame e) { pc = at.next; operands = ops }) (begins e).state here.framed (first e here) (record { locals = was.locals; operands = f; lock = was.lock })

-- what an event does that is at this monitor instruction, or at none
abbrev KeepsBy : Moment → Option MonitorRow → Option ℕ → Outcome Kept → Type 0
KeepsBy e r o (outcome.Goes next records) =
    Moved e (option_or (entered_by_row r o) (pushed_lock e next)) (option_or (left_by_row r (thread_at next.guest e.thread).pending o) (dropped_lock e next)) next
KeepsBy e r o (outcome.Waits next) = next ≡ later e.before
KeepsBy e r o (outcome.IllTyped method pc) = Unit {0}
KeepsBy e r o outcome.ObjectLimit = Unit {0}

by_none : (e : Moment) (x : Outcome Kept) → Does e x → KeepsBy e None (object_on (current_frame e).operands) x
by_none e (outcome.Goes next records) h = h
by_none e (outcome.Waits next) h = h
by_none e (outcome.IllTyped method pc) h = tt
by_none e outcome.ObjectLimit h = tt

-- MONITORENTER: a null throws
enter_throws : (e : Moment) (x : Outcome Kept) → Throws e x → KeepsBy e (Some monitor.Enter) None x
enter_throws e (outcome.Goes next records) h = h.0
enter_throws e (outcome.Waits next) h = absurd h
enter_throws e (outcome.IllTyped method pc) h = tt
enter_throws e outcome.ObjectLimit h = tt

level_moves : (e : Moment) (entry exit : Option Lock) (s : Kept) → Still e (way (length (thread_of e).frames) entry exit) s → (pushed_lock e s ≡ None) × (dropped_lock e s ≡ None)
level_moves e entry exit s h =
    let same = h.frames in
    (beyond_none e.program (thread_at s.guest e.thread).frames (thread_of e).frames (λ x. omega arith), beyond_none e.program (thread_of e).frames (thread_at s.guest e.thread).frames (λ x. omega arith))

enter_goes : (e : Moment) (at : Site) (o : ℕ) (below : List Value) → Stands e → IsHeld e.before.heap o → Fines e.before.heap below → may_enter e (begins e) (OfObject o) ≡ true
    → KeepsBy e (Some monitor.Enter) (Some o) (goes (entered e (OfObject o) (leaving_values e at below (begins e))))
enter_goes e at o below here held f may =
    let d : Doing = leaving_values e at below (begins e) in
    let s : Kept = (entered e (OfObject o) d).state in
    let frame_after = entered_still e (length (thread_of e).frames) (OfObject o) d (leaving_still e at below here f) held in
    let none = level_moves e (Some (OfObject o)) None s frame_after in
    subst (λ (x : Option Lock). Moved e (Some (OfObject o)) x s) (sym none.1) (moved_by e (Some (OfObject o)) None s frame_after (held, may) tt)

waits_case : (e : Moment) (o : ℕ) (b : Bool) (go : Outcome Kept) → (b ≡ true → KeepsBy e (Some monitor.Enter) (Some o) go) → KeepsBy e (Some monitor.Enter) (Some o) (waits_unless e b go)
waits_case e o true go h = h refl
waits_case e o false go h = refl

enter_does : (e : Moment) (at : Site) (ops : List Value) → Stands e → Fines e.before.heap ops
    → KeepsBy e (Some monitor.Enter) (object_on ops) (with_reference (ill_typed e) ops (λ r below.
    not_null e (begins e) r (λ o. waits_unless e (may_enter e (begins e) (OfObject o)) (goes (entered e (OfObject o) (leaving_values e at below (begins e)))))))
enter_does e at [] here f = tt
enter_does e at (Unset ∷ below) here f = tt
enter_does e at (Int n ∷ below) here f = tt
enter_does e at (Long n ∷ below) here f = tt
enter_does e at (LongHigh ∷ below) here f = tt
enter_does e at (Null ∷ below) here f = enter_throws e (throws e errors.NullPointerException (begins e)) (throws_pends e errors.NullPointerException (begins e) (first e here))
enter_does e at (Ref o ∷ below) here f =
    waits_case e o (may_enter e (begins e) (OfObject o)) (goes (entered e (OfObject o) (leaving_values e at below (begins e)))) (λ may. enter_goes e at o below here f.0 f.1 may)

-- MONITOREXIT: what throws leaves nothing
left_by_none : (o : Option ℕ) (pending : Option ℕ) (q : ℕ) → pending ≡ Some q → left_by_row (Some monitor.Exit) pending o ≡ None
left_by_none o pending q e = ap (λ (p : Option ℕ). left_by_row (Some monitor.Exit) p o) e

exit_throws : (e : Moment) (o : Option ℕ) (x : Outcome Kept) → Throws e x → KeepsBy e (Some monitor.Exit) o x
exit_throws e o (outcome.Goes next records) h =
    let none : left_by_row (Some monitor.Exit) (thread_at next.guest e.thread).pending o ≡ None = left_by_none o (thread_at next.guest e.thread).pending h.1.0 h.1.1 in
    subst (λ (x : Option Lock). Moved e (pushed_lock e next) (option_or x (dropped_lock e next)) next) (sym none) h.0
exit_throws e o (outcome.Waits next) h = absurd h
exit_throws e o (outcome.IllTyped method pc) h = tt
exit_throws e o outcome.ObjectLimit h = tt

exit_goes : (e : Moment) (at : Site) (o : ℕ) (below : List Value) → Stands e → (thread_of e).pending ≡ None → IsHeld e.before.heap o → Fines e.before.heap below → owns e (begins e) (OfObject o) ≡ true
    → KeepsBy e (Some monitor.Exit) (Some o) (goes (left (OfObject o) (leaving_values e at below (begins e))))
exit_goes e at o below here quiet held f owned =
    let d : Doing = leaving_values e at below (begins e) in
    let s : Kept = (left (OfObject o) d).state in
    let before : Still e (level e) d.state = leaving_still e at below here f in
    let frame_after = left_still e (length (thread_of e).frames) (OfObject o) d before held owned in
    let none = level_moves e None (Some (OfObject o)) s frame_after in
    let top : FrameState = record (current_frame e) { pc = at.next; operands = below } in
    let pending : (thread_at s.guest e.thread).pending ≡ None = ap (λ (t : ThreadState). t.pending) (thread_now (begins e).state e.thread (with_top_of (thread_of e) top) here.ready.knows.thread.thread) ∙ quiet in
    let lock : left_by_row (Some monitor.Exit) (thread_at s.guest e.thread).pending (Some o) ≡ Some (OfObject o) = ap (λ (p : Option ℕ). left_by_row (Some monitor.Exit) p (Some o)) pending in
    subst (λ (x : Option Lock). Moved e (pushed_lock e s) (option_or x (dropped_lock e s)) s) (sym lock)
    (subst (λ (x : Option Lock). Moved e x (Some (OfObject o)) s) (sym none.0) (moved_by e None (Some (OfObject o)) s frame_after tt held))

thrown_case : (e : Moment) (o : ℕ) (b : Bool) (go : Outcome Kept) → Stands e → (b ≡ true → KeepsBy e (Some monitor.Exit) (Some o) go) → KeepsBy e (Some monitor.Exit) (Some o) (throws_unless e (begins e) errors.IllegalMonitorStateException b go)
thrown_case e o true go here h = h refl
thrown_case e o false go here h = exit_throws e (Some o) (throws e errors.IllegalMonitorStateException (begins e)) (throws_pends e errors.IllegalMonitorStateException (begins e) (first e here))

exit_does : (e : Moment) (at : Site) (ops : List Value) → Stands e → (thread_of e).pending ≡ None → Fines e.before.heap ops
    → KeepsBy e (Some monitor.Exit) (object_on ops) (with_reference (ill_typed e) ops (λ r below.
    not_null e (begins e) r (λ o. throws_unless e (begins e) errors.IllegalMonitorStateException (owns e (begins e) (OfObject o)) (goes (left (OfObject o) (leaving_values e at below (begins e)))))))
exit_does e at [] here quiet f = tt
exit_does e at (Unset ∷ below) here quiet f = tt
exit_does e at (Int n ∷ below) here quiet f = tt
exit_does e at (Long n ∷ below) here quiet f = tt
exit_does e at (LongHigh ∷ below) here quiet f = tt
exit_does e at (Null ∷ below) here quiet f = exit_throws e None (throws e errors.NullPointerException (begins e)) (throws_pends e errors.NullPointerException (begins e) (first e here))
exit_does e at (Ref o ∷ below) here quiet f =
    thrown_case e o (owns e (begins e) (OfObject o)) (goes (left (OfObject o) (leaving_values e at below (begins e)))) here (λ owned. exit_goes e at o below here quiet f.0 f.1 owned)

monitor_does : (e : Moment) (at : Site) (r : MonitorRow) → Stands e → (thread_of e).pending ≡ None → KeepsBy e (Some r) (object_on (current_frame e).operands) (monitor_event e at r)
monitor_does e at monitor.Enter here quiet = enter_does e at (current_frame e).operands here (frame_fine e here.ready).operands
monitor_does e at monitor.Exit here quiet = exit_does e at (current_frame e).operands here quiet (frame_fine e here.ready).operands

-- THE TURN of a monitor instruction

quiet_now : (pending has before entered : Bool) → (if pending then (if has then Unwind else EndThread) else (if has then (if before then Initialize else Instruction) else (if entered then EndThread else Entry))) ≡ Instruction → pending ≡ false
quiet_now true true before entered e = cc
quiet_now true false before entered e = cc
quiet_now false has before entered e = refl

module _ (e : Moment) (ready : Ready e) where
  row_keeps : (at : Site) (r : Option Row) (x : MonitorRow) → Stands e → (thread_of e).pending ≡ None → monitor_row r ≡ Some x → KeepsBy e (Some x) (object_on (current_frame e).operands) (by_row e at r)
  row_keeps at None x here quiet is = tt
  row_keeps at (Some (row.Frame r)) x here quiet is = absurd (none-some x is)
  row_keeps at (Some row.PoolConstant) x here quiet is = absurd (none-some x is)
  row_keeps at (Some (row.Divide n o)) x here quiet is = absurd (none-some x is)
  row_keeps at (Some (row.Heap r)) x here quiet is = absurd (none-some x is)
  row_keeps at (Some (row.Call r)) x here quiet is = absurd (none-some x is)
  row_keeps at (Some row.Throw) x here quiet is = absurd (none-some x is)
  row_keeps at (Some (row.Monitor r)) x here quiet is = subst (λ (y : Option MonitorRow). KeepsBy e y (object_on (current_frame e).operands) (monitor_event e at r)) is (monitor_does e at r here quiet)

  instruction_keeps : (q : Result (Instr × ℕ) CodeFault) (x : MonitorRow) → Stands e → (thread_of e).pending ≡ None → monitor_row (row_decoded q) ≡ Some x → KeepsBy e (Some x) (object_on (current_frame e).operands) (by_instruction e q)
  instruction_keeps (Err fault) x here quiet is = tt
  instruction_keeps (Ok y) x here quiet is = row_keeps (site_of e.program (current_frame e) y) (row_of y.0.opcode) x here quiet is

  turn_keeps : (turn : Turn) (x : MonitorRow) → turn_of (thread_of e) ≡ turn → monitor_row_at e turn ≡ Some x → KeepsBy e (Some x) (object_on (current_frame e).operands) (does_turn e turn)
  turn_keeps Unwind x same is = absurd (none-some x is)
  turn_keeps EndThread x same is = absurd (none-some x is)
  turn_keeps Entry x same is = absurd (none-some x is)
  turn_keeps Initialize x same is = absurd (none-some x is)
  turn_keeps Instruction x same is =
      let t : ThreadState = thread_of e in
      let says = (parts t).instruction same in
      let quiet : t.pending ≡ None = is_none t.pending (quiet_now (is_some t.pending) (has_frame t.frames) (is_before_class (top_of t).stage) t.entered same) in
      instruction_keeps (decoded_at e.program (current_frame e)) x (record { ready = ready; framed = some_frame t.frames says.0 }) quiet is

  -- at a monitor instruction or at none
  this_turn : (r : Option MonitorRow) → monitor_row_at e (turn_of (thread_of e)) ≡ r → Leads e (does_turn e (turn_of (thread_of e)))
      → KeepsBy e r (object_on (current_frame e).operands) (does_turn e (turn_of (thread_of e)))
  this_turn None is leads = by_none e (does_turn e (turn_of (thread_of e))) (by_monitors e ready is (does_turn e (turn_of (thread_of e))) leads)
  this_turn (Some x) is leads = turn_keeps (turn_of (thread_of e)) x refl is

abbrev KeepsSo : Moment → Outcome Kept → Type 0
KeepsSo e o = KeepsBy e (monitor_row_at e (turn_of (thread_of e))) (object_on (current_frame e).operands) o

as_monitors : (e : Moment) (o : Outcome Kept) → KeepsSo e o → KeepsMonitors e o
as_monitors e (outcome.Goes next records) h = h.moves
as_monitors e (outcome.Waits next) h = h
as_monitors e (outcome.IllTyped method pc) h = tt
as_monitors e outcome.ObjectLimit h = tt

-- what waits waits in one list after it
abbrev pub LeadsLined : Moment → Outcome Kept → Type 0
LeadsLined e (outcome.Goes next records) = KeepLists e.before.heap next.heap
LeadsLined e (outcome.Waits next) = next ≡ later e.before
LeadsLined e (outcome.IllTyped method pc) = Unit {0}
LeadsLined e outcome.ObjectLimit = Unit {0}

as_lists : (e : Moment) (o : Outcome Kept) → KeepsSo e o → LeadsLined e o
as_lists e (outcome.Goes next records) h = h.lists
as_lists e (outcome.Waits next) h = h
as_lists e (outcome.IllTyped method pc) h = tt
as_lists e outcome.ObjectLimit h = tt

-- a turn that does no monitor instruction, and steps of one
pub fits_keep : (e : Moment) → monitor_row_at e (turn_of (thread_of e)) ≡ None → (d : Doing) → Fits e d.state → KeepsMonitors e (goes d) × LeadsLined e (goes d)
fits_keep e none d h =
    let keeps : KeepsSo e (goes d) = subst (λ (r : Option MonitorRow). KeepsBy e r (object_on (current_frame e).operands) (goes d)) (sym none) h in
    (keeps.moves, keeps.lists)

pub steps_keep : (e : Moment) → Ready e → monitor_row_at e (turn_of (thread_of e)) ≡ None → (ph : Phase) (d : Doing) → Comes e AllObjects ph d → KeepsMonitors e (goes d) × LeadsLined e (goes d)
steps_keep e ready none ph d h = fits_keep e none d (by_steps e ready none ph d h)

module _ (p : Linked) (s : Kept) (t : ℕ) (sound : IsSoundFor p s) (unended : IsUnended s.guest t) (may : IsRunnable p) where
  abbrev now : Moment
  now = record { program = p; before = s; thread = t }

  event_so : KeepsSo now (event p s t)
  unfolding event
  event_so =
      let ready : Ready now = record { knows = record { sound = sound; thread = unended; classes = may.owners }; may = may } in
      this_turn now ready (monitor_row_at now (turn_of (thread_of now))) refl (event_leads p s t sound unended may)

  -- what an event does to monitors
  pub event_keeps_monitors : KeepsMonitors now (event p s t)
  event_keeps_monitors = as_monitors now (event p s t) event_so

  -- .. and to what waits
  pub event_keeps_lists : LeadsLined now (event p s t)
  event_keeps_lists = as_lists now (event p s t) event_so
