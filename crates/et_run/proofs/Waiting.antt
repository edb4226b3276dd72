-- A thread that waits at the monitor of an object waits there again, as long as nobody else has the turn.
use Rattle.std.proofs.Common.{◌≡◌, ℕ, zero, suc, ◌+◌, ◌<◌, ◌≤◌, ◌^◌, Bool, true, false, List, [], ◌∷◌, Option, Some, None, Result, refl, sym, ◌∙◌, ap, subst, arith}
use Rattle.std.specs.Prelude.{if◌then◌else◌, option_and_then, slice_index}
use Rattle.std.specs.Option.{option_map_or}
use Rattle.et_base.specs.declared.value.Value.{Value}
use Rattle.et_base.specs.declared.value.Value.TheVariants.{Unset, Int, Long, LongHigh, Null, Ref}
use Rattle.et_code.specs.declared.instr.Instr.{Instr}
use Rattle.et_code.specs.declared.instr.CodeFault.{CodeFault}
use Rattle.et_program.specs.Entries.{Linked}
use Rattle.et_state.specs.declared.stage.Turn.{Turn}
use Rattle.et_state.specs.declared.stage.Turn.TheVariants.{Instruction}
use Rattle.et_state.specs.declared.ends.EventEnd.{EventEnd}
use Rattle.et_state.specs.declared.ends.EventEnd.TheVariants as ends
use Rattle.et_state.specs.declared.records.Record.{Record}
use Rattle.et_state.specs.Answers.{Answers}
use Rattle.et_state.specs.Moves.{IsEventOf}
use Rattle.et_state.specs.Outcome.{Outcome, Goes, Waits, IllTyped, ObjectLimit, state_after, records_of, end_by}
use Rattle.et_state.specs.Roots.{graph_of, fresh_of}
use Rattle.et_state.specs.Running.{passed}
use Rattle.et_state.specs.Spoken.{silent, spoken}
use Rattle.et_state.specs.State.{Kept, MachineState, kept_of}
use Rattle.et_state.specs.Texts.{Texts}
use Rattle.et_state.specs.Words.{IsUnended, top}
use Rattle.et_state.proofs.UnderWay.{start, finish, no_fresh}
use Rattle.et_event.specs.declared.errors.GuestError.{GuestError}
use Rattle.et_event.specs.declared.errors.GuestError.TheVariants.{NullPointerException}
use Rattle.et_event.specs.declared.rows.MonitorRow.TheVariants.{Enter}
use Rattle.et_event.specs.declared.rows.Row.{Row}
use Rattle.et_event.specs.Checks.{Reference, with_reference, not_null, waits_unless}
use Rattle.et_event.specs.Errors.{error_class}
use Rattle.et_event.specs.Event.{event, by_instruction, by_row, does_turn}
use Rattle.et_event.specs.Heap.{leaving_values}
use Rattle.et_event.specs.Moments.{Moment, Doing, begins, entry_given_up, fits_heap, goes, ill_typed, instance_made, later, next_object, pending_now, throws, waits}
use Rattle.et_event.specs.Monitors.{OfObject, may_enter, entered}
use Rattle.et_event.specs.Out.{out_at, out_by, out_turn}
use Rattle.et_event.specs.Selected.{TextCall, text_call, text_call_at, text_call_by, text_call_in}
use Rattle.et_event.specs.Sites.{Site, site_of}
use Rattle.et_event.specs.Sync.{monitor_event}
use Rattle.et_event.specs.TextRows.{said_in}
use Rattle.et_event.specs.Told.{event_with_texts, keeping, said_by}
use Rattle.et_event.proofs.OutTurns.{out_at_turn}
use Rattle.et_event.proofs.Told.{of-table}
use Rattle.et_event.proofs.SiteAnswers.{moment}
use Rattle.et_history.specs.steps.Changing.{KeepsMonitors, LeadsToSound}
use Rattle.et_history.specs.texts.Texts.{LeadsToSoundTexts}
use Rattle.et_history.specs.Settings.{IsSoundRun, unended_threads}
use Rattle.et_loop.specs.Kept.{IsStepTo}
use Rattle.et_loop.specs.Quiet.{AreQuiet}
use Rattle.et_run.specs.Waits.{HasWaited, IsAtMonitor}
use Rattle.et_run.proofs.Answering.{unended_with}
use Rattle.et_run.proofs.QuietFrames.{TextsStaySound}
use Rattle.et_run.proofs.Soundly.{EventsLeadToSound}
use Rattle.et_run.proofs.Stretching.{quiet_marks}

-- WHAT A WAIT IS

abbrev IsWait : Outcome Kept → Type 0
IsWait (Goes next records) = ⊥
IsWait (Waits next) = Unit {0}
IsWait (IllTyped method pc) = ⊥
IsWait ObjectLimit = ⊥

-- an event that throws is none
fits_without : (d : Doing) (b : Bool) → IsWait (if b then Goes d.state d.records else ObjectLimit) → ⊥
fits_without d true h = h
fits_without d false h = h

throws_without : (e : Moment) (error : GuestError) (d : Doing) → IsWait (throws e error d) → ⊥
throws_without e error d h =
    let thrown : Doing = pending_now e (next_object d) (instance_made e (error_class e.program error) (entry_given_up e d)) in
    fits_without thrown (fits_heap thrown.state.heap) h

keeping_wait : (x : Texts) (o : Outcome Kept) → IsWait (keeping x o) → IsWait o
keeping_wait x (Goes next records) h = h
keeping_wait x (Waits next) h = h
keeping_wait x (IllTyped method pc) h = h
keeping_wait x ObjectLimit h = h

taken_again : (ill ill' wait : Outcome Kept) (go go' : Reference → List Value → Outcome Kept) → (IsWait ill → ⊥) → ((r : Reference) (below : List Value) → IsWait (go r below) → go' r below ≡ wait)
    → (ops : List Value) → IsWait (with_reference ill ops go) → with_reference ill' ops go' ≡ wait
taken_again ill ill' wait go go' never again [] h = absurd (never h)
taken_again ill ill' wait go go' never again (Unset ∷ below) h = absurd (never h)
taken_again ill ill' wait go go' never again (Int n ∷ below) h = absurd (never h)
taken_again ill ill' wait go go' never again (Long n ∷ below) h = absurd (never h)
taken_again ill ill' wait go go' never again (LongHigh ∷ below) h = absurd (never h)
taken_again ill ill' wait go go' never again (Null ∷ below) h = again None below h
taken_again ill ill' wait go go' never again (Ref o ∷ below) h = again (Some o) below h

-- a thread at a monitorenter enters
enters_there : (p : Linked) (s : Kept) (t : ℕ) (m : IsAtMonitor p s t) → event p s t ≡ monitor_event (moment p s t) (site_of p (top s.guest t) m.decoded) Enter
unfolding event
enters_there p s t m =
    ap (λ (x : Turn). does_turn (moment p s t) x) m.turn
    ∙ (ap (λ (d : Result (Instr × ℕ) CodeFault). by_instruction (moment p s t) d) m.there
    ∙ ap (λ (r : Option Row). by_row (moment p s t) (site_of p (top s.guest t) m.decoded) r) m.row)

-- what is answered for one
pub has_waited : (p : Linked) (s s' : Kept) (t : ℕ) (o : Outcome Kept) (end : EventEnd) (out out' : List Record) → event_with_texts p s t ≡ o → KeepsMonitors (moment p s t) o → Answers o end s s' out out' → end ≡ ends.Waited → HasWaited p s' t
has_waited p s s' t (Waits next) ends.Waited out out' e keeps h is = record { before = s; later_is = h.0 ∙ keeps; waited = e ∙ ap (λ (x : Kept). Waits x) (sym h.0) }
has_waited p s s' t (Goes next records) ends.Done out out' e keeps h is = cc
has_waited p s s' t (IllTyped method pc) (ends.IllTyped named at) out out' e keeps h is = cc
has_waited p s s' t ObjectLimit ends.ObjectLimit out out' e keeps h is = cc
has_waited p s s' t _ _ out out' e keeps h is = absurd h

-- AT ANOTHER TIME a thread that waits for a monitor waits for it too

abbrev at_time : ℕ → Kept → Kept
at_time c s = record { heap = s.heap; guest = record s.guest { clock = c } }

abbrev at_monitor : (p : Linked) (s : Kept) (t c : ℕ) → IsAtMonitor p s t → IsAtMonitor p (at_time c s) t
at_monitor p s t c m = record { turn = m.turn; decoded = m.decoded; there = m.there; row = m.row }

module _ (p : Linked) (s : Kept) (t c : ℕ) where
  abbrev here : Moment
  here = moment p s t

  abbrev there : Moment
  there = moment p (at_time c s) t

  shut_again : (b : Bool) (d d' : Doing) → IsWait (waits_unless here b (goes d)) → waits_unless there b (goes d') ≡ waits there
  shut_again true d d' h = absurd h
  shut_again false d d' h = refl

  abbrev enters : Moment → Site → Reference → List Value → Outcome Kept
  enters e at r below = not_null e (begins e) r (λ o. waits_unless e (may_enter e (begins e) (OfObject o)) (goes (entered e (OfObject o) (leaving_values e at below (begins e)))))

  held_again : (at : Site) (r : Reference) (below : List Value) → IsWait (enters here at r below) → enters there at r below ≡ waits there
  held_again at None below h = absurd (throws_without here NullPointerException (begins here) h)
  held_again at (Some o) below h = shut_again (may_enter here (begins here) (OfObject o)) _ _ h

  enter_again : (at : Site) → IsWait (monitor_event here at Enter) → monitor_event there at Enter ≡ waits there
  enter_again at = taken_again (ill_typed here) (ill_typed there) (waits there) (enters here at) (enters there at) (λ h. h) (held_again at) (top s.guest t).operands

  event_again : IsAtMonitor p s t → IsWait (event p s t) → event p (at_time c s) t ≡ Waits (later (at_time c s))
  event_again m h =
      enters_there p (at_time c s) t (at_monitor p s t c m) ∙ enter_again (site_of p (top s.guest t) m.decoded) (subst (λ (o : Outcome Kept). IsWait o) (enters_there p s t m) h)

-- .. in a state with texts: no method of texts is called, and System.out isn't read
module _ (p : Linked) (s : Kept) (t : ℕ) (m : IsAtMonitor p s t) where
  calls_no_text : text_call p s t ≡ None
  unfolding text_call
  calls_no_text =
      let e : Moment = record { program = p; before = s; thread = t } in
      ap (λ (x : Turn). text_call_in e x) m.turn
      ∙ (ap (λ (d : Result (Instr × ℕ) CodeFault). text_call_by e d) m.there
      ∙ ap (λ (r : Option Row). option_and_then (text_call_at e (site_of p (top s.guest t) m.decoded)) r) m.row)

  reads_no_out : out_turn p s t ≡ None
  reads_no_out =
      let e : Moment = record { program = p; before = s; thread = t } in
      out_at_turn p s t Instruction m.turn
      ∙ (ap (λ (d : Result (Instr × ℕ) CodeFault). out_by e d) m.there
      ∙ ap (λ (r : Option Row). option_and_then (out_at e (site_of p (top s.guest t) m.decoded)) r) m.row)

  by_table : event_with_texts p s t ≡ keeping s.guest.texts (event p (silent s) t)
  by_table = of-table p s t calls_no_text reads_no_out

  prints_nothing : said_by p s t ≡ []
  prints_nothing = ap (λ (c : Option TextCall). option_map_or (said_in (record { program = p; before = s; thread = t })) c []) calls_no_text

waits_again : (p : Linked) (s : Kept) (t c : ℕ) → IsAtMonitor p s t → IsWait (event_with_texts p s t) → event_with_texts p (at_time c s) t ≡ Waits (later (at_time c s))
waits_again p s t c m h =
    let silently : IsAtMonitor p (silent s) t = record { turn = m.turn; decoded = m.decoded; there = m.there; row = m.row } in
    let was : IsWait (event p (silent s) t) = keeping_wait s.guest.texts (event p (silent s) t) (subst (λ (o : Outcome Kept). IsWait o) (by_table p s t m) h) in
    by_table p (at_time c s) t (at_monitor p s t c m) ∙ ap (λ (o : Outcome Kept). keeping s.guest.texts o) (event_again p (silent s) t c silently was)

-- SO MANY OF THEM, behind a wait

abbrev after : Kept → ℕ → Kept
after s k = record { heap = s.heap; guest = passed k s.guest }

module _ (p : Linked) (s : Kept) (t : ℕ) (sound_now : IsSoundRun p s) (thread : IsUnended s.guest t) (m : IsAtMonitor p s t) (w : HasWaited p s t) (leads_sound : EventsLeadToSound) (texts_sound : TextsStaySound) where
  waits_now : (k : ℕ) → event_with_texts p (after s k) t ≡ Waits (later (after s k))
  waits_now k =
      let back : Kept = at_time w.before.guest.clock s in
      let same : w.before ≡ back = ap (λ (x : Kept). at_time w.before.guest.clock x) (sym w.later_is) in
      let was : IsWait (event_with_texts p w.before t) = subst (λ (o : Outcome Kept). IsWait o) (sym w.waited) tt in
      waits_again p back t (s.guest.clock + k) (at_monitor p s t w.before.guest.clock m) (subst (λ (x : Kept). IsWait (event_with_texts p x t)) same was)

  one_more : (k : ℕ) → later (after s k) ≡ after s (suc k)
  one_more k =
      let one : s.guest.clock + k + 1 ≡ s.guest.clock + suc k = omega arith in
      ap (λ (n : ℕ). at_time n s) one

  leads_now : (k : ℕ) → event_with_texts p (after s k) t ≡ Waits (after s (suc k))
  leads_now k = waits_now k ∙ ap (λ (x : Kept). Waits x) (one_more k)

  pub record Stands (k : ℕ) : Type 0 where
    pub quiet : (place : ℕ) (stamps : List ℕ) → slice_index (unended_threads s) place ≡ t → AreQuiet (event_with_texts p) (said_by p) unended_threads graph_of place k s.guest.clock s (after s k) stamps stamps
    pub sound : IsSoundRun p (after s k)

  stands_first : Stands 0
  unfolding AreQuiet
  stands_first =
      let now : s.guest.clock + 0 ≡ s.guest.clock = omega arith in
      let is : after s 0 ≡ s = ap (λ (n : ℕ). at_time n s) now in
      record {
        quiet = λ place stamps at. (is, refl);
        sound = subst (λ (x : Kept). IsSoundRun p x) (sym is) sound_now;
      }

  step_now : (k : ℕ) → IsSoundRun p (after s k) → IsStepTo (graph_of (after s k)) (graph_of (after s (suc k))) []
  step_now k sound =
      let led : IsEventOf (after s k) (later (after s k)) [] = finish (after s k) (later (after s k)) [] (start (after s k) sound.state.held) (λ o c. absurd (no_fresh (after s k) (later (after s k)) refl o c)) in
      let to : IsEventOf (after s k) (after s (suc k)) [] = subst (λ (x : Kept). IsEventOf (after s k) x []) (one_more k) led in
      (fresh_of (after s k) (after s (suc k)), to.legal)

  stands_next : (k : ℕ) → s.guest.clock + k < 2 ^ 40 → Stands k → Stands (suc k)
  unfolding AreQuiet
  stands_next k early c = record {
    quiet = λ place stamps at. (
      after s k,
      stamps,
      c.quiet place stamps at,
      record {
        done = ap (λ (o : Outcome Kept). end_by 0 o) (there place at);
        state = sym (ap (λ (o : Outcome Kept). state_after (after s k) o) (there place at));
        told = ap (λ (o : Outcome Kept). records_of o) (there place at);
        unsaid = ap (λ (u : ℕ). said_by p (after s k) u) at ∙ prints_nothing p (after s k) t (at_monitor p s t (s.guest.clock + k) m);
        made = refl;
        count = refl;
        turn = refl;
        marks = quiet_marks (s.guest.clock + k) (graph_of (after s k)) (graph_of (after s (suc k))) [] stamps stamps refl (step_now k c.sound) (λ o never. absurd (omega (arith, never.1))) (λ o out. refl);
        long = refl;
      },
    );
    sound = record {
      tabled = sound_now.tabled;
      runnable = sound_now.runnable;
      state = subst (λ (o : Outcome Kept). LeadsToSound p o) (leads_now k) (leads_sound p (after s k) t c.sound.state unended sound_now.runnable early);
      texts = subst (λ (o : Outcome Kept). LeadsToSoundTexts p o) (leads_now k) (texts_sound p (after s k) t c.sound.state unended sound_now.runnable c.sound.texts);
    };
  }
    where
      there : (place : ℕ) → slice_index (unended_threads s) place ≡ t → event_with_texts p (after s k) (slice_index (unended_threads (after s k)) place) ≡ Waits (after s (suc k))
      there place at = ap (λ (u : ℕ). event_with_texts p (after s k) u) at ∙ leads_now k

      unended : IsUnended (after s k).guest t
      unended = record { thread = thread.thread; unended = thread.unended }

  pub stands : (k : ℕ) → s.guest.clock + k ≤ 2 ^ 40 → Stands k
  stands zero early = stands_first
  stands (suc k) early = stands_next k (omega (arith, early)) (stands k (omega (arith, early)))

-- AS A MACHINE DOES THEM, beside which texts stand
module _ (p : Linked) (m m' : MachineState) (x : Texts) (t count : ℕ) (sound : IsSoundRun p (spoken x (kept_of m))) (thread : IsUnended m.guest t) (at : IsAtMonitor p (kept_of m) t) (w : HasWaited p (spoken x (kept_of m)) t) (early : m.guest.clock + count ≤ 2 ^ 40)
    (now : m' ≡ record m { guest = passed count m.guest; lost = [] }) (leads_sound : EventsLeadToSound) (texts_sound : TextsStaySound) where
  came : Stands p (spoken x (kept_of m)) t sound (unended_with m.guest x t thread) (record { decoded = at.decoded; turn = at.turn; there = at.there; row = at.row }) w leads_sound texts_sound count
  came = stands p (spoken x (kept_of m)) t sound (unended_with m.guest x t thread) (record { decoded = at.decoded; turn = at.turn; there = at.there; row = at.row }) w leads_sound texts_sound count early

  came_to : spoken x (kept_of m') ≡ after (spoken x (kept_of m)) count
  came_to = ap (λ (n : MachineState). spoken x (kept_of n)) now

  pub waited_quietly : (stamps : List ℕ) (place : ℕ) → slice_index (unended_threads (spoken x (kept_of m))) place ≡ t → AreQuiet (event_with_texts p) (said_by p) unended_threads graph_of place count m.guest.clock (spoken x (kept_of m)) (spoken x (kept_of m')) stamps stamps
  waited_quietly stamps place there = subst (λ (k : Kept). AreQuiet (event_with_texts p) (said_by p) unended_threads graph_of place count m.guest.clock (spoken x (kept_of m)) k stamps stamps) (sym came_to) (came.quiet place stamps there)

  pub waited_soundly : IsSoundRun p (spoken x (kept_of m'))
  waited_soundly = subst (λ (k : Kept). IsSoundRun p k) (sym came_to) came.sound
