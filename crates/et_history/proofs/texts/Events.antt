-- The events of a state with texts, by those of the table and by the rows of texts.
use Rattle.std.proofs.Common.{◌≡◌, ℕ, ◌<◌, ◌^◌, List, Option, Some, None, Result, Ok, refl, sym, ◌∙◌, ap, subst, inl, inr}
use Rattle.et_event.proofs.Running.{some_frame}
use Rattle.et_code.specs.declared.instr.Instr.{Instr}
use Rattle.et_code.specs.declared.instr.CodeFault.{CodeFault}
use Rattle.et_program.specs.Entries.{Linked}
use Rattle.et_state.specs.Outcome.{Outcome}
use Rattle.et_state.specs.Outcome as outcome
use Rattle.et_state.specs.Spoken.{silent, spoken}
use Rattle.et_state.specs.State.{Kept}
use Rattle.et_state.specs.Texts.{Texts, no_texts}
use Rattle.et_state.specs.Threads.{turn_of}
use Rattle.et_state.specs.Words.{IsUnended}
use Rattle.et_state.specs.declared.stage.Turn.{Turn}
use Rattle.et_state.specs.declared.stage.Turn.TheVariants.{Instruction}
use Rattle.et_event.specs.Calls.{entry_count, is_static_call}
use Rattle.et_event.specs.Event.{event}
use Rattle.et_event.specs.Frames.{first_reference}
use Rattle.et_event.specs.Moments.{Doing, Moment, begins, current_frame, thread_of}
use Rattle.et_event.specs.Monitors.{Lock}
use Rattle.et_event.specs.Out.{OutRead, out_row, out_turn}
use Rattle.et_event.specs.Runnable.{IsRunnable}
use Rattle.et_event.specs.Selected.{TextCall, text_call}
use Rattle.et_event.specs.Sites.{Site, decoded_at, site_of}
use Rattle.et_event.specs.Sound.{IsSoundFor}
use Rattle.et_event.specs.Table.{row_of}
use Rattle.et_event.specs.TextRows.{is_fit_text, text_row}
use Rattle.et_event.specs.Told.{by_out, by_text_call, event_with_texts, keeping}
use Rattle.et_event.specs.declared.rows.Row.{Row}
use Rattle.et_event.specs.declared.rows.Row.TheVariants.{Call, Heap}
use Rattle.et_event.proofs.Beside.{sound-spoken, held-spoken}
use Rattle.et_history.specs.soundness.WellFormed.{StandsAt}
use Rattle.et_history.proofs.soundness.Turning.{parts, stands_at}
use Rattle.et_history.proofs.steps.Calls.{arguments_fine}
use Rattle.et_history.proofs.steps.Folding.{MadeOf, comes_so}
use Rattle.et_history.proofs.steps.Held.{Ready, first_fine}
use Rattle.et_history.proofs.steps.MonitorFrames.{level_fits}
use Rattle.et_history.proofs.steps.MonitorRows.{LeadsLined, event_keeps_lists, event_keeps_monitors, fits_keep, steps_keep}
use Rattle.et_history.proofs.steps.SaysNames.{by_names, told_event}
use Rattle.et_history.proofs.steps.SaysReached.{by_reached, event_writes_to_reached}
use Rattle.et_history.proofs.steps.SaysRecords.{by_objects, event_tells}
use Rattle.et_history.proofs.steps.SoundStates.{event_leads_to_sound, leads as leads_to_sound}
use Rattle.et_history.specs.steps.Changing.{Changes, KeepsMonitors, LeadsToSound, MovesMonitors}
use Rattle.et_history.specs.steps.Holding.{monitor_row, monitor_row_at, row_decoded}
use Rattle.et_history.specs.steps.Records.{HasPlainStrings, TellsAll, TellsObjects}
use Rattle.et_history.specs.steps.Steps.{IsFramed}
use Rattle.et_history.specs.steps.Telling.{IsToldOf}
use Rattle.et_history.specs.steps.Values.{FineSome, Fines}
use Rattle.et_history.specs.steps.Writes.{WritesToReached}
use Rattle.et_history.proofs.texts.Called.{IsTextCall, text_called}
use Rattle.et_history.proofs.texts.Out.{LeadsOut, as_beside, out_keeps_sound, out_leads, out_slot, with_statics}
use Rattle.et_history.proofs.texts.Read.{IsOutRead, out_found}
use Rattle.et_history.proofs.texts.Rows.{LeadsBeside, done_beside, unless_ill_typed}
use Rattle.et_history.proofs.texts.Sounding.{row_keeps_sound}

abbrev pub moment : Linked → Kept → ℕ → Moment
moment p s t = record { program = p; before = s; thread = t }

-- A TURN THAT DOES AN INSTRUCTION has a frame, and where that is no monitor instruction, it does none

framed_by : (e : Moment) → turn_of (thread_of e) ≡ Instruction → IsFramed e
framed_by e turn = some_frame (thread_of e).frames ((parts (thread_of e)).instruction turn).0

monitor_none : (e : Moment) (x : Instr × ℕ) (r : Row) → turn_of (thread_of e) ≡ Instruction → decoded_at e.program (current_frame e) ≡ Ok x → row_of x.0.opcode ≡ Some r → monitor_row (Some r) ≡ None → monitor_row_at e (turn_of (thread_of e)) ≡ None
monitor_none e x r turn is row none =
    let one : monitor_row_at e (turn_of (thread_of e)) ≡ monitor_row (row_decoded (decoded_at e.program (current_frame e))) = ap (λ (t : Turn). monitor_row_at e t) turn in
    let two : monitor_row (row_decoded (decoded_at e.program (current_frame e))) ≡ monitor_row (row_of x.0.opcode) = ap (λ (q : Result (Instr × ℕ) CodeFault). monitor_row (row_decoded q)) is in
    let three : monitor_row (row_of x.0.opcode) ≡ monitor_row (Some r) = ap (λ (q : Option Row). monitor_row q) row in
    one ∙ (two ∙ (three ∙ none))

-- THE EVENT, by a call of a method of texts, the reading of System.out, and the table

pub each_way : (P : Outcome Kept → Type 0) (p : Linked) (s : Kept) (t : ℕ) → P (keeping s.guest.texts (event p (silent s) t)) → ((call : TextCall) → text_call p s t ≡ Some call → P (text_row (moment p s t) call (first_reference call.arguments)))
    → ((y : OutRead) → out_turn p s t ≡ Some y → P (out_row (moment p s t) y)) → P (event_with_texts p s t)
unfolding event_with_texts
each_way P p s t table row read = by (text_call p s t) refl
  where
    by_read : (y : Option OutRead) → out_turn p s t ≡ y → P (by_out (moment p s t) y)
    by_read None is = table
    by_read (Some y) is = read y is

    by : (call : Option TextCall) → text_call p s t ≡ call → P (by_text_call (moment p s t) call)
    by None is = by_read (out_turn p s t) refl
    by (Some call) is = row call is

-- a row of texts is one
pub record IsRow (e : Moment) (slot : ℕ) (o : Outcome Kept) : Type 0 where
  pub leads : LeadsOut e slot o
  pub none : monitor_row_at e (turn_of (thread_of e)) ≡ None

module _ (p : Linked) (s : Kept) (t : ℕ) (sound : IsSoundFor p s) (unended : IsUnended s.guest t) (may : IsRunnable p) where
  abbrev e : Moment
  e = moment p s t

  abbrev texts : Texts
  texts = s.guest.texts

  pub ready : Ready e
  ready = record { knows = record { sound = sound; thread = unended; classes = may.owners }; may = may }

  pub sound_silent : IsSoundFor p (silent s)
  sound_silent = sound-spoken p s no_texts sound

  pub unended_silent : IsUnended (silent s).guest t
  unended_silent = record { thread = unended.thread; unended = unended.unended }

  -- THE ROWS

  row_beside : (call : TextCall) → IsTextCall e call → (r : Option ℕ) → FineSome s.heap r → LeadsBeside e (text_row e call r)
  row_beside call c None f = tt
  row_beside call c (Some o) f =
      let framed : IsFramed e = framed_by e c.turn in
      unless_ill_typed e ready framed (is_fit_text e (begins e) call.arguments o call.method) _ (λ fit. done_beside e ready framed call.at call.arguments o call.method f fit)

  is_call : (call : TextCall) → text_call p s t ≡ Some call → IsRow e 0 (text_row e call (first_reference call.arguments))
  is_call call is =
      let c : IsTextCall e call = text_called p s t call is in
      let framed : IsFramed e = framed_by e c.turn in
      let passed : Fines s.heap call.arguments = subst (λ (vs : List _). Fines s.heap vs) (sym c.arguments) (arguments_fine e ready framed (entry_count (is_static_call c.kind) c.type)) in
      record {
        leads = as_beside e 0 (text_row e call (first_reference call.arguments)) (row_beside call c (first_reference call.arguments) (first_fine s.heap call.arguments passed));
        none = monitor_none e c.decoded (Call _) c.turn c.is c.row refl;
      }

  is_read : (y : OutRead) → out_turn p s t ≡ Some y → IsRow e (out_slot p y) (out_row e y)
  is_read y is =
      let r : IsOutRead e y = out_found p s t y is in
      record { leads = out_leads e ready (framed_by e r.turn) y r; none = monitor_none e r.decoded (Heap _) r.turn r.is r.row refl }

  pub by_rows : (P : Outcome Kept → Type 0) → P (keeping texts (event p (silent s) t)) → ((slot : ℕ) (o : Outcome Kept) → IsRow e slot o → P o) → P (event_with_texts p s t)
  by_rows P table row = each_way P p s t table (λ call is. row 0 (text_row e call (first_reference call.arguments)) (is_call call is)) (λ y is. row (out_slot p y) (out_row e y) (is_read y is))

  -- WHAT IT NAMES

  told_row : (slot : ℕ) (o : Outcome Kept) → LeadsOut e slot o → IsToldOf p s o
  told_row slot (outcome.Goes next records) (inl h) = by_names e ready (outcome.Goes (spoken texts next) records) h.ended
  told_row slot (outcome.Goes next records) (inr h) = by_names e ready (outcome.Goes (with_statics s.guest.statics next) records) h.ended
  told_row slot (outcome.Waits next) h = absurd h
  told_row slot (outcome.IllTyped method pc) h = tt
  told_row slot outcome.ObjectLimit h = tt

  told_beside : (o : Outcome Kept) → IsToldOf p (silent s) o → IsToldOf p s (keeping texts o)
  told_beside (outcome.Goes next records) h = h
  told_beside (outcome.Waits next) h = h
  told_beside (outcome.IllTyped method pc) h = tt
  told_beside outcome.ObjectLimit h = tt

  pub event_is_told : IsToldOf p s (event_with_texts p s t)
  event_is_told = by_rows (λ o. IsToldOf p s o) (told_beside (event p (silent s) t) (told_event p (silent s) t sound_silent unended_silent may)) (λ slot o r. told_row slot o r.leads)

  -- OBJECTS

  pub objects_row : HasPlainStrings p → (slot : ℕ) (o : Outcome Kept) → LeadsOut e slot o → TellsObjects p s t o
  objects_row strings slot (outcome.Goes next records) (inl h) =
      let all : TellsAll p s t (spoken texts next) records = by_objects e ready strings (outcome.Goes (spoken texts next) records) h.ended in
      record { tells = all.tells; stays = all.stays; alike = all.alike }
  objects_row strings slot (outcome.Goes next records) (inr h) =
      let all : TellsAll p s t (with_statics s.guest.statics next) records = by_objects e ready strings (outcome.Goes (with_statics s.guest.statics next) records) h.ended in
      record { tells = all.tells; stays = all.stays; alike = all.alike }
  objects_row strings slot (outcome.Waits next) h = absurd h
  objects_row strings slot (outcome.IllTyped method pc) h = tt
  objects_row strings slot outcome.ObjectLimit h = tt

  objects_beside : (o : Outcome Kept) → TellsObjects p (silent s) t o → TellsObjects p s t (keeping texts o)
  objects_beside (outcome.Goes next records) h = record { tells = h.tells; stays = h.stays; alike = h.alike }
  objects_beside (outcome.Waits next) h = h
  objects_beside (outcome.IllTyped method pc) h = tt
  objects_beside outcome.ObjectLimit h = tt

  pub event_tells_objects : HasPlainStrings p → TellsObjects p s t (event_with_texts p s t)
  event_tells_objects strings =
      by_rows (λ o. TellsObjects p s t o) (objects_beside (event p (silent s) t) (event_tells p (silent s) t sound_silent unended_silent may strings)) (λ slot o r. objects_row strings slot o r.leads)

  -- WHAT IS WRITTEN TO

  reached_row : (slot : ℕ) (o : Outcome Kept) → LeadsOut e slot o → WritesToReached s o
  reached_row slot (outcome.Goes next records) (inl h) = by_reached e ready (outcome.Goes (spoken texts next) records) h.ended
  reached_row slot (outcome.Goes next records) (inr h) = by_reached e ready (outcome.Goes (with_statics s.guest.statics next) records) h.ended
  reached_row slot (outcome.Waits next) h = absurd h
  reached_row slot (outcome.IllTyped method pc) h = tt
  reached_row slot outcome.ObjectLimit h = tt

  reached_beside : (o : Outcome Kept) → WritesToReached (silent s) o → WritesToReached s (keeping texts o)
  reached_beside (outcome.Goes next records) h = h
  reached_beside (outcome.Waits next) h = tt
  reached_beside (outcome.IllTyped method pc) h = tt
  reached_beside outcome.ObjectLimit h = tt

  pub event_writes_to_what_is_reached : WritesToReached s (event_with_texts p s t)
  event_writes_to_what_is_reached =
      by_rows (λ o. WritesToReached s o) (reached_beside (event p (silent s) t) (event_writes_to_reached p (silent s) t sound_silent unended_silent may)) (λ slot o r. reached_row slot o r.leads)

-- MONITORS know no texts

changes_spoken : (p : Linked) (s : Kept) (t : ℕ) (y x : Texts) (entry exit : Option Lock) (after : Kept) → Changes (moment p s t) entry exit after → Changes (moment p (spoken y s) t) entry exit (spoken x after)
changes_spoken p s t y x entry exit after h = record {
  sound = held-spoken after x h.sound;
  clock = h.clock;
  stays = h.stays;
  fresh = h.fresh;
  longer = h.longer;
  full = h.full;
  monitor = h.monitor;
}

moves_spoken : (p : Linked) (s : Kept) (t : ℕ) (y x : Texts) (entry exit : Option Lock) (after : Kept) → MovesMonitors (moment p s t) entry exit after → MovesMonitors (moment p (spoken y s) t) entry exit (spoken x after)
moves_spoken p s t y x entry exit after h = record { changes = changes_spoken p s t y x entry exit after h.changes; entered = h.entered; left = h.left }

module _ (p : Linked) (s : Kept) (t : ℕ) (sound : IsSoundFor p s) (unended : IsUnended s.guest t) (may : IsRunnable p) where
  abbrev now : Moment
  now = moment p s t

  abbrev own : Texts
  own = s.guest.texts

  here : Ready now
  here = ready p s t sound unended may

  both_row : (slot : ℕ) (o : Outcome Kept) → IsRow now slot o → KeepsMonitors now o × LeadsLined now o
  both_row slot (outcome.Goes next records) r = by r.leads
    where
      by : LeadsOut now slot (outcome.Goes next records) → KeepsMonitors now (outcome.Goes next records) × LeadsLined now (outcome.Goes next records)
      by (inl h) =
          let d : Doing = record { state = spoken own next; records = records } in
          let made : MadeOf now here d = comes_so now here d h.ended in
          let both = steps_keep now here r.none made.phase d made.comes in
          (moves_spoken p s t own next.guest.texts _ _ (spoken own next) both.0, both.1)
      by (inr h) = fits_keep now r.none (record { state = next; records = records }) (level_fits now next h.still)
  both_row slot (outcome.Waits next) r = absurd r.leads
  both_row slot (outcome.IllTyped method pc) r = (tt, tt)
  both_row slot outcome.ObjectLimit r = (tt, tt)

  monitors_beside : (o : Outcome Kept) → KeepsMonitors (moment p (silent s) t) o → KeepsMonitors now (keeping own o)
  monitors_beside (outcome.Goes next records) h = moves_spoken p (silent s) t own own _ _ next h
  monitors_beside (outcome.Waits next) h = ap (λ (k : Kept). spoken own k) h
  monitors_beside other h = tt

  pub event_with_texts_keeps_monitors : KeepsMonitors now (event_with_texts p s t)
  event_with_texts_keeps_monitors =
      by_rows p s t sound unended may (λ o. KeepsMonitors now o)
      (monitors_beside (event p (silent s) t) (event_keeps_monitors p (silent s) t (sound_silent p s t sound unended may) (unended_silent p s t sound unended may) may)) (λ slot o r. (both_row slot o r).0)

  -- WHAT WAITS

  lists_beside : (o : Outcome Kept) → LeadsLined (moment p (silent s) t) o → LeadsLined now (keeping own o)
  lists_beside (outcome.Goes next records) h = h
  lists_beside (outcome.Waits next) h = ap (λ (k : Kept). spoken own k) h
  lists_beside other h = tt

  pub event_with_texts_keeps_lists : LeadsLined now (event_with_texts p s t)
  event_with_texts_keeps_lists =
      by_rows p s t sound unended may (λ o. LeadsLined now o)
      (lists_beside (event p (silent s) t) (event_keeps_lists p (silent s) t (sound_silent p s t sound unended may) (unended_silent p s t sound unended may) may)) (λ slot o r. (both_row slot o r).1)

  -- SOUND STATES

  sound_beside : (o : Outcome Kept) → LeadsToSound p o → LeadsToSound p (keeping own o)
  sound_beside (outcome.Goes next records) h = sound-spoken p next own h
  sound_beside (outcome.Waits next) h = sound-spoken p next own h
  sound_beside other h = tt

  stands : s.guest.clock < 2 ^ 40 → turn_of (thread_of now) ≡ Instruction → (x : Instr × ℕ) (at : Site) → decoded_at p (current_frame now) ≡ Ok x → at ≡ site_of p (current_frame now) x → StandsAt now at
  stands few turn x at is same = subst (λ (z : Site). StandsAt now z) (sym same) (stands_at now (record { sound = sound; clock = few; unended = unended }) turn x is)

  call_sound : s.guest.clock < 2 ^ 40 → (call : TextCall) → text_call p s t ≡ Some call → LeadsToSound p (text_row now call (first_reference call.arguments))
  call_sound few call is =
      let c : IsTextCall now call = text_called p s t call is in
      leads_to_sound p s t (text_row now call (first_reference call.arguments)) sound.held (both_row 0 (text_row now call (first_reference call.arguments)) (is_call p s t sound unended may call is)).0
      (row_keeps_sound now call c (stands few c.turn c.decoded call.at c.is c.site) may (first_reference call.arguments))

  read_sound : s.guest.clock < 2 ^ 40 → (y : OutRead) → out_turn p s t ≡ Some y → LeadsToSound p (out_row now y)
  read_sound few y is =
      let r : IsOutRead now y = out_found p s t y is in
      leads_to_sound p s t (out_row now y) sound.held (both_row (out_slot p y) (out_row now y) (is_read p s t sound unended may y is)).0 (out_keeps_sound now y r (stands few r.turn r.decoded y.at r.is r.site) may)

  pub event_with_texts_leads_to_sound : s.guest.clock < 2 ^ 40 → LeadsToSound p (event_with_texts p s t)
  event_with_texts_leads_to_sound few =
      each_way (λ o. LeadsToSound p o) p s t
      (sound_beside (event p (silent s) t) (event_leads_to_sound p (silent s) t (sound_silent p s t sound unended may) few (unended_silent p s t sound unended may) may)) (call_sound few) (read_sound few)
