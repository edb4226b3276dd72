-- An event leads from a typed state to a typed one, or check 7 refuses it, texts too.
use Rattle.std.proofs.Common.{◌≡◌, ℕ, ◌<◌, Bool, true, false, List, Option, Some, None, Ok, refl, sym, ◌∙◌, ap, subst, inl, inr}
use Rattle.std.specs.Prelude.{◌^◌, if◌then◌else◌, is_some}
use Rattle.std.specs.Result.{result_ok}
use Rattle.std.proofs.lemmas.Bool.{cases_eq}
use Rattle.std.proofs.lemmas.Option.{same_Some}
use Rattle.et_code.specs.declared.instr.Instr.{Instr}
use Rattle.et_event.proofs.Beside.{sound-spoken}
use Rattle.et_event.specs.Calls.{is_static_call}
use Rattle.et_event.specs.Event.{event}
use Rattle.et_event.specs.Frames.{first_reference}
use Rattle.et_event.specs.Moments.{Moment, current_frame, thread_of}
use Rattle.et_event.specs.Out.{OutRead, out_by, out_in, out_row, out_turn}
use Rattle.et_event.specs.Runnable.{IsRunnable}
use Rattle.et_event.specs.Selected.{TextCall}
use Rattle.et_event.specs.Sites.{decoded_at, site_of}
use Rattle.et_event.specs.Sound.{IsSoundFor}
use Rattle.et_event.specs.Table.{row_of}
use Rattle.et_event.specs.TextRows.{text_row}
use Rattle.et_event.specs.Told.{event_with_texts, keeping}
use Rattle.et_event.specs.declared.rows.CallRow.TheVariants as call
use Rattle.et_event.specs.declared.rows.HeapRow.TheVariants as heap
use Rattle.et_event.specs.declared.rows.Row.{Row}
use Rattle.et_event.specs.declared.rows.Row.TheVariants as rows
use Rattle.et_program.specs.Entries.{Linked}
use Rattle.et_history.proofs.texts.Called.{IsTextCall, text_called}
use Rattle.et_history.proofs.texts.Events.{by_rows, each_way}
use Rattle.et_history.proofs.texts.Out.{LeadsOut, with_statics}
use Rattle.et_state.specs.Outcome.{Outcome}
use Rattle.et_state.specs.Outcome as outcome
use Rattle.et_state.specs.Spoken.{silent, spoken}
use Rattle.et_state.specs.State.{Kept}
use Rattle.et_state.specs.Texts.{no_texts}
use Rattle.et_state.specs.Threads.{ThreadState, has_frame, is_before_class, top_of, turn_of}
use Rattle.et_state.specs.Words.{IsUnended, thread_at}
use Rattle.et_state.specs.declared.records.Record.{Record}
use Rattle.et_state.specs.declared.stage.Turn.{Turn}
use Rattle.et_state.specs.declared.stage.Turn.TheVariants.{EndThread, Entry, Initialize, Instruction, Unwind}
use Rattle.et_theorems.specs.typings.Typed.{AreTypings, IsTyped, IsTypedThread, KeepsTyped, Typings}
use Rattle.et_theorems.proofs.typings.Beside.{keeps_beside, typed-spoken}
use Rattle.et_theorems.proofs.typings.CallRows.{Calls, calls}
use Rattle.et_theorems.proofs.typings.Here.{Here}
use Rattle.et_theorems.proofs.typings.Others.{KeepsOthers}
use Rattle.et_theorems.proofs.typings.OutRead.{IsReadOut, is_read_out, out_decoded, out_turn_is, out_typed}
use Rattle.et_theorems.proofs.typings.Own.{LeavesTyped}
use Rattle.et_theorems.proofs.typings.Standing.{Accepted, accepted}
use Rattle.et_theorems.proofs.typings.TextRows.{text_typed}
use Rattle.et_theorems.proofs.typings.Turns.{Known, calm}
use Rattle.et_theorems.proofs.typings.Typing.{event_typed, others_kept}
use Rattle.et_theorems.proofs.typings.Ways.{Calm}

-- an instruction is done by a thread to which nothing is thrown
nothing_pends : (x : ThreadState) → turn_of x ≡ Instruction → x.pending ≡ None
nothing_pends x turn = by x.pending (has_frame x.frames) turn
  where
    by : (o : Option ℕ) (framed : Bool) → (if is_some o then (if framed then Unwind else EndThread) else (if framed then (if is_before_class (top_of x).stage then Initialize else Instruction) else (if x.entered then EndThread else Entry))) ≡ Instruction → o ≡ None
    by None framed q = refl
    by (Some o) true q = cc
    by (Some o) false q = cc

-- AN OUTCOME: the other threads, and the objects; where the thread waits, its own thread, too
abbrev LeavesOthers : Moment → Typings → Outcome Kept → Type 0
LeavesOthers e typings (outcome.Goes next records) = KeepsOthers e typings (record { state = next; records = records })
LeavesOthers e typings (outcome.Waits next) = IsTyped e.program typings next
LeavesOthers e typings (outcome.IllTyped method pc) = Unit {0}
LeavesOthers e typings outcome.ObjectLimit = Unit {0}

module _ (p : Linked) (typings : Typings) (s : Kept) (t : ℕ) (k : Known (record { program = p; before = s; thread = t }) typings) where
  abbrev e : Moment
  e = record { program = p; before = s; thread = t }

  -- THE TABLE is asked of the state without its texts
  table : KeepsTyped e typings (keeping s.guest.texts (event p (silent s) t))
  table =
      keeps_beside p s t typings (event p (silent s) t)
      (event_typed p typings (silent s) t (sound-spoken p s no_texts k.sound) k.clock (record { thread = k.unended.thread; unended = k.unended.unended }) k.may k.kinds (typed-spoken p typings no_texts s k.typed))

  -- THE OTHERS

  same_others : (next : Kept) (records : List Record) → IsTyped p typings next → KeepsOthers e typings (record { state = next; records = records })
  same_others next records h = record { others = λ i lt ne. h.threads i lt; objects = h.objects }

  of_typed : (o : Outcome Kept) → KeepsTyped e typings o → LeavesOthers e typings o
  of_typed (outcome.Goes next records) h = same_others next records h
  of_typed (outcome.Waits next) h = h
  of_typed (outcome.IllTyped method pc) h = tt
  of_typed outcome.ObjectLimit h = tt

  of_row : (slot : ℕ) (o : Outcome Kept) → LeadsOut e slot o → LeavesOthers e typings o
  of_row slot (outcome.Goes next records) (inl h) =
      let kept : KeepsOthers e typings (record { state = spoken s.guest.texts next; records = records }) = others_kept e typings k (record { state = spoken s.guest.texts next; records = records }) h.ended in
      record { others = kept.others; objects = kept.objects }
  of_row slot (outcome.Goes next records) (inr h) =
      let kept : KeepsOthers e typings (record { state = with_statics s.guest.statics next; records = records }) = others_kept e typings k (record { state = with_statics s.guest.statics next; records = records }) h.ended in
      record { others = kept.others; objects = kept.objects }
  of_row slot (outcome.Waits next) h = absurd h
  of_row slot (outcome.IllTyped method pc) h = tt
  of_row slot outcome.ObjectLimit h = tt

  others : LeavesOthers e typings (event_with_texts p s t)
  others = by_rows p s t k.sound k.unended k.may (LeavesOthers e typings) (of_typed (keeping s.guest.texts (event p (silent s) t)) table) (λ slot o row. of_row slot o row.leads)

  -- .. and its own thread
  all_typed : (o : Outcome Kept) → LeavesTyped e typings o → LeavesOthers e typings o → KeepsTyped e typings o
  all_typed (outcome.Goes next records) own rest = record {
    threads = λ i lt. elim (cases_eq i t) [
      | inl same ↦ subst (λ (n : ℕ). IsTypedThread p typings (thread_at next.guest n)) (sym same) own
      | inr other ↦ rest.others i lt other
    ];
    objects = rest.objects;
  }
  all_typed (outcome.Waits next) own rest = rest
  all_typed (outcome.IllTyped method pc) own rest = own
  all_typed outcome.ObjectLimit own rest = tt

  -- WHERE IT STANDS

  quiet : turn_of (thread_of e) ≡ Instruction → Calm e typings
  quiet turn = calm e typings k (nothing_pends (thread_of e) turn)

  same_instruction : (x y : Instr × ℕ) → decoded_at p (current_frame e) ≡ Ok x → decoded_at p (current_frame e) ≡ Ok y → x ≡ y
  same_instruction x y a b = same_Some x y (ap result_ok (sym a ∙ b))

  -- A CALL OF A METHOD OF TEXTS
  called_typed : (x : TextCall) → IsTextCall e x → LeavesTyped e typings (text_row e x (first_reference x.arguments))
  called_typed x c =
      let a : Accepted e typings = accepted e typings (quiet c.turn) c.turn in
      let same : a.here.row.decoded ≡ c.decoded = same_instruction a.here.row.decoded c.decoded a.here.row.is c.is in
      let row : a.row ≡ rows.Call (call.Invoke c.kind) = same_Some a.row (rows.Call (call.Invoke c.kind)) (sym a.here.row.row ∙ (ap (λ (d : Instr × ℕ). row_of d.0.opcode) same ∙ c.row)) in
      let site : site_of p (current_frame e) c.decoded ≡ a.at = ap (λ (d : Instr × ℕ). site_of p (current_frame e) d) (sym same) ∙ sym a.here.row.site in
      let here : Here e typings a.method a.at (rows.Call (call.Invoke c.kind)) a.before a.after = subst (λ (r : Row). Here e typings a.method a.at r a.before a.after) row a.here in
      let calling : Calls a.at (is_static_call c.kind) a.before.operands a.after.operands = calls a.at (is_static_call c.kind) a.before.operands a.after.operands here.after.operands in
      text_typed e typings a.method a.at c.kind a.before a.after here calling x c refl site

  -- THE READING OF System.out
  read_typed : (x : OutRead) → out_in e (turn_of (thread_of e)) ≡ Some x → LeavesTyped e typings (out_row e x)
  read_typed x h =
      let turn : turn_of (thread_of e) ≡ Instruction = out_turn_is e (turn_of (thread_of e)) x h in
      let a : Accepted e typings = accepted e typings (quiet turn) turn in
      let decoded : out_by e (decoded_at p (current_frame e)) ≡ Some x = subst (λ (y : Turn). out_in e y ≡ Some x) turn h in
      let i : IsReadOut e a.at a.row x = is_read_out e a.at a.row x (out_decoded e a.at a.row a.here.row.decoded x a.here.row.is a.here.row.row a.here.row.site decoded) in
      let here : Here e typings a.method a.at (rows.Heap heap.GetStatic) a.before a.after = subst (λ (r : Row). Here e typings a.method a.at r a.before a.after) i.row a.here in
      out_typed e typings a.method a.at a.before a.after here x i.reads

  read_so : (x : OutRead) → out_turn p s t ≡ Some x → LeavesTyped e typings (out_row e x)
  unfolding out_turn
  read_so x h = read_typed x h

  -- WHAT AN EVENT LEADS TO
  abbrev P : Outcome Kept → Type 0
  P o = LeavesOthers e typings o → KeepsTyped e typings o

  typed : KeepsTyped e typings (event_with_texts p s t)
  typed =
      each_way P p s t (λ rest. table)
      (λ x is rest. all_typed (text_row e x (first_reference x.arguments)) (called_typed x (text_called p s t x is)) rest)
      (λ x is rest. all_typed (out_row e x) (read_so x is) rest) others

pub told_typed : (p : Linked) (typings : Typings) (s : Kept) (t : ℕ) → IsSoundFor p s → s.guest.clock < 2 ^ 40 → IsUnended s.guest t → IsRunnable p → AreTypings p typings → IsTyped p typings s → KeepsTyped (record { program = p; before = s; thread = t }) typings (event_with_texts p s t)
told_typed p typings s t sound clock unended may kinds state = typed p typings s t (record { sound = sound; clock = clock; unended = unended; may = may; kinds = kinds; typed = state })
