-- The lines of every history keep the rules.
use Rattle.std.proofs.Common.{◌≡◌, ℕ, zero, suc, ◌+◌, ◌-◌, ◌/◌, ◌<◌, ◌≤◌, ◌^◌, ◌==◌, ◌↔◌, Bool, true, false, eqb, ◌||◌, List, [], ◌∷◌, ◌++◌, length, Option, Some, None, All, refl, sym, ◌∙◌, ap, subst, inl, inr, arith}
use Rattle.std.specs.Prelude.{if◌then◌else◌, nat_le, reverse}
use Rattle.std.specs.List.{list_any, IsDistinct}
use Rattle.std.proofs.lemmas.Bool.{le-leb, true≢false}
use Rattle.std.proofs.lemmas.List.{append-nil, append_assoc, reverse-append}
use Rattle.et_base.proofs.Lists.{contains_has}
use Rattle.et_base.specs.declared.line.TraceLine.{TraceLine}
use Rattle.et_base.specs.declared.line.TraceLine.TheVariants.{Header, Finish}
use Rattle.et_base.specs.declared.value.End.{End}
use Rattle.et_base.specs.declared.value.End.TheVariants.{Finished, EventLimit}
use Rattle.et_base.specs.declared.value.End.TheVariants as ends
use Rattle.et_graph.specs.Graph.{Graph, IsReached}
use Rattle.et_program.specs.Entries.{Linked}
use Rattle.et_heap.specs.Objects.{ObjectState, Objects, IsHeld, at, is_there}
use Rattle.et_heap.specs.Refs.{gone_of}
use Rattle.et_state.specs.Enqueuing.{flushed_heap}
use Rattle.et_heap.proofs.HeapLists.{at_gone}
use Rattle.et_state.specs.History.{how_of, flush_lines, is_flush_point, is_gone, left_by, deaths, last_reached, lines_to, mentions_to, trace_of}
use Rattle.et_state.specs.History as history
use Rattle.et_state.specs.Naming.{Names, Mentions, nothing_mentioned, mentions_after, lines_of}
use Rattle.et_state.specs.Outcome.{Outcome, end_by, records_of}
use Rattle.et_state.specs.Outcome as outcome
use Rattle.et_state.specs.Roots.{graph, graph_of}
use Rattle.et_state.specs.Start.{start, argument_class}
use Rattle.et_state.specs.State.{State, Kept}
use Rattle.et_state.specs.Texts.{texts_left}
use Rattle.et_state.specs.Words.{IsUnended}
use Rattle.et_state.specs.declared.options.Options.{Options}
use Rattle.et_state.proofs.Enqueued.{length-flushed, flushed_held}
use Rattle.et_history.proofs.programs.Flushing.{sound_left}
use Rattle.et_event.specs.Told.{event_with_texts}
use Rattle.et_event.specs.Sound.{IsSoundFor}
use Rattle.et_event.specs.Start.{start_records}
use Rattle.et_event.proofs.Beside.{sound-spoken}
use Rattle.et_text.specs.Ranges.{header_version}
use Rattle.et_text.specs.Rules.{AreFine, IsGood, has_ended, misses_no_flush}
use Rattle.et_history.specs.Allocations.{next_number}
use Rattle.et_history.specs.steps.Changing.{KeepsMonitors}
use Rattle.et_history.specs.Histories.{WholeGoesOn, whole_picked, whole_at, whole_settled_at, IsHistory, HistoryComesTo, WholeComesTo}
use Rattle.et_history.specs.steps.Records.{AreRecordsOf, TellsObjects}
use Rattle.et_history.specs.Same.{TellsTheSame}
use Rattle.et_history.specs.Settings.{unended_threads}
use Rattle.et_history.specs.steps.Telling.{IsToldOf, names_of_program}
use Rattle.et_history.specs.Whole.{beside, whole_flushed, whole_start}
use Rattle.et_history.proofs.Alike.{Open, is_open}
use Rattle.et_history.proofs.Wholes.{picked_unended, now_is, is_now}
use Rattle.et_theorems.specs.traces.Good.{AreNamesApart, AreNamesShort}
use Rattle.et_theorems.proofs.traces.Numbering.{AreTellable}
use Rattle.et_theorems.proofs.traces.Standing.{behind, behind_both, Stands}
use Rattle.et_theorems.proofs.traces.Lengths.{ArePlain, after, event_plain, flushed_plain, start_plain}
use Rattle.et_theorems.proofs.traces.RecordLines.{AreTold, records_stand}
use Rattle.et_theorems.proofs.traces.FlushLines.{Rises, Flushing, deaths_rise, alive_is_unlisted, flush_stands, flush_done, finish_fine, no_flush, carried}
use Rattle.et_theorems.proofs.traces.EventLines.{records_told}
use Rattle.et_history.proofs.Reached.{last_within}

-- LINES, the newest first

behind_reversed : (past ls : List TraceLine) → behind past ls ≡ reverse ls ++ past
behind_reversed past [] = refl
behind_reversed past (l ∷ ls) =
    behind_reversed (l ∷ past) ls
    ∙ (sym (append_assoc (reverse ls) (l ∷ []) past)
    ∙ ap (λ (xs : List TraceLine). xs ++ past) (sym (reverse-append (l ∷ []) ls)))

pub reversed : (ls : List TraceLine) → behind [] ls ≡ reverse ls
reversed ls = behind_reversed [] ls ∙ append-nil (reverse ls)

-- WHAT THE HISTORY SAYS

-- a history that goes on: some thread has not ended, and the next event is done
-- an object that was made and is not gone is held
still_held : (heap : Objects) (o : ℕ) → 0 < o → o < length heap → list_any (λ x. x == o) (gone_of heap) ≡ false → IsHeld heap o
still_held heap o some lt out = by (at heap o) refl
  where
    by : (x : Option ObjectState) → at heap o ≡ x → is_there x
    by (Some x) e = tt
    by None e = absurd (true≢false (sym (contains_has (gone_of heap) o (at_gone heap o some lt (λ held. subst (λ (x : Option ObjectState). is_there x) e held))) ∙ out))

none_twice : IsDistinct eqb []
unfolding IsDistinct
none_twice = tt

-- AN EVENT
module _ (p : Linked) (fit : AreTellable (names_of_program p)) (version every e : ℕ) (within : e ≤ 2 ^ 40) (t : State) (thread : ℕ) (few_threads : thread < 64) (few_statics : length p.statics < 2 ^ 28)
    (last ahead : ℕ → ℕ) (m : Mentions) (past : List TraceLine) (clock : t.kept.guest.clock + 1 ≡ e) (later : (o : ℕ) → 0 < o → o < next_number t → last o ≤ ahead o) where
  abbrev HeldIn : State → ℕ → Type 0
  HeldIn s o = IsHeld s.kept.heap o

  pub event_stands : (x : Outcome Kept) → end_by thread (beside t.reported x) ≡ None → TellsObjects p t.kept thread x → KeepsMonitors (record { program = p; before = t.kept; thread = thread }) x → IsToldOf p t.kept x
      → IsSoundFor p (after t x).kept → ArePlain p (after t x).kept.heap → ((o : ℕ) → next_number t ≤ o → o < next_number (after t x) → e ≤ ahead o)
      → Stands (names_of_program p) version every e (next_number t) (HeldIn t) last m past
      → Stands (names_of_program p) version every e (next_number (after t x)) (HeldIn (after t x)) ahead (mentions_after (names_of_program p) m (records_of (beside t.reported x))) (behind past (lines_of (names_of_program p) m (records_of (beside t.reported x))))
  event_stands (outcome.Goes next records) goes tells keeps named sound plain born h =
      let are : AreRecordsOf p e thread next.heap (next_number t) records (length next.heap) = subst (λ (c : ℕ). AreRecordsOf p c thread next.heap (next_number t) records (length next.heap)) clock tells.tells in
      let told : AreTold (names_of_program p) e (λ o. IsHeld next.heap o) ahead (next_number t) records (length next.heap) =
      records_told (names_of_program p) p e thread next (next_number t) ahead sound few_threads few_statics plain born (next_number t) (length next.heap) records (omega arith) are named.1 in
      let begun : Stands (names_of_program p) version every e (next_number t) (λ o. IsHeld next.heap o) ahead m past =
      carried (names_of_program p) version every e (next_number t) (HeldIn t) (λ o. IsHeld next.heap o) last ahead m past (λ o held. elim (keeps.changes.fresh o held) [ inl was ↦ inl was | inr new ↦ inr new.0 ]) later h in
      records_stand (names_of_program p) fit version every e within (λ o. IsHeld next.heap o) ahead (next_number t) (length next.heap) records m past told begun
  event_stands (outcome.Waits next) goes tells keeps named sound plain born h =
      subst (λ (heap : Objects). Stands (names_of_program p) version every e (length heap) (λ o. IsHeld heap o) ahead m past) (sym tells)
      (carried (names_of_program p) version every e (next_number t) (HeldIn t) (HeldIn t) last ahead m past (λ o held. inl held) later h)
  event_stands (outcome.IllTyped method pc) goes tells keeps named sound plain born h = absurd (let none : Some (ends.IllTyped thread method pc) ≡ None = goes in cc)
  event_stands outcome.ObjectLimit goes tells keeps named sound plain born h = absurd (let none : Some ends.ObjectLimit ≡ None = goes in cc)

-- THE HISTORY, with what the laws say of its events and states
module _ (reached : Graph → ℕ → Bool) (p : Linked) (options : Options) (pick : ℕ → ℕ) (runs : IsHistory reached p options)
    (apart : AreNamesApart (names_of_program p)) (short : AreNamesShort (names_of_program p)) (few_statics : length p.statics < 2 ^ 28)
    (tells : (s : Kept) (t : ℕ) → IsSoundFor p s → IsUnended s.guest t → TellsObjects p s t (event_with_texts p s t))
    (keeps : (s : Kept) (t : ℕ) → IsSoundFor p s → IsUnended s.guest t → KeepsMonitors (record { program = p; before = s; thread = t }) (event_with_texts p s t))
    (named : (s : Kept) (t : ℕ) → IsSoundFor p s → IsUnended s.guest t → IsToldOf p s (event_with_texts p s t))
    (same : (e : ℕ) → HistoryComesTo reached p options pick e → TellsTheSame reached p options pick e)
    (reached_as_made : (e o : ℕ) → WholeGoesOn reached p options pick e → (graph (whole_at reached p options pick e)).made < o → o ≤ (graph (whole_at reached p options pick (e + 1))).made → reached (graph (whole_at reached p options pick (e + 1))) o ≡ true) where
  -- the version that the header says
  abbrev version : ℕ
  version = header_version options.format

  fit : AreTellable (names_of_program p)
  fit = record { few_classes = runs.run.tabled.few_classes; few_methods = runs.run.tabled.few_methods; apart = apart; short = short }

  abbrev now : ℕ → State
  now e = whole_at reached p options pick e

  abbrev settled : ℕ → State
  settled e = whole_settled_at reached p options pick e

  abbrev last : ℕ → ℕ → ℕ
  last e o = last_reached reached (whole_picked p options pick) (whole_start p) (start_records p) o e

  abbrev mentions : ℕ → Mentions
  mentions e = mentions_to reached (whole_picked p options pick) (whole_start p) (start_records p) e

  abbrev lines : ℕ → List TraceLine
  lines e = lines_to reached (whole_picked p options pick) (whole_start p) (start_records p) e

  abbrev dead : ℕ → List (ℕ × ℕ)
  dead e = deaths reached (whole_picked p options pick) (whole_start p) (start_records p) e

  abbrev turn : ℕ → ℕ
  turn e = history.picked_turn (whole_picked p options pick) (suc e) (settled e)

  abbrev step : ℕ → Outcome Kept
  step e = event_with_texts p (settled e).kept (turn e)

  record Goes (e : ℕ) : Type 0 where
    kept : HistoryComesTo reached p options pick e
    whole : WholeComesTo reached p options pick e

  fewer : (e : ℕ) → Goes (suc e) → Goes e
  fewer e g = record { kept = λ k lt. g.kept k (omega (arith, lt)); whole = λ k lt. g.whole k (omega (arith, lt)) }

  next_is : (e : ℕ) → now (suc e) ≡ after (settled e) (step e)
  unfolding left_by
  next_is e = refl

  here_is : (e : ℕ) → Goes e → (o : ℕ) → (reached (graph (now e)) o ≡ true) ↔ IsReached (graph_of (now e).kept) o
  here_is e g o =
      let s = same e g.kept in
      let alike : reached (graph (now e)) o ≡ reached (graph_of (now e).kept) o = s.reached_same o ∙ ap (λ (x : Kept). reached (graph_of x) o) (sym s.kept) in
      (λ h. (runs.decides (graph_of (now e).kept) o).0 (now_is (reached (graph_of (now e).kept) o) (sym alike ∙ h)), λ h. alike ∙ is_now (reached (graph_of (now e).kept) o) ((runs.decides (graph_of (now e).kept) o).1 h))

  -- AFTER A FLUSH, if one is due

  abbrev settled_by : ℕ → Bool → State
  settled_by e b = if b then whole_flushed (reached (graph (now e))) (now e) else now e

  sound_by : (e : ℕ) → Goes e → (b : Bool) → IsSoundFor p (settled_by e b).kept
  sound_by e g true =
      let here : ℕ → Bool = reached (graph (now e)) in
      let left : Kept = record { heap = flushed_heap here (now e).kept.heap; guest = (now e).kept.guest } in
      sound-spoken p left (texts_left here (now e).kept.guest.texts) (sound_left p (now e).kept here (same e g.kept).sound (λ o held. here_is e g o))
  sound_by e g false = (same e g.kept).sound

  clock_by : (e : ℕ) → Goes e → (b : Bool) → (settled_by e b).kept.guest.clock ≡ e
  clock_by e g true = (same e g.kept).clock
  clock_by e g false = (same e g.kept).clock

  next_by : (e : ℕ) (b : Bool) → next_number (settled_by e b) ≡ next_number (now e)
  next_by e true = length-flushed (reached (graph (now e))) (now e).kept.heap
  next_by e false = refl

  -- THE INVARIANT
  abbrev Good : ℕ → Type 0
  Good e = Stands (names_of_program p) version options.interval e (next_number (now e)) (λ o. IsHeld (now e).kept.heap o) (last e) (mentions e) (behind [] (lines e))

  step_later : (b : Bool) (e l : ℕ) → l ≤ e → l ≤ (if b then suc e else l)
  step_later true e l le = omega arith
  step_later false e l le = omega arith

  last_later : (e o : ℕ) → last e o ≤ last (suc e) o
  unfolding last_reached
  last_later e o = step_later (reached (graph (now (suc e))) o) e (last e o) (last_within reached p options pick e o)

  last_now : (e o : ℕ) → reached (graph (now (suc e))) o ≡ true → suc e ≤ last (suc e) o
  unfolding last_reached
  last_now e o is = rw is (omega arith)

  -- the deaths of a flush
  dead_rise : (e : ℕ) → Goes e → Rises (next_number (now e)) e (λ o. IsHeld (now e).kept.heap o) (last e) 0 (dead e) (graph (now e)).made
  dead_rise e g =
      deaths_rise (next_number (now e)) e (λ o. IsHeld (now e).kept.heap o) (last e) (reached (graph (now e))) (is_gone (graph (now e))) (last e) (graph (now e)).made
      (λ o some le out.
      let lt : o < next_number (now e) = omega (arith, some, le) in
      record {
        some = some;
        made = lt;
        here = still_held (now e).kept.heap o some lt (or_second (reached (graph (now e)) o) (is_gone (graph (now e)) o) out);
        born = omega arith;
        within = last_within reached p options pick e o;
      })
    where
      or_second : (a b : Bool) → (a || b) ≡ false → b ≡ false
      or_second false b h = h
      or_second true b h = absurd (true≢false h)

  positive_next : (e : ℕ) → Goes e → 0 < next_number (now e)
  positive_next e g = (same e g.kept).sound.held.room

  flush_at : (e : ℕ) → e ≤ 2 ^ 40 → Goes e → Good e → (end : ℕ) × Flushing (names_of_program p) version options.interval e (next_number (now e)) (λ o. IsHeld (now e).kept.heap o) (last e) (mentions e) 0 end (behind (behind [] (lines e)) (flush_lines e (dead e)))
  flush_at e within g h =
      flush_stands (names_of_program p) version options.interval e (next_number (now e)) within (λ o. IsHeld (now e).kept.heap o) (last e) (mentions e) (dead e) (graph (now e)).made (behind [] (lines e)) (dead_rise e g)
      (let some = positive_next e g in omega arith) h

  settles : (e : ℕ) → e ≤ 2 ^ 40 → Goes e → Good e → (b : Bool) → is_flush_point options.interval e ≡ b
      → Stands (names_of_program p) version options.interval (suc e) (next_number (settled_by e b)) (λ o. IsHeld (settled_by e b).kept.heap o) (last e) (mentions e) (behind [] (lines e ++ (if b then flush_lines e (dead e) else [])))
  settles e within g h false out =
      subst (λ (ls : List TraceLine). Stands (names_of_program p) version options.interval (suc e) (next_number (now e)) (λ o. IsHeld (now e).kept.heap o) (last e) (mentions e) ls) (sym (behind_both [] (lines e) []))
      (no_flush (names_of_program p) version options.interval e (next_number (now e)) (λ o. IsHeld (now e).kept.heap o) (last e) (mentions e) (behind [] (lines e)) out h)
  settles e within g h true due =
      let here : ℕ → Bool = reached (graph (now e)) in
      let heap : Objects = (now e).kept.heap in
      let past : List TraceLine = behind (behind [] (lines e)) (flush_lines e (dead e)) in
      let f = flush_at e within g h in
      let done : Stands (names_of_program p) version options.interval (suc e) (next_number (now e)) (λ o. IsHeld heap o × (here o ≡ true)) (last e) (mentions e) past =
      flush_done (names_of_program p) version options.interval e (next_number (now e)) within (λ o. IsHeld heap o) (last e) (mentions e) (dead e) f.0 (behind [] (lines e)) here due
      (λ o alive. alive_is_unlisted here (is_gone (graph (now e))) (last e) (graph (now e)).made o alive) h f.1 in
      let left : Stands (names_of_program p) version options.interval (suc e) (next_number (now e)) (λ o. IsHeld (flushed_heap here heap) o) (last e) (mentions e) past =
      carried (names_of_program p) version options.interval (suc e) (next_number (now e)) (λ o. IsHeld heap o × (here o ≡ true)) (λ o. IsHeld (flushed_heap here heap) o) (last e) (last e) (mentions e) past
      (λ o held. inl (flushed_held here heap o held))
      (λ o some lt. omega arith) done in
      subst (λ (n : ℕ). Stands (names_of_program p) version options.interval (suc e) n (λ o. IsHeld (flushed_heap here heap) o) (last e) (mentions e) (behind [] (lines e ++ flush_lines e (dead e)))) (sym (next_by e true))
      (subst (λ (ls : List TraceLine). Stands (names_of_program p) version options.interval (suc e) (next_number (now e)) (λ o. IsHeld (flushed_heap here heap) o) (last e) (mentions e) ls) (sym (behind_both [] (lines e) (flush_lines e (dead e)))) left)

  made_next : (e o : ℕ) → WholeGoesOn reached p options pick e → 0 < next_number (now e) → next_number (now e) ≤ o → o < next_number (now (suc e)) → reached (graph (now (suc e))) o ≡ true
  made_next e o goes some le lt =
      let one : suc e ≡ e + 1 = omega arith in
      let more : o < next_number (now (e + 1)) = subst (λ (k : ℕ). o < next_number (now k)) one lt in
      subst (λ (k : ℕ). reached (graph (now k)) o ≡ true) (sym one) (reached_as_made e o goes (omega (arith, some, le)) (omega (arith, more)))

  -- what is no array has no elements
  plain_by : (e : ℕ) (b : Bool) → ArePlain p (now e).kept.heap → ArePlain p (settled_by e b).kept.heap
  plain_by e true plain = flushed_plain p (reached (graph (now e))) (now e).kept.heap plain
  plain_by e false plain = plain

  unended_at : (e : ℕ) → Goes (suc e) → IsUnended (settled e).kept.guest (turn e)
  unended_at e g =
      let t : State = settled e in
      let on : Open (length (unended_threads t.kept) == 0) (e == options.limit) (end_by (turn e) (beside t.reported (step e))) = is_open (length (unended_threads t.kept) == 0) (e == options.limit) Finished EventLimit _ (g.whole e (omega arith)) in
      picked_unended t.kept (pick (suc e)) on.some

  all_plain : (e : ℕ) → Goes e → ArePlain p (now e).kept.heap
  unfolding left_by
  all_plain zero g = start_plain p
  all_plain (suc e) g =
      let t : State = settled e in
      let b : Bool = is_flush_point options.interval e in
      let sound : IsSoundFor p t.kept = sound_by e (fewer e g) b in
      event_plain p t (turn e) (step e) (tells t.kept (turn e) sound (unended_at e g)) (keeps t.kept (turn e) sound (unended_at e g)) (plain_by e b (all_plain e (fewer e g)))

  -- THE NEXT EVENT
  next_stands : (e : ℕ) → suc e ≤ 2 ^ 40 → Goes (suc e) → Good e → Good (suc e)
  unfolding lines_to mentions_to
  next_stands e within g h =
      let b : Bool = is_flush_point options.interval e in
      let before : Goes e = fewer e g in
      let t : State = settled e in
      let k : ℕ = turn e in
      let on : Open (length (unended_threads t.kept) == 0) (e == options.limit) (end_by k (beside t.reported (step e))) = is_open (length (unended_threads t.kept) == 0) (e == options.limit) Finished EventLimit _ (g.whole e (omega arith)) in
      let unended : IsUnended t.kept.guest k = picked_unended t.kept (pick (suc e)) on.some in
      let sound : IsSoundFor p t.kept = sound_by e before b in
      let clock : t.kept.guest.clock + 1 ≡ suc e = (let c = clock_by e before b in omega arith) in
      let few : k < 64 = (let a = unended.thread in let c = sound.few_threads in omega arith) in
      let mid = settles e (omega arith) before h b refl in
      let len : next_number t ≡ next_number (now e) = next_by e b in
      let past : List TraceLine = behind [] (lines e ++ (if b then flush_lines e (dead e) else [])) in
      let more : List TraceLine = lines_of (names_of_program p) (mentions e) (records_of (beside t.reported (step e))) in
      let is_next : now (suc e) ≡ after t (step e) = next_is e in
      let sound_next : IsSoundFor p (after t (step e)).kept = subst (λ (s : State). IsSoundFor p s.kept) is_next (same (suc e) g.kept).sound in
      let plain_next : ArePlain p (after t (step e)).kept.heap = subst (λ (s : State). ArePlain p s.kept.heap) is_next (all_plain (suc e) g) in
      let born : (o : ℕ) → next_number t ≤ o → o < next_number (after t (step e)) → suc e ≤ last (suc e) o = λ o le lt.
      last_now e o (made_next e o (g.whole e (omega arith)) (positive_next e before) (omega (arith, le, len)) (let same_length : next_number (now (suc e)) ≡ next_number (after t (step e)) = ap (λ (s : State). next_number s) is_next in omega (arith, lt))) in
      let done = event_stands p fit version options.interval (suc e) within t k few few_statics (last e) (last (suc e)) (mentions e) past clock (λ o some lt. last_later e o) (step e) on.done (tells t.kept k sound unended) (keeps t.kept k sound unended) (named t.kept k sound unended) sound_next plain_next born mid in
      subst (λ (s : State). Stands (names_of_program p) version options.interval (suc e) (next_number s) (λ o. IsHeld s.kept.heap o) (last (suc e)) (mentions (suc e)) (behind [] (lines (suc e)))) (sym is_next)
      (subst (λ (ls : List TraceLine). Stands (names_of_program p) version options.interval (suc e) (next_number (after t (step e))) (λ o. IsHeld (after t (step e)).kept.heap o) (last (suc e)) (mentions (suc e)) ls)
      (sym (behind_both [] (lines e ++ (if b then flush_lines e (dead e) else [])) more)) done)

  -- THE FIRST EVENT
  first_stands : Good 0
  unfolding lines_to mentions_to left_by last_reached
  first_stands =
      let names : Names = names_of_program p in
      let live : ℕ → Type 0 = λ o. IsHeld (start p).heap o in
      let begun : Stands names version options.interval 0 1 live (last 0) nothing_mentioned (Header version options.interval ∷ []) = record {
        fine = (tt, (refl, runs.options_are.interval), refl);
        rests = (refl, refl, refl);
        flows = record { interval_is = refl; latest_within = omega arith; later = refl; not_final = refl; none_missing = none_missing options.interval };
        named = record {
          classes_are = refl;
          methods_are = refl;
          classes_once = none_twice;
          methods_once = none_twice;
          classes_within = λ c there. absurd (true≢false (sym there));
          methods_within = λ k there. absurd (true≢false (sym there));
          owners = λ k there. absurd (true≢false (sym there));
          class_names = λ name has. absurd (true≢false (sym has));
          method_names = λ c name descriptor has. absurd (true≢false (sym has));
        };
        objects_are = record {
          made = refl;
          few = omega arith;
          unreported = λ o held. refl;
          none_reported = refl;
          reported_made = λ o is. absurd (true≢false (sym is));
          births_within = λ o some lt. absurd (omega (arith, some, lt));
        };
      } in
      let class : argument_class p < length p.classes = (runs.run.state.objects 1 _ refl).0.class in
      let told : AreTold names 0 live (last 0) 1 (start_records p) 2 = ((refl, omega arith, refl, omega arith, omega arith, omega arith, omega arith, omega arith), record { classes = one_class class; methods = no_methods }, refl) in
      records_stand names fit version options.interval 0 (omega arith) live (last 0) 1 2 (start_records p) nothing_mentioned (Header version options.interval ∷ []) told begun
    where
      or_second : (a b : Bool) → b ≡ true → (a || b) ≡ true
      or_second true b e = refl
      or_second false b e = e

      none_missing : (every : ℕ) → misses_no_flush every None 0 ≡ true
      none_missing zero = refl
      none_missing (suc n) = or_second (suc n == 0) (nat_le ((0 - 1) / suc n) (0 / suc n)) (le-leb ((0 - 1) / suc n) (0 / suc n) (omega arith))

      one_class : {c n : ℕ} → c < n → All (λ k. k < n) (c ∷ [])
      one_class lt zero d le = lt
      one_class lt (suc k) d le = absurd (omega (arith, le))

      no_methods : {n : ℕ} → All (λ k. k < n) []
      no_methods k d lt = absurd (omega (arith, lt))

  all_stand : (e : ℕ) → e ≤ 2 ^ 40 → Goes e → Good e
  all_stand zero within g = first_stands
  all_stand (suc e) within g = next_stands e within g (all_stand e (omega arith) (fewer e g))

  -- THE LAST EVENT, its flush, and the Z line
  how_within : (end : End) → how_of end ≤ 3
  how_within Finished = omega arith
  how_within EventLimit = omega arith
  how_within (ends.IllTyped thread method pc) = omega arith
  how_within ends.ObjectLimit = omega arith

  pub trace_is_good : (e : ℕ) (end : End) → HistoryComesTo reached p options pick e → WholeComesTo reached p options pick e → IsGood (header_version options.format) (trace_of reached (whole_picked p options pick) (whole_start p) (start_records p) e end)
  trace_is_good e end goes whole =
      let so : TellsTheSame reached p options pick e = same e goes in
      let within : e ≤ 2 ^ 40 = (let a = so.clock in let b = so.sound.clock in omega arith) in
      let g : Goes e = record { kept = goes; whole = whole } in
      let f = flush_at e within g (all_stand e within g) in
      let past : List TraceLine = behind (behind [] (lines e)) (flush_lines e (dead e)) in
      let fine : AreFine version (Finish e (how_of end) ∷ past) = finish_fine (names_of_program p) version options.interval e (next_number (now e)) within (λ o. IsHeld (now e).kept.heap o) (last e) (mentions e) (how_of end) f.0 past (how_within end) f.1 in
      let is : Finish e (how_of end) ∷ past ≡ reverse (lines e ++ flush_lines e (dead e) ++ Finish e (how_of end) ∷ []) =
      sym (behind_both [] (lines e ++ flush_lines e (dead e)) (Finish e (how_of end) ∷ []) ∙ ap (λ (ls : List TraceLine). Finish e (how_of end) ∷ ls) (behind_both [] (lines e) (flush_lines e (dead e)))) ∙ reversed (lines e ++ flush_lines e (dead e) ++ Finish e (how_of end) ∷ []) in
      record { fine = subst (λ (ls : List TraceLine). AreFine version ls) is fine; ended = subst (λ (ls : List TraceLine). has_ended ls ≡ true) is refl }
