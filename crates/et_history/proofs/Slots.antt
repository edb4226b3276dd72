-- In every state of the history in which nothing is freed the references in slots are those that the U records told.
use Rattle.std.proofs.Common.{◌≡◌, ℕ, zero, suc, ◌+◌, ◌<◌, ◌≤◌, ◌==◌, ◌&&◌, ◌⊎◌, Bool, true, false, List, [], ◌∷◌, length, Option, Some, None, refl, sym, ◌∙◌, ap, subst, inl, inr, arith}
use Rattle.std.specs.Prelude.{All, if◌then◌else◌, slice_index_or}
use Rattle.std.proofs.lemmas.Bool.{and_parts, eqb-true, false≢true}
use Rattle.std.proofs.lemmas.List.Elements.{All-cons, All-head, All-nil, All-tail}
use Rattle.et_heap.proofs.References.{unset_at}
use Rattle.et_base.specs.declared.value.Value.{Value}
use Rattle.et_base.specs.declared.value.Value.TheVariants.{Unset}
use Rattle.et_graph.specs.Graph.{Graph, IsReached}
use Rattle.et_graph.proofs.Sound.{reached_held}
use Rattle.et_heap.specs.Objects.{ObjectState, Objects, IsHeld, at, found, is_there, object_at, slot_of}
use Rattle.et_heap.proofs.HeapLists.{at_gone}
use Rattle.et_program.specs.Entries.{Linked}
use Rattle.et_state.specs.Enqueuing.{flushed_heap}
use Rattle.et_state.specs.History.{is_flush_point, left_by, records_at}
use Rattle.et_state.specs.Outcome.{Outcome, records_of, state_after}
use Rattle.et_state.specs.Outcome as outcome
use Rattle.et_state.specs.Roots.{graph, graph_of}
use Rattle.et_state.specs.Start.{start}
use Rattle.et_state.specs.State.{GuestState, State, Kept}
use Rattle.et_state.specs.Words.{IsUnended, static_at}
use Rattle.et_state.specs.declared.options.Options.{Options}
use Rattle.et_state.specs.declared.records.Record.{Record}
use Rattle.et_state.specs.declared.records.Record.TheVariants.{Alloc, Update, Enter, Exit, Unwind}
use Rattle.et_state.proofs.Enqueued.{length-flushed, flushed_held, flushed_same}
use Rattle.et_state.proofs.UnderWay.{sound_graph}
use Rattle.et_event.specs.Moments.{number_of_value}
use Rattle.et_event.specs.Sound.{IsSoundFor}
use Rattle.et_event.specs.Start.{start_records}
use Rattle.et_history.specs.steps.Changing.{KeepsMonitors}
use Rattle.et_history.specs.steps.Records.{AreRecordsOf, HasPlainStrings, TellsObjects, next_after}
use Rattle.et_history.specs.steps.Writes.{HasCause, IsAtHand, IsOfReached, TellWrites, WritesToReached, after_record, is_out_slot, reference_at}
use Rattle.et_history.specs.texts.Writing.{TellsOtherWrites, reference_told}
use Rattle.et_history.proofs.texts.Events.{event_tells_objects as event_tells, event_writes_to_what_is_reached as event_writes_to_reached}
use Rattle.et_history.proofs.texts.Writing.{event_tells_other_writes, told_is, told_there}
use Rattle.et_history.specs.Histories.{whole_picked, IsHistory, WholeComesTo}
use Rattle.et_history.specs.Settings.{unended_threads}
use Rattle.et_history.specs.Slots.{IsOfEvent, after_records, told_by}
use Rattle.et_history.specs.Whole.{beside, whole_flushed, whole_start}
use Rattle.et_history.proofs.Alike.{is_open}
use Rattle.et_history.proofs.Reporting.{if_known}
use Rattle.et_history.proofs.Wholes.{Stands, go_on, keeps_at, picked_unended, reached_all, settled_match}
use Rattle.et_history.proofs.soundness.Outcomes.{if_case}
use Rattle.et_history.proofs.steps.WaitingLists.{beyond}
use Rattle.et_history.proofs.HistoryWords.{history_words}

-- RECORDS

-- what stands at one place after a record
after_one : (f g : ℕ → ℕ → ℕ) (r : Record) (o i : ℕ) → f o i ≡ g o i → after_record f r o i ≡ after_record g r o i
after_one f g (Alloc event thread object class size elements) o i same = same
after_one f g (Update event thread object slot old new) o i same = ap (λ (n : ℕ). if (o == object) && (i == slot) then new else n) same
after_one f g (Enter event thread method receiver) o i same = same
after_one f g (Exit event thread method) o i same = same
after_one f g (Unwind event thread method exception) o i same = same

-- so records tell there what they lead to
tells_there : (f g after : ℕ → ℕ → ℕ) (rs : List Record) (o i : ℕ) → f o i ≡ g o i → TellWrites g rs after → after_records f rs o i ≡ after o i
tells_there f g after [] o i same tells = same ∙ sym (tells o i)
tells_there f g after (r ∷ rs) o i same tells = tells_there (after_record f r) (after_record g r) after rs o i (after_one f g r o i same) tells.1

-- a record that writes to other objects leaves what stands in this one
module _ (s : Kept) (o i : ℕ) (some : 0 < o) (out : IsAtHand s o → ⊥) where
  elsewhere : (object slot new x : ℕ) → (object ≡ 0) ⊎ IsAtHand s object → (if (o == object) && (i == slot) then new else x) ≡ x
  elsewhere object slot new x of = by ((o == object) && (i == slot)) refl
    where
      by : (b : Bool) → ((o == object) && (i == slot)) ≡ b → (if b then new else x) ≡ x
      by false is = refl
      by true is =
          let same : o ≡ object = eqb-true o object (and_parts (o == object) (i == slot) is).0 in
          elim of [ inl zero_is ↦ absurd (omega (arith, same, zero_is, some)) | inr hand ↦ absurd (out (subst (λ (k : ℕ). IsAtHand s k) (sym same) hand)) ]

  one_elsewhere : (f : ℕ → ℕ → ℕ) (r : Record) → IsOfReached s r → after_record f r o i ≡ f o i
  one_elsewhere f (Alloc event thread object class size elements) of = refl
  one_elsewhere f (Update event thread object slot old new) of = elsewhere object slot new (f o i) of
  one_elsewhere f (Enter event thread method receiver) of = refl
  one_elsewhere f (Exit event thread method) of = refl
  one_elsewhere f (Unwind event thread method exception) of = refl

  all_elsewhere : (f : ℕ → ℕ → ℕ) (rs : List Record) → All (IsOfReached s) rs → after_records f rs o i ≡ f o i
  all_elsewhere f [] all = refl
  all_elsewhere f (r ∷ rs) all = all_elsewhere (after_record f r) rs (All-tail (IsOfReached s) r rs all) ∙ one_elsewhere f r (All-head (IsOfReached s) r rs all)

-- the records of an event are of it
of_event : (p : Linked) (clock t next : ℕ) (heap : Objects) (r : Record) (rest : List Record) (last : ℕ) → AreRecordsOf p clock t heap next (r ∷ rest) last → IsOfEvent clock r
of_event p clock t next heap (Alloc event thread object class size elements) rest last are = are.0.0
of_event p clock t next heap (Update event thread object slot old new) rest last are = are.0.0
of_event p clock t next heap (Enter event thread method receiver) rest last are = are.0.0
of_event p clock t next heap (Exit event thread method) rest last are = are.0.0
of_event p clock t next heap (Unwind event thread method exception) rest last are = are.0.0

all_of_event : (p : Linked) (clock t : ℕ) (heap : Objects) (next : ℕ) (rs : List Record) (last : ℕ) → AreRecordsOf p clock t heap next rs last → All (IsOfEvent clock) rs
all_of_event p clock t heap next [] last are = All-nil (IsOfEvent clock)
all_of_event p clock t heap next (r ∷ rs) last are = All-cons (IsOfEvent clock) r rs (of_event p clock t next heap r rs last are) (all_of_event p clock t heap (next_after next r) rs last are.1)

-- PLACES in a state: a static, a slot of an object that is held, or one of an object that is not made yet

abbrev IsPlace : Kept → ℕ → Type 0
IsPlace s o = (o ≡ 0) ⊎ (IsHeld s.heap o ⊎ (length s.heap ≤ o))

abbrev number_at : Objects → (object slot : ℕ) → ℕ
number_at h o i = number_of_value (slot_of (object_at h o) i)

abbrev number_in : (slot : ℕ) → Option ObjectState → ℕ
number_in i x = number_of_value (slot_of (found x) i)

by_object : (b : Bool) (x y z : ℕ) → y ≡ z → (if b then x else y) ≡ (if b then x else z)
by_object b x y z same = ap (λ (n : ℕ). if b then x else n) same

-- .. where the guest is the same
same_reference : (g : GuestState) (h h' : Objects) (o i : ℕ) → number_at h' o i ≡ number_at h o i → reference_at (record { heap = h'; guest = g }) o i ≡ reference_at (record { heap = h; guest = g }) o i
same_reference g h h' o i same = by_object (o == 0) (number_of_value (static_at g i)) (number_at h' o i) (number_at h o i) same

-- .. as records tell them
same_told : (p : Linked) (s s' : Kept) (o i : ℕ) → reference_at s' o i ≡ reference_at s o i → reference_told p s' o i ≡ reference_told p s o i
same_told p s s' o i same = by_object ((o == 0) && is_out_slot p i) 0 (reference_at s' o i) (reference_at s o i) same

-- A FLUSH changes no slot
flushed_reference : (here : ℕ → Bool) (s : State) (o i : ℕ) → IsPlace (whole_flushed here s).kept o → reference_at (whole_flushed here s).kept o i ≡ reference_at s.kept o i
flushed_reference here s o i (inl none) = subst (λ (k : ℕ). reference_at (whole_flushed here s).kept k i ≡ reference_at s.kept k i) (sym none) refl
flushed_reference here s o i (inr (inl held)) =
    same_reference s.kept.guest s.kept.heap (flushed_heap here s.kept.heap) o i
    (ap (λ (vs : List Value). number_of_value (slice_index_or vs i Unset)) (flushed_same (λ x. x.slots) (λ x r ws b. refl) here s.kept.heap o (flushed_held here s.kept.heap o held).1))
flushed_reference here s o i (inr (inr new)) =
    let len : length (flushed_heap here s.kept.heap) ≡ length s.kept.heap = length-flushed here s.kept.heap in
    same_reference s.kept.guest s.kept.heap (flushed_heap here s.kept.heap) o i
    (ap (λ (x : Option ObjectState). number_in i x) (beyond (flushed_heap here s.kept.heap) o new ∙ sym (beyond s.kept.heap o (omega (arith, len, new)))))

-- AN EVENT

abbrev after : State → Outcome Kept → State
after t x = state_after t (beside t.reported x)

abbrev records : State → Outcome Kept → List Record
records t x = records_of (beside t.reported x)

-- a place after it was one before
was_place : (p : Linked) (t : State) (k : ℕ) (x : Outcome Kept) (o : ℕ) → KeepsMonitors (record { program = p; before = t.kept; thread = k }) x → IsPlace (after t x).kept o → IsPlace t.kept o
was_place p t k (outcome.Goes next rs) o keeps (inl none) = inl none
was_place p t k (outcome.Goes next rs) o keeps (inr (inl held)) = elim (keeps.changes.fresh o held) [ inl was ↦ inr (inl was) | inr new ↦ inr (inr new.0) ]
was_place p t k (outcome.Goes next rs) o keeps (inr (inr new)) = let le = keeps.changes.longer in inr (inr (omega (arith, le, new)))
was_place p t k (outcome.Waits next) o keeps place = subst (λ (s : Kept). IsPlace s o) keeps place
was_place p t k (outcome.IllTyped method pc) o keeps place = place
was_place p t k outcome.ObjectLimit o keeps place = place

event_tells_there : (p : Linked) (t : State) (x : Outcome Kept) (f : ℕ → ℕ → ℕ) (o i : ℕ) → TellsOtherWrites p t.kept x → f o i ≡ reference_told p t.kept o i → after_records f (records t x) o i ≡ reference_told p (after t x).kept o i
event_tells_there p t (outcome.Goes next rs) f o i tells same = tells_there f (reference_told p t.kept) (reference_told p next) rs o i same tells
event_tells_there p t (outcome.Waits next) f o i tells same = same ∙ sym (tells o i)
event_tells_there p t (outcome.IllTyped method pc) f o i tells same = same
event_tells_there p t outcome.ObjectLimit f o i tells same = same

event_elsewhere : (t : State) (x : Outcome Kept) (f : ℕ → ℕ → ℕ) (o i : ℕ) → WritesToReached t.kept x → 0 < o → (IsAtHand t.kept o → ⊥) → after_records f (records t x) o i ≡ f o i
event_elsewhere t (outcome.Goes next rs) f o i all some out = all_elsewhere t.kept o i some out f rs all
event_elsewhere t (outcome.Waits next) f o i all some out = refl
event_elsewhere t (outcome.IllTyped method pc) f o i all some out = refl
event_elsewhere t outcome.ObjectLimit f o i all some out = refl

event_is_of : (p : Linked) (t : State) (k : ℕ) (x : Outcome Kept) → TellsObjects p t.kept k x → All (IsOfEvent (t.kept.guest.clock + 1)) (records t x)
event_is_of p t k (outcome.Goes next rs) tells = all_of_event p (t.kept.guest.clock + 1) k next.heap (length t.kept.heap) rs (length next.heap) tells.tells
event_is_of p t k (outcome.Waits next) tells = All-nil (IsOfEvent (t.kept.guest.clock + 1))
event_is_of p t k (outcome.IllTyped method pc) tells = All-nil (IsOfEvent (t.kept.guest.clock + 1))
event_is_of p t k outcome.ObjectLimit tells = All-nil (IsOfEvent (t.kept.guest.clock + 1))

-- THE FIRST STATE: nothing stands anywhere

start_slot : (p : Linked) (o i : ℕ) → number_at (start p).heap o i ≡ 0
start_slot p zero i = refl
start_slot p (suc zero) i = refl
start_slot p (suc (suc o)) i = refl

both_none : (b : Bool) (x y : ℕ) → x ≡ 0 → y ≡ 0 → (if b then x else y) ≡ 0
both_none true x y none other = none
both_none false x y none other = other

start_empty : (p : Linked) (o i : ℕ) → reference_told p (start p) o i ≡ 0
start_empty p o i =
    both_none ((o == 0) && is_out_slot p i) 0 (reference_at (start p) o i) refl
    (both_none (o == 0) (number_of_value (static_at (start p).guest i)) (number_at (start p).heap o i) (ap (λ (v : Value). number_of_value v) (unset_at (length p.statics) i)) (start_slot p o i))

-- an object that is reached and made is held
reached_is_held : (s : Kept) (p : Linked) (o : ℕ) → IsSoundFor p s → 0 < o → o < length s.heap → IsReached (graph_of s) o → IsHeld s.heap o
reached_is_held s p o sound some lt r = by (at s.heap o) refl
  where
    by : (x : Option ObjectState) → at s.heap o ≡ x → is_there x
    by (Some x) e = tt
    by None e = absurd (reached_held (graph_of s) (sound_graph s sound.held) o r (at_gone s.heap o some lt (λ held. subst (λ (x : Option ObjectState). is_there x) e held)))

-- THE HISTORY
module _ (reached : Graph → ℕ → Bool) (p : Linked) (options : Options) (pick : ℕ → ℕ) (runs : IsHistory reached p options) where
  abbrev Before : ℕ → Type 0
  Before e = WholeComesTo reached p options pick e

  open history_words reached p options pick use {now, settled, turn, step}

  abbrev told : ℕ → (object slot : ℕ) → ℕ
  told e = told_by reached (whole_picked p options pick) (whole_start p) (start_records p) e

  fewer : (e : ℕ) → Before (suc e) → Before e
  fewer e goes k lt = goes k (omega (arith, lt))

  stands_at : (e : ℕ) → Before e → Stands p options e (settled e)
  stands_at e goes = (settled_match reached p options pick runs e (go_on reached p options pick runs e goes)).1

  unended_at : (e : ℕ) → Before (suc e) → IsUnended (settled e).kept.guest (turn e)
  unended_at e goes =
      let t : State = settled e in
      let on = is_open (length (unended_threads t.kept) == 0) (e == options.limit) _ _ _ (goes e (omega arith)) in
      picked_unended t.kept (pick (suc e)) on.some

  keeps : (e : ℕ) → Before (suc e) → KeepsMonitors (record { program = p; before = (settled e).kept; thread = turn e }) (step e)
  keeps e goes =
      let t : State = settled e in
      let on = is_open (length (unended_threads t.kept) == 0) (e == options.limit) _ _ _ (goes e (omega arith)) in
      keeps_at reached p options pick runs e t (turn e) (stands_at e (fewer e goes)) (record { some = on.some; within = on.within; thread_is = refl })

  settled_reference : (e o i : ℕ) → IsPlace (settled e).kept o → reference_told p (settled e).kept o i ≡ reference_told p (now e).kept o i
  settled_reference e o i =
      let here : ℕ → Bool = reached (graph (now e)) in
      if_case (λ (s : State). IsPlace s.kept o → reference_told p s.kept o i ≡ reference_told p (now e).kept o i) (is_flush_point options.interval e) (whole_flushed here (now e)) (now e)
      (λ place. same_told p (now e).kept (whole_flushed here (now e)).kept o i (flushed_reference here (now e) o i place)) (λ place. refl)

  settled_place : (e o : ℕ) → IsPlace (settled e).kept o → IsPlace (now e).kept o
  settled_place e o =
      let here : ℕ → Bool = reached (graph (now e)) in
      if_case (λ (s : State). IsPlace s.kept o → IsPlace (now e).kept o) (is_flush_point options.interval e) (whole_flushed here (now e)) (now e) (λ place. elim place [
        | inl none ↦ inl none
        | inr more ↦ elim more [
          | inl held ↦ inr (inl (flushed_held here (now e).kept.heap o held).0)
          | inr new ↦ let len : length (flushed_heap here (now e).kept.heap) ≡ length (now e).kept.heap = length-flushed here (now e).kept.heap in inr (inr (omega (arith, len, new)))
        ]
      ]) (λ place. place)

  settled_length : (e : ℕ) → length (settled e).kept.heap ≡ length (now e).kept.heap
  settled_length e =
      let here : ℕ → Bool = reached (graph (now e)) in
      if_case (λ (s : State). length s.kept.heap ≡ length (now e).kept.heap) (is_flush_point options.interval e) (whole_flushed here (now e)) (now e) (length-flushed here (now e).kept.heap) refl

  next_is : (e : ℕ) → now (suc e) ≡ after (settled e) (step e)
  unfolding left_by
  next_is e = refl

  told_next : (e o i : ℕ) → told (suc e) o i ≡ after_records (told e) (records (settled e) (step e)) o i
  unfolding told_by
  told_next e o i = refl

  module _ (plain : HasPlainStrings p) (cause : HasCause p) where
    all_told : (e : ℕ) → Before e → (o i : ℕ) → IsPlace (now e).kept o → told e o i ≡ reference_told p (now e).kept o i
    unfolding told_by left_by
    all_told zero goes o i place = sym (start_empty p o i)
    all_told (suc e) goes o i place =
        let t : State = settled e in
        let was : IsPlace t.kept o = was_place p t (turn e) (step e) o (keeps e goes) place in
        let before : told e o i ≡ reference_told p t.kept o i = all_told e (fewer e goes) o i (settled_place e o was) ∙ sym (settled_reference e o i was) in
        event_tells_there p t (step e) (told e) o i (event_tells_other_writes p t.kept (turn e) (stands_at e (fewer e goes)).state (unended_at e goes) runs.run.runnable plain cause) before

    pub slots_told : (e o i : ℕ) → Before e → (o ≡ 0) ⊎ IsHeld (now e).kept.heap o → (o ≡ 0 → is_out_slot p i ≡ false) → told e o i ≡ reference_at (now e).kept o i
    slots_told e o i goes (inl none) other = all_told e goes o i (inl none) ∙ told_is p (reference_at (now e).kept) o i (told_there p o i other)
    slots_told e o i goes (inr held) other = all_told e goes o i (inr (inl held)) ∙ told_is p (reference_at (now e).kept) o i (told_there p o i other)

    -- .. and nothing of System.out
    pub out_told : (e i : ℕ) → Before e → is_out_slot p i ≡ true → told e 0 i ≡ 0
    out_told e i goes is = all_told e goes 0 i (inl refl) ∙ ap (λ (b : Bool). if b then 0 else reference_at (now e).kept 0 i) is

  pub records_are_of : HasPlainStrings p → (e : ℕ) → Before e → All (IsOfEvent e) (records_at reached (whole_picked p options pick) (whole_start p) (start_records p) e)
  records_are_of plain zero goes = All-cons (IsOfEvent 0) _ [] refl (All-nil (IsOfEvent 0))
  records_are_of plain (suc e) goes =
      let t : State = settled e in
      let stands = stands_at e (fewer e goes) in
      let clock : t.kept.guest.clock + 1 ≡ suc e = (let c = stands.clock in omega (arith, c)) in
      subst (λ (n : ℕ). All (IsOfEvent n) (records t (step e))) clock (event_is_of p t (turn e) (step e) (event_tells p t.kept (turn e) stands.state (unended_at e goes) runs.run.runnable plain))

  -- what is not reached is not at hand after a flush either
  not_at_hand : (e o : ℕ) → Before e → 0 < o → o < length (now e).kept.heap → reached (graph (now e)) o ≡ false → IsAtHand (settled e).kept o → ⊥
  not_at_hand e o goes some lt out (inr new) = let len = settled_length e in absurd (omega (arith, len, lt, new))
  not_at_hand e o goes some lt out (inl r) =
      let here : ℕ → Bool = reached (graph (now e)) in
      let len = settled_length e in
      let held : IsHeld (settled e).kept.heap o = reached_is_held (settled e).kept p o (stands_at e goes).state some (omega (arith, len, lt)) r in
      if_known (λ (s : State). IsHeld s.kept.heap o → IsReached (graph_of s.kept) o → ⊥) (is_flush_point options.interval e) (whole_flushed here (now e)) (now e)
      (λ due h q. false≢true (sym out ∙ (flushed_held here (now e).kept.heap o h).1))
      (λ none h q. false≢true (sym out ∙ ((runs.decides (graph (now e)) o).1 (reached_all (now e) o q)))) held r

  pub unreached_stay : (e o i : ℕ) → Before (suc e) → 0 < o → o ≤ (graph (now e)).made → reached (graph (now e)) o ≡ false → told (suc e) o i ≡ told e o i
  unreached_stay e o i goes some within out =
      let t : State = settled e in
      told_next e o i
      ∙ event_elsewhere t (step e) (told e) o i (event_writes_to_reached p t.kept (turn e) (stands_at e (fewer e goes)).state (unended_at e goes) runs.run.runnable) some
      (not_at_hand e o (fewer e goes) some (omega (arith, some, within)) out)

  -- one event on
  pub unreached_on : (e n o i : ℕ) → suc e ≡ n → Before (suc e) → 0 < o → o ≤ (graph (now e)).made → reached (graph (now e)) o ≡ false → told n o i ≡ told e o i
  unreached_on e n o i is goes some within out = subst (λ (k : ℕ). told k o i ≡ told e o i) is (unreached_stay e o i goes some within out)
