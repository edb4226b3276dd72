-- The A lines of a history are those of its objects.
use Rattle.std.proofs.Common.{◌≡◌, ℕ, zero, suc, ◌+◌, ◌*◌, ◌/◌, ◌≤◌, ◌==◌, ◌⊎◌, Bool, true, false, List, [], ◌∷◌, ◌++◌, length, Option, Some, None, refl, sym, ◌∙◌, ap, subst, inl, inr, arith}
use Rattle.std.specs.Prelude.{if◌then◌else◌, map}
use Rattle.std.specs.List.{flat_map, list_any}
use Rattle.std.proofs.lemmas.Bool.{cases_lt}
use Rattle.et_base.specs.declared.line.TraceLine.{TraceLine}
use Rattle.et_base.specs.declared.line.TraceLine.TheVariants as line
use Rattle.et_graph.specs.Graph.{Graph}
use Rattle.et_heap.specs.Objects.{ObjectState, Objects, IsHeld, is_there, at, found, object_at, new_object}
use Rattle.et_heap.specs.Remaining.{left_place, remaining}
use Rattle.et_heap.proofs.HeapLists.{held_within}
use Rattle.et_state.specs.History.{ending, is_flush_point, flush_lines, left_by, lines_to, deaths}
use Rattle.et_state.specs.History as history
use Rattle.et_state.specs.Naming.{Names, Mentions, nothing_mentioned, with_mentions, class_line, method_line, classes_named_by, methods_named_by, number_in, line_of, record_lines, lines_of}
use Rattle.et_state.specs.Outcome.{Outcome, state_after, records_of}
use Rattle.et_state.specs.Outcome as outcome
use Rattle.et_state.specs.Past.{IsPast, first_of, reporting}
use Rattle.et_state.specs.Roots.{graph}
use Rattle.et_state.specs.Start.{argument_class}
use Rattle.et_state.specs.State.{State, Kept}
use Rattle.et_state.specs.declared.options.Options.{Options}
use Rattle.et_state.specs.declared.records.Record.{Record}
use Rattle.et_state.specs.declared.records.Record.TheVariants.{Alloc, Update, Enter, Exit, Unwind}
use Rattle.et_state.specs.Enqueuing.{newcomers, begins_to_wait, joined_place}
use Rattle.et_state.proofs.Enqueued.{length-flushed, joined_now}
use Rattle.et_program.specs.Entries.{Linked, class_at}
use Rattle.et_program.specs.declared.info.Element.{Element}
use Rattle.et_program.specs.declared.info.Element.TheVariants.{NoArray, Base, Class}
use Rattle.et_event.specs.Kinds.{is_array_element}
use Rattle.et_event.specs.Moments.{array_size, element_width}
use Rattle.et_event.specs.Start.{start_records}
use Rattle.et_history.specs.Allocations.{object_in, next_number, IsMadeAt, TellsOf, next_behind, AreAllocations, HasArguments}
use Rattle.et_history.specs.Histories.{picked, whole_picked, whole_at, IsHistory, HistoryComesTo, WholeComesTo}
use Rattle.et_history.specs.steps.Records.{size_by, size_of, IsAlike, next_after, IsAllocationOf, AreRecordsOf, HasPlainStrings, TellsObjects}
use Rattle.et_history.specs.Same.{IsHere}
use Rattle.et_history.specs.Settings.{unended_threads}
use Rattle.et_history.specs.steps.Telling.{names_of_program}
use Rattle.et_history.specs.Whole.{beside, cleared, whole_flushed, whole_start}
use Rattle.et_history.proofs.Alike.{is_open}
use Rattle.et_history.proofs.Wholes.{settled_match, go_on, picked_unended}
use Rattle.et_history.proofs.steps.Records.{alike_itself, alike_then, same_size}
use Rattle.et_history.proofs.texts.Events.{event_tells_objects as event_tells}
use Rattle.et_history.proofs.soundness.Outcomes.{if_case}
use Rattle.et_history.proofs.Freed.{past_at, settled_here, next_here}
use Rattle.et_history.proofs.HistoryWords.{history_words}

-- LINES

-- a record never lowers the number of the next object
pub rises : (next : ℕ) (r : Record) → next ≤ next_after next r
rises next (Alloc event thread object class size elements) = omega arith
rises next (Update event thread object slot old new) = omega arith
rises next (Enter event thread method receiver) = omega arith
rises next (Exit event thread method) = omega arith
rises next (Unwind event thread method exception) = omega arith

module _ (P : (event object size elements : ℕ) → Type 0) where
  both_tell : (a b c : ℕ) (xs ys : List TraceLine) → AreAllocations P a xs b → AreAllocations P b ys c → AreAllocations P a (xs ++ ys) c
  both_tell a b c [] ys h g = subst (λ (n : ℕ). AreAllocations P n ys c) (sym h) g
  both_tell a b c (l ∷ xs) ys h g = (h.0, both_tell (next_behind P a l) b c xs ys h.1 g)

  class_tells : (names : Names) (seen cs : List ℕ) (n : ℕ) → AreAllocations P n (flat_map (class_line names seen) cs) n
  class_tells names seen [] n = refl
  class_tells names seen (c ∷ cs) n =
      let one : List TraceLine = line.Class (length seen + 1) (names.class_name c) ∷ [] in
      both_tell n n n (class_line names seen c) (flat_map (class_line names seen) cs)
      (if_case (λ (ls : List TraceLine). AreAllocations P n ls n) (list_any (λ y. c == y) seen) [] one refl (tt, refl)) (class_tells names seen cs n)

  method_tells : (names : Names) (classes seen ms : List ℕ) (n : ℕ) → AreAllocations P n (flat_map (method_line names classes seen) ms) n
  method_tells names classes seen [] n = refl
  method_tells names classes seen (m ∷ ms) n =
      let one : List TraceLine = line.Method (length seen + 1) (number_in classes (names.method_class m)) (names.method_name m) (names.method_descriptor m) ∷ [] in
      both_tell n n n (method_line names classes seen m) (flat_map (method_line names classes seen) ms)
      (if_case (λ (ls : List TraceLine). AreAllocations P n ls n) (list_any (λ y. m == y) seen) [] one refl (tt, refl)) (method_tells names classes seen ms n)

  deaths_tell : (ds : List (ℕ × ℕ)) (n : ℕ) → AreAllocations P n (map (λ (d : ℕ × ℕ). line.Death d.0 d.1) ds) n
  deaths_tell [] n = refl
  deaths_tell (d ∷ ds) n = (tt, deaths_tell ds n)

  flush_tells : (e : ℕ) (ds : List (ℕ × ℕ)) (n : ℕ) → AreAllocations P n (flush_lines e ds) n
  flush_tells e ds n = (tt, deaths_tell ds n)

  -- the lines of the records of an event, which told what they are of
  module _ (p : Linked) (clock t : ℕ) (heap : Objects) (from : ℕ)
      (told : (object class size elements : ℕ) → from ≤ object → IsAllocationOf p heap object object class size elements → P clock object size elements) where
    line_tells : (m : Mentions) (next : ℕ) (r : Record) (rs : List Record) (last : ℕ) → from ≤ next → AreRecordsOf p clock t heap next (r ∷ rs) last → AreAllocations P next (line_of m r ∷ []) (next_after next r)
    line_tells m next (Alloc event thread object class size elements) rs last le are =
        let is : IsAllocationOf p heap next object class size elements = are.0.2 in
        let same : object ≡ next = is.number_is in
        let own : IsAllocationOf p heap object object class size elements = record { number_is = refl; held = is.held; class_is = is.class_is; length_is = is.length_is; size_is = is.size_is; plain = is.plain } in
        let made : P clock object size elements = told object class size elements (omega arith) own in
        ((same, subst (λ (k : ℕ). P k object size elements) (sym are.0.0) made), refl)
    line_tells m next (Update event thread object slot old new) rs last le are = (tt, refl)
    line_tells m next (Enter event thread method receiver) rs last le are = (tt, refl)
    line_tells m next (Exit event thread method) rs last le are = (tt, refl)
    line_tells m next (Unwind event thread method exception) rs last le are = (tt, refl)

    lines_tell : (names : Names) (m : Mentions) (next last : ℕ) (rs : List Record) → from ≤ next → AreRecordsOf p clock t heap next rs last → AreAllocations P next (lines_of names m rs) last
    lines_tell names m next last [] le are = are
    lines_tell names m next last (r ∷ rs) le are =
        let now : Mentions = with_mentions names m r in
        let cs : List TraceLine = flat_map (class_line names m.classes) (classes_named_by names r) in
        let ms : List TraceLine = flat_map (method_line names now.classes m.methods) (methods_named_by r) in
        let up : next ≤ next_after next r = rises next r in
        both_tell next (next_after next r) last (record_lines names m r) (lines_of names now rs)
        (both_tell next next (next_after next r) (cs ++ ms) (line_of now r ∷ [])
        (both_tell next next next cs ms (class_tells names m.classes (classes_named_by names r) next) (method_tells names now.classes m.methods (methods_named_by r) next))
        (line_tells now next r rs last le are))
        (lines_tell names now (next_after next r) last rs (omega arith) are.1)

    records_rise : (next last : ℕ) (rs : List Record) → AreRecordsOf p clock t heap next rs last → next ≤ last
    records_rise next last [] are = omega arith
    records_rise next last (r ∷ rs) are = let up = rises next r in let more = records_rise (next_after next r) last rs are.1 in omega arith

-- what a line tells is told by another word for it
module _ (P Q : (event object size elements : ℕ) → Type 0) (so : (event object size elements : ℕ) → P event object size elements → Q event object size elements) where
  one_so : (next : ℕ) (l : TraceLine) → TellsOf P next l → TellsOf Q next l × (next_behind P next l ≡ next_behind Q next l)
  one_so next (line.Header version interval) h = (tt, refl)
  one_so next (line.Class number name) h = (tt, refl)
  one_so next (line.Method number class name descriptor) h = (tt, refl)
  one_so next (line.Alloc event thread object class size elements) h = ((h.0, so event object size elements h.1), refl)
  one_so next (line.Update event thread object slot old new) h = (tt, refl)
  one_so next (line.Enter event thread method receiver) h = (tt, refl)
  one_so next (line.Exit event thread method) h = (tt, refl)
  one_so next (line.Unwind event thread method exception) h = (tt, refl)
  one_so next (line.Flush event deaths) h = (tt, refl)
  one_so next (line.Death object time) h = (tt, refl)
  one_so next (line.Finish event how) h = (tt, refl)

  all_so : (next end : ℕ) (ls : List TraceLine) → AreAllocations P next ls end → AreAllocations Q next ls end
  all_so next end [] h = h
  all_so next end (l ∷ ls) h =
      let one = one_so next l h.0 in
      (one.0, subst (λ (n : ℕ). AreAllocations Q n ls end) one.1 (all_so (next_behind P next l) end ls h.1))

-- OBJECTS of a state

pub held_in : (s : State) (o : ℕ) → IsHeld s.kept.heap o → object_in s o ≡ object_at s.kept.heap o
held_in s o held = by (at s.kept.heap o) held
  where
    by : (x : Option ObjectState) → is_there x → found (first_of x (at s.reported o)) ≡ found x
    by None h = absurd h
    by (Some x) h = refl

reported_in : (s : State) (o : ℕ) → (IsHeld s.kept.heap o → ⊥) → object_in s o ≡ found (at s.reported o)
reported_in s o out = by (at s.kept.heap o) out
  where
    by : (x : Option ObjectState) → (is_there x → ⊥) → found (first_of x (at s.reported o)) ≡ found (at s.reported o)
    by None h = refl
    by (Some x) h = absurd (h tt)

-- .. of which a flush changes at most the referent, and who waits
place_alike : (here : ℕ → Bool) (b : Bool) (x r : Option ObjectState) → (is_there x → is_there r → ⊥) → is_there x ⊎ is_there r → IsAlike (found (first_of x r)) (found (first_of (left_place here b x) (cleared here (first_of r (if b then None else x)))))
place_alike here true (Some x) None apart h = record { class = refl; elements = refl; slots = refl }
place_alike here false (Some x) None apart h = record { class = refl; elements = refl; slots = refl }
place_alike here b None (Some r) apart h = record { class = refl; elements = refl; slots = refl }
place_alike here b (Some x) (Some r) apart h = absurd (apart tt tt)
place_alike here b None None apart (inl h) = absurd h
place_alike here b None None apart (inr h) = absurd h

flush_alike : (here : ℕ → Bool) (k : ℕ) (xs rs : Objects) (o : ℕ) → length rs ≤ length xs → (IsHeld xs o → IsHeld rs o → ⊥) → IsHeld xs o ⊎ IsHeld rs o
    → IsAlike (found (first_of (at xs o) (at rs o))) (found (first_of (at (remaining here k xs) o) (at (map (cleared here) (reporting here k xs rs)) o)))
flush_alike here k [] [] o le apart h = elim h [ inl a ↦ absurd a | inr b ↦ absurd b ]
flush_alike here k [] (r ∷ rs) o le apart h = absurd (omega (arith, le))
flush_alike here k (x ∷ xs) [] zero le apart h = place_alike here (here k) x None apart h
flush_alike here k (x ∷ xs) [] (suc o) le apart h = flush_alike here (k + 1) xs [] o (omega arith) apart h
flush_alike here k (x ∷ xs) (r ∷ rs) zero le apart h = place_alike here (here k) x r apart h
flush_alike here k (x ∷ xs) (r ∷ rs) (suc o) le apart h = flush_alike here (k + 1) xs rs o (omega (arith, le)) apart h

flushed_alike : (here : ℕ → Bool) (s : State) (o : ℕ) → IsPast s.kept.heap s.reported → IsHere s o → IsAlike (object_in s o) (object_in (whole_flushed here s) o)
flushed_alike here s o past h =
    let coming = newcomers here s.kept.heap in
    let begins = begins_to_wait here s.kept.heap in
    let left : Objects = remaining here 0 s.kept.heap in
    let was : Option ObjectState = at (map (cleared here) (reporting here 0 s.kept.heap s.reported)) o in
    alike_then (object_in s o) (found (first_of (at left o) was)) (object_in (whole_flushed here s) o) (flush_alike here 0 s.kept.heap s.reported o past.within (past.apart o) h)
    (subst (λ (x : Option ObjectState). IsAlike (found (first_of (at left o) was)) (found (first_of x was))) (sym (joined_now coming begins left o)) (joined_alike coming begins o (at left o) was))
  where
    joined_alike : (coming : ℕ → List ℕ) (begins : ℕ → Bool) (k : ℕ) (x r : Option ObjectState) → IsAlike (found (first_of x r)) (found (first_of (joined_place coming begins k x) r))
    joined_alike coming begins k None None = record { class = refl; elements = refl; slots = refl }
    joined_alike coming begins k None (Some y) = record { class = refl; elements = refl; slots = refl }
    joined_alike coming begins k (Some x) r = record { class = refl; elements = refl; slots = refl }

-- AN EVENT

abbrev after : State → Outcome Kept → State
after t x = state_after t (beside t.reported x)

event_alike : (p : Linked) (t : State) (k : ℕ) (x : Outcome Kept) (o : ℕ) → TellsObjects p t.kept k x → IsPast t.kept.heap t.reported → IsPast (after t x).kept.heap (after t x).reported → IsHere t o
    → IsAlike (object_in t o) (object_in (after t x) o)
event_alike p t k (outcome.Goes next records) o tells past now (inl held) =
    subst (λ (y : ObjectState). IsAlike y (object_in (after t (outcome.Goes next records)) o)) (sym (held_in t o held))
    (subst (λ (y : ObjectState). IsAlike (object_at t.kept.heap o) y) (sym (held_in (after t (outcome.Goes next records)) o (tells.stays o held))) (tells.alike o held))
event_alike p t k (outcome.Goes next records) o tells past now (inr there) =
    subst (λ (y : ObjectState). IsAlike y (object_in (after t (outcome.Goes next records)) o)) (sym (reported_in t o (λ held. past.apart o held there)))
    (subst (λ (y : ObjectState). IsAlike (found (at t.reported o)) y) (sym (reported_in (after t (outcome.Goes next records)) o (λ held. now.apart o held there))) (alike_itself (found (at t.reported o))))
event_alike p t k (outcome.Waits next) o tells past now h =
    subst (λ (heap : Objects). IsAlike (object_in t o) (found (first_of (at heap o) (at t.reported o)))) (sym tells) (alike_itself (object_in t o))
event_alike p t k (outcome.IllTyped method pc) o tells past now h = alike_itself (object_in t o)
event_alike p t k outcome.ObjectLimit o tells past now h = alike_itself (object_in t o)

event_longer : (p : Linked) (t : State) (k : ℕ) (x : Outcome Kept) → TellsObjects p t.kept k x → next_number t ≤ next_number (after t x)
event_longer p t k (outcome.Goes next records) tells = records_rise (λ event object size elements. Unit {0}) p (t.kept.guest.clock + 1) k next.heap 0 (λ object class size elements le is. tt) (next_number t) (length next.heap) records tells.tells
event_longer p t k (outcome.Waits next) tells = subst (λ (heap : Objects). length t.kept.heap ≤ length heap) (sym tells) (omega arith)
event_longer p t k (outcome.IllTyped method pc) tells = omega arith
event_longer p t k outcome.ObjectLimit tells = omega arith

event_lines : (P : (event object size elements : ℕ) → Type 0) (p : Linked) (t : State) (k : ℕ) (x : Outcome Kept) (names : Names) (m : Mentions) → TellsObjects p t.kept k x
    → ((object size elements : ℕ) → next_number t ≤ object → IsHeld (after t x).kept.heap object → elements ≡ (object_in (after t x) object).length → size ≡ size_of p (object_in (after t x) object) → P (t.kept.guest.clock + 1) object size elements)
    → AreAllocations P (next_number t) (lines_of names m (records_of (beside t.reported x))) (next_number (after t x))
event_lines P p t k (outcome.Goes next records) names m tells told =
    let now : State = after t (outcome.Goes next records) in
    lines_tell P p (t.kept.guest.clock + 1) k next.heap (next_number t)
    (λ object class size elements le is.
    let same : object_at next.heap object ≡ object_in now object = sym (held_in now object is.held) in
    told object size elements le is.held (is.length_is ∙ ap (λ (y : ObjectState). y.length) same) (is.size_is ∙ ap (λ (y : ObjectState). size_of p y) same))
    names m (next_number t) (length next.heap) records (omega arith) tells.tells
event_lines P p t k (outcome.Waits next) names m tells told = ap (λ (heap : Objects). length heap) (sym tells)
event_lines P p t k (outcome.IllTyped method pc) names m tells told = refl
event_lines P p t k outcome.ObjectLimit names m tells told = refl

none_times : (n : ℕ) → 0 ≡ 0 * n
none_times n = omega arith

argument_size : (x : Element) → is_array_element x ≡ true → array_size 0 8 ≡ size_by x 0 0
argument_size NoArray is = cc
argument_size (Base kind) is = ap (λ (n : ℕ). (24 + n + 7) / 8 * 8) (none_times (element_width (Base kind)))
argument_size (Class class) is = refl

-- THE HISTORY
module _ (reached : Graph → ℕ → Bool) (p : Linked) (options : Options) (pick : ℕ → ℕ) (runs : IsHistory reached p options) (plain : HasPlainStrings p) (arguments : HasArguments p) where
  abbrev Before : ℕ → Type 0
  Before e = HistoryComesTo reached p options pick e

  open history_words reached p options pick use {now, settled, turn, step}

  fewer : (e : ℕ) → Before (suc e) → Before e
  fewer e goes k lt = goes k (omega (arith, lt))

  settled_alike : (e o : ℕ) → Before e → IsHere (now e) o → IsAlike (object_in (now e) o) (object_in (settled e) o)
  settled_alike e o goes h =
      let here : ℕ → Bool = reached (graph (now e)) in
      if_case (λ (s : State). IsAlike (object_in (now e) o) (object_in s o)) (is_flush_point options.interval e) (whole_flushed here (now e)) (now e)
      (flushed_alike here (now e) o (past_at reached p options pick runs e goes) h) (alike_itself (object_in (now e) o))

  settled_next : (e : ℕ) → next_number (settled e) ≡ next_number (now e)
  settled_next e =
      let here : ℕ → Bool = reached (graph (now e)) in
      if_case (λ (s : State). next_number s ≡ next_number (now e)) (is_flush_point options.interval e) (whole_flushed here (now e)) (now e) (length-flushed here (now e).kept.heap) refl

  tells_at : (e : ℕ) → Before (suc e) → TellsObjects p (settled e).kept (turn e) (step e)
  tells_at e goes =
      let m = settled_match reached p options pick runs e (fewer e goes) in
      let t : State = settled e in
      let on = is_open (length (unended_threads t.kept) == 0) (e == options.limit) _ _ _ (subst (λ (x : Kept). ending (picked p options pick) e x ≡ None) (sym m.0) (goes e (omega arith))) in
      event_tells p t.kept (turn e) m.1.state (picked_unended t.kept (pick (suc e)) on.some) runs.run.runnable plain

  next_is : (e : ℕ) → now (suc e) ≡ after (settled e) (step e)
  unfolding left_by
  next_is e = refl

  longer : (e : ℕ) → Before (suc e) → next_number (now e) ≤ next_number (now (suc e))
  longer e goes =
      let more : next_number (settled e) ≤ next_number (after (settled e) (step e)) = event_longer p (settled e) (turn e) (step e) (tells_at e goes) in
      let same : next_number (now (suc e)) ≡ next_number (after (settled e) (step e)) = ap (λ (s : State). next_number s) (next_is e) in
      omega (arith, settled_next e)

  all_longer : (k e : ℕ) → Before e → k ≤ e → next_number (now k) ≤ next_number (now e)
  all_longer k zero goes le = let same : k ≡ 0 = omega arith in subst (λ (n : ℕ). next_number (now n) ≤ next_number (now 0)) (sym same) (omega arith)
  all_longer k (suc e) goes le =
      elim (cases_lt k (suc e)) [
        | inl lt ↦ (let before = all_longer k e (fewer e goes) (omega (arith, lt)) in let one = longer e goes in omega arith)
        | inr ge ↦ (let same : k ≡ suc e = omega (arith, ge) in subst (λ (n : ℕ). next_number (now n) ≤ next_number (now (suc e))) (sym same) (omega arith))
      ]

  -- what is in the state stays so, and alike
  next_alike : (e o : ℕ) → Before (suc e) → IsHere (now e) o → IsAlike (object_in (now e) o) (object_in (now (suc e)) o)
  next_alike e o goes h =
      let t : State = settled e in
      let m = settled_match reached p options pick runs e (fewer e goes) in
      let past_next : IsPast (after t (step e)).kept.heap (after t (step e)).reported = subst (λ (s : State). IsPast s.kept.heap s.reported) (next_is e) (past_at reached p options pick runs (suc e) goes) in
      subst (λ (s : State). IsAlike (object_in (now e) o) (object_in s o)) (sym (next_is e))
      (alike_then (object_in (now e) o) (object_in t o) (object_in (after t (step e)) o) (settled_alike e o (fewer e goes) h)
      (event_alike p t (turn e) (step e) o (tells_at e goes) m.1.past past_next (settled_here reached p options pick runs e o (fewer e goes) h)))

  abbrev Made : ℕ → (event object size elements : ℕ) → Type 0
  Made e event object size elements = IsMadeAt p (whole_at reached p options pick) e event object size elements

  made_on : (e event object size elements : ℕ) → Before (suc e) → Made e event object size elements → Made (suc e) event object size elements
  made_on e event object size elements goes h =
      let alike : IsAlike (object_in (now e) object) (object_in (now (suc e)) object) = next_alike e object goes h.here in
      let le = h.within in
      record {
        within = omega arith;
        made = h.made;
        new = h.new;
        here = next_here reached p options pick runs e object goes h.here;
        length_is = h.length_is ∙ sym alike.elements;
        size_is = h.size_is ∙ same_size p (object_in (now e) object) (object_in (now (suc e)) object) alike;
      }

  first_told : AreAllocations (Made 0) 1 (history.lines_to reached (whole_picked p options pick) (whole_start p) (start_records p) 0) (next_number (now 0))
  unfolding lines_to left_by
  first_told =
      let class : ℕ = argument_class p in
      let object : ObjectState = new_object class 0 0 in
      let heap : Objects = None ∷ Some object ∷ [] in
      let allocation : IsAllocationOf p heap 1 1 class (array_size 0 8) 0 = record { number_is = refl; held = tt; class_is = refl; length_is = refl; size_is = argument_size (class_at p class).info.element arguments; plain = λ none. refl } in (
        tt,
        lines_tell (Made 0) p 0 0 heap 1
            (λ o c size elements le is. record {
              within = omega arith;
              made = held_within heap o is.held;
              new = λ k lt. absurd (omega arith);
              here = inl is.held;
              length_is = is.length_is ∙ ap (λ (y : ObjectState). y.length) (sym (held_in (whole_start p) o is.held));
              size_is = is.size_is ∙ ap (λ (y : ObjectState). size_of p y) (sym (held_in (whole_start p) o is.held));
            })
            (names_of_program p) nothing_mentioned 1 2 (start_records p) (omega arith) ((refl, refl, allocation), refl),
      )

  next_told : (e : ℕ) → Before (suc e) → AreAllocations (Made (suc e)) (next_number (settled e)) (lines_of (names_of_program p) (history.mentions_to reached (whole_picked p options pick) (whole_start p) (start_records p) e) (records_of (beside (settled e).reported (step e)))) (next_number (now (suc e)))
  next_told e goes =
      let t : State = settled e in
      let m = settled_match reached p options pick runs e (fewer e goes) in
      let clock : t.kept.guest.clock + 1 ≡ suc e = (let c = m.1.clock in omega arith) in
      subst (λ (n : ℕ). AreAllocations (Made (suc e)) (next_number t) (lines_of (names_of_program p) (history.mentions_to reached (whole_picked p options pick) (whole_start p) (start_records p) e) (records_of (beside t.reported (step e)))) n) (ap (λ (s : State). next_number s) (sym (next_is e)))
      (event_lines (Made (suc e)) p t (turn e) (step e) (names_of_program p) (history.mentions_to reached (whole_picked p options pick) (whole_start p) (start_records p) e) (tells_at e goes)
      (λ object size elements le held length_is size_is.
      let held_now : IsHeld (now (suc e)).kept.heap object = subst (λ (s : State). IsHeld s.kept.heap object) (sym (next_is e)) held in
      subst (λ (n : ℕ). Made (suc e) n object size elements) (sym clock) (record {
        within = omega arith;
        made = held_within (now (suc e)).kept.heap object held_now;
        new = λ k lt. (let up : next_number (now k) ≤ next_number (now e) = all_longer k e (fewer e goes) (omega (arith, lt)) in omega (arith, settled_next e));
        here = inl held_now;
        length_is = length_is ∙ ap (λ (s : State). (object_in s object).length) (sym (next_is e));
        size_is = size_is ∙ ap (λ (s : State). size_of p (object_in s object)) (sym (next_is e));
      })))

  all_told : (e : ℕ) → Before e → AreAllocations (Made e) 1 (history.lines_to reached (whole_picked p options pick) (whole_start p) (start_records p) e) (next_number (now e))
  unfolding lines_to
  all_told zero goes = first_told
  all_told (suc e) goes =
      let old : List TraceLine = history.lines_to reached (whole_picked p options pick) (whole_start p) (start_records p) e in
      let flush : List TraceLine = flush_lines e (deaths reached (whole_picked p options pick) (whole_start p) (start_records p) e) in
      let n : ℕ = next_number (now e) in
      let told : AreAllocations (Made (suc e)) 1 old n =
      all_so (Made e) (Made (suc e)) (λ event object size elements h. made_on e event object size elements goes h) 1 n old (all_told e (fewer e goes)) in
      let none : AreAllocations (Made (suc e)) n (if is_flush_point options.interval e then flush else []) n =
      if_case (λ (ls : List TraceLine). AreAllocations (Made (suc e)) n ls n) (is_flush_point options.interval e) flush [] (flush_tells (Made (suc e)) e (deaths reached (whole_picked p options pick) (whole_start p) (start_records p) e) n) refl in
      let new = subst (λ (k : ℕ). AreAllocations (Made (suc e)) k (lines_of (names_of_program p) (history.mentions_to reached (whole_picked p options pick) (whole_start p) (start_records p) e) (records_of (beside (settled e).reported (step e)))) (next_number (now (suc e)))) (settled_next e) (next_told e goes) in
      both_tell (Made (suc e)) 1 n (next_number (now (suc e))) (old ++ (if is_flush_point options.interval e then flush else []))
      (lines_of (names_of_program p) (history.mentions_to reached (whole_picked p options pick) (whole_start p) (start_records p) e) (records_of (beside (settled e).reported (step e))))
      (both_tell (Made (suc e)) 1 n n old (if is_flush_point options.interval e then flush else []) told none) new

  -- THE LAW
  pub allocations_told : (e : ℕ) → WholeComesTo reached p options pick e → AreAllocations (Made e) 1 (history.lines_to reached (whole_picked p options pick) (whole_start p) (start_records p) e) (next_number (now e))
  allocations_told e goes = all_told e (go_on reached p options pick runs e goes)
