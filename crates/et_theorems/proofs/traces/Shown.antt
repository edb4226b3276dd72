-- A snapshot of a trace shows the state that its event left.
use Rattle.std.proofs.Common.{◌≡◌, ℕ, zero, suc, ◌+◌, ◌-◌, ◌<◌, ◌≤◌, nat_le, not, ◌&&◌, ◌==◌, ◌⊎◌, Bool, true, false, List, [], ◌∷◌, ◌++◌, filter, length, Contains, refl, sym, ◌∙◌, ap, subst, inl, inr, arith, append-nil}
use Rattle.std.specs.Prelude.{All, if◌then◌else◌, slice_index_or}
use Rattle.std.proofs.lemmas.Bool.{cases_eq, eqb-true, false_from_ne_true, le-leb, true≢false}
use Rattle.std.specs.List.{flat_map}
use Rattle.std.proofs.lemmas.List.Elements.{Contains-append_left, Contains-append_right}
use Rattle.et_state.proofs.Numbered.{in_range}
use Rattle.et_base.specs.declared.line.TraceLine.{TraceLine}
use Rattle.et_base.specs.declared.line.TraceLine.TheVariants as line
use Rattle.et_base.specs.declared.value.End.{End}
use Rattle.et_base.specs.declared.value.Value.{Value}
use Rattle.et_base.specs.declared.value.Value.TheVariants.{Unset, Int, Long, LongHigh, Null, Ref}
use Rattle.et_base.proofs.Lists.{Contains-here, Contains-there, filter_kept, filter_keeps}
use Rattle.et_graph.specs.Graph.{Graph, Decides, IsReached}
use Rattle.et_heap.specs.Objects.{ObjectState, IsHeld, object_at, slot_of}
use Rattle.et_heap.specs.Refs.{refs_of, refs_of_value}
use Rattle.et_heap.proofs.HeapLists.{held_within}
use Rattle.et_program.specs.Entries.{Linked}
use Rattle.et_state.specs.History.{flush_lines, how_of, records_at, trace_of}
use Rattle.et_state.specs.Roots.{graph, graph_of, numbers_from, roots_of}
use Rattle.et_state.specs.State.{GuestState, Kept}
use Rattle.et_state.specs.Words.{static_at}
use Rattle.et_state.specs.declared.options.Options.{Options}
use Rattle.et_state.specs.Interned.{interned_objects}
use Rattle.et_state.specs.ThreadRoots.{thread_roots}
use Rattle.et_state.proofs.UnderWay.{root_is_reached, slot_is_reached, slot_pair}
use Rattle.et_event.specs.Moments.{number_of_value}
use Rattle.et_event.specs.Start.{start_records}
use Rattle.et_history.specs.Allocations.{IsMadeAt, next_number, object_in}
use Rattle.et_history.specs.Histories.{whole_picked}
use Rattle.et_history.specs.Slots.{IsOfEvent, told_by}
use Rattle.et_history.specs.Whole.{whole_start}
use Rattle.et_history.proofs.Reporting.{found_before}
use Rattle.et_history.proofs.Allocations.{held_in}
use Rattle.et_replay.specs.Curve.{dies_before}
use Rattle.et_snapshot.specs.Snapshot.{content}
use Rattle.et_theorems.specs.traces.Snapshots.{live_objects}
use Rattle.et_theorems.proofs.traces.LiveObjects.{shown, shown_both, flush_none, shows_up, late_shows_none}
use Rattle.et_theorems.proofs.traces.LiveReached.{run_words, split, from_seen, seen_from, here_below, made_on, dies_when, lives_when, late}
use Rattle.et_theorems.proofs.traces.LiveSums.{rest_told}
use Rattle.et_theorems.proofs.traces.Reported.{Knows, flushed_out, made_by, now}
use Rattle.et_theorems.proofs.traces.SlotLines.{content_told}
use Rattle.et_history.specs.steps.Writes.{is_out_slot, reference_at}

-- NUMBERS in a row

in_numbers : (k n o : ℕ) → k ≤ o → o < k + n → Contains (numbers_from k n) o
in_numbers k zero o le lt = absurd (omega (arith, le, lt))
in_numbers k (suc n) o le lt =
    elim (cases_eq k o) [
      | inl same ↦ subst (λ (j : ℕ). Contains (k ∷ numbers_from (k + 1) n) j) same (Contains-here k (numbers_from (k + 1) n))
      | inr ne ↦ Contains-there k (numbers_from (k + 1) n) o (in_numbers (k + 1) n o (omega (arith, le, ne)) (omega (arith, lt)))
    ]

-- VALUES: one whose number is not 0 refers to the object of that number

value_refers : (v : Value) (t : ℕ) → number_of_value v ≡ t → (t ≡ 0 → ⊥) → Contains (refs_of_value v) t
value_refers Unset t is some = absurd (some (sym is))
value_refers (Int n) t is some = absurd (some (sym is))
value_refers (Long n) t is some = absurd (some (sym is))
value_refers LongHigh t is some = absurd (some (sym is))
value_refers Null t is some = absurd (some (sym is))
value_refers (Ref o) t is some = subst (λ (k : ℕ). Contains (o ∷ []) k) is (Contains-here o [])

unset_beyond : (vs : List Value) (i : ℕ) → length vs ≤ i → slice_index_or vs i Unset ≡ Unset
unset_beyond [] i le = refl
unset_beyond (v ∷ vs) zero le = absurd (omega (arith, le))
unset_beyond (v ∷ vs) (suc i) le = unset_beyond vs i (omega (arith, le))

place_refers : (vs : List Value) (i t : ℕ) → number_of_value (slice_index_or vs i Unset) ≡ t → (t ≡ 0 → ⊥) → Contains (refs_of vs) t
place_refers [] i t is some = absurd (some (sym is))
place_refers (v ∷ vs) zero t is some = Contains-append_left (refs_of_value v) (refs_of vs) t (value_refers v t is some)
place_refers (v ∷ vs) (suc i) t is some = Contains-append_right (refs_of_value v) (refs_of vs) t (place_refers vs i t is some)

static_root : (g : GuestState) (t : ℕ) → Contains (refs_of g.statics) t → Contains (roots_of g) t
static_root g t c = Contains-append_right (flat_map thread_roots g.threads) _ t (Contains-append_left (refs_of g.statics) (interned_objects g.interned) t c)

no_zero : (o : ℕ) → 0 < o → (o == 0) ≡ false
no_zero o some = false_from_ne_true (o == 0) (λ h. let same : o ≡ 0 = eqb-true o 0 h in absurd (omega (arith, same, some)))

object_reference : (s : Kept) (o i : ℕ) → 0 < o → reference_at s o i ≡ number_of_value (slot_of (object_at s.heap o) i)
object_reference s o i some = ap (λ (b : Bool). if b then number_of_value (static_at s.guest i) else number_of_value (slot_of (object_at s.heap o) i)) (no_zero o some)

-- a truth that is another
same_truth : (a b c : Bool) → a ≡ true → (c ≡ true → b ≡ false) → (c ≡ false → b ≡ true) → (a && not b) ≡ c
same_truth false b c is alive dead = absurd (true≢false (sym is))
same_truth true true true is alive dead = absurd (true≢false (alive refl))
same_truth true true false is alive dead = refl
same_truth true false true is alive dead = refl
same_truth true false false is alive dead = absurd (true≢false (sym (dead refl)))

-- what the laws say of the states and the records of a run up to this event
module _ (reached : Graph → ℕ → Bool) (p : Linked) (options : Options) (pick : ℕ → ℕ) (last : ℕ) where
  abbrev told : ℕ → (object slot : ℕ) → ℕ
  told e = told_by reached (whole_picked p options pick) (whole_start p) (start_records p) e

  pub record Facts : Type 0 where
    pub knows : Knows reached p options pick last
    pub told_is : (e o i : ℕ) → e ≤ last → (o ≡ 0) ⊎ IsHeld (now reached p options pick e).kept.heap o → (o ≡ 0 → is_out_slot p i ≡ false) → told e o i ≡ reference_at (now reached p options pick e).kept o i
    pub out_is : (e i : ℕ) → e ≤ last → is_out_slot p i ≡ true → told e 0 i ≡ 0
    pub events_are : (e : ℕ) → e ≤ last → All (IsOfEvent e) (records_at reached (whole_picked p options pick) (whole_start p) (start_records p) e)
    pub unreached : (e o i : ℕ) → suc e ≤ last → 0 < o → o ≤ made_by reached p options pick e → reached (graph (now reached p options pick e)) o ≡ false → told (suc e) o i ≡ told e o i

-- THE RUN
module _ (reached : Graph → ℕ → Bool) (p : Linked) (options : Options) (pick : ℕ → ℕ) (last : ℕ) (end : End) (decides : Decides reached) (facts : Facts reached p options pick last) where
  abbrev knows : Knows reached p options pick last
  knows = facts.knows

  open run_words reached p options pick last end use {state, made, lines, dead, trace, from}

  abbrev writes : ℕ → (object slot : ℕ) → ℕ
  writes e = told reached p options pick last e

  abbrev Reached : ℕ → ℕ → Type 0
  Reached e o = reached (graph (state e)) o ≡ true

  -- an object is no static
  some_apart : (o i : ℕ) → 0 < o → o ≡ 0 → is_out_slot p i ≡ false
  some_apart o i some none = absurd (omega (arith, some, none))

  -- CONTENTS are what the records tell
  content_is : (e o i : ℕ) → e ≤ last → content trace e o i ≡ writes e o i
  content_is e o i le =
      let n : ℕ = last - e in
      let same : e + n ≡ last = omega (arith, le) in
      ap (λ (k : ℕ). content (trace_of reached (whole_picked p options pick) (whole_start p) (start_records p) k end) e o i) (sym same)
      ∙ content_told e o i reached (whole_picked p options pick) (whole_start p) (start_records p) n end (λ k within. facts.events_are k (omega (arith, within, same)))

  -- an object that is reached at an event or a later one is held in the state that the event left
  held_before : (e k o : ℕ) → e ≤ k → k ≤ last → 0 < o → o ≤ made e → Reached k o → IsHeld (state e).kept.heap o
  held_before e k o low high some within is = elim (knows.all e o (omega (arith, low, high)) some within) [
    | inl held ↦ held
    | inr there ↦
        let f = found_before reached p options pick e o there in
        let lt = f.1 in
        absurd (flushed_out reached p options pick last decides knows f.0 k o f.2 (omega (arith, lt, low)) high is)
  ]

  module _ (e : ℕ) (le : e ≤ last) where
    -- THE OBJECTS
    abbrev lives : ℕ → Bool
    lives o = from o e (last - e)

    one_lives : (born object size elements : ℕ) → 0 < object → IsMadeAt p state e born object size elements → (nat_le born e && not (dies_before trace e object)) ≡ lives object
    one_lives born object size elements some made_at =
        let below = here_below reached p options pick last end decides knows e object le made_at.here in
        let is : object ≤ made e = omega (arith, below) in
        same_truth (nat_le born e) (dies_before trace e object) (lives object) (le-leb born e made_at.within)
        (lives_when reached p options pick last end decides knows e object le some is) (dies_when reached p options pick last end decides knows e object le some is)

    pub objects_are : live_objects trace e ≡ filter lives (numbers_from 1 (made e))
    objects_are =
        let more = split reached p options pick last end decides knows e le in
        let first = knows.told e le in
        let s = shows_up trace e (IsMadeAt p state e) lives one_lives 1 (next_number (state e)) (lines e) (omega arith) first in
        let count = s.end_is in
        let rest = rest_told (IsMadeAt p state last) (IsMadeAt p state e) 1 (next_number (state e)) (next_number (state last)) (lines e) more.0 first more.2 in
        let none : shown trace e more.0 ≡ [] =
        late_shows_none trace e (IsMadeAt p state last) (next_number (state e)) (late reached p options pick last end decides knows e le (omega (arith, count))) (next_number (state e)) (next_number (state last)) more.0 (omega arith) rest in
        let tail : List TraceLine = line.Finish last (how_of end) ∷ [] in
        let whole : shown trace e trace ≡ shown trace e (lines last) =
        shown_both trace e (lines last ++ flush_lines last (dead last)) tail
        ∙ (append-nil (shown trace e (lines last ++ flush_lines last (dead last)))
        ∙ (shown_both trace e (lines last) (flush_lines last (dead last))
        ∙ (ap (λ (os : List ℕ). shown trace e (lines last) ++ os) (flush_none trace e last (dead last)) ∙ append-nil (shown trace e (lines last))))) in
        let parts : shown trace e (lines last) ≡ shown trace e (lines e) =
        ap (λ (ls : List TraceLine). shown trace e ls) more.1
        ∙ (shown_both trace e (lines e) more.0 ∙ (ap (λ (os : List ℕ). shown trace e (lines e) ++ os) none ∙ append-nil (shown trace e (lines e)))) in
        let numbers : s.count ≡ made e = omega (arith, count) in
        whole ∙ (parts ∙ (s.shown_is ∙ ap (λ (n : ℕ). filter lives (numbers_from 1 n)) numbers))

    -- an object that is live was made, is reached then or later, and is held
    record IsLive (o : ℕ) : Type 0 where
      some : 0 < o
      within : o ≤ made e
      later : lives o ≡ true

    is_live : (o : ℕ) → Contains (live_objects trace e) o → IsLive o
    is_live o c =
        let f = filter_kept lives (numbers_from 1 (made e)) o (subst (λ (os : List ℕ). Contains os o) objects_are c) in
        let r = in_range 1 (made e) o f.0 in
        let a = r.0 in
        let b = r.1 in
        record { some = omega (arith, a); within = omega (arith, b); later = f.1 }

    live_is : (o : ℕ) → IsLive o → Contains (live_objects trace e) o
    live_is o l =
        let a = l.some in
        let b = l.within in
        subst (λ (os : List ℕ). Contains os o) (sym objects_are) (filter_keeps lives (numbers_from 1 (made e)) o (in_numbers 1 (made e) o (omega (arith, a)) (omega (arith, b))) l.later)

    live_held : (o : ℕ) → IsLive o → IsHeld (state e).kept.heap o
    live_held o l =
        let k = seen_from reached p options pick last end decides knows o e (last - e) l.later in
        let high = k.2 in
        held_before e k.0 o k.1 (omega (arith, high, le)) l.some l.within k.3

    -- SLOTS
    pub slots_are : (o i : ℕ) → Contains (live_objects trace e) o → content trace e o i ≡ number_of_value (slot_of (object_in (state e) o) i)
    slots_are o i c =
        let l = is_live o c in
        let held = live_held o l in
        content_is e o i le
        ∙ (facts.told_is e o i le (inr held) (some_apart o i l.some)
        ∙ (object_reference (state e).kept o i l.some ∙ ap (λ (x : ObjectState). number_of_value (slot_of x i)) (sym (held_in (state e) o held))))

    pub statics_are : (i : ℕ) → is_out_slot p i ≡ false → content trace e 0 i ≡ number_of_value (static_at (state e).kept.guest i)
    statics_are i other = content_is e 0 i le ∙ facts.told_is e 0 i le (inl refl) (λ none. other)

    pub out_content : (i : ℕ) → is_out_slot p i ≡ true → content trace e 0 i ≡ 0
    out_content i is = content_is e 0 i le ∙ facts.out_is e i le is

  -- TARGETS

  -- what a slot of a reached object refers to is reached, and was made
  is_reached : (e o : ℕ) → e ≤ last → Reached e o → IsReached (graph_of (state e).kept) o
  is_reached e o le is =
      let same = knows.same e le in
      (decides (graph_of (state e).kept) o).0 (ap (λ (s : Kept). reached (graph_of s) o) same.kept ∙ (sym (same.reached_same o) ∙ is))

  reached_is : (e o : ℕ) → e ≤ last → IsReached (graph_of (state e).kept) o → Reached e o
  reached_is e o le r =
      let same = knows.same e le in
      same.reached_same o ∙ (ap (λ (s : Kept). reached (graph_of s) o) (sym same.kept) ∙ (decides (graph_of (state e).kept) o).1 r)

  made_next : (e o : ℕ) → suc e ≤ last → 0 < o → o ≤ made e → o ≤ made (suc e)
  made_next e o le some within =
      let below = here_below reached p options pick last end decides knows (suc e) o le (made_on reached p options pick last end decides knows e (suc e) o (omega arith) le some within) in
      omega (arith, below)

  -- what stands in a slot of an object that is held
  stands_there : (e o i t : ℕ) → e ≤ last → 0 < o → IsHeld (state e).kept.heap o → writes e o i ≡ t → (t ≡ 0 → ⊥) → Contains (refs_of (object_at (state e).kept.heap o).slots) t
  stands_there e o i t le some held tells ne =
      place_refers (object_at (state e).kept.heap o).slots i t (sym (object_reference (state e).kept o i some) ∙ (sym (facts.told_is e o i le (inr held) (some_apart o i some)) ∙ tells)) ne

  -- .. is reached where the object is
  target_now : (e o i t : ℕ) → e ≤ last → 0 < o → o ≤ made e → Reached e o → writes e o i ≡ t → (t ≡ 0 → ⊥) → Reached e t
  target_now e o i t le some within is tells ne =
      let held : IsHeld (state e).kept.heap o = held_before e e o (omega arith) le some within is in
      reached_is e t le (slot_is_reached (state e).kept o t (is_reached e o le is) (stands_there e o i t le some held tells ne))

  -- an event at which an object is reached, from this one on up to so many later
  abbrev IsFrom : ℕ → ℕ → ℕ → Type 0
  IsFrom e n t = (k : ℕ) × (e ≤ k) × (k ≤ e + n) × Reached k t

  from_next : (e m t : ℕ) → IsFrom (suc e) m t → IsFrom e (suc m) t
  from_next e m t k = let low = k.1 in let high = k.2 in (k.0, omega (arith, low), omega (arith, high), k.3)

  target_step : (m e o i t : ℕ) → e ≤ last → 0 < o → o ≤ made e → writes e o i ≡ t → (t ≡ 0 → ⊥) → (b : Bool) → reached (graph (state e)) o ≡ b → (reached (graph (state e)) o ≡ false → IsFrom (suc e) m t) → IsFrom e (suc m) t
  target_step m e o i t le some within tells ne true here more = (e, omega arith, omega arith, target_now e o i t le some within here tells ne)
  target_step m e o i t le some within tells ne false out more = from_next e m t (more out)

  -- an object that is reached at an event or a later one has until then what it had
  target_from : (n e o i t : ℕ) → e + n ≤ last → 0 < o → o ≤ made e → Reached (e + n) o → writes e o i ≡ t → (t ≡ 0 → ⊥) → IsFrom e n t
  target_from zero e o i t le some within is tells ne =
      let same : e + 0 ≡ e = omega arith in
      (e, omega arith, omega arith, target_now e o i t (omega (arith, le)) some within (subst (λ (j : ℕ). Reached j o) same is) tells ne)
  target_from (suc m) e o i t le some within is tells ne =
      let same : e + suc m ≡ suc e + m = omega arith in
      let next_last : suc e ≤ last = omega (arith, le) in
      target_step m e o i t (omega (arith, le)) some within tells ne (reached (graph (state e)) o) refl
      (λ out. target_from m (suc e) o i t (omega (arith, le)) some (made_next e o next_last some within) (subst (λ (j : ℕ). Reached j o) same is) (facts.unreached e o i next_last some within out ∙ tells) ne)

  abbrev at_event : ℕ → List ℕ
  at_event e = live_objects trace e

  -- what is held, and reached then or later, is live
  reached_lives : (e n t : ℕ) → e + n ≤ last → (t ≡ 0 → ⊥) → IsHeld (state e).kept.heap t → IsFrom e n t → Contains (at_event e) t
  reached_lives e n t le ne held k =
      let low = k.1 in
      let high = k.2 in
      let below = held_within (state e).kept.heap t held in
      let within : e ≤ last = omega (arith, le) in
      live_is e within t (record { some = omega (arith, ne); within = omega (arith, below); later = from_seen reached p options pick last end decides knows t e (last - e) k.0 low (omega (arith, high, le)) k.3 })

  pub target_lives : (e o i t : ℕ) → e ≤ last → Contains (at_event e) o → content trace e o i ≡ t → (t ≡ 0 → ⊥) → Contains (at_event e) t
  target_lives e o i t le c is ne =
      let l = is_live e le o c in
      let k = seen_from reached p options pick last end decides knows o e (last - e) l.later in
      let low = k.1 in
      let high = k.2 in
      let n : ℕ = k.0 - e in
      let same : e + n ≡ k.0 = omega (arith, low) in
      let tells : writes e o i ≡ t = sym (content_is e o i le) ∙ is in
      let held = held_before e k.0 o low (omega (arith, high, le)) l.some l.within k.3 in
      let there : IsHeld (state e).kept.heap t = (knows.same e le).sound.held.slots o t (slot_pair (state e).kept.heap o t (stands_there e o i t le l.some held tells ne)) in
      reached_lives e n t (omega (arith, same, high, le)) ne there (target_from n e o i t (omega (arith, same, high, le)) l.some l.within (subst (λ (j : ℕ). Reached j o) (sym same) k.3) tells ne)

  pub static_lives : (e i t : ℕ) → e ≤ last → content trace e 0 i ≡ t → (t ≡ 0 → ⊥) → Contains (at_event e) t
  static_lives e i t le is ne = by (is_out_slot p i) refl
    where
      by : (b : Bool) → is_out_slot p i ≡ b → Contains (at_event e) t
      by true out = absurd (ne (sym is ∙ out_content e le i out))
      by false other =
          let root : Contains (roots_of (state e).kept.guest) t = static_root (state e).kept.guest t (place_refers (state e).kept.guest.statics i t (sym (statics_are e le i other) ∙ is) ne) in
          let held : IsHeld (state e).kept.heap t = (knows.same e le).sound.held.roots t root in
          reached_lives e 0 t (omega (arith, le)) ne held (e, omega arith, omega arith, reached_is e t le (root_is_reached (state e).kept t root))
