-- Over every history each state is typed, so what ends ill typed is refused by check 7.
use Rattle.std.proofs.Common.{◌≡◌, ℕ, zero, suc, ◌<◌, ◌==◌, Bool, true, false, List, [], length, get_or, Option, Some, None, refl, sym, ◌∙◌, ap, subst, arith}
use Rattle.std.specs.Prelude.{codes, if◌then◌else◌, ◌^◌}
use Rattle.std.proofs.lemmas.Bool.{eqb-false}
use Rattle.std.proofs.lemmas.Option.{none-some, same_Some}
use Rattle.et_graph.specs.Graph.{Graph, Decides}
use Rattle.et_event.specs.Errors.{class_called}
use Rattle.et_program.specs.Members.{is_subclass}
use Rattle.et_program.specs.Entries.{Linked}
use Rattle.et_heap.specs.Objects.{IsHeld, ObjectState, at, found, is_there, object_at, slot_of}
use Rattle.et_state.proofs.Enqueued.{flushed_held, flushed_same}
use Rattle.et_state.specs.History.{IsLastEvent, ending, is_flush_point, left_by}
use Rattle.et_state.specs.Options.{AreOptions}
use Rattle.et_state.specs.Outcome.{Outcome, end_by, state_after}
use Rattle.et_state.specs.Outcome as outcome
use Rattle.et_state.specs.Roots.{graph_of}
use Rattle.et_state.specs.Start.{start}
use Rattle.et_event.specs.Start.{start_records}
use Rattle.et_state.specs.State.{Kept}
use Rattle.et_state.specs.Words.{thread_at}
use Rattle.et_state.specs.declared.options.Options.{Options}
use Rattle.et_base.specs.declared.value.End.{End}
use Rattle.et_base.specs.declared.value.End.TheVariants as ends
use Rattle.et_event.specs.Told.{event_with_texts}
use Rattle.et_event.specs.Moments.{Moment}
use Rattle.et_event.specs.Sound.{IsSoundFor, is_of_kind}
use Rattle.et_class.specs.PoolOperands.Operand.TheVariants.{Reference}
use Rattle.et_base.specs.declared.value.Value.{Value}
use Rattle.et_base.specs.declared.value.Value.TheVariants.{Unset}
use Rattle.et_base.proofs.Tests.{below_other}
use Rattle.et_base.proofs.Options.{some-none}
use Rattle.et_history.proofs.Wholes.{ends_back, next, picked_unended, settled_match}
use Rattle.et_history.specs.Histories.{moment_at, picked, settled_at, state_at, whole_picked, IsHistory, HistoryComesTo}
use Rattle.et_history.specs.Settings.{flushed_of, unended_threads}
use Rattle.et_history.specs.Whole.{whole_start}
use Rattle.et_history.proofs.soundness.Outcomes.{if_case}
use Rattle.et_theorems.specs.typings.Refused.{IsRefused}
use Rattle.et_theorems.specs.typings.Typed.{AreTypings, HasTypedSlots, IsTyped, IsTypedThread, KeepsTyped, Typings}
use Rattle.et_theorems.proofs.typings.Told.{told_typed}
use Rattle.et_theorems.proofs.typings.Verified.{HasTypings, linked_typings}
use Rattle.et_history.proofs.Runs.{linked_history}
use Rattle.et_program.specs.Linking.{IsLinked}
use Rattle.et_program.specs.Tables.{IsTabled}
use Rattle.et_verify.specs.Typings.{IsVerified}

-- THE FIRST STATE: no frame, and no object but an empty array

empty_typed : (p : Linked) (y x : ObjectState) → y.slots ≡ [] → Some y ≡ Some x → HasTypedSlots p x
empty_typed p y x none is below i lt =
    ap (λ (vs : List Value). is_of_kind (Some Reference) (get_or vs i Unset)) (sym (ap (λ (z : ObjectState). z.slots) (same_Some y x is)) ∙ none)

start_typed : (p : Linked) (typings : Typings) → IsTyped p typings (start p)
start_typed p typings = record { threads = threads; objects = objects }
  where
    threads : (t : ℕ) → t < length (start p).guest.threads → IsTypedThread p typings (thread_at (start p).guest t)
    threads zero lt = tt
    threads (suc t) lt = absurd (omega (arith, lt))

    objects : (o : ℕ) (x : ObjectState) → at (start p).heap o ≡ Some x → HasTypedSlots p x
    objects zero x is = absurd (none-some x is)
    objects (suc zero) x is = empty_typed p _ x refl is
    objects (suc (suc o)) x is = absurd (none-some x is)

-- A FLUSH changes no frame, and no slot of what stays

flushed_typed : (p : Linked) (typings : Typings) (here : ℕ → Bool) (s : Kept) → IsTyped p typings s → IsTyped p typings (flushed_of here s)
flushed_typed p typings here s h = record { threads = h.threads; objects = objects }
  where
    was : (o : ℕ) (x : Option ObjectState) → at s.heap o ≡ x → is_there x → HasTypedSlots p (found x)
    was o None q there = absurd there
    was o (Some x) q there = h.objects o x q

    objects : (o : ℕ) (x : ObjectState) → at (flushed_of here s).heap o ≡ Some x → HasTypedSlots p x
    objects o x is below i lt =
        let there : IsHeld (flushed_of here s).heap o = subst (λ (y : Option ObjectState). is_there y) (sym is) tt in
        let held = flushed_held here s.heap o there in
        let class : (object_at (flushed_of here s).heap o).class ≡ (object_at s.heap o).class = flushed_same (λ y. y.class) (λ y r ws b. refl) here s.heap o held.1 in
        let slots : (object_at (flushed_of here s).heap o).slots ≡ (object_at s.heap o).slots = flushed_same (λ y. y.slots) (λ y r ws b. refl) here s.heap o held.1 in
        let same : object_at (flushed_of here s).heap o ≡ x = ap found is in
        let before : is_of_kind (Some Reference) (slot_of (object_at s.heap o) i) ≡ true =
        was o (at s.heap o) refl held.0 (subst (λ (c : ℕ). is_subclass p c (class_called p (codes "java/lang/Throwable")) ≡ true) (sym (ap (λ (y : ObjectState). y.class) same) ∙ class) below) i lt in
        ap (λ (vs : List Value). is_of_kind (Some Reference) (get_or vs i Unset)) (sym (ap (λ (y : ObjectState). y.slots) same) ∙ slots) ∙ before

-- HOW A HISTORY GOES ON OR ENDS

record GoesBy (none last : Bool) (by_it end : Option End) : Type 0 where
  some : none ≡ false
  within : last ≡ false
  by_event : by_it ≡ end

goes_by : (none last : Bool) (by : Option End) → (if none then Some ends.Finished else (if last then Some ends.EventLimit else by)) ≡ None → GoesBy none last by None
goes_by true last by q = absurd (some-none ends.Finished q)
goes_by false true by q = absurd (some-none ends.EventLimit q)
goes_by false false by q = record { some = refl; within = refl; by_event = q }

finished_ill : (t m pc : ℕ) → Some ends.Finished ≡ Some (ends.IllTyped t m pc) → ⊥
finished_ill t m pc q = cc

limit_ill : (t m pc : ℕ) → Some ends.EventLimit ≡ Some (ends.IllTyped t m pc) → ⊥
limit_ill t m pc q = cc

objects_ill : (t m pc : ℕ) → Some ends.ObjectLimit ≡ Some (ends.IllTyped t m pc) → ⊥
objects_ill t m pc q = cc

ends_by : (none last : Bool) (by : Option End) (t m pc : ℕ) → (if none then Some ends.Finished else (if last then Some ends.EventLimit else by)) ≡ Some (ends.IllTyped t m pc) → GoesBy none last by (Some (ends.IllTyped t m pc))
ends_by true last by t m pc q = absurd (finished_ill t m pc q)
ends_by false true by t m pc q = absurd (limit_ill t m pc q)
ends_by false false by t m pc q = record { some = refl; within = refl; by_event = q }

kept_after : (e : Moment) (typings : Typings) (o : Outcome Kept) → IsTyped e.program typings e.before → KeepsTyped e typings o → IsTyped e.program typings (state_after e.before o)
kept_after e typings (outcome.Goes next records) was h = h
kept_after e typings (outcome.Waits next) was h = h
kept_after e typings (outcome.IllTyped method pc) was h = was
kept_after e typings outcome.ObjectLimit was h = was

refused_so : (e : Moment) (typings : Typings) (o : Outcome Kept) (thread t m pc : ℕ) → KeepsTyped e typings o → end_by thread o ≡ Some (ends.IllTyped t m pc) → IsRefused e
refused_so e typings (outcome.Goes next records) thread t m pc h q = absurd (none-some (ends.IllTyped t m pc) q)
refused_so e typings (outcome.Waits next) thread t m pc h q = absurd (none-some (ends.IllTyped t m pc) q)
refused_so e typings (outcome.IllTyped method place) thread t m pc h q = h
refused_so e typings outcome.ObjectLimit thread t m pc h q = absurd (objects_ill t m pc q)

module _ (reached : Graph → ℕ → Bool) (p : Linked) (options : Options) (pick : ℕ → ℕ) (typings : Typings) (runs : IsHistory reached p options) (all : AreTypings p typings) where
  settled_typed : (e : ℕ) → IsTyped p typings (state_at reached p options pick e) → IsTyped p typings (settled_at reached p options pick e)
  settled_typed e h =
      let s : Kept = state_at reached p options pick e in
      if_case (λ (x : Kept). IsTyped p typings x) (is_flush_point options.interval e) (flushed_of (reached (graph_of s)) s) s (flushed_typed p typings (reached (graph_of s)) s h) h

  -- what event e + 1 does, where there is a thread and the limit isn't met
  event_keeps : (e : ℕ) → HistoryComesTo reached p options pick e → (length (unended_threads (settled_at reached p options pick e)) == 0) ≡ false → (e == options.limit) ≡ false → IsTyped p typings (state_at reached p options pick e)
      → KeepsTyped (moment_at reached p options pick e) typings (event_with_texts p (settled_at reached p options pick e) (moment_at reached p options pick e).thread)
  event_keeps e goes some within typed =
      let s : Kept = settled_at reached p options pick e in
      let thread : ℕ = (moment_at reached p options pick e).thread in
      let m = settled_match reached p options pick runs e goes in
      let sound : IsSoundFor p s = subst (λ (x : Kept). IsSoundFor p x) m.0 m.1.state in
      let clock : s.guest.clock ≡ e = sym (ap (λ (x : Kept). x.guest.clock) m.0) ∙ m.1.clock in
      let below : e < options.limit = below_other e options.limit m.1.within (eqb-false e options.limit within) in
      let few : s.guest.clock < 2 ^ 40 = omega (arith, clock, below, runs.options_are.limit) in
      told_typed p typings s thread sound few (picked_unended s (pick (suc e)) some) runs.run.runnable all (settled_typed e typed)

  next_typed : (e : ℕ) → IsTyped p typings (settled_at reached p options pick e) → KeepsTyped (moment_at reached p options pick e) typings (event_with_texts p (settled_at reached p options pick e) (moment_at reached p options pick e).thread)
      → IsTyped p typings (state_at reached p options pick (suc e))
  unfolding left_by
  next_typed e typed h = kept_after (moment_at reached p options pick e) typings (event_with_texts p (settled_at reached p options pick e) (moment_at reached p options pick e).thread) typed h

  first_state : IsTyped p typings (state_at reached p options pick 0)
  unfolding left_by
  first_state = start_typed p typings

  pub all_typed : (e : ℕ) → HistoryComesTo reached p options pick e → IsTyped p typings (state_at reached p options pick e)
  all_typed zero goes = first_state
  all_typed (suc e) goes =
      let before : HistoryComesTo reached p options pick e = λ k lt. goes k (omega (arith, lt)) in
      let typed : IsTyped p typings (state_at reached p options pick e) = all_typed e before in
      let s : Kept = settled_at reached p options pick e in
      let g = goes_by (length (unended_threads (settled_at reached p options pick e)) == 0) (e == options.limit)
      (end_by (moment_at reached p options pick e).thread (event_with_texts p (settled_at reached p options pick e) (moment_at reached p options pick e).thread)) (goes e (omega arith)) in
      next_typed e (settled_typed e typed) (event_keeps e before g.some g.within typed)

  refused_at : (e t m pc : ℕ) → HistoryComesTo reached p options pick e → ending (picked p options pick) e (settled_at reached p options pick e) ≡ Some (ends.IllTyped t m pc) → IsRefused (moment_at reached p options pick e)
  refused_at e t m pc goes q =
      let g = ends_by (length (unended_threads (settled_at reached p options pick e)) == 0) (e == options.limit)
      (end_by (moment_at reached p options pick e).thread (event_with_texts p (settled_at reached p options pick e) (moment_at reached p options pick e).thread)) t m pc q in
      refused_so (moment_at reached p options pick e) typings (event_with_texts p (settled_at reached p options pick e) (moment_at reached p options pick e).thread) (moment_at reached p options pick e).thread t m pc
      (event_keeps e goes g.some g.within (all_typed e goes)) g.by_event

  pub kept_refused : (e t m pc : ℕ) → IsLastEvent reached (picked p options pick) (start p) (start_records p) e (ends.IllTyped t m pc) → IsRefused (moment_at reached p options pick e)
  kept_refused e t m pc last = refused_at e t m pc last.first last.ends

  pub whole_refused : (e t m pc : ℕ) → IsLastEvent reached (whole_picked p options pick) (whole_start p) (start_records p) e (ends.IllTyped t m pc) → IsRefused (moment_at reached p options pick e)
  whole_refused e t m pc last = kept_refused e t m pc (ends_back reached p options pick runs e (ends.IllTyped t m pc) last)

-- OF A VERIFIED PROGRAM
module _ (reached : Graph → ℕ → Bool) (p : Linked) (options : Options) (pick : ℕ → ℕ) (decides : Decides reached) (tabled : IsTabled p) (linked : IsLinked p) (verified : IsVerified p) (are : AreOptions options) where
  runs : IsHistory reached p options
  runs = linked_history reached p options decides tabled linked are

  pub verified_kept : (e t m pc : ℕ) → IsLastEvent reached (picked p options pick) (start p) (start_records p) e (ends.IllTyped t m pc) → IsRefused (moment_at reached p options pick e)
  verified_kept e t m pc last = let h : HasTypings p = linked_typings p linked verified in kept_refused reached p options pick h.typings runs h.are e t m pc last

  pub verified_whole : (e t m pc : ℕ) → IsLastEvent reached (whole_picked p options pick) (whole_start p) (start_records p) e (ends.IllTyped t m pc) → IsRefused (moment_at reached p options pick e)
  verified_whole e t m pc last = let h : HasTypings p = linked_typings p linked verified in whole_refused reached p options pick h.typings runs h.are e t m pc last
