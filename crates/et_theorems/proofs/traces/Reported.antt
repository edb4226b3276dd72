-- What was reported in a history in which nothing is freed is reached no more.
use Rattle.std.proofs.Common.{◌≡◌, ℕ, suc, ◌+◌, ◌-◌, ◌<◌, ◌≤◌, ◌↔◌, Bool, true, Some, Contains, sym, ◌∙◌, subst, arith}
use Rattle.et_graph.specs.Graph.{Graph, IsReached, Decides}
use Rattle.et_graph.proofs.Sound.{reached_held}
use Rattle.et_heap.specs.Objects.{ObjectState, Objects, IsHeld, at}
use Rattle.et_program.specs.Entries.{Linked}
use Rattle.et_state.specs.History as history
use Rattle.et_state.specs.Roots.{graph, graph_of}
use Rattle.et_state.specs.State.{State, Kept}
use Rattle.et_state.specs.declared.options.Options.{Options}
use Rattle.et_state.proofs.UnderWay.{sound_graph}
use Rattle.et_event.specs.Start.{start_records}
use Rattle.et_history.specs.Allocations.{IsMadeAt, AreAllocations, next_number}
use Rattle.et_history.specs.Histories.{state_at, whole_picked, whole_at}
use Rattle.et_history.specs.Same.{IsHere, IsReportedAs, TellsTheSame}
use Rattle.et_history.specs.Whole.{whole_start}
use Rattle.et_history.proofs.Reporting.{IsFlushed, as_there, reported_next, settled_to, there_some}
use Rattle.et_history.proofs.Wholes.{now_is}

-- THE HISTORY
module _ (reached : Graph → ℕ → Bool) (p : Linked) (options : Options) (pick : ℕ → ℕ) where
  abbrev pub now : ℕ → State
  now e = whole_at reached p options pick e

  abbrev pub made_by : ℕ → ℕ
  made_by e = (graph (now e)).made

  -- what the laws of the history say of its states up to this event
  pub record Knows (last : ℕ) : Type 0 where
    pub first : (o : ℕ) → 0 < o → o ≤ made_by 0 → reached (graph (now 0)) o ≡ true
    pub told : (e : ℕ) → e ≤ last → AreAllocations (IsMadeAt p now e) 1 (history.lines_to reached (whole_picked p options pick) (whole_start p) (start_records p) e) (next_number (now e))
    pub here : (e n o : ℕ) → e + n ≤ last → IsHere (now e) o → IsHere (now (e + n)) o
    pub stays : (e n o : ℕ) (x : ObjectState) → e + n ≤ last → at (now e).reported o ≡ Some x → IsReportedAs (now (e + n)) o x
    pub all : (e o : ℕ) → e ≤ last → 0 < o → o ≤ made_by e → IsHere (now e) o
    pub gone : (e o : ℕ) → e ≤ last → Contains (graph (now e)).gone o ↔ IsHeld (now e).reported o
    pub same : (e : ℕ) → e ≤ last → TellsTheSame reached p options pick e

  module _ (last : ℕ) (decides : Decides reached) (knows : Knows last) where
    stays_reported : (e n o : ℕ) → e + n ≤ last → IsHeld (now e).reported o → IsHeld (now (e + n)).reported o
    stays_reported e n o le h =
        let x = there_some (at (now e).reported o) h in
        as_there (now (e + n)) o x.0 (knows.stays e n o x.0 le x.1)

    -- what is reported is not reached
    pub reported_out : (e o : ℕ) → e ≤ last → IsHeld (now e).reported o → reached (graph (now e)) o ≡ true → ⊥
    reported_out e o le h is =
        let same = knows.same e le in
        let kept : IsReached (graph_of (state_at reached p options pick e)) o = (decides (graph_of (state_at reached p options pick e)) o).0 (now_is (reached (graph_of (state_at reached p options pick e)) o) (sym (same.reached_same o) ∙ is)) in
        reached_held (graph_of (now e).kept) (sound_graph (now e).kept same.sound.held) o
        (subst (λ (s : Kept). IsReached (graph_of s) o) (sym same.kept) kept) ((knows.gone e o le).1 h)

    -- .. nor at a later event
    pub flushed_out : (f k o : ℕ) → IsFlushed reached p options pick f o → f < k → k ≤ last → reached (graph (now k)) o ≡ true → ⊥
    flushed_out f k o d lt le is =
        let there : IsHeld (now (suc f)).reported o = subst (λ (rs : Objects). IsHeld rs o) (sym (reported_next reached p options pick f)) (settled_to reached p options pick f o d) in
        let n : ℕ = k - suc f in
        let at_k : suc f + n ≡ k = omega arith in
        reported_out k o le (subst (λ (j : ℕ). IsHeld (now j).reported o) at_k (stays_reported (suc f) n o (omega (arith, le, at_k)) there)) is
