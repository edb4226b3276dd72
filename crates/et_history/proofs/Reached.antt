-- Objects are reached as they are made, and the times of deaths are their last events.
use Rattle.std.proofs.Common.{◌≡◌, ℕ, zero, suc, ◌<◌, ◌≤◌, ◌==◌, Bool, true, false, [], length, Contains, refl, sym, ◌∙◌, ap, subst, inl, inr, arith}
use Rattle.std.specs.Prelude.{if◌then◌else◌}
use Rattle.std.proofs.lemmas.Bool.{cases_lt, cases_eq, true≢false}
use Rattle.et_base.proofs.Lists.{Contains-here}
use Rattle.et_graph.specs.Graph.{Graph, IsReached, Decides}
use Rattle.et_heap.specs.Objects.{Objects}
use Rattle.et_state.specs.History.{is_flush_point, is_gone, left_by, last_reached, deaths}
use Rattle.et_state.specs.History as history
use Rattle.et_state.specs.Outcome.{Outcome, state_after}
use Rattle.et_state.specs.Outcome as outcome
use Rattle.et_state.specs.Roots.{graph}
use Rattle.et_state.specs.Start.{start}
use Rattle.et_state.specs.State.{State, Kept}
use Rattle.et_state.specs.Words.{IsUnended}
use Rattle.et_state.specs.declared.options.Options.{Options}
use Rattle.et_state.proofs.Places.{ended_root}
use Rattle.et_state.proofs.UnderWay.{root_is_reached}
use Rattle.et_state.proofs.Enqueued.{length-flushed}
use Rattle.et_program.specs.Entries.{Linked}
use Rattle.et_event.specs.Told.{event_with_texts}
use Rattle.et_event.specs.Start.{start_records}
use Rattle.et_loop.proofs.Dates.{deaths_in}
use Rattle.et_history.specs.Histories.{whole_picked, whole_at, whole_settled_at, WholeGoesOn, WholeComesTo}
use Rattle.et_history.specs.Reaching.{ReachesNew}
use Rattle.et_history.specs.Settings.{unended_threads}
use Rattle.et_history.specs.Whole.{beside, whole_flushed, whole_start}
use Rattle.et_history.proofs.Alike.{is_open}
use Rattle.et_history.proofs.Wholes.{reached_all, is_now, picked_unended}
use Rattle.et_history.proofs.NewTexts.{event_with_texts_reaches as event_reaches}
use Rattle.et_history.proofs.soundness.Outcomes.{if_case}

-- AN EVENT

after_reached : (t : State) (x : Outcome Kept) → ReachesNew t.kept x → (o : ℕ) → length t.kept.heap ≤ o → o < length (state_after t (beside t.reported x)).kept.heap → IsReached (graph (state_after t (beside t.reported x))) o
after_reached t (outcome.Goes next records) h o le lt = reached_all (record { kept = next; reported = t.reported }) o (h o le lt)
after_reached t (outcome.Waits next) h o le lt = let same : length next.heap ≡ length t.kept.heap = ap (λ (xs : Objects). length xs) h in absurd (omega (arith, le, lt))
after_reached t (outcome.IllTyped method pc) h o le lt = absurd (omega (arith, le, lt))
after_reached t outcome.ObjectLimit h o le lt = absurd (omega (arith, le, lt))

-- THE HISTORY
module _ (reached : Graph → ℕ → Bool) (p : Linked) (options : Options) (pick : ℕ → ℕ) where
  abbrev now : ℕ → State
  now e = whole_at reached p options pick e

  abbrev IsNow : ℕ → ℕ → Bool → Type 0
  IsNow e o b = reached (graph (now e)) o ≡ b

  -- the last event up to e at which o is reached
  abbrev last : ℕ → ℕ → ℕ
  last o e = last_reached reached (whole_picked p options pick) (whole_start p) (start_records p) o e

  -- a flush makes nothing
  settled_length : (e : ℕ) → length (whole_settled_at reached p options pick e).kept.heap ≡ length (now e).kept.heap
  settled_length e =
      let here : ℕ → Bool = reached (graph (now e)) in
      if_case (λ (s : State). length s.kept.heap ≡ length (now e).kept.heap) (is_flush_point options.interval e) (whole_flushed here (now e)) (now e) (length-flushed here (now e).kept.heap) refl

  pub first_reached : Decides reached → (o : ℕ) → 0 < o → o ≤ (graph (now 0)).made → IsNow 0 o true
  unfolding left_by
  first_reached decides o some within =
      let s : Kept = start p in
      let one : 1 ≡ o = omega (arith, some, within) in
      let root : IsReached (graph (whole_start p)) 1 = reached_all (whole_start p) 1 (root_is_reached s 1 (ended_root s.guest 0 1 (omega arith) refl (Contains-here 1 []))) in
      subst (λ (k : ℕ). IsNow 0 k true) one (is_now (reached (graph (whole_start p)) 1) ((decides (graph (whole_start p)) 1).1 root))

  pub made_reached : Decides reached → (e o : ℕ) → WholeGoesOn reached p options pick e → (graph (now e)).made < o → o ≤ (graph (now (suc e))).made → IsNow (suc e) o true
  unfolding left_by
  made_reached decides e o goes above within =
      let t : State = whole_settled_at reached p options pick e in
      let on = is_open (length (unended_threads t.kept) == 0) (e == options.limit) _ _ _ goes in
      let k : ℕ = history.picked_turn (whole_picked p options pick) (suc e) t in
      let unended : IsUnended t.kept.guest k = picked_unended t.kept (pick (suc e)) on.some in
      let after : State = state_after t (beside t.reported (event_with_texts p t.kept k)) in
      let len : length t.kept.heap ≡ length (now e).kept.heap = settled_length e in
      let le : length t.kept.heap ≤ o = omega (arith, above, len) in
      let lt : o < length after.kept.heap = omega (arith, above, within) in
      is_now (reached (graph after) o) ((decides (graph after) o).1 (after_reached t (event_with_texts p t.kept k) (event_reaches p t.kept k unended.thread) o le lt))

  pub made_then : Decides reached → (e n o : ℕ) → suc e ≡ n → WholeGoesOn reached p options pick e → (graph (now e)).made < o → o ≤ (graph (now n)).made → IsNow n o true
  made_then decides e n o is goes above = subst (λ (k : ℕ). o ≤ (graph (now k)).made → IsNow k o true) is (made_reached decides e o goes above)

  -- THE LAST EVENT at which an object is reached is one at which it is

  last_step : Decides reached → (e o l : ℕ) (b : Bool) → IsNow (suc e) o b → WholeGoesOn reached p options pick e → o ≤ (graph (now (suc e))).made → (o ≤ (graph (now e)).made → IsNow l o true) → IsNow (if b then suc e else l) o true
  last_step decides e o l true is goes within was = is
  last_step decides e o l false is goes within was = elim (cases_lt (graph (now e)).made o) [
    | inl above ↦ absurd (true≢false (sym (made_reached decides e o goes above within) ∙ is))
    | inr le ↦ was le
  ]

  pub last_is : Decides reached → (e o : ℕ) → WholeComesTo reached p options pick e → 0 < o → o ≤ (graph (now e)).made → IsNow (last o e) o true
  unfolding last_reached
  last_is decides zero o goes some within = first_reached decides o some within
  last_is decides (suc e) o goes some within =
      last_step decides e o (last o e) (reached (graph (now (suc e))) o) refl (goes e (omega arith)) within (λ le. last_is decides e o (λ k lt. goes k (omega (arith, lt))) some le)

  later_step : (e k o l : ℕ) (b : Bool) → IsNow (suc e) o b → (if b then suc e else l) < k → k ≤ suc e → (l < k → k ≤ e → IsNow k o false) → IsNow k o false
  later_step e k o l true is lt le was = absurd (omega (arith, lt, le))
  later_step e k o l false is lt le was = elim (cases_eq k (suc e)) [
    | inl same ↦ subst (λ (j : ℕ). IsNow j o false) (sym same) is
    | inr ne ↦ was lt (omega (arith, le, ne))
  ]

  pub later_is : (e k o : ℕ) → last o e < k → k ≤ e → IsNow k o false
  unfolding last_reached
  later_is zero k o lt le = absurd (omega (arith, lt, le))
  later_is (suc e) k o lt le = later_step e k o (last o e) (reached (graph (now (suc e))) o) refl lt le (λ below within. later_is e k o below within)

  within_step : (b : Bool) (e l : ℕ) → l ≤ e → (if b then suc e else l) ≤ suc e
  within_step true e l le = omega arith
  within_step false e l le = omega arith

  pub last_within : (e o : ℕ) → last o e ≤ e
  unfolding last_reached
  last_within zero o = omega arith
  last_within (suc e) o = within_step (reached (graph (now (suc e))) o) e (last o e) (last_within e o)

  -- DEATHS

  abbrev Told : ℕ → ℕ → ℕ → Type 0
  Told e o time = Contains (deaths reached (whole_picked p options pick) (whole_start p) (start_records p) e) (o, time)

  pub told_reached : Decides reached → (e o time : ℕ) → WholeComesTo reached p options pick e → Told e o time → IsNow time o true
  told_reached decides e o time goes c =
      let g : Graph = graph (now e) in
      let i = deaths_in (reached g) (is_gone g) (λ k. last k e) g.made o time c in
      subst (λ (n : ℕ). IsNow n o true) (sym i.at) (last_is decides e o goes i.above i.within)

  pub told_last : (e o time k : ℕ) → Told e o time → time < k → k ≤ e → IsNow k o false
  told_last e o time k c lt le =
      let g : Graph = graph (now e) in
      let i = deaths_in (reached g) (is_gone g) (λ n. last n e) g.made o time c in
      later_is e k o (subst (λ (n : ℕ). n < k) i.at lt) le

  pub told_earlier : Decides reached → (e o time : ℕ) → WholeComesTo reached p options pick e → Told e o time → time < e
  told_earlier decides e o time goes c =
      let g : Graph = graph (now e) in
      let i = deaths_in (reached g) (is_gone g) (λ n. last n e) g.made o time c in
      let le : time ≤ e = subst (λ (n : ℕ). n ≤ e) (sym i.at) (last_within e o) in
      elim (cases_eq time e) [
        | inl same ↦ absurd (true≢false (sym (told_reached decides e o time goes c) ∙ (ap (λ (n : ℕ). reached (graph (now n)) o) same ∙ i.out)))
        | inr ne ↦ omega (arith, le, ne)
      ]
