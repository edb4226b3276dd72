-- The deaths of a flush are exactly those of the objects that are reached no more and that no flush told before.
use Rattle.std.proofs.Common.{◌≡◌, ℕ, ◌+◌, ◌-◌, ◌<◌, ◌≤◌, ◌↔◌, Bool, true, false, suc, List, Contains, refl, sym, ◌∙◌, subst, inl, inr, arith}
use Rattle.std.proofs.lemmas.Bool.{cases_lt, false_from_ne_true, true≢false}
use Rattle.et_base.proofs.Lists.{has_contains, contains_has}
use Rattle.et_graph.specs.Graph.{Graph, IsReached}
use Rattle.et_heap.specs.Objects.{Objects, IsHeld, at}
use Rattle.et_heap.proofs.HeapLists.{gone_at, held_within}
use Rattle.et_program.specs.Entries.{Linked}
use Rattle.et_state.specs.History.{is_flush_point, is_gone, last_reached, deaths}
use Rattle.et_state.specs.Roots.{graph}
use Rattle.et_state.specs.State.{State}
use Rattle.et_state.specs.declared.options.Options.{Options}
use Rattle.et_event.specs.Start.{start_records}
use Rattle.et_loop.proofs.Dates.{IsIn, deaths_in, in_deaths}
use Rattle.et_history.specs.Deaths.{DiesBy, IsLastReached, WasTold}
use Rattle.et_history.specs.Histories.{whole_picked, whole_at, IsHistory, WholeComesTo}
use Rattle.et_history.specs.Whole.{whole_start}
use Rattle.et_history.proofs.Freed.{reported_on, all_here, gone_is}
use Rattle.et_history.proofs.Reached.{last_is, later_is, last_within}
use Rattle.et_history.proofs.Reporting.{IsFlushed, as_there, found_before, reported_next, settled_to, there_some}
use Rattle.et_history.proofs.Wholes.{all_match, go_on}

module _ (reached : Graph → ℕ → Bool) (p : Linked) (options : Options) (pick : ℕ → ℕ) (runs : IsHistory reached p options) where
  abbrev now : ℕ → State
  now e = whole_at reached p options pick e

  abbrev Before : ℕ → Type 0
  Before e = WholeComesTo reached p options pick e

  abbrev last : ℕ → ℕ → ℕ
  last o e = last_reached reached (whole_picked p options pick) (whole_start p) (start_records p) o e

  abbrev dead : ℕ → List (ℕ × ℕ)
  dead e = deaths reached (whole_picked p options pick) (whole_start p) (start_records p) e

  abbrev Lists : ℕ → ℕ → ℕ → Type 0
  Lists e o time = IsIn (reached (graph (now e))) (is_gone (graph (now e))) (λ k. last k e) (graph (now e)).made o time

  is_reached : (e o : ℕ) → reached (graph (now e)) o ≡ true → IsReached (graph (now e)) o
  is_reached e o is = (runs.decides (graph (now e)) o).0 is

  is_out : (e o : ℕ) → reached (graph (now e)) o ≡ false → ¬ IsReached (graph (now e)) o
  is_out e o out r = let is : reached (graph (now e)) o ≡ true = (runs.decides (graph (now e)) o).1 r in true≢false (sym is ∙ out)

  out_is : (e o : ℕ) → ¬ IsReached (graph (now e)) o → reached (graph (now e)) o ≡ false
  out_is e o out = false_from_ne_true (reached (graph (now e)) o) (λ is. out (is_reached e o is))

  fewer : (f e : ℕ) → f ≤ e → Before e → Before f
  fewer f e le goes = λ k lt. goes k (omega (arith, le, lt))

  none_first : (e : ℕ) → Before e → IsHeld (now e).kept.heap 0 → ⊥
  none_first e goes = (all_match reached p options pick runs e (go_on reached p options pick runs e goes)).1.state.held.none

  -- WHAT IS REPORTED was told by a flush before

  stays : (e n o : ℕ) → Before (e + n) → IsHeld (now e).reported o → IsHeld (now (e + n)).reported o
  stays e n o goes h =
      let x = there_some (at (now e).reported o) h in
      as_there (now (e + n)) o x.0 (reported_on reached p options pick runs e n o x.0 goes x.1)

  flushed_told : (f o : ℕ) → Before f → IsFlushed reached p options pick f o → Contains (dead f) (o, last o f)
  flushed_told f o goes d =
      let g : Graph = graph (now f) in
      let below = held_within (now f).kept.heap o d.held in
      in_deaths (reached g) (is_gone g) (λ k. last k f) g.made o (last o f) (record {
        above = positive o (λ same. none_first f goes (subst (λ (k : ℕ). IsHeld (now f).kept.heap k) same d.held));
        within = omega (arith, below);
        out = d.out;
        held = false_from_ne_true (is_gone g o) (λ h. (gone_at (now f).kept.heap o (has_contains g.gone o h)).2 d.held);
        at = refl;
      })
    where
      positive : (n : ℕ) → (n ≡ 0 → ⊥) → 0 < n
      positive n ne = omega (arith, ne)

  told_flushed : (f o : ℕ) → Before f → is_flush_point options.interval f ≡ true → (time : ℕ) → Contains (dead f) (o, time) → IsFlushed reached p options pick f o
  told_flushed f o goes due time c =
      let g : Graph = graph (now f) in
      let i = deaths_in (reached g) (is_gone g) (λ k. last k f) g.made o time c in
      elim (all_here reached p options pick runs f o goes i.above i.within) [
        | inl held ↦ record { due = due; held = held; out = i.out }
        | inr there ↦ absurd (true≢false (sym (contains_has g.gone o ((gone_is reached p options pick runs f o goes).1 there)) ∙ i.held))
      ]

  pub reported_is : (e o : ℕ) → Before e → IsHeld (now e).reported o ↔ WasTold reached p options pick e o
  reported_is e o goes = (
    λ h.
        let f = found_before reached p options pick e o h in
        let lt = f.1 in
        (f.0, f.1, f.2.due, last o f.0, flushed_told f.0 o (fewer f.0 e (omega (arith, lt)) goes) f.2),
    λ told.
        let f : ℕ = told.0 in
        let lt = told.1 in
        let d = told_flushed f o (fewer f e (omega (arith, lt)) goes) told.2 told.3 told.4 in
        let there : IsHeld (now (suc f)).reported o = subst (λ (rs : Objects). IsHeld rs o) (sym (reported_next reached p options pick f)) (settled_to reached p options pick f o d) in
        let n : ℕ = e - suc f in
        let at_e : suc f + n ≡ e = omega (arith, lt) in
        subst (λ (j : ℕ). IsHeld (now j).reported o) at_e (stays (suc f) n o (fewer (suc f + n) e (omega (arith, at_e)) goes) there),
  )

  -- THE LAST EVENT

  last_of : (e o : ℕ) → Before e → 0 < o → o ≤ (graph (now e)).made → IsLastReached reached p options pick e o (last o e)
  last_of e o goes some within = record {
    within = last_within reached p options pick e o;
    reached_then = is_reached (last o e) o (last_is reached p options pick runs.decides e o goes some within);
    not_later = λ k lt le. is_out k o (later_is reached p options pick e k o lt le);
  }

  one_last : (e o a b : ℕ) → IsLastReached reached p options pick e o a → IsLastReached reached p options pick e o b → a ≡ b
  one_last e o a b x y =
      elim (cases_lt a b) [
        | inl lt ↦ absurd (x.not_later b lt y.within y.reached_then)
        | inr le ↦ elim (cases_lt b a) [
          | inl lt ↦ absurd (y.not_later a lt x.within x.reached_then)
          | inr ge ↦ omega (arith, le, ge)
        ]
      ]

  -- THE DEATHS

  told_dies : (e o time : ℕ) → Before e → Contains (dead e) (o, time) → DiesBy reached p options pick e o time
  told_dies e o time goes c =
      let g : Graph = graph (now e) in
      let i = deaths_in (reached g) (is_gone g) (λ k. last k e) g.made o time c in
      record {
        made = (i.above, i.within);
        unreached = is_out e o i.out;
        untold = λ told. true≢false (sym (contains_has g.gone o ((gone_is reached p options pick runs e o goes).1 ((reported_is e o goes).1 told))) ∙ i.held);
        last = subst (λ (n : ℕ). IsLastReached reached p options pick e o n) (sym i.at) (last_of e o goes i.above i.within);
      }

  dies_told : (e o time : ℕ) → Before e → DiesBy reached p options pick e o time → Contains (dead e) (o, time)
  dies_told e o time goes d =
      let g : Graph = graph (now e) in
      in_deaths (reached g) (is_gone g) (λ k. last k e) g.made o time (record {
        above = d.made.0;
        within = d.made.1;
        out = out_is e o d.unreached;
        held = false_from_ne_true (is_gone g o) (λ h. d.untold ((reported_is e o goes).0 ((gone_is reached p options pick runs e o goes).0 (has_contains g.gone o h))));
        at = one_last e o time (last o e) d.last (last_of e o goes d.made.0 d.made.1);
      })

  pub deaths_exact : (e o time : ℕ) → Before e → Contains (dead e) (o, time) ↔ DiesBy reached p options pick e o time
  deaths_exact e o time goes = (λ c. told_dies e o time goes c, λ d. dies_told e o time goes d)
