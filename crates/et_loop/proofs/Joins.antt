-- The history of a run and the history for which its stamps stand: the deaths of a flush are those that the stamps show.
use Rattle.std.proofs.Common.{◌≡◌, ℕ, zero, suc, ◌≤◌, Bool, true, false, if◌then◌else◌, inl, inr, List, [], Option, None, refl, sym, ◌∙◌, ap, subst, arith}
use Rattle.std.proofs.lemmas.Bool.{cases_lt}
use Rattle.et_graph.specs.Graph.{Graph, IsReached, Decides}
use Rattle.et_state.specs.declared.records.Record.{Record}
use Rattle.et_state.specs.History.{Setting, left_by, last_reached}
use Rattle.et_graph.specs.Listed.{AreListed, IsGreatest}
use Rattle.et_base.specs.declared.value.End.{End}
use Rattle.et_state.specs.Naming.{Mentions}
use Rattle.et_io.specs.Sink.{Log, with_more}
use Rattle.et_loop.specs.Run.{time_noted, Turns}
use Rattle.et_loop.proofs.RunLemmas.{noted_before, noted_is, Running, turn_on}
use Rattle.et_loop.specs.Stamping.{Passes}
use Rattle.et_loop.specs.Told.{IsToldByStamps}
use Rattle.et_loop.proofs.Dates.{dated, dated_listed}
use Rattle.et_loop.proofs.Turns.{told_dates, told_passed}

module _ {S : Type 0} (reached : Graph → ℕ → Bool) (decides : Decides reached) (given : Setting S) (start : S) (made : List Record) where
  -- the graph that an event left
  abbrev pub graphs : ℕ → Graph
  graphs k = given.rule.graph (left_by reached given start made k)

  last_case : (o t e : ℕ) (b : Bool) → b ≡ reached (graphs (suc e)) o → t ≤ suc e → IsReached (graphs t) o → ((k : ℕ) → k ≤ suc e → IsReached (graphs k) o → k ≤ t)
      → (t ≤ e → last_reached reached given start made o e ≡ t) → (if b then suc e else last_reached reached given start made o e) ≡ t
  last_case o t e true is le r latest before =
      let up = latest (suc e) (omega arith) ((decides (graphs (suc e)) o).0 (sym is)) in omega (arith, up, le)
  last_case o t e false is le r latest before =
      before (elim (cases_lt e t) [
        | inl lt ↦
            let now : t ≡ suc e = omega (arith, lt, le) in
            let yes : reached (graphs (suc e)) o ≡ true = (decides (graphs (suc e)) o).1 (subst (λ (k : ℕ). IsReached (graphs k) o) now r) in
            absurd (let h : false ≡ true = is ∙ yes in cc)
        | inr le ↦ le
      ])

  -- the last event is the one that is found by trying each
  last_is : (o t e : ℕ) → t ≤ e → IsReached (graphs t) o → ((k : ℕ) → k ≤ e → IsReached (graphs k) o → k ≤ t) → last_reached reached given start made o e ≡ t
  unfolding last_reached
  last_is o t zero le r latest = omega arith
  last_is o t (suc e) le r latest =
      last_case o t e (reached (graphs (suc e)) o) refl le r latest (λ down. last_is o t e down r (λ k lek. latest k (omega (arith, lek))))

  -- The deaths of a flush after event e are those that the stamps show.
  pub listed_now : (e : ℕ) (g : Graph) (stamps : ℕ → ℕ) → g ≡ graphs e → IsToldByStamps graphs e g stamps
      → AreListed g stamps (dated reached decides g (time_noted (reached g) (λ o. noted_before reached given start made o e) e))
  listed_now e g stamps at told =
      let last = λ (o : ℕ). noted_before reached given start made o e in
      dated_listed reached decides g (time_noted (reached g) last e) stamps (λ o dead.
      let d = told_dates graphs e g stamps told o dead in
      let same : d.0 ≡ time_noted (reached g) last e o =
      sym (last_is o d.0 e d.1 d.2 d.3) ∙ (sym (noted_is reached given start made o e) ∙ ap (λ (x : Graph). time_noted (reached x) last e o) (sym at)) in
      subst (λ (t : ℕ). IsGreatest g stamps o t) same d.4)

  pub graph_first : graphs 0 ≡ given.rule.graph start
  unfolding left_by
  graph_first = refl

  -- the times that are noted before an event are those of the history
  pub running_as : (e : ℕ) (s : S) (last : ℕ → ℕ) (m : Mentions) (before now : Log) → Running reached given start made e s last m before now → Running reached given start made e s (λ o. noted_before reached given start made o e) m before now
  running_as e s last m before now r = record { state = r.state; first = r.first; noted = λ o. refl; mentions = r.mentions; lines = r.lines }

  module _ (e : ℕ) (s : S) (m : Mentions) (before now : Log) (r : Running reached given start made e s (λ o. noted_before reached given start made o e) m before now) (stamps : ℕ → ℕ) (told : IsToldByStamps graphs e (given.rule.graph s) stamps) where
    pub listed_here : AreListed (given.rule.graph s) stamps (dated reached decides (given.rule.graph s) (time_noted (reached (given.rule.graph s)) (λ o. noted_before reached given start made o e) e))
    listed_here = listed_now e (given.rule.graph s) stamps (ap given.rule.graph r.state) told

    module _ (next : Option End) (s' : S) (last' : ℕ → ℕ) (m' : Mentions) (out out' : List ℕ) (empty : out ≡ []) (is : next ≡ None) (turn : Turns reached given e s (λ o. noted_before reached given start made o e) m s' last' m' out out' next) (n : ℕ) (now' : Log) (at : n ≡ suc e) (en : now' ≡ with_more now out') where
      pub next_runs : Running reached given start made n s' (λ o. noted_before reached given start made o n) m' before now'
      next_runs = running_as n s' last' m' before now' (turn_on reached given start made e s (λ o. noted_before reached given start made o e) m before now r next s' last' m' out out' empty is turn n now' at en)

      pub next_told : (due : Bool) (stamps' : ℕ → ℕ) → Passes due e (given.rule.graph s) (given.rule.graph s') stamps stamps' → IsToldByStamps graphs n (given.rule.graph s') stamps'
      next_told due stamps' passes =
          let here : graphs (suc e) ≡ given.rule.graph s' = sym (ap given.rule.graph next_runs.state ∙ ap graphs at) in
          subst (λ (k : ℕ). IsToldByStamps graphs k (given.rule.graph s') stamps') (sym at)
          (told_passed graphs due e (given.rule.graph s) (given.rule.graph s') stamps stamps' told passes here)
