-- What holds of a run after an event: how far it came, for what its stamps stand, how many visits it made, and what
-- was printed. Quiet events keep it.
use Rattle.std.proofs.Common.{◌≡◌, ℕ, zero, suc, ◌+◌, ◌*◌, ◌++◌, ◌∷◌, Bool, false, if◌then◌else◌, List, [], None, refl, sym, ◌∙◌, ap, subst, arith}
use Rattle.std.specs.Prelude.{slice_index}
use Rattle.et_base.specs.declared.line.TraceLine.TheVariants.{Header}
use Rattle.et_graph.specs.Graph.{Graph, Decides, nothing_made}
use Rattle.et_io.specs.Sink.{Log, with_more}
use Rattle.et_state.specs.declared.records.Record.{Record}
use Rattle.et_state.specs.Outcome.{state_after, records_of}
use Rattle.et_state.specs.Naming.{Mentions, nothing_mentioned, mentions_after, lines_of}
use Rattle.et_state.specs.History.{Setting, is_flush_point, outcome_step, ending, settled}
use Rattle.et_text.specs.Ranges.{header_version}
use Rattle.et_binary.specs.Formats.{lines_written_in}
use Rattle.et_loop.specs.Kept.{IsStepTo}
use Rattle.et_loop.specs.Quiet.{GoesQuietly, GoQuietly}
use Rattle.et_loop.specs.Run.{time_noted, due_lines, flush_of, Advances}
use Rattle.et_loop.specs.Stamping.{Passes}
use Rattle.et_loop.specs.Told.{IsToldByStamps}
use Rattle.et_loop.specs.Visits.{due_visits}
use Rattle.et_loop.proofs.Counts.{AreSoFar, none_so_far, more_so_far}
use Rattle.et_loop.proofs.Joins.{graphs, graph_first, running_as, next_runs, next_told}
use Rattle.et_loop.proofs.RunLemmas.{Running, running_start, more_nothing, noted_before}
use Rattle.et_loop.proofs.Talking.{Talking, talking_start, talking_quiet}
use Rattle.et_loop.proofs.Turns.{told_first}

-- a quiet event is a turn without lines
quiet_turn : {S : Type 0} (reached : Graph → ℕ → Bool) (given : Setting S) (said : S → ℕ → List ℕ) (e : ℕ) (s s' : S) (last : ℕ → ℕ) (m : Mentions) (old new : List ℕ) → GoesQuietly given said e s s' old new → Advances reached given e s last m s' (time_noted (reached (given.rule.graph s)) last e) m [] []
quiet_turn {S = S} reached given said e s s' last m old new q =
    let here : s ≡ settled reached given e s = sym (ap (λ (b : Bool). if b then given.rule.flushed (reached (given.rule.graph s)) s else s) q.between) in
    let told : records_of (outcome_step given (suc e) (settled reached given e s)) ≡ [] = subst (λ (x : S). records_of (outcome_step given (suc e) x) ≡ []) here q.told in
    record {
      goes = subst (λ (x : S). ending given e x ≡ None) here q.goes;
      state = subst (λ (x : S). s' ≡ state_after x (outcome_step given (suc e) x)) here q.state;
      notes = λ o. refl;
      mentions = sym (ap (λ (rs : List Record). mentions_after given.names m rs) told);
      lines =
          sym (ap (λ (b : Bool). lines_written_in given.format (due_lines b (flush_of (reached (given.rule.graph s)) (time_noted (reached (given.rule.graph s)) last e) e (given.rule.graph s)) ++ lines_of given.names m (records_of (outcome_step given (suc e) (settled reached given e s))))) q.between
          ∙ ap (λ (rs : List Record). lines_written_in given.format (lines_of given.names m rs)) told);
    }

module _ {S : Type 0} (reached : Graph → ℕ → Bool) (decides : Decides reached) (given : Setting S) (said : S → ℕ → List ℕ) (flush_visits : (ℕ → Bool) → S → ℕ) (start : S) (made : List Record) (m : Mentions) (before now heard hears : Log) (first : ℕ) where
  pub record Stands (e : ℕ) (s : S) (stamps : List ℕ) (visits : ℕ) : Type 0 where
    pub runs : Running reached given start made e s (λ o. noted_before reached given start made o e) m before now
    pub told : IsToldByStamps (graphs reached decides given start made) e (given.rule.graph s) (slice_index stamps)
    pub so_far : AreSoFar reached given flush_visits start made e s first visits
    pub talks : Talking reached given said start made e heard hears

  stands_next : (e : ℕ) (s s' : S) (old new : List ℕ) (visits : ℕ) → Stands e s old visits → GoesQuietly given said e s s' old new → Stands (suc e) s' new (visits + 8)
  stands_next e s s' old new visits h q =
      let last = λ (o : ℕ). noted_before reached given start made o e in
      let turn = quiet_turn reached given said e s s' last m old new q in
      let passes : Passes false e (given.rule.graph s) (given.rule.graph s') (slice_index old) (slice_index new) = (given.rule.graph s, refl, q.marks) in
      let none : due_visits (is_flush_point given.interval e) (flush_visits (reached (given.rule.graph s)) s) ≡ 0 = ap (λ (b : Bool). due_visits b (flush_visits (reached (given.rule.graph s)) s)) q.between in
      record {
        runs = next_runs reached decides given start made e s m before now h.runs (slice_index old) h.told None s' (time_noted (reached (given.rule.graph s)) last e) m [] [] refl refl turn (suc e) now refl (more_nothing now);
        told = next_told reached decides given start made e s m before now h.runs (slice_index old) h.told None s' (time_noted (reached (given.rule.graph s)) last e) m [] [] refl refl turn (suc e) now refl (more_nothing now) false (slice_index new) passes;
        so_far = more_so_far reached given flush_visits start made e s first visits h.so_far h.runs.state s' (visits + 8) (omega (arith, q.made)) (omega (arith, none, q.made)) (suc e) refl;
        talks = talking_quiet reached given said start made e heard hears h.talks h.runs.first s s' old new h.runs.state q;
      }

  pub stands_on : (k e : ℕ) (s s' : S) (old new : List ℕ) (visits : ℕ) → Stands e s old visits → GoQuietly given said k e s s' old new → Stands (e + k) s' new (visits + 8 * k)
  unfolding GoQuietly
  stands_on zero e s s' old new visits h go =
      let at : e ≡ e + 0 = omega arith in
      let many : visits ≡ visits + 8 * 0 = omega arith in
      subst (λ (n : ℕ). Stands n s' new (visits + 8 * 0)) at
      (subst (λ (v : ℕ). Stands e s' new v) many
      (subst (λ (xs : List ℕ). Stands e s' xs visits) (sym go.1)
      (subst (λ (x : S). Stands e x old visits) (sym go.0) h)))
  stands_on (suc k) e s s' old new visits h go =
      let next = stands_next (e + k) go.0 s' go.1 new (visits + 8 * k) (stands_on k e s go.0 old go.1 visits h go.2) go.3 in
      let at : suc (e + k) ≡ e + suc k = omega arith in
      let many : visits + 8 * k + 8 ≡ visits + 8 * suc k = omega arith in
      subst (λ (n : ℕ). Stands n s' new (visits + 8 * suc k)) at (subst (λ (v : ℕ). Stands (suc (e + k)) s' new v) many next)

-- before the first turn: the first lines were put, and nothing else
pub stands_first : {S : Type 0} {reached : Graph → ℕ → Bool} {decides : Decides reached} {given : Setting S} {said : S → ℕ → List ℕ} {flush_visits : (ℕ → Bool) → S → ℕ} {start : S} {made : List Record} {before now heard : Log} {first : ℕ} {m : Mentions} {stamps lines : List ℕ}
    → IsStepTo nothing_made (given.rule.graph start) [] → m ≡ mentions_after given.names nothing_mentioned made → lines ≡ lines_written_in given.format (Header (header_version given.format) given.interval ∷ lines_of given.names nothing_mentioned made) → now ≡ with_more before lines
    → ((o : ℕ) → slice_index stamps o ≡ 0) → Stands reached decides given said flush_visits start made m before now heard heard first 0 start stamps first
stands_first {reached = reached} {decides = decides} {given = given} {said = said} {flush_visits = flush_visits} {start = start} {made = made} {before = before} {now = now} {heard = heard} {first = first} {m = m} {stamps = stamps} {lines = lines} legal mentions are put none =
    let none_noted = λ (o : ℕ). zero in
    record {
      runs = running_as reached decides given start made 0 start none_noted m before now (running_start reached given start made none_noted m before now lines (λ o. refl) mentions are put);
      told = told_first (graphs reached decides given start made) (given.rule.graph start) (slice_index stamps) legal.0 legal.1 none (graph_first reached decides given start made);
      so_far = none_so_far reached given flush_visits start made first;
      talks = talking_start reached given said start made heard;
    }
