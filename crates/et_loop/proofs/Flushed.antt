-- A flush where it is due, and quiet events where it is not: the turn of the last event begins behind them.
use Rattle.std.proofs.Common.{◌≡◌, ℕ, zero, suc, ◌+◌, ◌*◌, ◌<◌, ◌≤◌, ◌++◌, Bool, true, false, List, [], Option, Some, None, refl, sym, ◌∙◌, ap, subst, inl, inr, append_assoc, append-nil, arith}
use Rattle.std.specs.Prelude.{◌↔◌, IsTrue, slice_index}
use Rattle.et_graph.specs.Graph.{Graph, IsReached, Decides}
use Rattle.et_graph.specs.Listed.{AreListed}
use Rattle.et_graph.proofs.Walks.{is_reached, is_reached_decides}
use Rattle.et_base.specs.declared.value.End.{End}
use Rattle.et_io.specs.Sink.{Log, TakesUpTo, TakesPrefix}
use Rattle.et_io.proofs.Taking.{takes_no_more}
use Rattle.et_state.specs.Outcome.{records_of}
use Rattle.et_state.specs.Naming.{Mentions, lines_of}
use Rattle.et_state.specs.History.{Setting, is_flush_point, flush_lines, outcome_step, settled}
use Rattle.et_binary.specs.Formats.{lines_written_in}
use Rattle.et_loop.specs.declared.tracer.Progress.{Progress}
use Rattle.et_loop.specs.Kept.{Settles}
use Rattle.et_loop.specs.Quiet.{GoQuietly, IsStep, IsBrokenStep, IsTurn, IsBrokenTurn}
use Rattle.et_loop.specs.Run.{time_noted, due_lines, due_state, last_lines, PutsFlush, PutsLast, Goes, Turns}
use Rattle.et_loop.specs.Said.{SaysStep}
use Rattle.et_loop.specs.Stamping.{Stamped}
use Rattle.et_loop.specs.Visits.{due_visits, last_visits, visits_of_event, visits_of_turn}
use Rattle.et_loop.proofs.Counts.{settled_as_many, settled_state, turn_flushed, turn_allowed, last_turn_allowed}
use Rattle.et_loop.proofs.Putting.{takes_after, prefix_after}
use Rattle.et_loop.proofs.TurnSteps.{deaths_now, goes_on, goes_out, still_listed}

-- no flush is due before the first of quiet events
before_first : {S : Type 0} (given : Setting S) (said : S → ℕ → List ℕ) (k e : ℕ) (s s' : S) (old new : List ℕ) → GoQuietly given said (suc k) e s s' old new → is_flush_point given.interval e ≡ false
unfolding GoQuietly
before_first given said zero e s s' old new h = let at : e + 0 ≡ e = omega arith in subst (λ (n : ℕ). is_flush_point given.interval n ≡ false) at h.3.between
before_first given said (suc k) e s s' old new h = before_first given said k e s h.0 old h.1 h.2

-- the flush alone was made, or a part of it
pub broken_at_flush : {S : Type 0} (given : Setting S) (said : S → ℕ → List ℕ) (flush_visits : (ℕ → Bool) → S → ℕ) (e : ℕ) (s : S) (due : Bool) (old : List ℕ) (before after : ℕ) → due ≡ is_flush_point given.interval e
    → ((here : ℕ → Bool) → ((o : ℕ) → IsTrue (here o) ↔ IsReached (given.rule.graph s) o) → after ≤ before + due_visits due (flush_visits here s)) → (taken taken' : Log) (out : List ℕ)
    → ((deaths : List (ℕ × ℕ)) → (due ≡ true → AreListed (given.rule.graph s) (slice_index old) deaths) → TakesPrefix taken taken' (out ++ lines_written_in given.format (due_lines due (flush_lines e deaths)))) → IsBrokenTurn given said e s old before after flush_visits taken taken' out
unfolding GoQuietly
broken_at_flush given said flush_visits e s due old before after at most taken taken' out takes =
    let now : e ≡ e + 0 = omega arith in
    record {
      quiet = 0;
      from = s;
      between = old;
      comes = record {
        events = (refl, refl);
        visits = λ reached decides.
            let turn = turn_flushed reached given flush_visits e s due before after at (most (reached (given.rule.graph s)) (decides (given.rule.graph s))) in
            let last : after ≤ before + visits_of_turn reached given flush_visits (e + 0) s = subst (λ (n : ℕ). after ≤ before + visits_of_turn reached given flush_visits n s) now turn in
            omega (arith, last);
      };
      breaks = λ reached decides last listed.
          let deaths : List (ℕ × ℕ) = deaths_now reached given (e + 0) s last in
          let due_there = at ∙ ap (λ (n : ℕ). is_flush_point given.interval n) now in
          inl (subst (λ (b : Bool). TakesPrefix taken taken' (out ++ lines_written_in given.format (due_lines b (flush_lines (e + 0) deaths)))) due_there
          (subst (λ (n : ℕ). TakesPrefix taken taken' (out ++ lines_written_in given.format (due_lines due (flush_lines n deaths)))) now (takes deaths (λ _. listed))));
    }

-- what stands in front of the lines is no matter
goes_behind : {S : Type 0} (given : Setting S) (e : ℕ) (s : S) (m : Mentions) (s' : S) (m' : Mentions) (front out out' : List ℕ) (end : Option End) → Goes given e s m s' m' out out' end → Goes given e s m s' m' (front ++ out) (front ++ out') end
goes_behind given e s m s' m' front out out' None g =
    let more : List ℕ = lines_written_in given.format (lines_of given.names m (records_of (outcome_step given (suc e) s))) in
    record { goes = g.goes; state = g.state; mentions = g.mentions; lines = ap (λ (t : List ℕ). front ++ t) g.lines ∙ sym (append_assoc front out more) }
goes_behind given e s m s' m' front out out' (Some end) g = record { ends = g.ends; state = g.state; mentions = g.mentions; lines = ap (λ (t : List ℕ). front ++ t) g.lines }

module _ {S : Type 0} (given : Setting S) (flush_visits : (ℕ → Bool) → S → ℕ) (e : ℕ) (s s₁ : S) (due : Bool) (old bytes left : List ℕ) (taken taken₁ : Log) (before flushed : ℕ) where
  -- after event e, which left s, a flush was made where it was due
  pub record IsSettled : Type 0 where
    pub at : due ≡ is_flush_point given.interval e
    pub state : (here : ℕ → Bool) → ((o : ℕ) → IsTrue (here o) ↔ IsReached (given.rule.graph s) o) → s₁ ≡ due_state due (given.rule.flushed here s) s
    pub graphs : Settles due (given.rule.graph s) (given.rule.graph s₁)
    pub puts : PutsFlush (given.rule.graph s) old given.format due e taken taken₁ bytes left
    pub few : (here : ℕ → Bool) → ((o : ℕ) → IsTrue (here o) ↔ IsReached (given.rule.graph s) o) → flushed ≤ before + due_visits due (flush_visits here s)

module _ {S : Type 0} {given : Setting S} (said : S → ℕ → List ℕ) {flush_visits : (ℕ → Bool) → S → ℕ} {e : ℕ} {s s₁ : S} {due : Bool} {old bytes left : List ℕ} {taken taken₁ : Log} {before flushed : ℕ} (z : IsSettled given flush_visits e s s₁ due old bytes left taken taken₁ before flushed) where
  -- what was in the buffer, with the lines of the flush
  abbrev bytes₁ : List ℕ
  bytes₁ = bytes ++ z.puts.bytes

  lines : (deaths : List (ℕ × ℕ)) → (due ≡ true → AreListed (given.rule.graph s) (slice_index old) deaths) → bytes₁ ≡ bytes ++ lines_written_in given.format (due_lines due (flush_lines e deaths))
  lines deaths listed = ap (λ (t : List ℕ). bytes ++ t) (z.puts.lines deaths listed)

  -- the turn of the last event begins with `from`, after event e + k
  pub record IsFlushed (k : ℕ) (mid : S) (between : List ℕ) : Type 0 where
    pub from : S
    pub events : GoQuietly given said k e s from old between
    pub at_there : due ≡ is_flush_point given.interval (e + k)
    pub state_there : (here : ℕ → Bool) → ((o : ℕ) → IsTrue (here o) ↔ IsReached (given.rule.graph from) o) → mid ≡ due_state due (given.rule.flushed here from) from
    pub graphs_there : Settles due (given.rule.graph from) (given.rule.graph mid)
    pub lines_there : (deaths : List (ℕ × ℕ)) → (due ≡ true → AreListed (given.rule.graph from) (slice_index between) deaths) → bytes₁ ≡ bytes ++ lines_written_in given.format (due_lines due (flush_lines (e + k) deaths))
    pub few_there : (here : ℕ → Bool) → ((o : ℕ) → IsTrue (here o) ↔ IsReached (given.rule.graph from) o) → flushed + 8 * k ≤ before + 8 * k + due_visits due (flush_visits here from)

  -- no quiet events
  flushed_at_once : (mid : S) (between : List ℕ) → mid ≡ s₁ → between ≡ old → IsFlushed 0 mid between
  unfolding GoQuietly
  flushed_at_once mid between same kept =
      let now : e ≡ e + 0 = omega arith in
      record {
        from = s;
        events = (refl, kept);
        at_there = z.at ∙ ap (λ (n : ℕ). is_flush_point given.interval n) now;
        state_there = λ here h. same ∙ z.state here h;
        graphs_there = subst (λ (x : S). Settles due (given.rule.graph s) (given.rule.graph x)) (sym same) z.graphs;
        lines_there = λ deaths listed. lines deaths (λ is. subst (λ (xs : List ℕ). AreListed (given.rule.graph s) (slice_index xs) deaths) kept (listed is)) ∙ ap (λ (n : ℕ). bytes ++ lines_written_in given.format (due_lines due (flush_lines n deaths))) now;
        few_there = λ here h. let f = z.few here h in omega (arith, f);
      }

  module _ (no : due ≡ false) where
    same_state : s₁ ≡ s
    same_state = z.state (is_reached (given.rule.graph s)) (is_reached_decides (given.rule.graph s)) ∙ ap (λ (b : Bool). due_state b (given.rule.flushed (is_reached (given.rule.graph s)) s) s) no

    same_bytes : bytes₁ ≡ bytes
    same_bytes =
        lines [] (λ is. absurd (let h : true ≡ false = sym is ∙ no in cc))
        ∙ (ap (λ (b : Bool). bytes ++ lines_written_in given.format (due_lines b (flush_lines e []))) no ∙ append-nil bytes)

    same_visits : flushed ≤ before
    same_visits =
        let f = z.few (is_reached (given.rule.graph s)) (is_reached_decides (given.rule.graph s)) in
        let none : due_visits due (flush_visits (is_reached (given.rule.graph s)) s) ≡ 0 = ap (λ (b : Bool). due_visits b (flush_visits (is_reached (given.rule.graph s)) s)) no in
        omega (arith, f, none)

    nothing_flushed : (k : ℕ) (mid : S) (between : List ℕ) → GoQuietly given said k e s₁ mid old between → is_flush_point given.interval (e + k) ≡ false → IsFlushed k mid between
    nothing_flushed k mid between go later = record {
      from = mid;
      events = subst (λ (x : S). GoQuietly given said k e x mid old between) same_state go;
      at_there = no ∙ sym later;
      state_there = λ here h. sym (ap (λ (b : Bool). due_state b (given.rule.flushed here mid) mid) no);
      graphs_there = subst (λ (b : Bool). Settles b (given.rule.graph mid) (given.rule.graph mid)) (sym no) refl;
      lines_there = λ deaths listed. same_bytes ∙ sym (ap (λ (b : Bool). bytes ++ lines_written_in given.format (due_lines b (flush_lines (e + k) deaths))) no ∙ append-nil bytes);
      few_there = λ here h. let f = same_visits in omega (arith, f);
    }

  -- .. and some
  pub flushed_then : (k : ℕ) (mid : S) (between : List ℕ) → GoQuietly given said k e s₁ mid old between → (0 < k → is_flush_point given.interval (e + k) ≡ false) → IsFlushed k mid between
  unfolding GoQuietly
  flushed_then zero mid between go later = flushed_at_once mid between go.0 go.1
  flushed_then (suc k) mid between go later = nothing_flushed (z.at ∙ before_first given said k e s₁ mid old between go) (suc k) mid between go (later (omega arith))

  -- A TURN: the flush and what follows it
  module _ (quiet : ℕ) (mid : S) (between : List ℕ) (f : IsFlushed quiet mid between) (after : ℕ) (few_after : after ≤ flushed + 8 * quiet + visits_of_event given (e + quiet) mid) where
    is_settled : (reached : Graph → ℕ → Bool) → Decides reached → mid ≡ settled reached given (e + quiet) f.from
    is_settled reached decides = settled_state reached given (e + quiet) f.from mid due f.at_there (f.state_there (reached (given.rule.graph f.from)) (decides (given.rule.graph f.from)))

    turn_visits : (reached : Graph → ℕ → Bool) → Decides reached → after ≤ before + 8 * quiet + visits_of_turn reached given flush_visits (e + quiet) f.from
    turn_visits reached decides =
        turn_allowed reached given flush_visits (e + quiet) f.from due (before + 8 * quiet) (flushed + 8 * quiet) f.at_there (f.few_there (reached (given.rule.graph f.from)) (decides (given.rule.graph f.from))) mid (is_settled reached decides) after few_after
        (settled_as_many due (given.rule.graph f.from) (given.rule.graph mid) f.graphs_there)

    broken_here : IsBrokenTurn given said e s old before after flush_visits taken taken₁ bytes
    broken_here = record {
      quiet = quiet;
      from = f.from;
      between = between;
      comes = record { events = f.events; visits = turn_visits };
      breaks = λ reached decides last listed.
          let deaths : List (ℕ × ℕ) = deaths_now reached given (e + quiet) f.from last in
          inl (subst (λ (t : List ℕ). TakesPrefix taken taken₁ t) (f.lines_there deaths (λ _. listed) ∙ ap (λ (b : Bool). bytes ++ lines_written_in given.format (due_lines b (flush_lines (e + quiet) deaths))) f.at_there) (takes_no_more taken taken₁ bytes₁ left z.puts.put));
    }

    -- the last event is done
    module _ (m : Mentions) (s' : S) (m' : Mentions) (out' left' spoken new : List ℕ) (goes : Goes given (e + quiet) mid m s' m' bytes₁ out' None) (put : TakesUpTo taken taken₁ out' left') (says : SaysStep given said (e + quiet) mid spoken None) (stamped : Stamped None (e + quiet) (given.rule.graph mid) (given.rule.graph s') between new) where
      going : IsTurn given said e s old before after flush_visits m s' m' taken taken₁ bytes left' spoken new (record { quiet = quiet; end = None })
      going = record {
        from = f.from;
        between = between;
        comes = record { events = f.events; visits = turn_visits };
        whole = out';
        put = put;
        turns = λ reached decides last listed.
            let g = given.rule.graph f.from in
            goes_on reached given (e + quiet) f.from mid s' last m m' due bytes bytes₁ out' f.at_there (f.lines_there (deaths_now reached given (e + quiet) f.from last) (λ _. listed)) (f.state_there (reached g) (decides g)) goes;
        says = λ reached decides. subst (λ (x : S). SaysStep given said (e + quiet) x spoken None) (is_settled reached decides) says;
        passes = (given.rule.graph mid, subst (λ (b : Bool). Settles b (given.rule.graph f.from) (given.rule.graph mid)) f.at_there f.graphs_there, stamped);
      }

    -- .. or the history ends
    module _ (m : Mentions) (s' : S) (m' : Mentions) (out' spoken : List ℕ) (stamps : List ℕ) (end : End) (goes : Goes given (e + quiet) mid m s' m' bytes₁ out' (Some end)) (says : SaysStep given said (e + quiet) mid spoken (Some end)) (kept : stamps ≡ between) (taken₂ : Log) (now : ℕ)
        (last_few : (here : ℕ → Bool) → (due ≡ false → (o : ℕ) → IsTrue (here o) ↔ IsReached (given.rule.graph s') o) → now ≤ after + last_visits due (flush_visits here s')) where
      same_end : (reached : Graph → ℕ → Bool) → Decides reached → due ≡ false → s' ≡ f.from
      same_end reached decides none =
          goes.state ∙ (f.state_there (reached (given.rule.graph f.from)) (decides (given.rule.graph f.from)) ∙ ap (λ (b : Bool). due_state b (given.rule.flushed (reached (given.rule.graph f.from)) f.from) f.from) none)

      end_visits : (reached : Graph → ℕ → Bool) → Decides reached → now ≤ before + 8 * quiet + visits_of_turn reached given flush_visits (e + quiet) f.from
      end_visits reached decides =
          let here = reached (given.rule.graph f.from) in
          last_turn_allowed reached given flush_visits (e + quiet) f.from due (before + 8 * quiet) (flushed + 8 * quiet) f.at_there (f.few_there here (decides (given.rule.graph f.from))) mid (is_settled reached decides) after few_after
          end (flush_visits here s') now goes.ends
          (last_few here (λ no. subst (λ (x : S). (o : ℕ) → IsTrue (here o) ↔ IsReached (given.rule.graph x) o) (sym (same_end reached decides no)) (decides (given.rule.graph f.from))))
          (λ no. ap (λ (x : S). flush_visits here x) (same_end reached decides no))

      -- the lines of the last turn
      module _ (reached : Graph → ℕ → Bool) (decides : Decides reached) (noted : ℕ → ℕ) (listed : AreListed (given.rule.graph f.from) (slice_index between) (deaths_now reached given (e + quiet) f.from noted)) where
        abbrev dead : List (ℕ × ℕ)
        dead = deaths_now reached given (e + quiet) f.from noted

        still : due ≡ false → AreListed (given.rule.graph s') (slice_index stamps) dead
        still = still_listed reached given (e + quiet) f.from mid s' noted m m' due bytes bytes₁ out' f.at_there (f.lines_there dead (λ _. listed)) (f.state_there (reached (given.rule.graph f.from)) (decides (given.rule.graph f.from))) end between stamps goes kept listed

        concludes : (whole : List ℕ) → whole ≡ out' ++ lines_written_in given.format (last_lines due end (e + quiet) (flush_lines (e + quiet) dead)) → Turns reached given (e + quiet) f.from noted m s' (time_noted (reached (given.rule.graph f.from)) noted (e + quiet)) m' bytes whole (Some end)
        concludes whole is = goes_out reached given (e + quiet) f.from mid s' noted m m' due bytes bytes₁ out' f.at_there (f.lines_there dead (λ _. listed)) (f.state_there (reached (given.rule.graph f.from)) (decides (given.rule.graph f.from))) end whole goes is

      broken_at_end : ((deaths : List (ℕ × ℕ)) → (due ≡ false → AreListed (given.rule.graph s') (slice_index stamps) deaths) → TakesPrefix taken taken₂ (out' ++ lines_written_in given.format (last_lines due end (e + quiet) (flush_lines (e + quiet) deaths))))
          → IsBrokenTurn given said e s old before now flush_visits taken taken₂ bytes
      broken_at_end takes = record {
        quiet = quiet;
        from = f.from;
        between = between;
        comes = record { events = f.events; visits = end_visits };
        breaks = λ reached decides noted listed.
            let c = concludes reached decides noted listed (out' ++ lines_written_in given.format (last_lines due end (e + quiet) (flush_lines (e + quiet) (deaths_now reached given (e + quiet) f.from noted)))) refl in
            inr (end, record { ends = c.ends; takes = subst (λ (t : List ℕ). TakesPrefix taken taken₂ t) c.lines (takes (deaths_now reached given (e + quiet) f.from noted) (still reached decides noted listed)) });
      }

      ending_so : (s'' : S) (m'' : Mentions) (new whole left' : List ℕ)
          → ((deaths : List (ℕ × ℕ)) → (due ≡ false → AreListed (given.rule.graph s') (slice_index stamps) deaths) → whole ≡ out' ++ lines_written_in given.format (last_lines due end (e + quiet) (flush_lines (e + quiet) deaths))) → TakesUpTo taken taken₂ whole left'
          → IsTurn given said e s old before now flush_visits m s'' m'' taken taken₂ bytes left' spoken new (record { quiet = quiet; end = Some end })
      ending_so s'' m'' new whole left' last put = record {
        from = f.from;
        between = between;
        comes = record { events = f.events; visits = end_visits };
        whole = whole;
        put = put;
        turns = λ reached decides noted listed.
            let c = concludes reached decides noted listed whole (last (deaths_now reached given (e + quiet) f.from noted) (still reached decides noted listed)) in
            record { ends = c.ends; lines = c.lines };
        says = λ reached decides. says;
        passes = tt;
      }

  -- what a step gives for the turn
  pub broken_turn : {after : ℕ} → IsBrokenStep given said e s₁ old flushed after → IsBrokenTurn given said e s old before after flush_visits taken taken₁ bytes
  broken_turn {after = after} h = broken_here h.quiet h.mid h.between (flushed_then h.quiet h.mid h.between h.comes.events h.comes.later) after h.comes.visits

  module _ {m : Mentions} {s' : S} {m' : Mentions} {left' spoken new : List ℕ} {after : ℕ} {progress : Progress} (h : IsStep given said e s₁ old flushed after m s' m' left left' spoken new progress) where
    abbrev quiet : ℕ
    quiet = progress.quiet

    abbrev end : Option End
    end = progress.end

    -- the lines of the flush and of the step, behind what was in the buffer
    abbrev pub out_then : List ℕ
    out_then = z.puts.put.prefix ++ left'

    then_put : TakesUpTo taken taken₁ out_then left'
    then_put = record { prefix = z.puts.put.prefix; parts = refl; taken = z.puts.put.taken }

    goes_then : (x : Option End) → end ≡ x → Goes given (e + quiet) h.mid m s' m' bytes₁ out_then x
    goes_then x is =
        subst (λ (t : List ℕ). Goes given (e + quiet) h.mid m s' m' t out_then x) (sym z.puts.put.parts)
        (goes_behind given (e + quiet) h.mid m s' m' z.puts.put.prefix left left' x (subst (λ (y : Option End). Goes given (e + quiet) h.mid m s' m' left left' y) is h.goes))

    pub turn_goes : end ≡ None → IsTurn given said e s old before after flush_visits m s' m' taken taken₁ bytes left' spoken new (record { quiet = quiet; end = end })
    turn_goes is =
        subst (λ (x : Option End). IsTurn given said e s old before after flush_visits m s' m' taken taken₁ bytes left' spoken new (record { quiet = quiet; end = x })) (sym is)
        (going quiet h.mid h.between (flushed_then quiet h.mid h.between h.comes.events h.comes.later) after h.comes.visits m s' m' out_then left' spoken new
        (goes_then None is)
        then_put
        (subst (λ (x : Option End). SaysStep given said (e + quiet) h.mid spoken x) is h.says)
        (subst (λ (x : Option End). Stamped x (e + quiet) (given.rule.graph h.mid) (given.rule.graph s') h.between new) is h.stamped))

    module _ {over : End} (is : end ≡ Some over) (taken₂ : Log) (now : ℕ)
        (last_few : (here : ℕ → Bool) → (due ≡ false → (o : ℕ) → IsTrue (here o) ↔ IsReached (given.rule.graph s') o) → now ≤ after + last_visits due (flush_visits here s')) where
      over_says : SaysStep given said (e + quiet) h.mid spoken (Some over)
      over_says = subst (λ (x : Option End). SaysStep given said (e + quiet) h.mid spoken x) is h.says

      over_stamped : new ≡ h.between
      over_stamped = subst (λ (x : Option End). Stamped x (e + quiet) (given.rule.graph h.mid) (given.rule.graph s') h.between new) is h.stamped

      pub turn_broken : ((deaths : List (ℕ × ℕ)) → (due ≡ false → AreListed (given.rule.graph s') (slice_index new) deaths) → TakesPrefix taken₁ taken₂ (left' ++ lines_written_in given.format (last_lines due over (e + quiet) (flush_lines (e + quiet) deaths))))
          → IsBrokenTurn given said e s old before now flush_visits taken taken₂ bytes
      turn_broken takes =
          broken_at_end quiet h.mid h.between (flushed_then quiet h.mid h.between h.comes.events h.comes.later) after h.comes.visits m s' m' out_then spoken new over (goes_then (Some over) is) over_says over_stamped taken₂ now last_few
          (λ deaths listed. prefix_after taken taken₁ taken₂ out_then left' (lines_written_in given.format (last_lines due over (e + quiet) (flush_lines (e + quiet) deaths))) then_put (takes deaths listed))

      pub turn_ends : (s'' : S) (m'' : Mentions) (new'' left'' : List ℕ) → PutsLast (given.rule.graph s') new given.format due (record { end = over; event = e + quiet }) taken₁ taken₂ left' left''
          → IsTurn given said e s old before now flush_visits m s'' m'' taken taken₂ bytes left'' spoken new'' (record { quiet = quiet; end = end })
      turn_ends s'' m'' new'' left'' last =
          subst (λ (x : Option End). IsTurn given said e s old before now flush_visits m s'' m'' taken taken₂ bytes left'' spoken new'' (record { quiet = quiet; end = x })) (sym is)
          (ending_so quiet h.mid h.between (flushed_then quiet h.mid h.between h.comes.events h.comes.later) after h.comes.visits m s' m' out_then spoken new over (goes_then (Some over) is) over_says over_stamped taken₂ now last_few s'' m'' new'' (out_then ++ last.bytes) left''
          (λ deaths listed. ap (λ (t : List ℕ). out_then ++ t) (last.lines deaths listed)) (takes_after taken taken₁ taken₂ out_then left' last.bytes left'' then_put last.put))
