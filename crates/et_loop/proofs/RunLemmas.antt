-- The whole run: what holds between two turns, and what is put.
use Rattle.std.proofs.Common.{◌≡◌, ℕ, zero, suc, ◌<◌, ◌≤◌, Bool, true, false, List, [], ◌∷◌, ◌++◌, Option, Some, None, IfNone, refl, sym, ◌∙◌, ap, subst, arith, ◌⊎◌, inl, inr, ⊎_elim, if◌then◌else◌, append_assoc, append-nil, rules, unwrap_or}
use mathlib.Core.Path.{fun_ext}
use Rattle.std.proofs.lemmas.Bool.{cases_lt}
use Rattle.std.proofs.lemmas.Grind.{flat_map-append}
use Rattle.et_base.specs.declared.format.Format.{Format}
use Rattle.et_base.specs.declared.line.TraceLine.{TraceLine}
use Rattle.et_base.specs.declared.line.TraceLine.TheVariants.{Header, Finish}
use Rattle.et_base.specs.declared.value.End.{End}
use Rattle.et_graph.specs.Graph.{Graph}
use Rattle.et_state.specs.declared.records.Record.{Record}
use Rattle.et_state.specs.Outcome.{state_after, records_of}
use Rattle.et_state.specs.Naming.{Mentions, nothing_mentioned, mentions_after, lines_of}
use Rattle.et_state.specs.History.{Setting, is_flush_point, flush_lines, how_of, ending, outcome_step, settled, left_by, records_at, last_reached, deaths, mentions_to, lines_to, trace_of, IsLastEvent}
use Rattle.et_text.specs.Ranges.{header_version}
use Rattle.et_binary.specs.Formats.{written_in, lines_written_in, trace_bytes}
use Rattle.et_io.specs.Sink.{Log, with_more, TakesPrefix}
use Rattle.et_io.proofs.Taking.{longer, part_put, takes_no_more, with_more-nil, with_more-with_more}
use Rattle.et_loop.specs.Run.{time_noted, flush_of, due_lines, flush_now, Turns, Advances, Concludes, BreaksFlush, Breaks}
use Rattle.et_loop.specs.Traced.{WritesTrace, WritesPrefix}
use Rattle.et_loop.proofs.Headers.{trace_whole}

-- WHAT IS TAKEN

pub more_nothing : (taken : Log) → taken ≡ with_more taken []
more_nothing taken = sym (with_more-nil taken)

-- a prefix of what comes next, behind what was taken, is a prefix of the whole
pub front_on : (taken mid new : Log) (a p w r : List ℕ) → mid ≡ with_more taken a → w ≡ (a ++ p) ++ r → TakesPrefix mid new p → TakesPrefix taken new w
front_on taken mid new a p w r em ew h =
    subst (λ (t : List ℕ). TakesPrefix taken new t) (sym ew)
    (longer taken new (a ++ p) r (part_put taken mid new (a ++ p) p (record { prefix = a; parts = refl; taken = em }) h))

-- what was taken so far is a prefix of the whole
pub front_so_far : (taken new : Log) (a w r : List ℕ) → new ≡ with_more taken a → w ≡ a ++ r → TakesPrefix taken new w
front_so_far taken new a w r en ew = takes_no_more taken new w r (record { prefix = a; parts = ew; taken = en })

-- HOW THE LINES GROW

-- these lines are the first of those
pub Extends : List TraceLine → List TraceLine → Type 0
Extends a b = (rest : List TraceLine) × (b ≡ a ++ rest)

extends_on : (a b c : List TraceLine) → Extends a b → Extends b c → Extends a c
unfolding Extends
extends_on a b c (p, e) (q, f) = (p ++ q, f ∙ (ap (λ x. x ++ q) e ∙ append_assoc a p q))

written_front : (f : Format) (a b : List TraceLine) → Extends a b → (r : List ℕ) × (lines_written_in f b ≡ lines_written_in f a ++ r)
unfolding Extends
written_front f a b (rest, e) = (lines_written_in f rest, ap (lines_written_in f) e ∙ flat_map-append (written_in f) a rest)

IfNothing : Option End → Type 0
IfNothing None = Unit {0}
IfNothing (Some end) = ⊥

pub none_some : (o : Option End) (end : End) → o ≡ None → o ≡ Some end → ⊥
unfolding IfNothing
none_some o end a b = subst IfNothing (sym a ∙ b) tt

due_if : (b : Bool) (ls : List TraceLine) → due_lines b ls ≡ (if b then ls else [])
due_if true ls = refl
due_if false ls = refl

due_first : (due : Bool) (before flush behind : List TraceLine) → Extends (before ++ due_lines due flush) ((before ++ flush) ++ behind)
unfolding Extends
due_first true before flush behind = (behind, refl)
due_first false before flush behind = (flush ++ behind, append_assoc before flush behind ∙ ap (λ ls. ls ++ (flush ++ behind)) (sym (append-nil before)))

below_or_at : (k e : ℕ) → k < suc e → (k < e) ⊎ (k ≡ e)
below_or_at k e lt = ⊎_elim (λ a. inl a) (λ b. inr (omega arith)) (cases_lt k e)

module _ {S : Type 0} (reached : Graph → ℕ → Bool) (given : Setting S) (start : S) (made : List Record) where
  -- how the history ends after event e, if it does
  abbrev ends_at : ℕ → Option End
  ends_at e = ending given e (settled reached given e (left_by reached given start made e))

  lines_next : (e : ℕ) → Extends (lines_to reached given start made e) (lines_to reached given start made (suc e))
  unfolding lines_to Extends
  lines_next e = (_, append_assoc (lines_to reached given start made e) _ _)

  lines_within : (k e : ℕ) → e ≤ k → Extends (lines_to reached given start made e) (lines_to reached given start made k)
  unfolding Extends
  lines_within zero e le = subst (λ j. Extends (lines_to reached given start made j) (lines_to reached given start made 0)) (let z : 0 ≡ e = omega arith in z) ([], sym (append-nil (lines_to reached given start made 0)))
  lines_within (suc k) e le =
      ⊎_elim (λ above. subst (λ j. Extends (lines_to reached given start made j) (lines_to reached given start made (suc k))) (let z : suc k ≡ e = omega arith in z) ([], sym (append-nil (lines_to reached given start made (suc k)))))
      (λ below. extends_on _ _ _ (lines_within k e below) (lines_next k)) (cases_lt k e)

  lines_traced : (e n : ℕ) (end : End) → e ≤ n → Extends (lines_to reached given start made e) (trace_of reached given start made n end)
  unfolding Extends
  lines_traced e n end le = extends_on _ _ _ (lines_within n e le) (_, append_assoc (lines_to reached given start made n) _ _)

  -- what is written of the lines so far is the front of the trace
  trace_front : (e n : ℕ) (end : End) → e ≤ n → (r : List ℕ) × (trace_bytes given.format (trace_of reached given start made n end) ≡ lines_written_in given.format (lines_to reached given start made e) ++ r)
  trace_front e n end le =
      let ext = written_front given.format _ _ (lines_traced e n end le) in
      (ext.0, sym (trace_whole reached given start made given.format n end) ∙ ext.1)

  -- so are the lines of a flush that is due behind them
  flush_traced : (e n : ℕ) (end : End) → e ≤ n → Extends (lines_to reached given start made e ++ due_lines (is_flush_point given.interval e) (flush_lines e (deaths reached given start made e))) (trace_of reached given start made n end)
  unfolding lines_to Extends
  flush_traced e n end le =
      let flush : List TraceLine = flush_lines e (deaths reached given start made e) in
      let due = is_flush_point given.interval e in
      elim (cases_lt e n) [
        | inl below ↦
            let next : Extends (lines_to reached given start made e ++ due_lines due flush) (lines_to reached given start made (suc e)) =
            subst (λ (ls : List TraceLine). Extends (lines_to reached given start made e ++ ls) (lines_to reached given start made (suc e))) (sym (due_if due flush)) (lines_of given.names (mentions_to reached given start made e) (records_at reached given start made (suc e)), refl) in
            extends_on _ _ _ next (lines_traced (suc e) n end (omega (arith, below)))
        | inr above ↦
            let here : e ≡ n = omega (arith, above, le) in
            subst (λ (k : ℕ). Extends (lines_to reached given start made e ++ due_lines due flush) (trace_of reached given start made k end)) here (due_first due (lines_to reached given start made e) flush (Finish e (how_of end) ∷ []))
      ]

  -- an event before which no end came is at most the last one
  pub up_to_last : (e n : ℕ) (end : End) → IsLastEvent reached given start made n end → ((k : ℕ) → k < e → ends_at k ≡ None) → e ≤ n
  up_to_last e n end last first = ⊎_elim (λ past. absurd (none_some (ends_at n) end (first n past) last.ends)) (λ le. le) (cases_lt n e)

  -- the last event before event e after which an object was reached, as far as it is noted before event e is
  pub noted_before : ℕ → ℕ → ℕ
  noted_before o zero = zero
  noted_before o (suc e) = last_reached reached given start made o e

  pub noted_is : (o e : ℕ) → time_noted (reached (given.rule.graph (left_by reached given start made e))) (λ x. noted_before x e) e o ≡ last_reached reached given start made o e
  unfolding noted_before last_reached
  noted_is o zero = elim (reached (given.rule.graph (left_by reached given start made 0)) o) as (λ b. (if b then zero else zero) ≡ zero) [ true ↦ refl | false ↦ refl ]
  noted_is o (suc e) = refl

  -- what holds between two turns of the loop
  pub record Running (e : ℕ) (s : S) (last : ℕ → ℕ) (m : Mentions) (before now : Log) : Type 0 where
    pub state : s ≡ left_by reached given start made e
    pub first : (k : ℕ) → k < e → ending given k (settled reached given k (left_by reached given start made k)) ≡ None
    pub noted : (o : ℕ) → last o ≡ noted_before o e
    pub mentions : m ≡ mentions_to reached given start made e
    pub lines : now ≡ with_more before (lines_written_in given.format (lines_to reached given start made e))

  pub running_start : (last : ℕ → ℕ) (m : Mentions) (before now : Log) (bytes : List ℕ) → ((o : ℕ) → last o ≡ 0) → m ≡ mentions_after given.names nothing_mentioned made → bytes ≡ lines_written_in given.format (Header (header_version given.format) given.interval ∷ lines_of given.names nothing_mentioned made) → now ≡ with_more before bytes → Running 0 start last m before now
  unfolding left_by noted_before mentions_to lines_to
  running_start last m before now bytes h em eb en = record {
    state = refl;
    first = λ k lt. absurd (omega arith);
    noted = h;
    mentions = em;
    lines = en ∙ ap (λ b. with_more before b) eb;
  }

  -- nothing but a prefix of the first lines was put
  pub front_start : (before now : Log) (bytes : List ℕ) → bytes ≡ lines_written_in given.format (Header (header_version given.format) given.interval ∷ lines_of given.names nothing_mentioned made) → TakesPrefix before now bytes → WritesPrefix reached given start made before now
  unfolding lines_to
  front_start before now bytes eb h n end last =
      let ext = trace_front 0 n end (search rules) in
      front_on before before now [] bytes (trace_bytes given.format (trace_of reached given start made n end)) ext.0 (more_nothing before) (ext.1 ∙ ap (λ b. b ++ ext.0) (sym eb)) h

  pub front_nothing : (before : Log) → WritesPrefix reached given start made before before
  front_nothing before n end last = front_so_far before before [] (trace_bytes given.format (trace_of reached given start made n end)) (trace_bytes given.format (trace_of reached given start made n end)) (more_nothing before) refl

  module _ (e : ℕ) (s : S) (last : ℕ → ℕ) (m : Mentions) (before now : Log) (r : Running e s last m before now) where
    -- the lines of a flush that is due are those of the history
    flush_is : flush_now reached given e s last ≡ flush_lines e (deaths reached given start made e)
    flush_is =
        ap (λ f. flush_of (reached (given.rule.graph s)) (time_noted (reached (given.rule.graph s)) f e) e (given.rule.graph s)) (fun_ext r.noted)
        ∙ (ap (λ x. flush_of (reached (given.rule.graph x)) (time_noted (reached (given.rule.graph x)) (λ o. noted_before o e) e) e (given.rule.graph x)) r.state
        ∙ ap (λ f. flush_of (reached (given.rule.graph (left_by reached given start made e))) f e (given.rule.graph (left_by reached given start made e))) (fun_ext (λ o. noted_is o e)))

    -- THE NEXT EVENT WAS DONE
    module _ (s' : S) (last' : ℕ → ℕ) (m' : Mentions) (out out' : List ℕ) (empty : out ≡ []) (a : Advances reached given e s last m s' last' m' out out') where
      -- the lines of the history from the records of event e to those of the next
      more_lines : List TraceLine
      more_lines = (if is_flush_point given.interval e then flush_lines e (deaths reached given start made e) else []) ++ lines_of given.names (mentions_to reached given start made e) (records_at reached given start made (suc e))

      put_is : out' ≡ lines_written_in given.format more_lines
      unfolding more_lines
      put_is =
          let due = is_flush_point given.interval e in
          let records = λ (x : S). records_of (outcome_step given (suc e) (settled reached given e x)) in
          a.lines
          ∙ (ap (λ o. o ++ lines_written_in given.format (due_lines due (flush_now reached given e s last) ++ lines_of given.names m (records s))) empty
          ∙ (ap (λ f. lines_written_in given.format (due_lines due f ++ lines_of given.names m (records s))) flush_is
          ∙ (ap (λ d. lines_written_in given.format (d ++ lines_of given.names m (records s))) (due_if due (flush_lines e (deaths reached given start made e)))
          ∙ (ap (λ x. lines_written_in given.format ((if due then flush_lines e (deaths reached given start made e) else []) ++ lines_of given.names x (records s))) r.mentions
          ∙ ap (λ x. lines_written_in given.format ((if due then flush_lines e (deaths reached given start made e) else []) ++ lines_of given.names (mentions_to reached given start made e) (records x))) r.state))))

      lines_are : lines_written_in given.format (lines_to reached given start made (suc e)) ≡ lines_written_in given.format (lines_to reached given start made e) ++ lines_written_in given.format more_lines
      unfolding lines_to more_lines
      lines_are = ap (lines_written_in given.format) (append_assoc (lines_to reached given start made e) _ _) ∙ flat_map-append (written_in given.format) (lines_to reached given start made e) more_lines

      first_next : (k : ℕ) → k < suc e → ending given k (settled reached given k (left_by reached given start made k)) ≡ None
      first_next k lt = ⊎_elim (λ b. r.first k b) (λ q. subst (λ j. ending given j (settled reached given j (left_by reached given start made j)) ≡ None) (sym q) (subst (λ x. ending given e (settled reached given e x) ≡ None) r.state a.goes)) (below_or_at k e lt)

      running_next : (now' : Log) → now' ≡ with_more now out' → Running (suc e) s' last' m' before now'
      unfolding left_by noted_before last_reached mentions_to
      running_next now' en = record {
        state = a.state ∙ ap (λ x. state_after (settled reached given e x) (outcome_step given (suc e) (settled reached given e x))) r.state;
        first = first_next;
        noted = λ o. a.notes o ∙ (ap (λ x. time_noted (reached (given.rule.graph x)) last e o) r.state ∙ (ap (λ f. time_noted (reached (given.rule.graph (left_by reached given start made e))) f e o) (fun_ext r.noted) ∙ noted_is o e));
        mentions = a.mentions ∙ (ap (λ x. mentions_after given.names x (records_of (outcome_step given (suc e) (settled reached given e s)))) r.mentions ∙ ap (λ x. mentions_after given.names (mentions_to reached given start made e) (records_of (outcome_step given (suc e) (settled reached given e x)))) r.state);
        lines = en ∙ (ap (λ t. with_more t out') r.lines ∙ (with_more-with_more before (lines_written_in given.format (lines_to reached given start made e)) out' ∙ (ap (λ o. with_more before (lines_written_in given.format (lines_to reached given start made e) ++ o)) put_is ∙ ap (λ o. with_more before o) (sym lines_are))));
      }

      pub running_on : (n : ℕ) (now' : Log) → n ≡ suc e → now' ≡ with_more now out' → Running n s' last' m' before now'
      running_on n now' h en = subst (λ j. Running j s' last' m' before now') (sym h) (running_next now' en)

      -- only a prefix of its lines was put
      pub front_next : (now' : Log) → TakesPrefix now now' out' → WritesPrefix reached given start made before now'
      front_next now' h n end last'' =
          let ext = trace_front (suc e) n end (up_to_last (suc e) n end last'' first_next) in
          front_on before now now' (lines_written_in given.format (lines_to reached given start made e)) out' (trace_bytes given.format (trace_of reached given start made n end)) ext.0 r.lines
          (ext.1 ∙ ap (λ b. b ++ ext.0) (lines_are ∙ ap (λ o. lines_written_in given.format (lines_to reached given start made e) ++ o) (sym put_is))) h

    -- THE HISTORY ENDED
    module _ (s' : S) (last' : ℕ → ℕ) (m' : Mentions) (end : End) (out out' : List ℕ) (empty : out ≡ []) (a : Concludes reached given e s last m s' last' m' out out' end) where
      last_put : out' ≡ lines_written_in given.format (flush_lines e (deaths reached given start made e) ++ Finish e (how_of end) ∷ [])
      last_put =
          a.lines
          ∙ (ap (λ o. o ++ lines_written_in given.format (flush_now reached given e s last ++ Finish e (how_of end) ∷ [])) empty
          ∙ ap (λ f. lines_written_in given.format (f ++ Finish e (how_of end) ∷ [])) flush_is)

      trace_is : trace_bytes given.format (trace_of reached given start made e end) ≡ lines_written_in given.format (lines_to reached given start made e) ++ out'
      trace_is =
          sym (trace_whole reached given start made given.format e end)
          ∙ (ap (lines_written_in given.format) (append_assoc (lines_to reached given start made e) (flush_lines e (deaths reached given start made e)) (Finish e (how_of end) ∷ []))
          ∙ (flat_map-append (written_in given.format) (lines_to reached given start made e) (flush_lines e (deaths reached given start made e) ++ Finish e (how_of end) ∷ [])
          ∙ ap (λ o. lines_written_in given.format (lines_to reached given start made e) ++ o) (sym last_put)))

      is_last : IsLastEvent reached given start made e end
      is_last = record { ends = subst (λ x. ending given e (settled reached given e x) ≡ Some end) r.state a.ends; first = r.first }

      pub running_end : (now' : Log) → now' ≡ with_more now out' → WritesTrace reached given start made (record { end = end; event = e }) before now'
      running_end now' en = record {
        ends = is_last;
        taken = en ∙ (ap (λ t. with_more t out') r.lines ∙ (with_more-with_more before (lines_written_in given.format (lines_to reached given start made e)) out' ∙ ap (λ o. with_more before o) (sym trace_is)));
      }

      -- only a prefix of its lines was put
      pub front_end : (now' : Log) → TakesPrefix now now' out' → WritesPrefix reached given start made before now'
      front_end now' h n other last'' =
          let up = up_to_last e n other last'' r.first in
          let down = up_to_last n e end is_last last''.first in
          let same : e ≡ n = omega arith in
          let both : Some other ≡ Some end = sym last''.ends ∙ (ap (λ j. ends_at j) (sym same) ∙ is_last.ends) in
          let one : other ≡ end = ap (λ o. unwrap_or o end) both in
          let whole : trace_bytes given.format (trace_of reached given start made n other) ≡ (lines_written_in given.format (lines_to reached given start made e) ++ out') ++ [] =
          ap (λ j. trace_bytes given.format (trace_of reached given start made j other)) (sym same) ∙ (ap (λ x. trace_bytes given.format (trace_of reached given start made e x)) one ∙ (trace_is ∙ sym (append-nil (lines_written_in given.format (lines_to reached given start made e) ++ out')))) in
          front_on before now now' (lines_written_in given.format (lines_to reached given start made e)) out' (trace_bytes given.format (trace_of reached given start made n other)) [] r.lines whole h

    -- .. whichever of the two it was
    pub front_turn : (next : Option End) (s' : S) (last' : ℕ → ℕ) (m' : Mentions) (out out' : List ℕ) → out ≡ [] → Turns reached given e s last m s' last' m' out out' next → (now' : Log) → TakesPrefix now now' out' → WritesPrefix reached given start made before now'
    front_turn None s' last' m' out out' empty a now' h = front_next s' last' m' out out' empty a now' h
    front_turn (Some end) s' last' m' out out' empty a now' h = front_end s' last' m' end out out' empty a now' h

    -- a turn that was broken off: only a prefix of the lines of its flush was put, or of the last lines
    front_flush : (now' : Log) (out : List ℕ) → out ≡ [] → BreaksFlush reached given e s last now now' out → WritesPrefix reached given start made before now'
    front_flush now' out empty h n end last'' =
        let due = is_flush_point given.interval e in
        let flush : List TraceLine = flush_lines e (deaths reached given start made e) in
        let ext = written_front given.format _ _ (flush_traced e n end (up_to_last e n end last'' r.first)) in
        let piece : out ++ lines_written_in given.format (due_lines due (flush_now reached given e s last)) ≡ lines_written_in given.format (due_lines due flush) =
        ap (λ o. o ++ lines_written_in given.format (due_lines due (flush_now reached given e s last))) empty ∙ ap (λ f. lines_written_in given.format (due_lines due f)) flush_is in
        front_on before now now' (lines_written_in given.format (lines_to reached given start made e)) (lines_written_in given.format (due_lines due flush)) (trace_bytes given.format (trace_of reached given start made n end)) ext.0 r.lines
        (sym (trace_whole reached given start made given.format n end) ∙ (ext.1 ∙ ap (λ b. b ++ ext.0) (flat_map-append (written_in given.format) (lines_to reached given start made e) (due_lines due flush))))
        (subst (λ b. TakesPrefix now now' b) piece h)

    pub front_broken : (now' : Log) (out : List ℕ) → out ≡ [] → Breaks reached given e s last now now' out → WritesPrefix reached given start made before now'
    front_broken now' out empty (inl h) = front_flush now' out empty h
    front_broken now' out empty (inr h) = front_end s last m h.0 out _ empty (record { ends = h.1.ends; lines = refl }) now' h.1.takes

    pub turn_on : (next : Option End) (s' : S) (last' : ℕ → ℕ) (m' : Mentions) (out out' : List ℕ) → out ≡ [] → next ≡ None → Turns reached given e s last m s' last' m' out out' next → (n : ℕ) (now' : Log) → n ≡ suc e → now' ≡ with_more now out' → Running n s' last' m' before now'
    turn_on next s' last' m' out out' empty is a n now' h en = running_on s' last' m' out out' empty (subst (λ o. Turns reached given e s last m s' last' m' out out' o) is a) n now' h en

    pub turn_end : (next : Option End) (end : End) (s' : S) (last' : ℕ → ℕ) (m' : Mentions) (out out' : List ℕ) → out ≡ [] → next ≡ Some end → Turns reached given e s last m s' last' m' out out' next → (now' : Log) → now' ≡ with_more now out' → WritesTrace reached given start made (record { end = end; event = e }) before now'
    turn_end next end s' last' m' out out' empty is a now' en = running_end s' last' m' end out out' empty (subst (λ o. Turns reached given e s last m s' last' m' out out' o) is a) now' en

-- what holds where there is no end holds where there is none
pub at_none : {X : Type 0} (end : Option End) → end ≡ None → IfNone end X → X
at_none None is x = x
at_none (Some end) is x = absurd (none_some (Some end) end is refl)
