-- Two histories of which each pair of states matches: what one tells, the other tells.
use Rattle.std.proofs.Common.{◌≡◌, ℕ, zero, suc, ◌+◌, ◌<◌, ◌≤◌, ◌==◌, Bool, true, false, List, [], ◌∷◌, ◌++◌, length, Option, Some, None, refl, sym, ◌∙◌, ap, subst, inl, inr, arith}
use Rattle.std.specs.Prelude.{if◌then◌else◌, ◌%◌, slice_index}
use Rattle.std.specs.List.{list_any}
use mathlib.Core.Path.{fun_ext}
use Rattle.std.proofs.lemmas.Bool.{cases_eq}
use Rattle.et_base.specs.declared.line.TraceLine.{TraceLine}
use Rattle.et_base.specs.declared.line.TraceLine.TheVariants.{Finish}
use Rattle.et_base.specs.declared.value.End.{End}
use Rattle.et_base.specs.declared.value.End.TheVariants.{Finished, EventLimit}
use Rattle.et_graph.specs.Graph.{Graph}
use Rattle.et_state.specs.declared.records.Record.{Record}
use Rattle.et_state.specs.Naming.{Names, Mentions, mentions_after, lines_of}
use Rattle.et_state.specs.Outcome.{Outcome, state_after, records_of, end_by}
use Rattle.et_io.specs.Sink.{Log, with_more}
use Rattle.et_binary.specs.Formats.{trace_bytes}
use Rattle.et_loop.specs.Visits.{visits_at, visits_below, allowed_visits, visits_to, visits_of_turn, turn_visits, due_visits, made_after, IsCut, IsCutAfter}
use Rattle.et_loop.specs.Said.{said_at, said_to, IsCutSaid}
use Rattle.et_state.specs.History.{Rule, Setting, is_flush_point, is_gone, deaths_to, flush_lines, picked_turn, outcome_step, ending, settled, left_by, records_at, IsLastEvent, last_reached, deaths, mentions_to, lines_to, trace_of, how_of}

-- two graphs of which a history tells the same
pub record LooksAlike (reached : Graph → ℕ → Bool) (g h : Graph) : Type 0 where
  pub made : g.made ≡ h.made
  pub gone : g.gone ≡ h.gone
  pub same : reached g ≡ reached h

-- two outcomes of an event of a thread, from s and from t: the same end and records, and next states that match
pub record LeadsAlike {S T : Type 0} (R : S → T → Type 0) (thread : ℕ) (s : S) (t : T) (x : Outcome S) (y : Outcome T) : Type 0 where
  pub ends : end_by thread x ≡ end_by thread y
  pub records : records_of x ≡ records_of y
  pub next : end_by thread x ≡ None → R (state_after s x) (state_after t y)

-- the end of a history, by whether threads are left, whether the limit is reached, and what the next event leads to
end_alike : (a a' b : Bool) (x y : End) (z z' : Option End) → a ≡ a' → (a ≡ false → b ≡ false → z ≡ z') → (if a then Some x else (if b then Some y else z)) ≡ (if a' then Some x else (if b then Some y else z'))
end_alike true true b x y z z' e h = refl
end_alike false false true x y z z' e h = refl
end_alike false false false x y z z' e h = h refl refl
end_alike true false b x y z z' e h = cc
end_alike false true b x y z z' e h = cc

pub record Open (a b : Bool) (z : Option End) : Type 0 where
  pub some : a ≡ false
  pub within : b ≡ false
  pub done : z ≡ None

pub is_open : (a b : Bool) (x y : End) (z : Option End) → (if a then Some x else (if b then Some y else z)) ≡ None → Open a b z
is_open true b x y z e = cc
is_open false true x y z e = cc
is_open false false x y z e = record { some = refl; within = refl; done = e }

same_gone : (g h : Graph) → g.gone ≡ h.gone → is_gone g ≡ is_gone h
same_gone g h e = ap (λ (os : List ℕ). (λ (o : ℕ). list_any (λ (x : ℕ). x == o) os)) e

same_deaths : (here here' gone gone' : ℕ → Bool) (time time' : ℕ → ℕ) (n n' : ℕ) → here ≡ here' → gone ≡ gone' → time ≡ time' → n ≡ n' → deaths_to here gone time n ≡ deaths_to here' gone' time' n'
same_deaths here here' gone gone' time time' n n' a b c d =
    ap (λ (f : ℕ → Bool). deaths_to f gone time n) a
    ∙ (ap (λ (f : ℕ → Bool). deaths_to here' f time n) b
    ∙ (ap (λ (f : ℕ → ℕ). deaths_to here' gone' f n) c
    ∙ ap (λ (k : ℕ). deaths_to here' gone' time' k) d))

module _ (names : Names) (b : Bool) (e : ℕ) {ls ls' : List TraceLine} {ds ds' : List (ℕ × ℕ)} {m m' : Mentions} {rs rs' : List Record} where
  same_lines : ls ≡ ls' → ds ≡ ds' → m ≡ m' → rs ≡ rs'
      → ls ++ (if b then flush_lines e ds else []) ++ lines_of names m rs ≡ ls' ++ (if b then flush_lines e ds' else []) ++ lines_of names m' rs'
  same_lines el ed em er =
      ap (λ x. x ++ (if b then flush_lines e ds else []) ++ lines_of names m rs) el
      ∙ (ap (λ x. ls' ++ (if b then flush_lines e x else []) ++ lines_of names m rs) ed
      ∙ (ap (λ x. ls' ++ (if b then flush_lines e ds' else []) ++ lines_of names x rs) em
      ∙ ap (λ x. ls' ++ (if b then flush_lines e ds' else []) ++ lines_of names m' x) er))

same_ending : (e : ℕ) (end : End) {ls ls' : List TraceLine} {ds ds' : List (ℕ × ℕ)} → ls ≡ ls' → ds ≡ ds'
    → ls ++ flush_lines e ds ++ Finish e (how_of end) ∷ [] ≡ ls' ++ flush_lines e ds' ++ Finish e (how_of end) ∷ []
same_ending e end {ls} {ls'} {ds} {ds'} el ed = ap (λ x. x ++ flush_lines e ds ++ Finish e (how_of end) ∷ []) el ∙ ap (λ x. ls' ++ flush_lines e x ++ Finish e (how_of end) ∷ []) ed

same_turns : (end end' : Option End) (due : Bool) (flush flush' made made' : ℕ) → end ≡ end' → flush ≡ flush' → (end ≡ None → made ≡ made') → turn_visits end due flush made ≡ turn_visits end' due flush' made'
same_turns None end' due flush flush' made made' e f m =
    ap (λ (n : ℕ). due_visits due n + (8 + made)) f ∙ (ap (λ (n : ℕ). due_visits due flush' + (8 + n)) (m refl) ∙ ap (λ (x : Option End). turn_visits x due flush' made') e)
same_turns (Some end) end' due flush flush' made made' e f m =
    ap (λ (n : ℕ). n + 8) f ∙ ap (λ (x : Option End). turn_visits x due flush' made') e

module _ {S T : Type 0} (reached : Graph → ℕ → Bool) (given : Setting S) (rule : Rule T) (M : ℕ → S → T → Type 0) where
  -- the same setting over the other states
  abbrev pub other : Setting T
  other = record { rule = rule; names = given.names; pick = given.pick; interval = given.interval; limit = given.limit; format = given.format }

  -- an event after event e is done in s, by this thread
  pub record IsTurn (e : ℕ) (s : S) (thread : ℕ) : Type 0 where
    pub some : (length (given.rule.unended s) == 0) ≡ false
    pub within : (e == given.limit) ≡ false
    pub thread_is : thread ≡ picked_turn given (suc e) s

  -- what is asked: matching states look alike, and flushes and events lead from matching states to matching states
  pub record Mirrors : Type 0 where
    pub unended : (e : ℕ) (s : S) (t : T) → M e s t → given.rule.unended s ≡ rule.unended t
    pub looks : (e : ℕ) (s : S) (t : T) → M e s t → LooksAlike reached (given.rule.graph s) (rule.graph t)
    pub flush : (e : ℕ) (s : S) (t : T) → M e s t → M e (given.rule.flushed (reached (given.rule.graph s)) s) (rule.flushed (reached (rule.graph t)) t)
    pub event : (e : ℕ) (s : S) (t : T) (thread : ℕ) → M e s t → IsTurn e s thread
        → LeadsAlike (λ x y. M (suc e) x y) thread s t (given.rule.event s thread) (rule.event t thread)

  module _ (mirrors : Mirrors) where
    if_both : (e : ℕ) (b : Bool) (s s' : S) (t t' : T) → M e s t → M e s' t' → M e (if b then s else s') (if b then t else t')
    if_both e true s s' t t' g h = g
    if_both e false s s' t t' g h = h

    pub settled_alike : (e : ℕ) (s : S) (t : T) → M e s t → M e (settled reached given e s) (settled reached other e t)
    settled_alike e s t m = if_both e (is_flush_point given.interval e) _ _ _ _ (mirrors.flush e s t m) m

    same_turn : (e : ℕ) (s : S) (t : T) → M e s t → picked_turn given (suc e) s ≡ picked_turn other (suc e) t
    same_turn e s t m = ap (λ (us : List ℕ). slice_index us (given.pick (suc e) % length us)) (mirrors.unended e s t m)

    -- the next event, by the threads that have the turn
    step_alike : (e : ℕ) (s : S) (t : T) → M e s t → (length (given.rule.unended s) == 0) ≡ false → (e == given.limit) ≡ false
        → LeadsAlike (λ x y. M (suc e) x y) (picked_turn given (suc e) s) s t (outcome_step given (suc e) s) (outcome_step other (suc e) t)
    step_alike e s t m some within =
        subst (λ (k : ℕ). LeadsAlike (λ x y. M (suc e) x y) (picked_turn given (suc e) s) s t (outcome_step given (suc e) s) (rule.event t k)) (same_turn e s t m)
        (mirrors.event e s t (picked_turn given (suc e) s) m (record { some = some; within = within; thread_is = refl }))

    ending_alike : (e : ℕ) (s : S) (t : T) → M e s t → ending given e s ≡ ending other e t
    ending_alike e s t m =
        end_alike (length (given.rule.unended s) == 0) (length (rule.unended t) == 0) (e == given.limit) Finished EventLimit _ _
        (ap (λ (us : List ℕ). length us == 0) (mirrors.unended e s t m))
        (λ some within. (step_alike e s t m some within).ends ∙ ap (λ (k : ℕ). end_by k (outcome_step other (suc e) t)) (same_turn e s t m))

    -- the event after event e is done
    record Goes (e : ℕ) (s : S) (t : T) : Type 0 where
      next : M (suc e) (state_after s (outcome_step given (suc e) s)) (state_after t (outcome_step other (suc e) t))
      records : records_of (outcome_step given (suc e) s) ≡ records_of (outcome_step other (suc e) t)

    goes_alike : (e : ℕ) (s : S) (t : T) → M e s t → ending given e s ≡ None → Goes e s t
    goes_alike e s t m goes =
        let on = is_open (length (given.rule.unended s) == 0) (e == given.limit) Finished EventLimit _ goes in
        let lead = step_alike e s t m on.some on.within in
        record { next = lead.next on.done; records = lead.records }

    module _ (start : S) (start' : T) (made : List Record) (first : M 0 start start') where
      abbrev one : ℕ → S
      one e = left_by reached given start made e

      abbrev two : ℕ → T
      two e = left_by reached other start' made e

      abbrev pub GoesTo : ℕ → Type 0
      GoesTo e = (k : ℕ) → k < e → ending given k (settled reached given k (one k)) ≡ None

      abbrev pub OtherGoesTo : ℕ → Type 0
      OtherGoesTo e = (k : ℕ) → k < e → ending other k (settled reached other k (two k)) ≡ None

      before : (e : ℕ) → GoesTo (suc e) → GoesTo e
      before e goes k lt = goes k (omega arith)

      pub all_alike : (e : ℕ) → GoesTo e → M e (one e) (two e)
      unfolding left_by
      all_alike zero goes = first
      all_alike (suc e) goes = (goes_alike e _ _ (settled_alike e _ _ (all_alike e (before e goes))) (goes e (omega arith))).next

      pub ends_alike : (e : ℕ) → GoesTo e → ending given e (settled reached given e (one e)) ≡ ending other e (settled reached other e (two e))
      ends_alike e goes = ending_alike e _ _ (settled_alike e _ _ (all_alike e goes))

      -- they go on together
      pub goes_there : (e : ℕ) → GoesTo e → OtherGoesTo e
      goes_there e goes k lt = sym (ends_alike k (λ j less. goes j (omega arith))) ∙ goes k lt

      pub goes_back : (e : ℕ) → OtherGoesTo e → GoesTo e
      goes_back zero goes k lt = absurd (omega arith)
      goes_back (suc e) goes k lt =
          let below : GoesTo e = goes_back e (λ j less. goes j (omega arith)) in
          elim (cases_eq k e) [
            | inl same ↦ subst (λ (n : ℕ). ending given n (settled reached given n (one n)) ≡ None) (sym same) (ends_alike e below ∙ goes e (omega arith))
            | inr ne ↦ below k (omega (arith, ne, lt))
          ]

      records_alike : (e : ℕ) → GoesTo e → records_at reached given start made e ≡ records_at reached other start' made e
      records_alike zero goes = refl
      records_alike (suc e) goes = (goes_alike e _ _ (settled_alike e _ _ (all_alike e (before e goes))) (goes e (omega arith))).records

      pub looks_alike : (e : ℕ) → GoesTo e → LooksAlike reached (given.rule.graph (one e)) (rule.graph (two e))
      looks_alike e goes = mirrors.looks e _ _ (all_alike e goes)

      pub last_alike : (o e : ℕ) → GoesTo e → last_reached reached given start made o e ≡ last_reached reached other start' made o e
      unfolding last_reached
      last_alike o zero goes = refl
      last_alike o (suc e) goes =
          ap (λ (f : ℕ → Bool). if f o then suc e else last_reached reached given start made o e) (looks_alike (suc e) goes).same
          ∙ ap (λ (n : ℕ). if reached (rule.graph (two (suc e))) o then suc e else n) (last_alike o e (before e goes))

      pub deaths_alike : (e : ℕ) → GoesTo e → deaths reached given start made e ≡ deaths reached other start' made e
      deaths_alike e goes =
          let looks = looks_alike e goes in
          same_deaths _ _ _ _ _ _ _ _ looks.same (same_gone (given.rule.graph (one e)) (rule.graph (two e)) looks.gone) (fun_ext (λ o. last_alike o e goes)) looks.made

      mentions_alike : (e : ℕ) → GoesTo e → mentions_to reached given start made e ≡ mentions_to reached other start' made e
      unfolding mentions_to
      mentions_alike zero goes = refl
      mentions_alike (suc e) goes =
          ap (λ (m : Mentions). mentions_after given.names m (records_at reached given start made (suc e))) (mentions_alike e (before e goes))
          ∙ ap (λ (rs : List Record). mentions_after given.names (mentions_to reached other start' made e) rs) (records_alike (suc e) goes)

      pub lines_alike : (e : ℕ) → GoesTo e → lines_to reached given start made e ≡ lines_to reached other start' made e
      unfolding lines_to
      lines_alike zero goes = refl
      lines_alike (suc e) goes =
          let so_far = before e goes in
          same_lines given.names (is_flush_point given.interval e) e (lines_alike e so_far) (deaths_alike e so_far) (mentions_alike e so_far) (records_alike (suc e) goes)

      pub trace_alike : (e : ℕ) (end : End) → GoesTo e → trace_of reached given start made e end ≡ trace_of reached other start' made e end
      trace_alike e end goes = same_ending e end (lines_alike e goes) (deaths_alike e goes)

      pub last_there : (e : ℕ) (end : End) → IsLastEvent reached given start made e end → IsLastEvent reached other start' made e end
      last_there e end last = record { ends = sym (ends_alike e last.first) ∙ last.ends; first = goes_there e last.first }

      pub last_back : (e : ℕ) (end : End) → IsLastEvent reached other start' made e end → IsLastEvent reached given start made e end
      last_back e end last =
          let goes : GoesTo e = goes_back e last.first in
          record { ends = ends_alike e goes ∙ last.ends; first = goes }

      -- what is printed, by rules that say the same of matching states
      module _ (said : S → ℕ → List ℕ) (said' : T → ℕ → List ℕ) (same : (e : ℕ) (s : S) (t : T) (thread : ℕ) → M e s t → said s thread ≡ said' t thread) where
        pub said_alike : (e : ℕ) → GoesTo e → said_to reached given said start made e ≡ said_to reached other said' start' made e
        unfolding said_to
        said_alike zero goes = refl
        said_alike (suc e) goes =
            let m = settled_alike e _ _ (all_alike e (before e goes)) in
            ap (λ x. x ++ said_at reached given said start made (suc e)) (said_alike e (before e goes))
            ∙ ap (λ x. said_to reached other said' start' made e ++ x) (same e _ _ (picked_turn given (suc e) (settled reached given e (one e))) m ∙ ap (λ k. said' (settled reached other e (two e)) k) (same_turn e _ _ m))

      -- visits of objects, by what a flush of each state may make
      module _ (visits : (ℕ → Bool) → S → ℕ) (visits' : (ℕ → Bool) → T → ℕ) (same : (e : ℕ) (s : S) (t : T) → M e s t → visits (reached (given.rule.graph s)) s ≡ visits' (reached (rule.graph t)) t) where
        now_alike : (e : ℕ) → GoesTo e → visits_at reached given visits start made e ≡ visits_at reached other visits' start' made e
        now_alike e goes = same e _ _ (all_alike e goes)

        below_alike : (e : ℕ) → GoesTo e → visits_below reached given visits start made e ≡ visits_below reached other visits' start' made e
        unfolding visits_below
        below_alike zero goes = refl
        below_alike (suc e) goes =
            ap (λ n. n + (if is_flush_point given.interval e then visits_at reached given visits start made e else 0)) (below_alike e (before e goes))
            ∙ ap (λ n. visits_below reached other visits' start' made e + (if is_flush_point given.interval e then n else 0)) (now_alike e (before e goes))

        pub allowed_alike : (e : ℕ) → GoesTo e → allowed_visits reached given visits start made e ≡ allowed_visits reached other visits' start' made e
        allowed_alike e goes = omega (arith, below_alike e goes, now_alike e goes, (looks_alike e goes).made, (mirrors.looks 0 start start' first).made)

        -- the turn after event e, by how both histories go on or end there
        turn_alike : (e : ℕ) → GoesTo e → visits_of_turn reached given visits e (one e) ≡ visits_of_turn reached other visits' e (two e)
        turn_alike e goes =
            same_turns (ending given e (settled reached given e (one e))) (ending other e (settled reached other e (two e))) (is_flush_point given.interval e) _ _ _ _ (ends_alike e goes) (now_alike e goes)
            (λ on.
            let next : made_after given e (settled reached given e (one e)) ≡ made_after other e (settled reached other e (two e)) = (mirrors.looks (suc e) _ _ (goes_alike e _ _ (settled_alike e _ _ (all_alike e goes)) on).next).made in
            omega (arith, next, (looks_alike e goes).made))

        pub turns_alike : (e : ℕ) → GoesTo e → visits_to reached given visits start made e ≡ visits_to reached other visits' start' made e
        turns_alike e goes = omega (arith, below_alike e goes, turn_alike e goes, (looks_alike e goes).made, (mirrors.looks 0 start start' first).made)

        -- a run that was cut off in a turn of one was so in the same turn of the other, where what was taken is the same
        cut_after_alike : (before after : Log) (old new e : ℕ) (bytes bytes' : List ℕ) → (GoesTo e → bytes ≡ bytes') → IsCutAfter reached given visits start made before after old new bytes e → IsCutAfter reached other visits' start' made before after old new bytes' e
        cut_after_alike before after old new e bytes bytes' same c = record {
          goes = goes_there e c.goes;
          rest = c.rest;
          mid = c.mid;
          left = c.left;
          stops = c.stops;
          taken = c.taken ∙ ap (λ (taken : List ℕ). with_more before (taken ++ c.rest)) (same c.goes);
          visits = subst (λ (n : ℕ). new ≤ old + n) (turns_alike e c.goes) c.visits;
        }

        -- .. by its lines
        pub cut_alike : (before after : Log) (old new : ℕ) → IsCut reached given visits start made before after old new → IsCut reached other visits' start' made before after old new
        cut_alike before after old new (inl same) = inl same
        cut_alike before after old new (inr (e, c)) = inr (e, cut_after_alike before after old new e _ _ (λ goes. ap (λ (ls : List TraceLine). trace_bytes given.format ls) (lines_alike e goes)) c)

        -- .. and by what was printed
        pub cut_said_alike : (said : S → ℕ → List ℕ) (said' : T → ℕ → List ℕ) → ((e : ℕ) (s : S) (t : T) (thread : ℕ) → M e s t → said s thread ≡ said' t thread) → (before after : Log) (old new : ℕ)
            → IsCutSaid reached given said start made visits before after old new → IsCutSaid reached other said' start' made visits' before after old new
        cut_said_alike said said' tells before after old new (inl same) = inl same
        cut_said_alike said said' tells before after old new (inr (e, c)) = inr (e, cut_after_alike before after old new e _ _ (λ goes. said_alike said said' tells e goes) c)
