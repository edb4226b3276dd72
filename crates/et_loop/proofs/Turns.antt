-- The history for which the stamps stand, turn by turn.
use Rattle.std.proofs.Common.{◌≡◌, ℕ, suc, ◌<◌, ◌≤◌, ◌==◌, ◌⊎◌, Bool, true, false, if◌then◌else◌, List, [], ◌∷◌, Contains, refl, sym, ◌∙◌, subst, inl, inr, arith}
use Rattle.std.specs.List.{list_any}
use Rattle.std.proofs.lemmas.Bool.{cases_lt}
use Rattle.et_graph.specs.Graph.{Graph, nothing_made, IsReached, IsDead, IsSoundGraph}
use Rattle.et_graph.specs.Steps.{Step, IsLegalStep, IsTie}
use Rattle.et_graph.specs.History.{Turn, graph_after, IsHistory, WasReached, stamp}
use Rattle.et_graph.specs.History.Turn.{Took, Tied, Flushed}
use Rattle.et_base.proofs.Lists.{cases_number}
use Rattle.et_graph.proofs.Sound.{made_cases, fresh_range, reached_made, stepped_sound}
use Rattle.et_graph.proofs.StampLemmas.{history_told, stamp_fresh, stamp_lost, stamp_kept, stamps_told}
use Rattle.et_graph.specs.Cleared.{IsCleared}
use Rattle.et_graph.specs.Listed.{IsGreatest}
use Rattle.et_loop.specs.Kept.{IsKeptPart, Settles}
use Rattle.et_loop.specs.Stamping.{Restamps, Passes}
use Rattle.et_loop.specs.Told.{StandsForTurns, IsToldByStamps}
use Rattle.et_loop.proofs.Wholes.{kept_itself, reached_whole, reached_kept, leads_kept, dead_whole, whole_step, legal_whole, step_kept, whole_flushed, flush_whole, flush_kept, whole_tied, tie_whole, tie_kept}
use Rattle.et_loop.proofs.Dates.{some_dead}

none_or : (b : Bool) → let n : ℕ = if b then 0 else 0 in n ≡ 0
none_or true = refl
none_or false = refl

-- the graph after a history is sound
pub history_sound : (turns : List Turn) → IsHistory turns → IsSoundGraph (graph_after turns)
history_sound turns history = (history_told turns history).sound

module _ (graphs : ℕ → Graph) where
  -- THE START
  module _ (g : Graph) (stamps : ℕ → ℕ) (fresh : List ℕ) (legal : IsLegalStep nothing_made (record { after = g; fresh = fresh; lost = [] })) (none : (o : ℕ) → stamps o ≡ 0) (at : graphs 0 ≡ g) where
    abbrev first_turns : List Turn
    first_turns = Took (record { after = g; fresh = fresh; lost = [] }) ∷ []

    first_was : (k o : ℕ) → WasReached first_turns k o → (k ≤ 0) × IsReached (graphs k) o
    first_was k o (inl h) = (omega (arith, h.0), subst (λ (j : ℕ). IsReached (graphs j) o) (sym h.0) (subst (λ (x : Graph). IsReached x o) (sym at) h.1))
    first_was k o (inr w) = absurd w

    was_first : (k o : ℕ) → (k ≤ 0) × IsReached (graphs k) o → WasReached first_turns k o
    was_first k o h = let z : k ≡ 0 = omega (arith, h.0) in inl (z, subst (λ (x : Graph). IsReached x o) at (subst (λ (j : ℕ). IsReached (graphs j) o) z h.1))

    pub told_first : IsToldByStamps graphs 0 g stamps
    told_first = (
      first_turns,
      record {
        history = (tt, legal);
        kept = kept_itself g legal.draft.gone;
        steps_so_far = refl;
        stamps_are = λ o. none o ∙ sym (none_or (list_any (λ x. x == o) fresh));
        was = λ k o. (first_was k o, was_first k o);
      },
    )

  -- A FLUSH
  pub told_flushed : (e : ℕ) (g h : Graph) (stamps : ℕ → ℕ) → IsToldByStamps graphs e g stamps → IsCleared g h → IsToldByStamps graphs e h stamps
  told_flushed e g h stamps told cleared =
      let turns = told.0 in
      let is = told.1 in
      let whole = graph_after turns in
      let sound = history_sound turns is.history in
      let dead = some_dead g in (
        Flushed (whole_flushed whole h) dead.0 ∷ turns,
        record {
          history = (is.history, flush_whole g whole h dead.0 is.kept sound cleared dead.1);
          kept = flush_kept g whole h dead.0 is.kept sound cleared dead.1;
          steps_so_far = is.steps_so_far;
          stamps_are = is.stamps_are;
          was = is.was;
        },
      )

  -- A TIE
  pub told_tied : (e : ℕ) (g h : Graph) (stamps : ℕ → ℕ) → IsToldByStamps graphs e g stamps → IsTie g h → IsToldByStamps graphs e h stamps
  told_tied e g h stamps told tie =
      let turns = told.0 in
      let is = told.1 in
      let whole = graph_after turns in
      let sound = history_sound turns is.history in (
        Tied (whole_tied whole h) ∷ turns,
        record {
          history = (is.history, tie_whole g whole h is.kept sound tie);
          kept = tie_kept g whole h is.kept sound tie;
          steps_so_far = is.steps_so_far;
          stamps_are = is.stamps_are;
          was = is.was;
        },
      )

  pub told_settled : (due : Bool) (e : ℕ) (g h : Graph) (stamps : ℕ → ℕ) → IsToldByStamps graphs e g stamps → Settles due g h → IsToldByStamps graphs e h stamps
  told_settled true e g h stamps told s = told_tied e s.0 h stamps (told_flushed e g s.0 stamps told s.1) s.2
  told_settled false e g h stamps told s = subst (λ (x : Graph). IsToldByStamps graphs e x stamps) (sym s) told

  -- A STEP
  module _ (e : ℕ) (g h : Graph) (stamps stamps' : ℕ → ℕ) (turns : List Turn) (is : StandsForTurns graphs e g stamps turns) (fresh lost : List ℕ) (legal : IsLegalStep g (record { after = h; fresh = fresh; lost = lost })) (marks : Restamps e g.made h.made lost stamps stamps') (at : graphs (suc e) ≡ h) where
    abbrev before : Graph
    before = graph_after turns

    sound_before : IsSoundGraph before
    sound_before = history_sound turns is.history

    abbrev taken : Step
    taken = whole_step g before h fresh lost is.kept sound_before legal

    taken_legal : IsLegalStep before taken
    taken_legal = legal_whole g before h fresh lost is.kept sound_before legal

    after_kept : IsKeptPart h taken.after
    after_kept = step_kept g before h fresh lost is.kept sound_before legal

    after_sound : IsSoundGraph taken.after
    after_sound = stepped_sound before taken sound_before taken_legal

    stamp_is : (o : ℕ) → stamps' o ≡ stamp (Took taken ∷ turns) o
    stamp_is o =
        let same = is.kept.made in
        let count = taken_legal.draft.made in
        elim (cases_number fresh o) [
          | inl c ↦
              let range = fresh_range before taken taken_legal o c in
              marks.fresh o (omega (arith, range.0, same)) (omega (arith, range.1, count)) ∙ (sym is.steps_so_far ∙ sym (stamp_fresh turns taken o c))
          | inr new ↦
              let side : (o ≤ g.made) ⊎ (h.made < o) = elim (cases_lt h.made o) [
                | inl past ↦ inr past
                | inr within ↦ elim (cases_lt g.made o) [
                  | inr le ↦ inl le
                  | inl lt ↦ elim (made_cases before taken taken_legal o (omega arith, within)) [
                    | inl made ↦ absurd (omega (arith, made.1, same, lt))
                    | inr c ↦ absurd (new c)
                  ]
                ]
              ] in
              elim (cases_number lost o) [
                | inl c ↦
                    let r : IsReached before o = elim (taken_legal.draft.lost_known o c) [ inl r ↦ r | inr f ↦ absurd (new f) ] in
                    let made = reached_made before sound_before o r in
                    let a : stamps' o ≡ e = marks.lost_before o (omega (arith, made.1, same)) c in
                    let b = stamp_lost turns taken o new c in
                    omega (arith, a, b, is.steps_so_far)
                | inr kept ↦ marks.kept o side kept ∙ (is.stamps_are o ∙ sym (stamp_kept turns taken o new kept))
              ]
        ]

    step_was : (k o : ℕ) → WasReached (Took taken ∷ turns) k o → (k ≤ suc e) × IsReached (graphs k) o
    step_was k o (inl w) =
        let now : k ≡ suc e = w.0 ∙ is.steps_so_far in
        (omega (arith, now), subst (λ (j : ℕ). IsReached (graphs j) o) (sym now) (subst (λ (x : Graph). IsReached x o) (sym at) (reached_kept h taken.after after_kept after_sound o w.1)))
    step_was k o (inr w) = let b = (is.was k o).0 w in (omega (arith, b.0), b.1)

    was_step : (k o : ℕ) → (k ≤ suc e) × IsReached (graphs k) o → WasReached (Took taken ∷ turns) k o
    was_step k o w =
        elim (cases_lt e k) [
          | inr le ↦ inr ((is.was k o).1 (le, w.1))
          | inl lt ↦
              let now : k ≡ suc e = omega (arith, w.0, lt) in
              inl (now ∙ sym is.steps_so_far, reached_whole h taken.after after_kept o (subst (λ (x : Graph). IsReached x o) at (subst (λ (j : ℕ). IsReached (graphs j) o) now w.1)))
        ]

    pub told_step : IsToldByStamps graphs (suc e) h stamps'
    told_step = (
      Took taken ∷ turns,
      record {
        history = (is.history, taken_legal);
        kept = after_kept;
        steps_so_far = omega (arith, is.steps_so_far);
        stamps_are = stamp_is;
        was = λ k o. (step_was k o, was_step k o);
      },
    )

  -- a flush where it is due, and then a step
  pub told_passed : (due : Bool) (e : ℕ) (g h : Graph) (stamps stamps' : ℕ → ℕ) → IsToldByStamps graphs e g stamps → Passes due e g h stamps stamps' → graphs (suc e) ≡ h → IsToldByStamps graphs (suc e) h stamps'
  told_passed due e g h stamps stamps' told p at =
      let now = told_settled due e g p.0 stamps told p.1 in
      told_step e p.0 h stamps stamps' now.0 now.1 p.2.1.0 p.2.0 p.2.1.1 p.2.2 at

  -- WHAT THE STAMPS TELL
  -- of each dead object the greatest stamp is the last event after which it was reached
  pub told_dates : (e : ℕ) (g : Graph) (stamps : ℕ → ℕ) → IsToldByStamps graphs e g stamps → (o : ℕ) → IsDead g o
      → (t : ℕ) × (t ≤ e) × IsReached (graphs t) o × ((k : ℕ) → k ≤ e → IsReached (graphs k) o → k ≤ t) × IsGreatest g stamps o t
  told_dates e g stamps told o dead =
      let turns = told.0 in
      let is = told.1 in
      let whole = graph_after turns in
      let sound = history_sound turns is.history in
      let gone = is.kept.gone in
      let d = dead_whole g whole is.kept sound o dead in
      let law = stamps_told turns (history_told turns is.history) in
      let last = law.last o d.0 in
      let greatest = law.held o last.0 d last.1 in
      let reached = (is.was last.0 o).0 last.1.reached in
      let source = greatest.source in
      let held : ¬ Contains g.gone source.0 = λ c. source.1 (subst (λ (os : List ℕ). Contains os source.0) gone c) in (
        last.0,
        reached.0,
        reached.1,
        (λ k le r. last.1.latest k ((is.was k o).1 (le, r))),
        record {
          source = (source.0, held, (leads_kept g whole is.kept sound source.0 o held).1 source.2, is.stamps_are source.0 ∙ source.3);
          greatest = λ u out l. let b = greatest.greatest u (λ c. out (subst (λ (os : List ℕ). Contains os u) (sym gone) c)) ((leads_kept g whole is.kept sound u o out).0 l) in omega (arith, b, is.stamps_are u);
        },
      )
