-- The law of stamps, by induction over the turns.
use Rattle.std.proofs.Common.{◌≡◌, ℕ, ◌+◌, ◌-◌, ◌<◌, ◌≤◌, ◌==◌, ◌⊎◌, cond, List, [], ◌∷◌, Contains, refl, sym, ◌∙◌, subst, inl, inr, arith}
use Rattle.std.specs.List.{list_any}
use Rattle.std.proofs.lemmas.Bool.{cases_Bool, cond-true, cond-false}
use Rattle.et_graph.specs.Graph.{Graph, IsMade, IsWalk, LeadsTo, IsReached, IsSoundGraph}
use Rattle.et_graph.specs.Steps.{Step, IsLegalStep, IsTie, IsFlush}
use Rattle.et_graph.specs.History.{Turn, graph_after, IsHistory, steps, WasReached, IsLastStep, stamp, StampsTell}
use Rattle.et_graph.specs.History.Turn.{Took, Tied, Flushed}
use Rattle.et_base.proofs.Lists.{Contains-none, cases_number, cases_pair, has_contains, contains_has}
use Rattle.et_graph.proofs.Walks.{leads_first, along, reached_on, cases_reached, walk_more}
use Rattle.et_graph.proofs.Sound.{gone_back, gone_on, nothing_sound, reached_held, leads_made, made_cases, stepped_pair, stepped_sound, flushed_gone, flushed_sound, flush_made, flush_reached, reached_flush}
use Rattle.et_graph.proofs.Ties.{tied_pair, leads_tied, tie_reached, reached_tie, tie_made, tie_gone, gone_tie, tied_sound}

pub was_before : (turns : List Turn) (e o : ℕ) → WasReached turns e o → e < steps turns
was_before (Took s ∷ turns) e o (inl h) = omega (arith, h.0)
was_before (Took s ∷ turns) e o (inr w) = omega (arith, was_before turns e o w)
was_before (Tied g ∷ turns) e o w = was_before turns e o w
was_before (Flushed g dead ∷ turns) e o w = was_before turns e o w
was_before [] e o w = absurd w

-- The stamp after a step.
pub stamp_fresh : (turns : List Turn) (s : Step) (o : ℕ) → Contains s.fresh o → stamp (Took s ∷ turns) o ≡ steps turns
stamp_fresh turns s o c = cond-true (list_any (λ x. x == o) s.fresh) _ _ (contains_has s.fresh o c)

pub stamp_old : (turns : List Turn) (s : Step) (o : ℕ) → ¬ Contains s.fresh o → stamp (Took s ∷ turns) o ≡ cond (list_any (λ x. x == o) s.lost) (steps turns - 1) (stamp turns o)
stamp_old turns s o new =
    elim (cases_Bool (list_any (λ x. x == o) s.fresh)) [
      | inl t ↦ absurd (new (has_contains s.fresh o t))
      | inr f ↦ cond-false (list_any (λ x. x == o) s.fresh) _ _ f
    ]

pub stamp_lost : (turns : List Turn) (s : Step) (o : ℕ) → ¬ Contains s.fresh o → Contains s.lost o → stamp (Took s ∷ turns) o ≡ steps turns - 1
stamp_lost turns s o new c =
    stamp_old turns s o new ∙ cond-true (list_any (λ x. x == o) s.lost) _ _ (contains_has s.lost o c)

pub stamp_kept : (turns : List Turn) (s : Step) (o : ℕ) → ¬ Contains s.fresh o → ¬ Contains s.lost o → stamp (Took s ∷ turns) o ≡ stamp turns o
stamp_kept turns s o new kept =
    stamp_old turns s o new ∙ elim (cases_Bool (list_any (λ x. x == o) s.lost)) [
      | inl t ↦ absurd (kept (has_contains s.lost o t))
      | inr f ↦ cond-false (list_any (λ x. x == o) s.lost) _ _ f
    ]

-- a step e or a later one after which o is reached
abbrev pub ReachedFrom : List Turn → ℕ → ℕ → Type 0
ReachedFrom turns e o = (f : ℕ) × (e ≤ f) × WasReached turns f o

-- u leads to o now, its stamp is no less than any step after which o was reached, and it is gone only where o is
pub record IsSource (turns : List Turn) (o u : ℕ) : Type 0 where
  pub leads : LeadsTo (graph_after turns) u o
  pub covers : (e : ℕ) → WasReached turns e o → e ≤ stamp turns u
  pub held : ¬ Contains (graph_after turns).gone o → ¬ Contains (graph_after turns).gone u

-- The invariant of the induction.
pub record IsTold (turns : List Turn) : Type 0 where
  pub sound : IsSoundGraph (graph_after turns)
  -- each object was reached after the step of its stamp
  pub stamped : (o : ℕ) → IsMade (graph_after turns) o → WasReached turns (stamp turns o) o
  -- what is reached now was reached after the newest step
  pub now : (o : ℕ) → IsReached (graph_after turns) o → (e : ℕ) × (e + 1 ≡ steps turns) × WasReached turns e o
  -- the target of a pair was reached no earlier than its beginning
  pub later : (u x : ℕ) → Contains (graph_after turns).pairs (u, x) → (e : ℕ) → WasReached turns e u → ReachedFrom turns e x
  -- an object that isn't reached has a source
  pub source : (o : ℕ) → IsMade (graph_after turns) o → ¬ IsReached (graph_after turns) o → (u : ℕ) × IsSource turns o u

pub nothing_told : IsTold []
nothing_told = record {
  sound = nothing_sound;
  now = λ o r. absurd (Contains-none r.0 r.1);
  stamped = λ o made. absurd (omega (arith, made.0, made.1));
  later = λ u x c. absurd (Contains-none (u, x) c);
  source = λ o made. absurd (omega (arith, made.0, made.1));
}

module _ (turns : List Turn) (s : Step) (told : IsTold turns) (legal : IsLegalStep (graph_after turns) s) where
  step_stamped : (o : ℕ) → IsMade s.after o → WasReached (Took s ∷ turns) (stamp (Took s ∷ turns) o) o
  step_stamped o made =
      elim (cases_number s.fresh o) [
        | inl c ↦ inl (stamp_fresh turns s o c, legal.fresh_reached o c)
        | inr new ↦ elim (cases_number s.lost o) [
          | inl c ↦
              let now = told.now o (elim (legal.draft.lost_known o c) [ inl r ↦ r | inr d ↦ absurd (new d) ]) in
              let same : now.0 ≡ stamp (Took s ∷ turns) o = omega (arith, now.1, stamp_lost turns s o new c) in
              inr (subst (λ e. WasReached turns e o) same now.2)
          | inr kept ↦
              elim (made_cases (graph_after turns) s legal o made) [
                | inl before ↦ inr (subst (λ e. WasReached turns e o) (sym (stamp_kept turns s o new kept)) (told.stamped o before))
                | inr c ↦ absurd (new c)
              ]
        ]
      ]

  step_later : (u x : ℕ) → Contains s.after.pairs (u, x) → (e : ℕ) → WasReached (Took s ∷ turns) e u → ReachedFrom (Took s ∷ turns) e x
  step_later u x c e (inl h) =
      (steps turns, omega (arith, h.0), inl (refl, reached_on s.after u x h.1 (x ∷ [], (c, refl))))
  step_later u x c e (inr w) =
      let before : e < steps turns = was_before turns e u w in
      elim (stepped_pair (graph_after turns) s u x c) [
        | inl d ↦ let f = told.later u x d e w in (f.0, f.1, inr f.2)
        | inr added ↦ elim ((legal.draft.pairs_known u x added).1) [
          | inl r ↦ let now = told.now x r in (now.0, omega (arith, before, now.1), inr now.2)
          | inr new ↦ (steps turns, omega (arith, before), inl (refl, legal.fresh_reached x new))
        ]
      ]

  -- a walk to an object that wasn't reached stays
  walk_stays : (u : ℕ) (walk : List ℕ) (o : ℕ) → ¬ IsReached (graph_after turns) o → IsWalk (graph_after turns).pairs u walk o → IsWalk s.after.pairs u walk o
  walk_stays u [] o out e = e
  walk_stays u (x ∷ walk) o out w = (
    elim (cases_pair s.after.pairs (u, x)) [
      | inl c ↦ c
      | inr cut ↦ absurd (out (reached_on (graph_after turns) u o (legal.draft.pairs_from_reached u x (w.0, cut)) (x ∷ walk, w)))
    ],
    walk_stays x walk o out w.1,
  )

  -- a walk stays, or a lost object on it still leads on
  walk_broken : (u : ℕ) (walk : List ℕ) (o : ℕ) → IsWalk (graph_after turns).pairs u walk o → LeadsTo s.after u o ⊎ ((x : ℕ) × Contains s.lost x × LeadsTo s.after x o)
  walk_broken u [] o e = inl ([], e)
  walk_broken u (x ∷ walk) o w =
      elim (walk_broken x walk o w.1) [
        | inr lost ↦ inr lost
        | inl rest ↦ elim (cases_pair s.after.pairs (u, x)) [
          | inl c ↦ inl (leads_first s.after.pairs u x o c rest)
          | inr cut ↦ inr (x, legal.draft.pairs_lost u x (w.0, cut), rest)
        ]
      ]

  -- what is lost covers all steps before this one
  lost_source : (o x : ℕ) → ¬ IsReached s.after o → Contains s.lost x → LeadsTo s.after x o → IsSource (Took s ∷ turns) o x
  lost_source o x out c l =
      let r : IsReached (graph_after turns) x = elim (legal.draft.lost_known x c) [ inl r ↦ r | inr d ↦ absurd (out (reached_on s.after x o (legal.fresh_reached x d) l)) ] in
      record {
        leads = l;
        covers = λ e. elim [
          | inl h ↦ absurd (out h.1)
          | inr w ↦
              let new : ¬ Contains s.fresh x = λ d. out (reached_on s.after x o (legal.fresh_reached x d) l) in
              omega (arith, was_before turns e o w, stamp_lost turns s x new c)
        ];
        held = λ _ gone. reached_held (graph_after turns) told.sound x r (gone_back (graph_after turns) s legal x gone);
      }

  -- the source of an object that wasn't reached before stays
  kept_source : (o u : ℕ) → ¬ IsReached (graph_after turns) o → ¬ IsReached s.after o → IsSource turns o u → IsSource (Took s ∷ turns) o u
  kept_source o u before out source =
      let l : LeadsTo s.after u o = (source.leads.0, walk_stays u source.leads.0 o before source.leads.1) in
      let new : ¬ Contains s.fresh u = λ d. out (reached_on s.after u o (legal.fresh_reached u d) l) in
      let kept : ¬ Contains s.lost u = λ d. before (reached_on (graph_after turns) u o (elim (legal.draft.lost_known u d) [ inl r ↦ r | inr f ↦ absurd (new f) ]) source.leads) in
      record {
        leads = l;
        covers = λ e. elim [
          | inl h ↦ absurd (out h.1)
          | inr w ↦ omega (arith, source.covers e w, stamp_kept turns s u new kept)
        ];
        held = λ held gone. source.held (λ d. held (gone_on (graph_after turns) s legal o d)) (gone_back (graph_after turns) s legal u gone);
      }

  step_source : (o : ℕ) → IsMade s.after o → ¬ IsReached s.after o → (u : ℕ) × IsSource (Took s ∷ turns) o u
  step_source o made out =
      elim (cases_reached (graph_after turns) o) [
        | inl r ↦ elim (walk_broken r.0 r.2.0 o r.2.1) [
          | inl l ↦ elim (cases_number s.after.roots r.0) [
            | inl c ↦ absurd (out (r.0, c, l))
            | inr gone ↦ (r.0, lost_source o r.0 out (legal.draft.roots_lost r.0 r.1 gone) l)
          ]
          | inr lost ↦ (lost.0, lost_source o lost.0 out lost.1 lost.2)
        ]
        | inr before ↦ elim (made_cases (graph_after turns) s legal o made) [
          | inl was ↦ let u = told.source o was before in (u.0, kept_source o u.0 before out u.1)
          | inr new ↦ absurd (out (legal.fresh_reached o new))
        ]
      ]

  pub step_told : IsTold (Took s ∷ turns)
  step_told = record {
    sound = stepped_sound (graph_after turns) s told.sound legal;
    stamped = step_stamped;
    now = λ o r. (steps turns, refl, inl (refl, r));
    later = step_later;
    source = step_source;
  }

pub flush_told : (turns : List Turn) (g : Graph) (dead : List ℕ) → IsTold turns → IsFlush (graph_after turns) dead g → IsTold (Flushed g dead ∷ turns)
flush_told turns g dead told is = record {
  sound = flushed_sound (graph_after turns) g dead told.sound is;
  stamped = λ o made. told.stamped o (flush_made (graph_after turns) g dead is o made);
  now = λ o r. told.now o (flush_reached (graph_after turns) g dead is o r);
  later = λ u x c. told.later u x ((is.pairs u x).0 c);
  source = λ o made out.
      let was : IsMade (graph_after turns) o = flush_made (graph_after turns) g dead is o made in
      let before : ¬ IsReached (graph_after turns) o = λ r. out (reached_flush (graph_after turns) g dead is o r) in
      let u = told.source o was before in (
        u.0,
        record {
          leads = (u.1.leads.0, walk_more (graph_after turns).pairs g.pairs (λ v x c. (is.pairs v x).1 c) u.0 u.1.leads.0 o u.1.leads.1);
          covers = u.1.covers;
          held = λ held. absurd (held (flushed_gone (graph_after turns) g dead is o was before));
        },
      );
}

-- A tie's pairs end at objects that are reached now, so they were after the newest step, and where such a pair begins
-- nothing was reached later. What is reached stays the same; what isn't keeps its source, since each walk stays.
module _ (turns : List Turn) (h : Graph) (told : IsTold turns) (tie : IsTie (graph_after turns) h) where
  tie_later : (u x : ℕ) → Contains h.pairs (u, x) → (e : ℕ) → WasReached turns e u → ReachedFrom turns e x
  tie_later u x c e w =
      elim (tied_pair (graph_after turns) h tie u x c) [
        | inl d ↦ told.later u x d e w
        | inr both ↦ let now = told.now x both.1 in (now.0, omega (arith, was_before turns e u w, now.1), now.2)
      ]

  tie_source : (o : ℕ) → IsMade h o → ¬ IsReached h o → (u : ℕ) × IsSource (Tied h ∷ turns) o u
  tie_source o made out =
      let u = told.source o (tie_made (graph_after turns) h tie o made) (λ r. out (reached_tie (graph_after turns) h tie o r)) in (
        u.0,
        record {
          leads = leads_tied (graph_after turns) h tie u.0 o u.1.leads;
          covers = u.1.covers;
          held = λ held gone. u.1.held (λ d. held (gone_tie (graph_after turns) h tie o d)) (tie_gone (graph_after turns) h tie u.0 gone);
        },
      )

  pub tie_told : IsTold (Tied h ∷ turns)
  tie_told = record {
    sound = tied_sound (graph_after turns) h tie told.sound;
    stamped = λ o made. told.stamped o (tie_made (graph_after turns) h tie o made);
    now = λ o r. told.now o (tie_reached (graph_after turns) h tie o r);
    later = tie_later;
    source = tie_source;
  }

pub history_told : (turns : List Turn) → IsHistory turns → IsTold turns
history_told [] h = nothing_told
history_told (Took s ∷ turns) h = step_told turns s (history_told turns h.0) h.1
history_told (Tied g ∷ turns) h = tie_told turns g (history_told turns h.0) h.1
history_told (Flushed g dead ∷ turns) h = flush_told turns g dead (history_told turns h.0) h.1

module _ (turns : List Turn) (told : IsTold turns) where
  -- what u leads to was reached when u was, or later
  leads_later : (u o e : ℕ) → LeadsTo (graph_after turns) u o → WasReached turns e u → ReachedFrom turns e o
  leads_later u o e l w =
      along (ReachedFrom turns e) (graph_after turns).pairs
      (λ v x c f. let g = told.later v x c f.0 f.2 in (g.0, omega (arith, f.1, g.1), g.2))
      u l.0 o l.1 (e, omega arith, w)

  last_told : (o : ℕ) → IsMade (graph_after turns) o → (e : ℕ) × IsLastStep turns o e × (stamp turns o ≤ e)
  last_told o made =
      elim (cases_reached (graph_after turns) o) [
        | inl r ↦
            let now = told.now o r in
            let latest : (f : ℕ) → WasReached turns f o → f ≤ now.0 = λ f w. omega (arith, was_before turns f o w, now.1) in
            (now.0, record { reached = now.2; latest = latest }, latest (stamp turns o) (told.stamped o made))
        | inr out ↦
            let source = told.source o made out in
            let u : ℕ = source.0 in
            let f = leads_later u o (stamp turns u) source.1.leads (told.stamped u (leads_made (graph_after turns) told.sound u o source.1.leads made)) in
            let latest : (e : ℕ) → WasReached turns e o → e ≤ f.0 = λ e w. omega (arith, source.1.covers e w, f.1) in
            (f.0, record { reached = f.2; latest = latest }, latest (stamp turns o) (told.stamped o made))
      ]

  greatest_told : (o e u : ℕ) → IsMade (graph_after turns) o → IsLastStep turns o e → LeadsTo (graph_after turns) u o → stamp turns u ≤ e
  greatest_told o e u made last l =
      let f = leads_later u o (stamp turns u) l (told.stamped u (leads_made (graph_after turns) told.sound u o l made)) in
      omega (arith, f.1, last.latest f.0 f.2)

  source_told : (o e : ℕ) → IsMade (graph_after turns) o → ¬ IsReached (graph_after turns) o → IsLastStep turns o e → (u : ℕ) × IsSource turns o u × (stamp turns u ≡ e)
  source_told o e made out last =
      let source = told.source o made out in
      (source.0, source.1, omega (arith, source.1.covers e last.reached, greatest_told o e source.0 made last source.1.leads))

  pub stamps_told : StampsTell turns
  stamps_told = record {
    last = last_told;
    unreached = λ o e made out last.
        let u = source_told o e made out last in
        record {
          source = (u.0, tt, u.1.leads, u.2);
          greatest = λ v _ l. greatest_told o e v made last l;
        };
    held = λ o e dead last.
        let u = source_told o e dead.0 dead.1 last in
        record {
          source = (u.0, u.1.held dead.2, u.1.leads, u.2);
          greatest = λ v _ l. greatest_told o e v dead.0 last l;
        };
  }
