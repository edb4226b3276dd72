-- Books and the histories for which they stand.
use Rattle.std.proofs.Common.{◌≡◌, ℕ, ◌+◌, ◌-◌, ◌<◌, ◌≤◌, ◌||◌, ◌↔◌, ◌⊎◌, Bool, true, false, nat_lt, List, ◌∷◌, ◌++◌, length, get_or, replicate, map, Contains, sym, ap, ◌∙◌, subst, inl, inr, arith}
use Rattle.std.proofs.lemmas.Bool.{cases_Bool, or_cases, or_left, or_right, ltb-true, lt-ltb, both_ways}
use Rattle.std.proofs.lemmas.List.{get_or_append_left, get_or-append-add, get_or-replicate}
use Rattle.et_graph.specs.Graph.{Graph, IsMade, LeadsTo, IsReached, AreDead, IsSoundGraph}
use Rattle.et_graph.specs.Steps.{Step, IsLegalStep, IsFlush}
use Rattle.et_graph.specs.Edit.{Edit, step_of, with_pairs}
use Rattle.et_graph.specs.History.{Turn, graph_after, IsHistory, steps, IsLastStep, stamp, IsGreatestStamp, StampsTell, AreDeaths}
use Rattle.et_graph.specs.History.Turn.{Took}
use Rattle.et_graph.specs.Times.{set_each, ArePositive, Carries, AreSettled, AreWithin, ArePairsAmong}
use Rattle.et_graph.specs.Listing.{listed, flagged}
use Rattle.et_graph.specs.Book.{Book, StandsFor}
use Rattle.et_graph.specs.Taken.{with_tie}
use Rattle.et_base.proofs.Lists.{cases_number}
use Rattle.et_graph.proofs.Walks.{walk_more}
use Rattle.et_graph.proofs.Deaths.{deaths_dead}
use Rattle.et_graph.proofs.Sound.{reached_made, leads_made, made_cases, fresh_range}
use Rattle.et_graph.proofs.Ties.{pairs_tie}
use Rattle.et_graph.proofs.StampLemmas.{was_before, stamp_fresh, stamp_lost, stamp_kept, IsTold, history_told, stamps_told}
use Rattle.et_graph.proofs.Carrying.{length-set_each, set_each_in, set_each_out, carried_greatest}
use Rattle.et_graph.proofs.Listing.{flagged_is, is_flagged, listed_is, is_listed, listed_rising}

-- what a step leaves in a book
pub record IsStepped (old new : Book) (e : Edit) : Type 0 where
  pub graph : new.graph ≡ (step_of old.graph e).after
  pub long : length old.stamps ≡ old.graph.made
  pub stamps : new.stamps ≡ set_each e.lost (old.steps - 1) old.stamps ++ replicate (length e.fresh) old.steps
  pub steps_more : new.steps ≡ old.steps + 1

-- what is lost has a number from 1 on
pub lost_positive : (g : Graph) (s : Step) → IsSoundGraph g → IsLegalStep g s → ArePositive s.lost
lost_positive g s sound legal o c =
    elim (legal.draft.lost_known o c) [
      | inl r ↦ (reached_made g sound o r).0
      | inr f ↦ omega (arith, (fresh_range g s legal o f).0)
    ]

stepped_stamp : (turns : List Turn) (s : Step) (stamps : List ℕ) (o : ℕ) → IsHistory turns → IsLegalStep (graph_after turns) s → length stamps ≡ (graph_after turns).made → ((u : ℕ) → IsMade (graph_after turns) u → get_or stamps (u - 1) 0 ≡ stamp turns u) → IsMade s.after o → get_or (set_each s.lost (steps turns - 1) stamps ++ replicate (length s.fresh) (steps turns)) (o - 1) 0 ≡ stamp (Took s ∷ turns) o
stepped_stamp turns s stamps o history legal long known made =
    let g = graph_after turns in
    let front : List ℕ = set_each s.lost (steps turns - 1) stamps in
    let front_long : length front ≡ length stamps = length-set_each s.lost (steps turns - 1) stamps in
    let told : IsTold turns = history_told turns history in
    let positive : ArePositive s.lost = lost_positive g s told.sound legal in
    elim (cases_number s.fresh o) [
      | inl c ↦
          let range = fresh_range g s legal o c in
          let place : ℕ = o - 1 - length front in
          let at : o - 1 ≡ length front + place = omega (arith, range.0) in
          let in_range : place < length s.fresh = omega (arith, range.1, range.0, legal.draft.made) in
          ap (λ (j : ℕ). get_or (front ++ replicate (length s.fresh) (steps turns)) j 0) at
          ∙ get_or-append-add front (replicate (length s.fresh) (steps turns)) place 0
          ∙ get_or-replicate (length s.fresh) place (steps turns) 0 in_range
          ∙ sym (stamp_fresh turns s o c)
      | inr new ↦ elim (made_cases g s legal o made) [
        | inr c ↦ absurd (new c)
        | inl before ↦
            let in_stamps : o - 1 < length stamps = omega (arith, before.0, before.1) in
            let in_front : o - 1 < length front = omega arith in
            get_or_append_left front (replicate (length s.fresh) (steps turns)) 0 (o - 1) in_front
            ∙ elim (cases_number s.lost o) [
              | inl c ↦ set_each_in s.lost (steps turns - 1) stamps o positive before.0 in_stamps c ∙ sym (stamp_lost turns s o new c)
              | inr kept ↦ set_each_out s.lost (steps turns - 1) stamps o positive before.0 kept ∙ known o before ∙ sym (stamp_kept turns s o new kept)
            ]
      ]
    ]

-- a book that stands for a history stands for the longer one after a step
pub step_stands : (old new : Book) (e : Edit) (turns : List Turn) → IsLegalStep old.graph (step_of old.graph e) → IsStepped old new e → StandsFor old turns → StandsFor new (Took (step_of (graph_after turns) e) ∷ turns)
step_stands old new e turns legal stepped stands =
    let g = graph_after turns in
    let here : IsLegalStep g (step_of g e) = subst (λ (h : Graph). IsLegalStep h (step_of h e)) stands.graph legal in
    let long : length old.stamps ≡ g.made = stepped.long ∙ ap (λ (h : Graph). h.made) stands.graph in
    let graph : new.graph ≡ (step_of g e).after = stepped.graph ∙ ap (λ (h : Graph). (step_of h e).after) stands.graph in
    let known : (u : ℕ) → IsMade g u → get_or old.stamps (u - 1) 0 ≡ stamp turns u = λ u made. stands.stamps u (subst (λ (h : Graph). IsMade h u) (sym stands.graph) made) in
    record {
      history = (stands.history, here);
      graph = graph;
      stamps = λ o made.
          ap (λ (xs : List ℕ). get_or xs (o - 1) 0) (stepped.stamps ∙ ap (λ (n : ℕ). set_each e.lost (n - 1) old.stamps ++ replicate (length e.fresh) n) stands.steps_so_far)
          ∙ stepped_stamp turns (step_of g e) old.stamps o stands.history here long known (subst (λ (h : Graph). IsMade h o) graph made);
      steps_so_far = stepped.steps_more ∙ ap (λ (n : ℕ). n + 1) stands.steps_so_far;
    }

-- and for the longer one after a tie
pub tie_stands : (old : Book) (turns : List Turn) (tied : List (ℕ × ℕ)) → ArePairsAmong (IsReached old.graph) tied → StandsFor old turns → StandsFor (record old { graph = with_pairs old.graph tied }) (with_tie turns tied)
tie_stands old turns tied among stands = record {
  history = (stands.history, pairs_tie (graph_after turns) tied (subst (λ (h : Graph). ArePairsAmong (IsReached h) tied) stands.graph among));
  graph = ap (λ (h : Graph). with_pairs h tied) stands.graph;
  stamps = stands.stamps;
  steps_so_far = stands.steps_so_far;
}

-- A flush: the times are the stamps, with the number of the next step at each root, carried along the pairs.
module _ (turns : List Turn) (history : IsHistory turns) (stamps times : List ℕ)
    (long : length stamps ≡ (graph_after turns).made)
    (known : (o : ℕ) → IsMade (graph_after turns) o → get_or stamps (o - 1) 0 ≡ stamp turns o)
    (carries : Carries (graph_after turns).pairs (set_each (graph_after turns).roots (steps turns) stamps) times)
    (settled : AreSettled (graph_after turns).pairs times) where
  roots_within : AreWithin (length stamps) (graph_after turns).roots
  roots_within r c = let m = (history_told turns history).sound.roots_made r c in (m.0, omega (arith, m.1, long))

  roots_positive : ArePositive (graph_after turns).roots
  roots_positive r c = (roots_within r c).0

  stamp_before : (o : ℕ) → IsMade (graph_after turns) o → stamp turns o < steps turns
  stamp_before o made = was_before turns (stamp turns o) o ((history_told turns history).stamped o made)

  start_other : (u : ℕ) → IsMade (graph_after turns) u → ¬ Contains (graph_after turns).roots u → get_or (set_each (graph_after turns).roots (steps turns) stamps) (u - 1) 0 ≡ stamp turns u
  start_other u made out = set_each_out (graph_after turns).roots (steps turns) stamps u roots_positive made.0 out ∙ known u made

  pub time_reached : (o : ℕ) → IsReached (graph_after turns) o → steps turns ≤ get_or times (o - 1) 0
  time_reached o r =
      let within = roots_within r.0 r.1 in
      let start = set_each_in (graph_after turns).roots (steps turns) stamps r.0 roots_positive within.0 (omega (arith, within)) r.1 in
      omega (arith, start, carried_greatest (graph_after turns).pairs (set_each (graph_after turns).roots (steps turns) stamps) times carries settled r.0 o r.2)

  pub time_greatest : (o : ℕ) → IsMade (graph_after turns) o → ¬ IsReached (graph_after turns) o → IsGreatestStamp turns (λ u. Unit {0}) o (get_or times (o - 1) 0)
  time_greatest o made out =
      let from = carries.carried o made.0 in
      let no_root : (u : ℕ) → LeadsTo (graph_after turns) u o → ¬ Contains (graph_after turns).roots u = λ u l c. out (u, c, l) in
      let is_made : (u : ℕ) → LeadsTo (graph_after turns) u o → IsMade (graph_after turns) u = λ u l. leads_made (graph_after turns) (history_told turns history).sound u o l made in
      record {
        source = (from.0, tt, from.2, sym (start_other from.0 (is_made from.0 from.2) (no_root from.0 from.2)) ∙ sym from.3);
        greatest = λ u _ l.
            let start = start_other u (is_made u l) (no_root u l) in
            omega (arith, start, carried_greatest (graph_after turns).pairs (set_each (graph_after turns).roots (steps turns) stamps) times carries settled u o l);
      }

  pub time_last : (o : ℕ) → IsMade (graph_after turns) o → ¬ IsReached (graph_after turns) o → IsLastStep turns o (get_or times (o - 1) 0)
  time_last o made out =
      let tell : StampsTell turns = stamps_told turns (history_told turns history) in
      let last = tell.last o made in
      let a = tell.unreached o last.0 made out last.1 in
      let b = time_greatest o made out in
      let same : last.0 ≡ get_or times (o - 1) 0 =
      omega (arith, a.source.3, b.source.3, a.greatest b.source.0 tt b.source.2, b.greatest a.source.0 tt a.source.2) in
      subst (λ (e : ℕ). IsLastStep turns o e) same last.1

  pub time_unreached : (o : ℕ) → IsMade (graph_after turns) o → ¬ IsReached (graph_after turns) o → get_or times (o - 1) 0 < steps turns
  time_unreached o made out = was_before turns (get_or times (o - 1) 0) o (time_last o made out).reached

  -- with the flags of the gone objects
  module _ (gone : List Bool) (gone_long : length gone ≡ length times)
      (flags : (o : ℕ) → Contains (flagged 1 gone) o ↔ Contains (graph_after turns).gone o) where
    made_from : (o place : ℕ) → o ≡ 1 + place → place < length times → IsMade (graph_after turns) o
    made_from o place e lt = (omega arith, omega (arith, carries.kept_length, length-set_each (graph_after turns).roots (steps turns) stamps))

    made_place : (o : ℕ) → IsMade (graph_after turns) o → o - 1 < length times
    made_place o made = omega (arith, made.0, made.1, carries.kept_length, length-set_each (graph_after turns).roots (steps turns) stamps)

    flag_off : (o : ℕ) → IsMade (graph_after turns) o → ¬ Contains (graph_after turns).gone o → get_or gone (o - 1) false ≡ false
    flag_off o made out =
        elim (cases_Bool (get_or gone (o - 1) false)) [
          | inr f ↦ f
          | inl t ↦ absurd (out ((flags o).0 (is_flagged 1 gone o (o - 1) (omega (arith, made.0)) (omega (arith, made_place o made)) t)))
        ]

    flag_held : (o place : ℕ) → o ≡ 1 + place → get_or gone place false ≡ false → ¬ Contains (graph_after turns).gone o
    flag_held o place e off c =
        let r = flagged_is 1 gone o ((flags o).1 c) in
        let same : r.place ≡ place = omega (arith, r.object) in
        both_ways (get_or gone place false) off (subst (λ (j : ℕ). get_or gone j false ≡ true) same r.flag)

    pub listed_deaths : AreDeaths turns (listed 1 (steps turns) times gone)
    listed_deaths = record {
      rising = listed_rising 1 (steps turns) times gone;
      exact = λ o e. (
        (λ c.
            let r = listed_is 1 (steps turns) times gone o e c in
            let made : IsMade (graph_after turns) o = made_from o r.place r.object r.within in
            let place : o - 1 ≡ r.place = omega (arith, r.object) in
            let out : ¬ IsReached (graph_after turns) o = λ reached. absurd (omega (arith, time_reached o reached, r.below, ap (λ (j : ℕ). get_or times j 0) place)) in
            let time : get_or times (o - 1) 0 ≡ e = ap (λ (j : ℕ). get_or times j 0) place ∙ sym r.time in
            ((made, out, flag_held o r.place r.object r.held), subst (λ (t : ℕ). IsLastStep turns o t) time (time_last o made out))),
        (λ h.
            let made = h.0.0 in
            let last = time_last o made h.0.1 in
            let same : get_or times (o - 1) 0 ≡ e = omega (arith, last.latest e h.1.reached, h.1.latest (get_or times (o - 1) 0) last.reached) in
            subst (λ (t : ℕ). Contains (listed 1 (steps turns) times gone) (o, t)) same
            (is_listed 1 (steps turns) times gone o (o - 1) (omega (arith, made.0)) (made_place o made) gone_long (time_unreached o made h.0.1) (flag_off o made h.0.2))),
      );
    }

    -- the flags after the flush
    pub marked_gone : (after : List Bool) → length after ≡ length gone → ((k : ℕ) → k < length after → get_or after k false ≡ (get_or gone k false || nat_lt (get_or times k 0) (steps turns)))
        → (o : ℕ) → Contains (flagged 1 after) o ↔ (Contains (graph_after turns).gone o ⊎ Contains (map (λ (d : ℕ × ℕ). d.0) (listed 1 (steps turns) times gone)) o)
    marked_gone after after_long marked o =
        let dead = map (λ (d : ℕ × ℕ). d.0) (listed 1 (steps turns) times gone) in
        let are : AreDead (graph_after turns) dead = deaths_dead turns (listed 1 (steps turns) times gone) history listed_deaths in (
          (λ c.
              let r = flagged_is 1 after o c in
              elim (cases_number (graph_after turns).gone o) [
                | inl d ↦ inl d
                | inr held ↦
                    elim (or_cases (get_or gone r.place false) (nat_lt (get_or times r.place 0) (steps turns)) (sym (marked r.place r.within) ∙ r.flag)) [
                      | inl t ↦ absurd (held ((flags o).0 (is_flagged 1 gone o r.place r.object (omega (arith, r.within)) t)))
                      | inr t ↦
                          let below = ltb-true (get_or times r.place 0) (steps turns) t in
                          let made : IsMade (graph_after turns) o = made_from o r.place r.object (omega (arith, r.within)) in
                          let place : o - 1 ≡ r.place = omega (arith, r.object) in
                          let out : ¬ IsReached (graph_after turns) o = λ reached. absurd (omega (arith, time_reached o reached, below, ap (λ (j : ℕ). get_or times j 0) place)) in
                          inr ((are.exact o).1 (made, out, held))
                    ]
              ]),
          elim [
            | inl d ↦
                let r = flagged_is 1 gone o ((flags o).1 d) in
                is_flagged 1 after o r.place r.object (omega (arith, r.within))
                (marked r.place (omega (arith, r.within)) ∙ or_left (get_or gone r.place false) (nat_lt (get_or times r.place 0) (steps turns)) r.flag)
            | inr d ↦
                let h = (are.exact o).0 d in
                let within : o - 1 < length after = omega (arith, made_place o h.0) in
                is_flagged 1 after o (o - 1) (omega (arith, h.0.0)) within
                (marked (o - 1) within ∙ or_right (get_or gone (o - 1) false) (nat_lt (get_or times (o - 1) 0) (steps turns)) (lt-ltb (get_or times (o - 1) 0) (steps turns) (time_unreached o h.0 h.1)))
          ],
        )

-- Pairs that have the same members carry alike.
pub carries_same : (ps qs : List (ℕ × ℕ)) (a b : List ℕ) → ((p : ℕ × ℕ) → Contains ps p → Contains qs p) → Carries ps a b → Carries qs a b
carries_same ps qs a b more carries = record {
  kept_length = carries.kept_length;
  raised = carries.raised;
  carried = λ o above.
      let from = carries.carried o above in
      (from.0, from.1, (from.2.0, walk_more ps qs (λ u x c. more (u, x) c) from.0 from.2.0 o from.2.1), from.3);
}

-- a flush leaves a book that stands for the history with the flush
pub flush_stands : (book : Book) (turns : List Turn) (pairs : List (ℕ × ℕ)) (gone after : List Bool) (times : List ℕ) (deaths : List (ℕ × ℕ)) → StandsFor book turns
    → length book.stamps ≡ book.graph.made → book.graph.gone ≡ flagged 1 gone → length gone ≡ length times → length after ≡ length gone
    → ((p : ℕ × ℕ) → Contains pairs p ↔ Contains book.graph.pairs p)
    → Carries book.graph.pairs (set_each book.graph.roots book.steps book.stamps) times → AreSettled book.graph.pairs times
    → deaths ≡ listed 1 book.steps times gone
    → ((k : ℕ) → k < length after → get_or after k false ≡ (get_or gone k false || nat_lt (get_or times k 0) book.steps))
    → AreDeaths turns deaths × IsFlush (graph_after turns) (map (λ (d : ℕ × ℕ). d.0) deaths) (record { made = book.graph.made; roots = book.graph.roots; pairs = pairs; gone = flagged 1 after })
flush_stands book turns pairs gone after times deaths stands long is_gone gone_long after_long same carries settled are_listed marked =
    let g = graph_after turns in
    let n = stands.steps_so_far in
    let made_is : book.graph.made ≡ g.made = ap (λ (h : Graph). h.made) stands.graph in
    let roots_is : book.graph.roots ≡ g.roots = ap (λ (h : Graph). h.roots) stands.graph in
    let pairs_is : book.graph.pairs ≡ g.pairs = ap (λ (h : Graph). h.pairs) stands.graph in
    let gone_is : flagged 1 gone ≡ g.gone = sym is_gone ∙ ap (λ (h : Graph). h.gone) stands.graph in
    let flags : (o : ℕ) → Contains (flagged 1 gone) o ↔ Contains g.gone o =
    λ o. ((λ c. subst (λ (os : List ℕ). Contains os o) gone_is c), (λ c. subst (λ (os : List ℕ). Contains os o) (sym gone_is) c)) in
    let known : (u : ℕ) → IsMade g u → get_or book.stamps (u - 1) 0 ≡ stamp turns u = λ u made. stands.stamps u (subst (λ (h : Graph). IsMade h u) (sym stands.graph) made) in
    let carries' : Carries g.pairs (set_each g.roots (steps turns) book.stamps) times =
    subst (λ (ps : List (ℕ × ℕ)). Carries ps (set_each g.roots (steps turns) book.stamps) times) pairs_is
    (subst (λ (rs : List ℕ). Carries book.graph.pairs (set_each rs (steps turns) book.stamps) times) roots_is
    (subst (λ (m : ℕ). Carries book.graph.pairs (set_each book.graph.roots m book.stamps) times) n carries)) in
    let settled' : AreSettled g.pairs times = subst (λ (ps : List (ℕ × ℕ)). AreSettled ps times) pairs_is settled in
    let long' : length book.stamps ≡ g.made = long ∙ made_is in
    let listed' : deaths ≡ listed 1 (steps turns) times gone = are_listed ∙ ap (λ (m : ℕ). listed 1 m times gone) n in
    let marked' : (k : ℕ) → k < length after → get_or after k false ≡ (get_or gone k false || nat_lt (get_or times k 0) (steps turns)) =
    λ k lt. marked k lt ∙ ap (λ (m : ℕ). (get_or gone k false || nat_lt (get_or times k 0) m)) n in
    let are : AreDeaths turns deaths =
    subst (λ (ds : List (ℕ × ℕ)). AreDeaths turns ds) (sym listed')
    (listed_deaths turns stands.history book.stamps times long' known carries' settled' gone gone_long flags) in (
      are,
      record {
        dead = deaths_dead turns deaths stands.history are;
        made = made_is;
        roots = roots_is;
        pairs = λ u x. (
          (λ c. subst (λ (ps : List (ℕ × ℕ)). Contains ps (u, x)) pairs_is ((same (u, x)).0 c)),
          (λ c. (same (u, x)).1 (subst (λ (ps : List (ℕ × ℕ)). Contains ps (u, x)) (sym pairs_is) c)),
        );
        gone = λ o. subst (λ (ds : List (ℕ × ℕ)). Contains (flagged 1 after) o ↔ (Contains g.gone o ⊎ Contains (map (λ (d : ℕ × ℕ). d.0) ds) o)) (sym listed')
            (marked_gone turns stands.history book.stamps times long' known carries' settled' gone gone_long flags after after_long marked' o);
      },
    )
