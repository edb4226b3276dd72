-- What a StampBook keeps, after a step and after a flush.
use Rattle.std.proofs.Common.{◌≡◌, ℕ, zero, suc, ◌+◌, ◌-◌, ◌<◌, ◌≤◌, ◌^◌, ◌||◌, ◌⊎◌, ◌↔◌, Bool, false, cond, not, nat_lt, List, [], ◌∷◌, ◌++◌, length, get_or, replicate, filter, map, Contains, All, Vec, Global, refl, sym, ap, ◌∙◌, subst, inl, inr, arith}
use Rattle.std.proofs.lemmas.Bool.{or_cases, or_left, or_right, ltb-true, lt-ltb}
use Rattle.std.proofs.lemmas.List.{length-append, length-replicate}
use Rattle.std.proofs.lemmas.List.Elements.{All-append, All-replicate, All-weaker}
use Rattle.et_graph.specs.Graph.{Graph, IsReached, IsSoundGraph}
use Rattle.et_graph.specs.Steps.{IsLegalStep, IsFlush}
use Rattle.et_graph.specs.Edit.{Edit, has_pair, step_of, with_pairs}
use Rattle.et_graph.specs.History.{Turn, graph_after, AreDeaths}
use Rattle.et_graph.specs.History.Turn.{Flushed}
use Rattle.et_graph.specs.Times.{set_each, ArePositive, AreWithin, ArePairsWithin, ArePairsAmong, Carries, AreSettled}
use Rattle.et_graph.specs.Listing.{flagged, death_pairs}
use Rattle.et_graph.specs.Objects.{HasPlaces, ArePlacesKept, TakesStep, FindsDeaths}
use Rattle.et_graph.specs.Book.{StandsFor}
use Rattle.et_graph.specs.Inside.{book_of, IsBook}
use Rattle.et_graph.specs.declared.book.StampBook.TheInside.{Inside}
use Rattle.et_graph.proofs.Sound.{stepped_sound}
use Rattle.et_graph.proofs.Ties.{pairs_tie, tied_sound}
use Rattle.et_graph.proofs.Carrying.{length-set_each, set_each_in, All-set_each}
use Rattle.et_graph.proofs.Listing.{flagged_is, is_flagged}
use Rattle.et_graph.proofs.Books.{IsStepped, carries_same, flush_stands}

-- flags that are off add no objects
flags_none : (k n : ℕ) → flagged k (replicate n false) ≡ []
flags_none k zero = refl
flags_none k (suc n) = flags_none (k + 1) n

flags_more : (k : ℕ) (flags : List Bool) (n : ℕ) → flagged k (flags ++ replicate n false) ≡ flagged k flags
flags_more k [] n = flags_none k n
flags_more k (flag ∷ flags) n = ap (λ (os : List ℕ). cond flag (k ∷ os) os) (flags_more (k + 1) flags n)

-- The second keeps what the first keeps, with more room.
module _ (a b : Inside) (steps : b.steps ≡ a.steps) (roots : b.roots.items ≡ a.roots.items) (pairs : b.pairs.items ≡ a.pairs.items) (kept : ArePlacesKept a.objects b.objects) where
  kept_graph : (book_of b).graph ≡ (book_of a).graph
  kept_graph =
      let of : List ℕ → List ℕ → List (ℕ × ℕ) → List Bool → Graph = λ ss rs ps fs. record { made = length ss; roots = rs; pairs = ps; gone = flagged 1 fs } in
      ap (λ (ss : List ℕ). of ss b.roots.items b.pairs.items b.objects.gone.items) kept.stamps
      ∙ ap (λ (rs : List ℕ). of a.objects.stamps.items rs b.pairs.items b.objects.gone.items) roots
      ∙ ap (λ (ps : List (ℕ × ℕ)). of a.objects.stamps.items a.roots.items ps b.objects.gone.items) pairs
      ∙ ap (λ (fs : List Bool). of a.objects.stamps.items a.roots.items a.pairs.items fs) kept.gone

  pub kept_book : IsBook a → IsBook b
  kept_book book =
      let long : length b.objects.stamps.items ≡ length a.objects.stamps.items = ap (λ (ss : List ℕ). length ss) kept.stamps in
      record {
        sound = subst (λ (g : Graph). IsSoundGraph g) (sym kept_graph) book.sound;
        few = omega (arith, book.few);
        before =
            subst (λ (n : ℕ). All (λ t. t ≤ n) b.objects.stamps.items) (sym steps)
            (subst (λ (ss : List ℕ). All (λ t. t ≤ a.steps) ss) (sym kept.stamps) book.before);
        gone = omega (arith, book.gone, ap (λ (fs : List Bool). length fs) kept.gone);
        places = subst (λ (n : ℕ). HasPlaces n b.objects) (sym long) (kept.places (length a.objects.stamps.items) book.places);
      }

-- the second keeps what the first keeps after a step
pub record IsNext (a b : Inside) (e : Edit) : Type 0 where
  pub roots : b.roots.items ≡ e.roots
  pub pairs : b.pairs.items ≡ filter (λ p. not (has_pair e.cut p)) a.pairs.items ++ e.tied
  pub objects : TakesStep a.objects b.objects e.lost a.steps (length e.fresh)
  pub steps : b.steps ≡ a.steps + 1
  pub few : length a.objects.stamps.items + length e.fresh < 2 ^ 32
  pub places : HasPlaces (length a.objects.stamps.items + length e.fresh) b.objects

module _ (a b : Inside) (e : Edit) (next : IsNext a b e) where
  next_long : length b.objects.stamps.items ≡ length a.objects.stamps.items + length e.fresh
  next_long =
      ap (λ (xs : List ℕ). length xs) next.objects.stamps
      ∙ length-append (set_each e.lost (a.steps - 1) a.objects.stamps.items) (replicate (length e.fresh) a.steps)
      ∙ omega (arith, length-set_each e.lost (a.steps - 1) a.objects.stamps.items, length-replicate (length e.fresh) a.steps)

  pub next_graph : (book_of b).graph ≡ (step_of (book_of a).graph e).after
  next_graph =
      let of : ℕ → List ℕ → List (ℕ × ℕ) → List ℕ → Graph = λ m rs ps os. record { made = m; roots = rs; pairs = ps; gone = os } in
      let gone_is : flagged 1 b.objects.gone.items ≡ flagged 1 a.objects.gone.items =
      ap (λ (fs : List Bool). flagged 1 fs) next.objects.gone ∙ flags_more 1 a.objects.gone.items (length e.fresh) in
      ap (λ (m : ℕ). of m b.roots.items b.pairs.items (flagged 1 b.objects.gone.items)) next_long
      ∙ ap (λ (rs : List ℕ). of (length a.objects.stamps.items + length e.fresh) rs b.pairs.items (flagged 1 b.objects.gone.items)) next.roots
      ∙ ap (λ (ps : List (ℕ × ℕ)). of (length a.objects.stamps.items + length e.fresh) e.roots ps (flagged 1 b.objects.gone.items)) next.pairs
      ∙ ap (λ (os : List ℕ). of (length a.objects.stamps.items + length e.fresh) e.roots (filter (λ p. not (has_pair e.cut p)) a.pairs.items ++ e.tied) os) gone_is

  pub next_stepped : IsStepped (book_of a) (book_of b) e
  next_stepped = record {
    graph = next_graph;
    long = refl;
    stamps = next.objects.stamps;
    steps_more = next.steps;
  }

  pub next_book : IsBook a → IsLegalStep (book_of a).graph (step_of (book_of a).graph e) → IsBook b
  next_book book legal = record {
    sound = subst (λ (g : Graph). IsSoundGraph g) (sym next_graph) (stepped_sound (book_of a).graph (step_of (book_of a).graph e) book.sound legal);
    few = omega (arith, next_long, next.few);
    before =
        subst (λ (xs : List ℕ). All (λ t. t ≤ b.steps) xs) (sym next.objects.stamps)
        (All-append (λ t. t ≤ b.steps) (set_each e.lost (a.steps - 1) a.objects.stamps.items) (replicate (length e.fresh) a.steps)
        (All-set_each b.steps e.lost (a.steps - 1) a.objects.stamps.items (omega (arith, next.steps))
        (All-weaker (λ t. t ≤ a.steps) (λ t. t ≤ b.steps) (λ t le. omega (arith, le, next.steps)) a.objects.stamps.items book.before))
        (All-replicate (λ t. t ≤ b.steps) (length e.fresh) a.steps (omega (arith, next.steps))));
    gone = ap (λ (xs : List Bool). length xs) next.objects.gone ∙ length-append a.objects.gone.items (replicate (length e.fresh) false)
        ∙ omega (arith, book.gone, length-replicate (length e.fresh) false, next_long);
    places = subst (λ (n : ℕ). HasPlaces n b.objects) (sym next_long) next.places;
  }

-- a tie changes the pairs alone
pub tied_book : (a : Inside) (more : Vec (ℕ × ℕ) Global) (tied : List (ℕ × ℕ)) → more.items ≡ a.pairs.items ++ tied → ArePairsAmong (IsReached (book_of a).graph) tied → IsBook a → IsBook (record a { pairs = more })
tied_book a more tied is among book =
    let g : Graph = (book_of a).graph in
    record {
      sound = subst (λ (ps : List (ℕ × ℕ)). IsSoundGraph (record g { pairs = ps })) (sym is) (tied_sound g (with_pairs g tied) (pairs_tie g tied among) book.sound);
      few = book.few;
      before = book.before;
      gone = book.gone;
      places = book.places;
    }

-- The graph after a flush is sound.
pub flags_sound : (made : ℕ) (roots : List ℕ) (pairs : List (ℕ × ℕ)) (stamps times : List ℕ) (top : ℕ) (gone after : List Bool)
    → IsSoundGraph (record { made = made; roots = roots; pairs = pairs; gone = flagged 1 gone }) → length stamps ≡ made → length gone ≡ made → length after ≡ length gone
    → Carries pairs (set_each roots top stamps) times → AreSettled pairs times
    → ((k : ℕ) → k < length after → get_or after k false ≡ (get_or gone k false || nat_lt (get_or times k 0) top))
    → IsSoundGraph (record { made = made; roots = roots; pairs = pairs; gone = flagged 1 after })
flags_sound made roots pairs stamps times top gone after sound stamps_long gone_long after_long carries settled marked =
    let marked_before : (o : ℕ) → Contains (flagged 1 after) o → Contains (flagged 1 gone) o ⊎ (get_or times (o - 1) 0 < top) = λ o c.
    let r = flagged_is 1 after o c in
    let place : o - 1 ≡ r.place = omega (arith, r.object) in
    elim (or_cases (get_or gone r.place false) (nat_lt (get_or times r.place 0) top) (sym (marked r.place r.within) ∙ r.flag)) [
      | inl t ↦ inl (is_flagged 1 gone o r.place r.object (omega (arith, r.within)) t)
      | inr t ↦ inr (omega (arith, ltb-true (get_or times r.place 0) top t, ap (λ (j : ℕ). get_or times j 0) place))
    ] in
    record {
      roots_made = sound.roots_made;
      pairs_made = sound.pairs_made;
      gone_made = λ o c. let r = flagged_is 1 after o c in (omega (arith, r.object), omega (arith, r.object, r.within));
      roots_held = λ r c d. elim (marked_before r d) [
        | inl g ↦ sound.roots_held r c g
        | inr lt ↦
            let positive : ArePositive roots = λ u e. (sound.roots_made u e).0 in
            let made = sound.roots_made r c in
            absurd (omega (arith, lt, carries.raised r, set_each_in roots top stamps r positive made.0 (omega (arith, made)) c))
      ];
      gone_before = λ u x c d.
          let m = (sound.pairs_made u x c).0 in
          let fits : u - 1 < length after = omega (arith, m.0, m.1) in
          elim (marked_before x d) [
            | inl g ↦
                let r = flagged_is 1 gone u (sound.gone_before u x c g) in
                is_flagged 1 after u r.place r.object (omega (arith, r.within))
                (marked r.place (omega (arith, r.within)) ∙ or_left (get_or gone r.place false) (nat_lt (get_or times r.place 0) top) r.flag)
            | inr lt ↦
                is_flagged 1 after u (u - 1) (omega (arith, m.0)) fits
                (marked (u - 1) fits ∙ or_right (get_or gone (u - 1) false) (nat_lt (get_or times (u - 1) 0) top) (lt-ltb (get_or times (u - 1) 0) top (omega (arith, lt, settled u x c))))
          ];
    }

pub book_pairs : (a : Inside) → IsBook a → ArePairsWithin (length a.objects.stamps.items) a.pairs.items
book_pairs a book u x c = let both = book.sound.pairs_made u x c in (both.0.0, both.0.1, both.1.0, both.1.1)

pub book_roots : (a : Inside) → IsBook a → AreWithin (length a.objects.stamps.items) a.roots.items
book_roots a book r c = book.sound.roots_made r c

-- the second keeps what the first keeps after a flush: the same pairs in another order, and the deaths that were found
pub record IsReported (a b : Inside) : Type 0 where
  pub steps : b.steps ≡ a.steps
  pub roots : b.roots.items ≡ a.roots.items
  pub pairs : (p : ℕ × ℕ) → Contains b.pairs.items p ↔ Contains a.pairs.items p
  pub objects : FindsDeaths b.pairs.items a.roots.items a.steps a.objects b.objects

module _ (a b : Inside) (book : IsBook a) (reported : IsReported a b) where
  carries_here : Carries a.pairs.items (set_each a.roots.items a.steps a.objects.stamps.items) b.objects.times.items
  carries_here =
      carries_same b.pairs.items a.pairs.items (set_each a.roots.items a.steps a.objects.stamps.items) b.objects.times.items (λ p. (reported.pairs p).0) reported.objects.carries

  settled_here : AreSettled a.pairs.items b.objects.times.items
  settled_here u x c = reported.objects.settled u x ((reported.pairs (u, x)).1 c)

  stamps_long : length b.objects.stamps.items ≡ length a.objects.stamps.items
  stamps_long = ap (λ (ss : List ℕ). length ss) reported.objects.stamps

  times_long : length b.objects.times.items ≡ length a.objects.stamps.items
  times_long = reported.objects.carries.kept_length ∙ length-set_each a.roots.items a.steps a.objects.stamps.items

  graph_is : (book_of b).graph ≡ record { made = length a.objects.stamps.items; roots = a.roots.items; pairs = b.pairs.items; gone = flagged 1 b.objects.gone.items }
  graph_is =
      let of : ℕ → List ℕ → Graph = λ m rs. record { made = m; roots = rs; pairs = b.pairs.items; gone = flagged 1 b.objects.gone.items } in
      ap (λ (m : ℕ). of m b.roots.items) stamps_long ∙ ap (λ (rs : List ℕ). of (length a.objects.stamps.items) rs) reported.roots

  -- the same flags over the pairs as they stood
  sound_here : IsSoundGraph (record { made = length a.objects.stamps.items; roots = a.roots.items; pairs = a.pairs.items; gone = flagged 1 b.objects.gone.items })
  sound_here =
      flags_sound (length a.objects.stamps.items) a.roots.items a.pairs.items a.objects.stamps.items b.objects.times.items a.steps a.objects.gone.items b.objects.gone.items
      book.sound refl book.gone reported.objects.gone_long carries_here settled_here reported.objects.marked

  sound_after : IsSoundGraph (record { made = length a.objects.stamps.items; roots = a.roots.items; pairs = b.pairs.items; gone = flagged 1 b.objects.gone.items })
  sound_after = record {
    roots_made = sound_here.roots_made;
    pairs_made = λ u x c. sound_here.pairs_made u x ((reported.pairs (u, x)).0 c);
    gone_made = sound_here.gone_made;
    roots_held = sound_here.roots_held;
    gone_before = λ u x c. sound_here.gone_before u x ((reported.pairs (u, x)).0 c);
  }

  pub reported_book : IsBook b
  reported_book = record {
    sound = subst (λ (g : Graph). IsSoundGraph g) (sym graph_is) sound_after;
    few = omega (arith, book.few, stamps_long);
    before =
        subst (λ (n : ℕ). All (λ t. t ≤ n) b.objects.stamps.items) (sym reported.steps)
        (subst (λ (ss : List ℕ). All (λ t. t ≤ a.steps) ss) (sym reported.objects.stamps) book.before);
    gone = omega (arith, book.gone, reported.objects.gone_long, stamps_long);
    places = subst (λ (n : ℕ). HasPlaces n b.objects) (sym stamps_long) reported.objects.places;
  }

  pub reported_stands : (turns : List Turn) → StandsFor (book_of a) turns → AreDeaths turns (book_of b).deaths × StandsFor (book_of b) (Flushed (book_of b).graph (map (λ (d : ℕ × ℕ). d.0) (book_of b).deaths) ∷ turns)
  reported_stands turns stands =
      let flush =
      flush_stands (book_of a) turns b.pairs.items a.objects.gone.items b.objects.gone.items b.objects.times.items (death_pairs b.objects.deaths.items) stands
      refl refl (book.gone ∙ sym times_long) reported.objects.gone_long reported.pairs carries_here settled_here reported.objects.deaths reported.objects.marked in (
        flush.0,
        record {
          history = (stands.history, subst (λ (g : Graph). IsFlush (graph_after turns) (map (λ (d : ℕ × ℕ). d.0) (death_pairs b.objects.deaths.items)) g) (sym graph_is) flush.1);
          graph = refl;
          stamps = λ o made. ap (λ (ss : List ℕ). get_or ss (o - 1) 0) reported.objects.stamps ∙ stands.stamps o (made.0, omega (arith, made.1, stamps_long));
          steps_so_far = reported.steps ∙ stands.steps_so_far;
        },
      )
