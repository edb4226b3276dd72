use Rattle.std.proofs.Common.{◌≡◌, ℕ, List, Contains, length, vec_len, refl, sym, subst, ◌∙◌, arith}
use Rattle.std.specs.Vec.{with_items}
use Rattle.std.proofs.lemmas.List.{with_items_is}
use Rattle.et_graph.specs.Times.{AreWithin, ArePairsWithin}
use Rattle.et_graph.specs.Objects.{FindsDeaths}
use Rattle.et_graph.specs.Book.{Book, StandsFor}
use Rattle.et_graph.specs.declared.book.StampBook.TheInside.{Inside}
use Rattle.et_graph.proofs.Insides.{book_pairs, book_roots, IsReported, reported_book, reported_stands}
use Rattle.et_graph.proofs.book.StampBook.report.Goals as goal

pub find_deaths-requires-clause-pairs : goal.find_deaths-requires-clause-pairs
find_deaths-requires-clause-pairs c =
    let sorted_is : (with_items c.self.inside.pairs c.sort.new.pairs).items ≡ c.sort.new.pairs = with_items_is c.self.inside.pairs c.sort.new.pairs (c.sort.auto.pairs ∙ c.deref_mut.ensures.len) in
    let is : c.deref.result.now ≡ c.sort.new.pairs = c.deref.ensures.value ∙ sorted_is in
    let within : ArePairsWithin (vec_len c.self.inside.objects.stamps) c.self.inside.pairs.items =
    subst (λ (n : ℕ). ArePairsWithin n c.self.inside.pairs.items) (let long : length c.self.inside.objects.stamps.items ≡ vec_len c.self.inside.objects.stamps = omega (arith, c.self.inside.objects.stamps.ok.0) in long) (book_pairs c.self.inside c.self.invariant) in
    λ u x d. within u x
    (subst (λ (ps : List (ℕ × ℕ)). Contains ps (u, x)) c.deref_mut.ensures.value
    ((c.sort.ensures.same (u, x)).0 (subst (λ (ps : List (ℕ × ℕ)). Contains ps (u, x)) is d)))

pub find_deaths-requires-clause-roots : goal.find_deaths-requires-clause-roots
find_deaths-requires-clause-roots c =
    subst (λ (rs : List ℕ). AreWithin (vec_len c.self.inside.objects.stamps) rs) (sym c.deref-2.ensures.value)
    (subst (λ (n : ℕ). AreWithin n c.self.inside.roots.items) (let long : length c.self.inside.objects.stamps.items ≡ vec_len c.self.inside.objects.stamps = omega (arith, c.self.inside.objects.stamps.ok.0) in long) (book_roots c.self.inside c.self.invariant))

-- what the book keeps in the end
abbrev after_of : goal.After-find_deaths → Inside
after_of c = record { steps = c.self.inside.steps; roots = c.self.inside.roots; pairs = with_items c.self.inside.pairs c.sort.new.pairs; objects = c.find_deaths.new.self }

is_reported : (c : goal.After-find_deaths) → IsReported c.self.inside (after_of c)
is_reported c =
    let sorted_is : (with_items c.self.inside.pairs c.sort.new.pairs).items ≡ c.sort.new.pairs = with_items_is c.self.inside.pairs c.sort.new.pairs (c.sort.auto.pairs ∙ c.deref_mut.ensures.len) in
    record {
      steps = refl;
      roots = refl;
      pairs = λ p. (
        (λ d. subst (λ (ps : List (ℕ × ℕ)). Contains ps p) c.deref_mut.ensures.value ((c.sort.ensures.same p).0 (subst (λ (ps : List (ℕ × ℕ)). Contains ps p) sorted_is d))),
        (λ d. subst (λ (ps : List (ℕ × ℕ)). Contains ps p) (sym sorted_is) ((c.sort.ensures.same p).1 (subst (λ (ps : List (ℕ × ℕ)). Contains ps p) (sym c.deref_mut.ensures.value) d))),
      );
      objects =
          subst (λ (ps : List (ℕ × ℕ)). FindsDeaths ps c.self.inside.roots.items c.self.inside.steps c.self.inside.objects c.find_deaths.new.self) c.deref.ensures.value
          (subst (λ (rs : List ℕ). FindsDeaths c.deref.result.now rs c.self.inside.steps c.self.inside.objects c.find_deaths.new.self) c.deref-2.ensures.value c.find_deaths.ensures);
    }

pub invariant_of-self : goal.invariant_of-self
invariant_of-self c = reported_book c.self.inside (after_of c) c.self.invariant (is_reported c)

pub returns-clause-deaths : goal.returns-clause-deaths
returns-clause-deaths c = λ turns stands.
    (reported_stands c.self.inside (after_of c) c.self.invariant (is_reported c) turns (subst (λ (b : Book). StandsFor b turns) (sym c.self.view_is) stands)).0

pub returns-clause-stands : goal.returns-clause-stands
returns-clause-stands c = λ turns stands.
    (reported_stands c.self.inside (after_of c) c.self.invariant (is_reported c) turns (subst (λ (b : Book). StandsFor b turns) (sym c.self.view_is) stands)).1
