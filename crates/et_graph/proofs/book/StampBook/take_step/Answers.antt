use Rattle.std.proofs.Common.{◌≡◌, ◌+◌, ◌-◌, ℕ, List, length, vec_len, refl, sym, subst, ap, ◌∙◌, arith}
use Rattle.et_graph.specs.Steps.{IsLegalStep}
use Rattle.et_graph.specs.Edit.{step_of}
use Rattle.et_graph.specs.Times.{ArePositive}
use Rattle.et_graph.specs.Objects.{HasPlaces}
use Rattle.et_graph.specs.Book.{Book, StandsFor}
use Rattle.et_graph.specs.Written.{edit_of}
use Rattle.et_graph.specs.Inside.{book_of}
use Rattle.et_graph.specs.declared.book.StampBook.TheInside.{Inside}
use Rattle.et_graph.proofs.Insides.{kept_book, IsNext, next_book, next_graph, next_stepped}
use Rattle.et_graph.proofs.Books.{lost_positive, step_stands}
use Rattle.et_graph.proofs.book.StampBook.take_step.Goals as goal

pub invariant_of-self-in_err-reserve-2 : goal.invariant_of-self-in_err-reserve-2
invariant_of-self-in_err-reserve-2 c =
    kept_book c.self.inside (record { steps = c.self.inside.steps; roots = c.self.inside.roots; pairs = c.reserve.new.self; objects = c.reserve-2.new.self })
    refl refl c.reserve.ensures.items c.reserve-2.ensures.kept c.self.invariant

pub take_step-requires-clause-positive : goal.take_step-requires-clause-positive
take_step-requires-clause-positive c =
    let legal : IsLegalStep (book_of c.self.inside).graph (step_of (book_of c.self.inside).graph (edit_of c.args.step)) = subst (λ (b : Book). IsLegalStep b.graph (step_of b.graph (edit_of c.args.step))) (sym c.self.view_is) c.requires.legal in
    subst (λ (os : List ℕ). ArePositive os) (sym c.deref-3.ensures.value) (lost_positive (book_of c.self.inside).graph (step_of (book_of c.self.inside).graph (edit_of c.args.step)) c.self.invariant.sound legal)

-- what the book keeps in the end
abbrev next_of : goal.After-drop-fresh-2 → Inside
next_of c = record { steps = c.self.inside.steps + 1; roots = c.args.step.roots; pairs = c.edit.new.pairs; objects = c.take_step.new.self }

legal_of : (c : goal.After-drop-fresh-2) → IsLegalStep (book_of c.self.inside).graph (step_of (book_of c.self.inside).graph (edit_of c.args.step))
legal_of c = subst (λ (b : Book). IsLegalStep b.graph (step_of b.graph (edit_of c.args.step))) (sym c.self.view_is) c.requires.legal

count_is : (c : goal.After-drop-fresh-2) → c.count_after-count.result ≡ length c.self.inside.objects.stamps.items + length c.args.step.fresh.items
count_is c = omega (arith, c.count_after-count.ensures.count, c.len.ensures, ap (λ (xs : List ℕ). length xs) c.deref.ensures.value, c.self.inside.objects.stamps.ok.0)

made_is : (c : goal.After-drop-fresh-2) → c.count_after-count.result - vec_len c.reserve-2.new.self.stamps ≡ length c.args.step.fresh.items
made_is c = omega (arith, count_is c, ap (λ (xs : List ℕ). length xs) c.reserve-2.ensures.kept.stamps, c.reserve-2.new.self.stamps.ok.0)

is_next : (c : goal.After-drop-fresh-2) → IsNext c.self.inside (next_of c) (edit_of c.args.step)
is_next c =
    let kept = c.reserve-2.ensures.kept in
    record {
      roots = refl;
      pairs = c.edit.ensures ∙ rw (c.reserve.ensures.items, c.deref-2.ensures.value) refl;
      objects = record {
        stamps = c.take_step.ensures.stamps ∙ rw (c.deref-3.ensures.value, kept.stamps, made_is c) refl;
        gone = c.take_step.ensures.gone ∙ rw (kept.gone, made_is c) refl;
        deaths = c.take_step.ensures.deaths ∙ kept.deaths;
        places = λ m h. c.take_step.ensures.places m (kept.places m h);
      };
      steps = refl;
      few = omega (arith, count_is c, c.count_after-count.ensures.small);
      places = subst (λ (n : ℕ). HasPlaces n c.take_step.new.self) (count_is c) (c.take_step.ensures.places c.count_after-count.result c.in_ok-reserve-2.ensures.ok);
    }

pub invariant_of-self-2 : goal.invariant_of-self-2
invariant_of-self-2 c = next_book c.self.inside (next_of c) (edit_of c.args.step) (is_next c) c.self.invariant (legal_of c)

pub returns-clause-ok : goal.returns-clause-ok
returns-clause-ok c = λ turns stands.
    step_stands (book_of c.self.inside) (book_of (next_of c)) (edit_of c.args.step) turns (legal_of c)
    (next_stepped c.self.inside (next_of c) (edit_of c.args.step) (is_next c))
    (subst (λ (b : Book). StandsFor b turns) (sym c.self.view_is) stands)

pub returns-clause-graph : goal.returns-clause-graph
returns-clause-graph c =
    next_graph c.self.inside (next_of c) (edit_of c.args.step) (is_next c)
    ∙ ap (λ (b : Book). (step_of b.graph (edit_of c.args.step)).after) c.self.view_is
