use Rattle.std.proofs.Common.{◌≡◌, ℕ, ◌+◌, ◌<◌, List, map, length, get_or, drop, sym, ap, subst, arith}
use Rattle.std.proofs.lemmas.List.{drop_more}
use Rattle.et_graph.specs.Graph.{Graph}
use Rattle.et_graph.specs.Steps.{IsLegalStep}
use Rattle.et_graph.specs.Edit.{Edit, step_of}
use Rattle.et_graph.specs.History.{Turn, graph_after}
use Rattle.et_graph.specs.Book.{Book, StandsFor}
use Rattle.et_graph.specs.Taken.{with_step, AreLegalSteps}
use Rattle.et_part_tests.specs.declared.graphs.Row.{Row}
use Rattle.et_part_tests.proofs.graphs.play.Invariants.{edit_row}
use Rattle.et_part_tests.proofs.graphs.play.Goals as goal

-- the next row and those after it are legal
next_legal : (rows : List Row) (i : ℕ) (d : Row) (turns : List Turn) (e : Edit) → i < length rows → e ≡ edit_row (get_or rows i d) → AreLegalSteps turns (map edit_row (drop i rows))
    → IsLegalStep (graph_after turns) (step_of (graph_after turns) e) × AreLegalSteps (with_step turns e) (map edit_row (drop (i + 1) rows))
next_legal rows i d turns e lt is legal =
    subst (λ (z : Edit). IsLegalStep (graph_after turns) (step_of (graph_after turns) z) × AreLegalSteps (with_step turns z) (map edit_row (drop (i + 1) rows))) (sym is)
    (subst (λ (es : List Edit). AreLegalSteps turns es) (ap (λ (rs : List Row). map edit_row rs) (drop_more rows i d lt)) legal)

legal_for : (book : Book) (turns : List Turn) (e : Edit) → StandsFor book turns → IsLegalStep (graph_after turns) (step_of (graph_after turns) e) → IsLegalStep book.graph (step_of book.graph e)
legal_for book turns e stands legal = subst (λ (g : Graph). IsLegalStep g (step_of g e)) (sym stands.graph) legal

pub take_step-requires-clause-legal : goal.take_step-requires-clause-legal
take_step-requires-clause-legal c =
    legal_for c.loop-row.book c.loop-row.invariant.turns _ c.loop-row.invariant.stands
    (next_legal c.args.rows.now c.loop-row.row-index _ c.loop-row.invariant.turns _ c.loop-row-test.true c.in_ok-step.ensures c.loop-row.invariant.legal).0

pub loop-row-preserved : goal.loop-row-preserved
loop-row-preserved c = record {
  turns = with_step c.loop-row.invariant.turns _;
  stands = c.in_ok-take_step.ensures.ok c.loop-row.invariant.turns c.loop-row.invariant.stands;
  count = omega (arith, c.loop-row.invariant.count);
  legal = (next_legal c.args.rows.now c.loop-row.row-index _ c.loop-row.invariant.turns _ c.loop-row-test.true c.in_ok-step.ensures c.loop-row.invariant.legal).1;
}
