-- The book stands for the steps so far, and the others are legal.
use Rattle.std.proofs.Common.{◌≡◌, List, map, drop}
use Rattle.et_graph.specs.History.{Turn, steps}
use Rattle.et_graph.specs.Book.{StandsFor}
use Rattle.et_graph.specs.Edit.{Edit}
use Rattle.et_graph.specs.Taken.{AreLegalSteps}
use Rattle.et_part_tests.specs.declared.graphs.Row.{Row}
use Rattle.et_part_tests.proofs.graphs.play.Given as goal

abbrev pub edit_row : Row → Edit
edit_row r = record { fresh = r.fresh.now; lost = r.lost.now; roots = r.roots.now; cut = r.cut.now; tied = r.tied.now }

abbrev pub invariant-loop-row : goal.invariant-loop-row
invariant-loop-row l = record {
  turns : List Turn;
  stands : StandsFor l.book turns;
  count : steps turns ≡ l.row-index;
  legal : AreLegalSteps turns (map edit_row (drop l.row-index l.rows));
}
