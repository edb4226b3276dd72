-- A step of the code, as lists.
use Rattle.et_graph.specs.Edit.{Edit}
use Rattle.et_graph.specs.declared.book.GraphStep.{GraphStep}

abbrev pub edit_of : GraphStep → Edit
edit_of s = record {
  fresh = s.fresh.items;
  lost = s.lost.items;
  roots = s.roots.items;
  cut = s.cut.items;
  tied = s.tied.items;
}
