use Rattle.std.proofs.Common.{◌≡◌, reverse, take}
use Rattle.std.specs.List.{filter_map}
use Rattle.et_text.specs.Rules.{objects}
use Rattle.et_snapshot.specs.Heap.{objects_of, numbers_of, lists_of, field_of, kept_by, statics_by, RiseTo}
use Rattle.et_snapshot.proofs.heap.heap_at.Given as goal

abbrev pub invariant-loop-line : goal.invariant-loop-line
invariant-loop-line l = record {
  rise : RiseTo (objects (reverse (take l.line-index l.lines))) 0 (numbers_of l.heap.objects.items);
  statics : l.heap.statics.entries ≡ statics_by l.event (reverse (take l.line-index l.lines));
  objects : objects_of l.heap.objects.items ≡ kept_by l.event (reverse (take l.line-index l.lines));
  names : lists_of l.heap.names.items ≡ filter_map field_of (take l.line-index l.lines);
}
