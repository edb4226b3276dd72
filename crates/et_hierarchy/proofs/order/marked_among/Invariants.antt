use Rattle.std.proofs.Common.{◌≡◌, false, take}
use Rattle.std.specs.Prelude.{filter}
use Rattle.std.specs.List.{slice_index_or}
use Rattle.et_hierarchy.proofs.order.marked_among.Given as goal

abbrev pub invariant-loop-class : goal.invariant-loop-class
invariant-loop-class l = l.list.items ≡ filter (λ k. slice_index_or l.marks k false) (take l.class-index l.classes)
