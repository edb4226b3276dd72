use Rattle.std.proofs.Common.{◌≡◌, ◌++◌, [], length, map}
use Rattle.std.specs.Prelude.{All}
use Rattle.std.specs.List.{AllZip}
use Rattle.std.specs.Vec.Iter.{into_iter_items, into_iter_len}
use Rattle.et_top.specs.Top.{policies_of}
use Rattle.et_top.proofs.models.choose.Given as goal

abbrev pub invariant-models : goal.invariant-models
invariant-models g l = record {
  zip : AllZip (λ b policy. (goal.HeapModel-dyn g (b.vtable, b.value)).stands_for b.value policy l.objects []) l.chosen.items (policies_of l.asked (map (λ b. (goal.HeapModel-dyn g (b.vtable, b.value)).kind_of b.value) l.yielded));
  new : All (λ b. (goal.HeapModel-dyn g (b.vtable, b.value)).is_new b.value) (into_iter_items l.model-iterator);
  rest : l.yielded ++ into_iter_items l.model-iterator ≡ l.fn.models.items;
  left : into_iter_len l.model-iterator ≡ length (into_iter_items l.model-iterator);
}
