use Rattle.std.proofs.Common.{◌≡◌, ℕ, false, length, take}
use Rattle.std.specs.List.{slice_index_or}
use Rattle.et_program.specs.Heads.{has_to_run}
use Rattle.et_link.proofs.names.heads.classes_to_run.Given as goal

abbrev pub invariant-loop-method : goal.invariant-loop-method
invariant-loop-method l = record {
  size : length l.marks.items ≡ l.count;
  marks : (k : ℕ) → slice_index_or l.marks.items k false ≡ has_to_run (take l.method-index l.methods) k;
}
