use Rattle.std.proofs.Common.{◌≡◌, ℕ, ◌<◌, None, length, take}
use Rattle.std.specs.List.{slice_index_or}
use Rattle.et_program.specs.Heads.{initializer_of}
use Rattle.et_link.proofs.names.heads.initializers.Given as goal

abbrev pub invariant-loop-i : goal.invariant-loop-i
invariant-loop-i l = record {
  size : length l.found.items ≡ l.count;
  found : (k : ℕ) → k < l.count → slice_index_or l.found.items k None ≡ initializer_of (take l.i l.methods) k;
}
