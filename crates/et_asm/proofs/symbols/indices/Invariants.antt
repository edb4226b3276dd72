use Rattle.std.proofs.Common.{◌≡◌, ℕ, ◌<◌, length, get_or, take}
use Rattle.et_asm.specs.Pool.{index_behind}
use Rattle.et_asm.proofs.symbols.indices.Given as goal

abbrev pub invariant-loop-e : goal.invariant-loop-e
invariant-loop-e l = record {
  counted : length l.indices.items ≡ l.e-index;
  next : l.next ≡ index_behind (take l.e-index l.entries);
  indices : (i : ℕ) → i < l.e-index → get_or l.indices.items i 0 ≡ index_behind (take i l.entries);
}
