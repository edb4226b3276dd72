use Rattle.std.proofs.Common.{◌≡◌, ℕ, List, take}
use Rattle.et_asm.specs.Code.{place_behind, labels_of}
use Rattle.et_asm.specs.Symbols.{places}
use Rattle.et_asm.proofs.labels.labels_of.Given as goal

abbrev pub invariant-loop-p : goal.invariant-loop-p
invariant-loop-p l = record {
  at : l.at ≡ place_behind l.symbols (take l.p-index l.body);
  labels : (q : List ℕ) → places l.labels.entries q ≡ labels_of l.symbols (take l.p-index l.body) q;
}
