use Rattle.std.proofs.Common.{ℕ, ◌<◌, take}
use Rattle.et_hierarchy.specs.Faults.{IsRepeated}
use Rattle.et_hierarchy.specs.Index.{IsIndexOf}
use Rattle.et_hierarchy.proofs.index.index.Given as goal

abbrev pub invariant-loop-i : goal.invariant-loop-i
invariant-loop-i l = record {
  indexed : IsIndexOf (take l.i l.set) l.places;
  apart : (k : ℕ) → k < l.i → IsRepeated l.set k → ⊥;
}
