use Rattle.std.proofs.Common.{◌≡◌, ◌+◌, ◌≤◌, ℕ, ℤ, List, [], length, drop, reverse}
use Rattle.et_base.specs.declared.value.Value.{Value}
use Rattle.et_state.specs.State.{Kept}
use Rattle.et_state.specs.Words.{top}
use Rattle.et_state.specs.Outcome.{Outcome}
use Rattle.et_event.specs.Heap.{with_lengths}
use Rattle.et_event.specs.Moments.{Moment, ill_typed}
use Rattle.et_refs.proofs.arrays.lengths.take_lengths.Given as goal

abbrev pub invariant-loop-k : goal.invariant-loop-k
invariant-loop-k l = record {
  count : length l.lengths.items ≡ l.k;
  deep : l.k ≤ length (top l.machine.guest l.thread).operands;
  is : (left : ℕ) → l.k + left ≡ l.count → (e : Moment) (go : List ℤ → List Value → Outcome Kept) →
      with_lengths l.count [] (ill_typed e) (top l.machine.guest l.thread).operands go ≡ with_lengths left (reverse l.lengths.items) (ill_typed e) (drop l.k (top l.machine.guest l.thread).operands) go;
}
