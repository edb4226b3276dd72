use Rattle.std.proofs.Common.{◌≡◌, ◌≤◌, ◌+◌, ◌*◌, drop, length}
use Rattle.std.specs.List.{flat_map}
use Rattle.et_text.specs.Spelling.{number_field}
use Rattle.et_text.proofs.writing.put_numbers.Given as goal

abbrev pub invariant-loop-left : goal.invariant-loop-left
invariant-loop-left l = record {
  among : l.left ≤ length l.numbers;
  room : 21 * l.left + 1 ≤ l.start;
  within : l.start ≤ 127;
  size : length l.line ≡ 127;
  spelled : drop l.start l.line ≡ flat_map number_field (drop l.left l.numbers);
}

abbrev pub decreases-loop-left : goal.decreases-loop-left
decreases-loop-left l = l.left
