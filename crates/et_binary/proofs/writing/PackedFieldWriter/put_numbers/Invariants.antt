use Rattle.std.proofs.Common.{◌≡◌, ◌+◌, ◌≤◌, ◌*◌, ◌∷◌, length, take}
use Rattle.std.specs.List.{flat_map}
use Rattle.et_text.specs.Fields.{numbers_of}
use Rattle.et_binary.specs.Packing.{packed_field}
use Rattle.et_binary.proofs.writing.PackedFieldWriter.put_numbers.Given as goal

abbrev pub invariant-loop-index : goal.invariant-loop-index
invariant-loop-index l = record {
  size : length l.record ≡ 49;
  room : l.end ≤ 1 + 8 * l.index;
  packed : take l.end l.record ≡ l.letter ∷ flat_map packed_field (numbers_of (take l.index l.widths) (take l.index l.numbers));
}
