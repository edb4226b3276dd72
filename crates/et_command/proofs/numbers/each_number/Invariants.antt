use Rattle.std.proofs.Common.{◌≡◌, ◌<◌, drop, map, length}
use Rattle.std.specs.Prelude.{All}
use Rattle.et_command.specs.Numbers.{number_within, each}
use Rattle.et_command.proofs.NumberLemmas.{behind}
use Rattle.et_command.proofs.numbers.each_number.Given as goal

abbrev pub invariant-pieces : goal.invariant-pieces
invariant-pieces l = record {
  rest : behind l.words (each (map (λ piece. number_within 0 63 piece.now) (drop l.piece-index l.pieces))) ≡ each (map (λ piece. number_within 0 63 piece.now) l.pieces);
  count : length l.words ≡ l.piece-index;
  range : All (λ word. word < 64) l.words;
}
