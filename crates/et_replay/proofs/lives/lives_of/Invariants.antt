use Rattle.std.proofs.Common.{◌≡◌, reverse, take}
use Rattle.et_replay.specs.Lives.{born_by, died_by}
use Rattle.et_replay.proofs.lives.lives_of.Given as goal

abbrev pub invariant-loop-line : goal.invariant-loop-line
invariant-loop-line l = record {
  born : l.lives.born.items ≡ born_by (reverse (take l.line-index l.lines));
  died : l.lives.died.items ≡ died_by (reverse (take l.line-index l.lines));
}
