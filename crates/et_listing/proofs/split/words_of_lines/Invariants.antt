use Rattle.std.proofs.Common.{◌≡◌, map, take}
use Rattle.et_listing.specs.Words.{words}
use Rattle.et_listing.proofs.split.words_of_lines.Given as goal

abbrev pub invariant-loop-line : goal.invariant-loop-line
invariant-loop-line l = l.found.items ≡ map words (take l.line-index l.line-items)
