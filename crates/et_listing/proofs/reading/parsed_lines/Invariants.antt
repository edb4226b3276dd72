use Rattle.std.proofs.Common.{◌≡◌, map, take}
use Rattle.et_listing.specs.Lines.{parsed_of}
use Rattle.et_listing.proofs.reading.parsed_lines.Given as goal

abbrev pub invariant-loop-words : goal.invariant-loop-words
invariant-loop-words l = l.found.items ≡ map parsed_of (take l.words-index l.lines)
