use Rattle.std.proofs.Common.{◌≡◌, length, map, string_bytes}
use Rattle.et_command.specs.Words.{split}
use Rattle.et_command.proofs.SplitLemmas.{after}
use Rattle.et_command.proofs.split.split_words.Given as goal

abbrev pub invariant-options : goal.invariant-options
invariant-options l = after l.options.items (split (map string_bytes l.rest)) ≡ split (map string_bytes l.words)

abbrev pub decreases-options : goal.decreases-options
decreases-options l = length l.rest
