use Rattle.std.proofs.Common.{◌≡◌, length}
use Rattle.std.specs.List.{list_all}
use Rattle.et_listing.specs.Lines.{pairs, is_word_pair}
use Rattle.et_listing.proofs.shape.are_pairs.Given as goal

abbrev pub invariant-loop-rest : goal.invariant-loop-rest
invariant-loop-rest l = list_all is_word_pair (pairs l.rest) ≡ list_all is_word_pair (pairs l.words)

abbrev pub decreases-loop-rest : goal.decreases-loop-rest
decreases-loop-rest l = length l.rest
