use Rattle.std.proofs.Common.{◌≡◌, length}
use Rattle.std.specs.List.{list_all}
use Rattle.et_listing.specs.Words.{is_int32}
use Rattle.et_listing.specs.Lines.{pairs}
use Rattle.et_listing.proofs.shape.keys_fit.Given as goal

abbrev pub invariant-loop-rest : goal.invariant-loop-rest
invariant-loop-rest l = list_all (λ p. is_int32 p.0) (pairs l.rest) ≡ list_all (λ p. is_int32 p.0) (pairs l.words)

abbrev pub decreases-loop-rest : goal.decreases-loop-rest
decreases-loop-rest l = length l.rest
