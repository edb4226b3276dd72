use Rattle.std.proofs.Common.{◌≡◌, length, map}
use Rattle.std.specs.List.{list_all}
use Rattle.et_listing.specs.Lines.{pairs}
use Rattle.et_asm.specs.Symbols.{places}
use Rattle.et_asm.specs.Code.{is_defined}
use Rattle.et_asm.proofs.check.pairs_defined.Given as goal

abbrev pub invariant-loop-rest : goal.invariant-loop-rest
invariant-loop-rest l =
    list_all (is_defined (places l.labels.entries)) (map (λ p. p.1) (pairs l.rest)) ≡ list_all (is_defined (places l.labels.entries)) (map (λ p. p.1) (pairs l.words))

abbrev pub decreases-loop-rest : goal.decreases-loop-rest
decreases-loop-rest l = length l.rest
