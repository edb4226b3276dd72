use Rattle.std.proofs.Common.{◌∙◌, arith}
use Rattle.et_io.proofs.Taking.{takes_on_slice, rest_of_nothing}
use Rattle.et_io.proofs.putting.put_all.Goals as goal

pub loop-rest-preserved : goal.loop-rest-preserved
loop-rest-preserved g c = (
  takes_on_slice _ _ _ _ _ _ c.loop-rest.invariant.0 (c.in-Took.ensures.takes.0.0 (grind (arith, c.loop-rest-test.ensures))) c.in-Took.ensures.takes.1,
  c.in-Took.ensures.failed ∙ c.loop-rest.invariant.1,
  λ e. let none = rest_of_nothing _ _ _ _ c.loop-rest.invariant.0 e in absurd (grind (arith, none, c.loop-rest-test.ensures)),
)
