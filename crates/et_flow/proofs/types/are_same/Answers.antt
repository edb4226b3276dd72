use Rattle.std.proofs.Common.{arith, refl, ext_get_or}
use Rattle.et_flow.specs.declared.types.EntryType.TheVariants.{Free}
use Rattle.et_flow.proofs.types.are_same.Goals as goal

pub returns : goal.returns
returns c = (λ e. ext_get_or Free c.args.some.now c.args.others.now c.if-some-others.false (λ k lt. c.loop-i.invariant k (omega (arith, lt, c.loop-i-test.false))), λ e. refl)
