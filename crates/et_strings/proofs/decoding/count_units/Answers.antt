use Rattle.std.proofs.Common.{ℕ, length, ap, arith, List}
use Rattle.std.proofs.lemmas.List.{drop_all}
use Rattle.et_pool.specs.Text.{units_of}
use Rattle.et_strings.proofs.decoding.count_units.Goals as goal

pub returns-clause-value : goal.returns-clause-value
unfolding units_of
returns-clause-value c = omega (arith, c.units.invariant.2, ap (λ (l : List ℕ). length (units_of l)) (drop_all c.units.at c.args.s.now (omega arith)))
