use Rattle.std.proofs.Common.{ℕ, ap, ◌∙◌, sym, arith, List}
use Rattle.std.specs.Prelude.{slice_get}
use Rattle.std.proofs.lemmas.List.{drop_all}
use Rattle.et_pool.specs.Text.{units_of}
use Rattle.et_strings.proofs.decoding.unit_at.Goals as goal

pub returns : goal.returns
unfolding units_of
returns c = sym (ap (λ (l : List ℕ). slice_get (units_of l) c.units.left) (drop_all c.units.at c.args.s.now (omega arith))) ∙ c.units.invariant.1
