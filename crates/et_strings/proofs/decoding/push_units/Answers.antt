use Rattle.std.proofs.Common.{ℕ, ◌++◌, ap, ◌∙◌, sym, arith, List, append-nil}
use Rattle.std.proofs.lemmas.List.{drop_all}
use Rattle.et_pool.specs.Text.{units_of}
use Rattle.et_strings.proofs.decoding.push_units.Goals as goal

pub returns : goal.returns
unfolding units_of
returns c = sym (append-nil _) ∙ (sym (ap (λ (l : List ℕ). c.units.units.items ++ units_of l) (drop_all c.units.at c.args.s.now (omega arith))) ∙ c.units.invariant.1)
