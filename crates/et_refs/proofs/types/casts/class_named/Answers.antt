use Rattle.std.proofs.Common.{ℕ, ◌<◌, length, sym, ap, subst, ◌∙◌}
use Rattle.et_program.specs.Referring.{pool_of_class}
use Rattle.et_refs.proofs.ReferredClasses.{class_entry}
use Rattle.et_refs.proofs.types.casts.class_named.Goals as goal

pub returns-in-Some-clause-named : goal.returns-in-Some-clause-named
returns-in-Some-clause-named c = λ p class pool. record {
  class = subst (λ (k : ℕ). k < length p.classes) (sym c.class.ensures) class;
  entry = class_entry p c.class.result c.index_of.result c.args.place.now.site c.in-Some.name.now (pool ∙ ap (pool_of_class p) (sym c.class.ensures)) c.index_of.ensures c.in-Some.ensures;
}
