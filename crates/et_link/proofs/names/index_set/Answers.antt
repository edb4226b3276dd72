use Rattle.std.proofs.Common.{◌≡◌, ◌∙◌, arith, ap, subst, cond, Some, None}
use Rattle.std.specs.Str.{bytes_eq}
use Rattle.std.specs.Option.{option_or}
use Rattle.et_program.specs.Indices.{number_of_name}
use Rattle.et_hierarchy.specs.Outline.{Outline}
use Rattle.et_program.proofs.IndexLemmas.{position_step}
use Rattle.et_link.proofs.names.index_set.Goals as goal

pub loop-i-preserved : goal.loop-i-preserved
loop-i-preserved c =
    let n : c.number.result ≡ c.loop-i.i = c.number.ensures.value ∙ c.in_ok-number.ensures in
    λ name. position_step (λ (x : Outline). bytes_eq name x.name) c.args.set.now c.loop-i.i c.index-set-i.result _ _ _ (omega arith) c.index-set-i.is
    (ap (bytes_eq name) c.name.ensures) (c.loop-i.invariant name)
    (subst (λ k. number_of_name c.put.new.self name ≡ option_or (number_of_name c.loop-i.places name) (cond (bytes_eq name c.name.result.now) (Some k) None)) n (c.in_ok-put.ensures.ok name))
