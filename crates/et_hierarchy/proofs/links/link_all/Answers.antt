use Rattle.std.proofs.Common.{map, ◌∙◌, ap, arith}
use Rattle.std.proofs.lemmas.List.{take_all}
use Rattle.et_hierarchy.specs.Links.{links_of}
use Rattle.et_hierarchy.proofs.LinkLemmas.{table_within}
use Rattle.et_hierarchy.proofs.links.link_all.Goals as goal

pub returns-clause-within : goal.returns-clause-within
returns-clause-within c =
    table_within c.args.set.now _ (c.loop-class.invariant ∙ ap (map (links_of c.args.set.now)) (take_all c.loop-class.class-index c.args.set.now (omega arith)))
