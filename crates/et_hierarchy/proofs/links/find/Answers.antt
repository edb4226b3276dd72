use Rattle.std.proofs.Common.{◌∙◌}
use Rattle.et_hierarchy.proofs.Names.{place_within}
use Rattle.et_hierarchy.proofs.links.find.Goals as goal

pub returns-clause-within : goal.returns-clause-within
returns-clause-within c = place_within c.args.set.now c.args.name.now c.copied.result (c.copied.ensures ∙ (c.get.ensures.value ∙ c.requires c.args.name.now))
