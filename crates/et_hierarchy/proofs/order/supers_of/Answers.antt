use Rattle.std.proofs.Common.{◌∙◌, sym, ap}
use Rattle.et_hierarchy.specs.Ancestry.{Ancestry}
use Rattle.et_hierarchy.proofs.AddLemmas.{row_at}
use Rattle.et_hierarchy.proofs.order.supers_of.Goals as goal

pub returns : goal.returns
returns c = c.supers.ensures ∙ ap (λ (r : Ancestry). r.supers) (sym (row_at c.args.rows.now c.args.class _ c.requires c.index-rows-class.is))
