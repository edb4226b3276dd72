use Rattle.std.proofs.Common.{◌∙◌, drop, length, ap, arith}
use Rattle.std.proofs.lemmas.Bool.{OnTrue_at}
use Rattle.et_hierarchy.proofs.AddLemmas.{record_is}
use Rattle.et_hierarchy.proofs.OnceLemmas.{upward_is}
use Rattle.et_hierarchy.proofs.tables.row_of.Goals as goal

pub behind-requires : goal.behind-requires
behind-requires c = omega (arith, ap length c.requires.upward)

pub returns : goal.returns
returns c = c.new-2.ensures ∙ record_is _ _ _ _ _ _ (c.in_ok-supers.ensures ∙ ap (drop 1) c.requires.upward) c.in_ok-superinterfaces.ensures c.in_ok-field_order.ensures

pub returns-then-looks_upward : goal.returns-then-looks_upward
returns-then-looks_upward c =
    c.new.ensures
    ∙ record_is _ _ _ _ _ _ (c.in_ok-supers.ensures ∙ ap (drop 1) c.requires.upward) c.in_ok-superinterfaces.ensures
    (upward_is c.args.links.now c.args.rows.now c.args.class c.args.upward (OnTrue_at c.if-looks_upward.true c.looks_upward.ensures) c.requires.once c.requires.first c.requires.new c.requires.upward)
