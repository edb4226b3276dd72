use Rattle.std.proofs.Common.{ap, sym, ◌∙◌}
use Rattle.et_program.specs.Referring.{pool_of_class}
use Rattle.et_verify.proofs.Fields.{is_field, no_field}
use Rattle.et_verify.proofs.heap.field_type.Goals as goal

pub returns-then-not-is_field_at_index : goal.returns-then-not-is_field_at_index
returns-then-not-is_field_at_index c =
    no_field c.args.program.now c.class.result c.index_of.result c.args.site.now (c.requires.pool ∙ ap (pool_of_class c.args.program.now) (sym c.class.ensures)) c.index_of.ensures (sym c.is_field_at_index.ensures ∙ c.if-not-is_field_at_index.true)

pub returns : goal.returns
returns c =
    c.descriptor_at.ensures
    ∙ is_field c.args.program.now c.class.result c.index_of.result c.args.site.now (c.requires.pool ∙ ap (pool_of_class c.args.program.now) (sym c.class.ensures)) c.index_of.ensures (sym c.is_field_at_index.ensures ∙ c.if-not-is_field_at_index.false)
