use Rattle.std.proofs.Common.{◌∙◌, ◌++◌, ap, None, Option, arith}
use Rattle.std.specs.Option.{option_to_list}
use Rattle.et_pool.specs.Entries.{Item}
use Rattle.et_pool.specs.Looks.{named_by}
use Rattle.et_pool.specs.declared.tags.TheConstants.{CLASS}
use Rattle.et_program.specs.ArrayTypes.{if_array}
use Rattle.et_link.proofs.Lists.{filter_map_more, pieces}
use Rattle.et_link.proofs.linking.arrays.add_named.Goals as goal

pub loop-place-preserved : goal.loop-place-preserved
loop-place-preserved c =
    pieces c.args.list.now.items _ _ _ c.loop-place.list.items _
    (c.in_ok-add_if_array.ensures ∙ ap (λ o. c.loop-place.list.items ++ option_to_list (if_array o)) c.class_name_at.ensures)
    c.loop-place.invariant
    (filter_map_more (λ (s : Option Item). if_array (named_by c.args.pool.now.slots CLASS s)) c.args.pool.now.slots c.loop-place.place None (omega arith))
