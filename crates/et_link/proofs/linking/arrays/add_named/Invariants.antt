use Rattle.std.proofs.Common.{◌≡◌, ◌++◌, take}
use Rattle.std.specs.List.{filter_map}
use Rattle.et_pool.specs.Looks.{named_by}
use Rattle.et_pool.specs.declared.tags.TheConstants.{CLASS}
use Rattle.et_program.specs.ArrayTypes.{if_array}
use Rattle.et_link.proofs.linking.arrays.add_named.Given as goal

abbrev pub invariant-loop-place : goal.invariant-loop-place
invariant-loop-place l = l.list.items ≡ l.initial.list.items ++ filter_map (λ s. if_array (named_by l.pool.slots CLASS s)) (take l.place l.pool.slots)
