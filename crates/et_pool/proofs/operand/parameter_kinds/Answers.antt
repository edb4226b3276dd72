use Rattle.std.proofs.Common.{ℕ, ◌<◌, ◌+◌, ◌++◌, [], ◌∷◌, List, length, Some, sym, ap, ◌∙◌}
use Rattle.std.proofs.lemmas.List.{take_rest}
use Rattle.et_pool.specs.Descriptors.{width_of}
use Rattle.et_pool.specs.Operands.{operand_kind}
use Rattle.et_pool.proofs.Types.{some_left, none_left, not_end}
use Rattle.et_pool.proofs.Shaped.{Walked, walked_end, walked_empty, walked_none, walked_more}
use Rattle.et_pool.proofs.operand.parameter_kinds.Goals as goal

pub returns-then-rest-eq41 : goal.returns-then-rest-eq41
returns-then-rest-eq41 c =
    let some : 0 < length c.types.rest.now = some_left c.types.rest.now c.types-test.ensures in
    ap (λ (r : List ℕ). Some (c.types.kinds.items, c.types.entries, r)) (take_rest c.types.rest.now 1) ∙ walked_end c.args.s.now c.types.rest.now c.types.kinds.items c.types.entries c.types.invariant some c.if-rest-eq41.true

pub returns-in_default : goal.returns-in_default
returns-in_default c =
    let some : 0 < length c.types.rest.now = some_left c.types.rest.now c.types-test.ensures in
    walked_none c.args.s.now c.types.rest.now c.types.kinds.items c.types.entries c.types.invariant some (not_end _ c.if-rest-eq41.false) (sym c.in_default.ensures.value)

pub types-preserved : goal.types-preserved
types-preserved c =
    let some : 0 < length c.types.rest.now = some_left c.types.rest.now c.types-test.ensures in
    let here : Walked c.args.s.now c.in-Some.after.now (c.types.kinds.items ++ operand_kind c.in-Some.first.now ∷ []) (c.types.entries + width_of c.in-Some.first.now) = walked_more c.args.s.now c.types.rest.now c.types.kinds.items c.types.entries c.in-Some.first.now c.in-Some.after.now c.types.invariant some (not_end _ c.if-rest-eq41.false) (sym c.in-Some.ensures.value) c.in-Some.ensures.shorter in
    rw (c.entries_of_type-entries.ensures.value, c.in_ok-push.ensures.items, c.kind_of.ensures) here

pub returns : goal.returns
returns c = walked_empty c.args.s.now c.types.rest.now c.types.kinds.items c.types.entries c.types.invariant (none_left c.types.rest.now c.types-test.ensures)
