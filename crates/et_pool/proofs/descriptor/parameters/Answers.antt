use Rattle.std.proofs.Common.{ℕ, ◌<◌, ◌+◌, List, length, Some, sym, ap, ◌∙◌, ◌||◌}
use Rattle.std.specs.Prelude.{option_map}
use Rattle.std.proofs.lemmas.List.{take_rest}
use Rattle.et_pool.specs.Descriptors.{width_of, is_floating}
use Rattle.et_pool.proofs.Types.{some_left, none_left, not_end, Behind, behind_end, behind_empty, behind_none, behind_more}
use Rattle.et_pool.proofs.descriptor.parameters.Goals as goal

pub returns-then-rest-eq41 : goal.returns-then-rest-eq41
returns-then-rest-eq41 c =
    let some : 0 < length c.types.rest.now = some_left c.types.rest.now c.types-test.ensures in
    ap (λ (r : List ℕ). Some (c.types.entries, c.types.floating, r)) (take_rest c.types.rest.now 1) ∙ behind_end c.args.s.now c.types.rest.now c.types.entries c.types.floating c.types.invariant some c.if-rest-eq41.true

pub returns-in_err-first : goal.returns-in_err-first
returns-in_err-first c =
    let some : 0 < length c.types.rest.now = some_left c.types.rest.now c.types-test.ensures in
    ap (option_map (λ x. (x.0, x.1, x.2.now))) c.from_residual.ensures ∙ behind_none c.args.s.now c.types.rest.now c.types.entries c.types.floating c.types.invariant some (not_end _ c.if-rest-eq41.false) (sym c.in_err-first.ensures.value)

pub types-preserved : goal.types-preserved
types-preserved c =
    let some : 0 < length c.types.rest.now = some_left c.types.rest.now c.types-test.ensures in
    let here : Behind c.args.s.now c.in_ok-first.after.now (c.types.entries + width_of c.in_ok-first.first.now) (c.types.floating || is_floating c.in_ok-first.first.now) = behind_more c.args.s.now c.types.rest.now c.types.entries c.types.floating c.in_ok-first.first.now c.in_ok-first.after.now c.types.invariant some (not_end _ c.if-rest-eq41.false) (sym c.in_ok-first.ensures.value) c.in_ok-first.ensures.shorter in
    rw (c.entries_of_type-entries.ensures.value, c.is_floating_type-floating.ensures) here

pub returns : goal.returns
returns c = behind_empty c.args.s.now c.types.rest.now c.types.entries c.types.floating c.types.invariant (none_left c.types.rest.now c.types-test.ensures)
