use Rattle.std.proofs.Common.{rules, ◌≡◌, Err, sym, ◌∙◌, ap}
use Rattle.et_program.specs.declared.info.FieldInfo.{FieldInfo}
use Rattle.et_program.specs.Entries.{field_at}
use Rattle.et_refs.specs.Reads.{moment_over}
use Rattle.et_refs.specs.Steps.{over}
use Rattle.et_refs.proofs.Chains.{refusing, slot_held_by}
use Rattle.et_refs.proofs.slots.fields.field_slot.Goals as goal

pub returns-in_err-field-clause-is : goal.returns-in_err-field-clause-is
returns-in_err-field-clause-is g c =
    let heap = c.args.heap.now in
    let same : c.from_residual.result ≡ Err c.in_err-field.field-0.0 = search rules in
    λ m guest t go by.
    let e = moment_over c.args.program.now heap guest t in
    refusing e _ _ c.in_err-field.field-0.0 (λ x. go x.object x.slot) (c.in_err-field.ensures.is m (over heap guest) t (slot_held_by e c.args.reference go) by) same

pub returns-in_err-object-clause-is : goal.returns-in_err-object-clause-is
returns-in_err-object-clause-is g c =
    let heap = c.args.heap.now in
    let slot = (field_at c.args.program.now c.in_ok-field.field).slot in
    let same : c.from_residual-in_err-object.result ≡ Err c.in_err-object.field-0.0 = search rules in
    λ m guest t go by.
    let e = moment_over c.args.program.now heap guest t in
    refusing e _ _ c.in_err-object.field-0.0 (λ x. go x.object x.slot) (c.in_ok-field.ensures.is m (over heap guest) t (slot_held_by e c.args.reference go) by ∙ c.in_err-object.ensures.is guest t (λ o. go o slot)) same

pub returns-clause-is : goal.returns-clause-is
returns-clause-is g c =
    let heap = c.args.heap.now in
    let slot = (field_at c.args.program.now c.in_ok-field.field).slot in
    λ m guest t go by.
    let e = moment_over c.args.program.now heap guest t in
    c.in_ok-field.ensures.is m (over heap guest) t (slot_held_by e c.args.reference go) by
    ∙ (c.in_ok-object.ensures.is guest t (λ o. go o slot) ∙ ap (λ (x : FieldInfo). go c.in_ok-object.object x.slot) (sym c.field-info.ensures.value))
