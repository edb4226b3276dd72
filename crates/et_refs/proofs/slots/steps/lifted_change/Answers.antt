use Rattle.std.proofs.Common.{◌≡◌, ◌+◌, ◌≤◌, true, ap, ◌∙◌, arith}
use Rattle.et_event.specs.Heap.{heap_event}
use Rattle.et_event.specs.declared.rows.HeapRow.{HeapRow}
use Rattle.et_refs.specs.Changes.{is_number}
use Rattle.et_refs.specs.Reads.{moment_over}
use Rattle.et_refs.specs.declared.doing.changes.Store.{Store}
use Rattle.et_refs.proofs.Chains.{each_well}
use Rattle.et_refs.proofs.Over.{no_number}
use Rattle.et_refs.proofs.slots.steps.lifted_change.Goals as goal

pub returns-in-GetField-clause-is : goal.returns-in-GetField-clause-is
returns-in-GetField-clause-is g c = λ guest t at pool index same.
    let e = moment_over c.args.program.now c.args.heap.now guest t in
    ap (λ (r : HeapRow). heap_event e at r) c.in-GetField.is ∙ (c.read_field.ensures.is guest t at pool index same ∙ c.put.ensures.is e at)

pub returns-in-GetField-clause-may : goal.returns-in-GetField-clause-may
returns-in-GetField-clause-may g c = c.put.ensures.may c.args.heap.now c.args.running.now.frame c.read_field.ensures.may

pub returns-in-GetField-clause-number : goal.returns-in-GetField-clause-number
returns-in-GetField-clause-number g c = no_number c.put.result _ c.put.ensures.number

pub returns-in-LoadElement-clause-is : goal.returns-in-LoadElement-clause-is
returns-in-LoadElement-clause-is g c = λ guest t at pool index same.
    let e = moment_over c.args.program.now c.args.heap.now guest t in
    ap (λ (r : HeapRow). heap_event e at r) c.in-LoadElement.is ∙ (c.read_element.ensures.is guest t at same ∙ c.put-in-LoadElement.ensures.is e at)

pub returns-in-LoadElement-clause-may : goal.returns-in-LoadElement-clause-may
returns-in-LoadElement-clause-may g c = c.put-in-LoadElement.ensures.may c.args.heap.now c.args.running.now.frame c.read_element.ensures.may

pub returns-in-LoadElement-clause-number : goal.returns-in-LoadElement-clause-number
returns-in-LoadElement-clause-number g c = no_number c.put-in-LoadElement.result _ c.put-in-LoadElement.ensures.number

pub returns-in-ArrayLength-clause-is : goal.returns-in-ArrayLength-clause-is
returns-in-ArrayLength-clause-is g c = λ guest t at pool index same.
    let e = moment_over c.args.program.now c.args.heap.now guest t in
    ap (λ (r : HeapRow). heap_event e at r) c.in-ArrayLength.is ∙ (c.read_length.ensures.is guest t at same ∙ c.put-in-ArrayLength.ensures.is e at)

pub returns-in-ArrayLength-clause-may : goal.returns-in-ArrayLength-clause-may
returns-in-ArrayLength-clause-may g c = c.put-in-ArrayLength.ensures.may c.args.heap.now c.args.running.now.frame c.read_length.ensures.may

pub returns-in-ArrayLength-clause-number : goal.returns-in-ArrayLength-clause-number
returns-in-ArrayLength-clause-number g c = no_number c.put-in-ArrayLength.result _ c.put-in-ArrayLength.ensures.number

pub returns-in-PutField-clause-is : goal.returns-in-PutField-clause-is
returns-in-PutField-clause-is g c = λ guest t at pool index same.
    let e = moment_over c.args.program.now c.args.heap.now guest t in
    ap (λ (r : HeapRow). heap_event e at r) c.in-PutField.is ∙ (c.write_field.ensures.is guest t at pool index same ∙ c.stored.ensures.is e at)

pub returns-in-PutField-clause-may : goal.returns-in-PutField-clause-may
returns-in-PutField-clause-may g c = c.stored.ensures.may c.args.heap.now c.args.running.now.frame c.write_field.ensures.may

pub returns-in-PutField-clause-number : goal.returns-in-PutField-clause-number
returns-in-PutField-clause-number g c =
    c.stored.ensures.number c.write_field.new.visits (c.args.visits.now + 2)
    (each_well (λ (x : Store). is_number x.value ≡ true → c.write_field.new.visits ≤ c.args.visits.now + 2) c.write_field.result (λ x number. omega (arith, c.write_field.ensures.visits)))

pub returns-in-StoreElement-clause-is : goal.returns-in-StoreElement-clause-is
returns-in-StoreElement-clause-is g c = λ guest t at pool index same.
    let e = moment_over c.args.program.now c.args.heap.now guest t in
    ap (λ (r : HeapRow). heap_event e at r) c.in-StoreElement.is ∙ (c.write_element.ensures.is guest t at same ∙ c.stored-in-StoreElement.ensures.is e at)

pub returns-in-StoreElement-clause-may : goal.returns-in-StoreElement-clause-may
returns-in-StoreElement-clause-may g c = c.stored-in-StoreElement.ensures.may c.args.heap.now c.args.running.now.frame c.write_element.ensures.may

pub returns-in-StoreElement-clause-number : goal.returns-in-StoreElement-clause-number
returns-in-StoreElement-clause-number g c = c.stored-in-StoreElement.ensures.number c.write_element.new.visits (c.args.visits.now + 2) c.write_element.ensures.number
