use Rattle.std.proofs.Common.{rules, ◌≡◌, Bool, true, Err, ◌∙◌, ap}
use Rattle.et_event.specs.declared.errors.GuestError.TheVariants.{ArrayIndexOutOfBoundsException}
use Rattle.et_event.specs.Moments.{begins}
use Rattle.et_event.specs.Checks.{ill_typed_unless, throws_unless}
use Rattle.et_event.specs.Kinds.{are_elements, in_bounds}
use Rattle.et_event.specs.Sites.{natural_of}
use Rattle.et_heap.specs.Objects.{object_at}
use Rattle.et_program.specs.Entries.{class_at}
use Rattle.et_refs.specs.Reads.{moment_over}
use Rattle.et_refs.proofs.Chains.{refusing, elements_there, indexed}
use Rattle.et_refs.proofs.slots.elements.element_slot.Goals as goal

pub returns-in_err-object-clause-is : goal.returns-in_err-object-clause-is
returns-in_err-object-clause-is g c =
    let same : c.from_residual.result ≡ Err c.in_err-object.field-0.0 = search rules in
    λ guest t go.
    let e = moment_over c.args.program.now c.args.heap.now guest t in
    refusing e _ _ c.in_err-object.field-0.0 (λ x. go x.object x.slot) (c.in_err-object.ensures.is e (elements_there e c.args.elements c.args.index go)) same

pub returns-in_err-throws_unless-clause-is : goal.returns-in_err-throws_unless-clause-is
returns-in_err-throws_unless-clause-is g c =
    let o = c.in_ok-object.object in
    let i = c.args.index in
    let same : c.from_residual-in_err-throws_unless.result ≡ Err c.in_err-throws_unless.field-0.0 = search rules in
    let are : are_elements c.args.elements (class_at c.args.program.now (object_at c.args.heap.now o).class).info.element ≡ true = search rules in
    let bound : in_bounds i (object_at c.args.heap.now o).length ≡ c.in_bounds.result = search rules in
    λ guest t go.
    let e = moment_over c.args.program.now c.args.heap.now guest t in
    refusing e _ _ c.in_err-throws_unless.field-0.0 (λ x. go x.object x.slot)
    (c.in_ok-object.ensures.is e (elements_there e c.args.elements i go)
    ∙ (ap (λ (b : Bool). ill_typed_unless e b (indexed e i go o)) are
    ∙ (ap (λ (b : Bool). throws_unless e (begins e) ArrayIndexOutOfBoundsException b (go o (natural_of i))) bound ∙ c.in_err-throws_unless.ensures.is e (go o (natural_of i))))) same
