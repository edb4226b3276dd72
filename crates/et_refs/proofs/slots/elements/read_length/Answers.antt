use Rattle.std.proofs.Common.{rules, ◌≡◌, ◌++◌, Bool, true, Err, drop, ◌∙◌, ap, pos, to_z, w32}
use Rattle.et_base.specs.declared.value.Value.{Value}
use Rattle.et_base.specs.declared.value.Value.TheVariants.{Int}
use Rattle.et_event.specs.Moments.{begins, goes}
use Rattle.et_event.specs.Checks.{entries_of, ill_typed_unless}
use Rattle.et_event.specs.Heap.{leaving_values}
use Rattle.et_event.specs.Kinds.{is_array_element}
use Rattle.et_heap.specs.Objects.{object_at}
use Rattle.et_program.specs.Entries.{class_at}
use Rattle.et_refs.specs.Changes.{exchange_outcome}
use Rattle.et_refs.specs.Reads.{moment_over}
use Rattle.et_refs.proofs.Chains.{refusing, measures, measures_array, measured, on_reference, put_back}
use Rattle.et_refs.proofs.slots.elements.read_length.Goals as goal

pub returns-in_err-reference-clause-is : goal.returns-in_err-reference-clause-is
returns-in_err-reference-clause-is g c =
    let f = c.args.running.now.frame in
    let refused : c.from_residual.result ≡ Err c.in_err-reference.field-0.0 = search rules in
    λ guest t at same.
    let e = moment_over c.args.program.now c.args.heap.now guest t in
    refusing e _ _ c.in_err-reference.field-0.0 (exchange_outcome e at) (on_reference e f (measures e at) same ∙ c.in_err-reference.ensures.is e (measures e at)) refused

pub returns-in_err-object-clause-is : goal.returns-in_err-object-clause-is
returns-in_err-object-clause-is g c =
    let f = c.args.running.now.frame in
    let below = drop 1 f.operands in
    let refused : c.from_residual-in_err-object.result ≡ Err c.in_err-object.field-0.0 = search rules in
    λ guest t at same.
    let e = moment_over c.args.program.now c.args.heap.now guest t in
    refusing e _ _ c.in_err-object.field-0.0 (exchange_outcome e at)
    (on_reference e f (measures e at) same ∙ (c.in_ok-reference.ensures.is e (measures e at) ∙ c.in_err-object.ensures.is e (measures_array e at below))) refused

pub returns-in_err-ill_typed_unless-clause-is : goal.returns-in_err-ill_typed_unless-clause-is
returns-in_err-ill_typed_unless-clause-is g c =
    let f = c.args.running.now.frame in
    let o = c.in_ok-object.object in
    let below = drop 1 f.operands in
    let refused : c.from_residual-in_err-ill_typed_unless.result ≡ Err c.in_err-ill_typed_unless.field-0.0 = search rules in
    let array : is_array_element (class_at c.args.program.now (object_at c.args.heap.now o).class).info.element ≡ c.is_array.result = search rules in
    λ guest t at same.
    let e = moment_over c.args.program.now c.args.heap.now guest t in
    refusing e _ _ c.in_err-ill_typed_unless.field-0.0 (exchange_outcome e at)
    (on_reference e f (measures e at) same ∙ (c.in_ok-reference.ensures.is e (measures e at) ∙ (c.in_ok-object.ensures.is e (measures_array e at below)
    ∙ (ap (λ (b : Bool). ill_typed_unless e b (measured e at below o)) array ∙ c.in_err-ill_typed_unless.ensures.is e (measured e at below o))))) refused

pub returns-clause-is : goal.returns-clause-is
returns-clause-is g c =
    let f = c.args.running.now.frame in
    let o = c.in_ok-object.object in
    let below = drop 1 f.operands in
    let array : is_array_element (class_at c.args.program.now (object_at c.args.heap.now o).class).info.element ≡ true = search rules in
    let value : Value = Int (to_z w32 c.length_of-length.result) in
    let long : Int (pos (object_at c.args.heap.now o).length) ≡ value = search rules in
    λ guest t at same.
    let e = moment_over c.args.program.now c.args.heap.now guest t in
    on_reference e f (measures e at) same ∙ (c.in_ok-reference.ensures.is e (measures e at) ∙ (c.in_ok-object.ensures.is e (measures_array e at below)
    ∙ (ap (λ (b : Bool). ill_typed_unless e b (measured e at below o)) array
    ∙ (ap (λ (v : Value). goes (leaving_values e at (entries_of v ++ below) (begins e))) long ∙ put_back e at f 1 value same))))
