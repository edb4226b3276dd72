use Rattle.std.proofs.Common.{rules, ◌≡◌, Err, arith}
use Rattle.et_heap.specs.Objects.{IsHeld}
use Rattle.et_refs.specs.Reads.{moment_over}
use Rattle.et_refs.proofs.Chains.{refusing, held_by}
use Rattle.et_refs.proofs.Reading.{class_within}
use Rattle.et_refs.proofs.slots.fields.holder.Goals as goal

pub is_subclass-requires : goal.is_subclass-requires
is_subclass-requires g c =
    let held : IsHeld c.args.heap.now c.in_ok-object.object = search rules in
    omega (arith, class_within c.args.program.now c.args.heap.now c.in_ok-object.object c.requires.sound held, c.class_of-class.ensures.value)

pub returns-in_err-object-clause-is : goal.returns-in_err-object-clause-is
returns-in_err-object-clause-is g c =
    let same : c.from_residual.result ≡ Err c.in_err-object.field-0.0 = search rules in
    λ guest t go.
    let e = moment_over c.args.program.now c.args.heap.now guest t in
    refusing e _ _ c.in_err-object.field-0.0 go (c.in_err-object.ensures.is e (held_by e c.args.field go)) same
