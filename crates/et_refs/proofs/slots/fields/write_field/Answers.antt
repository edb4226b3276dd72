use Rattle.std.proofs.Common.{rules, ◌≡◌, ◌+◌, Err, true, drop, sym, ◌∙◌, ap, subst, arith, Contains}
use Rattle.et_base.specs.declared.value.Value.{Value}
use Rattle.et_heap.specs.Refs.{refs_of_value}
use Rattle.et_event.specs.Kinds.{kind_of_field}
use Rattle.et_event.specs.Moments.{begins, slot_written, goes}
use Rattle.et_event.specs.Heap.{leaving_values}
use Rattle.et_event.specs.Operands.{operand_kind}
use Rattle.et_refs.specs.NamedFields.{named_as}
use Rattle.et_refs.specs.Changes.{is_number, store_outcome}
use Rattle.et_refs.specs.Reads.{moment_over}
use Rattle.et_refs.proofs.Chains.{refusing, puts, puts_value, puts_slot, put, on_value, store_back}
use Rattle.et_refs.proofs.May.{may_store}
use Rattle.et_refs.proofs.Reading.{kept_number, kept_refers}
use Rattle.et_refs.proofs.slots.fields.write_field.Goals as goal

pub field_slot-requires-clause-answered : goal.field_slot-requires-clause-answered
field_slot-requires-clause-answered g c = (named_as c.args.program.now c.args.class c.args.index c.in-Ok.named, c.in-Ok.ensures.named)

pub field_slot-requires-clause-held : goal.field_slot-requires-clause-held
field_slot-requires-clause-held g c = λ o is. c.requires.sound.frame o (c.in_ok-reference.ensures.there o is)

pub returns-in_err-taken-clause-is : goal.returns-in_err-taken-clause-is
returns-in_err-taken-clause-is g c =
    let f = c.args.running.now.frame in
    let m = named_as c.args.program.now c.args.class c.args.index c.in-Ok.named in
    let refused : c.from_residual.result ≡ Err c.in_err-taken.field-0.0 = search rules in
    λ guest t at pool index same.
    let e = moment_over c.args.program.now c.args.heap.now guest t in
    refusing e _ _ c.in_err-taken.field-0.0 (store_outcome e at)
    (c.in-Ok.ensures.is e at (puts e at) pool index ∙ (on_value e f (kind_of_field m.descriptor) (puts_value e at m) same ∙ c.in_err-taken.ensures.is e (puts_value e at m))) refused

pub returns-in_err-reference-clause-is : goal.returns-in_err-reference-clause-is
returns-in_err-reference-clause-is g c =
    let f = c.args.running.now.frame in
    let m = named_as c.args.program.now c.args.class c.args.index c.in-Ok.named in
    let v = c.in_ok-taken.taken.value in
    let refused : c.from_residual-in_err-reference.result ≡ Err c.in_err-reference.field-0.0 = search rules in
    λ guest t at pool index same.
    let e = moment_over c.args.program.now c.args.heap.now guest t in
    refusing e _ _ c.in_err-reference.field-0.0 (store_outcome e at)
    (c.in-Ok.ensures.is e at (puts e at) pool index ∙ (on_value e f (kind_of_field m.descriptor) (puts_value e at m) same ∙ (c.in_ok-taken.ensures.is e (puts_value e at m)
    ∙ c.in_err-reference.ensures.is e (puts_slot e at m v)))) refused

pub returns-in_err-at-clause-is : goal.returns-in_err-at-clause-is
returns-in_err-at-clause-is g c =
    let f = c.args.running.now.frame in
    let m = named_as c.args.program.now c.args.class c.args.index c.in-Ok.named in
    let v = c.in_ok-taken.taken.value in
    let below = drop (c.in_ok-taken.taken.width + 1) f.operands in
    let refused : c.from_residual-in_err-at.result ≡ Err c.in_err-at.field-0.0 = search rules in
    λ guest t at pool index same.
    let e = moment_over c.args.program.now c.args.heap.now guest t in
    refusing e _ _ c.in_err-at.field-0.0 (store_outcome e at)
    (c.in-Ok.ensures.is e at (puts e at) pool index ∙ (on_value e f (kind_of_field m.descriptor) (puts_value e at m) same ∙ (c.in_ok-taken.ensures.is e (puts_value e at m)
    ∙ (c.in_ok-reference.ensures.is e (puts_slot e at m v) ∙ c.in_err-at.ensures.is m guest t (put e at m v below) c.in-Ok.ensures.named)))) refused

pub returns-clause-is : goal.returns-clause-is
returns-clause-is g c =
    let f = c.args.running.now.frame in
    let m = named_as c.args.program.now c.args.class c.args.index c.in-Ok.named in
    let v = c.in_ok-taken.taken.value in
    let x = c.in_ok-at.at in
    let n = c.in_ok-taken.taken.width + 1 in
    let below = drop n f.operands in
    λ guest t at pool index same.
    let e = moment_over c.args.program.now c.args.heap.now guest t in
    c.in-Ok.ensures.is e at (puts e at) pool index ∙ (on_value e f (kind_of_field m.descriptor) (puts_value e at m) same ∙ (c.in_ok-taken.ensures.is e (puts_value e at m)
    ∙ (c.in_ok-reference.ensures.is e (puts_slot e at m v) ∙ (c.in_ok-at.ensures.is m guest t (put e at m v below) c.in-Ok.ensures.named
    ∙ (ap (λ (w : Value). goes (slot_written e x.object x.slot w (leaving_values e at below (begins e)))) (sym c.narrowed.ensures) ∙ store_back e at f n x.object x.slot c.narrowed.result same)))))

pub returns-clause-may : goal.returns-clause-may
returns-clause-may g c =
    let type = c.in-Ok.named.descriptor.now in
    let v = c.in_ok-taken.taken.value in
    let x = c.in_ok-at.at in
    may_store c.args.heap.now c.args.running.now.frame (c.in_ok-taken.taken.width + 1) (operand_kind type) v c.narrowed.result x (omega (arith, c.in_ok-reference.ensures.deep)) (omega (arith, c.in_ok-taken.ensures.few))
    (c.in_ok-reference.ensures.there x.object c.in_ok-at.ensures.object) c.in_ok-at.ensures.at c.in_ok-taken.ensures.there c.in_ok-taken.ensures.kind
    (λ o inside. kept_refers type v o (subst (λ (w : Value). Contains (refs_of_value w) o) c.narrowed.ensures inside)) (λ h. kept_number type v (subst (λ (w : Value). is_number w ≡ true) c.narrowed.ensures h))
