use Rattle.std.proofs.Common.{rules, ◌≡◌, ◌++◌, Err, drop, sym, ◌∙◌, ap, arith, lit≤}
use Rattle.et_base.specs.declared.value.Value.{Value}
use Rattle.et_event.specs.Moments.{begins, goes}
use Rattle.et_event.specs.Checks.{entries_of}
use Rattle.et_event.specs.Heap.{leaving_values}
use Rattle.et_refs.specs.NamedFields.{named_as}
use Rattle.et_refs.specs.Changes.{exchange_outcome}
use Rattle.et_refs.specs.Reads.{moment_over}
use Rattle.et_refs.proofs.Chains.{refusing, gets, gets_fitting, gets_slot, got, on_reference, on_fitting, put_back}
use Rattle.et_refs.proofs.slots.fields.read_field.Goals as goal

pub field_slot-requires-clause-answered : goal.field_slot-requires-clause-answered
field_slot-requires-clause-answered g c = (named_as c.args.program.now c.args.class c.args.index c.in-Ok.named, c.in-Ok.ensures.named)

pub field_slot-requires-clause-held : goal.field_slot-requires-clause-held
field_slot-requires-clause-held g c = λ o is. c.requires.sound.frame o (c.in_ok-reference.ensures.there o is)

pub returns-in_err-reference-clause-is : goal.returns-in_err-reference-clause-is
returns-in_err-reference-clause-is g c =
    let f = c.args.running.now.frame in
    let m = named_as c.args.program.now c.args.class c.args.index c.in-Ok.named in
    let refused : c.from_residual.result ≡ Err c.in_err-reference.field-0.0 = search rules in
    λ guest t at pool index same.
    let e = moment_over c.args.program.now c.args.heap.now guest t in
    refusing e _ _ c.in_err-reference.field-0.0 (exchange_outcome e at)
    (c.in-Ok.ensures.is e at (gets e at) pool index ∙ (on_reference e f (gets_fitting e at m) same ∙ c.in_err-reference.ensures.is e (gets_fitting e at m))) refused

pub returns-in_err-type_fits-clause-is : goal.returns-in_err-type_fits-clause-is
returns-in_err-type_fits-clause-is g c =
    let f = c.args.running.now.frame in
    let m = named_as c.args.program.now c.args.class c.args.index c.in-Ok.named in
    let r = c.in_ok-reference.reference in
    let below = drop 1 f.operands in
    let refused : c.from_residual-in_err-type_fits.result ≡ Err c.in_err-type_fits.field-0.0 = search rules in
    λ guest t at pool index same.
    let e = moment_over c.args.program.now c.args.heap.now guest t in
    refusing e _ _ c.in_err-type_fits.field-0.0 (exchange_outcome e at)
    (c.in-Ok.ensures.is e at (gets e at) pool index ∙ (on_reference e f (gets_fitting e at m) same ∙ (c.in_ok-reference.ensures.is e (gets_fitting e at m)
    ∙ (on_fitting e f m below (gets_slot e at m r below) same ∙ c.in_err-type_fits.ensures.is e (gets_slot e at m r below))))) refused

pub returns-in_err-at-clause-is : goal.returns-in_err-at-clause-is
returns-in_err-at-clause-is g c =
    let f = c.args.running.now.frame in
    let m = named_as c.args.program.now c.args.class c.args.index c.in-Ok.named in
    let r = c.in_ok-reference.reference in
    let below = drop 1 f.operands in
    let refused : c.from_residual-in_err-at.result ≡ Err c.in_err-at.field-0.0 = search rules in
    λ guest t at pool index same.
    let e = moment_over c.args.program.now c.args.heap.now guest t in
    refusing e _ _ c.in_err-at.field-0.0 (exchange_outcome e at)
    (c.in-Ok.ensures.is e at (gets e at) pool index ∙ (on_reference e f (gets_fitting e at m) same ∙ (c.in_ok-reference.ensures.is e (gets_fitting e at m)
    ∙ (on_fitting e f m below (gets_slot e at m r below) same ∙ (c.in_ok-type_fits.ensures.is e (gets_slot e at m r below) ∙ c.in_err-at.ensures.is m guest t (got e at m below) c.in-Ok.ensures.named))))) refused

pub returns-clause-is : goal.returns-clause-is
returns-clause-is g c =
    let f = c.args.running.now.frame in
    let m = named_as c.args.program.now c.args.class c.args.index c.in-Ok.named in
    let r = c.in_ok-reference.reference in
    let below = drop 1 f.operands in
    λ guest t at pool index same.
    let e = moment_over c.args.program.now c.args.heap.now guest t in
    c.in-Ok.ensures.is e at (gets e at) pool index ∙ (on_reference e f (gets_fitting e at m) same ∙ (c.in_ok-reference.ensures.is e (gets_fitting e at m)
    ∙ (on_fitting e f m below (gets_slot e at m r below) same ∙ (c.in_ok-type_fits.ensures.is e (gets_slot e at m r below) ∙ (c.in_ok-at.ensures.is m guest t (got e at m below) c.in-Ok.ensures.named
    ∙ (ap (λ (v : Value). goes (leaving_values e at (entries_of v ++ below) (begins e))) (sym c.field_value-value.ensures.value) ∙ put_back e at f 1 c.field_value-value.result same))))))

pub returns-clause-may : goal.returns-clause-may
returns-clause-may g c = record {
  taken = omega (arith, c.in_ok-reference.ensures.deep);
  few = lit≤ tt;
  room = omega (arith, c.field_value-value.ensures.few, c.in_ok-type_fits.ensures.fits);
  held = c.field_value-value.ensures.held c.args.program.now c.requires.sound.heap;
}
