use Rattle.std.proofs.Common.{rules, ◌≡◌, ◌+◌, Err, Option, sym, ◌∙◌, ap}
use Rattle.std.specs.Prelude.{ℕ, nat_le, length}
use Rattle.et_state.specs.State.{kept_of}
use Rattle.et_state.specs.Words.{top}
use Rattle.et_program.specs.Referring.{pool_of_class}
use Rattle.et_program.specs.declared.info.FieldInfo.{FieldInfo}
use Rattle.et_event.specs.PoolOperands.Operand.{Operand}
use Rattle.et_event.specs.Checks.{ill_typed_unless}
use Rattle.et_event.specs.Operands.{operand_kind}
use Rattle.et_refs.specs.NamedFields.{named_as}
use Rattle.et_event.specs.Moments.{moment}
use Rattle.et_refs.proofs.Chains.{refusing}
use Rattle.et_refs.proofs.ClassChains.{read_then, reads, reads_field}
use Rattle.et_refs.proofs.ClassFitting.{may_read}
use Rattle.et_refs.proofs.slots.static_fields.read_field.Goals as goal

pub returns-in-Err-clause-is : goal.returns-in-Err-clause-is
returns-in-Err-clause-is c =
    let e = moment c.args.program.now c.args.machine.now c.args.thread in
    λ go. c.in-Err.ensures.is e c.args.place.now.site (reads e go) (c.requires.refers.pool ∙ ap (pool_of_class c.args.program.now) (sym c.class.ensures)) (sym c.index_of.ensures)

pub returns-in_err-width_fits-clause-is : goal.returns-in_err-width_fits-clause-is
returns-in_err-width_fits-clause-is c =
    let e = moment c.args.program.now c.args.machine.now c.args.thread in
    let m = named_as c.args.program.now c.class.result c.index_of.result c.in-Ok.named in
    let ops = (top c.args.machine.now.guest c.args.thread).operands in
    let room = (top c.args.machine.now.guest c.args.thread).room in
    let same : c.from_residual.result ≡ Err c.in_err-width_fits.field-0.0 = search rules in
    λ go.
    refusing e _ _ c.in_err-width_fits.field-0.0 go
    (c.in-Ok.ensures.is e c.args.place.now.site (reads e go) (c.requires.refers.pool ∙ ap (pool_of_class c.args.program.now) (sym c.class.ensures)) (sym c.index_of.ensures) ∙ (ap (λ (w : ℕ). ill_typed_unless e (nat_le (w + length ops) room) (reads_field e go m)) (sym c.width_of.ensures.value)
    ∙ c.in_err-width_fits.ensures.is e (reads_field e go m))) same

pub returns-in_err-field-clause-is : goal.returns-in_err-field-clause-is
returns-in_err-field-clause-is c =
    let e = moment c.args.program.now c.args.machine.now c.args.thread in
    let m = named_as c.args.program.now c.class.result c.index_of.result c.in-Ok.named in
    let ops = (top c.args.machine.now.guest c.args.thread).operands in
    let room = (top c.args.machine.now.guest c.args.thread).room in
    let same : c.from_residual-in_err-field.result ≡ Err c.in_err-field.field-0.0 = search rules in
    λ go.
    refusing e _ _ c.in_err-field.field-0.0 go
    (c.in-Ok.ensures.is e c.args.place.now.site (reads e go) (c.requires.refers.pool ∙ ap (pool_of_class c.args.program.now) (sym c.class.ensures)) (sym c.index_of.ensures) ∙ (ap (λ (w : ℕ). ill_typed_unless e (nat_le (w + length ops) room) (reads_field e go m)) (sym c.width_of.ensures.value)
    ∙ (c.in_ok-width_fits.ensures.is e (reads_field e go m) ∙ c.in_err-field.ensures.is m (kept_of c.args.machine.now) c.args.thread (read_then e m go) c.in-Ok.ensures.named))) same

pub returns-clause-is : goal.returns-clause-is
returns-clause-is c =
    let e = moment c.args.program.now c.args.machine.now c.args.thread in
    let m = named_as c.args.program.now c.class.result c.index_of.result c.in-Ok.named in
    let ops = (top c.args.machine.now.guest c.args.thread).operands in
    let room = (top c.args.machine.now.guest c.args.thread).room in
    λ go.
    c.in-Ok.ensures.is e c.args.place.now.site (reads e go) (c.requires.refers.pool ∙ ap (pool_of_class c.args.program.now) (sym c.class.ensures)) (sym c.index_of.ensures) ∙ (ap (λ (w : ℕ). ill_typed_unless e (nat_le (w + length ops) room) (reads_field e go m)) (sym c.width_of.ensures.value)
    ∙ (c.in_ok-width_fits.ensures.is e (reads_field e go m) ∙ (c.in_ok-field.ensures.is m (kept_of c.args.machine.now) c.args.thread (read_then e m go) c.in-Ok.ensures.named
    ∙ (ap (λ (x : FieldInfo). go (record { class = x.class; read = record { slot = x.slot; kind = operand_kind m.descriptor } })) (sym c.field-info.ensures.value)
    ∙ ap (λ (k : Option Operand). go (record { class = c.field-info.result.now.class; read = record { slot = c.field-info.result.now.slot; kind = k } })) (sym c.kind_of.ensures)))))

pub returns-clause-may : goal.returns-clause-may
returns-clause-may c =
    may_read c.args.program.now (top c.args.machine.now.guest c.args.thread) c.in-Ok.named.descriptor.now c.in_ok-field.field c.width_of.result c.field-info.result.now c.kind_of.result c.requires.program c.in_ok-field.ensures.field c.width_of.ensures.value c.in_ok-width_fits.ensures.fits c.field-info.ensures.value c.kind_of.ensures
