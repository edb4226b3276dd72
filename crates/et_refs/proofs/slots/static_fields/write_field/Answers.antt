use Rattle.std.proofs.Common.{rules, ◌≡◌, Err, drop, sym, ◌∙◌, ap}
use Rattle.et_base.specs.declared.value.Value.{Value}
use Rattle.et_state.specs.State.{kept_of}
use Rattle.et_state.specs.Words.{top}
use Rattle.et_program.specs.Referring.{pool_of_class}
use Rattle.et_program.specs.declared.info.FieldInfo.{FieldInfo}
use Rattle.et_event.specs.Kinds.{narrowed}
use Rattle.et_refs.specs.NamedFields.{named_as}
use Rattle.et_event.specs.Moments.{moment}
use Rattle.et_refs.proofs.Chains.{refusing}
use Rattle.et_refs.specs.declared.doing.accesses.Access.TheVariants as access
use Rattle.et_refs.specs.Accesses.{wanted_outcome}
use Rattle.et_refs.proofs.ClassChains.{puts, puts_field, put}
use Rattle.et_refs.proofs.ClassFitting.{may_write}
use Rattle.et_refs.proofs.slots.static_fields.write_field.Goals as goal

pub returns-in-Err-clause-is : goal.returns-in-Err-clause-is
returns-in-Err-clause-is c =
    let e = moment c.args.program.now c.args.machine.now c.args.thread in
    let at = c.args.place.now.site in
    c.in-Err.ensures.is e at (puts e at) (c.requires.refers.pool ∙ ap (pool_of_class c.args.program.now) (sym c.class.ensures)) (sym c.index_of.ensures)

pub returns-in_err-taken-clause-is : goal.returns-in_err-taken-clause-is
returns-in_err-taken-clause-is c =
    let e = moment c.args.program.now c.args.machine.now c.args.thread in
    let at = c.args.place.now.site in
    let m = named_as c.args.program.now c.class.result c.index_of.result c.in-Ok.named in
    let same : c.from_residual.result ≡ Err c.in_err-taken.field-0.0 = search rules in
    refusing e _ _ c.in_err-taken.field-0.0 (wanted_outcome e at) (c.in-Ok.ensures.is e at (puts e at) (c.requires.refers.pool ∙ ap (pool_of_class c.args.program.now) (sym c.class.ensures)) (sym c.index_of.ensures) ∙ c.in_err-taken.ensures.is e (puts_field e at m)) same

pub returns-in_err-field-clause-is : goal.returns-in_err-field-clause-is
returns-in_err-field-clause-is c =
    let e = moment c.args.program.now c.args.machine.now c.args.thread in
    let at = c.args.place.now.site in
    let m = named_as c.args.program.now c.class.result c.index_of.result c.in-Ok.named in
    let v = c.in_ok-taken.taken.value in
    let below = drop c.in_ok-taken.taken.width (top c.args.machine.now.guest c.args.thread).operands in
    let same : c.from_residual-in_err-field.result ≡ Err c.in_err-field.field-0.0 = search rules in
    refusing e _ _ c.in_err-field.field-0.0 (wanted_outcome e at)
    (c.in-Ok.ensures.is e at (puts e at) (c.requires.refers.pool ∙ ap (pool_of_class c.args.program.now) (sym c.class.ensures)) (sym c.index_of.ensures) ∙ (c.in_ok-taken.ensures.is e (puts_field e at m) ∙ c.in_err-field.ensures.is m (kept_of c.args.machine.now) c.args.thread (put e at m v below) c.in-Ok.ensures.named)) same

pub returns-clause-is : goal.returns-clause-is
returns-clause-is c =
    let e = moment c.args.program.now c.args.machine.now c.args.thread in
    let at = c.args.place.now.site in
    let m = named_as c.args.program.now c.class.result c.index_of.result c.in-Ok.named in
    let v = c.in_ok-taken.taken.value in
    let width = c.in_ok-taken.taken.width in
    let below = drop width (top c.args.machine.now.guest c.args.thread).operands in
    c.in-Ok.ensures.is e at (puts e at) (c.requires.refers.pool ∙ ap (pool_of_class c.args.program.now) (sym c.class.ensures)) (sym c.index_of.ensures) ∙ (c.in_ok-taken.ensures.is e (puts_field e at m) ∙ (c.in_ok-field.ensures.is m (kept_of c.args.machine.now) c.args.thread (put e at m v below) c.in-Ok.ensures.named
    ∙ (ap (λ (x : FieldInfo). wanted_outcome e at (record { class = x.class; access = access.Write (record { slot = x.slot; taken = width; value = narrowed m.descriptor v }) })) (sym c.field-info.ensures.value)
    ∙ ap (λ (w : Value). wanted_outcome e at (record { class = c.field-info.result.now.class; access = access.Write (record { slot = c.field-info.result.now.slot; taken = width; value = w }) })) (sym c.narrowed.ensures))))

pub returns-clause-may : goal.returns-clause-may
returns-clause-may c =
    may_write c.args.program.now (top c.args.machine.now.guest c.args.thread) c.in-Ok.named.descriptor.now c.in_ok-field.field c.in_ok-taken.taken.width c.in_ok-taken.taken.value c.narrowed.result c.field-info.result.now
    c.requires.program c.in_ok-field.ensures.field c.in_ok-taken.ensures.deep c.in_ok-taken.ensures.few c.in_ok-taken.ensures.there c.narrowed.ensures c.field-info.ensures.value
