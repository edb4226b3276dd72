use Rattle.std.proofs.Common.{◌≡◌, None, sym, subst, rules}
use Rattle.std.specs.Prelude.{slice_get}
use Rattle.et_program.specs.declared.info.FieldInfo.{FieldInfo}
use Rattle.et_event.specs.Moments.{moment}
use Rattle.et_initialize.specs.Asked.{MayWrite}
use Rattle.et_initialize.proofs.Strings.{no_pool_field}
use Rattle.et_initialize.proofs.constants.set_field.Goals as goal

pub returns-in-None : goal.returns-in-None
returns-in-None c =
    let m = c.args.machine.now in
    let none : slice_get c.args.program.now.pools c.field-info.result.now.class ≡ None = search rules in
    no_pool_field (moment c.args.program.now m c.args.thread) c.args.field m c.args.out.now c.field-info.result.now c.field-info.ensures.value none

pub set_constant-requires-clause-writes : goal.set_constant-requires-clause-writes
set_constant-requires-clause-writes c = subst (λ (i : FieldInfo). MayWrite c.args.machine.now i.slot) (sym c.field-info.ensures.value) c.requires.writes
