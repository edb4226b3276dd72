use Rattle.std.proofs.Common.{ℕ, Bool, sym, ◌∙◌, ap}
use Rattle.et_program.specs.Resolution.{select, select_special}
use Rattle.et_event.specs.declared.rows.CallKind.{CallKind}
use Rattle.et_builtins.specs.Plans.{selection_in}
use Rattle.et_builtins.proofs.Planning.{other_selection}
use Rattle.et_builtins.proofs.plans.selection.Goals as goal

pub returns-in-Special-clause-value : goal.returns-in-Special-clause-value
returns-in-Special-clause-value c =
    let p = c.args.program.now in
    let x = c.args.callee.now in
    c.select_special.ensures.value ∙ (ap (λ (k : ℕ). select_special p x.current k x.method) c.special_class-from.ensures.value ∙ ap (λ (k : CallKind). selection_in p k x.current x.named x.method c.args.class) (sym c.in-Special.is))

pub returns-in_default-clause-value : goal.returns-in_default-clause-value
returns-in_default-clause-value c =
    let p = c.args.program.now in
    let x = c.args.callee.now in
    c.select.ensures.value ∙ (ap (λ (b : Bool). select p c.args.class x.method b) c.is_interface_call.ensures ∙ other_selection p c.args.kind x.current x.named x.method c.args.class c.in_default.not-Special)
