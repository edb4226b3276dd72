use Rattle.std.proofs.Common.{◌≡◌, ℕ, Bool, true, Option, rules, sym, ◌∙◌, ap, subst}
use Rattle.et_program.specs.BuiltIns.{is_deferred}
use Rattle.et_program.specs.Entries.{is_static}
use Rattle.et_program.specs.Members.{kept}
use Rattle.et_event.specs.declared.errors.GuestError.TheVariants.{IncompatibleClassChangeError}
use Rattle.et_event.specs.declared.rows.CallKind.{CallKind}
use Rattle.et_event.specs.Calls.{arguments_of, dispatched, is_as, is_static_call}
use Rattle.et_event.specs.Checks.{throws_unless}
use Rattle.et_event.specs.Moments.{moment, begins}
use Rattle.et_builtins.specs.Plans.{call_planned}
use Rattle.et_builtins.proofs.Planning.{from_by}
use Rattle.et_builtins.proofs.plans.resolved_plan.Goals as goal

pub returns-in-Static-clause-plan : goal.returns-in-Static-clause-plan
returns-in-Static-clause-plan g c = λ at same.
    let e = moment c.args.program.now c.args.machine.now c.args.thread in
    let x = c.args.callee in
    let wanted : is_as (is_static_call c.args.kind) (is_static e.program x.method) ≡ true = search rules in
    ap (λ (b : Bool). throws_unless e (begins e) IncompatibleClassChangeError b (dispatched e at c.args.kind (arguments_of e x.count) x.named x.method)) wanted
    ∙ subst (λ (k : CallKind). dispatched e at k (arguments_of e x.count) x.named x.method ≡ call_planned e at c.static_plan.result) (sym c.in-Static.is) (c.static_plan.ensures.plan at x.named)

pub returns-in_default : goal.returns-in_default
returns-in_default g c =
    let e = moment c.args.program.now c.args.machine.now c.args.thread in
    let x = c.args.callee in
    let wanted : is_as (is_static_call c.args.kind) (is_static e.program x.method) ≡ true = search rules in
    record {
      plan = λ at same.
          ap (λ (b : Bool). throws_unless e (begins e) IncompatibleClassChangeError b (dispatched e at c.args.kind (arguments_of e x.count) x.named x.method)) wanted
          ∙ c.receiver_plan.ensures.plan at same;
      deferred = λ at same.
          ap (λ (r : Option ℕ). kept (is_deferred e.program) r) (c.receiver_plan.ensures.entered at same ∙ sym (from_by e at c.args.kind x.count x.named x.method true wanted));
      within = c.receiver_plan.ensures.within;
      passes = c.receiver_plan.ensures.passes;
      visits = c.receiver_plan.ensures.visits;
    }
