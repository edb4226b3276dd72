use Rattle.std.proofs.Common.{◌≡◌, ℕ, Bool, true, false, Option, None, sym, ◌∙◌, ap, arith}
use Rattle.std.specs.Prelude.{Result, if◌then◌else◌, option_and_then}
use Rattle.std.specs.Result.{result_ok}
use Rattle.et_heap.specs.Objects.{object_at}
use Rattle.et_state.specs.State.{MachineState}
use Rattle.et_program.specs.declared.errors.LinkError.{LinkError}
use Rattle.et_event.specs.Calls.{arguments_of, enters_method}
use Rattle.et_event.specs.Checks.{after_selection, ill_typed_unless}
use Rattle.et_event.specs.Moments.{moment, begins, object_class}
use Rattle.et_event.specs.Selected.{selected_on}
use Rattle.et_event.specs.Sites.{Site}
use Rattle.et_builtins.specs.Plans.{fits_in_kind, selection_in}
use Rattle.et_builtins.proofs.Planning.{on_receiver, selects_on, selection_room}
use Rattle.et_builtins.proofs.plans.receiver_plan.Goals as goal

-- NO RECEIVER

pub returns-in_default-clause-plan : goal.returns-in_default-clause-plan
returns-in_default-clause-plan g c = λ at same.
    let e = moment c.args.program.now c.args.machine.now c.args.thread in
    on_receiver e at c.args.kind (arguments_of e c.args.callee.now.count) c.args.callee.now.named c.args.callee.now.method None c.requires.receives (sym c.in_default.ensures.value)

pub returns-in_default-clause-entered : goal.returns-in_default-clause-entered
returns-in_default-clause-entered g c = λ at same.
    let e = moment c.args.program.now c.args.machine.now c.args.thread in
    ap (λ (o : Option ℕ). option_and_then (selected_on e at c.args.kind (arguments_of e c.args.callee.now.count) c.args.callee.now.named c.args.callee.now.method) o) c.in_default.ensures.value

-- ONE THAT DOESN'T FIT

pub returns-then-not-fits_kind : goal.returns-then-not-fits_kind
returns-then-not-fits_kind g c =
    let e = moment c.args.program.now c.args.machine.now c.args.thread in
    let x = c.args.callee.now in
    let args = arguments_of e x.count in
    let class : c.class_of-class.result ≡ object_class (begins e) c.in-Some.receiver = c.class_of-class.ensures.value ∙ ap (λ (m : MachineState). (object_at m.heap c.in-Some.receiver).class) c.machine.view_is in
    let unfit : fits_in_kind e c.args.kind args x.method c.in-Some.receiver ≡ false = sym (c.if-not-fits_kind.ensures.value c.in-Some.receiver class) in
    record {
      plan = λ at same.
          on_receiver e at c.args.kind args x.named x.method _ c.requires.receives (sym c.in-Some.ensures.value)
          ∙ ap (λ (b : Bool). ill_typed_unless e b (after_selection e (begins e) (selection_in e.program c.args.kind at.class x.named x.method (object_class (begins e) c.in-Some.receiver)) (enters_method e at (begins e) args))) unfit;
      entered = λ at same.
          sym (ap (λ (o : Option ℕ). option_and_then (selected_on e at c.args.kind args x.named x.method) o) (sym c.in-Some.ensures.value)
          ∙ (selects_on e at c.args.kind args x.named x.method c.in-Some.receiver c.requires.receives
          ∙ ap (λ (b : Bool). if b then result_ok (selection_in e.program c.args.kind at.class x.named x.method (object_class (begins e) c.in-Some.receiver)) else None) unfit));
      within = tt;
      passes = tt;
      visits = omega (arith, c.class_of-class.ensures.visits, c.if-not-fits_kind.ensures.visits);
    }

-- WHAT IS SELECTED

pub returns : goal.returns
returns g c =
    let e = moment c.args.program.now c.args.machine.now c.args.thread in
    let p = c.args.program.now in
    let x = c.args.callee.now in
    let args = arguments_of e x.count in
    let class : c.class_of-class.result ≡ object_class (begins e) c.in-Some.receiver = c.class_of-class.ensures.value ∙ ap (λ (m : MachineState). (object_at m.heap c.in-Some.receiver).class) c.machine.view_is in
    let fit : fits_in_kind e c.args.kind args x.method c.in-Some.receiver ≡ true = sym (c.if-not-fits_kind.ensures.value c.in-Some.receiver class) in
    let answer : (at : Site) → at.class ≡ x.current → selection_in p c.args.kind at.class x.named x.method (object_class (begins e) c.in-Some.receiver) ≡ c.selection-answer.result = λ at same.
    ap (λ (k : ℕ). selection_in p c.args.kind k x.named x.method (object_class (begins e) c.in-Some.receiver)) same
    ∙ (ap (λ (k : ℕ). selection_in p c.args.kind x.current x.named x.method k) (sym class) ∙ sym c.selection-answer.ensures.value) in
    record {
      plan = λ at same.
          on_receiver e at c.args.kind args x.named x.method _ c.requires.receives (sym c.in-Some.ensures.value)
          ∙ (ap (λ (b : Bool). ill_typed_unless e b (after_selection e (begins e) (selection_in p c.args.kind at.class x.named x.method (object_class (begins e) c.in-Some.receiver)) (enters_method e at (begins e) args))) fit
          ∙ (ap (λ (r : Result ℕ LinkError). after_selection e (begins e) r (enters_method e at (begins e) args)) (answer at same) ∙ c.selected.ensures.plan e at));
      entered = λ at same.
          c.selected.ensures.entered
          ∙ sym (ap (λ (o : Option ℕ). option_and_then (selected_on e at c.args.kind args x.named x.method) o) (sym c.in-Some.ensures.value)
          ∙ (selects_on e at c.args.kind args x.named x.method c.in-Some.receiver c.requires.receives
          ∙ (ap (λ (b : Bool). if b then result_ok (selection_in p c.args.kind at.class x.named x.method (object_class (begins e) c.in-Some.receiver)) else None) fit ∙ ap (λ (r : Result ℕ LinkError). result_ok r) (answer at same))));
      within = c.selected.ensures.within e c.selection-answer.ensures.within (selection_room e c.args.kind x.current x.named x.method c.class_of-class.result x.count c.selection-answer.result c.selection-answer.ensures.value c.requires.callee.callable.room) c.requires.callee.callable.arguments.operands;
      passes = c.selected.ensures.passes;
      visits = omega (arith, c.class_of-class.ensures.visits, c.if-not-fits_kind.ensures.visits);
    }
