use Rattle.std.proofs.Common.{ℕ, List, sym, ◌∙◌, ap}
use Rattle.et_initialize.proofs.Turning.{answers_alike}
use Rattle.et_program.specs.declared.info.MethodInfo.{MethodInfo}
use Rattle.et_event.specs.Calls.{entry_arguments}
use Rattle.et_event.specs.Initialization.{prepared}
use Rattle.et_event.specs.Moments.{moment, begins, throws}
use Rattle.et_calls.proofs.FirstMethods.{code_is, codeless_is}
use Rattle.et_calls.proofs.entry.first.enter_first.Goals as goal

pub enter_code-requires : goal.enter_code-requires
enter_code-requires g c = record {
  enters = record {
    order = c.requires.begins.order;
    sound = c.requires.begins.sound;
    clock = c.requires.begins.clock;
    entered = record {
      info = c.method-info.ensures.value;
      class = c.method-info.ensures.class;
      passed = (c.requires.begins.fresh, c.requires.first.argument);
      classes = c.requires.first.classes;
      ready = c.requires.first.ready;
    };
  };
}

pub returns-in-Some-clause-ok : goal.returns-in-Some-clause-ok
returns-in-Some-clause-ok g c =
    let e = moment c.args.program.now c.args.machine.now c.args.thread in
    let x = c.args.first.now in
    answers_alike c.enter_code.result _ _ c.args.machine.now c.enter_code.new.machine c.args.out.now c.enter_code.new.out
    (code_is e (prepared e x.classes.now (begins e)) x.method (entry_arguments x.argument) c.method-info.result.now c.in-Some.code c.method-info.ensures.value c.in-Some.is) c.enter_code.ensures.ok

pub returns-in-None-clause-ok : goal.returns-in-None-clause-ok
returns-in-None-clause-ok g c =
    let e = moment c.args.program.now c.args.machine.now c.args.thread in
    let x = c.args.first.now in
    let none = c.requires.first.coded (ap (λ (i : MethodInfo). i.code) (sym c.method-info.ensures.value) ∙ c.in-None.is) in
    answers_alike c.throw_first.result _ _ c.args.machine.now c.throw_first.new.machine c.args.out.now c.throw_first.new.out
    (codeless_is e (prepared e x.classes.now (begins e)) x.method (entry_arguments x.argument) c.method-info.result.now c.codeless_error.result c.method-info.ensures.value c.in-None.is c.codeless_error.ensures
    ∙ ap (λ (ks : List ℕ). throws e c.codeless_error.result (prepared e ks (begins e))) none) c.throw_first.ensures
