use Rattle.std.proofs.Common.{ℕ, Option, ◌∙◌, ap, subst}
use Rattle.et_program.specs.BootNames.{built_in_class_name}
use Rattle.et_program.specs.BootNamed.BuiltInClass.{BuiltInClass}
use Rattle.et_event.specs.Errors.{class_called}
use Rattle.et_throw.specs.Unwinding.{IsThrowMade}
use Rattle.et_throw.proofs.Failed.{replaced_by_name}
use Rattle.et_throw.proofs.failing.fail_by_exception.Goals as goal

pub returns-clause-ok : goal.returns-clause-ok
returns-clause-ok g c =
    let name = c.class_called-error_class.ensures.value ∙ ap (λ (class : BuiltInClass). class_called c.args.program.now (built_in_class_name class)) c.class.ensures in
    let made = subst (λ (o : Option ℕ). IsThrowMade c.class_called-error_class.result c.slots_of-slots.result o c.args.machine.now c.make.new.machine) c.in-Some.is c.in_ok-error.ensures.ok in
    replaced_by_name c.args.program.now c.args.thread c.args.initializer.class c.class_called-error_class.result c.slots_of-slots.result c.in-Some.error c.args.exception c.args.initializer.entered c.args.machine.now c.make.new.machine _ _ _ c.args.out.now _ _ c.requires.leaves.sound c.requires.leaves.frame c.requires.pending name c.slots_of-slots.ensures made
    c.in_ok-tell_unwind.ensures c.in_ok-tell_error.ensures c.drop_initializer.ensures.new c.write_cause.ensures.new c.throw.ensures.new
