use Rattle.std.proofs.Common.{ℕ, Option, ◌∙◌, ap, subst}
use Rattle.et_program.specs.BootNames.{built_in_class_name}
use Rattle.et_program.specs.BootNamed.BuiltInClass.{BuiltInClass}
use Rattle.et_state.specs.State.{kept_of}
use Rattle.et_event.specs.Errors.{class_called}
use Rattle.et_event.specs.Moments.{begins, instance_made}
use Rattle.et_event.specs.Making.{MakesObject}
use Rattle.et_event.proofs.Throwing.{thrown_by_name}
use Rattle.et_event.proofs.throws.throw_error.Goals as goal

-- src/throws.rt:19:1
pub returns-clause-ok : goal.returns-clause-ok
returns-clause-ok c =
    let name = c.class_called-class.ensures.value ∙ ap (λ (class : BuiltInClass). class_called c.args.program.now (built_in_class_name class)) c.class.ensures in
    let made = subst (λ (o : Option ℕ). MakesObject (instance_made (record { program = c.args.program.now; before = kept_of c.args.machine.now; thread = c.args.thread }) c.class_called-class.result (begins (record { program = c.args.program.now; before = kept_of c.args.machine.now; thread = c.args.thread }))) o c.args.machine.now c.make_instance.new.machine c.args.out.now c.make_instance.new.out) c.in-Some.is c.in_ok-object.ensures.made in
    thrown_by_name c.args.program.now c.args.thread c.args.error c.class_called-class.result c.in-Some.object c.args.machine.now _ _ _ c.args.out.now _ c.requires.sound c.requires.frame name made c.begin_event.ensures c.throw.ensures.new
