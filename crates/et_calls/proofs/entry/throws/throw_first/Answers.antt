use Rattle.std.proofs.Common.{ℕ, Option, ◌∙◌, ap, subst}
use Rattle.et_program.specs.BootNames.{built_in_class_name}
use Rattle.et_program.specs.BootNamed.BuiltInClass.{BuiltInClass}
use Rattle.et_event.specs.Errors.{class_called}
use Rattle.et_event.specs.Moments.{moment, begins, instance_made}
use Rattle.et_event.specs.Making.{MakesObject}
use Rattle.et_calls.proofs.Thrown.{thrown_answers}
use Rattle.et_calls.proofs.entry.throws.throw_first.Goals as goal

pub returns : goal.returns
returns c =
    let p = c.args.program.now in
    let t = c.args.thread in
    let m = c.args.machine.now in
    let class = c.class_called-class.result in
    let named = c.class_called-class.ensures.value ∙ ap (λ (k : BuiltInClass). class_called p (built_in_class_name k)) c.class.ensures in
    let made = subst (λ (x : Option ℕ). MakesObject (instance_made (moment p m t) class (begins (moment p m t))) x m c.make_instance.new.machine c.args.out.now c.make_instance.new.out) c.in-Some.is c.in_ok-object.ensures.made in
    thrown_answers p t c.args.error class c.in-Some.object m c.make_instance.new.machine c.begin_event.new.self c.set_entered.new.self c.throw.new.self c.args.out.now c.make_instance.new.out
    c.requires.sound c.requires.fresh named made c.begin_event.ensures c.set_entered.ensures.new c.throw.ensures.new
