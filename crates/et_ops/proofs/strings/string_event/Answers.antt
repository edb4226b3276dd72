use Rattle.std.proofs.Common.{ℕ, ◌≡◌, ◌<◌, length, Option, None, ap, subst, sym, ◌∙◌, arith, rules}
use Rattle.et_state.specs.State.{MachineState, kept_of}
use Rattle.et_state.specs.Interned.{object_of}
use Rattle.et_state.specs.Words.{top}
use Rattle.std.specs.Prelude.{codes}
use Rattle.et_event.specs.Errors.{class_called}
use Rattle.et_event.specs.Moments.{begins, instance_made}
use Rattle.et_event.specs.Making.{MakesObject}
use Rattle.et_ops.proofs.Texts.{string_held, string_made, new_text}
use Rattle.et_ops.proofs.strings.string_event.Goals as goal

pub push_string-requires-clause-object : goal.push_string-requires-clause-object
push_string-requires-clause-object c =
    string_held c.args.machine.now c.args.bytes.now c.in-Some.object c.requires.sound (sym c.interned.ensures ∙ c.in-Some.is)

pub intern-requires-clause-object : goal.intern-requires-clause-object
intern-requires-clause-object c =
    let made = subst (λ (o : Option ℕ). MakesObject (instance_made (record { program = c.args.program.now; before = kept_of c.args.machine.now; thread = c.args.thread }) c.class_called-class.result (begins (record { program = c.args.program.now; before = kept_of c.args.machine.now; thread = c.args.thread }))) o c.args.machine.now c.make_instance.new.machine c.args.out.now c.make_instance.new.out) c.in-Some-2.is c.in_ok-made.ensures.made in
    new_text c.args.machine.now c.make_instance.new.machine c.in-Some-2.made c.requires.sound made.1 (ap (λ (m : MachineState). m.guest) made.2)

pub returns-clause-ok : goal.returns-clause-ok
returns-clause-ok c =
    let room : length (top c.args.machine.now.guest c.args.thread).operands < (top c.args.machine.now.guest c.args.thread).room = omega arith in
    let first : object_of c.args.machine.now.guest.interned c.args.bytes.now ≡ None = search rules in
    let named = subst (λ (k : ℕ). MakesObject (instance_made (record { program = c.args.program.now; before = kept_of c.args.machine.now; thread = c.args.thread }) k (begins (record { program = c.args.program.now; before = kept_of c.args.machine.now; thread = c.args.thread }))) c.in_ok-made.field-0 c.args.machine.now c.make_instance.new.machine c.args.out.now c.make_instance.new.out) c.class_called-class.ensures.value c.in_ok-made.ensures.made in
    let made = subst (λ (o : Option ℕ). MakesObject (instance_made (record { program = c.args.program.now; before = kept_of c.args.machine.now; thread = c.args.thread }) (class_called c.args.program.now (codes "java/lang/String")) (begins (record { program = c.args.program.now; before = kept_of c.args.machine.now; thread = c.args.thread }))) o c.args.machine.now c.make_instance.new.machine c.args.out.now c.make_instance.new.out) c.in-Some-2.is named in
    λ instr code pool class. string_made c.args.program.now (record { instr = instr; next = c.args.next; code = code; pool = pool; class = class }) c.args.bytes.now c.in-Some-2.made c.args.thread c.args.machine.now c.make_instance.new.machine c.intern.new.self c.begin_event.new.self c.push.new.self c.set_pc.new.self c.args.out.now c.make_instance.new.out
    c.requires.sound c.requires.frame room first made c.in_ok-intern.ensures.ok c.begin_event.ensures c.push.ensures c.set_pc.ensures
