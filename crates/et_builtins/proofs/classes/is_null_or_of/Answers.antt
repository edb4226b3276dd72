use Rattle.std.proofs.Common.{◌≡◌, [], sym, ◌∙◌, ap, subst, Contains}
use Rattle.et_base.specs.declared.value.Value.{Value}
use Rattle.et_base.proofs.Lists.{Contains-here}
use Rattle.et_heap.specs.Refs.{refs_of_value}
use Rattle.et_program.specs.BootNames.{built_in_class_name}
use Rattle.et_event.specs.BuiltIns.{is_null_or_of_class, is_object_of_class}
use Rattle.et_event.specs.Moments.{moment, begins}
use Rattle.et_builtins.proofs.classes.is_null_or_of.Goals as goal

-- the object is the whole of what the value refers to
pub is_of-requires-clause-held : goal.is_of-requires-clause-held
is_of-requires-clause-held g c = c.requires.held c.in-Ref.object (subst (λ (v : Value). Contains (refs_of_value v) c.in-Ref.object) (sym c.in-Ref.is) (Contains-here c.in-Ref.object []))

pub returns-in-Ref-clause-value : goal.returns-in-Ref-clause-value
returns-in-Ref-clause-value g c = λ t.
    let e = moment c.args.program.now c.args.machine.now t in
    let same : is_null_or_of_class e (begins e) c.args.value (built_in_class_name c.args.class) ≡ is_object_of_class e (begins e) c.in-Ref.object (built_in_class_name c.args.class) =
    ap (λ (v : Value). is_null_or_of_class e (begins e) v (built_in_class_name c.args.class)) c.in-Ref.is in
    c.is_of.ensures.value t ∙ sym same
