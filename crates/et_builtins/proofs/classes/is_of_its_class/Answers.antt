use Rattle.std.proofs.Common.{Option, sym, ◌∙◌, ap}
use Rattle.std.specs.Option.{option_map}
use Rattle.et_base.specs.declared.value.Value.{Value}
use Rattle.et_state.proofs.Places.{top_root}
use Rattle.et_program.specs.BootNames.{built_in_class_name}
use Rattle.et_event.specs.BuiltIns.{is_null_or_of_class, is_of_its_class}
use Rattle.et_event.specs.Calls.{arguments_of}
use Rattle.et_event.specs.Moments.{moment, begins}
use Rattle.et_builtins.specs.Classes.{named}
use Rattle.et_builtins.specs.declared.classes.ClassArgument.{ClassArgument}
use Rattle.et_builtins.proofs.classes.is_of_its_class.Goals as goal

-- what stands in the topmost frame is held
pub is_null_or_of-requires-clause-held : goal.is_null_or_of-requires-clause-held
is_null_or_of-requires-clause-held g c = λ o inside.
    c.requires.call.sound.held.roots o (top_root c.args.machine.now.guest c.args.thread o c.requires.call.frame (c.argument_at-value.ensures.there o inside))

pub returns-clause-value : goal.returns-clause-value
returns-clause-value g c =
    let e = moment c.args.program.now c.args.machine.now c.args.thread in
    c.is_null_or_of.ensures.value c.args.thread
    ∙ (ap (λ (v : Value). is_null_or_of_class e (begins e) v (built_in_class_name c.in-Some.argument.class)) c.argument_at-value.ensures.value
    ∙ sym (ap (λ (r : Option ClassArgument). is_of_its_class e (begins e) (arguments_of e c.args.count) (option_map named r)) c.in-Some.is))
