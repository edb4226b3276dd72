use Rattle.std.proofs.Common.{length, Some, refl, sym, ◌∙◌, subst}
use Rattle.et_heap.specs.Objects.{IsHeld}
use Rattle.et_state.specs.State.{MachineState}
use Rattle.et_calls.proofs.CalledByCode.{none_within}
use Rattle.et_calls.proofs.FirstMethods.{object_argument}
use Rattle.et_calls.proofs.Running.{object_held}
use Rattle.et_calls.proofs.entry.runs.run_plan.Goals as goal

pub class_of-class-requires : goal.class_of-class-requires
class_of-class-requires g c =
    subst (λ (z : MachineState). IsHeld z.heap c.in-Some.object) (sym c.machine.view_is)
    (object_held c.args.program.now c.args.thread c.in-Some.object c.args.machine.now c.requires.begins.sound c.requires.begins.fresh (sym c.object_of.ensures ∙ c.in-Some.is))

pub returns-in-Ok-clause-within : goal.returns-in-Ok-clause-within
returns-in-Ok-clause-within g c = record {
  method = c.in-Ok.ensures.within;
  argument = object_argument c.args.machine.now.guest c.args.thread (Some c.in-Some.object) (sym c.object_of.ensures ∙ c.in-Some.is);
  classes = none_within (length c.args.program.now.classes);
  ready = refl;
  coded = λ none. refl;
}
