use Rattle.et_base.proofs.Lists.{Contains-here}
use Rattle.std.proofs.Common.{[], subst, sym}
use Rattle.et_base.specs.declared.value.Value.{Value}
use Rattle.et_event.specs.Tops.{IsIn}
use Rattle.et_heap.specs.Objects.{IsHeld}
use Rattle.et_state.specs.State.{MachineState}
use Rattle.et_state.proofs.Places.{top_root}
use Rattle.et_state.specs.Words.{top}
use Rattle.et_strings.proofs.reading.is_text_like.Goals as goal

-- what stands in the topmost frame is held
pub class_of-class-requires : goal.class_of-class-requires
class_of-class-requires g c =
    let there = subst (λ (v : Value). IsIn (top c.args.machine.now.guest c.args.call.now.called.thread) v) c.in-Ref.is c.requires.answers.call.there in
    subst (λ (m : MachineState). IsHeld m.heap c.in-Ref.other) (sym c.machine.view_is)
    (c.requires.answers.machine.sound.roots c.in-Ref.other (top_root c.args.machine.now.guest c.args.call.now.called.thread c.in-Ref.other c.requires.answers.call.frame (there c.in-Ref.other (Contains-here c.in-Ref.other []))))
