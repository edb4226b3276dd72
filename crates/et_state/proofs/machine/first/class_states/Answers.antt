use Rattle.std.proofs.Common.{ℕ, ◌∙◌, ap}
use Rattle.et_state.specs.Start.{first_class_state}
use Rattle.et_state.proofs.ClassStates.{states_next}
use Rattle.et_state.proofs.machine.first.class_states.Goals as goal

pub classes-preserved : goal.classes-preserved
classes-preserved c =
    states_next c.args.program.now c.classes.class c.classes.states.items c.push.new.self.items c.first_class_state-state.result c.classes.invariant
    (c.first_class_state-state.ensures ∙ ap (λ (k : ℕ). first_class_state c.args.program.now k) c.new.ensures) c.in_ok-push.ensures.items
