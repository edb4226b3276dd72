use Rattle.std.proofs.Common.{◌≡◌}
use Rattle.et_state.specs.Start.{class_states_from}
use Rattle.et_state.proofs.machine.first.class_states.Given as goal

abbrev pub invariant-classes : goal.invariant-classes
invariant-classes l = l.states.items ≡ class_states_from l.program 0 l.class
