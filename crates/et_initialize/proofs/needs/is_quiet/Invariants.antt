use Rattle.std.proofs.Common.{◌≡◌, true, take}
use Rattle.std.specs.List.{list_all}
use Rattle.et_state.specs.Words.{class_state_at}
use Rattle.et_event.specs.Initialization.{is_quiet_state}
use Rattle.et_initialize.proofs.needs.is_quiet.Given as goal

abbrev pub invariant-loop-k : goal.invariant-loop-k
invariant-loop-k l = list_all (λ k. is_quiet_state l.program k (class_state_at l.machine.guest k)) (take l.k l.order) ≡ true
