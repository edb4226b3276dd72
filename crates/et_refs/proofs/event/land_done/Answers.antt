use Rattle.std.proofs.Common.{ℕ, List, ap, ◌∙◌}
use Rattle.et_state.specs.State.{MachineState}
use Rattle.et_state.specs.Words.{begun, losing}
use Rattle.et_ops.proofs.Lifting.{landed}
use Rattle.et_refs.proofs.event.land_done.Goals as goal

pub returns-clause-machine : goal.returns-clause-machine
returns-clause-machine c =
    let r = c.args.running in
    c.land.ensures
    ∙ ap (λ (n : MachineState). landed n c.args.thread r) (c.lose_each.ensures ∙ (ap (λ (n : MachineState). losing n c.lost.result.now) c.begin_event.ensures ∙ ap (λ (os : List ℕ). losing (begun c.args.machine.now) os) c.lost.ensures.value))
