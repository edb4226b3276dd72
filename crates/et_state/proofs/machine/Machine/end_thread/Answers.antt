use Rattle.std.proofs.Common.{◌≡◌, true, ap, rules, arith}
use Rattle.std.proofs.lemmas.Grind.{common_steps}
use Rattle.et_state.specs.Threads.{ThreadState}
use Rattle.et_state.proofs.Unended.{threads_ended}
use Rattle.et_state.proofs.machine.Machine.end_thread.Goals as goal

pub invariant_of-self : goal.invariant_of-self
invariant_of-self c =
    let ended : c.end.new.self.ended ≡ true = ap (λ (x : ThreadState). x.ended) c.end.ensures in
    threads_ended _ _ _ c.args.thread _ _ c.self.invariant (first_of (search rules, omega arith, grind (arith, common_steps))) ended c.take_away.ensures
