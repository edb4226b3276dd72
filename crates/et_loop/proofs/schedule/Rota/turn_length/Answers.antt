use Rattle.std.proofs.Common.{subst, arith}
use Rattle.et_state.specs.Options.{IsSchedule}
use Rattle.et_state.specs.declared.options.Schedule.{Schedule}
use Rattle.et_loop.proofs.Pacing.{turn_quantum}
use Rattle.et_loop.proofs.schedule.Rota.turn_length.Goals as goal

pub returns-in-Quantum-clause-turn : goal.returns-in-Quantum-clause-turn
returns-in-Quantum-clause-turn c = λ k lt.
    let range = subst (λ (x : Schedule). IsSchedule x) c.in-Quantum.is c.requires.options.schedule in
    turn_quantum c.args.options.now.schedule _ c.args.self.now.round.over c.args.self.now.round.start c.args.e k c.args.count c.in-Quantum.is (omega (arith, range.0)) c.requires.round.starts c.requires.round.from (omega (arith, lt))
