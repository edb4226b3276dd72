use Rattle.std.proofs.Common.{sym, ◌∙◌}
use Rattle.et_state.specs.State.{kept_of}
use Rattle.et_sync.proofs.DeferredCalls.{at_row, no_other}
use Rattle.et_sync.proofs.event.sync_event.Goals as goal

pub place_event-requires-clause-turn : goal.place_event-requires-clause-turn
place_event-requires-clause-turn g c = at_row c.args.program.now c.args.machine.now c.args.thread c.in-Some.place (sym c.turn.ensures ∙ c.in-Instruction.is) c.in-Some.ensures.found c.in-Some.ensures.family c.requires.turn

pub unreachable-requires : goal.unreachable-requires
unreachable-requires g c = no_other c.args.program.now (kept_of c.args.machine.now) c.args.thread c.turn.result c.turn.ensures c.in-Unwind.is c.requires.turn
