use Rattle.std.proofs.Common.{sym, ap}
use Rattle.std.specs.Prelude.{is_some}
use Rattle.et_state.specs.State.{kept_of}
use Rattle.et_event.specs.Out.{out_turn}
use Rattle.et_event.proofs.OutTurns.{out_at_no_row, out_instructs}
use Rattle.et_refs.proofs.OutPlaces.{read_row}
use Rattle.et_refs.proofs.OutReading.{none_there}
use Rattle.et_refs.proofs.streams.out_event.Goals as goal

pub read_event-requires-clause-row : goal.read_event-requires-clause-row
read_event-requires-clause-row c =
    let p = c.args.program.now in
    let m = c.args.machine.now in
    let t = c.args.thread in
    read_row p m t c.in-Some.place (out_instructs p (kept_of m) t c.requires.turn) c.in-Some.ensures.found c.requires.turn

pub unreachable-requires : goal.unreachable-requires
unreachable-requires c =
    let p = c.args.program.now in
    let s = kept_of c.args.machine.now in
    let t = c.args.thread in
    none_there (out_turn p s t) (sym (ap is_some (out_at_no_row p s t (out_instructs p s t c.requires.turn) c.in-None.ensures.none))) c.requires.turn
