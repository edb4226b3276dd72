use Rattle.std.proofs.Common.{◌∙◌, ℕ, refl}
use Rattle.std.specs.Map.Iter.{deref_pair}
use Rattle.std.proofs.lemmas.Map.Iter.{rest_more, rest_all}
use Rattle.et_base.proofs.Options.{on_any_err}
use Rattle.et_snapshot.specs.Heap.{row_of}
use Rattle.et_snapshot.proofs.Pieces.{puts_begin, puts_next, puts_break, puts_stop, puts_all}
use Rattle.et_snapshot.proofs.snapshot.put_slots.Goals as goal

pub loop-slot-init : goal.loop-slot-init
loop-slot-init g c = record {
  puts = puts_begin (row_of c.args.owner) c.args.slots.now.entries c.into_iter-slot-iterator.result (g.O.Sink.taken c.args.sink.now) c.args.text.now.items c.into_iter-slot-iterator.ensures.into_iter_gives.0;
  faults = refl;
}

pub loop-slot-preserved : goal.loop-slot-preserved
loop-slot-preserved g c =
    let s = c.loop-slot in
    let x : ℕ × ℕ = (c.in-Some.slot.now, c.in-Some.target.now) in
    let more = rest_more deref_pair s.slot-iterator c.next.new.self c.next.result (c.in-Some.slot, c.in-Some.target) c.in-Some.is c.next.ensures.steps in
    record {
      puts =
          puts_next (row_of c.args.owner) c.args.slots.now.entries s.slot-iterator c.next.new.self x (g.O.Sink.taken c.args.sink.now) (g.O.Sink.taken s.sink) (g.O.Sink.taken c.put_piece.new.sink) c.args.text.now.items s.text.items c.put_slot.new.text.items c.put_piece.new.gathered.items
          more s.invariant.puts c.in-Ok.ensures c.in_ok-put_piece.ensures.ok;
      faults = c.in_ok-put_piece.ensures.write ∙ s.invariant.faults;
    }

pub returns-in_default-clause-err : goal.returns-in_default-clause-err
returns-in_default-clause-err g c =
    let s = c.loop-slot in
    puts_stop (row_of c.args.owner) c.args.slots.now.entries s.slot-iterator (g.O.Sink.taken c.args.sink.now) (g.O.Sink.taken s.sink) c.args.text.now.items s.text.items s.invariant.puts

pub returns-in_err-put_piece-clause-err : goal.returns-in_err-put_piece-clause-err
returns-in_err-put_piece-clause-err g c =
    let s = c.loop-slot in
    let x : ℕ × ℕ = (c.in-Some.slot.now, c.in-Some.target.now) in
    let more = rest_more deref_pair s.slot-iterator c.next.new.self c.next.result (c.in-Some.slot, c.in-Some.target) c.in-Some.is c.next.ensures.steps in
    on_any_err c.from_residual.result
    (puts_break (row_of c.args.owner) c.args.slots.now.entries s.slot-iterator c.next.new.self x (g.O.Sink.taken c.args.sink.now) (g.O.Sink.taken s.sink) (g.O.Sink.taken c.put_piece.new.sink) c.args.text.now.items s.text.items c.put_slot.new.text.items
    more s.invariant.puts c.in-Ok.ensures c.in_err-put_piece.ensures.err)

pub returns-clause-ok : goal.returns-clause-ok
returns-clause-ok g c =
    let s = c.loop-slot in
    puts_all (row_of c.args.owner) c.args.slots.now.entries s.slot-iterator (g.O.Sink.taken c.args.sink.now) (g.O.Sink.taken s.sink) c.args.text.now.items s.text.items
    (rest_all deref_pair s.slot-iterator c.next.new.self c.next.result c.in-None.is c.next.ensures.steps) s.invariant.puts
