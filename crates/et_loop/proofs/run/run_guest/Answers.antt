use Rattle.std.proofs.Common.{◌≡◌, ℕ, refl, ◌∙◌, sym, subst, inl, inr, arith, rules}
use Rattle.et_base.proofs.Options.{on_any_err}
use Rattle.et_io.specs.Faults.{count_after, is_write_fault}
use Rattle.et_graph.proofs.Walks.{is_reached, is_reached_decides}
use Rattle.et_loop.proofs.RunLemmas.{at_none, front_start}
use Rattle.et_loop.proofs.Quiets.{told_there}
use Rattle.et_loop.proofs.Standing.{stands_first}
use Rattle.et_loop.proofs.Going.{broken_off, cut_at_start, cut_in_lines, cut_in_print, nothing_done, run_over, run_goes}
use Rattle.et_loop.proofs.run.run_guest.Goals as goal

-- NOTHING WAS PUT BUT A PREFIX OF THE FIRST LINES

pub returns-in-Err-clause-cut_off : goal.returns-in-Err-clause-cut_off
returns-in-Err-clause-cut_off g c reached decides = nothing_done

pub returns-in-Err-begin-clause-cut_off : goal.returns-in-Err-begin-clause-cut_off
returns-in-Err-begin-clause-cut_off g c reached decides = nothing_done

pub returns-in_err-put_all-clause-cut_off : goal.returns-in_err-put_all-clause-cut_off
returns-in_err-put_all-clause-cut_off g c reached decides =
    on_any_err c.from_residual.result (cut_at_start (front_start reached _ _ _ _ _ _ (c.deref.ensures.value ∙ c.in-Ok-begin.ensures.lines) c.in_err-put_all.ensures.err))

-- THE LOOP

pub events-init : goal.events-init
events-init g c =
    let G = g.G.Guest in
    let made : (G.graph_of (G.state c.args.start.guest)).made ≡ c.made-objects.result = sym c.made-objects.ensures in
    record {
      stands = λ reached decides. stands_first c.requires.first c.in-Ok-begin.ensures.mentions (c.deref.ensures.value ∙ c.in-Ok-begin.ensures.lines) c.in_ok-put_all.ensures.ok c.in-Ok-begin.ensures.stamps;
      ready = record {
        flush = record {
          sound = c.requires.sound;
          stamps = record { few = omega (arith, made); places = omega (arith, made, c.in-Ok-begin.ensures.places) };
          room = subst (λ x. G.has_places x (G.graph_of (G.state c.args.start.guest)).made) (sym c.in-Ok-begin.ensures.room) (subst (λ (n : ℕ). G.has_places c.in-Ok.room n) c.made-objects.ensures c.in-Ok.ensures);
        };
        limit = search rules;
        clock = c.requires.clock;
        classes = c.in-Ok-begin.ensures.classes;
        format = c.in-Ok-begin.ensures.format;
        rota = c.in-Ok-begin.ensures.rota;
      };
      next_flush = c.in-Ok-begin.ensures.next_flush;
      faults = c.in_ok-put_all.ensures.write;
      printed_faults = refl;
    }

pub turn-requires-clause-made : goal.turn-requires-clause-made
turn-requires-clause-made g c = told_there _ _ _ _ (c.events.invariant.stands is_reached is_reached_decides).told

pub events-preserved : goal.events-preserved
events-preserved g c =
    let end = c.in_ok-progress.progress.end in
    let turn = c.in_ok-progress.ensures in
    record {
      stands = λ reached decides. run_goes (c.events.invariant.stands reached decides) c.clear.ensures.items turn.turn c.deref-in-events.ensures.value c.in_ok-put_all-2.ensures.ok c.deref-in-events-2.ensures.value c.in_ok-put_all-3.ensures.ok c.in-None.is;
      ready = at_none end c.in-None.is turn.ready;
      next_flush = at_none end c.in-None.is turn.next_flush;
      faults = c.in_ok-put_all-2.ensures.write ∙ (turn.write ∙ c.events.invariant.faults);
      printed_faults = c.in_ok-put_all-3.ensures.write ∙ c.events.invariant.printed_faults;
    }

-- THE TURN WAS BROKEN OFF

pub returns-in_err-progress-clause-cut_off : goal.returns-in_err-progress-clause-cut_off
returns-in_err-progress-clause-cut_off g c reached decides =
    on_any_err c.from_residual-in_err-progress.result (broken_off (c.events.invariant.stands reached decides) c.clear.ensures.items c.in_err-progress.ensures.broken)

pub returns-in_err-progress-clause-write : goal.returns-in_err-progress-clause-write
returns-in_err-progress-clause-write g c =
    let counted : g.O.Sink.faults c.turn.new.sink ≡ count_after (is_write_fault c.from_residual-in_err-progress.result) (g.O.Sink.faults c.args.trace.now) = search rules in
    inl (counted, c.events.invariant.printed_faults)

pub returns-in_err-progress-clause-printed_never_falls : goal.returns-in_err-progress-clause-printed_never_falls
returns-in_err-progress-clause-printed_never_falls g c = omega (arith, c.events.invariant.printed_faults)

-- A PUT OF ITS LINES FAILED

pub returns-in_err-put_all-2-clause-cut_off : goal.returns-in_err-put_all-2-clause-cut_off
returns-in_err-put_all-2-clause-cut_off g c reached decides =
    on_any_err c.from_residual-in_err-put_all-2.result (cut_in_lines (c.events.invariant.stands reached decides) c.clear.ensures.items c.in_ok-progress.ensures.turn c.deref-in-events.ensures.value c.in_err-put_all-2.ensures.err)

pub returns-in_err-put_all-2-clause-write : goal.returns-in_err-put_all-2-clause-write
returns-in_err-put_all-2-clause-write g c =
    let before : g.O.Sink.faults c.turn.new.sink ≡ g.O.Sink.faults c.args.trace.now = c.in_ok-progress.ensures.write ∙ c.events.invariant.faults in
    let count = λ (n : ℕ). g.O.Sink.faults c.put_all-in-events.new.sink ≡ count_after (is_write_fault c.from_residual-in_err-put_all-2.result) n in
    let counted : count (g.O.Sink.faults c.turn.new.sink) = search rules in
    inl (subst count before counted, c.events.invariant.printed_faults)

pub returns-in_err-put_all-2-clause-printed_never_falls : goal.returns-in_err-put_all-2-clause-printed_never_falls
returns-in_err-put_all-2-clause-printed_never_falls g c = omega (arith, c.events.invariant.printed_faults)

-- .. or a put of what it prints

pub returns-in_err-put_all-3-clause-cut_off : goal.returns-in_err-put_all-3-clause-cut_off
returns-in_err-put_all-3-clause-cut_off g c reached decides =
    on_any_err c.from_residual-in_err-put_all-3.result
    (cut_in_print (c.events.invariant.stands reached decides) c.clear.ensures.items c.in_ok-progress.ensures.turn c.deref-in-events.ensures.value c.in_ok-put_all-2.ensures.ok c.deref-in-events-2.ensures.value c.in_err-put_all-3.ensures.err)

pub returns-in_err-put_all-3-clause-write : goal.returns-in_err-put_all-3-clause-write
returns-in_err-put_all-3-clause-write g c =
    let counted : g.P.Sink.faults c.put_all-in-events-2.new.sink ≡ count_after (is_write_fault c.from_residual-in_err-put_all-3.result) (g.P.Sink.faults c.args.printed.now) = search rules in
    inr (c.in_ok-put_all-2.ensures.write ∙ (c.in_ok-progress.ensures.write ∙ c.events.invariant.faults), counted)

pub returns-in_err-put_all-3-clause-printed_never_falls : goal.returns-in_err-put_all-3-clause-printed_never_falls
returns-in_err-put_all-3-clause-printed_never_falls g c = omega (arith, c.events.invariant.printed_faults, c.in_err-put_all-3.ensures.never_falls)

-- THE RUN IS OVER

pub returns-in-Some-clause-over : goal.returns-in-Some-clause-over
returns-in-Some-clause-over g c reached decides =
    run_over (c.events.invariant.stands reached decides) c.clear.ensures.items c.in_ok-progress.ensures.turn c.deref-in-events.ensures.value c.in_ok-put_all-2.ensures.ok c.deref-in-events-2.ensures.value c.in_ok-put_all-3.ensures.ok c.in-Some.is

pub returns-in-Some-clause-write : goal.returns-in-Some-clause-write
returns-in-Some-clause-write g c =
    inl (c.in_ok-put_all-2.ensures.write ∙ (c.in_ok-progress.ensures.write ∙ c.events.invariant.faults), c.in_ok-put_all-3.ensures.write ∙ c.events.invariant.printed_faults)

pub returns-in-Some-clause-printed_never_falls : goal.returns-in-Some-clause-printed_never_falls
returns-in-Some-clause-printed_never_falls g c = omega (arith, c.events.invariant.printed_faults, c.in_ok-put_all-3.ensures.never_falls)
