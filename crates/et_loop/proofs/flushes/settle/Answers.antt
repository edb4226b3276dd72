use Rattle.std.proofs.Common.{◌≡◌, ℕ, ◌++◌, Bool, true, List, length, get_or, OnOk, OnErr, refl, sym, ◌∙◌, ap, subst, arith}
use Rattle.std.proofs.lemmas.List.{length-map}
use Rattle.std.proofs.lemmas.Result.{on_ok_weaker}
use Rattle.et_io.specs.Sink.{TakesUpTo, TakesPrefix}
use Rattle.et_io.proofs.Taking.{none_put}
use Rattle.et_graph.specs.declared.objects.Death.{Death}
use Rattle.et_graph.specs.Listing.{death_pairs}
use Rattle.et_state.specs.History.{flush_lines}
use Rattle.et_binary.specs.Formats.{lines_written_in}
use Rattle.et_graph.proofs.ListedOnce.{list_one}
use Rattle.et_loop.specs.Run.{due_lines, PutsFlush}
use Rattle.et_loop.proofs.Marking.{few_listed}
use Rattle.et_loop.proofs.flushes.settle.Goals as goal

pub put_deaths-requires : goal.put_deaths-requires
put_deaths-requires g c =
    let G = g.G.Guest in
    let few = few_listed (G.graph_of (G.state c.args.guest.now)) (λ o. get_or c.args.tracer.now.stamps o 0) (G.deaths_of c.flush.new.room) c.in-Ok.ensures.deaths in
    let len = length-map {B = ℕ × ℕ} c.deaths.result.now (λ (d : Death). (d.object, d.time)) in
    let same : length (death_pairs c.deaths.result.now) ≡ length (G.deaths_of c.flush.new.room) = ap length c.deaths.ensures in
    omega (arith, few, len, same, c.requires.stamps.few)

pub returns-clause-err : goal.returns-clause-err
returns-clause-err g c deaths listed =
    let G = g.G.Guest in
    let yes : c.args.due ≡ true = c.if-not-due.false in
    let same : death_pairs c.deaths.result.now ≡ deaths =
    c.deaths.ensures ∙ list_one (G.graph_of (G.state c.args.guest.now)) (λ o. get_or c.args.tracer.now.stamps o 0) (G.deaths_of c.flush.new.room) deaths c.in-Ok.ensures.deaths (listed yes) in
    let fails = λ (due : Bool) (ds : List (ℕ × ℕ)). OnErr c.put_deaths.result (TakesPrefix (g.O.Sink.taken c.args.sink.now) (g.O.Sink.taken c.put_deaths.new.sink) (c.args.tracer.now.buffer.items ++ lines_written_in c.args.tracer.now.format (due_lines due (flush_lines c.args.e ds)))) in
    subst (λ (due : Bool). fails due deaths) (sym yes) (subst (λ (ds : List (ℕ × ℕ)). fails true ds) same c.put_deaths.ensures.err)

pub returns-clause-lines : goal.returns-clause-lines
returns-clause-lines g c =
    let G = g.G.Guest in
    let f = c.args.tracer.now.format in
    let t = g.O.Sink.taken c.args.sink.now in
    let old = c.args.tracer.now.buffer.items in
    let pairs : List (ℕ × ℕ) = death_pairs c.deaths.result.now in
    let yes : c.args.due ≡ true = c.if-not-due.false in
    subst (λ (due : Bool). OnOk c.put_deaths.result (PutsFlush (G.graph_of (G.state c.args.guest.now)) c.args.tracer.now.stamps f due c.args.e t (g.O.Sink.taken c.put_deaths.new.sink) old c.put_deaths.new.buffer.items)) (sym yes)
    (on_ok_weaker c.put_deaths.result
    (λ (put : TakesUpTo t (g.O.Sink.taken c.put_deaths.new.sink) (old ++ lines_written_in f (flush_lines c.args.e pairs)) c.put_deaths.new.buffer.items). record {
      bytes = lines_written_in f (flush_lines c.args.e pairs);
      lines = λ deaths listed.
          let same : pairs ≡ deaths =
          c.deaths.ensures ∙ list_one (G.graph_of (G.state c.args.guest.now)) (λ o. get_or c.args.tracer.now.stamps o 0) (G.deaths_of c.flush.new.room) deaths c.in-Ok.ensures.deaths (listed refl) in
          ap (λ (ds : List (ℕ × ℕ)). lines_written_in f (flush_lines c.args.e ds)) same;
      put = put;
    })
    c.put_deaths.ensures.ok)

-- want of memory in the search
pub returns-in_default-clause-err : goal.returns-in_default-clause-err
returns-in_default-clause-err g c deaths listed = none_put (g.O.Sink.taken c.args.sink.now) _
