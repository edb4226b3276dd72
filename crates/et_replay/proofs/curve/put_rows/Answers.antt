use Rattle.std.proofs.Common.{◌≡◌, ◌+◌, ◌-◌, ◌∙◌, ◌++◌, ◌∷◌, [], ℕ, List, get_or, refl, ap, sym, subst, arith}
use Rattle.std.specs.Prelude.{OnErr}
use Rattle.std.specs.Fmt.{decimal}
use Rattle.std.specs.List.{flat_map}
use Rattle.et_base.proofs.Options.{on_any_err}
use Rattle.et_replay.specs.Lives.{CountsTo, row_by, sum_below}
use Rattle.et_replay.proofs.Adding.{adds_call, adds_next}
use Rattle.et_io.specs.Sink.{TakesUpTo, TakesPrefix}
use Rattle.et_io.proofs.Taking.{takes_nothing, none_put}
use Rattle.et_io.proofs.Gathered.{piece_put, piece_fails, stops_early, last_fails}
use Rattle.et_replay.proofs.curve.put_rows.Goals as goal

pub begin-requires : goal.begin-requires
begin-requires g c = record { fits = c.requires.born_fits }

pub begin-requires-2 : goal.begin-requires-2
begin-requires-2 g c = record { fits = c.requires.died_fits }

pub overflow_add-event : goal.overflow_add-event
overflow_add-event g c = let low = c.requires.low c.loop-event.event-index 0 c.loop-event-test.true in omega (arith, low)

pub below-made-requires-clause-counts : goal.below-made-requires-clause-counts
below-made-requires-clause-counts g c =
    let s = c.loop-event.born in
    adds_call s.sizes.items s.at s.sum c.args.lives.born.items c.args.events.now c.loop-event.event-index 1 c.requires.rise c.loop-event-test.true c.loop-event.invariant.born

pub below-gone-requires-clause-counts : goal.below-gone-requires-clause-counts
below-gone-requires-clause-counts g c =
    let s = c.loop-event.died in
    let e = get_or c.args.events.now c.loop-event.event-index 0 in
    let plain : e + 0 ≡ e = omega arith in
    subst (λ (k : ℕ). CountsTo s.sizes.items s.at s.sum k) plain
    (adds_call s.sizes.items s.at s.sum c.args.lives.died.items c.args.events.now c.loop-event.event-index 0 c.requires.rise c.loop-event-test.true c.loop-event.invariant.died)

pub overflow_sub-made : goal.overflow_sub-made
overflow_sub-made g c =
    let e = get_or c.args.events.now c.loop-event.event-index 0 in
    let low = c.requires.low c.loop-event.event-index 0 c.loop-event-test.true in
    let left = c.requires.left e low in
    let made = c.below-made.ensures.sum ∙ c.loop-event.invariant.born.same (e + 1) in
    let gone = c.below-gone.ensures.sum ∙ c.loop-event.invariant.died.same e in
    omega (arith, left, made, gone)

pub loop-event-preserved : goal.loop-event-preserved
loop-event-preserved g c =
    let es = c.args.events.now in
    let l = c.loop-event in
    let n = l.event-index in
    let e = get_or es n 0 in
    let born = c.args.lives.born.items in
    let died = c.args.lives.died.items in
    let b = l.born in
    let d = l.died in
    let b' = c.below-made.new.self in
    let d' = c.below-gone.new.self in
    let plain : e ≡ e + 0 = omega arith in
    let left : c.below-made.result - c.below-gone.result ≡ sum_below (e + 1) born - sum_below e died =
    ap (λ (k : ℕ). k - c.below-gone.result) (c.below-made.ensures.sum ∙ l.invariant.born.same (e + 1)) ∙ ap (λ (k : ℕ). sum_below (e + 1) born - k) (c.below-gone.ensures.sum ∙ l.invariant.died.same e) in
    record {
      born = adds_next b.sizes.items b'.sizes.items b.at b.sum b'.at b'.sum born es n 1 (ap (λ v. v.items) c.below-made.ensures.same) c.below-made.ensures.counts l.invariant.born;
      died = adds_next d.sizes.items d'.sizes.items d.at d.sum d'.at d'.sum died es n 0 (ap (λ v. v.items) c.below-gone.ensures.same) (subst (λ (k : ℕ). CountsTo d'.sizes.items d'.at d'.sum k) plain c.below-gone.ensures.counts) l.invariant.died;
      taken =
          piece_put (row_by born died) es n 0 (g.O.Sink.taken c.args.sink.now) (g.O.Sink.taken l.sink) (g.O.Sink.taken c.put_piece.new.sink) l.rows.items c.put_row.new.rows.items c.put_piece.new.gathered.items
          c.loop-event-test.true l.invariant.taken (c.in-Ok-put_row.ensures ∙ ap (λ (k : ℕ). l.rows.items ++ (decimal e ++ 32 ∷ decimal k ++ 10 ∷ [])) left) c.in_ok-put_piece.ensures.ok;
      faults = c.in_ok-put_piece.ensures.write ∙ l.invariant.faults;
    }

pub returns-in_default-put_row-clause-err : goal.returns-in_default-put_row-clause-err
returns-in_default-put_row-clause-err g c =
    let l = c.loop-event in
    stops_early (row_by c.args.lives.born.items c.args.lives.died.items) c.args.events.now l.event-index (g.O.Sink.taken c.args.sink.now) (g.O.Sink.taken l.sink) l.rows.items l.invariant.taken

pub loop-event-init : goal.loop-event-init
loop-event-init g c =
    let t = g.O.Sink.taken c.args.sink.now in
    record {
      born = record { sorted = c.in-Ok.ensures.sorted; fits = c.in-Ok.ensures.fits; same = c.in-Ok.ensures.same; counts = λ limit h. c.in-Ok.ensures.counts limit };
      died = record { sorted = c.in-Ok-begin.ensures.sorted; fits = c.in-Ok-begin.ensures.fits; same = c.in-Ok-begin.ensures.same; counts = λ limit h. c.in-Ok-begin.ensures.counts limit };
      taken = subst (λ (r : List ℕ). TakesUpTo t t [] r) (sym c.new-rows.ensures.items) (takes_nothing t []);
      faults = refl;
    }

pub returns-in_err-put_piece-clause-err : goal.returns-in_err-put_piece-clause-err
returns-in_err-put_piece-clause-err g c =
    let es = c.args.events.now in
    let l = c.loop-event in
    let e = get_or es l.event-index 0 in
    let born = c.args.lives.born.items in
    let died = c.args.lives.died.items in
    let left : c.below-made.result - c.below-gone.result ≡ sum_below (e + 1) born - sum_below e died =
    ap (λ (k : ℕ). k - c.below-gone.result) (c.below-made.ensures.sum ∙ l.invariant.born.same (e + 1)) ∙ ap (λ (k : ℕ). sum_below (e + 1) born - k) (c.below-gone.ensures.sum ∙ l.invariant.died.same e) in
    on_any_err c.from_residual.result
    (piece_fails (row_by born died) es l.event-index 0 (g.O.Sink.taken c.args.sink.now) (g.O.Sink.taken l.sink) (g.O.Sink.taken c.put_piece.new.sink) l.rows.items c.put_row.new.rows.items
    c.loop-event-test.true l.invariant.taken (c.in-Ok-put_row.ensures ∙ ap (λ (k : ℕ). l.rows.items ++ (decimal e ++ 32 ∷ decimal k ++ 10 ∷ [])) left) c.in_err-put_piece.ensures.err)

pub returns-clause-err : goal.returns-clause-err
returns-clause-err g c =
    let l = c.loop-event in
    let mid = g.O.Sink.taken l.sink in
    let new = g.O.Sink.taken c.put_all.new.sink in
    last_fails (row_by c.args.lives.born.items c.args.lives.died.items) c.args.events.now l.event-index (g.O.Sink.taken c.args.sink.now) mid new l.rows.items c.put_all.result
    c.loop-event-test.false l.invariant.taken (subst (λ (t : List ℕ). OnErr c.put_all.result (TakesPrefix mid new t)) c.as_slice.ensures.value c.put_all.ensures.err)

pub returns-in_default-clause-err : goal.returns-in_default-clause-err
returns-in_default-clause-err g c = none_put (g.O.Sink.taken c.args.sink.now) (flat_map (row_by c.args.lives.born.items c.args.lives.died.items) c.args.events.now)

pub returns-in_default-begin-clause-err : goal.returns-in_default-begin-clause-err
returns-in_default-begin-clause-err g c = none_put (g.O.Sink.taken c.args.sink.now) (flat_map (row_by c.args.lives.born.items c.args.lives.died.items) c.args.events.now)
