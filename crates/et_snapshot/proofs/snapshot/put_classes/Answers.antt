use Rattle.std.proofs.Common.{◌≡◌, ◌∙◌, ℕ, List, ◌+◌, ◌<◌, ◌++◌, ◌∷◌, [], refl, sym, ap, drop, get_or, length, arith}
use Rattle.std.specs.List.{zip}
use Rattle.std.proofs.lemmas.List.{length-map, get_or-map}
use Rattle.std.specs.declared.vec.Vec.{Vec}
use Rattle.std.specs.declared.alloc.Global.{Global}
use Rattle.et_base.proofs.Options.{on_any_err}
use Rattle.et_snapshot.specs.declared.totals.Total.{Total}
use Rattle.et_snapshot.specs.Heap.{lists_of, total_row, no_total}
use Rattle.et_snapshot.proofs.Pieces.{puts_begin, puts_next, puts_break, puts_stop, puts_all, drop_zip, drop_zip_all}
use Rattle.et_snapshot.proofs.snapshot.put_classes.Goals as goal

pub loop-index-init : goal.loop-index-init
loop-index-init g c = record {
  puts = puts_begin (λ (p : List ℕ × Total). total_row p.0 p.1) (zip (lists_of c.args.names.now) c.args.totals.now) (drop 0 (zip (lists_of c.args.names.now) c.args.totals.now)) (g.O.Sink.taken c.args.sink.now) c.args.text.now.items refl;
  faults = refl;
}

abbrev row : List ℕ × Total → List ℕ
row p = total_row p.0 p.1

-- the total at a place and the name beside it are the next ones, and their row was put
module _ (names : List (Vec ℕ Global)) (totals : List Total) (i : ℕ) (name : Vec ℕ Global) (bytes text more : List ℕ) where
  abbrev next : List ℕ × Total
  next = (get_or (lists_of names) i [], get_or totals i no_total)

  next_row : length totals ≡ length names → i < length totals → name ≡ get_or names i name → bytes ≡ name.items → more ≡ text ++ total_row bytes (get_or totals i no_total)
      → (drop i (zip (lists_of names) totals) ≡ next ∷ drop (i + 1) (zip (lists_of names) totals)) × (more ≡ text ++ row next)
  next_row each lt is same put =
      let within : i < length names = omega (arith, lt, each) in
      let listed : i < length (lists_of names) = (let as_many = length-map names (λ v. v.items) in omega (arith, within, as_many)) in
      let named : bytes ≡ get_or (lists_of names) i [] = same ∙ (ap (λ (v : Vec ℕ Global). v.items) is ∙ sym (get_or-map (λ v. v.items) names i name [] within)) in
      (drop_zip (lists_of names) totals i [] no_total listed lt, put ∙ ap (λ (n : List ℕ). text ++ total_row n (get_or totals i no_total)) named)

pub loop-index-preserved : goal.loop-index-preserved
loop-index-preserved g c =
    let s = c.loop-index in
    let n = next_row c.args.names.now c.args.totals.now s.index c.index-names-index.result c.as_slice.result.now s.text.items c.put_class.new.text.items c.requires.each c.loop-index-test.true c.index-names-index.is c.as_slice.ensures.value c.in-Ok.ensures in
    record {
      puts =
          puts_next row (zip (lists_of c.args.names.now) c.args.totals.now) _ _ _ (g.O.Sink.taken c.args.sink.now) (g.O.Sink.taken s.sink) (g.O.Sink.taken c.put_piece.new.sink) c.args.text.now.items s.text.items c.put_class.new.text.items c.put_piece.new.gathered.items
          n.0 s.invariant.puts n.1 c.in_ok-put_piece.ensures.ok;
      faults = c.in_ok-put_piece.ensures.write ∙ s.invariant.faults;
    }

pub returns-in_default-clause-err : goal.returns-in_default-clause-err
returns-in_default-clause-err g c =
    let s = c.loop-index in
    let all = zip (lists_of c.args.names.now) c.args.totals.now in
    puts_stop (λ (p : List ℕ × Total). total_row p.0 p.1) all (drop s.index all) (g.O.Sink.taken c.args.sink.now) (g.O.Sink.taken s.sink) c.args.text.now.items s.text.items s.invariant.puts

pub returns-in_err-put_piece-clause-err : goal.returns-in_err-put_piece-clause-err
returns-in_err-put_piece-clause-err g c =
    let s = c.loop-index in
    let n = next_row c.args.names.now c.args.totals.now s.index c.index-names-index.result c.as_slice.result.now s.text.items c.put_class.new.text.items c.requires.each c.loop-index-test.true c.index-names-index.is c.as_slice.ensures.value c.in-Ok.ensures in
    on_any_err c.from_residual.result
    (puts_break row (zip (lists_of c.args.names.now) c.args.totals.now) _ _ _ (g.O.Sink.taken c.args.sink.now) (g.O.Sink.taken s.sink) (g.O.Sink.taken c.put_piece.new.sink) c.args.text.now.items s.text.items c.put_class.new.text.items
    n.0 s.invariant.puts n.1 c.in_err-put_piece.ensures.err)

pub returns-clause-ok : goal.returns-clause-ok
returns-clause-ok g c =
    let s = c.loop-index in
    let all = zip (lists_of c.args.names.now) c.args.totals.now in
    puts_all (λ (p : List ℕ × Total). total_row p.0 p.1) all (drop s.index all) (g.O.Sink.taken c.args.sink.now) (g.O.Sink.taken s.sink) c.args.text.now.items s.text.items
    (drop_zip_all (lists_of c.args.names.now) c.args.totals.now s.index c.loop-index-test.false) s.invariant.puts
