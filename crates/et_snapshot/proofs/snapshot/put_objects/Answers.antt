use Rattle.std.proofs.Common.{◌≡◌, ◌∙◌, ℕ, List, ◌+◌, ◌<◌, ◌++◌, get_or, length, refl, ap, subst, drop}
use Rattle.std.specs.List.{flat_map}
use Rattle.std.proofs.lemmas.List.{drop_all}
use Rattle.et_base.proofs.Options.{on_any_err}
use Rattle.et_io.specs.Sink.{Log, TakesUpTo, TakesPrefix}
use Rattle.et_io.proofs.Taking.{goes_on, part_put}
use Rattle.et_snapshot.specs.declared.objects.Entry.{Entry}
use Rattle.et_snapshot.specs.Heap.{lists_of, objects_of, rows_of, rows_in, HasClass}
use Rattle.et_snapshot.proofs.Entries.{rest_is, rows_are, one_fits}
use Rattle.et_snapshot.proofs.Pieces.{Puts, puts_begin, puts_next, puts_break, puts_all}
use Rattle.et_snapshot.proofs.snapshot.put_objects.Goals as goal

pub loop-entry-init : goal.loop-entry-init
loop-entry-init g c = record {
  puts = puts_begin (rows_in (lists_of c.args.names.now)) c.args.entries.now (drop 0 c.args.entries.now) (g.O.Sink.taken c.args.sink.now) c.args.text.now.items refl;
  faults = refl;
}

pub put_entry-requires : goal.put_entry-requires
put_entry-requires g c = record { class = one_fits (HasClass (length c.args.names.now)) c.args.entries.now c.loop-entry.entry-index c.entry-item.result c.loop-entry-test.true c.entry-item.is c.requires.classes }

pub loop-entry-preserved : goal.loop-entry-preserved
loop-entry-preserved g c =
    let s = c.loop-entry in
    let row = rows_in (lists_of c.args.names.now) in
    let es = c.args.entries.now in
    let i = s.entry-index in
    let x = c.entry-item.result in
    record {
      puts =
          puts_next row es (drop i es) (drop (i + 1) es) x (g.O.Sink.taken c.args.sink.now) (g.O.Sink.taken s.sink) (g.O.Sink.taken c.put_piece.new.sink) c.args.text.now.items s.text.items (s.text.items ++ row x) c.put_piece.new.gathered.items
          (rest_is es i x c.loop-entry-test.true c.entry-item.is) s.invariant.puts refl
          (goes_on (g.O.Sink.taken s.sink) (g.O.Sink.taken c.put_entry.new.sink) (g.O.Sink.taken c.put_piece.new.sink) (s.text.items ++ row x) c.put_entry.new.text.items c.put_piece.new.gathered.items c.in_ok-put_entry.ensures.ok c.in_ok-put_piece.ensures.ok);
      faults = c.in_ok-put_piece.ensures.write ∙ (c.in_ok-put_entry.ensures.write ∙ s.invariant.faults);
    }

whole : (names : List (List ℕ)) (es : List Entry) (start : List ℕ) → start ++ flat_map (rows_in names) es ≡ start ++ flat_map (rows_of names) (objects_of es)
whole names es start = ap (λ (t : List ℕ). start ++ t) (rows_are names es)

-- where the rows of the next entry stop, so do those of all
stops_at : (names : List (List ℕ)) (es : List Entry) (i : ℕ) (x : Entry) (old mid new : Log) (start text : List ℕ) → i < length es → x ≡ get_or es i x → Puts (rows_in names) es (drop i es) old mid start text → TakesPrefix mid new (text ++ rows_in names x)
    → TakesPrefix old new (start ++ flat_map (rows_of names) (objects_of es))
stops_at names es i x old mid new start text lt is p stops =
    subst (λ (t : List ℕ). TakesPrefix old new t) (whole names es start)
    (puts_break (rows_in names) es (drop i es) (drop (i + 1) es) x old mid new start text (text ++ rows_in names x) (rest_is es i x lt is) p refl stops)

pub returns-in_err-put_entry-clause-err : goal.returns-in_err-put_entry-clause-err
returns-in_err-put_entry-clause-err g c =
    let s = c.loop-entry in
    on_any_err c.from_residual.result
    (stops_at (lists_of c.args.names.now) c.args.entries.now s.entry-index c.entry-item.result (g.O.Sink.taken c.args.sink.now) (g.O.Sink.taken s.sink) (g.O.Sink.taken c.put_entry.new.sink) c.args.text.now.items s.text.items c.loop-entry-test.true c.entry-item.is s.invariant.puts c.in_err-put_entry.ensures.err)

pub returns-in_err-put_piece-clause-err : goal.returns-in_err-put_piece-clause-err
returns-in_err-put_piece-clause-err g c =
    let s = c.loop-entry in
    let names = lists_of c.args.names.now in
    let x = c.entry-item.result in
    let mid = g.O.Sink.taken s.sink in
    let new = g.O.Sink.taken c.put_piece.new.sink in
    on_any_err c.from_residual-in_err-put_piece.result
    (stops_at names c.args.entries.now s.entry-index x (g.O.Sink.taken c.args.sink.now) mid new c.args.text.now.items s.text.items c.loop-entry-test.true c.entry-item.is s.invariant.puts
    (part_put mid (g.O.Sink.taken c.put_entry.new.sink) new (s.text.items ++ rows_in names x) c.put_entry.new.text.items c.in_ok-put_entry.ensures.ok c.in_err-put_piece.ensures.err))

pub returns-clause-ok : goal.returns-clause-ok
returns-clause-ok g c =
    let s = c.loop-entry in
    let row = rows_in (lists_of c.args.names.now) in
    let es = c.args.entries.now in
    let old = g.O.Sink.taken c.args.sink.now in
    let mid = g.O.Sink.taken s.sink in
    subst (λ (t : List ℕ). TakesUpTo old mid t s.text.items) (whole (lists_of c.args.names.now) es c.args.text.now.items)
    (puts_all row es (drop s.entry-index es) old mid c.args.text.now.items s.text.items (drop_all s.entry-index es c.loop-entry-test.false) s.invariant.puts)
