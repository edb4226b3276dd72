use Rattle.std.proofs.Common.{◌∙◌, ◌++◌, List, ℕ, length, sym, ap, subst, arith}
use Rattle.std.specs.Prelude.{All, OnOk, OnErr}
use Rattle.std.proofs.lemmas.List.{append-nil}
use Rattle.et_io.specs.Sink.{TakesUpTo, TakesPrefix}
use Rattle.et_io.proofs.Taking.{takes_nothing}
use Rattle.et_snapshot.specs.Heap.{Kept, body_of, lists_of, HasClass}
use Rattle.et_snapshot.proofs.Entries.{one_live, live_rows, dead_rows}
use Rattle.et_snapshot.proofs.snapshot.put_entry.Goals as goal

pub put_one-requires : goal.put_one-requires
put_one-requires g c =
    let x = c.args.entry.now in
    let s = c.in-Some.seen in
    record { class = subst (λ (l : List Kept). All (HasClass (length c.args.names.now)) l) (one_live x s c.in-Some.is) c.requires.class 0 (x.object, body_of s) (omega arith) }

pub returns-in-Some-clause-ok : goal.returns-in-Some-clause-ok
returns-in-Some-clause-ok g c =
    let rows = live_rows (lists_of c.args.names.now) c.args.entry.now c.in-Some.seen c.in-Some.is in
    subst (λ (t : List ℕ). OnOk c.put_one.result (TakesUpTo (g.O.Sink.taken c.args.sink.now) (g.O.Sink.taken c.put_one.new.sink) (c.args.text.now.items ++ t) c.put_one.new.text.items)) (sym rows) c.put_one.ensures.ok

pub returns-in-Some-clause-err : goal.returns-in-Some-clause-err
returns-in-Some-clause-err g c =
    let rows = live_rows (lists_of c.args.names.now) c.args.entry.now c.in-Some.seen c.in-Some.is in
    subst (λ (t : List ℕ). OnErr c.put_one.result (TakesPrefix (g.O.Sink.taken c.args.sink.now) (g.O.Sink.taken c.put_one.new.sink) (c.args.text.now.items ++ t))) (sym rows) c.put_one.ensures.err

pub returns-in-None-clause-ok : goal.returns-in-None-clause-ok
returns-in-None-clause-ok g c =
    let old = g.O.Sink.taken c.args.sink.now in
    let text = c.args.text.now.items in
    subst (λ (t : List ℕ). TakesUpTo old old t text) (sym (ap (λ (t : List ℕ). text ++ t) (dead_rows (lists_of c.args.names.now) c.args.entry.now c.in-None.is) ∙ append-nil text)) (takes_nothing old text)
