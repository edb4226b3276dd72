use Rattle.std.proofs.Common.{◌≡◌, ◌-◌, List, ℕ, length, take, drop, sym, subst}
use Rattle.std.specs.Prelude.{All, OnOk, OnErr}
use Rattle.et_base.specs.declared.format.Format.{Format}
use Rattle.et_base.specs.declared.line.TraceLine.{TraceLine}
use Rattle.et_io.specs.Sink.{with_more, TakesPrefix}
use Rattle.et_text.specs.Ranges.{HasShortNames}
use Rattle.et_convert.specs.Spellings.{SpellsIn}
use Rattle.et_convert.proofs.LinesLeft.{text_left, pack_left, text_written, pack_written}
use Rattle.et_convert.proofs.rewriting.convert_bytes.Goals as goal

pub put_rewritten-requires : goal.put_rewritten-requires
put_rewritten-requires g c =
    let r = c.requires.trace in
    record { lines = (r.0, text_left r.0 c.args.bytes.now (subst (λ (f : Format). SpellsIn f r.0 c.args.bytes.now) (sym c.in-Text.ensures) r.1), r.2) }

pub put_rewritten-requires-in-Binary : goal.put_rewritten-requires-in-Binary
put_rewritten-requires-in-Binary g c =
    let r = c.requires.trace in
    record { lines = (r.0, pack_left r.0 c.args.bytes.now (subst (λ (f : Format). SpellsIn f r.0 c.args.bytes.now) (sym c.in-Binary.ensures) r.1), r.2) }

pub returns-in-Text-clause-ok : goal.returns-in-Text-clause-ok
returns-in-Text-clause-ok g c = λ lines s.
    let r = c.requires.trace in
    let short = subst (All HasShortNames) (c.spelled_lists_differ.ensures r.0 lines c.args.bytes.now r.1 s) r.2 in
    let t = subst (λ (f : Format). SpellsIn f lines c.args.bytes.now) (sym c.in-Text.ensures) s in
    subst (λ (out : List ℕ). OnOk c.put_rewritten.result (g.O.Sink.taken c.put_rewritten.new.sink ≡ with_more (g.O.Sink.taken c.args.sink.now) out))
    (text_written c.records_are_packs.ensures lines c.args.bytes.now short t) (c.put_rewritten.ensures.ok lines (text_left lines c.args.bytes.now t))

pub returns-in-Text-clause-err : goal.returns-in-Text-clause-err
returns-in-Text-clause-err g c = λ lines s.
    let r = c.requires.trace in
    let short = subst (All HasShortNames) (c.spelled_lists_differ.ensures r.0 lines c.args.bytes.now r.1 s) r.2 in
    let t = subst (λ (f : Format). SpellsIn f lines c.args.bytes.now) (sym c.in-Text.ensures) s in
    subst (λ (out : List ℕ). OnErr c.put_rewritten.result (TakesPrefix (g.O.Sink.taken c.args.sink.now) (g.O.Sink.taken c.put_rewritten.new.sink) out))
    (text_written c.records_are_packs.ensures lines c.args.bytes.now short t) (c.put_rewritten.ensures.err lines (text_left lines c.args.bytes.now t))

pub returns-in-Binary-clause-ok : goal.returns-in-Binary-clause-ok
returns-in-Binary-clause-ok g c = λ lines s.
    let r = c.requires.trace in
    let short = subst (All HasShortNames) (c.spelled_lists_differ.ensures r.0 lines c.args.bytes.now r.1 s) r.2 in
    let p = subst (λ (f : Format). SpellsIn f lines c.args.bytes.now) (sym c.in-Binary.ensures) s in
    subst (λ (out : List ℕ). OnOk c.put_rewritten-in-Binary.result (g.O.Sink.taken c.put_rewritten-in-Binary.new.sink ≡ with_more (g.O.Sink.taken c.args.sink.now) out))
    (pack_written c.records_are_packs.ensures lines c.args.bytes.now short p) (c.put_rewritten-in-Binary.ensures.ok lines (pack_left lines c.args.bytes.now p))

pub returns-in-Binary-clause-err : goal.returns-in-Binary-clause-err
returns-in-Binary-clause-err g c = λ lines s.
    let r = c.requires.trace in
    let short = subst (All HasShortNames) (c.spelled_lists_differ.ensures r.0 lines c.args.bytes.now r.1 s) r.2 in
    let p = subst (λ (f : Format). SpellsIn f lines c.args.bytes.now) (sym c.in-Binary.ensures) s in
    subst (λ (out : List ℕ). OnErr c.put_rewritten-in-Binary.result (TakesPrefix (g.O.Sink.taken c.args.sink.now) (g.O.Sink.taken c.put_rewritten-in-Binary.new.sink) out))
    (pack_written c.records_are_packs.ensures lines c.args.bytes.now short p) (c.put_rewritten-in-Binary.ensures.err lines (pack_left lines c.args.bytes.now p))
