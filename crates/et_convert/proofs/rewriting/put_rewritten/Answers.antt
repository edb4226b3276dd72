use Rattle.std.proofs.Common.{◌≡◌, ◌∙◌, ◌++◌, [], ℕ, List, drop, refl, ap, sym, subst}
use Rattle.std.specs.Prelude.{All, OnOk, OnErr}
use Rattle.std.proofs.lemmas.List.Elements.{All-head, All-tail}
use Rattle.et_base.specs.declared.format.Format.{Format}
use Rattle.et_base.specs.declared.line.TraceLine.{TraceLine}
use Rattle.et_base.proofs.Options.{on_any_err}
use Rattle.et_io.specs.Sink.{with_more, TakesUpTo, TakesPrefix}
use Rattle.et_io.proofs.Taking.{takes_nothing}
use Rattle.et_text.specs.Ranges.{HasShortNames}
use Rattle.et_convert.specs.Conversions.{converted_line}
use Rattle.et_convert.specs.Rewriting.{bytes_of, StandsFirst}
use Rattle.et_convert.proofs.LinesLeft.{puts, fails, stops, ends, ends_early, shorter}
use Rattle.et_convert.proofs.rewriting.put_rewritten.Goals as goal

pub lines-init : goal.lines-init
lines-init g c =
    let t = g.O.Sink.taken c.args.sink.now in
    record {
      has = c.requires.lines;
      put = λ lines a. record { number = 0; left = a; taken = subst (λ (r : List ℕ). TakesUpTo t t [] r) (sym c.new-gathered.ensures.items) (takes_nothing t []) };
      faults = refl;
    }

pub returns-in_default-clause-err : goal.returns-in_default-clause-err
returns-in_default-clause-err g c = λ lines a.
    let l = c.lines in
    stops c.args.format lines l.rest.now (g.O.Sink.taken c.args.sink.now) (g.O.Sink.taken l.sink) l.gathered.items (l.invariant.put lines a)

pub returns-in_default-next-clause-ok : goal.returns-in_default-next-clause-ok
returns-in_default-next-clause-ok g c = λ lines a.
    let l = c.lines in
    let h = l.invariant.put lines a in
    let mid = g.O.Sink.taken l.sink in
    let new = g.O.Sink.taken c.put_all.new.sink in
    let left = c.in-Ok.ensures.none (drop h.number lines) h.left in
    ends c.args.format lines l.rest.now (g.O.Sink.taken c.args.sink.now) mid l.gathered.items h c.put_all.result new (rw c.in_default-next.is at left)
    (subst (λ (t : List ℕ). OnOk c.put_all.result (new ≡ with_more mid t)) c.as_slice.ensures.value c.put_all.ensures.ok)

pub returns-in_default-next-clause-err : goal.returns-in_default-next-clause-err
returns-in_default-next-clause-err g c = λ lines a.
    let l = c.lines in
    let h = l.invariant.put lines a in
    let mid = g.O.Sink.taken l.sink in
    let new = g.O.Sink.taken c.put_all.new.sink in
    let left = c.in-Ok.ensures.none (drop h.number lines) h.left in
    ends_early c.args.format lines l.rest.now (g.O.Sink.taken c.args.sink.now) mid l.gathered.items h c.put_all.result new (rw c.in_default-next.is at left)
    (subst (λ (t : List ℕ). OnErr c.put_all.result (TakesPrefix mid new t)) c.as_slice.ensures.value c.put_all.ensures.err)

pub gather-requires : goal.gather-requires
gather-requires g c =
    let has = c.lines.invariant.has in
    let some = c.in-Ok.ensures.some has.0 has.1 in
    let s : StandsFirst c.args.format has.0 c.in-Some.line c.in-Some.behind.now = rw c.in-Some.is at some in
    record { short = All-head HasShortNames c.in-Some.line s.more (subst (All HasShortNames) s.first has.2) }

pub returns-in_err-gather-clause-err : goal.returns-in_err-gather-clause-err
returns-in_err-gather-clause-err g c = λ lines a.
    let l = c.lines in
    let h = l.invariant.put lines a in
    let some = c.in-Ok.ensures.some (drop h.number lines) h.left in
    let s : StandsFirst c.args.format (drop h.number lines) c.in-Some.line c.in-Some.behind.now = rw c.in-Some.is at some in
    on_any_err c.from_residual.result
    (fails c.args.format lines l.rest.now (g.O.Sink.taken c.args.sink.now) (g.O.Sink.taken l.sink) l.gathered.items h c.in-Some.line c.in-Some.behind.now (g.O.Sink.taken c.gather.new.sink) (l.gathered.items ++ converted_line c.other_format-other.result c.in-Some.line)
    s (ap (λ (f : Format). l.gathered.items ++ converted_line f c.in-Some.line) c.other_format-other.ensures) c.in_err-gather.ensures.err)

pub lines-smaller : goal.lines-smaller
lines-smaller g c =
    let has = c.lines.invariant.has in
    let some = c.in-Ok.ensures.some has.0 has.1 in
    let s : StandsFirst c.args.format has.0 c.in-Some.line c.in-Some.behind.now = rw c.in-Some.is at some in
    let all = subst (λ (ls : List TraceLine). c.lines.rest.now ≡ bytes_of c.args.format ls) s.first has.1.bytes_are in
    shorter c.args.format c.in-Some.line s.more c.lines.rest.now c.in-Some.behind.now all s.left.bytes_are

pub lines-preserved : goal.lines-preserved
lines-preserved g c =
    let l = c.lines in
    let has = l.invariant.has in
    let some = c.in-Ok.ensures.some has.0 has.1 in
    let s : StandsFirst c.args.format has.0 c.in-Some.line c.in-Some.behind.now = rw c.in-Some.is at some in
    record {
      has = (s.more, s.left, All-tail HasShortNames c.in-Some.line s.more (subst (All HasShortNames) s.first has.2));
      put = λ lines a.
          let h = l.invariant.put lines a in
          let one = c.in-Ok.ensures.some (drop h.number lines) h.left in
          let t : StandsFirst c.args.format (drop h.number lines) c.in-Some.line c.in-Some.behind.now = rw c.in-Some.is at one in
          puts c.args.format lines l.rest.now (g.O.Sink.taken c.args.sink.now) (g.O.Sink.taken l.sink) l.gathered.items h c.in-Some.line c.in-Some.behind.now (g.O.Sink.taken c.gather.new.sink) (l.gathered.items ++ converted_line c.other_format-other.result c.in-Some.line) c.gather.new.gathered.items
          t (ap (λ (f : Format). l.gathered.items ++ converted_line f c.in-Some.line) c.other_format-other.ensures) c.in_ok-gather.ensures.ok;
      faults = c.in_ok-gather.ensures.write ∙ l.invariant.faults;
    }
