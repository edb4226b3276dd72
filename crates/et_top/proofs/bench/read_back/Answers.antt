use Rattle.std.proofs.Common.{List, ℕ, refl, ap, subst}
use Rattle.et_io.specs.MemSink.{SinkInMemory}
use Rattle.et_text.specs.Text.{IsTextOf}
use Rattle.et_top.specs.Bench.{bench_options}
use Rattle.et_base.specs.declared.format.Format.TheVariants.{Text}
use Rattle.et_convert.specs.Spellings.{IsAnswerIn}
use Rattle.et_top.proofs.BenchHistory.{cut_off, back, not_back}
use Rattle.et_top.proofs.bench.read_back.Goals as goal

pub returns-in-Ok-read_text-clause-ok : goal.returns-in-Ok-read_text-clause-ok
returns-in-Ok-read_text-clause-ok g c reached decides = (
  c.in-Ok.ran.event,
  back reached c.args.program.now c.args.visits.now c.run.new.visits bench_options refl c.begin-sink.result.taken c.run.new.trace.taken (ap (λ (s : SinkInMemory). s.taken) c.begin-sink.ensures)
      c.in-Ok.ran (c.in-Ok.ensures.over reached decides).trace (c.in-Ok.ensures.over reached decides).visits c.in-Ok-read_text.trace
      (subst (λ (bytes : List ℕ). IsTextOf c.in-Ok-read_text.trace bytes) c.bytes.ensures c.in-Ok-read_text.ensures.trace),
)

pub returns-in-Ok-clause-err : goal.returns-in-Ok-clause-err
returns-in-Ok-clause-err g c reached decides =
    not_back reached c.args.program.now c.args.visits.now c.run.new.visits bench_options refl c.begin-sink.result.taken c.run.new.trace.taken (ap (λ (s : SinkInMemory). s.taken) c.begin-sink.ensures)
    c.in-Ok.ran (c.in-Ok.ensures.over reached decides).trace (c.in-Ok.ensures.over reached decides).visits c.in-Err-read_text.fault
    (subst (λ (bytes : List ℕ). IsAnswerIn Text bytes c.in-Err-read_text.fault) c.bytes.ensures c.in-Err-read_text.ensures.fault)

pub returns-clause-err : goal.returns-clause-err
returns-clause-err g c reached decides =
    cut_off reached c.args.program.now c.args.visits.now c.run.new.visits bench_options refl c.begin-sink.result.taken c.run.new.trace.taken (ap (λ (s : SinkInMemory). s.taken) c.begin-sink.ensures)
    (c.in-Err.ensures.cut_off reached decides).cut
