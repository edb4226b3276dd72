use Rattle.std.proofs.Common.{refl}
use Rattle.et_command.specs.Command as words
use Rattle.et_files.specs.Loaded.{file_bytes, most_of_trace, IsTraceOf}
use Rattle.et_top.proofs.AnswerLemmas.{text_answers, text_refused}
use Rattle.et_top.proofs.commands.replay.Goals as goal

pub returns : goal.returns
returns g c visits =
    text_answers g.F.Files g.O.Sink _ _ _ (words.Replay c.args.asked.now c.args.path.now) c.args.path.now refl (λ held found. IsTraceOf (file_bytes most_of_trace (held c.args.path.now)) found) _ (λ held d h. h) _ _ visits c.in_ok-happenings.happenings c.replay_trace.result _ c.written.ensures c.replay_trace.ensures.write c.in_ok-happenings.ensures.loads.read
    (λ held told found is.
    let t = c.in_ok-happenings.ensures.loads.tells held told found is in
    (t.0, t.1, λ reached decides. (c.replay_trace.ensures.ok t.0 t.2.good t.2.followed reached decides, c.replay_trace.ensures.err t.0 t.2.good t.2.followed reached decides)))

pub returns-in_err-happenings : goal.returns-in_err-happenings
returns-in_err-happenings g c visits = text_refused g.F.Files g.O.Sink _ _ _ (words.Replay c.args.asked.now c.args.path.now) c.args.path.now refl (λ held found. IsTraceOf (file_bytes most_of_trace (held c.args.path.now)) found) _ (λ held d h. h) _ visits c.in_err-happenings.field-0.0 c.from_residual.result c.from_residual.ensures.1 c.in_err-happenings.ensures.loads.read c.in_err-happenings.ensures.loads.tells

pub replay_trace-requires-clause-lines : goal.replay_trace-requires-clause-lines
replay_trace-requires-clause-lines g c = let t = c.in_ok-happenings.ensures.trace in (t.0, t.1.good, t.1.followed)
