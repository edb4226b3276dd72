use Rattle.std.proofs.Common.{rules}
use Rattle.et_io.proofs.Taking.{none_put}
use Rattle.et_top.proofs.ModelLemmas.{zip_weaker}
use Rattle.et_top.proofs.models.replay_trace.Goals as goal

pub returns-in-Err-clause-err : goal.returns-in-Err-clause-err
returns-in-Err-clause-err g c lines good kept reached decides = none_put (g.O.Sink.taken c.args.out.now) _

pub returns-in-Err-choose-clause-err : goal.returns-in-Err-choose-clause-err
returns-in-Err-choose-clause-err g c lines good kept reached decides = none_put (g.O.Sink.taken c.args.out.now) _

pub replay-requires : goal.replay-requires
replay-requires g c = (_, zip_weaker _ _ c.in-Ok-choose.chosen.items _ (λ b p h. (c.count_made.result, search (rules, c.count_made.ensures, c.items-2.ensures.value), h)) c.in-Ok-choose.ensures)

pub returns-in-Ok-replay-clause-ok : goal.returns-in-Ok-replay-clause-ok
returns-in-Ok-replay-clause-ok g c lines good kept reached decides =
    rw (← c.in-Ok.ensures lines good kept) (c.in-Ok-replay.ensures.ok reached decides _ (zip_weaker _ _ c.in-Ok-choose.chosen.items _ (λ b p h. (c.count_made.result, h)) c.in-Ok-choose.ensures))

pub returns-clause-err : goal.returns-clause-err
returns-clause-err g c lines good kept reached decides =
    rw (← c.in-Ok.ensures lines good kept) (c.in-Err-replay.ensures.err reached decides _ (zip_weaker _ _ c.in-Ok-choose.chosen.items _ (λ b p h. (c.count_made.result, h)) c.in-Ok-choose.ensures))
