use Rattle.std.proofs.Common.{◌≡◌, ◌∙◌, List, ℕ, ap, subst, reverse, length}
use Rattle.std.specs.List.{flat_map}
use Rattle.et_base.proofs.Options.{on_any_err}
use Rattle.et_io.specs.Sink.{with_more, TakesPrefix}
use Rattle.et_io.proofs.Taking.{none_put}
use Rattle.et_replay.specs.Items.{made_objects}
use Rattle.et_replay.specs.Replay.{replay_text}
use Rattle.et_replay.specs.Seats.{told_line}
use Rattle.et_replay.proofs.Seating.{told_of, told_many, text_is}
use Rattle.et_replay.proofs.replaying.replay.Goals as goal

pub lines_of-requires-clause-told : goal.lines_of-requires-clause-told
lines_of-requires-clause-told g c =
    let t = told_many _ (length (made_objects c.args.timeline.now)) c.args.models.items c.requires.0 c.requires.1 in
    rw c.items.ensures.value (t.told, t.zip, t.many)

pub returns-in_default-clause-err : goal.returns-in_default-clause-err
returns-in_default-clause-err g c = λ reached decides policies z. none_put (g.O.Sink.taken c.args.sink.now) (replay_text reached c.args.timeline.now policies)

pub returns-in_default-lines_of-clause-err : goal.returns-in_default-lines_of-clause-err
returns-in_default-lines_of-clause-err g c = λ reached decides policies z. none_put (g.O.Sink.taken c.args.sink.now) (replay_text reached c.args.timeline.now policies)

pub returns-in_err-put_all-clause-err : goal.returns-in_err-put_all-clause-err
returns-in_err-put_all-clause-err g c = λ reached decides policies z.
    (let t = told_of _ c.args.models.items policies z in
    let items = c.args.timeline.now in
    let text : c.as_slice.result.now ≡ replay_text reached items policies =
    c.as_slice.ensures.value ∙ (c.in-Ok-lines_of.ensures reached decides t.told t.zip ∙ (ap (λ is. flat_map (told_line reached (reverse is)) t.told) c.items.ensures.value ∙ text_is _ reached items c.args.models.items policies t)) in
    on_any_err c.from_residual.result (subst (λ (u : List ℕ). TakesPrefix (g.O.Sink.taken c.args.sink.now) (g.O.Sink.taken c.put_all.new.sink) u) text c.in_err-put_all.ensures.err))

pub returns-clause-ok : goal.returns-clause-ok
returns-clause-ok g c = λ reached decides policies z.
    (let t = told_of _ c.args.models.items policies z in
    let items = c.args.timeline.now in
    let text : c.as_slice.result.now ≡ replay_text reached items policies =
    c.as_slice.ensures.value ∙ (c.in-Ok-lines_of.ensures reached decides t.told t.zip ∙ (ap (λ is. flat_map (told_line reached (reverse is)) t.told) c.items.ensures.value ∙ text_is _ reached items c.args.models.items policies t)) in
    subst (λ (u : List ℕ). g.O.Sink.taken c.put_all.new.sink ≡ with_more (g.O.Sink.taken c.args.sink.now) u) text c.in_ok-put_all.ensures.ok)
