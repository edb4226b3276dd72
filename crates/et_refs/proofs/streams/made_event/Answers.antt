use Rattle.std.proofs.Common.{ℕ, sym, ◌∙◌, ap, subst}
use Rattle.std.specs.Prelude.{◌∷◌, []}
use Rattle.et_base.specs.declared.value.Value.TheVariants.{Ref}
use Rattle.et_heap.specs.Objects.{has_room}
use Rattle.et_state.specs.declared.ends.EventEnd.TheVariants as endings
use Rattle.et_event.specs.Answered.{EventAnswers}
use Rattle.et_event.specs.Moments.{ends_event}
use Rattle.et_refs.specs.Accesses.{replaces}
use Rattle.et_refs.proofs.OutMaking.{stream_answers, stream_done}
use Rattle.et_refs.proofs.streams.made_event.Goals as goal

pub returns : goal.returns
returns c = λ at same.
    let p = c.args.program.now in
    let m = c.args.machine.now in
    let t = c.args.thread in
    let class = c.class_called-class.result in
    let room = ap (λ (k : ℕ). has_room m.heap 1 k) (sym c.slots_of.ensures) ∙ (sym c.has_room.ensures ∙ c.if-not-has_room.false) in
    subst (λ (k : ℕ). EventAnswers (ends_event (stream_done p t k c.args.slot at m)) endings.Done m c.replace_top.new.machine c.args.out.now c.add_instance.new.out) c.class_called-class.ensures.value
    (stream_answers p t class c.args.slot at m c.requires.sound c.requires.frame c.requires.slot c.requires.unset c.begin_event.new.self c.add_instance.new.machine c.set_static.new.self c.replace_top.new.machine c.in_ok-stream.stream c.args.out.now c.add_instance.new.out
    room c.begin_event.ensures c.in_ok-stream.ensures.object c.in_ok-stream.ensures.made.0 c.set_static.ensures.new
    (c.replace_top.ensures ∙ ap (λ (n : ℕ). replaces t n 0 (Ref c.in_ok-stream.stream ∷ []) c.set_static.new.self) (sym same)) c.in_ok-stream.ensures.made.1)
