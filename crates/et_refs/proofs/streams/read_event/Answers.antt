use Rattle.std.proofs.Common.{sym, ◌∙◌, ap, subst}
use Rattle.std.specs.Prelude.{Result, is_some}
use Rattle.et_heap.specs.Objects.{referent_of}
use Rattle.et_state.specs.Outcome.{Outcome}
use Rattle.et_state.specs.State.{Kept, kept_of}
use Rattle.et_event.specs.Answered.{EventAnswers}
use Rattle.et_event.specs.Moments.{begins, moment}
use Rattle.et_event.proofs.OutTurns.{out_instructs}
use Rattle.et_event.proofs.Answering.{if_ok}
use Rattle.et_refs.specs.Accesses.{access_outcome}
use Rattle.et_refs.specs.StaticReads.{out_slot}
use Rattle.et_refs.specs.declared.doing.accesses.Wanted.{Wanted}
use Rattle.et_refs.specs.declared.refusals.Refusal.{Refusal}
use Rattle.et_refs.specs.declared.slots.static_fields.StaticRead.{StaticRead}
use Rattle.et_refs.proofs.OutReading.{never_refused, read_made, read_ready}
use Rattle.et_refs.proofs.streams.read_event.Goals as goal

pub unreachable-requires : goal.unreachable-requires
unreachable-requires c =
    let p = c.args.program.now in
    let m = c.args.machine.now in
    let t = c.args.thread in
    never_refused p m t c.args.place.now (out_instructs p (kept_of m) t c.requires.turn) c.requires.at.place c.requires.row c.read_field.result
    (ap (λ (r : Result StaticRead Refusal). out_slot (moment p m t) r) c.in-Err.is) c.read_field.ensures.is c.requires.turn

pub returns-in-Some : goal.returns-in-Some
returns-in-Some c =
    let p = c.args.program.now in
    let m = c.args.machine.now in
    let t = c.args.thread in
    let at = c.args.place.now.site in
    if_ok c.ready_event.result
    (λ end a x read.
    let there = ap is_some (ap referent_of (sym c.static_slot.ensures) ∙ (sym c.referent.ensures ∙ c.in-Some.is)) in
    let same = read_ready p m t c.args.place.now (out_instructs p (kept_of m) t c.requires.turn) c.requires.at.place c.requires.row c.in-Ok.read c.in-Ok.ensures.is x read there ∙ ap (λ (w : Wanted). access_outcome (moment p m t) at w (begins (moment p m t))) (sym c.wanted.ensures) in
    subst (λ (o : Outcome Kept). EventAnswers o end m c.ready_event.new.machine c.args.out.now c.ready_event.new.out) (sym same) a)
    c.ready_event.ensures

pub returns-in-None : goal.returns-in-None
returns-in-None c =
    let p = c.args.program.now in
    let m = c.args.machine.now in
    let t = c.args.thread in
    let at = c.args.place.now.site in
    if_ok c.made_event.result
    (λ end a x read.
    let missing = ap referent_of (sym c.static_slot.ensures) ∙ (sym c.referent.ensures ∙ c.in-None.is) in
    let same = read_made p m t c.args.place.now (out_instructs p (kept_of m) t c.requires.turn) c.requires.at.place c.requires.row c.in-Ok.read c.in-Ok.ensures.is x read missing in
    subst (λ (o : Outcome Kept). EventAnswers o end m c.made_event.new.machine c.args.out.now c.made_event.new.out) (sym same) (a at (sym c.next.ensures)))
    c.made_event.ensures
