use Rattle.std.proofs.Common.{◌≡◌, ℕ, List, Some, ap, refl, sym, subst, ◌∙◌}
use Rattle.std.specs.Prelude.{unwrap_or}
use Rattle.et_event.specs.Answered.{TextAnswers}
use Rattle.et_event.specs.Calls.{arguments_of}
use Rattle.et_event.specs.Moments.{moment}
use Rattle.et_event.specs.Selected.{text_call_at}
use Rattle.et_event.specs.declared.rows.CallKind.{CallKind}
use Rattle.et_event.specs.declared.rows.CallRow.TheVariants.{Invoke}
use Rattle.et_event.specs.declared.rows.Row.{Row}
use Rattle.et_event.specs.declared.rows.Row.TheVariants as rows
use Rattle.et_event.specs.Places.{IsPlace}
use Rattle.et_event.specs.Told.{said_by}
use Rattle.et_event.specs.declared.places.Place.{Place}
use Rattle.et_program.specs.Entries.{Linked}
use Rattle.et_event.proofs.Answering.{if_ok}
use Rattle.et_event.proofs.Running.{has_frame_there}
use Rattle.et_state.specs.Answers.{SaysWhereDone}
use Rattle.et_state.specs.Outcome.{Outcome}
use Rattle.et_state.specs.Spoken.{spoken}
use Rattle.et_state.specs.State.{Kept, MachineState, kept_of}
use Rattle.et_state.specs.Words.{top}
use Rattle.et_state.specs.declared.ends.EventEnd.{EventEnd}
use Rattle.et_state.specs.declared.ends.EventEnd.TheVariants as ends
use Rattle.et_strings.specs.declared.calls.TextCalled.{TextCalled}
use Rattle.et_strings.proofs.Saying.{row-done, row-refused}
use Rattle.et_strings.proofs.Turns.{Calls, IsTurn, at_row, instructs, invoke_calls, no_call_reads, no_place, row-called, said-called, text_at_place}
use Rattle.et_strings.proofs.event.strings_event.Goals as goal

-- WHERE IT STANDS

pub place_of-requires-clause-turn : goal.place_of-requires-clause-turn
place_of-requires-clause-turn g c = instructs c.args.program.now (kept_of c.args.machine.now) c.args.thread c.requires.turn

pub unreachable-requires : goal.unreachable-requires
unreachable-requires g c = no_place c.args.program.now c.args.machine.now c.args.thread c.in_default.ensures.none c.requires.turn

pub text_called-call-requires-clause-frame : goal.text_called-call-requires-clause-frame
text_called-call-requires-clause-frame g c = has_frame_there c.args.machine.now.guest c.args.thread (instructs c.args.program.now (kept_of c.args.machine.now) c.args.thread c.requires.turn)

pub text_called-call-requires-clause-call : goal.text_called-call-requires-clause-call
text_called-call-requires-clause-call g c =
    let e = moment c.args.program.now c.args.machine.now c.args.thread in
    invoke_calls e c.in-Some.place.site c.in-Some.place.row c.in-Some-invoke_kind.kind c.in-Some-invoke_kind.ensures.some (at_row c.args.program.now c.args.machine.now c.args.thread c.in-Some.place c.in-Some.ensures.found c.requires.turn)

pub row_event-requires-clause-answers : goal.row_event-requires-clause-answers
row_event-requires-clause-answers g c = record {
  machine = record { sound = c.requires.begins.sound.held; clock = c.requires.begins.clock; fits = c.requires.begins.sound.fits; silent = c.has_no_texts.ensures };
  texts = record { owned = λ k d lt. (c.requires.texts.owned k d lt).0; short = c.requires.texts.short; few = c.requires.texts.few };
  call = c.text_called-call.ensures.called;
}

pub read_event-requires-clause-turn : goal.read_event-requires-clause-turn
read_event-requires-clause-turn g c =
    let e = moment c.args.program.now c.args.machine.now c.args.thread in
    no_call_reads c.args.program.now c.args.machine.now c.args.thread c.in-Some.place c.in-Some.ensures.found (c.in-None.ensures.none e c.in-Some.place.site) c.requires.turn

-- THE EVENT

-- a method that doesn't fit is refused where its thread stands
ill-there : (m : MachineState) (t u : ℕ) (end : EventEnd) → u ≡ t → end ≡ ends.IllTyped (unwrap_or (top m.guest t).method 0) (top m.guest t).pc → end ≡ ends.IllTyped (unwrap_or (top m.guest u).method 0) (top m.guest u).pc
ill-there m t u end thread is = subst (λ (k : ℕ). end ≡ ends.IllTyped (unwrap_or (top m.guest k).method 0) (top m.guest k).pc) (sym thread) is

-- the call that the turn makes
made : (p : Linked) (m : MachineState) (t : ℕ) (place : Place) (kind : CallKind) (c : TextCalled) → IsTurn p (kept_of m) t → IsPlace p (top m.guest t) place → place.row ≡ rows.Call (Invoke kind)
    → text_call_at (moment p m t) place.site (rows.Call (Invoke kind)) ≡ Some (record { at = place.site; arguments = arguments_of (moment p m t) c.called.count; method = c.method }) → Calls p m t c place.site
made p m t place kind c turn is row call = text_at_place p m t place (instructs p (kept_of m) t turn) is ∙ (ap (λ (r : Row). text_call_at (moment p m t) place.site r) row ∙ call)

pub returns-then-not-is_fit-clause-event : goal.returns-then-not-is_fit-clause-event
returns-then-not-is_fit-clause-event g c =
    let p = c.args.program.now in
    let m = c.args.machine.now in
    let x = c.args.texts.now in
    let place = c.in-Some.place in
    let call = c.text_called-call in
    let calls = made p m c.args.thread place c.in-Some-invoke_kind.kind call.result c.requires.turn c.in-Some.ensures.found c.in-Some-invoke_kind.ensures.some call.ensures.call in
    let refused = row-refused p call.result c.ill_typed.result m x c.args.out.now.records (sym c.is_fit.ensures.value ∙ c.if-not-is_fit.true) (ill-there m c.args.thread call.result.called.thread c.ill_typed.result call.ensures.thread c.ill_typed.ensures) in
    subst (λ (k : Outcome Kept). TextAnswers k c.ill_typed.result m m x x c.args.out.now.records c.args.out.now.records)
    (sym (row-called p m x c.args.thread call.result place.site call.ensures.thread calls call.ensures.receiver)) (refused place.site (sym call.ensures.next))

pub returns-then-not-is_fit-clause-said : goal.returns-then-not-is_fit-clause-said
returns-then-not-is_fit-clause-said g c =
    subst (λ (k : EventEnd). SaysWhereDone k (said_by c.args.program.now (spoken c.args.texts.now (kept_of c.args.machine.now)) c.args.thread) c.args.out.now.said.items c.args.out.now.said.items) (sym c.ill_typed.ensures) refl

pub returns-else-not-is_fit-clause-event : goal.returns-else-not-is_fit-clause-event
returns-else-not-is_fit-clause-event g c =
    let place = c.in-Some.place in
    let call = c.text_called-call in
    let calls = made c.args.program.now c.args.machine.now c.args.thread place c.in-Some-invoke_kind.kind call.result c.requires.turn c.in-Some.ensures.found c.in-Some-invoke_kind.ensures.some call.ensures.call in
    if_ok c.row_event.result
    (λ end h. subst (λ (k : Outcome Kept). TextAnswers k end c.args.machine.now c.row_event.new.machine c.args.texts.now c.row_event.new.texts c.args.out.now.records c.row_event.new.out.records)
    (sym (row-called c.args.program.now c.args.machine.now c.args.texts.now c.args.thread call.result place.site call.ensures.thread calls call.ensures.receiver))
    (row-done c.args.program.now call.result end c.args.machine.now c.row_event.new.machine c.args.texts.now c.row_event.new.texts c.args.out.now.records c.row_event.new.out.records
    (sym c.is_fit.ensures.value ∙ c.if-not-is_fit.false) h place.site (sym call.ensures.next)))
    c.row_event.ensures.event

pub returns-else-not-is_fit-clause-said : goal.returns-else-not-is_fit-clause-said
returns-else-not-is_fit-clause-said g c =
    let place = c.in-Some.place in
    let call = c.text_called-call in
    let calls = made c.args.program.now c.args.machine.now c.args.thread place c.in-Some-invoke_kind.kind call.result c.requires.turn c.in-Some.ensures.found c.in-Some-invoke_kind.ensures.some call.ensures.call in
    if_ok c.row_event.result
    (λ end h. subst (λ (b : List ℕ). SaysWhereDone end b c.args.out.now.said.items c.row_event.new.out.said.items)
    (sym (said-called c.args.program.now c.args.machine.now c.args.texts.now c.args.thread call.result place.site call.ensures.thread calls)) (h place.site (sym call.ensures.next)))
    c.row_event.ensures.said
