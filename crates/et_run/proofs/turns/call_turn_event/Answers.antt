use Rattle.std.proofs.Common.{◌≡◌, ℕ, List, Option, None, sym, ◌∙◌, ap, subst}
use Rattle.std.specs.Prelude.{IfOk, IsSome, is_some}
use Rattle.et_program.specs.BuiltIns.{text_method_of}
use Rattle.et_program.specs.Entries.{Linked}
use Rattle.et_event.specs.Families.{family_of}
use Rattle.et_event.specs.declared.families.Family.TheVariants.{Calls}
use Rattle.et_program.specs.BootTexts.TextMethod.{TextMethod}
use Rattle.et_state.specs.State.{Kept, MachineState, kept_of}
use Rattle.et_state.specs.declared.records.Record.{Record}
use Rattle.et_state.specs.declared.ends.EventEnd.{EventEnd}
use Rattle.et_state.specs.declared.ends.EventEnd.TheVariants as ends
use Rattle.et_event.specs.Answered.{DefersOrAnswers, EventAnswers}
use Rattle.et_event.specs.Beginning.{BeginsEvent}
use Rattle.et_event.specs.Event.{event}
use Rattle.et_event.specs.Out.{out_method}
use Rattle.et_event.specs.Selected.{deferred_call}
use Rattle.et_event.proofs.Deferrals.{answered, none_deferred}
use Rattle.et_event.proofs.Answering.{if_ok}
use Rattle.et_run.specs.WithTexts.{text_turn}
use Rattle.et_run.proofs.TextTurns.{called, called_other, call_unread, text_deferred}
use Rattle.et_run.proofs.turns.call_turn_event.Goals as goal

pub returns-in_err-end-clause-deferred : goal.returns-in_err-end-clause-deferred
returns-in_err-end-clause-deferred g c = λ some. c.in_err-end.ensures.deferred (text_deferred c.args.program.now (kept_of c.args.machine.now) c.args.thread c.requires.family some)

-- where another method than one of texts is called, the turn is none of texts, and nothing was changed
other_called : (p : Linked) (m m' : MachineState) (t : ℕ) (end : EventEnd) (method : ℕ) (found : Option TextMethod) (out out' : List Record) → family_of p (kept_of m) t ≡ Calls → found ≡ text_method_of p method → found ≡ None → end ≡ ends.Native method
    → DefersOrAnswers (deferred_call p (kept_of m) t) (event p (kept_of m) t) end m m' out out' → (text_turn p (kept_of m) t ≡ None) × IsSome (deferred_call p (kept_of m) t) × (m' ≡ m) × (out' ≡ out)
other_called p m m' t end method found out out' family same none is h =
    called_other p (deferred_call p (kept_of m) t) (out_method p (kept_of m) t) (event p (kept_of m) t) method m m' out out' (call_unread p (kept_of m) t family)
    (ap (λ (x : Option TextMethod). is_some x) (sym same ∙ none))
    (subst (λ (x : EventEnd). DefersOrAnswers (deferred_call p (kept_of m) t) (event p (kept_of m) t) x m m' out out') is h)

pub sync_event-requires-clause-begins : goal.sync_event-requires-clause-begins
sync_event-requires-clause-begins g c =
    let is = other_called c.args.program.now c.args.machine.now c.calls_event.new.machine c.args.thread c.in_ok-end.end c.in-Native.method c.text_method.result c.args.out.now c.calls_event.new.out c.requires.family c.text_method.ensures c.in-None.is c.in-Native.is c.in_ok-end.ensures.event in
    subst (λ (m : MachineState). BeginsEvent c.args.program.now m c.args.thread) (sym is.2) c.requires.begins

pub returns-in-None-clause-event : goal.returns-in-None-clause-event
returns-in-None-clause-event g c =
    let p = c.args.program.now in
    let m = c.args.machine.now in
    let s : Kept = kept_of m in
    let is = other_called p m c.calls_event.new.machine c.args.thread c.in_ok-end.end c.in-Native.method c.text_method.result c.args.out.now c.calls_event.new.out c.requires.family c.text_method.ensures c.in-None.is c.in-Native.is c.in_ok-end.ensures.event in
    if_ok c.sync_event.result
    (λ end a. answered (text_turn p s c.args.thread) (event p s c.args.thread) end m c.sync_event.new.machine c.args.out.now c.sync_event.new.out is.0 a)
    (subst (λ (y : MachineState). IfOk c.sync_event.result (λ end. EventAnswers (event p (kept_of y) c.args.thread) end y c.sync_event.new.machine c.args.out.now c.sync_event.new.out)) is.2
    (subst (λ (rs : List Record). IfOk c.sync_event.result (λ end. EventAnswers (event p (kept_of c.calls_event.new.machine) c.args.thread) end c.calls_event.new.machine c.sync_event.new.machine rs c.sync_event.new.out)) is.3 c.sync_event.ensures.event))

pub returns-in-None-clause-deferred : goal.returns-in-None-clause-deferred
returns-in-None-clause-deferred g c = λ some.
    let p = c.args.program.now in
    let s : Kept = kept_of c.args.machine.now in
    let is = other_called p c.args.machine.now c.calls_event.new.machine c.args.thread c.in_ok-end.end c.in-Native.method c.text_method.result c.args.out.now c.calls_event.new.out c.requires.family c.text_method.ensures c.in-None.is c.in-Native.is c.in_ok-end.ensures.event in
    absurd (none_deferred (text_turn p s c.args.thread) is.0 some)

pub returns-in_default-clause-event : goal.returns-in_default-clause-event
returns-in_default-clause-event g c =
    let p = c.args.program.now in
    let s : Kept = kept_of c.args.machine.now in
    called p (deferred_call p s c.args.thread) (out_method p s c.args.thread) (event p s c.args.thread) c.in_ok-end.end c.args.machine.now c.calls_event.new.machine c.args.out.now c.calls_event.new.out (call_unread p s c.args.thread c.requires.family) (λ method is. absurd (c.in_default.not-Native method is)) c.in_ok-end.ensures.event

pub returns-in_default-clause-deferred : goal.returns-in_default-clause-deferred
returns-in_default-clause-deferred g c = λ some. c.in_ok-end.ensures.deferred (text_deferred c.args.program.now (kept_of c.args.machine.now) c.args.thread c.requires.family some)
