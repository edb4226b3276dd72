use Rattle.std.proofs.Common.{◌≡◌, ℕ, ◌+◌, ◌-◌, ◌≤◌, length, List, Option, Some, None, refl, sym, subst, arith}
use Rattle.std.specs.Prelude.{◌⊎◌, IfOk, IsSome}
use Rattle.et_state.specs.declared.records.Record.{Record}
use Rattle.et_state.specs.Answers.{SaysWhereDone}
use Rattle.et_state.specs.Outcome.{state_after}
use Rattle.et_state.specs.Spoken.{spoken}
use Rattle.et_state.specs.State.{Kept, MachineState, kept_of}
use Rattle.et_event.specs.Answered.{EventAnswers, TextAnswers}
use Rattle.et_event.specs.Beginning.{BeginsEvent}
use Rattle.et_event.specs.Event.{event}
use Rattle.et_event.specs.Sound.{IsSoundFor}
use Rattle.et_event.specs.SoundTexts.{HasSoundTexts}
use Rattle.et_event.specs.Out.{out_turn}
use Rattle.et_event.specs.Selected.{text_call}
use Rattle.et_event.specs.Told.{event_with_texts, said_by}
use Rattle.et_run.specs.WithTexts.{state_of, text_turn}
use Rattle.et_run.proofs.Answering.{leads_after, on_ok, unended_with}
use Rattle.et_run.proofs.Flushing.{machine_sound}
use Rattle.et_run.proofs.TextTurns.{left, not_left, of_texts, tabled, tabled_grown, tabled_unsaid}
use Rattle.et_run.proofs.turns.turn_event.Given as given
use Rattle.et_run.proofs.turns.turn_event.Goals.{In-Native}
use Rattle.et_run.proofs.turns.turn_event.Goals as goal

-- few objects are visited in a turn of texts, and in another as many objects are made
few_visits : (r : Option ℕ) (old new a b n : ℕ) → (r ≡ None → a ≡ b) → (IsSome r → new ≤ old + 2) → new ≤ old + 8 + (b - n) → new ≤ old + 8 + (a - n)
few_visits None old new a b n same few visits = let e : a ≡ b = same refl in omega (arith, e, visits)
few_visits (Some k) old new a b n same few visits = let le : new ≤ old + 2 = few refl in omega (arith, le)

pub event_by_family-requires : goal.event_by_family-requires
event_by_family-requires g c =
    record {
      begins = record {
        program = c.requires.program;
        sound = machine_sound c.args.program.now c.args.running.now.texts c.args.running.now.machine c.has_no_texts.ensures c.requires.sound;
        clock = c.requires.clock;
        thread = c.requires.thread;
      };
    }

pub returns-in_err-end-clause-visits : goal.returns-in_err-end-clause-visits
returns-in_err-end-clause-visits g c =
    let p = c.args.program.now in
    let m = c.args.running.now.machine in
    let x = c.args.running.now.texts in
    let s : Kept = kept_of m in
    few_visits (text_turn p s c.args.thread) c.args.visits.now c.event_by_family.new.visits (length (state_after (spoken x s) (event_with_texts p (spoken x s) c.args.thread)).heap) (length (state_after s (event p s c.args.thread)).heap) (length m.heap)
    (λ none. tabled_grown p x m c.args.thread c.has_no_texts.ensures none) c.in_err-end.ensures.deferred c.in_err-end.ensures.visits

-- the event was left to the event call of texts
left_text : (g : given.Over) (c : In-Native g) → IsSome (text_turn c.args.program.now (kept_of c.args.running.now.machine) c.args.thread) × (c.event_by_family.new.machine ≡ c.args.running.now.machine) × (c.event_by_family.new.out ≡ c.args.out.now.records)
left_text g c =
    let p = c.args.program.now in
    let m = c.args.running.now.machine in
    left (text_turn p (kept_of m) c.args.thread) (event p (kept_of m) c.args.thread) c.in_ok-end.end c.in-Native.method m c.event_by_family.new.machine c.args.out.now.records c.event_by_family.new.out c.in-Native.is c.in_ok-end.ensures.event

pub strings_event-requires-clause-begins : goal.strings_event-requires-clause-begins
strings_event-requires-clause-begins g c =
    let p = c.args.program.now in
    subst (λ (x : MachineState). BeginsEvent p x c.args.thread) (sym (left_text g (goal.at.strings_event-requires-clause-begins g c).In-Native).1) (record {
      program = c.requires.program;
      sound = machine_sound p c.args.running.now.texts c.args.running.now.machine c.has_no_texts.ensures c.requires.sound;
      clock = c.requires.clock;
      thread = c.requires.thread;
    })

pub strings_event-requires-clause-texts : goal.strings_event-requires-clause-texts
strings_event-requires-clause-texts g c =
    subst (λ (x : MachineState). HasSoundTexts c.args.program.now (spoken c.args.running.now.texts (kept_of x))) (sym (left_text g (goal.at.strings_event-requires-clause-texts g c).In-Native).1) c.requires.texts

pub strings_event-requires-clause-turn : goal.strings_event-requires-clause-turn
strings_event-requires-clause-turn g c =
    let p = c.args.program.now in
    let is = left_text g (goal.at.strings_event-requires-clause-turn g c).In-Native in
    subst (λ (x : MachineState). IsSome (text_call p (kept_of x) c.args.thread) ⊎ IsSome (out_turn p (kept_of x) c.args.thread)) (sym is.1) (of_texts p (kept_of c.args.running.now.machine) c.args.thread is.0)

pub returns-in-Native-clause-said : goal.returns-in-Native-clause-said
returns-in-Native-clause-said g c =
    let is = left_text g (goal.at.returns-in-Native-clause-said g c).In-Native in
    subst (λ (x : MachineState). IfOk c.strings_event.result (λ end. SaysWhereDone end (said_by c.args.program.now (spoken c.args.running.now.texts (kept_of x)) c.args.thread) c.args.out.now.said.items c.strings_event.new.out.said.items)) is.1 c.strings_event.ensures.said

pub returns-in-Native-clause-visits : goal.returns-in-Native-clause-visits
returns-in-Native-clause-visits g c =
    let is = left_text g (goal.at.returns-in-Native-clause-visits g c).In-Native in
    let few = c.in_ok-end.ensures.deferred is.0 in
    omega (arith, few, c.strings_event.ensures.visits)

-- what the event call of texts answers
text_answers : (g : given.Over) (c : goal.After-strings_event g) → IfOk c.strings_event.result (λ end. TextAnswers (event_with_texts c.args.program.now (state_of c.args.running.now) c.args.thread) end c.args.running.now.machine c.strings_event.new.machine c.args.running.now.texts c.strings_event.new.texts c.args.out.now.records c.strings_event.new.out.records)
text_answers g c =
    let p = c.args.program.now in
    let m = c.args.running.now.machine in
    let x = c.args.running.now.texts in
    let s : Kept = kept_of m in
    let is = left (text_turn p s c.args.thread) (event p s c.args.thread) c.in_ok-end.end c.in-Native.method m c.event_by_family.new.machine c.args.out.now.records c.event_by_family.new.out c.in-Native.is c.in_ok-end.ensures.event in
    subst (λ (y : MachineState). IfOk c.strings_event.result (λ end. TextAnswers (event_with_texts p (spoken x (kept_of y)) c.args.thread) end y c.strings_event.new.machine x c.strings_event.new.texts c.args.out.now.records c.strings_event.new.out.records)) is.1
    (subst (λ (rs : List Record). IfOk c.strings_event.result (λ end. TextAnswers (event_with_texts p (spoken x (kept_of c.event_by_family.new.machine)) c.args.thread) end c.event_by_family.new.machine c.strings_event.new.machine x c.strings_event.new.texts rs c.strings_event.new.out.records)) is.2 c.strings_event.ensures.event)

pub returns-in-Native-clause-event : goal.returns-in-Native-clause-event
returns-in-Native-clause-event g c = text_answers g c

pub returns-in-Native-clause-sound : goal.returns-in-Native-clause-sound
returns-in-Native-clause-sound g c =
    let p = c.args.program.now in
    let s : Kept = state_of c.args.running.now in
    on_ok c.strings_event.result _ _ (text_answers g c) (λ end h.
    leads_after (IsSoundFor p) (event_with_texts p s c.args.thread) end c.args.running.now.machine c.strings_event.new.machine c.args.running.now.texts c.strings_event.new.texts c.args.out.now.records c.strings_event.new.out.records c.requires.sound
    (c.events_lead_to_sound_states.ensures p s c.args.thread c.requires.sound (unended_with c.args.running.now.machine.guest c.args.running.now.texts c.args.thread c.requires.thread) c.requires.program c.requires.clock) h)

pub returns-in-Native-clause-sound_texts : goal.returns-in-Native-clause-sound_texts
returns-in-Native-clause-sound_texts g c =
    let p = c.args.program.now in
    let s : Kept = state_of c.args.running.now in
    on_ok c.strings_event.result _ _ (text_answers g c) (λ end h.
    leads_after (HasSoundTexts p) (event_with_texts p s c.args.thread) end c.args.running.now.machine c.strings_event.new.machine c.args.running.now.texts c.strings_event.new.texts c.args.out.now.records c.strings_event.new.out.records c.requires.texts
    (c.texts_stay_sound.ensures p s c.args.thread c.requires.sound (unended_with c.args.running.now.machine.guest c.args.running.now.texts c.args.thread c.requires.thread) c.requires.program c.requires.texts) h)

-- what the table answers

abbrev Tabled : (g : given.Over) (c : goal.After-has_no_texts-in_default g) → Type 0
Tabled g c = TextAnswers (event_with_texts c.args.program.now (state_of c.args.running.now) c.args.thread) c.in_ok-end.end c.args.running.now.machine c.event_by_family.new.machine c.args.running.now.texts c.args.running.now.texts c.args.out.now.records c.event_by_family.new.out

not_texts : (g : given.Over) (c : goal.After-has_no_texts-in_default g) → (text_turn c.args.program.now (kept_of c.args.running.now.machine) c.args.thread ≡ None) × EventAnswers (event c.args.program.now (kept_of c.args.running.now.machine) c.args.thread) c.in_ok-end.end c.args.running.now.machine c.event_by_family.new.machine c.args.out.now.records c.event_by_family.new.out
not_texts g c =
    let p = c.args.program.now in
    let m = c.args.running.now.machine in
    not_left (text_turn p (kept_of m) c.args.thread) (event p (kept_of m) c.args.thread) c.in_ok-end.end m c.event_by_family.new.machine c.args.out.now.records c.event_by_family.new.out (λ method is. c.in_default.not-Native method is) c.in_ok-end.ensures.event

table_answers : (g : given.Over) (c : goal.After-has_no_texts-in_default g) → Tabled g c
table_answers g c =
    let p = c.args.program.now in
    let m = c.args.running.now.machine in
    let none = not_texts g c in
    tabled p c.args.running.now.texts m c.args.thread c.has_no_texts.ensures none.0 c.in_ok-end.end c.event_by_family.new.machine c.args.out.now.records c.event_by_family.new.out c.has_no_texts-in_default.ensures none.1

pub returns-in_default-clause-event : goal.returns-in_default-clause-event
returns-in_default-clause-event g c = table_answers g c

pub returns-in_default-clause-said : goal.returns-in_default-clause-said
returns-in_default-clause-said g c =
    let p = c.args.program.now in
    tabled_unsaid p c.args.running.now.texts c.args.running.now.machine c.args.thread c.has_no_texts.ensures (not_texts g c).0 c.in_ok-end.end c.args.out.now.said.items

pub returns-in_default-clause-visits : goal.returns-in_default-clause-visits
returns-in_default-clause-visits g c =
    let p = c.args.program.now in
    let grown = tabled_grown p c.args.running.now.texts c.args.running.now.machine c.args.thread c.has_no_texts.ensures (not_texts g c).0 in
    omega (arith, grown, c.in_ok-end.ensures.visits)

pub returns-in_default-clause-sound : goal.returns-in_default-clause-sound
returns-in_default-clause-sound g c =
    let p = c.args.program.now in
    let s : Kept = state_of c.args.running.now in
    leads_after (IsSoundFor p) (event_with_texts p s c.args.thread) c.in_ok-end.end c.args.running.now.machine c.event_by_family.new.machine c.args.running.now.texts c.args.running.now.texts c.args.out.now.records c.event_by_family.new.out c.requires.sound
    (c.events_lead_to_sound_states.ensures p s c.args.thread c.requires.sound (unended_with c.args.running.now.machine.guest c.args.running.now.texts c.args.thread c.requires.thread) c.requires.program c.requires.clock) (table_answers g c)

pub returns-in_default-clause-sound_texts : goal.returns-in_default-clause-sound_texts
returns-in_default-clause-sound_texts g c =
    let p = c.args.program.now in
    let s : Kept = state_of c.args.running.now in
    leads_after (HasSoundTexts p) (event_with_texts p s c.args.thread) c.in_ok-end.end c.args.running.now.machine c.event_by_family.new.machine c.args.running.now.texts c.args.running.now.texts c.args.out.now.records c.event_by_family.new.out c.requires.texts
    (c.texts_stay_sound.ensures p s c.args.thread c.requires.sound (unended_with c.args.running.now.machine.guest c.args.running.now.texts c.args.thread c.requires.thread) c.requires.program c.requires.texts) (table_answers g c)
