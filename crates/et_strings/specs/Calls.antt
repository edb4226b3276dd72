-- A CALL OF A METHOD OF TEXTS, which a machine does that stands beside its texts.
use Rattle.std.specs.Prelude.{◌≡◌, ℕ, ◌<◌, ◌≤◌, ◌^◌, true, List, All, length}
use Rattle.std.specs.Map.{keys_of, values_of}
use Rattle.et_builtins.specs.Arguments.{arguments_in}
use Rattle.et_event.specs.Answered.{TextAnswers}
use Rattle.et_event.specs.BuiltIns.{argument}
use Rattle.et_event.specs.Calls.{arguments_of}
use Rattle.et_event.specs.Moments.{Moment, begins, fits_heap}
use Rattle.et_event.specs.Selected.{TextCall}
use Rattle.et_event.specs.Sites.{Site}
use Rattle.et_event.specs.TextRows.{said_in, text_done}
use Rattle.et_heap.specs.Objects.{IsHeld}
use Rattle.et_event.specs.Tops.{IsIn}
use Rattle.et_program.specs.BootTexts.TextMethod.{TextMethod}
use Rattle.et_program.specs.BootTexts.TextMethod.TheVariants.{Length, CharAt, Equals, ToString, Append}
use Rattle.et_program.specs.Entries.{Linked}
use Rattle.et_state.specs.Answers.{SaysWhereDone}
use Rattle.et_state.specs.Sound.{IsSound}
use Rattle.et_state.specs.Spoken.{spoken}
use Rattle.et_state.specs.State.{MachineState, kept_of}
use Rattle.et_state.specs.Texts.{Texts, no_texts, text_units, longest_text, most_units}
use Rattle.et_state.specs.Words.{HasFrame, top}
use Rattle.et_state.specs.declared.ends.EventEnd.{EventEnd}
use Rattle.et_state.specs.declared.records.Record.{Record}
use Rattle.et_strings.specs.declared.calls.TextCalled.{TextCalled}

-- the event that it does next
abbrev pub text_moment : Linked → MachineState → Texts → ℕ → Moment
text_moment p m x t = record { program = p; before = spoken x (kept_of m); thread = t }

-- an event may be done
pub record IsReady (m : MachineState) : Type 0 where
  pub sound : IsSound (kept_of m)
  pub clock : m.guest.clock < 2 ^ 40
  pub fits : fits_heap m.heap ≡ true
  pub silent : m.guest.texts ≡ no_texts

-- the texts are those of objects that are held, and no longer, nor more together, than they may be
pub record StandBeside (m : MachineState) (x : Texts) : Type 0 where
  pub owned : All (IsHeld m.heap) (keys_of x)
  pub short : All (λ units. length units ≤ longest_text) (values_of x)
  pub few : text_units x ≤ most_units

-- its arguments are the topmost operands
pub record IsCalled (m : MachineState) (c : TextCalled) : Type 0 where
  pub frame : HasFrame m.guest c.called.thread
  pub operands : c.called.count ≤ length (top m.guest c.called.thread).operands
  pub held : IsHeld m.heap c.object
  pub argument : c.argument ≡ argument (arguments_in (top m.guest c.called.thread) c.called.count) 1
  pub there : IsIn (top m.guest c.called.thread) c.argument

-- it may be answered
pub record MayAnswer (m : MachineState) (x : Texts) (c : TextCalled) : Type 0 where
  pub machine : IsReady m
  pub texts : StandBeside m x
  pub call : IsCalled m c

abbrev pub entries_given : TextMethod → ℕ
entries_given Length = 1
entries_given CharAt = 1
entries_given Equals = 1
entries_given ToString = 1
entries_given (Append kind) = 1
entries_given other = 0

-- THE ANSWER, wherever the call stands: what the row of a method does
abbrev pub AnswersText : TextMethod → Linked → TextCalled → EventEnd → (m m' : MachineState) → (x x' : Texts) → (out out' : List Record) → Type 0
AnswersText method p c end m m' x x' out out' =
    (at : Site) → at.next ≡ c.called.next →
    TextAnswers (text_done (text_moment p m x c.called.thread) at (begins (text_moment p m x c.called.thread)) (arguments_of (text_moment p m x c.called.thread) c.called.count) c.object method) end m m' x x' out out'

-- .. and what it prints
abbrev pub call_made : Linked → MachineState → Texts → TextCalled → Site → TextCall
call_made p m x c at = record { at = at; arguments = arguments_of (text_moment p m x c.called.thread) c.called.count; method = c.method }

abbrev pub SaysRow : Linked → TextCalled → EventEnd → MachineState → Texts → (old new : List ℕ) → Type 0
SaysRow p c end m x old new = (at : Site) → at.next ≡ c.called.next → SaysWhereDone end (said_in (text_moment p m x c.called.thread) (call_made p m x c at)) old new
