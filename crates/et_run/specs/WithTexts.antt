-- A machine with its texts, and the turns that are left to the event call of texts.
use Rattle.std.specs.Prelude.{ℕ, List, Option, is_some}
use Rattle.std.specs.Option.{option_or}
use Rattle.et_program.specs.BuiltIns.{text_method_of}
use Rattle.et_program.specs.Entries.{Linked}
use Rattle.et_program.specs.Members.{kept}
use Rattle.et_state.specs.State.{Kept, MachineState, kept_of}
use Rattle.et_state.specs.declared.ends.EventEnd.{EventEnd}
use Rattle.et_state.specs.declared.records.Record.{Record}
use Rattle.et_state.specs.Spoken.{spoken}
use Rattle.et_event.specs.Answered.{DefersOrAnswers}
use Rattle.et_event.specs.Event.{event}
use Rattle.et_event.specs.Out.{out_method}
use Rattle.et_event.specs.Selected.{deferred_call}
use Rattle.et_run.specs.declared.with_texts.MachineWithTexts.{MachineWithTexts}

-- the state that a machine stands for, with the texts beside it
abbrev pub state_of : MachineWithTexts → Kept
state_of r = spoken r.texts (kept_of r.machine)

-- WHICH TURNS ARE OF TEXTS: a call of one of their methods, or the reading of System.out. Each is told by the method that is
-- answered for it.
abbrev pub text_turn : Linked → Kept → ℕ → Option ℕ
text_turn p s t = option_or (kept (λ m. is_some (text_method_of p m)) (deferred_call p s t)) (out_method p s t)

-- WHAT THE EVENT OF A TURN ANSWERS: a turn of texts is left to the event call of texts, and of each other one the event is done
abbrev pub TurnAnswers : Linked → ℕ → EventEnd → MachineState → MachineState → List Record → List Record → Type 0
TurnAnswers p t end m m' out out' = DefersOrAnswers (text_turn p (kept_of m) t) (event p (kept_of m) t) end m m' out out'
