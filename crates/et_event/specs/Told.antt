-- THE EVENT OF A THREAD, TEXTS TOO. A call of a method of texts is a row of its own (TextRows.antt), and so is the reading of
-- System.out (Out.antt). The table of events knows no texts: it is asked of the state without them, and they stay as they are.
use Rattle.std.specs.Prelude.{ℕ, List, [], Option, Some, None}
use Rattle.std.specs.Option.{option_map_or}
use Rattle.et_program.specs.Entries.{Linked}
use Rattle.et_state.specs.State.{Kept}
use Rattle.et_state.specs.Spoken.{spoken, silent}
use Rattle.et_state.specs.Texts.{Texts}
use Rattle.et_state.specs.Outcome.{Outcome, Goes, Waits, IllTyped, ObjectLimit}
use Rattle.et_event.specs.Event.{event}
use Rattle.et_event.specs.Frames.{first_reference}
use Rattle.et_event.specs.Moments.{Moment}
use Rattle.et_event.specs.Out.{OutRead, out_row, out_turn}
use Rattle.et_event.specs.Selected.{TextCall, text_call}
use Rattle.et_event.specs.TextRows.{text_row, said_in}

-- these texts stand beside what an event of the table leads to
abbrev pub keeping : Texts → Outcome Kept → Outcome Kept
keeping texts (Goes next records) = Goes (spoken texts next) records
keeping texts (Waits next) = Waits (spoken texts next)
keeping texts (IllTyped method pc) = IllTyped method pc
keeping texts ObjectLimit = ObjectLimit

abbrev pub by_out : Moment → Option OutRead → Outcome Kept
by_out e None = keeping e.before.guest.texts (event e.program (silent e.before) e.thread)
by_out e (Some x) = out_row e x

abbrev pub by_text_call : Moment → Option TextCall → Outcome Kept
by_text_call e None = by_out e (out_turn e.program e.before e.thread)
by_text_call e (Some call) = text_row e call (first_reference call.arguments)

unfoldable pub event_with_texts : Linked → Kept → ℕ → Outcome Kept
event_with_texts p s t = by_text_call (record { program = p; before = s; thread = t }) (text_call p s t)

-- WHAT IT PRINTS, where it is done
abbrev pub said_by : Linked → Kept → ℕ → List ℕ
said_by p s t = option_map_or (said_in (record { program = p; before = s; thread = t })) (text_call p s t) []
