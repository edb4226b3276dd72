use Rattle.std.proofs.Common.{◌≡◌, ◌↔◌, ◌∙◌, List, ◌++◌, Option, Some, Ok, Err, refl, sym, subst}
use Rattle.et_convert.specs.Conversions.{converted_bytes}
use Rattle.et_io.specs.Files.{Held}
use Rattle.et_replay.specs.Curve.{curve_text}
use Rattle.et_replay.specs.Replay.{replay_text}
use Rattle.et_replay.specs.Timeline.{timeline_items}
use Rattle.et_replay.specs.declared.model.Kind.{Kind}
use Rattle.et_command.specs.Command.{Asked, Convert, Curve, Replay, Snapshot, command}
use Rattle.et_event.specs.Start.{start_records}
use Rattle.et_history.specs.Whole.{whole_start}
use Rattle.et_snapshot.specs.Snapshot.{snapshot_text}
use Rattle.et_state.specs.History.{flush_lines, how_of, lines_to}
use Rattle.et_files.specs.Faults.{BadEvent}
use Rattle.et_files.specs.Loaded.{file_bytes, most_of_trace, last_event}
use Rattle.et_top.specs.Top.{Defined, Writes, IsAskedDefined, policies_of}
use Rattle.et_theorems.specs.Runs.{Run, deaths_at, lines_of, setting_of}
use Rattle.et_theorems.proofs.Held.{text_defined, last_of, event_reached, event_behind, event_defined}
use Rattle.et_theorems.proofs.theorems.written_traces_are_used.Goals as goal

asked : (kinds : List Kind) (held : Held) (d : Defined) (value : Type 0) (o a : Option Asked) → o ≡ a → IsAskedDefined kinds a held d ↔ value → IsAskedDefined kinds o held d ↔ value
asked kinds held d value o a e = subst (λ x. IsAskedDefined kinds x held d ↔ value) (sym e)

pub returns-clause-curve : goal.returns-clause-curve
returns-clause-curve c r later path bytes kinds words d is w command_is =
    asked kinds later d _ (command words) (Some (Curve path)) command_is
    (text_defined (λ reached lines. curve_text lines) (file_bytes most_of_trace (later path)) (lines_of r) (λ trace. c.written_traces_are_read.ensures.read r later path bytes trace is w) d)

pub returns-clause-replay : goal.returns-clause-replay
returns-clause-replay c r later path bytes kinds words models d is w command_is =
    asked kinds later d _ (command words) (Some (Replay models path)) command_is
    (text_defined (λ reached lines. replay_text reached (timeline_items lines) (policies_of models kinds)) (file_bytes most_of_trace (later path)) (lines_of r) (λ trace. c.written_traces_are_read.ensures.read r later path bytes trace is w) d)

pub returns-clause-convert : goal.returns-clause-convert
returns-clause-convert c r later path bytes kinds words d is w command_is =
    asked kinds later d _ (command words) (Some (Convert path)) command_is
    (text_defined (λ reached lines. converted_bytes lines) (file_bytes most_of_trace (later path)) (lines_of r) (λ trace. c.written_traces_are_read.ensures.read r later path bytes trace is w) d)

pub returns-clause-again : goal.returns-clause-again
returns-clause-again c r later path bytes other kinds words d is w there short command_is =
    let written = (text_defined (λ reached lines. converted_bytes lines) (file_bytes most_of_trace (later path)) (lines_of r) (λ trace. c.written_traces_are_read.ensures.read r later path bytes trace is w) (Writes (λ reached. converted_bytes (lines_of r)))).1 refl in
    let twice : IsAskedDefined kinds (Some (Convert other)) later (Writes (λ reached. bytes)) = c.converted_twice.ensures kinds later path other bytes (converted_bytes (lines_of r)) w.held there short written in
    let mine : IsAskedDefined kinds (command words) later (Writes (λ reached. bytes)) = subst (λ x. IsAskedDefined kinds x later (Writes (λ reached. bytes))) (sym command_is) twice in
    let one = c.one_thing_is_defined.ensures kinds words later in
    let same : (Writes (λ reached. bytes)) ≡ one.0 = one.2 (Writes (λ reached. bytes)) mine in
    (λ h. one.2 d h ∙ sym same, λ e. subst (λ x. IsAskedDefined kinds (command words) later x) (sym e) mine)

-- the last event of the lines is that of the run
ends_at : (r : Run) → last_event (lines_of r) ≡ r.last
ends_at r =
    last_of (lines_to r.reached (setting_of r) (whole_start r.program) (start_records r.program) r.last ++ flush_lines r.last (deaths_at r r.last)) r.last (how_of r.end)

pub returns-clause-snapshot : goal.returns-clause-snapshot
returns-clause-snapshot c r later path bytes kinds words e d is w command_is le =
    asked kinds later d _ (command words) (Some (Snapshot path e)) command_is
    (event_defined (λ reached lines. snapshot_text lines e) e (file_bytes most_of_trace (later path)) (lines_of r) (λ trace. c.written_traces_are_read.ensures.read r later path bytes trace is w) d (Ok (lines_of r)) (event_reached e r.last (lines_of r) (ends_at r) le))

pub returns-clause-behind : goal.returns-clause-behind
returns-clause-behind c r later path bytes kinds words e d is w command_is lt =
    asked kinds later d _ (command words) (Some (Snapshot path e)) command_is
    (event_defined (λ reached lines. snapshot_text lines e) e (file_bytes most_of_trace (later path)) (lines_of r) (λ trace. c.written_traces_are_read.ensures.read r later path bytes trace is w) d (Err (BadEvent e)) (event_behind e r.last (lines_of r) (ends_at r) lt))
