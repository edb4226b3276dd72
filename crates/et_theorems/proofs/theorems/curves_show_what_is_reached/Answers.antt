use Rattle.std.proofs.Common.{◌≡◌, ℕ, ◌≤◌, List, Contains, Ok, sym, subst}
use Rattle.et_base.specs.declared.line.TraceLine.{TraceLine}
use Rattle.et_event.specs.Start.{start_records}
use Rattle.et_history.specs.Whole.{whole_start}
use Rattle.et_replay.specs.Curve.{curve_events, live}
use Rattle.et_theorems.specs.traces.LiveBytes.{bytes_reached, object_size}
use Rattle.et_theorems.specs.Runs.{Run, IsTraced, lines_of, setting_of}
use Rattle.et_theorems.proofs.Histories.{history_of}
use Rattle.et_theorems.proofs.Held.{lines_same}
use Rattle.et_theorems.proofs.theorems.curves_show_what_is_reached.Goals as goal

shown : (c : goal.After-written_traces_are_read) (r : Run) (e : ℕ) → IsTraced r → e ≤ r.last
    → live (lines_of r) e ≡ bytes_reached r.reached (setting_of r) (whole_start r.program) (start_records r.program) (object_size r.program) e r.last
shown c r e is le =
    let ended = c.programs_are_linked.ensures.ended r is in
    c.live_is_reached.ensures.live r.reached r.program r.options e r.last r.end (history_of r ended) ended.program.strings ended.program.arguments is.ends le

within : (c : goal.After-written_traces_are_read) (r : Run) (e : ℕ) → IsTraced r → Contains (curve_events (lines_of r)) e → e ≤ r.last
within c r e is has =
    let ended = c.programs_are_linked.ensures.ended r is in
    c.live_is_reached.ensures.events r.reached r.program r.options e r.last r.end (history_of r ended) (c.programs_are_linked.ensures.traceable r is) is.ends has

pub returns-clause-live : goal.returns-clause-live
returns-clause-live c = shown c

pub returns-clause-events : goal.returns-clause-events
returns-clause-events c = within c

pub returns-clause-read : goal.returns-clause-read
returns-clause-read c r later path bytes lines e is w read has =
    let same : lines ≡ lines_of r = lines_same lines (lines_of r) ((c.written_traces_are_read.ensures.read r later path bytes (Ok lines) is w).0 read) in
    subst (λ (ls : List TraceLine). live ls e ≡ bytes_reached r.reached (setting_of r) (whole_start r.program) (start_records r.program) (object_size r.program) e r.last) (sym same)
    (shown c r e is (within c r e is (subst (λ (ls : List TraceLine). Contains (curve_events ls) e) same has)))
