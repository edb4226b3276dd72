-- The live curve of a trace.
use Rattle.std.specs.Prelude.{ℕ, Bool, false, not, ◌&&◌, ◌==◌, nat_eq, nat_lt, nat_le, if◌then◌else◌, List, [], ◌∷◌, ◌++◌, Option, Some, None}
use Rattle.std.specs.List.{sum_by, list_any, filter_map, flat_map, dedup}
use Rattle.std.specs.Fmt.{decimal}
use Rattle.et_base.specs.declared.line.TraceLine.{TraceLine}
use Rattle.et_base.specs.declared.line.TraceLine.TheVariants.{Alloc, Update, Enter, Exit, Unwind, Death}

-- the event of an A, U, M, E or X line
abbrev pub happens_at : TraceLine → Option ℕ
happens_at (Alloc event thread object class size length) = Some event
happens_at (Update event thread object slot old new) = Some event
happens_at (Enter event thread method receiver) = Some event
happens_at (Exit event thread method) = Some event
happens_at (Unwind event thread method exception) = Some event
happens_at _ = None

-- these events in the order of the lines, in which they never fall, each once
abbrev pub curve_events : List TraceLine → List ℕ
curve_events lines = dedup nat_eq (filter_map happens_at lines)

-- the line tells that the object was last reached before the event
abbrev pub tells_before : ℕ → ℕ → TraceLine → Bool
tells_before event object (Death dead time) = dead == object && nat_lt time event
tells_before event object _ = false

abbrev pub dies_before : List TraceLine → ℕ → ℕ → Bool
dies_before lines event object = list_any (tells_before event object) lines

-- the bytes that the line makes, where they are live at the event: it is no later, and no D line tells of a time before
abbrev pub live_size : List TraceLine → ℕ → TraceLine → ℕ
live_size lines event (Alloc born thread object class size length) = if nat_le born event && not (dies_before lines event object) then size else 0
live_size lines event _ = 0

-- the bytes that are live at the event
abbrev pub live : List TraceLine → ℕ → ℕ
live lines event = sum_by (live_size lines event) lines

-- a line of the curve: the event, a space (32), the live bytes and LF (10)
abbrev pub curve_row : List TraceLine → ℕ → List ℕ
curve_row lines event = decimal event ++ 32 ∷ decimal (live lines event) ++ 10 ∷ []

-- THE CURVE
abbrev pub curve_text : List TraceLine → List ℕ
curve_text lines = flat_map (curve_row lines) (curve_events lines)
