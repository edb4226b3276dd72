-- The rules, by what is kept of the lines so far.
use Rattle.std.specs.Prelude.{ℕ, ◌+◌, ◌-◌, Bool, true, false, not, ◌&&◌, ◌||◌, ◌==◌, nat_lt, nat_le, if◌then◌else◌, List, length, slice_index, slice_index_or, Option, Some, None, unwrap_or}
use Rattle.et_base.specs.declared.line.TraceLine.{TraceLine}
use Rattle.et_base.specs.declared.line.TraceLine.TheVariants.{Header, Class, Method, Alloc, Update, Enter, Exit, Unwind, Flush, Death, Finish}
use Rattle.et_text.specs.Rules.{order, unknown, twice, after, is_before, stands_at}
use Rattle.et_text.specs.declared.standing.Standing.{Standing}

abbrev pub is_open_in : Standing → Bool
is_open_in s = s.begun && s.awaited == 0 && not s.is_last

-- the event is no later than the next one after which a flush is due
abbrev pub misses_no_flush_in : Standing → ℕ → Bool
misses_no_flush_in s event = s.interval == 0 || nat_le (event - s.last_due) s.interval

abbrev pub is_timely_in : Standing → ℕ → Bool
is_timely_in s event = is_open_in s && nat_le s.latest event && is_before s.flushed event && misses_no_flush_in s event

abbrev pub order_in : Standing → TraceLine → Bool
order_in s (Header v n) = not s.begun
order_in s (Class number name) = is_open_in s && number == s.classes + 1
order_in s (Method number class name descriptor) = is_open_in s && number == s.methods + 1
order_in s (Alloc event thread object class size len) = is_timely_in s event && object == length s.births.items + 1
order_in s (Update event thread object slot old new) = is_timely_in s event
order_in s (Enter event thread method receiver) = is_timely_in s event
order_in s (Exit event thread method) = is_timely_in s event
order_in s (Unwind event thread method exception) = is_timely_in s event
order_in s (Flush event deaths) = is_timely_in s event
order_in s (Death object time) = nat_lt 0 s.awaited && nat_lt s.last_dead object && nat_le time (unwrap_or s.flushed 0)
order_in s (Finish event how) = s.awaited == 0 && stands_at (if s.stands then s.flushed else None) event

abbrev pub known_in : Standing → TraceLine → Bool
known_in s (Header v n) = true
known_in s (Class number name) = true
known_in s (Method number class name descriptor) = nat_le class s.classes
known_in s (Alloc event thread object class size len) = nat_le class s.classes
known_in s (Update event thread object slot old new) = nat_le object (length s.births.items) && nat_le old (length s.births.items) && nat_le new (length s.births.items)
known_in s (Enter event thread method receiver) = nat_le method s.methods && nat_le receiver (length s.births.items)
known_in s (Exit event thread method) = nat_le method s.methods
known_in s (Unwind event thread method exception) = nat_le method s.methods && nat_le exception (length s.births.items)
known_in s (Flush event deaths) = true
known_in s (Death object time) = nat_le object (length s.births.items)
known_in s (Finish event how) = true

-- the flag of an object; 0 stands for none
abbrev pub flag_at : List Bool → ℕ → Bool
flag_at flags object = if object == 0 then false else slice_index_or flags (object - 1) false

abbrev pub reported_in : Standing → ℕ → Bool
reported_in s object = flag_at s.reported.items object

abbrev pub lives_in : Standing → TraceLine → Bool
lives_in s (Update event thread object slot old new) = not (reported_in s object) && not (reported_in s old) && not (reported_in s new)
lives_in s (Enter event thread method receiver) = not (reported_in s receiver)
lives_in s (Unwind event thread method exception) = not (reported_in s exception)
lives_in s (Death object time) = nat_le (slice_index s.births.items (object - 1)) time
lives_in s _ = true

abbrev pub dies_once_in : Standing → TraceLine → Bool
dies_once_in s (Death object time) = not (reported_in s object)
dies_once_in s _ = true

abbrev pub fault_in : Standing → TraceLine → Option ℕ
fault_in s line =
    if s.ended then Some after
    else (if not (order_in s line) then Some order
    else (if not (known_in s line) then Some unknown
    else (if not (lives_in s line) then Some order
    else (if not (dies_once_in s line) then Some twice
    else None))))
