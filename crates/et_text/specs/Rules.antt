-- The rules of a trace: what a line may be after the lines before it.
use Rattle.std.specs.Prelude.{◌≡◌, ℕ, ◌+◌, ◌-◌, ◌/◌, ◌%◌, Bool, true, false, not, ◌&&◌, ◌||◌, ◌==◌, nat_lt, nat_le, bytes_eq, if◌then◌else◌, List, [], ◌∷◌, ◌++◌, length, reverse, slice_index, Option, Some, None, unwrap_or}
use Rattle.et_base.specs.declared.line.TraceLine.{TraceLine}
use Rattle.et_base.specs.declared.line.TraceLine.TheVariants.{Header, Class, Method, Alloc, Update, Enter, Exit, Unwind, Flush, Death, Finish}
use Rattle.et_text.specs.Ranges.{IsVersion, IsInRange}

-- THE KINDS OF FAULT, by their numbers

-- the line is no line of the table in its one spelling, with its ranges
abbrev pub form : ℕ
form = 1

-- the line may not stand here
abbrev pub order : ℕ
order = 2

-- the line mentions a class, method or object that no line before it defines
abbrev pub unknown : ℕ
unknown = 3

-- the line names a class or method, or tells of a death, that a line before it did
abbrev pub twice : ℕ
twice = 4

-- the text ends before the end of its last line
abbrev pub unended : ℕ
unended = 5

-- something stands behind the last line
abbrev pub after : ℕ
after = 6

-- WHAT THE LINES SO FAR SAY. In each list of lines here the newest stands first.

abbrev pub has_begun : List TraceLine → Bool
has_begun [] = false
has_begun (line ∷ past) = true

abbrev pub has_ended : List TraceLine → Bool
has_ended (Finish event how ∷ past) = true
has_ended _ = false

-- the version that the header says, or 0 where there is no header yet
abbrev pub version_of : List TraceLine → ℕ
version_of [] = 0
version_of (Header v n ∷ past) = v
version_of (_ ∷ past) = version_of past

-- the flush interval of the header
abbrev pub interval : List TraceLine → ℕ
interval [] = 0
interval (Header v n ∷ past) = n
interval (_ ∷ past) = interval past

-- how many classes, and how many methods, have a number
abbrev pub classes : List TraceLine → ℕ
classes [] = 0
classes (Class number name ∷ past) = classes past + 1
classes (_ ∷ past) = classes past

abbrev pub methods : List TraceLine → ℕ
methods [] = 0
methods (Method number class name descriptor ∷ past) = methods past + 1
methods (_ ∷ past) = methods past

-- the events at which the objects were made, in the order of their numbers
abbrev pub births : List TraceLine → List ℕ
births [] = []
births (Alloc event thread object class size length ∷ past) = births past ++ event ∷ []
births (_ ∷ past) = births past

abbrev pub objects : List TraceLine → ℕ
objects past = length (births past)

-- the event at which an object was made
abbrev pub birth : List TraceLine → ℕ → ℕ
birth past object = slice_index (births past) (object - 1)

-- the event of a line, but of F and Z
abbrev pub latest : List TraceLine → ℕ
latest [] = 0
latest (Alloc event thread object class size length ∷ past) = event
latest (Update event thread object slot old new ∷ past) = event
latest (Enter event thread method receiver ∷ past) = event
latest (Exit event thread method ∷ past) = event
latest (Unwind event thread method exception ∷ past) = event
latest (Flush event deaths ∷ past) = event
latest (_ ∷ past) = latest past

-- the event of the newest F line
abbrev pub newest_flush : List TraceLine → Option ℕ
newest_flush [] = None
newest_flush (Flush event deaths ∷ past) = Some event
newest_flush (_ ∷ past) = newest_flush past

-- how many D lines have to follow before any other line
abbrev pub awaited : List TraceLine → ℕ
awaited (Flush event deaths ∷ past) = deaths
awaited (Death object time ∷ past) = awaited past - 1
awaited _ = 0

-- the object of the newest line where that is a D line, and else 0
abbrev pub last_dead : List TraceLine → ℕ
last_dead (Death object time ∷ past) = object
last_dead _ = 0

-- the event of the F line behind which nothing but D lines came, if there is one
abbrev pub standing_flush : List TraceLine → Option ℕ
standing_flush (Flush event deaths ∷ past) = Some event
standing_flush (Death object time ∷ past) = standing_flush past
standing_flush _ = None

abbrev pub is_reported : List TraceLine → ℕ → Bool
is_reported [] object = false
is_reported (Death other time ∷ past) object = other == object || is_reported past object
is_reported (_ ∷ past) object = is_reported past object

abbrev pub has_class : List TraceLine → List ℕ → Bool
has_class [] name = false
has_class (Class number other ∷ past) name = bytes_eq other name || has_class past name
has_class (_ ∷ past) name = has_class past name

abbrev pub has_method : List TraceLine → ℕ → List ℕ → List ℕ → Bool
has_method [] class name descriptor = false
has_method (Method number c n d ∷ past) class name descriptor = (c == class && bytes_eq n name && bytes_eq d descriptor) || has_method past class name descriptor
has_method (_ ∷ past) class name descriptor = has_method past class name descriptor

-- FLUSHES

-- a flush follows event e whatever comes
abbrev pub is_flush_point : ℕ → ℕ → Bool
is_flush_point every e = nat_lt 0 every && nat_lt 0 e && e % every == 0

-- no flush is missing before an event: as many multiples of the interval are below the event as up to the newest flush
abbrev pub misses_no_flush : ℕ → Option ℕ → ℕ → Bool
misses_no_flush every newest event = every == 0 || nat_le ((event - 1) / every) (unwrap_or newest 0 / every)

-- a flush at no multiple of the interval is the last one
abbrev pub is_final : ℕ → Option ℕ → Bool
is_final every None = false
is_final every (Some e) = not (is_flush_point every e)

abbrev pub is_before : Option ℕ → ℕ → Bool
is_before None event = true
is_before (Some e) event = nat_lt e event

-- THE RULES OF A LINE

-- a line that is no H, D or Z may stand here
abbrev pub is_open : List TraceLine → Bool
is_open past = has_begun past && awaited past == 0 && not (is_final (interval past) (newest_flush past))

-- .. and it may have this event
abbrev pub is_timely : List TraceLine → ℕ → Bool
is_timely past event = is_open past && nat_le (latest past) event && is_before (newest_flush past) event && misses_no_flush (interval past) (newest_flush past) event

abbrev pub stands_at : Option ℕ → ℕ → Bool
stands_at None event = false
stands_at (Some e) event = e == event

-- Order, but for its two parts that need the objects
abbrev pub keeps_order : List TraceLine → TraceLine → Bool
keeps_order past (Header v n) = not (has_begun past)
keeps_order past (Class number name) = is_open past && number == classes past + 1
keeps_order past (Method number class name descriptor) = is_open past && number == methods past + 1
keeps_order past (Alloc event thread object class size length) = is_timely past event && object == objects past + 1
keeps_order past (Update event thread object slot old new) = is_timely past event
keeps_order past (Enter event thread method receiver) = is_timely past event
keeps_order past (Exit event thread method) = is_timely past event
keeps_order past (Unwind event thread method exception) = is_timely past event
keeps_order past (Flush event deaths) = is_timely past event
keeps_order past (Death object time) = nat_lt 0 (awaited past) && nat_lt (last_dead past) object && nat_le time (unwrap_or (newest_flush past) 0)
keeps_order past (Finish event how) = awaited past == 0 && stands_at (standing_flush past) event

-- what the line mentions was defined; 0 stands for none
abbrev pub is_known : List TraceLine → TraceLine → Bool
is_known past (Header v n) = true
is_known past (Class number name) = true
is_known past (Method number class name descriptor) = nat_le class (classes past)
is_known past (Alloc event thread object class size length) = nat_le class (classes past)
is_known past (Update event thread object slot old new) = nat_le object (objects past) && nat_le old (objects past) && nat_le new (objects past)
is_known past (Enter event thread method receiver) = nat_le method (methods past) && nat_le receiver (objects past)
is_known past (Exit event thread method) = nat_le method (methods past)
is_known past (Unwind event thread method exception) = nat_le method (methods past) && nat_le exception (objects past)
is_known past (Flush event deaths) = true
is_known past (Death object time) = nat_le object (objects past)
is_known past (Finish event how) = true

-- the two parts of Order that need the objects: a death isn't before the object's A line, and what is mentioned wasn't reported
abbrev pub keeps_lives : List TraceLine → TraceLine → Bool
keeps_lives past (Update event thread object slot old new) = not (is_reported past object) && not (is_reported past old) && not (is_reported past new)
keeps_lives past (Enter event thread method receiver) = not (is_reported past receiver)
keeps_lives past (Unwind event thread method exception) = not (is_reported past exception)
keeps_lives past (Death object time) = nat_le (birth past object) time
keeps_lives past _ = true

-- what may stand only once is new
abbrev pub is_new : List TraceLine → TraceLine → Bool
is_new past (Class number name) = not (has_class past name)
is_new past (Method number class name descriptor) = not (has_method past class name descriptor)
is_new past (Death object time) = not (is_reported past object)
is_new past _ = true

-- the kind of the first rule that a line in range breaks
abbrev pub next_fault : List TraceLine → TraceLine → Option ℕ
next_fault past line =
    if has_ended past then Some after
    else (if not (keeps_order past line) then Some order
    else (if not (is_known past line) then Some unknown
    else (if not (keeps_lives past line) then Some order
    else (if not (is_new past line) then Some twice
    else None))))

-- no line breaks a rule after those before it
abbrev pub AreFine : ℕ → List TraceLine → Type 0
AreFine version [] = Unit {0}
AreFine version (line ∷ past) = AreFine version past × IsInRange version line × (next_fault past line ≡ None)

-- the lines of a whole trace, the oldest first
pub record IsGood (version : ℕ) (lines : List TraceLine) : Type 0 where
  pub fine : AreFine version (reverse lines)
  pub ended : has_ended (reverse lines) ≡ true

-- .. of either version
pub record IsGoodTrace (lines : List TraceLine) : Type 0 where
  pub version : ℕ
  pub known : IsVersion version
  pub good : IsGood version lines
