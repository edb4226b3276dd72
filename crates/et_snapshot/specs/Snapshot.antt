-- What stood in the heap at an event, as a trace tells it.
use Rattle.std.specs.Prelude.{ℕ, Bool, false, not, ◌&&◌, ◌==◌, nat_le, if◌then◌else◌, unwrap_or, List, [], ◌∷◌, ◌++◌, length, filter, fold, codes, Option, Some, None}
use Rattle.std.specs.List.{filter_map, flat_map, sum_by, last_or}
use Rattle.std.specs.BTreeMap.{insert_entry}
use Rattle.std.specs.Ordering.{nat_cmp}
use Rattle.et_base.specs.declared.line.TraceLine.{TraceLine}
use Rattle.et_base.specs.declared.line.TraceLine.TheVariants.{Class, Alloc, Update}
use Rattle.et_replay.specs.Curve.{dies_before, live}
use Rattle.et_text.specs.Spelling.{number_field, text_field}

-- WHAT STANDS IN SLOTS

-- the slot and what the line writes to it, where it writes to the object at the event or before; 0 is the object of statics
abbrev pub write_by : ℕ → ℕ → TraceLine → Option (ℕ × ℕ)
write_by e object (Update event thread o slot old new) = if o == object && nat_le event e then Some (slot, new) else None
write_by e object _ = None

-- the writes to slots of the object up to the event, in order
abbrev pub writes : List TraceLine → ℕ → ℕ → List (ℕ × ℕ)
writes lines e object = filter_map (write_by e object) lines

-- what a write puts into this slot
abbrev pub put_into : ℕ → ℕ × ℕ → Option ℕ
put_into slot w = if w.0 == slot then Some w.1 else None

-- what stands in a slot of the object at the event: what was written there last, or null (0)
abbrev pub content : List TraceLine → ℕ → ℕ → ℕ → ℕ
content lines e object slot = unwrap_or (last_or None (filter_map (put_into slot) (writes lines e object))) 0

-- the slots that are written, in rising order, and what is written to each last
abbrev pub written : List (ℕ × ℕ) → List (ℕ × ℕ)
written ws = fold (λ slots w. insert_entry nat_cmp slots w.0 w.1) [] ws

abbrev pub is_set : ℕ × ℕ → Bool
is_set p = not (p.1 == 0)

-- the slots of the object that aren't null at the event, in rising order, and what stands in each: its content, as the law
-- `slots_are_contents` says
abbrev pub slots_at : List TraceLine → ℕ → ℕ → List (ℕ × ℕ)
slots_at lines e object = filter is_set (written (writes lines e object))

-- WHAT LIVES

-- the line makes an object that is live at the event, as the live curve has it
abbrev pub makes_live : List TraceLine → ℕ → TraceLine → Bool
makes_live lines e (Alloc born thread object class size len) = nat_le born e && not (dies_before lines e object)
makes_live lines e _ = false

abbrev pub live_lines : List TraceLine → ℕ → List TraceLine
live_lines lines e = filter (makes_live lines e) lines

abbrev pub is_of_class : ℕ → TraceLine → Bool
is_of_class class (Alloc born thread object of size len) = of == class
is_of_class class _ = false

-- the bytes that the lines make
abbrev pub size_made : TraceLine → ℕ
size_made (Alloc born thread object class size len) = size
size_made _ = 0

abbrev pub bytes_made : List TraceLine → ℕ
bytes_made lines = sum_by size_made lines

-- the name that a C line gives the class
abbrev pub class_name : List TraceLine → ℕ → List ℕ
class_name [] class = []
class_name (Class number name ∷ lines) class = if number == class then name else class_name lines class
class_name (_ ∷ lines) class = class_name lines class

-- the bytes of the objects of a class, of those that these lines make
abbrev pub class_bytes : List TraceLine → TraceLine → ℕ
class_bytes made (Class number name) = bytes_made (filter (is_of_class number) made)
class_bytes made _ = 0

-- THE LINES: a letter or a word, and fields

-- e, an object, a slot of it and what it refers to
abbrev pub slot_row : ℕ → ℕ × ℕ → List ℕ
slot_row object p = codes "e" ++ number_field object ++ number_field p.0 ++ number_field p.1 ++ 10 ∷ []

-- s, a static slot and what it refers to
abbrev pub static_row : ℕ × ℕ → List ℕ
static_row p = codes "s" ++ number_field p.0 ++ number_field p.1 ++ 10 ∷ []

-- o, an object, its class and its size in bytes; then its slots
abbrev pub object_rows : List TraceLine → ℕ → TraceLine → List ℕ
object_rows lines e (Alloc born thread object class size len) =
    codes "o" ++ number_field object ++ text_field (class_name lines class) ++ number_field size ++ 10 ∷ flat_map (slot_row object) (slots_at lines e object)
object_rows lines e _ = []

-- c, a class, how many objects it has and their bytes
abbrev pub class_row : List TraceLine → TraceLine → List ℕ
class_row made (Class number name) =
    let count = length (filter (is_of_class number) made) in
    if count == 0 then [] else codes "c" ++ text_field name ++ number_field count ++ number_field (class_bytes made (Class number name)) ++ 10 ∷ []
class_row made _ = []

-- the event, how many objects are live and their bytes
abbrev pub head_row : List TraceLine → ℕ → List ℕ
head_row lines e = codes "snapshot" ++ number_field e ++ number_field (length (live_lines lines e)) ++ number_field (live lines e) ++ 10 ∷ []

-- THE SNAPSHOT. The objects stand in the order of their lines, in which their numbers rise, and so do the classes.
abbrev pub snapshot_text : List TraceLine → ℕ → List ℕ
snapshot_text lines e =
    head_row lines e
    ++ flat_map static_row (slots_at lines e 0)
    ++ flat_map (object_rows lines e) (live_lines lines e)
    ++ flat_map (class_row (live_lines lines e)) lines
