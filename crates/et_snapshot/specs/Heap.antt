-- What is kept of the lines of a trace, one by one. The contracts of private functions alone speak of it.
use Rattle.std.specs.Prelude.{◌≡◌, ℕ, ◌+◌, ◌-◌, ◌<◌, ◌≤◌, Bool, not, ◌&&◌, ◌==◌, nat_le, nat_lt, if◌then◌else◌, List, [], ◌∷◌, ◌++◌, length, map, filter, reverse, All, slice_index_or, codes, Option, Some, None, option_map}
use Rattle.std.specs.Global.{Vec}
use Rattle.std.specs.List.{sum_by, filter_map, flat_map, zip}
use Rattle.std.specs.BTreeMap.{insert_entry}
use Rattle.std.specs.Ordering.{nat_cmp}
use Rattle.et_base.specs.declared.line.TraceLine.{TraceLine}
use Rattle.et_base.specs.declared.line.TraceLine.TheVariants.{Class, Alloc, Update, Death}
use Rattle.et_text.specs.Rules.{IsGoodTrace}
use Rattle.et_text.specs.Spelling.{number_field, text_field}
use Rattle.et_snapshot.specs.Snapshot.{static_row, slot_row}
use Rattle.et_snapshot.specs.declared.heap.Heap.{Heap}
use Rattle.et_snapshot.specs.declared.objects.Entry.{Entry}
use Rattle.et_snapshot.specs.declared.objects.Seen.{Seen}
use Rattle.et_snapshot.specs.declared.totals.Total.{Total}

-- an object, with the lists of its map
pub record Body : Type 0 where
  pub class : ℕ
  pub size : ℕ
  pub slots : List (ℕ × ℕ)

-- .. and its number
abbrev pub Kept : Type 0
Kept = ℕ × Body

abbrev pub body_of : Seen → Body
body_of s = record { class = s.class; size = s.size; slots = s.slots.entries }

-- what an entry keeps, where the object is live
abbrev pub kept_as : ℕ → Option Seen → Option Kept
kept_as object None = None
kept_as object (Some seen) = Some (object, body_of seen)

abbrev pub kept_in : Entry → Option Kept
kept_in entry = kept_as entry.object entry.seen

abbrev pub objects_of : List Entry → List Kept
objects_of entries = filter_map kept_in entries

abbrev pub numbers_of : List Entry → List ℕ
numbers_of entries = map (λ entry. entry.object) entries

-- the numbers rise, from above `low` up to at most `top`
abbrev pub RiseTo : ℕ → ℕ → List ℕ → Type 0
RiseTo top low [] = low ≤ top
RiseTo top low (n ∷ ns) = (low < n) × RiseTo top n ns

abbrev pub lists_of : List (Vec ℕ) → List (List ℕ)
lists_of vecs = map (λ v. v.items) vecs

-- A LINE MORE

-- the object with this write to a slot
abbrev pub with_slot : ℕ → ℕ → Body → Body
with_slot slot new body = record { class = body.class; size = body.size; slots = insert_entry nat_cmp body.slots slot new }

-- the object, with the write where it is the one that is written to
abbrev pub written_to : ℕ → ℕ → ℕ → Kept → Kept
written_to object slot new k = if object == k.0 then (k.0, with_slot slot new k.1) else k

abbrev pub kept_where : (Kept → Kept) → Entry → Option Kept
kept_where change entry = option_map change (kept_in entry)

-- another object than this
abbrev pub is_other : ℕ → Kept → Bool
is_other object k = not (object == k.0)

abbrev pub note_kept : ℕ → List Kept → TraceLine → List Kept
note_kept e kept (Alloc born thread object class size len) = if nat_le born e then kept ++ (object, record { class = class; size = size; slots = [] }) ∷ [] else kept
note_kept e kept (Update event thread object slot old new) = if nat_le event e && not (object == 0) then map (written_to object slot new) kept else kept
note_kept e kept (Death object time) = if nat_lt time e then filter (is_other object) kept else kept
note_kept e kept _ = kept

-- an object that the line makes has a number above `top`
abbrev pub IsAbove : ℕ → TraceLine → Type 0
IsAbove top (Alloc born thread object class size len) = top < object
IsAbove top _ = Unit {0}

-- the greatest number behind the line
abbrev pub top_after : ℕ → TraceLine → ℕ
top_after top (Alloc born thread object class size len) = object
top_after top _ = top

-- a write to a static slot
abbrev pub note_static : ℕ → List (ℕ × ℕ) → TraceLine → List (ℕ × ℕ)
note_static e statics (Update event thread object slot old new) = if nat_le event e && object == 0 then insert_entry nat_cmp statics slot new else statics
note_static e statics _ = statics

-- the name of a class, as a field
abbrev pub field_of : TraceLine → Option (List ℕ)
field_of (Class number name) = Some (text_field name)
field_of _ = None

-- after these lines, the newest first
abbrev pub kept_by : ℕ → List TraceLine → List Kept
kept_by e [] = []
kept_by e (line ∷ past) = note_kept e (kept_by e past) line

abbrev pub statics_by : ℕ → List TraceLine → List (ℕ × ℕ)
statics_by e [] = []
statics_by e (line ∷ past) = note_static e (statics_by e past) line

-- TOTALS

abbrev pub size_of : Kept → ℕ
size_of k = k.1.size

abbrev pub is_kept_of : ℕ → Kept → Bool
is_kept_of class k = k.1.class == class

abbrev pub no_total : Total
no_total = record { count = 0; bytes = 0 }

-- the total is that of these objects
pub record IsTotal (total : Total) (kept : List Kept) : Type 0 where
  pub count : total.count ≡ length kept
  pub bytes : total.bytes ≡ sum_by size_of kept

-- each class, from 1 on, has its total
pub record AreTotals (totals : List Total) (kept : List Kept) : Type 0 where
  pub each : (k : ℕ) → k < length totals → IsTotal (slice_index_or totals k no_total) (filter (is_kept_of (k + 1)) kept)

-- the object is of one of so many classes
abbrev pub HasClass : ℕ → Kept → Type 0
HasClass count k = (1 ≤ k.1.class) × (k.1.class ≤ count)

-- the heap at the event, and the totals of its classes and of all
pub record IsCounted (lines : List TraceLine) (e : ℕ) (heap : Heap) (totals : List Total) (all : Total) : Type 0 where
  pub good : IsGoodTrace lines
  pub statics : heap.statics.entries ≡ statics_by e (reverse lines)
  pub objects : objects_of heap.objects.items ≡ kept_by e (reverse lines)
  pub names : lists_of heap.names.items ≡ filter_map field_of lines
  pub classed : All (HasClass (length heap.names.items)) (objects_of heap.objects.items)
  pub as_many : length totals ≡ length heap.names.items
  pub each : AreTotals totals (objects_of heap.objects.items)
  pub whole : IsTotal all (objects_of heap.objects.items)

-- ROWS

-- the row of a slot, of the object or a static one; null has none
abbrev pub row_in : Option ℕ → ℕ × ℕ → List ℕ
row_in None p = static_row p
row_in (Some object) p = slot_row object p

abbrev pub row_of : Option ℕ → ℕ × ℕ → List ℕ
row_of owner p = if p.1 == 0 then [] else row_in owner p

abbrev pub object_row : List (List ℕ) → Kept → List ℕ
object_row fields k = codes "o" ++ number_field k.0 ++ slice_index_or fields (k.1.class - 1) [] ++ number_field k.1.size ++ 10 ∷ []

-- .. and those of its slots
abbrev pub rows_of : List (List ℕ) → Kept → List ℕ
rows_of fields k = object_row fields k ++ flat_map (row_of (Some k.0)) k.1.slots

-- .. where an entry keeps it
abbrev pub rows_in : List (List ℕ) → Entry → List ℕ
rows_in fields entry = flat_map (rows_of fields) (objects_of (entry ∷ []))

abbrev pub total_row : List ℕ → Total → List ℕ
total_row field total = if total.count == 0 then [] else codes "c" ++ field ++ number_field total.count ++ number_field total.bytes ++ 10 ∷ []

-- those of classes with these names as fields, from the first on
abbrev pub total_rows : List (List ℕ) → List Total → List ℕ
total_rows fields totals = flat_map (λ p. total_row p.0 p.1) (zip fields totals)
