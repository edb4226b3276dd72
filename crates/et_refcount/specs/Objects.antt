-- The objects by number, and what is freed of them. The contracts of private functions alone speak of it.
use Rattle.std.specs.Prelude.{◌≡◌, ◌⊎◌, ◌==◌, ◌&&◌, if◌then◌else◌, ℕ, ◌+◌, ◌-◌, ◌≤◌, Bool, true, false, is_some, unwrap_or, List, [], ◌∷◌, ◌++◌, length, map, sum, Contains, replicate, Option, Some, None, slice_index_or, slice_set}
use Rattle.std.specs.List.{sum_by}
use Rattle.std.specs.List.Sorted.{IsStrictlySortedBy}
use Rattle.std.specs.Map.{keys_of, values_of, lookup}
use Rattle.std.specs.BTreeMap.{BTreeMap, is_at}
use Rattle.std.specs.Ordering.{nat_cmp}
use Rattle.et_refcount.specs.declared.objects.Objects.{Objects}
use Rattle.et_refcount.specs.declared.objects.Place.{Place}
use Rattle.et_refcount.specs.declared.objects.Place.TheVariants.{Unmade, Held, Gone}

-- the slots of an object, in order, and what each refers to; 0 stands for null
abbrev pub Slots : Type 0
Slots = List (ℕ × ℕ)

-- what is kept, with lists in the place of vectors and maps
pub record Tables : Type 0 where
  pub places : List Place
  pub dead : List Bool
  pub counts : List ℕ
  pub slots : List Slots

abbrev pub slots_of : List (BTreeMap ℕ ℕ) → List Slots
slots_of maps = map (λ m. m.entries) maps

abbrev pub tables_of : Objects → Tables
tables_of o = record { places = o.places.items; dead = o.dead.items; counts = o.counts.items; slots = slots_of o.slots.items }

-- the bytes of an object that is made and not freed
abbrev pub size_of : Place → Option ℕ
size_of (Held size) = Some size
size_of _ = None

abbrev pub is_not_unmade : Place → Bool
is_not_unmade Unmade = false
is_not_unmade _ = true

abbrev pub place_at : List Place → ℕ → Place
place_at places o = slice_index_or places o Unmade

abbrev pub held_at : List Place → ℕ → Option ℕ
held_at places o = size_of (place_at places o)

-- an object was made, be it freed or not
abbrev pub made_at : List Place → ℕ → Bool
made_at places o = is_not_unmade (place_at places o)

abbrev pub flag_at : List Bool → ℕ → Bool
flag_at flags o = slice_index_or flags o false

abbrev pub count_at : List ℕ → ℕ → ℕ
count_at counts o = slice_index_or counts o 0

abbrev pub slots_at : List Slots → ℕ → Slots
slots_at slots o = slice_index_or slots o []

-- what the slot refers to
abbrev pub target_at : Slots → ℕ → Option ℕ
target_at own slot = lookup (is_at (nat_cmp slot)) own

abbrev pub is_target : ℕ → ℕ → ℕ
is_target target x = if x == target then 1 else 0

-- how many of the slots refer to the target
abbrev pub hits : Slots → ℕ → ℕ
hits own target = sum_by (is_target target) (values_of own)

-- .. of all slots
abbrev pub all_hits : List Slots → ℕ → ℕ
all_hits slots target = sum_by (λ own. hits own target) slots

-- the bytes of what is held
abbrev pub weight_of : Place → ℕ
weight_of place = unwrap_or (size_of place) 0

abbrev pub weight : List Place → ℕ
weight places = sum_by weight_of places

abbrev pub is_left : List Bool → List ℕ → ℕ → Bool
is_left dead counts o = flag_at dead o && count_at counts o == 0

-- a slot no longer refers to the target
abbrev pub dropped : List ℕ → ℕ → List ℕ
dropped counts target = slice_set counts target (count_at counts target - 1)

-- .. or one more does
abbrev pub added : List ℕ → ℕ → List ℕ
added counts target = slice_set counts target (count_at counts target + 1)

-- .. or none more, where the slot referred to something
abbrev pub left_by : List ℕ → Option ℕ → List ℕ
left_by counts None = counts
left_by counts (Some old) = dropped counts old

abbrev pub work_with : List ℕ → Bool → ℕ → List ℕ
work_with work left o = if left then work ++ o ∷ [] else work

-- the slots `own` no longer refer to anything; what is left then waits
pub record Released (own : Slots) (dead : List Bool) (counts work counts' work' : List ℕ) : Type 0 where
  pub as_long : length counts' ≡ length counts
  pub less : (t : ℕ) → count_at counts' t + hits own t ≡ count_at counts t
  pub grows : (o : ℕ) → Contains work o → Contains work' o
  pub only : (o : ℕ) → Contains work' o → Contains work o ⊎ (is_left dead counts' o ≡ true)
  pub all : (t : ℕ) → is_left dead counts' t ≡ true → (hits own t ≡ 0) ⊎ Contains work' t
  pub spent : length work' + sum counts' ≤ length work + sum counts

-- an object is freed, of so many bytes
pub record FreesOne (object size : ℕ) (t t' : Tables) (work work' : List ℕ) : Type 0 where
  pub was : held_at t.places object ≡ Some size
  pub places_is : t'.places ≡ slice_set t.places object Gone
  pub dead_is : t'.dead ≡ t.dead
  pub slots_is : t'.slots ≡ slice_set t.slots object []
  pub released : Released (slots_at t.slots object) t.dead t.counts work t'.counts work'

-- .. or was freed before
pub record FreesNone (object size : ℕ) (t t' : Tables) (work work' : List ℕ) : Type 0 where
  pub was : held_at t.places object ≡ None
  pub same : t' ≡ t
  pub work_is : work' ≡ work
  pub none : size ≡ 0

-- the tables have a place for each object, and its count is the number of slots that refer to it
pub record AreCounted (t : Tables) : Type 0 where
  pub slots_long : length t.slots ≡ length t.places
  pub counts_long : length t.counts ≡ length t.places
  pub counted : (o : ℕ) → count_at t.counts o ≡ all_hits t.slots o

-- each object of a set is held, and lives or is referred to by one of the set
pub record KeepsItself (t : Tables) (set : ℕ → Bool) : Type 0 where
  pub held : (o : ℕ) → set o ≡ true → is_some (held_at t.places o) ≡ true
  pub by : (o : ℕ) → set o ≡ true → (flag_at t.dead o ≡ false) ⊎ ((u : ℕ) × (s : ℕ) × (set u ≡ true) × (target_at (slots_at t.slots u) s ≡ Some o))

-- the object and its slots are as at the start
abbrev pub IsAsBefore : Tables → Tables → ℕ → Type 0
IsAsBefore start t o = (held_at t.places o ≡ held_at start.places o) × (slots_at t.slots o ≡ slots_at start.slots o)

-- the object is freed
abbrev pub IsFreed : Tables → Tables → ℕ → Type 0
IsFreed start t o = (held_at t.places o ≡ None) × (flag_at start.dead o ≡ true) × (slots_at t.slots o ≡ [])

-- objects are being freed; so many bytes were
pub record IsFreeing (start t : Tables) (work : List ℕ) (freed : ℕ) : Type 0 where
  pub dead_is : t.dead ≡ start.dead
  pub as_long : length t.places ≡ length start.places
  pub made_is : (o : ℕ) → made_at t.places o ≡ made_at start.places o
  pub tables : AreCounted t
  pub each : (o : ℕ) → IsAsBefore start t o ⊎ IsFreed start t o
  -- what waits is left, and what is left waits
  pub waits : (o : ℕ) → Contains work o → is_left t.dead t.counts o ≡ true
  pub all : (o : ℕ) → is_some (held_at t.places o) ≡ true → is_left t.dead t.counts o ≡ true → Contains work o
  pub kept : (set : ℕ → Bool) → KeepsItself start set → (o : ℕ) → set o ≡ true → is_some (held_at t.places o) ≡ true
  pub bytes : freed + weight t.places ≡ weight start.places

-- only the one object may be left
abbrev pub IsOnlyLeft : Tables → ℕ → Type 0
IsOnlyLeft t object = (o : ℕ) → is_some (held_at t.places o) ≡ true → is_left t.dead t.counts o ≡ true → o ≡ object

-- `new` is written to a slot in which `old` stood; 0 stands for nothing too
pub record WritesReference (object slot new old : ℕ) (t t' : Tables) : Type 0 where
  pub places_is : t'.places ≡ t.places
  pub dead_is : t'.dead ≡ t.dead
  pub tables : AreCounted t'
  pub here : (s : ℕ) → target_at (slots_at t'.slots object) s ≡ (if slot == s then Some new else target_at (slots_at t.slots object) s)
  pub there : (o : ℕ) → (o ≡ object → ⊥) → slots_at t'.slots o ≡ slots_at t.slots o
  pub sorted : IsStrictlySortedBy nat_cmp (keys_of (slots_at t'.slots object))
  pub counts_low : (o : ℕ) → count_at t'.counts o ≡ 0 → (count_at t.counts o ≡ 0) ⊎ (o ≡ old)

abbrev pub no_tables : Tables
no_tables = record { places = []; dead = []; counts = []; slots = [] }

-- places for so many, and nothing in them
abbrev pub empty_tables : ℕ → Tables
empty_tables n = record { places = replicate n Unmade; dead = replicate n false; counts = replicate n 0; slots = replicate n [] }
