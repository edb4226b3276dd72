-- THE TYPES OF LOCAL VARIABLES, as they are kept: of those of which something was known, in their order. All others are free.
use Rattle.std.specs.Prelude.{◌≡◌, ℕ, ◌<◌, ◌≤◌, ◌==◌, ◌^◌, if◌then◌else◌, List, [], ◌∷◌, length, map, slice_index_or}
use Rattle.std.specs.List.{range_with_len}
use Rattle.et_flow.specs.declared.types.EntryType.{EntryType}
use Rattle.et_flow.specs.declared.types.EntryType.TheVariants.{Free}
use Rattle.et_flow.specs.declared.locals.Held.{Held}

-- the type of a local variable
abbrev pub type_in : List Held → ℕ → EntryType
type_in [] i = Free
type_in (h ∷ held) i = if h.local == i then h.entry else type_in held i

-- the types of so many local variables
abbrev pub spread : ℕ → List Held → List EntryType
spread count held = map (type_in held) (range_with_len 0 count)

-- the local variable at a place of the list
abbrev pub local_at : List Held → ℕ → ℕ
local_at held k = let h : Held = slice_index_or held k (record { local = 0; entry = Free }) in h.local

-- the local variables rise, so none comes twice
abbrev pub AreInOrder : List Held → Type 0
AreInOrder held = (j k : ℕ) → j < k → k < length held → local_at held j < local_at held k

-- the local variable stands at a place of the list
pub record IsAt (held : List Held) (local at : ℕ) : Type 0 where
  pub inside : at < length held
  pub here : local_at held at ≡ local

-- it would stand there: those before it are lower, and those behind it higher
pub record IsGapFor (held : List Held) (local at : ℕ) : Type 0 where
  pub inside : at ≤ length held
  pub before : (j : ℕ) → j < at → local_at held j < local
  pub behind : (j : ℕ) → at ≤ j → j < length held → local < local_at held j

-- the types of so many local variables are kept
pub record AreHeld (count : ℕ) (held : List Held) : Type 0 where
  pub order : AreInOrder held
  pub within : (k : ℕ) → k < length held → local_at held k < count
  pub few : count < 2 ^ 16
