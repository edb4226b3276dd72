-- Where objects are.
use Rattle.std.specs.Prelude.{◌≡◌, ◌⊎◌, ℕ, Bool, true, false, if◌then◌else◌, List, length, fold, Contains, slice_index_or, slice_set}
use Rattle.et_models.specs.declared.places.Place.{Place}
use Rattle.et_models.specs.declared.places.Place.TheVariants.{Nowhere, Nursery, Kept, Old}
use Rattle.et_models.specs.Tables.{flag_at}

abbrev pub place_at : List Place → ℕ → Place
place_at places object = slice_index_or places object Nowhere

abbrev pub with_place : List Place → ℕ → Place → List Place
with_place places object place = slice_set places object place

abbrev pub is_nursery : Place → Bool
is_nursery Nursery = true
is_nursery _ = false

abbrev pub is_kept : Place → Bool
is_kept Kept = true
is_kept _ = false

abbrev pub is_old : Place → Bool
is_old Old = true
is_old _ = false

-- after a minor collection: what is kept goes to the old space, and the rest of the nursery is gone
abbrev pub place_settled : Place → Place
place_settled Kept = Old
place_settled Old = Old
place_settled _ = Nowhere

-- these objects settled, and the others stay where they are
pub record AreCollected (objects : List ℕ) (places places' : List Place) : Type 0 where
  pub as_long : length places' ≡ length places
  pub moved : (o : ℕ) → Contains objects o → place_at places' o ≡ place_settled (place_at places o)
  pub each : (o : ℕ) → (place_at places' o ≡ place_at places o) ⊎ Contains objects o

-- without an object, where it is dead
abbrev pub without_one : List Bool → List Place → ℕ → List Place
without_one dead places o = if flag_at dead o then with_place places o Nowhere else places

-- without the dead ones of these objects
abbrev pub without_dead : List Bool → List ℕ → List Place → List Place
without_dead dead objects places = fold (without_one dead) places objects
