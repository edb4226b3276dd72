-- TYPES AT PLACES, as they are kept: for each place a slot, which is 0, or one more than where the place's types stand.
use Rattle.std.specs.Prelude.{◌≡◌, ℕ, zero, suc, ◌<◌, ◌≤◌, List, map, Option, None, slice_index_or}
use Rattle.std.specs.List.{slice_get}
use Rattle.et_flow.specs.Types.{TypesOf}

abbrev pub in_slot : List TypesOf → ℕ → Option TypesOf
in_slot found zero = None
in_slot found (suc k) = slice_get found k

abbrev pub shown : List TypesOf → List ℕ → List (Option TypesOf)
shown found slots = map (in_slot found) slots

abbrev pub slot_at : List ℕ → ℕ → ℕ
slot_at slots place = slice_index_or slots place 0

-- no two places have the same types, and those of each are there
pub record AreApart (slots : List ℕ) (count : ℕ) : Type 0 where
  pub there : (place : ℕ) → slot_at slots place ≤ count
  pub apart : (p q : ℕ) → 0 < slot_at slots p → slot_at slots p ≡ slot_at slots q → p ≡ q
