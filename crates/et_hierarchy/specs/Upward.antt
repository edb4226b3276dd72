-- The superclasses of a class upward, by the links alone.
use Rattle.std.specs.Prelude.{◌≡◌, ℕ, ◌<◌, ◌⊎◌, List, [], ◌∷◌, Option, None, Some, length}
use Rattle.std.specs.List.{slice_index_or}
use Rattle.et_hierarchy.specs.Links.{LinkEntry, no_links}

-- the list begins with this class, and goes from each class to its superclass, up to one that has none
abbrev pub LeadsUp : List LinkEntry → Option ℕ → List ℕ → Type 0
LeadsUp table o [] = o ≡ None
LeadsUp table o (x ∷ xs) = (o ≡ Some x) × LeadsUp table (slice_index_or table x no_links).above xs

-- class k has its list
abbrev pub HasListUp : List LinkEntry → List (List ℕ) → ℕ → Type 0
HasListUp table lists k = LeadsUp table (Some k) (slice_index_or lists k [])

-- each class has its list, or none yet
pub record AreListsUp (table : List LinkEntry) (lists : List (List ℕ)) : Type 0 where
  pub each : length lists ≡ length table
  pub right : (k : ℕ) → k < length table → (slice_index_or lists k [] ≡ []) ⊎ HasListUp table lists k

-- .. and those that had their list have it still
pub record ListsGrow (table : List LinkEntry) (old new : List (List ℕ)) : Type 0 where
  pub lists : AreListsUp table new
  pub kept : (k : ℕ) → HasListUp table old k → HasListUp table new k
