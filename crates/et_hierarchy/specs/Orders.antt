-- Orders of initialization, as they are made.
use Rattle.std.specs.Prelude.{◌≡◌, ℕ, ◌<◌, ◌≤◌, ◌⊎◌, Bool, List, [], length, take, reverse}
use Rattle.std.specs.List.{slice_index_or, flat_map}
use Rattle.et_hierarchy.specs.Links.{LinkEntry}
use Rattle.et_hierarchy.specs.Ancestry.{Ancestry, once}
use Rattle.et_hierarchy.specs.Initialization.{with_interfaces, class_order}
use Rattle.et_hierarchy.specs.declared.order.Stop.{Stop}

-- what is initialized with these classes, from the last of them to the first
abbrev pub order_down : (ℕ → Bool) → List LinkEntry → List Ancestry → List ℕ → List ℕ
order_down needs table rows xs = once (flat_map (with_interfaces needs table rows) (reverse xs))

-- the order of the class of a stop is what stands before it
pub record IsStop (needs : ℕ → Bool) (table : List LinkEntry) (rows : List Ancestry) (list : List ℕ) (s : Stop) : Type 0 where
  pub class : s.class < length table
  pub within : s.end ≤ length list
  pub before : take s.end list ≡ class_order needs table rows s.class

-- class k has its order
abbrev pub HasOrder : (ℕ → Bool) → List LinkEntry → List Ancestry → List (List ℕ) → ℕ → Type 0
HasOrder needs table rows orders k = slice_index_or orders k [] ≡ class_order needs table rows k

-- each class has its order, or no list yet
pub record AreOrders (needs : ℕ → Bool) (table : List LinkEntry) (rows : List Ancestry) (orders : List (List ℕ)) : Type 0 where
  pub each : length orders ≡ length table
  pub right : (k : ℕ) → k < length table → (slice_index_or orders k [] ≡ []) ⊎ HasOrder needs table rows orders k

-- .. and those that had their order have it still
pub record OrdersGrow (needs : ℕ → Bool) (table : List LinkEntry) (rows : List Ancestry) (old new : List (List ℕ)) : Type 0 where
  pub orders : AreOrders needs table rows new
  pub kept : (k : ℕ) → HasOrder needs table rows old k → HasOrder needs table rows new k
