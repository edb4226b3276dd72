-- The order of initialization (JVMS 5.5).
use Rattle.std.specs.Prelude.{◌≡◌, ℕ, Bool, true, false, List, [], ◌∷◌, ◌++◌, filter, reverse}
use Rattle.std.specs.List.{slice_index_or, flat_map}
use Rattle.et_hierarchy.specs.Links.{LinkEntry, no_links}
use Rattle.et_hierarchy.specs.Ancestry.{Ancestry, ancestry_at, once, added_all}

-- the superinterfaces by the interface list of a class, each after its own superinterfaces
abbrev pub listed_interfaces : List Ancestry → LinkEntry → List ℕ
listed_interfaces rows l = once (flat_map (λ i. (ancestry_at rows i).superinterfaces ++ i ∷ []) l.interfaces)

-- those that have a method to run
abbrev pub interfaces_to_run : (ℕ → Bool) → List Ancestry → LinkEntry → List ℕ
interfaces_to_run needs rows l = filter needs (listed_interfaces rows l)

-- a class after those interfaces
abbrev pub with_interfaces : (ℕ → Bool) → List LinkEntry → List Ancestry → ℕ → List ℕ
with_interfaces needs table rows k = interfaces_to_run needs rows (slice_index_or table k no_links) ++ k ∷ []

-- from the topmost class down to class k
abbrev pub downward : List Ancestry → ℕ → List ℕ
downward rows k = reverse (k ∷ (ancestry_at rows k).supers)

-- the initialization order of a class that is no interface: from the topmost class down, each after its interfaces,
-- without repeats
abbrev pub class_order : (ℕ → Bool) → List LinkEntry → List Ancestry → ℕ → List ℕ
class_order needs table rows k = once (flat_map (with_interfaces needs table rows) (downward rows k))

-- the initialization order of class k, which is an interface or not: of an interface, itself alone
abbrev pub init_order : Bool → (ℕ → Bool) → List LinkEntry → List Ancestry → ℕ → List ℕ
init_order true needs table rows k = k ∷ []
init_order false needs table rows k = class_order needs table rows k

-- the order of a class is that of its superclass, and then its interfaces and itself
abbrev pub OrderGoesOn : (ℕ → Bool) → List LinkEntry → List Ancestry → ℕ → ℕ → Type 0
OrderGoesOn needs table rows k s = init_order false needs table rows k ≡ added_all (init_order false needs table rows s) (with_interfaces needs table rows k)
