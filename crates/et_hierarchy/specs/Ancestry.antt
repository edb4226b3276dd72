-- The superclasses and superinterfaces of each class, in the orders in which members are looked for (JVMS 5.4.3.2 to
-- 5.4.3.4).
use Rattle.std.specs.Prelude.{◌≡◌, ℕ, ◌<◌, ◌==◌, if◌then◌else◌, List, [], ◌∷◌, ◌++◌, Option, None, Some, IfSome, length, drop, All}
use Rattle.std.specs.List.{slice_index_or, list_any, flat_map}
use Rattle.et_hierarchy.specs.Links.{LinkEntry, no_links}

pub record Ancestry : Type 0 where
  pub supers : List ℕ
  pub superinterfaces : List ℕ
  pub field_order : List ℕ

abbrev pub no_ancestry : Ancestry
no_ancestry = record { supers = []; superinterfaces = []; field_order = [] }

abbrev pub ancestry_at : List Ancestry → ℕ → Ancestry
ancestry_at rows k = slice_index_or rows k no_ancestry

-- a class is put behind a list that doesn't have it
abbrev pub class_added : List ℕ → ℕ → List ℕ
class_added seen x = if list_any (λ y. x == y) seen then seen else seen ++ x ∷ []

abbrev pub added_all : List ℕ → List ℕ → List ℕ
added_all seen [] = seen
added_all seen (x ∷ xs) = added_all (class_added seen x) xs

-- each class of a list once, at its first place
abbrev pub once : List ℕ → List ℕ
once xs = added_all [] xs

-- the superclass, and then those of the superclass
abbrev pub supers_over : List Ancestry → Option ℕ → List ℕ
supers_over rows None = []
supers_over rows (Some s) = s ∷ (ancestry_at rows s).supers

abbrev pub superinterfaces_over : List Ancestry → Option ℕ → List ℕ
superinterfaces_over rows None = []
superinterfaces_over rows (Some s) = (ancestry_at rows s).superinterfaces

abbrev pub field_order_over : List Ancestry → Option ℕ → List ℕ
field_order_over rows None = []
field_order_over rows (Some s) = (ancestry_at rows s).field_order

-- of class k, by those of the classes right above it:
-- the superclasses upward; the superinterfaces, first those of the superclass and then by the interface list, each after its own;
-- and where a field is looked for: in the class, then in its interfaces in order, then from its superclass on
abbrev pub ancestry_of : LinkEntry → List Ancestry → ℕ → Ancestry
ancestry_of l rows k = record {
  supers = supers_over rows l.above;
  superinterfaces = once (superinterfaces_over rows l.above ++ flat_map (λ i. (ancestry_at rows i).superinterfaces ++ i ∷ []) l.interfaces);
  field_order = once (k ∷ flat_map (λ i. (ancestry_at rows i).field_order) l.interfaces ++ field_order_over rows l.above);
}

-- the class has no interfaces, and what its superclass looks in for a field behind itself are the superclasses of that one
pub record LooksUpward (l : LinkEntry) (rows : List Ancestry) : Type 0 where
  pub no_interfaces : l.interfaces ≡ []
  pub over : IfSome l.above (λ s. drop 1 (ancestry_at rows s).field_order ≡ (ancestry_at rows s).supers)

-- each class has the lists that those right above it give
pub record IsAncestry (table : List LinkEntry) (rows : List Ancestry) : Type 0 where
  pub each : length rows ≡ length table
  pub row : (k : ℕ) → k < length table → ancestry_at rows k ≡ ancestry_of (slice_index_or table k no_links) rows k

-- each class that the lists name is one of the first n
pub record IsBelow (n : ℕ) (r : Ancestry) : Type 0 where
  pub supers : All (λ k. k < n) r.supers
  pub superinterfaces : All (λ k. k < n) r.superinterfaces
  pub field_order : All (λ k. k < n) r.field_order
