-- Superclasses and superinterfaces by place, and what is above a class (JVMS 5.3.5).
use Rattle.std.specs.Prelude.{ℕ, ◌<◌, zero, suc, List, [], ◌++◌, Option, None, Some, Contains, All, map, length}
use Rattle.std.specs.List.{slice_index_or, filter_map}
use Rattle.std.specs.Option.{option_and_then, option_to_list}
use Rattle.et_hierarchy.specs.Outline.{Outline, class_place}

-- the direct superclass and the listed interfaces of a class
pub record LinkEntry : Type 0 where
  pub above : Option ℕ
  pub interfaces : List ℕ

abbrev pub links_of : List Outline → Outline → LinkEntry
links_of set c = record { above = option_and_then (class_place set) c.super_name; interfaces = filter_map (class_place set) c.interfaces }

abbrev pub links : List Outline → List LinkEntry
links set = map (links_of set) set

abbrev pub parents_of : LinkEntry → List ℕ
parents_of l = option_to_list l.above ++ l.interfaces

abbrev pub no_links : LinkEntry
no_links = record { above = None; interfaces = [] }

-- the direct superclass and superinterfaces of class k
abbrev pub parents : List LinkEntry → ℕ → List ℕ
parents table k = parents_of (slice_index_or table k no_links)

-- a way of n further steps leads up from class k to class a
abbrev pub IsAncestorIn : List LinkEntry → ℕ → ℕ → ℕ → Type 0
IsAncestorIn table k zero a = Contains (parents table k) a
IsAncestorIn table k (suc n) a = (u : ℕ) × IsAncestorIn table k n u × Contains (parents table u) a

abbrev pub IsAncestor : List LinkEntry → ℕ → ℕ → Type 0
IsAncestor table k a = (n : ℕ) × IsAncestorIn table k n a

-- each link leads to a class of the set
abbrev pub HasLinksWithin : ℕ → List LinkEntry → Type 0
HasLinksWithin n table = All (λ l. All (λ k. k < n) (parents_of l)) table

-- no class is its own ancestor
abbrev pub IsAcyclic : List LinkEntry → Type 0
IsAcyclic table = (k : ℕ) → k < length table → IsAncestor table k k → ⊥

-- the first class that is its own ancestor, or none where no class is
abbrev pub AnswersCycle : List LinkEntry → Option ℕ → Type 0
AnswersCycle table None = IsAcyclic table
AnswersCycle table (Some k) = (k < length table) × IsAncestor table k k × ((j : ℕ) → j < k → IsAncestor table j j → ⊥)
