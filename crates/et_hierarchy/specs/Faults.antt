-- What makes a set of classes unfit to be linked (JVMS 5.3.5).
use Rattle.std.specs.Prelude.{◌≡◌, ℕ, ◌<◌, ◌&&◌, not, Bool, true, false, List, length}
use Rattle.std.specs.List.{list_all}
use Rattle.std.specs.Option.{option_map_or, option_and_then}
use Rattle.et_hierarchy.specs.Outline.{Outline, outline_at, class_place}
use Rattle.et_hierarchy.specs.Links.{links, IsAncestor}
use Rattle.et_hierarchy.specs.declared.fault.FaultKind.{FaultKind}
use Rattle.et_hierarchy.specs.declared.fault.FaultKind.TheVariants.{Duplicate, NoSuper, Cycle, FinalSuper}

-- an earlier class has the name of class k (5.3.5, point 1)
abbrev pub IsRepeated : List Outline → ℕ → Type 0
IsRepeated set k = (j : ℕ) × (j < k) × ((outline_at set j).name ≡ (outline_at set k).name)

-- the name is that of an interface
abbrev pub is_interface_named : List Outline → List ℕ → Bool
is_interface_named set name = option_map_or (λ k. (outline_at set k).is_interface) (class_place set name) false

-- the name is that of a class that is no interface
abbrev pub names_class : List Outline → List ℕ → Bool
names_class set name = option_map_or (λ k. not (outline_at set k).is_interface) (class_place set name) false

-- the superclass and the interfaces are there, and are of their kinds (5.3.5, points 3 and 4)
abbrev pub has_supers : List Outline → Outline → Bool
has_supers set c = option_map_or (names_class set) c.super_name true && list_all (is_interface_named set) c.interfaces

-- the superclass is final (4.10)
abbrev pub has_final_super : List Outline → Outline → Bool
has_final_super set c = option_map_or (λ k. (outline_at set k).is_final) (option_and_then (class_place set) c.super_name) false

-- class k of the set shows this fault
abbrev pub Shows : List Outline → FaultKind → ℕ → Type 0
Shows set Duplicate k = IsRepeated set k
Shows set NoSuper k = has_supers set (outline_at set k) ≡ false
Shows set Cycle k = IsAncestor (links set) k k
Shows set FinalSuper k = has_final_super set (outline_at set k) ≡ true

abbrev pub kind_number : FaultKind → ℕ
kind_number Duplicate = 1
kind_number NoSuper = 2
kind_number Cycle = 3
kind_number FinalSuper = 4

-- no class shows this fault
abbrev pub IsFree : List Outline → FaultKind → Type 0
IsFree set kind = (k : ℕ) → k < length set → Shows set kind k → ⊥

-- class k is the first to show this fault
pub record IsFirstToShow (set : List Outline) (kind : FaultKind) (k : ℕ) : Type 0 where
  pub inside : k < length set
  pub shows : Shows set kind k
  pub first : (j : ℕ) → j < k → Shows set kind j → ⊥

-- the fault of the least kind, with the first class that shows it
pub record IsLinkFault (set : List Outline) (kind : FaultKind) (k : ℕ) : Type 0 where
  pub found : IsFirstToShow set kind k
  pub least : (other : FaultKind) → kind_number other < kind_number kind → IsFree set other

-- there is no fault
abbrev pub IsFaultless : List Outline → Type 0
IsFaultless set = (kind : FaultKind) → IsFree set kind
