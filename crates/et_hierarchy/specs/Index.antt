-- An index of names.
use Rattle.std.specs.Prelude.{◌≡◌, ℕ, List}
use Rattle.std.specs.Str.{bytes_eq}
use Rattle.std.specs.HashMap.{get_by, HashMap}
use Rattle.std.specs.declared.hash.FoldHasher.{FoldHasher}
use Rattle.std.specs.declared.hash.BuildHasherDefault.{BuildHasherDefault}
use Rattle.std.specs.declared.vec.Vec.{Vec}
use Rattle.std.specs.declared.alloc.Global.{Global}
use Rattle.et_hierarchy.specs.Outline.{Outline, class_place}
use Rattle.et_hierarchy.specs.Faults.{IsFree, IsFirstToShow}
use Rattle.et_hierarchy.specs.declared.fault.FaultKind.TheVariants.{Duplicate}
use Rattle.et_hierarchy.specs.declared.index.Indexed.{Indexed}
use Rattle.et_hierarchy.specs.declared.index.Indexed.TheVariants.{Places, Repeated}

abbrev pub NameMap : Type 0
NameMap = HashMap (Vec ℕ Global) ℕ (BuildHasherDefault FoldHasher)

-- the map has the place of each name
abbrev pub IsIndexOf : List Outline → NameMap → Type 0
IsIndexOf set places = (name : List ℕ) → get_by (λ k. bytes_eq name k.items) places ≡ class_place set name

abbrev pub IsSetIndexed : List Outline → Indexed → Type 0
IsSetIndexed set (Places places) = IsIndexOf set places × IsFree set Duplicate
IsSetIndexed set (Repeated k) = IsFirstToShow set Duplicate k
