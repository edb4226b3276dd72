-- The type test of checkcast, instanceof and aastore (JVMS 6.5).
use Rattle.std.specs.Prelude.{◌≡◌, ℕ, List, ◌+◌, ◌==◌, ◌||◌, nat_lt, if◌then◌else◌, Bool, false, codes}
use Rattle.std.specs.Str.{bytes_eq}
use Rattle.et_program.specs.Entries.{Linked, class_at}
use Rattle.et_program.specs.Members.{is_subclass}
use Rattle.et_program.specs.declared.kind.Leaf.{Leaf}
use Rattle.et_program.specs.declared.kind.Leaf.TheVariants.{Base, Class}
use Rattle.et_program.specs.declared.kind.Kind.{Kind}

-- the types under all dimensions
abbrev pub leaf_passes : Linked → Leaf → Leaf → Bool
leaf_passes p (Base a) (Base b) = a == b
leaf_passes p (Class a) (Class b) = is_subclass p a b
leaf_passes p (Base a) (Class b) = false
leaf_passes p (Class a) (Base b) = false

-- the classes that every array is of
abbrev pub is_array_class : List ℕ → Bool
is_array_class name = bytes_eq name (codes "java/lang/Object") || (bytes_eq name (codes "java/lang/Cloneable") || bytes_eq name (codes "java/io/Serializable"))

abbrev pub is_top : Linked → Leaf → Bool
is_top p (Base b) = false
is_top p (Class c) = is_array_class (class_at p c).info.name

-- as many dimensions: by the types under them; more of them: where the other's is what every array is
abbrev pub kind_passes : Linked → Kind → Kind → Bool
kind_passes p low high =
    if low.dimensions == high.dimensions then leaf_passes p low.leaf high.leaf
    else (if nat_lt high.dimensions low.dimensions then is_top p high.leaf else false)

-- a reference to an object of class low passes for one of class high
abbrev pub passes : Linked → ℕ → ℕ → Bool
passes p low high = kind_passes p (class_at p low).kind (class_at p high).kind

abbrev pub kind_over : Kind → Kind
kind_over k = record { dimensions = k.dimensions + 1; leaf = k.leaf }

-- an array passes for an array exactly where its elements pass for those
abbrev pub ElementsDecide : Linked → Kind → Kind → Type 0
ElementsDecide p low high = kind_passes p (kind_over low) (kind_over high) ≡ kind_passes p low high
