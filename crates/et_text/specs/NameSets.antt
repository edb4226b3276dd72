-- Names that were taken. They are kept in order, so that no names that a stranger chooses take longer than others.
use Rattle.std.specs.Prelude.{ℕ, Bool, ◌&&◌, ◌==◌, bytes_eq}
use Rattle.std.specs.BTreeSet.{BTreeSet, contains}
use Rattle.std.specs.Cmp.Lexicographic.{slice_cmp}
use Rattle.std.specs.Ordering.{nat_cmp, ordering_then}
use Rattle.std.specs.declared.cmp.Ordering.{Ordering}
use Rattle.std.specs.declared.vec.Vec.{Vec}
use Rattle.std.specs.declared.alloc.Global.{Global}

abbrev pub Bytes : Type 0
Bytes = Vec ℕ Global

abbrev pub NameSet : Type 0
NameSet = BTreeSet Bytes

-- the order of names, byte by byte
abbrev pub name_order : Bytes → Bytes → Ordering
name_order x y = slice_cmp nat_cmp x.items y.items

abbrev pub has_name : NameSet → Bytes → Bool
has_name names q = contains name_order names q

abbrev pub MethodKey : Type 0
MethodKey = ℕ × Bytes × Bytes

abbrev pub MethodSet : Type 0
MethodSet = BTreeSet MethodKey

abbrev pub same_method : MethodKey → MethodKey → Bool
same_method x y = x.0 == y.0 && bytes_eq x.1.items y.1.items && bytes_eq x.2.items y.2.items

-- by class, then by name, then by descriptor
abbrev pub method_order : MethodKey → MethodKey → Ordering
method_order x y = ordering_then (ordering_then (nat_cmp x.0 y.0) (name_order x.1 y.1)) (name_order x.2 y.2)

abbrev pub has_key : MethodSet → MethodKey → Bool
has_key names q = contains method_order names q
