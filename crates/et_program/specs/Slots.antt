-- THE SLOTS OF FIELDS: those of an instance stand superclass first and then in the order of the file; static fields are
-- numbered in the order of the files.
use Rattle.std.specs.Prelude.{ℕ, ◌+◌, Bool, not, ◌==◌, ◌&&◌, nat_lt, if◌then◌else◌, List, [], ◌∷◌, ◌++◌, length, sum_by, count_by}
use Rattle.std.specs.List.{slice_index_or}
use Rattle.et_class.specs.Names.{has}
use Rattle.et_class.specs.declared.flags.TheConstants.{STATIC}
use Rattle.et_boot.specs.Classes.{no_boot_class}
use Rattle.et_hierarchy.specs.Ancestry.{Ancestry, ancestry_at}
use Rattle.et_program.specs.declared.info.FieldInfo.{FieldInfo}
use Rattle.et_program.specs.Files.{boots}

abbrev pub is_static_field : FieldInfo → Bool
is_static_field f = has f.flags STATIC

abbrev pub is_instance_of : ℕ → FieldInfo → Bool
is_instance_of k f = (f.class == k) && not (is_static_field f)

-- how many instance slots class k declares itself: a built-in class says it, another one has one for each field
abbrev pub own_slots : List FieldInfo → ℕ → ℕ
own_slots fields k = if nat_lt k (length boots) then (slice_index_or boots k no_boot_class).slots else count_by (is_instance_of k) fields

-- how many the superclasses of class k declare
abbrev pub slots_above : List FieldInfo → List Ancestry → ℕ → ℕ
slots_above fields rows k = sum_by (own_slots fields) (ancestry_at rows k).supers

abbrev pub field_slots : List FieldInfo → List Ancestry → ℕ → ℕ
field_slots fields rows k = slots_above fields rows k + own_slots fields k

-- the slot of a field, by the fields that stand before it, where the slots of class k begin at base k
abbrev pub slot_of_field : (ℕ → ℕ) → List FieldInfo → FieldInfo → ℕ
slot_of_field base before f = if is_static_field f then count_by is_static_field before else base f.class + count_by (is_instance_of f.class) before

-- fields with their slots, behind other fields
abbrev pub placed_behind : (ℕ → ℕ) → List FieldInfo → List FieldInfo → List FieldInfo
placed_behind base before [] = []
placed_behind base before (f ∷ fs) = record f { slot = slot_of_field base before f } ∷ placed_behind base (before ++ f ∷ []) fs

abbrev pub placed : List FieldInfo → List Ancestry → List FieldInfo
placed fields rows = placed_behind (slots_above fields rows) [] fields

-- the places of the elements that pass a test, where the list starts at place n
abbrev pub places_from : {X : Type 0} → (X → Bool) → ℕ → List X → List ℕ
places_from test n [] = []
places_from test n (x ∷ xs) = if test x then n ∷ places_from test (n + 1) xs else places_from test (n + 1) xs
