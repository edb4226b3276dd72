-- The elements of arrays are of a base type, or of a class of the program.
use Rattle.std.proofs.Common.{◌≡◌, ℕ, ◌+◌, ◌-◌, ◌<◌, ◌≤◌, ◌^◌, Bool, true, false, cond, ◌==◌, List, [], ◌∷◌, length, take, drop, Option, None, Some, IfSome, option_map, sym, subst, arith}
use Rattle.et_link.proofs.TabledLemmas.{some_below}
use Rattle.et_pool.specs.Entries.{Constants}
use Rattle.et_pool.specs.Descriptors.{is_array, dimensions}
use Rattle.et_hierarchy.specs.Outline.{Outline, class_place}
use Rattle.et_hierarchy.specs.Ancestry.{Ancestry}
use Rattle.et_program.specs.Entries.{ClassEntry, Linked}
use Rattle.et_program.specs.declared.kind.Leaf.TheVariants.{Base, Class}
use Rattle.et_program.proofs.PlaceLemmas.{position_below, position_within}
use Rattle.et_program.specs.ArrayTypes.{base_kind, base_letters, leaf_at, leaf_of, leaf_element, class_element, element_of, array_at}
use Rattle.et_program.specs.Files.{set_of}
use Rattle.et_program.specs.Loaded.{LoadedClass}
use Rattle.et_program.specs.ProgramOf.{class_names_of, program_with, IsProgramOf}
use Rattle.et_event.specs.Programs.{IsElementWithin, AreElementsWithin}
use Rattle.et_history.proofs.programs.Classes.{length_all, class_cases}

class_within : (m : ℕ) (o : Option ℕ) → IfSome o (λ k. k < m) → IsElementWithin m (class_element o)
class_within m None h = tt
class_within m (Some k) h = h

base_within : (a : ℕ) → IfSome (base_kind a) (λ b. b < 2 ^ 8)
base_within a = some_below (base_kind a) (4 + length base_letters) (2 ^ 8) (omega arith) (position_below (λ b. b == a) 4 base_letters)

leaf_within : (set : List Outline) (m : ℕ) (text : List ℕ) → length set ≤ m → IsElementWithin m (leaf_element (leaf_at (class_place set) text))
leaf_within set m [] le = tt
leaf_within set m (a ∷ rest) le = by (a == 76)
  where
    of_class : (o : Option ℕ) → IfSome o (λ j. j < m) → IsElementWithin m (leaf_element (option_map (λ (k : ℕ). Class k) o))
    of_class None h = tt
    of_class (Some k) h = h

    of_base : (o : Option ℕ) → IfSome o (λ b. b < 2 ^ 8) → IsElementWithin m (leaf_element (option_map (λ (k : ℕ). Base k) o))
    of_base None h = tt
    of_base (Some k) h = h

    by : (b : Bool) → IsElementWithin m (leaf_element (cond b (option_map (λ (k : ℕ). Class k) (class_place set (take (length rest - 1) rest))) (option_map (λ (k : ℕ). Base k) (base_kind a))))
    by true = of_class _ (some_below (class_place set (take (length rest - 1) rest)) (length set) m le (position_within _ set))
    by false = of_base (base_kind a) (base_within a)

element_within : (set : List Outline) (names : List (List ℕ)) (m : ℕ) (name : List ℕ) → m ≡ length set + length names → IsElementWithin m (element_of (class_place set) (array_at (length set) names) name)
element_within set names m name e = by (is_array (drop 1 name))
  where
    by : (b : Bool) → IsElementWithin m (cond b (class_element (array_at (length set) names (drop 1 name))) (leaf_element (leaf_of (class_place set) name)))
    by true = class_within m _ (some_below (array_at (length set) names (drop 1 name)) (length set + length names) m (omega arith) (position_below _ (length set) names))
    by false = leaf_within set m (drop (dimensions name) name) (omega arith)

within : (files : List LoadedClass) (rows : List Ancestry) (pools : List Constants) → AreElementsWithin (program_with files rows pools)
within files rows pools c lt =
    let m : ℕ = length (program_with files rows pools).classes in
    class_cases files rows pools (λ (x : ClassEntry). IsElementWithin m x.info.element) c (λ l. tt) (λ name le l. element_within (set_of files) (class_names_of files) m name (length_all files rows pools)) tt

pub elements_within : (files : List LoadedClass) (p : Linked) → IsProgramOf files p → AreElementsWithin p
elements_within files p is = subst AreElementsWithin (sym is.tables) (within files is.rows p.pools)
