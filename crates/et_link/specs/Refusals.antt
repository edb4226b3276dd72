-- The answers on the way to a program.
use Rattle.std.specs.Prelude.{◌≡◌, ℕ, ◌+◌, ◌<◌, ◌≤◌, List, [], length, None, Some, Result, Ok, Err}
use Rattle.et_pool.specs.Entries.{Constants}
use Rattle.et_hierarchy.specs.Outline.{Outline, outline_at}
use Rattle.et_hierarchy.specs.Faults.{IsLinkFault}
use Rattle.et_hierarchy.specs.Ancestry.{Ancestry}
use Rattle.et_hierarchy.specs.declared.fault.FaultKind.{FaultKind}
use Rattle.et_hierarchy.specs.declared.fault.FaultKind.TheVariants as set
use Rattle.et_program.specs.declared.info.MethodInfo.{MethodInfo}
use Rattle.et_program.specs.declared.info.FieldInfo.{FieldInfo}
use Rattle.et_program.specs.Entries.{Linked}
use Rattle.et_program.specs.declared.fault.LinkFaultKind.{LinkFaultKind}
use Rattle.et_program.specs.declared.fault.LinkFaultKind.TheVariants.{Duplicate, NoSuper, Cycle, FinalSuper, CrossPackage, NoMain, TooMany}
use Rattle.et_link.specs.declared.fault.LinkFault.{LinkFault}
use Rattle.et_link.specs.declared.fault.LinkFault.TheVariants as fault
use Rattle.et_program.specs.Loaded.{LoadedClass}
use Rattle.et_program.specs.Slots.{placed_behind, places_from, is_static_field}
use Rattle.et_link.specs.Crossing.{crosses, AnswersLeast}
use Rattle.et_program.specs.Classes.{Heads}
use Rattle.et_program.specs.ProgramOf.{main_of, is_of_file, classes_by, IsProgramOf}
use Rattle.et_program.specs.LinkFaults.{IsFaultAt, IsLinkable}
use Rattle.et_program.specs.Files.{boots, set_of}

-- a fault that is answered is that of the files, with the name of its class
abbrev pub RefusesLink : List LoadedClass → LinkFault → Type 0
RefusesLink files (fault.At kind name) = (k : ℕ) × IsFaultAt files kind k × (name ≡ (outline_at (set_of files) k).name)
RefusesLink files fault.NoMemory = Unit {0}

-- WHAT FILES ARE: a program where no class shows a fault, and else their fault, with the class that shows it
abbrev pub LinkIs : List LoadedClass → Result Linked (LinkFaultKind × ℕ) → Type 0
LinkIs files (Ok p) = IsLinkable files × IsProgramOf files p
LinkIs files (Err f) = IsFaultAt files f.0 f.1

-- what linking answers: the program, or the fault
abbrev pub Links : List LoadedClass → Result Linked LinkFault → Type 0
Links files (Ok p) = LinkIs files (Ok p)
Links files (Err e) = RefusesLink files e

-- the fault names class k of the set; want of memory says nothing
abbrev pub NamesFault : List Outline → LinkFaultKind → ℕ → LinkFault → Type 0
NamesFault set kind k (fault.At other name) = (other ≡ kind) × (name ≡ (outline_at set k).name)
NamesFault set kind k fault.NoMemory = Unit {0}

abbrev pub link_kind : FaultKind → LinkFaultKind
link_kind set.Duplicate = Duplicate
link_kind set.NoSuper = NoSuper
link_kind set.Cycle = Cycle
link_kind set.FinalSuper = FinalSuper

-- a fault of the set of names
abbrev pub RefusesSet : List Outline → LinkFault → Type 0
RefusesSet set (fault.At other name) = (kind : FaultKind) × ((k : ℕ) × IsLinkFault set kind k × (other ≡ link_kind kind) × (name ≡ (outline_at set k).name))
RefusesSet set fault.NoMemory = Unit {0}

-- the faults that are looked for last
abbrev pub IsLate : List Outline → List Ancestry → List MethodInfo → ℕ → LinkFaultKind → ℕ → Type 0
IsLate set rows methods count Duplicate k = ⊥
IsLate set rows methods count NoSuper k = ⊥
IsLate set rows methods count Cycle k = ⊥
IsLate set rows methods count FinalSuper k = ⊥
IsLate set rows methods count CrossPackage k = AnswersLeast (crosses set rows methods) methods (length methods) (Some k)
IsLate set rows methods count NoMain k = AnswersLeast (crosses set rows methods) methods (length methods) None × (main_of methods ≡ None) × (k ≡ length boots)
IsLate set rows methods count TooMany k = AnswersLeast (crosses set rows methods) methods (length methods) None × ((m : ℕ) × (main_of methods ≡ Some m)) × (4096 < count) × (k ≡ length boots + 4096)

abbrev pub AnswersLate : List Outline → List Ancestry → List MethodInfo → ℕ → Result ℕ (LinkFaultKind × ℕ) → Type 0
AnswersLate set rows methods count (Ok m) = AnswersLeast (crosses set rows methods) methods (length methods) None × (main_of methods ≡ Some m) × (count ≤ 4096)
AnswersLate set rows methods count (Err x) = IsLate set rows methods count x.0 x.1

-- a program of these parts
abbrev pub linked_by : Heads → List Outline → List (List ℕ) → List MethodInfo → (ℕ → ℕ) → List FieldInfo → ℕ → List Constants → Linked
linked_by h set names methods base fields main pools = record {
  classes = classes_by h set names;
  methods = methods;
  fields = placed_behind base [] fields;
  statics = places_from is_static_field 0 fields;
  file_methods = places_from is_of_file 0 methods;
  main = main;
  pools = pools;
}
