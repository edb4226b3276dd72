-- WHAT KEEPS FILES FROM BEING LINKED.
use Rattle.std.specs.Prelude.{◌≡◌, ℕ, ◌+◌, ◌<◌, zero, suc, Bool, true, false, not, ◌==◌, ◌&&◌, List, [], ◌∷◌, length, take, Option, Some, None, codes}
use Rattle.std.specs.List.{slice_index_or, position_from}
use Rattle.std.specs.Str.{bytes_eq}
use Rattle.et_class.specs.Names.{has}
use Rattle.et_class.specs.declared.flags.TheConstants.{PUBLIC, PRIVATE, PROTECTED, STATIC}
use Rattle.et_hierarchy.specs.Outline.{Outline, outline_at}
use Rattle.et_hierarchy.specs.Links.{LinkEntry, links, no_links}
use Rattle.et_hierarchy.specs.Faults.{Shows}
use Rattle.et_hierarchy.specs.declared.fault.FaultKind.TheVariants as set
use Rattle.et_program.specs.declared.info.MethodInfo.{MethodInfo}
use Rattle.et_program.specs.Entries.{no_method}
use Rattle.et_program.specs.Members.{is_method}
use Rattle.et_program.specs.declared.fault.LinkFaultKind.{LinkFaultKind}
use Rattle.et_program.specs.declared.fault.LinkFaultKind.TheVariants.{Duplicate, NoSuper, Cycle, FinalSuper, CrossPackage, NoMain, TooMany}
use Rattle.et_program.specs.Loaded.{LoadedClass}
use Rattle.et_program.specs.Files.{boots, set_of}
use Rattle.et_program.specs.MembersOf.{methods_of}
use Rattle.et_program.specs.Slots.{places_from}
use Rattle.et_program.specs.ProgramOf.{main_of}

-- PACKAGES

abbrev pub last_or : ℕ → List ℕ → ℕ
last_or n [] = n
last_or n (x ∷ xs) = last_or x xs

-- the bytes of a class's name up to the last `/`, with it
abbrev pub package_of : List ℕ → List ℕ
package_of name = take (last_or 0 (places_from (λ b. b == 47) 1 name)) name

-- class s is a superclass of class k, n classes between them
abbrev pub IsSuperIn : List LinkEntry → ℕ → ℕ → ℕ → Type 0
IsSuperIn table k zero s = (slice_index_or table k no_links).above ≡ Some s
IsSuperIn table k (suc n) s = (u : ℕ) × ((slice_index_or table k no_links).above ≡ Some u) × IsSuperIn table u n s

abbrev pub IsSuper : List LinkEntry → ℕ → ℕ → Type 0
IsSuper table k s = (n : ℕ) × IsSuperIn table k n s

-- a method that redeclares one above: it is neither static nor private, and neither <init> nor <clinit>
abbrev pub may_redeclare : MethodInfo → Bool
may_redeclare m =
    not (has m.flags STATIC) && (not (has m.flags PRIVATE) && (not (bytes_eq m.name (codes "<init>")) && not (bytes_eq m.name (codes "<clinit>"))))

abbrev pub is_package_private : MethodInfo → Bool
is_package_private m = not (has m.flags PUBLIC) && (not (has m.flags PRIVATE) && not (has m.flags PROTECTED))

abbrev pub method_numbered : List MethodInfo → ℕ → MethodInfo
method_numbered methods j = slice_index_or methods j no_method

-- the method of class s with the name and descriptor of m
abbrev pub same_in : List MethodInfo → MethodInfo → ℕ → Option ℕ
same_in methods m s = position_from (is_method m.name m.descriptor s) 0 methods

abbrev pub is_same_package : List Outline → ℕ → ℕ → Bool
is_same_package set k s = bytes_eq (package_of (outline_at set k).name) (package_of (outline_at set s).name)

-- a method of class k redeclares a package-private method of a superclass in another package (5.4.5)
pub record CrossesPackage (set : List Outline) (methods : List MethodInfo) (k : ℕ) : Type 0 where
  pub method : ℕ
  pub within : method < length methods
  pub of_class : (method_numbered methods method).class ≡ k
  pub redeclares : may_redeclare (method_numbered methods method) ≡ true
  pub superclass : ℕ
  pub is_super : IsSuper (links set) k superclass
  pub elsewhere : is_same_package set k superclass ≡ false
  pub redeclared : ℕ
  pub found : same_in methods (method_numbered methods method) superclass ≡ Some redeclared
  pub package_private : is_package_private (method_numbered methods redeclared) ≡ true

-- FAULTS

-- class k of the set shows this
abbrev pub LinkShows : List LoadedClass → LinkFaultKind → ℕ → Type 0
LinkShows files Duplicate k = Shows (set_of files) set.Duplicate k
LinkShows files NoSuper k = Shows (set_of files) set.NoSuper k
LinkShows files Cycle k = Shows (set_of files) set.Cycle k
LinkShows files FinalSuper k = Shows (set_of files) set.FinalSuper k
LinkShows files CrossPackage k = CrossesPackage (set_of files) (methods_of files) k
LinkShows files NoMain k = (k ≡ length boots) × (main_of (methods_of files) ≡ None)
LinkShows files TooMany k = k ≡ length boots + 4096

abbrev pub link_number : LinkFaultKind → ℕ
link_number Duplicate = 1
link_number NoSuper = 2
link_number Cycle = 3
link_number FinalSuper = 4
link_number CrossPackage = 5
link_number NoMain = 6
link_number TooMany = 7

-- no class shows this
abbrev pub IsLinkFree : List LoadedClass → LinkFaultKind → Type 0
IsLinkFree files kind = (k : ℕ) → k < length (set_of files) → LinkShows files kind k → ⊥

-- the least kind that a class shows, with the first class that shows it
pub record IsFaultAt (files : List LoadedClass) (kind : LinkFaultKind) (k : ℕ) : Type 0 where
  pub inside : k < length (set_of files)
  pub shows : LinkShows files kind k
  pub first : (j : ℕ) → j < k → LinkShows files kind j → ⊥
  pub least : (other : LinkFaultKind) → link_number other < link_number kind → IsLinkFree files other

-- no class shows anything
abbrev pub IsLinkable : List LoadedClass → Type 0
IsLinkable files = (kind : LinkFaultKind) → IsLinkFree files kind
