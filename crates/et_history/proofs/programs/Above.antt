-- The interfaces of a program (JVMS 5.3.5).
use Rattle.std.proofs.Common.{◌≡◌, ℕ, zero, suc, ◌+◌, ◌<◌, ◌≤◌, ◌==◌, Bool, true, false, List, [], ◌∷◌, ◌++◌, length, map, refl, sym, ◌∙◌, ap, subst, arith}
use Rattle.std.specs.List.{slice_index_or, list_any}
use Rattle.std.proofs.lemmas.Bool.{false≢true}
use Rattle.std.proofs.lemmas.List.Elements.{All-nil, All-cons, All-weaker}
use Rattle.et_boot.specs.Classes.{BootClassOf, no_boot_class}
use Rattle.et_class.specs.Names.{has}
use Rattle.et_class.specs.declared.flags.TheConstants.{INTERFACE}
use Rattle.et_pool.specs.Entries.{Constants}
use Rattle.et_hierarchy.specs.Outline.{Outline, outline_at, no_outline}
use Rattle.et_hierarchy.specs.Links.{links}
use Rattle.et_hierarchy.specs.Ancestry.{Ancestry, IsAncestry}
use Rattle.et_program.specs.Entries.{ClassEntry, Linked, is_interface}
use Rattle.et_program.specs.Files.{boots, set_of, boot_outline, file_outline}
use Rattle.et_program.specs.Loaded.{LoadedClass}
use Rattle.et_program.specs.LinkFaults.{IsLinkable}
use Rattle.et_program.specs.ProgramOf.{program_with, IsProgramOf}
use Rattle.et_link.proofs.TabledLemmas.{length-set}
use Rattle.et_event.specs.Interfaces.{KnowsInterfaces}
use Rattle.et_history.proofs.programs.Places.{at_map, one_of}
use Rattle.et_history.proofs.programs.Making.{class_in}
use Rattle.et_history.proofs.programs.Classes.{class_cases}
use Rattle.et_history.proofs.programs.Supers.{IsClass, IsInterface, kinds}

-- what the set says of a class, its flags say
flags_say : (cs : List BootClassOf) (files : List LoadedClass) (k : ℕ)
    → has (slice_index_or (map (λ (c : BootClassOf). c.flags) cs ++ map (λ (c : LoadedClass). c.flags) files) k 0) INTERFACE ≡ (outline_at (map boot_outline cs ++ map file_outline files) k).is_interface
flags_say [] [] k = refl
flags_say [] (c ∷ files) zero = refl
flags_say [] (c ∷ files) (suc k) = flags_say [] files k
flags_say (c ∷ cs) files zero = refl
flags_say (c ∷ cs) files (suc k) = flags_say cs files k

pub interface_is : (files : List LoadedClass) (rows : List Ancestry) (pools : List Constants) (k : ℕ) → k < length (set_of files) → is_interface (program_with files rows pools) k ≡ (outline_at (set_of files) k).is_interface
interface_is files rows pools k lt = ap (λ (x : ClassEntry). has x.info.flags INTERFACE) (class_in files rows pools k lt) ∙ flags_say boots files k

-- the classes above each array class
is_boot_interface : ℕ → Bool
is_boot_interface k = has (slice_index_or boots k no_boot_class).flags INTERFACE

boots_are_some : 5 ≤ length boots
unfolding boots
boots_are_some = omega arith

object_kind : is_boot_interface 0 ≡ false
unfolding boots is_boot_interface
object_kind = refl

cloneable_kind : is_boot_interface 2 ≡ true
unfolding boots is_boot_interface
cloneable_kind = refl

serializable_kind : is_boot_interface 4 ≡ true
unfolding boots is_boot_interface
serializable_kind = refl

module _ (files : List LoadedClass) (rows : List Ancestry) (pools : List Constants) (is : IsAncestry (links (set_of files)) rows) (linkable : IsLinkable files) where
  abbrev p : Linked
  p = program_with files rows pools

  abbrev Plain : ℕ → Type 0
  Plain k = is_interface p k ≡ false

  abbrev Face : ℕ → Type 0
  Face k = is_interface p k ≡ true

  plain_is : (k : ℕ) → IsClass (set_of files) k → Plain k
  plain_is k h = interface_is files rows pools k h.within ∙ h.kind

  face_is : (k : ℕ) → IsInterface (set_of files) k → Face k
  face_is k h = interface_is files rows pools k h.within ∙ h.kind

  boot_is : (k : ℕ) (b : Bool) → k < 5 → is_boot_interface k ≡ b → is_interface p k ≡ b
  unfolding is_boot_interface
  boot_is k b lt e =
      let some : 5 ≤ length boots = boots_are_some in
      let n : length (set_of files) ≡ length boots + length files = length-set files in
      let inside : k < length boots = omega arith in
      interface_is files rows pools k (omega arith) ∙ (ap (λ (o : Outline). o.is_interface) (at_map boot_outline boots (map file_outline files) k no_boot_class no_outline inside) ∙ e)

  known : KnowsInterfaces p
  known = record {
    supers = λ c k.
        class_cases files rows pools (λ (x : ClassEntry). list_any (λ j. j == k) x.supers ≡ true → Plain k) c
        (λ lt h. one_of Plain k _ h (All-weaker (IsClass (set_of files)) Plain plain_is _ (kinds files rows is linkable c lt).supers))
        (λ name le lt h. one_of Plain k (0 ∷ []) h (All-cons Plain 0 [] (boot_is 0 false (omega arith) object_kind) (All-nil Plain)))
        (λ h. absurd (false≢true h));
    superinterfaces = λ c k.
        class_cases files rows pools (λ (x : ClassEntry). list_any (λ j. j == k) x.superinterfaces ≡ true → Face k) c
        (λ lt h. one_of Face k _ h (All-weaker (IsInterface (set_of files)) Face face_is _ (kinds files rows is linkable c lt).superinterfaces))
        (λ name le lt h. one_of Face k (2 ∷ 4 ∷ []) h (All-cons Face 2 (4 ∷ []) (boot_is 2 true (omega arith) cloneable_kind) (All-cons Face 4 [] (boot_is 4 true (omega arith) serializable_kind) (All-nil Face))))
        (λ h. absurd (false≢true h));
  }

pub knows_interfaces : (files : List LoadedClass) (p : Linked) → IsLinkable files → IsProgramOf files p → KnowsInterfaces p
knows_interfaces files p linkable is = subst KnowsInterfaces (sym is.tables) (known files is.rows p.pools is.ancestry linkable)
