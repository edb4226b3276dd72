-- An ExceptionInInitializerError of a linked program has a slot for its cause, as each Throwable has.
use Rattle.std.proofs.Common.{◌≡◌, ℕ, ◌+◌, ◌<◌, ◌==◌, ◌||◌, true, List, ◌∷◌, length, map, Option, Some, refl, sym, ◌∙◌, ap, subst, arith}
use Rattle.std.specs.Prelude.{codes}
use Rattle.std.specs.List.{list_any, slice_index_or}
use Rattle.std.specs.Option.{option_and_then}
use Rattle.std.proofs.lemmas.List.{length-append, length-map}
use Rattle.et_pool.specs.Entries.{Constants}
use Rattle.et_hierarchy.specs.Ancestry.{Ancestry, IsAncestry, ancestry_at, supers_over}
use Rattle.et_hierarchy.specs.Links.{LinkEntry, links, links_of}
use Rattle.et_hierarchy.specs.Outline.{class_place}
use Rattle.et_program.specs.BootClasses.{no_boot_class}
use Rattle.et_program.specs.Entries.{ClassEntry, Linked, class_at}
use Rattle.et_program.specs.Files.{boot_outline, boots, file_outline, set_of}
use Rattle.et_program.specs.Loaded.{LoadedClass}
use Rattle.et_program.specs.Members.{is_above, is_subclass}
use Rattle.et_program.specs.ProgramOf.{IsProgramOf, program_with}
use Rattle.et_program.proofs.Standing.{place_in_set}
use Rattle.et_event.specs.Errors.{class_called}
use Rattle.et_event.specs.Programs.{KeepsFree}
use Rattle.et_event.specs.Runnable.{IsRunnable}
use Rattle.et_event.specs.declared.errors.GuestError.TheVariants.{ExceptionInInitializerError}
use Rattle.et_history.proofs.programs.BuiltIn.{boot_place}
use Rattle.et_history.proofs.programs.Making.{class_in, named_in}
use Rattle.et_history.proofs.programs.PlacesAbove.{link_at}
use Rattle.et_history.specs.steps.Writes.{HasCause}

-- THE TABLE: the superclass of class k is class s, of this name
record IsRightBelow (k s : ℕ) (name : List ℕ) : Type 0 where
  within : k < length boots
  superclass : (slice_index_or boots k no_boot_class).super_name ≡ Some name
  place : boot_place name ≡ Some s

abbrev error : List ℕ
error = codes "java/lang/ExceptionInInitializerError"

abbrev throwable : List ℕ
throwable = codes "java/lang/Throwable"

error_is : IsRightBelow 35 31 (codes "java/lang/LinkageError")
unfolding boots
error_is = record { within = omega arith; superclass = refl; place = refl }

linkage_is : IsRightBelow 31 15 (codes "java/lang/Error")
unfolding boots
linkage_is = record { within = omega arith; superclass = refl; place = refl }

over_is : IsRightBelow 15 10 throwable
unfolding boots
over_is = record { within = omega arith; superclass = refl; place = refl }

error_place : boot_place error ≡ Some 35
unfolding boots
error_place = refl

module _ (files : List LoadedClass) (rows : List Ancestry) (pools : List Constants) (is : IsAncestry (links (set_of files)) rows) where
  abbrev p : Linked
  p = program_with files rows pools

  abbrev supers : ℕ → List ℕ
  supers k = (ancestry_at rows k).supers

  many : length (set_of files) ≡ length boots + length files
  many = omega (arith, length-append (map boot_outline boots) (map file_outline files), length-map boots boot_outline, length-map files file_outline)

  right_below : (k s : ℕ) (name : List ℕ) → IsRightBelow k s name → supers k ≡ s ∷ supers s
  right_below k s name h =
      let n : length (set_of files) ≡ length boots + length files = many in
      let m : length (links (set_of files)) ≡ length (set_of files) = length-map (set_of files) (links_of (set_of files)) in
      let within = h.within in
      ap (λ (r : Ancestry). r.supers) (is.row k (omega (arith, n, m, within)))
      ∙ (ap (λ (l : LinkEntry). supers_over rows l.above) (link_at files k h.within)
      ∙ (ap (λ (o : Option (List ℕ)). supers_over rows (option_and_then (class_place (set_of files)) o)) h.superclass ∙ ap (λ (o : Option ℕ). supers_over rows o) (place_in_set files name s h.place)))

  above_error : supers 35 ≡ 31 ∷ 15 ∷ 10 ∷ supers 10
  above_error =
      right_below 35 31 (codes "java/lang/LinkageError") error_is
      ∙ (ap (λ (ks : List ℕ). 31 ∷ ks) (right_below 31 15 (codes "java/lang/Error") linkage_is) ∙ ap (λ (ks : List ℕ). 31 ∷ 15 ∷ ks) (right_below 15 10 throwable over_is))

  is_throwable : is_subclass p 35 10 ≡ true
  is_throwable =
      let n : length (set_of files) ≡ length boots + length files = many in
      let within = error_is.within in
      let all : (class_at p 35).supers ≡ 31 ∷ 15 ∷ 10 ∷ supers 10 = ap (λ (x : ClassEntry). x.supers) (class_in files rows pools 35 (omega (arith, n, within))) ∙ above_error in
      ap (λ (ks : List ℕ). (35 == 10) || (list_any (λ k. k == 10) ks || is_above p 10 35)) all

  cause_of : IsRunnable p → HasCause p
  cause_of may =
      let place : class_called p error ≡ 35 = named_in files rows pools error 35 error_place in
      let called : class_called p throwable ≡ 10 = named_in files rows pools throwable 10 over_is.place in
      let lt : 35 < length p.classes = subst (λ (c : ℕ). c < length p.classes) place (may.makes.error ExceptionInInitializerError).class in
      let k : KeepsFree p 35 2 = may.machine_slots.throwables 35 lt (subst (λ (t : ℕ). is_subclass p 35 t ≡ true) (sym called) is_throwable) in
      let room = k.room in
      subst (λ (c : ℕ). 1 < (class_at p c).info.slots) (sym place) (omega (arith, room))

pub has_cause : (files : List LoadedClass) (p : Linked) → IsProgramOf files p → IsRunnable p → HasCause p
has_cause files p is may = subst (λ (z : Linked). HasCause z) (sym is.tables) (cause_of files is.rows p.pools is.ancestry (subst (λ (z : Linked). IsRunnable z) is.tables may))
