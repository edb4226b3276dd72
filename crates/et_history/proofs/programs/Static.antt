-- The fields of interfaces are static (JVMS 4.5).
use Rattle.std.proofs.Common.{◌≡◌, ℕ, ◌+◌, ◌<◌, Bool, true, false, not, ◌||◌, List, [], ◌∷◌, length, map, refl, sym, ◌∙◌, ap, subst, arith}
use mathlib.Core.Logic.{⊎_elim}
use Rattle.std.specs.Prelude.{All}
use Rattle.std.specs.List.{slice_index_or, list_all, filter}
use Rattle.std.proofs.lemmas.Bool.{cases_Bool, and_parts, both_ways}
use Rattle.std.proofs.lemmas.List.{length-map, get_or-append-add}
use Rattle.std.proofs.lemmas.List.Elements.{All-nil, All-cons, All-map}
use Rattle.et_boot.specs.Classes.{BootClassOf, no_boot_class}
use Rattle.et_class.specs.Names.{has}
use Rattle.et_class.specs.declared.flags.TheConstants.{STATIC, INTERFACE}
use Rattle.et_pool.specs.Entries.{Constants}
use Rattle.et_hierarchy.specs.Outline.{Outline, outline_at, no_outline}
use Rattle.et_hierarchy.specs.Ancestry.{Ancestry}
use Rattle.et_program.specs.declared.info.FieldInfo.{FieldInfo}
use Rattle.et_program.specs.Entries.{Linked, no_field, field_at, is_interface}
use Rattle.et_program.specs.Members.{is_above}
use Rattle.et_program.specs.Files.{boots, set_of, boot_outline, file_outline}
use Rattle.et_program.specs.Loaded.{LoadedClass}
use Rattle.et_program.specs.LinkFaults.{IsLinkable}
use Rattle.et_program.specs.MembersOf.{numbered, fields_of, boot_field, boot_fields, file_field, file_fields, is_boot_static}
use Rattle.et_program.proofs.DeclaredFields.{all_fields}
use Rattle.et_program.specs.ProgramOf.{program_with, IsProgramOf}
use Rattle.et_program.specs.Slots.{slots_above}
use Rattle.et_link.proofs.TabledLemmas.{length-placed, fields_within}
use Rattle.et_history.proofs.programs.Interfaces.{HaveStaticFields}
use Rattle.et_history.proofs.programs.Counts.{placed_at}
use Rattle.et_history.proofs.programs.Places.{at_map, at_mapped}
use Rattle.et_history.specs.programs.Fields.{HasStaticFields}
use Rattle.et_history.proofs.programs.Above.{interface_is, knows_interfaces}
use Rattle.et_history.proofs.programs.Lists.{all_numbered}
use Rattle.et_history.proofs.programs.Instructions.{good_if}

-- class k is an interface only if the field is static
abbrev IsWell : List Outline → FieldInfo → Type 0
IsWell set f = (outline_at set f.class).is_interface ≡ true → has f.flags STATIC ≡ true

-- OF THE BUILT-IN CLASSES

abbrev is_well : List BootClassOf → FieldInfo → Bool
is_well table f = not (has (slice_index_or table f.class no_boot_class).flags INTERFACE) || has f.flags STATIC

table_well : (static : Bool) → list_all (is_well boots) (numbered (boot_fields static) 0 boots) ≡ true
unfolding boots
table_well true = refl
table_well false = refl

all_well : (table : List BootClassOf) (fs : List FieldInfo) → list_all (is_well table) fs ≡ true → All (λ f. is_well table f ≡ true) fs
all_well table [] h = All-nil (λ f. is_well table f ≡ true)
all_well table (f ∷ fs) h =
    let parts = and_parts (is_well table f) (list_all (is_well table) fs) h in
    All-cons (λ g. is_well table g ≡ true) f fs parts.0 (all_well table fs parts.1)

module _ (files : List LoadedClass) (static : All HasStaticFields files) where
  -- the class of file i
  pub file_at : (i : ℕ) (c : LoadedClass) → i < length files → slice_index_or files i c ≡ c → outline_at (set_of files) (length boots + i) ≡ file_outline c
  file_at i c lt e =
      ap (λ (n : ℕ). outline_at (set_of files) (n + i)) (sym (length-map boots boot_outline))
      ∙ (get_or-append-add (map boot_outline boots) (map file_outline files) i no_outline ∙ (at_mapped file_outline files i c no_outline lt ∙ ap file_outline e))

  boot_well : (f : FieldInfo) → f.class < length boots → is_well boots f ≡ true → IsWell (set_of files) f
  boot_well f lt h e =
      let o : outline_at (set_of files) f.class ≡ boot_outline (slice_index_or boots f.class no_boot_class) = at_map boot_outline boots (map file_outline files) f.class no_boot_class no_outline lt in
      good_if (has (slice_index_or boots f.class no_boot_class).flags INTERFACE) (has f.flags STATIC) h (sym (ap (λ (x : Outline). x.is_interface) o) ∙ e)

  boots_within : (static : Bool) → All (λ (f : FieldInfo). f.class < length boots) (numbered (boot_fields static) 0 boots)
  boots_within static =
      all_numbered (λ (f : FieldInfo). f.class < length boots) (boot_fields static) 0 boots
      (λ i c lt e. All-map (λ (f : FieldInfo). f.class < length boots) (boot_field (0 + i)) (filter (is_boot_static static) c.fields) (λ j d l. omega arith))

  file_well : (i : ℕ) (c : LoadedClass) → i < length files → slice_index_or files i c ≡ c → All (IsWell (set_of files)) (file_fields (length boots + i) c)
  file_well i c lt e =
      All-map (IsWell (set_of files)) (file_field c.pool.slots (length boots + i)) c.fields
      (λ j d l face.
      let here : HasStaticFields c = subst HasStaticFields e (static i c lt) in
      here (sym (ap (λ (x : Outline). x.is_interface) (file_at i c lt e)) ∙ face) j d l)

  fields_well : All (IsWell (set_of files)) (fields_of files)
  fields_well =
      let W = IsWell (set_of files) in
      all_fields W files
      (λ static i d lt. boot_well (slice_index_or (numbered (boot_fields static) 0 boots) i d) (boots_within static i d lt) (all_well boots (numbered (boot_fields static) 0 boots) (table_well static) i d lt))
      (all_numbered W file_fields (length boots) files (λ i c lt e. file_well i c lt e))

  module _ (rows : List Ancestry) (pools : List Constants) (linkable : IsLinkable files) (is : IsProgramOf files (program_with files rows pools)) where
    abbrev p : Linked
    p = program_with files rows pools

    well_at : (f : ℕ) → f < length p.fields → (outline_at (set_of files) (field_at p f).class).is_interface ≡ true → has (field_at p f).flags STATIC ≡ true
    well_at f lt =
        let base = slots_above (fields_of files) rows in
        let inside : f < length (fields_of files) = subst (λ (n : ℕ). f < n) (length-placed base [] (fields_of files)) lt in
        subst (IsWell (set_of files)) (sym (placed_at base [] (fields_of files) f inside)) (fields_well f no_field inside)

    class_within : (f : ℕ) → f < length p.fields → (field_at p f).class < length (set_of files)
    class_within f lt =
        let base = slots_above (fields_of files) rows in
        let inside : f < length (fields_of files) = subst (λ (n : ℕ). f < n) (length-placed base [] (fields_of files)) lt in
        subst (λ (x : FieldInfo). x.class < length (set_of files)) (sym (placed_at base [] (fields_of files) f inside)) (fields_within files f no_field inside)

    have_static : HaveStaticFields p
    have_static c f lt plain =
        let q : ℕ = (field_at p f).class in
        ⊎_elim
        (λ y.
        let face : is_interface p q ≡ true = (knows_interfaces files p linkable is).superinterfaces c q y in
        let there : (outline_at (set_of files) q).is_interface ≡ true = sym (interface_is files rows pools q (class_within f lt)) ∙ face in
        absurd (both_ways (has (field_at p f).flags STATIC) plain (well_at f lt there)))
        (λ n. n)
        (cases_Bool (is_above p q c))

pub fields_static : (files : List LoadedClass) (p : Linked) → All HasStaticFields files → IsLinkable files → IsProgramOf files p → HaveStaticFields p
fields_static files p static linkable is =
    subst HaveStaticFields (sym is.tables) (have_static files static is.rows p.pools linkable (subst (IsProgramOf files) is.tables is))
