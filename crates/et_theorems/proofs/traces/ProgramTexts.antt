-- The names of the classes and methods of a linked program are texts that a line can tell.
use Rattle.std.proofs.Common.{◌≡◌, ℕ, ◌+◌, ◌-◌, ◌<◌, ◌&&◌, Bool, true, List, [], ◌∷◌, length, map, Option, None, Some, refl, sym, subst, inl, inr, arith}
use Rattle.std.specs.Prelude.{All, nat_lt}
use Rattle.std.specs.List.{list_all, slice_index_or}
use Rattle.std.proofs.lemmas.Bool.{and_parts, cases_lt, false≢true, ltb-true}
use Rattle.std.proofs.lemmas.List.Elements.{All-append, All-map}
use Rattle.et_text.specs.Ranges.{IsText}
use Rattle.et_pool.specs.Descriptors.{is_array}
use Rattle.et_pool.specs.Entries.{Constants}
use Rattle.et_pool.specs.Looks.{class_name_at, slot_at}
use Rattle.et_class.specs.Names.{is_plain_name}
use Rattle.et_hierarchy.specs.Ancestry.{Ancestry}
use Rattle.et_hierarchy.specs.Outline.{Outline, no_outline, class_place}
use Rattle.et_program.specs.ArrayTypes.{arrays_met}
use Rattle.et_program.specs.BootClasses.{BootClassOf, BootMethodOf}
use Rattle.et_program.specs.declared.info.MethodInfo.{MethodInfo}
use Rattle.et_program.specs.Entries.{ClassEntry, class_at}
use Rattle.et_program.specs.Files.{boots, boot_outline, file_outline, or_empty, set_of}
use Rattle.et_program.specs.Loaded.{LoadedClass}
use Rattle.et_program.specs.MembersOf.{numbered, boot_method, boot_methods, file_method, file_methods, methods_of}
use Rattle.et_program.specs.ProgramOf.{class_names_of, program_with}
use Rattle.et_history.specs.programs.ClassNames.{HasClassName}
use Rattle.et_history.proofs.programs.ArrayNames.{all_names}
use Rattle.et_history.proofs.programs.Classes.{array_in, length_all}
use Rattle.et_history.proofs.programs.Lists.{all_numbered}
use Rattle.et_history.proofs.programs.Making.{class_in}
use Rattle.et_history.proofs.PoolWords.{class_texts, each_passes}
use Rattle.et_theorems.proofs.traces.PoolTexts.{AreSmall}
use Rattle.et_theorems.proofs.traces.FileNames.{HasMemberTexts, HasTexts}
use Rattle.et_theorems.proofs.traces.ArrayTexts.{arrays_small}

-- TEXTS that are written down

abbrev is_text : List ℕ → Bool
is_text name = nat_lt 0 (length name) && list_all (λ b. nat_lt b 256) name

text_by : (name : List ℕ) → is_text name ≡ true → IsText name
text_by name h =
    let parts = and_parts (nat_lt 0 (length name)) (list_all (λ b. nat_lt b 256) name) h in
    (ltb-true 0 (length name) parts.0, each_passes (λ b. nat_lt b 256) (λ b. b < 256) (λ b k. ltb-true b 256 k) name parts.1)

-- METHODS

-- a name and a descriptor that a line can tell
pub record HasMethodTexts (m : MethodInfo) : Type 0 where
  pub name : IsText m.name
  pub descriptor : IsText m.descriptor

abbrev has_method_texts : BootMethodOf → Bool
has_method_texts m = is_text m.name && is_text m.descriptor

boots_told : list_all (λ (c : BootClassOf). list_all has_method_texts c.methods) boots ≡ true
unfolding boots
boots_told = refl

boot_told : (k : ℕ) (m : BootMethodOf) → has_method_texts m ≡ true → HasMethodTexts (boot_method k m)
boot_told k m h =
    let parts = and_parts (is_text m.name) (is_text m.descriptor) h in
    record { name = text_by m.name parts.0; descriptor = text_by m.descriptor parts.1 }

abbrev AreTold : BootClassOf → Type 0
AreTold c = (k : ℕ) → All HasMethodTexts (boot_methods k c)

boot_methods_told : All AreTold boots
boot_methods_told =
    each_passes (λ (c : BootClassOf). list_all has_method_texts c.methods) AreTold
    (λ c h k. All-map HasMethodTexts (boot_method k) c.methods (each_passes has_method_texts (λ m. HasMethodTexts (boot_method k m)) (boot_told k) c.methods h)) boots boots_told

pub methods_told : (files : List LoadedClass) → All HasTexts files → All HasMethodTexts (methods_of files)
methods_told files texts =
    All-append HasMethodTexts (numbered boot_methods 0 boots) (numbered file_methods (length boots) files)
    (all_numbered HasMethodTexts boot_methods 0 boots (λ i c lt e. subst AreTold e (boot_methods_told i c lt) (0 + i)))
    (all_numbered HasMethodTexts file_methods (length boots) files (λ i c lt e.
    All-map HasMethodTexts (file_method c.pool.slots (length boots + i)) c.methods (λ j d l. let t : HasMemberTexts c.pool.slots _ = (subst HasTexts e (texts i c lt)).methods j d l in record { name = t.name; descriptor = t.descriptor })))

-- CLASSES

abbrev has_class_text : BootClassOf → Bool
has_class_text c = is_text c.name

boots_named : list_all has_class_text boots ≡ true
unfolding boots
boots_named = refl

abbrev IsNamedOutline : Outline → Type 0
IsNamedOutline o = IsText o.name

plain_text : (o : Option (List ℕ)) → is_plain_name o ≡ true → ((name : List ℕ) → o ≡ Some name → IsText name) → IsText (or_empty o)
plain_text None h text = absurd (false≢true h)
plain_text (Some name) h text = text name refl

file_named : (c : LoadedClass) → HasTexts c → HasClassName c → IsNamedOutline (file_outline c)
file_named c texts named = plain_text (class_name_at c.pool.slots c.this) named (λ name e. (texts.classes c.this name e, class_texts AreSmall c.pool.slots texts.small (slot_at c.pool.slots c.this) name e))

set_named : (files : List LoadedClass) → All HasTexts files → All HasClassName files → All IsNamedOutline (set_of files)
set_named files texts named =
    All-append IsNamedOutline (map boot_outline boots) (map file_outline files)
    (All-map IsNamedOutline boot_outline boots (each_passes has_class_text (λ (c : BootClassOf). IsText c.name) (λ c h. text_by c.name h) boots boots_named))
    (All-map IsNamedOutline file_outline files (λ i d lt. file_named _ (texts i d lt) (named i d lt)))

array_some : (name : List ℕ) → is_array name ≡ true → 0 < length name
array_some [] h = absurd (false≢true h)
array_some (a ∷ rest) h = omega arith

pub classes_told : (files : List LoadedClass) (rows : List Ancestry) (pools : List Constants) → All HasTexts files → All HasClassName files → (c : ℕ) → c < length (program_with files rows pools).classes → IsText (class_at (program_with files rows pools) c).info.name
classes_told files rows pools texts named c within =
    elim (cases_lt c (length (set_of files))) [
      | inl lt ↦ subst (λ (x : ClassEntry). IsText x.info.name) (sym (class_in files rows pools c lt)) (set_named files texts named c no_outline lt)
      | inr le ↦
          let all = length_all files rows pools in
          let i : ℕ = c - length (set_of files) in
          let inside : i < length (class_names_of files) = omega (arith, le, within, all) in
          let name : List ℕ = slice_index_or (class_names_of files) i [] in
          let some : 0 < length name = array_some name (all_names (class_place (set_of files)) (arrays_met files) i [] inside).array in
          subst (λ (x : ClassEntry). IsText x.info.name) (sym (array_in files rows pools c le within)) (some, arrays_small files texts i [] inside)
    ]
