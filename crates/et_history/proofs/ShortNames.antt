-- The names of a linked program are short: those of class files have less than 2^16 bytes, and those of array classes 3 more at most.
use Rattle.std.proofs.Common.{◌≡◌, ℕ, ◌+◌, ◌-◌, ◌<◌, ◌^◌, ◌&&◌, Bool, true, false, List, [], ◌∷◌, ◌++◌, length, map, Option, None, Some, refl, sym, subst, inl, inr, arith, length-append}
use Rattle.std.specs.Prelude.{All, codes, if◌then◌else◌, nat_lt}
use Rattle.std.specs.List.{list_all, slice_index_or}
use Rattle.std.proofs.lemmas.Bool.{and_parts, cases_lt, ltb-true}
use Rattle.std.proofs.lemmas.List.Elements.{All-append, All-map}
use Rattle.et_text.specs.Ranges.{IsShort}
use Rattle.et_pool.specs.Descriptors.{is_array}
use Rattle.et_pool.specs.Looks.{class_name_at, slot_at, utf8_at}
use Rattle.et_class.specs.Layout.{ClassOf}
use Rattle.et_class.specs.Spelling.{IsClassSpelled}
use Rattle.et_class.proofs.Respelled.{class_spelled}
use Rattle.et_hierarchy.specs.Outline.{Outline, no_outline}
use Rattle.et_program.specs.ArrayTypes.{array_over}
use Rattle.et_program.specs.BootClasses.{BootClassOf, BootMethodOf}
use Rattle.et_program.specs.declared.info.MethodInfo.{MethodInfo}
use Rattle.et_program.specs.Entries.{ClassEntry, Linked, class_at, no_method}
use Rattle.et_program.specs.Files.{boots, boot_outline, file_outline, or_empty, set_of}
use Rattle.et_program.specs.Linking.{IsLinked, IsOfFile}
use Rattle.et_program.specs.Loaded.{LoadedClass, loaded_class}
use Rattle.et_program.specs.MembersOf.{numbered, boot_method, boot_methods, file_method, file_methods, methods_of}
use Rattle.et_program.specs.ProgramOf.{class_names_of, program_with}
use Rattle.et_history.proofs.programs.Classes.{array_in, length_all}
use Rattle.et_history.proofs.programs.Lists.{all_numbered}
use Rattle.et_history.proofs.programs.Making.{class_in}
use Rattle.et_history.specs.steps.Telling.{names_of_program}
use Rattle.et_history.proofs.PoolWords.{AreTexts, class_texts, each_passes, pool_texts}
use Rattle.et_history.proofs.ArrayWords.{array_texts}

-- TEXTS of pools

abbrev IsBrief : List ℕ → Type 0
IsBrief name = length name < 2 ^ 16

short_of : (name : List ℕ) → IsBrief name → IsShort name
short_of name h = omega (arith, h)

short_or_empty : (o : Option (List ℕ)) → ((name : List ℕ) → o ≡ Some name → IsBrief name) → IsShort (or_empty o)
short_or_empty None h = omega arith
short_or_empty (Some name) h = short_of name (h name refl)

abbrev HasBriefTexts : LoadedClass → Type 0
HasBriefTexts c = AreTexts IsBrief c.pool.slots

file_brief : (c : ClassOf) → IsOfFile c → HasBriefTexts (loaded_class c)
file_brief c file =
    let spelled : IsClassSpelled file.bytes c = class_spelled file.bytes c file.are_bytes file.is.read in
    pool_texts IsBrief (λ bytes h. h.1) c.slots spelled.can_be.slots

-- ARRAY CLASSES

over_short : (name : List ℕ) → IsBrief name → IsShort (array_over name)
over_short name h = by (is_array name)
  where
    by : (b : Bool) → IsShort (if b then 91 ∷ name else 91 ∷ 76 ∷ (name ++ 59 ∷ []))
    by true = omega (arith, h)
    by false = let e = length-append name (59 ∷ []) in omega (arith, e, h)

arrays_short : (files : List LoadedClass) → All HasBriefTexts files → All IsShort (class_names_of files)
arrays_short files texts =
    array_texts IsBrief IsShort
    (record { named = short_of; over = over_short; base = λ kind. omega arith; arguments = ltb-true (length (codes "[Ljava/lang/String;")) (2 ^ 32) refl; element = λ a rest h. omega (arith, h) })
    files texts

-- METHODS

-- a name and a descriptor that are short
record IsShortMethod (m : MethodInfo) : Type 0 where
  name : IsShort m.name
  descriptor : IsShort m.descriptor

abbrev is_short : List ℕ → Bool
is_short name = nat_lt (length name) (2 ^ 32)

abbrev is_short_method : BootMethodOf → Bool
is_short_method m = is_short m.name && is_short m.descriptor

boot_methods_pass : list_all (λ (c : BootClassOf). list_all is_short_method c.methods) boots ≡ true
unfolding boots
boot_methods_pass = refl

boot_short : (k : ℕ) (m : BootMethodOf) → is_short_method m ≡ true → IsShortMethod (boot_method k m)
boot_short k m h =
    let parts = and_parts (is_short m.name) (is_short m.descriptor) h in
    record { name = ltb-true (length m.name) (2 ^ 32) parts.0; descriptor = ltb-true (length m.descriptor) (2 ^ 32) parts.1 }

abbrev HasShortMethods : BootClassOf → Type 0
HasShortMethods c = (k : ℕ) → All IsShortMethod (boot_methods k c)

boot_methods_short : All HasShortMethods boots
boot_methods_short =
    each_passes (λ (c : BootClassOf). list_all is_short_method c.methods) HasShortMethods
    (λ c h k. All-map IsShortMethod (boot_method k) c.methods (each_passes is_short_method (λ m. IsShortMethod (boot_method k m)) (boot_short k) c.methods h)) boots boot_methods_pass

methods_short : (files : List LoadedClass) → All HasBriefTexts files → All IsShortMethod (methods_of files)
methods_short files texts =
    All-append IsShortMethod (numbered boot_methods 0 boots) (numbered file_methods (length boots) files)
    (all_numbered IsShortMethod boot_methods 0 boots (λ i c lt e. subst HasShortMethods e (boot_methods_short i c lt) (0 + i)))
    (all_numbered IsShortMethod file_methods (length boots) files (λ i c lt e.
    let brief : HasBriefTexts c = subst HasBriefTexts e (texts i c lt) in
    All-map IsShortMethod (file_method c.pool.slots (length boots + i)) c.methods
    (λ j d l. record { name = short_or_empty (utf8_at c.pool.slots _) (brief _); descriptor = short_or_empty (utf8_at c.pool.slots _) (brief _) })))

-- CLASSES

abbrev is_short_class : BootClassOf → Bool
is_short_class c = is_short c.name

boots_pass : list_all is_short_class boots ≡ true
unfolding boots
boots_pass = refl

abbrev IsShortOutline : Outline → Type 0
IsShortOutline o = IsShort o.name

file_short : (c : LoadedClass) → HasBriefTexts c → IsShortOutline (file_outline c)
file_short c brief = short_or_empty (class_name_at c.pool.slots c.this) (class_texts IsBrief c.pool.slots brief (slot_at c.pool.slots c.this))

set_short : (files : List LoadedClass) → All HasBriefTexts files → All IsShortOutline (set_of files)
set_short files texts =
    All-append IsShortOutline (map boot_outline boots) (map file_outline files)
    (All-map IsShortOutline boot_outline boots (each_passes is_short_class (λ (c : BootClassOf). IsShort c.name) (λ c h. ltb-true (length c.name) (2 ^ 32) h) boots boots_pass))
    (All-map IsShortOutline file_outline files (λ i d lt. file_short (slice_index_or files i d) (texts i d lt)))

-- THE PROGRAM
module _ (p : Linked) (linked : IsLinked p) where
  abbrev files : List LoadedClass
  files = map loaded_class linked.classes

  texts : All HasBriefTexts files
  texts = All-map HasBriefTexts loaded_class linked.classes (λ i d lt. file_brief _ (linked.of_files i d lt))

  abbrev whole : Linked
  whole = program_with files linked.program.rows p.pools

  classes_are : (c : ℕ) → c < length whole.classes → IsShort (class_at whole c).info.name
  classes_are c within =
      elim (cases_lt c (length (set_of files))) [
        | inl lt ↦ subst (λ (x : ClassEntry). IsShort x.info.name) (sym (class_in files linked.program.rows p.pools c lt)) (set_short files texts c no_outline lt)
        | inr le ↦
            let all = length_all files linked.program.rows p.pools in
            let inside : c - length (set_of files) < length (class_names_of files) = omega (arith, le, within, all) in
            subst (λ (x : ClassEntry). IsShort x.info.name) (sym (array_in files linked.program.rows p.pools c le within)) (arrays_short files texts (c - length (set_of files)) [] inside)
      ]

  pub class_names_short : (c : ℕ) → c < length p.classes → IsShort ((names_of_program p).class_name c)
  class_names_short = subst (λ (q : Linked). (c : ℕ) → c < length q.classes → IsShort ((names_of_program q).class_name c)) (sym linked.program.tables) classes_are

  methods_are : (m : ℕ) → m < length p.methods → IsShortMethod (slice_index_or p.methods m no_method)
  methods_are =
      subst (λ (q : Linked). (m : ℕ) → m < length q.methods → IsShortMethod (slice_index_or q.methods m no_method)) (sym linked.program.tables)
      (λ m lt. methods_short files texts m no_method lt)

  pub method_names_short : (m : ℕ) → m < length p.methods → IsShort ((names_of_program p).method_name m)
  method_names_short m lt = (methods_are m lt).name

  pub descriptors_short : (m : ℕ) → m < length p.methods → IsShort ((names_of_program p).method_descriptor m)
  descriptors_short m lt = (methods_are m lt).descriptor
