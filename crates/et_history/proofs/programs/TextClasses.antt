-- Strings and print streams of a program are no arrays, and System.out is a print stream.
use Rattle.std.proofs.Common.{◌≡◌, ℕ, ◌+◌, ◌<◌, ◌==◌, ◌||◌, Bool, true, false, not, List, [], length, take, Some, refl, sym, ◌∙◌, ap, subst, arith}
use mathlib.Core.Logic.{⊎_elim}
use Rattle.std.specs.Prelude.{All, codes}
use Rattle.std.specs.List.{slice_index_or, list_all}
use Rattle.std.specs.Str.{bytes_eq}
use Rattle.std.proofs.lemmas.Bool.{eqb-true, eq-eqb, or_cases, both_ways, not-true}
use Rattle.std.proofs.lemmas.List.Elements.{All-map}
use Rattle.et_pool.specs.Entries.{Constants}
use Rattle.et_hierarchy.specs.Ancestry.{Ancestry}
use Rattle.et_hierarchy.proofs.Names.{same_name}
use Rattle.et_program.specs.Entries.{ClassEntry, Linked, no_field, class_at, field_at}
use Rattle.et_program.specs.Files.{boots, set_of}
use Rattle.et_program.specs.Loaded.{LoadedClass}
use Rattle.et_program.specs.MembersOf.{numbered, fields_of, boot_fields, file_fields, file_field}
use Rattle.et_program.specs.ProgramOf.{class_names_of, program_with, IsProgramOf}
use Rattle.et_program.specs.Slots.{slots_above, slot_of_field}
use Rattle.et_program.specs.declared.info.Element.TheVariants.{NoArray}
use Rattle.et_program.specs.declared.info.FieldInfo.{FieldInfo}
use Rattle.et_program.proofs.DeclaredFields.{all_fields}
use Rattle.et_link.proofs.TabledLemmas.{length-set, length-placed}
use Rattle.et_event.specs.Errors.{class_called}
use Rattle.et_event.specs.Heap.{is_out}
use Rattle.et_event.specs.Programs.{HasTextClasses}
use Rattle.et_history.proofs.programs.BuiltIn.{IsFieldless, boot_place, of_stream, of_string, no_fields_within}
use Rattle.et_history.proofs.programs.Classes.{length_all}
use Rattle.et_history.proofs.programs.Counts.{placed_at}
use Rattle.et_history.proofs.programs.Lists.{all_pass}
use Rattle.et_history.proofs.programs.Making.{class_in, named_in, numbered_all}

abbrev system : List ℕ
system = codes "java/lang/System"

abbrev stream_type : List ℕ
stream_type = codes "Ljava/io/PrintStream;"

-- System in the table
pub system_place : boot_place system ≡ Some 13
unfolding boots
system_place = refl

pub system_within : 13 < length boots
unfolding boots
system_within = omega arith

-- its field is a print stream
abbrev is_stream_if : FieldInfo → Bool
is_stream_if f = not (f.class == 13) || bytes_eq f.descriptor stream_type

table_has_streams : (static : Bool) → list_all is_stream_if (numbered (boot_fields static) 0 boots) ≡ true
unfolding boots
table_has_streams true = refl
table_has_streams false = refl

abbrev IsStreamIf : FieldInfo → Type 0
IsStreamIf f = f.class ≡ 13 → f.descriptor ≡ stream_type

stream_by : (f : FieldInfo) → is_stream_if f ≡ true → IsStreamIf f
stream_by f h e =
    ⊎_elim
    (λ n. absurd (both_ways (f.class == 13) (not-true (f.class == 13) n) (eq-eqb f.class 13 e)))
    (λ y. same_name f.descriptor stream_type y)
    (or_cases (not (f.class == 13)) (bytes_eq f.descriptor stream_type) h)

streams_in : (files : List LoadedClass) → All IsStreamIf (fields_of files)
streams_in files =
    let many : 13 < length boots = system_within in
    all_fields IsStreamIf files
    (λ static i d lt. stream_by (slice_index_or (numbered (boot_fields static) 0 boots) i d) (all_pass is_stream_if (numbered (boot_fields static) 0 boots) (table_has_streams static) i d lt))
    (numbered_all IsStreamIf file_fields (length boots) files (λ j c le. All-map IsStreamIf (file_field c.pool.slots j) c.fields (λ i d lt e. absurd (omega arith))))

module _ (files : List LoadedClass) (rows : List Ancestry) (pools : List Constants) where
  abbrev p : Linked
  p = program_with files rows pools

  abbrev declared : ℕ → FieldInfo
  declared f = slice_index_or (fields_of files) f no_field

  out_stream : (f : ℕ) → f < length p.fields → is_out p f ≡ true → (field_at p f).descriptor ≡ stream_type
  out_stream f lt is =
      let inside : f < length (fields_of files) = subst (λ (n : ℕ). f < n) (length-placed (slots_above (fields_of files) rows) [] (fields_of files)) lt in
      let same : field_at p f ≡ record (declared f) { slot = slot_of_field (slots_above (fields_of files) rows) (take f (fields_of files)) (declared f) } = placed_at (slots_above (fields_of files) rows) [] (fields_of files) f inside in
      let class : (field_at p f).class ≡ 13 = eqb-true (field_at p f).class (class_called p system) is ∙ named_in files rows pools system 13 system_place in
      subst IsStreamIf (sym same) (streams_in files f no_field inside) class

  -- a built-in class is a class of the program, and no array
  record IsBare (name : List ℕ) : Type 0 where
    within : class_called p name < length p.classes
    bare : (class_at p (class_called p name)).info.element ≡ NoArray

  is_bare : (name : List ℕ) → IsFieldless name → IsBare name
  is_bare name x =
      let own : x.place < length boots = no_fields_within boots x.place x.fieldless in
      let within : x.place < length (set_of files) = omega (arith, own, length-set files) in
      let place : class_called p name ≡ x.place = named_in files rows pools name x.place x.found in
      let all : length p.classes ≡ length (set_of files) + length (class_names_of files) = length_all files rows pools in
      record {
        within = omega (arith, place, within, all);
        bare = subst (λ (c : ℕ). (class_at p c).info.element ≡ NoArray) (sym place) (ap (λ (c : ClassEntry). c.info.element) (class_in files rows pools x.place within));
      }

  text_classes : HasTextClasses p
  text_classes =
      let string : IsBare (codes "java/lang/String") = is_bare (codes "java/lang/String") of_string in
      let stream : IsBare (codes "java/io/PrintStream") = is_bare (codes "java/io/PrintStream") of_stream in
      record { string = string.bare; stream = stream.bare; stream_within = stream.within; out = out_stream }

pub has_text_classes : (files : List LoadedClass) (p : Linked) → IsProgramOf files p → HasTextClasses p
has_text_classes files p is = subst HasTextClasses (sym is.tables) (text_classes files is.rows p.pools)
