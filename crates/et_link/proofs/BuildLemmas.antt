-- A program of what is known.
use Rattle.std.proofs.Common.{◌≡◌, ℕ, ◌+◌, ◌<◌, false, List, [], length, None, Some, sym, ◌∙◌, ap, subst}
use Rattle.std.specs.List.{slice_index_or}
use Rattle.et_program.specs.Indices.{number_of_name}
use Rattle.et_hierarchy.specs.Outline.{Outline, class_place}
use Rattle.et_program.specs.declared.info.MethodInfo.{MethodInfo}
use Rattle.et_program.specs.declared.info.FieldInfo.{FieldInfo}
use Rattle.et_program.specs.Loaded.{LoadedClass}
use Rattle.et_link.specs.declared.linking.reading.Declared.{Declared}
use Rattle.et_link.specs.declared.linking.classes.Known.{Known}
use Rattle.et_program.specs.Files.{set_of}
use Rattle.et_program.specs.MembersOf.{methods_of, fields_of}
use Rattle.et_program.specs.Slots.{own_slots, slots_above}
use Rattle.et_program.specs.Heads.{has_to_run, initializer_of, constants_of}
use Rattle.et_program.specs.ArrayTypes.{array_names, array_at}
use Rattle.et_link.specs.Naming.{IsIndexFrom}
use Rattle.et_link.specs.Declaring.{IsDeclared}
use Rattle.et_program.specs.ProgramOf.{class_names_of, main_of, program_with}
use Rattle.et_link.specs.Known.{heads_in}
use Rattle.et_link.specs.Refusals.{linked_by}
use Rattle.et_link.proofs.LinkingLemmas.{IsKnown, names_known, same_linked}

pub built_names : (files : List LoadedClass) (d : Declared) (x : Known) (set : List Outline) (met : List (List ℕ)) → IsDeclared files d → set ≡ d.set.items → met ≡ d.met.items → ((name : List ℕ) → number_of_name x.places name ≡ class_place set name) → x.arrays.names.items ≡ array_names (number_of_name x.places) met → x.arrays.names.items ≡ class_names_of files
built_names files d x set met declared es em place names = names_known files set (number_of_name x.places) x.arrays.names.items met (es ∙ declared.set_is) place names (em ∙ declared.met_are)

pub built : (files : List LoadedClass) (d : Declared) (x : Known) (main : ℕ) (set : List Outline) (methods : List MethodInfo) (fields : List FieldInfo) (met : List (List ℕ)) → IsDeclared files d → main_of (methods_of files) ≡ Some main
    → set ≡ d.set.items → methods ≡ d.parts.methods.items → fields ≡ d.parts.fields.items → met ≡ d.met.items
    → x.table.items ≡ d.hierarchy.table.items → x.rows.items ≡ d.hierarchy.rows.items → x.flags.items ≡ d.hierarchy.flags.items
    → ((k : ℕ) → k < length set → slice_index_or x.own.items k 0 ≡ own_slots fields k)
    → ((k : ℕ) → k < length set → slice_index_or x.above.items k 0 ≡ slots_above fields d.hierarchy.rows.items k)
    → ((k : ℕ) → slice_index_or x.needs.items k false ≡ has_to_run methods k)
    → ((k : ℕ) → k < length set → slice_index_or x.initializers.items k None ≡ initializer_of methods k)
    → ((k : ℕ) → k < length set → slice_index_or x.constants.items k [] ≡ constants_of fields k)
    → ((name : List ℕ) → number_of_name x.places name ≡ class_place set name)
    → x.arrays.names.items ≡ array_names (number_of_name x.places) met
    → IsIndexFrom (length set) x.arrays.names.items x.arrays.index
    → linked_by (heads_in x) set x.arrays.names.items d.parts.methods.items (λ k. slice_index_or x.above.items k 0) d.parts.fields.items main d.parts.pools.items ≡ program_with files d.hierarchy.rows.items d.parts.pools.items
built files d x main set methods fields met declared is_main es emt ef em table rows flags own above needs clinit constants place names index =
    let s : set ≡ set_of files = es ∙ declared.set_is in
    let n : length set ≡ length (set_of files) = ap length s in
    let m : methods ≡ methods_of files = emt ∙ declared.methods_are in
    let f : fields ≡ fields_of files = ef ∙ declared.fields_are in
    let r : x.arrays.names.items ≡ class_names_of files = built_names files d x set met declared es em place names in
    let in_set = λ (k : ℕ) (lt : k < length (set_of files)). subst (λ j. k < j) (sym n) lt in
    let base = λ (k : ℕ) (lt : k < length (set_of files)). above k (in_set k lt) ∙ ap (λ (l : List FieldInfo). slots_above l d.hierarchy.rows.items k) f in
    let known : IsKnown files d.hierarchy.rows.items (heads_in x) = record {
      table = table ∙ declared.table_is;
      rows_are = rows;
      flags = flags ∙ declared.flags_are;
      slots = λ k lt. ap (λ a. a + slice_index_or x.own.items k 0) (base k lt) ∙ ap (λ b. slots_above (fields_of files) d.hierarchy.rows.items k + b) (own k (in_set k lt) ∙ ap (λ (l : List FieldInfo). own_slots l k) f);
      needs = λ k. needs k ∙ ap (λ (l : List MethodInfo). has_to_run l k) m;
      clinit = λ k lt. clinit k (in_set k lt) ∙ ap (λ (l : List MethodInfo). initializer_of l k) m;
      constants = λ k lt. constants k (in_set k lt) ∙ ap (λ (l : List FieldInfo). constants_of l k) f;
      place = λ name. place name ∙ ap (λ (l : List Outline). class_place l name) s;
      array = λ name. index name ∙ (ap (λ j. array_at j x.arrays.names.items name) n ∙ ap (λ (l : List (List ℕ)). array_at (length (set_of files)) l name) r);
    } in
    same_linked files d.hierarchy.rows.items (heads_in x) known set x.arrays.names.items d.parts.methods.items (λ k. slice_index_or x.above.items k 0) d.parts.fields.items main d.parts.pools.items s r declared.methods_are declared.fields_are base is_main
