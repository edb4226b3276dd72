-- The class of the argument array is the first of the array classes of a program, and the array is sound.
use Rattle.std.proofs.Common.{◌≡◌, ℕ, suc, ◌+◌, ◌<◌, Bool, true, false, cond, ◌==◌, ◌||◌, List, [], ◌∷◌, ◌++◌, length, map, Option, None, Some, is_some, option_map, refl, sym, ◌∙◌, ap, subst, inl, arith}
use mathlib.Core.Logic.{⊎_elim}
use Rattle.std.specs.Prelude.{All, codes, unwrap_or, filter}
use Rattle.std.specs.List.{slice_index_or, position_from, list_any, flat_map}
use Rattle.std.specs.Str.{bytes_eq}
use Rattle.std.proofs.lemmas.Bool.{eqb-true, or_cases, both_ways, not-true, cases_Bool, false≢true}
use Rattle.std.proofs.lemmas.List.Elements.{All-nil, All-cons, All-map}
use Rattle.et_base.specs.declared.value.Value.{Value}
use Rattle.et_pool.specs.Entries.{Constants}
use Rattle.et_pool.specs.Looks.{class_name_at}
use Rattle.et_pool.specs.Descriptors.{is_array}
use Rattle.et_class.specs.Names.{is_plain_name}
use Rattle.et_boot.specs.Classes.{BootClassOf}
use Rattle.et_hierarchy.specs.Outline.{Outline, class_place}
use Rattle.et_hierarchy.proofs.Names.{same_name}
use Rattle.et_program.specs.declared.info.FieldInfo.{FieldInfo}
use Rattle.et_program.specs.declared.info.Element.{Element}
use Rattle.et_program.specs.declared.info.Element.TheVariants.{NoArray, Base, Class}
use Rattle.et_program.specs.declared.kind.Leaf.TheVariants as leaf
use Rattle.et_program.specs.Entries.{ClassEntry, Linked, no_class, no_field, class_at, field_at}
use Rattle.et_program.specs.Members.{class_named, is_subclass, is_above}
use Rattle.et_program.specs.Loaded.{LoadedClass}
use Rattle.et_program.specs.Files.{boots, set_of, boot_outline, file_outline, or_empty}
use Rattle.et_program.specs.MembersOf.{numbered, fields_of}
use Rattle.et_program.specs.Slots.{slots_above}
use Rattle.et_program.specs.ArrayTypes.{is_type_known, with_element_types, names_added, arrays_met, file_arrays}
use Rattle.et_program.specs.Classes.{Heads, set_class, array_class}
use Rattle.et_program.specs.ProgramOf.{heads_of, class_names_of, program_with}
use Rattle.et_hierarchy.specs.Ancestry.{Ancestry}
use Rattle.et_link.proofs.TabledLemmas.{length-classes, length-singles, fields_within}
use Rattle.et_heap.specs.Objects.{new_object}
use Rattle.et_event.specs.Sound.{IsSoundObject, slots_by, is_of_kind, kind_of_element}
use Rattle.et_state.specs.Start.{argument_class}
use Rattle.et_history.specs.programs.ClassNames.{HasClassName}
use Rattle.et_history.proofs.programs.Places.{at_behind, first_behind, first_numbered_behind, none_first, one_of}
use Rattle.et_history.proofs.programs.BuiltIn.{has_no_fields, of_string, no_boot_array, object_fieldless, cloneable_fieldless, serializable_fieldless}
use Rattle.et_program.proofs.Standing.{place_in_set}
use Rattle.et_history.proofs.programs.PlacesAbove.{NoField}
use Rattle.et_history.proofs.programs.Making.{fields_elsewhere, placed_all}

-- the type of the arguments of main
abbrev arguments : List ℕ
arguments = codes "[Ljava/lang/String;"

-- THE NAMES of the array classes begin with it

record BeginsWith (x : List ℕ) (xs : List (List ℕ)) : Type 0 where
  rest : List (List ℕ)
  is : xs ≡ x ∷ rest

keeps_first : (x : List ℕ) (seen names : List (List ℕ)) → BeginsWith x (names_added (x ∷ seen) names)
keeps_first x seen [] = record { rest = seen; is = refl }
keeps_first x seen (y ∷ ys) = by (list_any (λ z. bytes_eq y z) (x ∷ seen)) (keeps_first x seen ys) (keeps_first x (seen ++ y ∷ []) ys)
  where
    by : (b : Bool) → BeginsWith x (names_added (x ∷ seen) ys) → BeginsWith x (names_added (x ∷ (seen ++ y ∷ [])) ys) → BeginsWith x (names_added (cond b (x ∷ seen) ((x ∷ seen) ++ y ∷ [])) ys)
    by true old new = old
    by false old new = new

is_known_by : (place : List ℕ → Option ℕ) (k : ℕ) → place (codes "java/lang/String") ≡ Some k → is_type_known place arguments ≡ true
is_known_by place k h = ap (λ (o : Option ℕ). is_some (option_map (λ (c : ℕ). leaf.Class c) o)) h

names_begin : (files : List LoadedClass) → BeginsWith arguments (class_names_of files)
names_begin files =
    let place : List ℕ → Option ℕ = class_place (set_of files) in
    let others : List (List ℕ) = filter (is_type_known place) (flat_map file_arrays files) in
    let known : is_type_known place arguments ≡ true = is_known_by place of_string.place (place_in_set files (codes "java/lang/String") of_string.place of_string.found) in
    let kept : filter (is_type_known place) (arrays_met files) ≡ arguments ∷ others = ap (λ b. cond b (arguments ∷ others) others) known in
    let first : BeginsWith arguments (names_added (arguments ∷ []) (flat_map with_element_types others)) = keeps_first arguments [] (flat_map with_element_types others) in
    record { rest = first.rest; is = ap (λ (met : List (List ℕ)). names_added [] (flat_map with_element_types met)) kept ∙ first.is }

-- NO CLASS OF THE SET has this name

not_arguments : (o : Option (List ℕ)) → is_plain_name o ≡ true → bytes_eq arguments (or_empty o) ≡ false
not_arguments None h = absurd (false≢true h)
not_arguments (Some name) h =
    ⊎_elim
    (λ y.
    let array : is_array name ≡ true = sym (ap is_array (same_name arguments name y)) in
    absurd (both_ways (is_array name) (not-true (is_array name) h) array))
    (λ n. n)
    (cases_Bool (bytes_eq arguments name))

file_other : (c : LoadedClass) → HasClassName c → bytes_eq arguments (file_outline c).name ≡ false
file_other c h = not_arguments (class_name_at c.pool.slots c.this) h

none_in_set : (files : List LoadedClass) → All HasClassName files → class_place (set_of files) arguments ≡ None
none_in_set files named =
    let P = λ (o : Outline). bytes_eq arguments o.name ≡ false in
    first_behind (λ (c : BootClassOf). bytes_eq arguments c.name) (λ (o : Outline). bytes_eq arguments o.name) boot_outline (λ c. refl) 0 boots (map file_outline files) no_boot_array
    ∙ none_first (λ (o : Outline). bytes_eq arguments o.name) (0 + length boots) (map file_outline files)
    (All-map P file_outline files (λ i d lt. file_other (slice_index_or files i d) (named i d lt)))

-- ITS NUMBER

module _ (files : List LoadedClass) (rows : List Ancestry) (pools : List Constants) where
  abbrev in_set : List ClassEntry
  in_set = numbered (λ k c. set_class (heads_of files rows) k c ∷ []) 0 (set_of files)

  abbrev arrays_of : List (List ℕ) → List ClassEntry
  arrays_of names = numbered (λ k name. array_class (heads_of files rows) k name ∷ []) (length (set_of files)) names

  pub arguments_called : All HasClassName files → argument_class (program_with files rows pools) ≡ length (set_of files)
  arguments_called named =
      let is_it = λ (c : ClassEntry). bytes_eq arguments c.info.name in
      let n : ℕ = length (set_of files) in
      let behind : class_named (program_with files rows pools) arguments ≡ position_from is_it (0 + n) (arrays_of (class_names_of files)) =
      first_numbered_behind (λ (o : Outline). bytes_eq arguments o.name) is_it (λ k c. set_class (heads_of files rows) k c) (λ i c. refl) 0 (set_of files) (arrays_of (class_names_of files)) (none_in_set files named) in
      let first : position_from is_it (0 + n) (arrays_of (class_names_of files)) ≡ Some (0 + n) = ap (λ (names : List (List ℕ)). position_from is_it (0 + n) (arrays_of names)) (names_begin files).is in
      ap (λ (o : Option ℕ). unwrap_or o 0) (behind ∙ first) ∙ (let same : 0 + n ≡ n = omega arith in same)

  pub arguments_at : class_at (program_with files rows pools) (length (set_of files)) ≡ array_class (heads_of files rows) (length (set_of files)) arguments
  arguments_at =
      ap (λ (k : ℕ). slice_index_or (in_set ++ arrays_of (class_names_of files)) k no_class) (sym (length-singles (λ k c. set_class (heads_of files rows) k c) 0 (set_of files)))
      ∙ (at_behind in_set (arrays_of (class_names_of files)) no_class ∙ ap (λ (names : List (List ℕ)). slice_index_or (arrays_of names) 0 no_class) (names_begin files).is)

-- THE ARRAY

no_slots : (e : Element) → slots_by e 0 0 ≡ 0
no_slots NoArray = refl
no_slots (Base kind) = refl
no_slots (Class class) = refl

-- a field is of a class of the set, and of one that declares fields; none of them stands above an array class
pub no_field_of : (p : Linked) (n q : ℕ) → q < n → has_no_fields boots q ≡ false → All NoField (class_at p n).supers → All NoField (class_at p n).superinterfaces → is_subclass p n q ≡ true → ⊥
no_field_of p n q lt other supers interfaces h =
    ⊎_elim
    (λ e. let same : n ≡ q = eqb-true n q e in omega arith)
    (λ r.
    ⊎_elim
    (λ e. both_ways (has_no_fields boots q) other (one_of NoField q (class_at p n).supers e supers))
    (λ e. both_ways (has_no_fields boots q) other (one_of NoField q (class_at p n).superinterfaces e interfaces))
    (or_cases (list_any (λ k. k == q) (class_at p n).supers) (is_above p q n) r))
    (or_cases (n == q) (list_any (λ k. k == q) (class_at p n).supers || is_above p q n) h)

array_sound : (files : List LoadedClass) (rows : List Ancestry) (pools : List Constants) → IsSoundObject (program_with files rows pools) (new_object (length (set_of files)) 0 0)
array_sound files rows pools =
    let p : Linked = program_with files rows pools in
    let n : ℕ = length (set_of files) in
    let h : Heads = heads_of files rows in
    let total : length p.classes ≡ n + length (class_names_of files) = length-classes h (set_of files) (class_names_of files) in
    let some : length (class_names_of files) ≡ suc (length (names_begin files).rest) = ap length (names_begin files).is in
    let c : class_at p n ≡ array_class h n arguments = arguments_at files rows pools in
    let supers : All NoField (class_at p n).supers = subst (λ (x : ClassEntry). All NoField x.supers) (sym c) (All-cons NoField 0 [] object_fieldless (All-nil NoField)) in
    let interfaces : All NoField (class_at p n).superinterfaces =
    subst (λ (x : ClassEntry). All NoField x.superinterfaces) (sym c) (All-cons NoField 2 (4 ∷ []) cloneable_fieldless (All-cons NoField 4 [] serializable_fieldless (All-nil NoField))) in
    let within : All (λ (f : FieldInfo). f.class < n) p.fields = placed_all (λ k. k < n) (slots_above (fields_of files) rows) [] (fields_of files) (fields_within files) in
    let inside : n < length p.classes = omega arith in
    let slots : slots_by (class_at p n).info.element (class_at p n).info.slots 0 ≡ 0 = ap (λ (x : ClassEntry). slots_by x.info.element x.info.slots 0) c ∙ no_slots (array_class h n arguments).info.element in
    record {
      class = inside;
      slots = sym slots;
      fields = λ f l static below. absurd (no_field_of p n (field_at p f).class (within f no_field l) (fields_elsewhere files rows f no_field l) supers interfaces below);
      elements = inl (All-nil (λ (v : Value). is_of_kind (kind_of_element (class_at p n).info.element) v ≡ true));
    }

pub arguments_sound : (files : List LoadedClass) (rows : List Ancestry) (pools : List Constants) → All HasClassName files → IsSoundObject (program_with files rows pools) (new_object (argument_class (program_with files rows pools)) 0 0)
arguments_sound files rows pools named =
    subst (λ (c : ℕ). IsSoundObject (program_with files rows pools) (new_object c 0 0)) (sym (arguments_called files rows pools named)) (array_sound files rows pools)
