-- What holds of each text of the pools of a program holds of the names of its array classes.
use Rattle.std.proofs.Common.{◌≡◌, ℕ, ◌==◌, Bool, true, false, List, [], ◌∷◌, ◌++◌, filter, Option, None, Some, Result, Ok, Err, refl}
use Rattle.std.specs.Prelude.{All, bytes_eq, codes, if◌then◌else◌, option_map, flat_map, filter_map}
use Rattle.std.specs.List.{cons_option, list_any, slice_index_or}
use Rattle.std.specs.Option.{option_to_list}
use Rattle.std.proofs.lemmas.List.Elements.{All-nil, All-cons, All-head, All-tail, All-append, All-filter, All-push}
use Rattle.std.proofs.lemmas.Option.{none-some}
use Rattle.et_history.proofs.soundness.Outcomes.{if_case}
use Rattle.et_pool.specs.declared.tags.TheConstants.{CLASS}
use Rattle.et_pool.specs.Descriptors.{is_array}
use Rattle.et_pool.specs.Entries.{Item}
use Rattle.et_pool.specs.Looks.{slot_at, named_by, class_name_at}
use Rattle.et_class.specs.Bodies.{Body}
use Rattle.et_class.specs.Codes.{index_of}
use Rattle.et_class.specs.Decoding.{instruction_at}
use Rattle.et_class.specs.Instructions.CodeFault.{CodeFault}
use Rattle.et_class.specs.Instructions.Instr.{Instr}
use Rattle.et_class.specs.Opcodes.TheConstants.{NEWARRAY, ANEWARRAY}
use Rattle.et_class.specs.Starts.{is_start}
use Rattle.et_hierarchy.specs.Outline.{class_place}
use Rattle.et_program.specs.ArrayTypes.{base_letter, array_over, if_array, named_arrays, made_by, made_if, made_in_method, file_arrays, arrays_met, is_type_known, with_element_types, name_added, names_added}
use Rattle.et_program.specs.Files.{set_of}
use Rattle.et_program.specs.Loaded.{LoadedMember, LoadedClass}
use Rattle.et_program.specs.ProgramOf.{class_names_of}
use Rattle.et_history.proofs.programs.Making.{numbered_all}
use Rattle.et_history.proofs.PoolWords.{AreTexts, AreNames, class_texts}

-- what holds of the names of array classes, where Q holds of the texts of pools
pub record IsOfArrays (Q P : List ℕ → Type 0) : Type 0 where
  pub named : (name : List ℕ) → Q name → P name
  pub over : (name : List ℕ) → Q name → P (array_over name)
  pub base : (kind : ℕ) → P (91 ∷ base_letter kind ∷ [])
  pub arguments : P (codes "[Ljava/lang/String;")
  -- the name without its first byte
  pub element : (a : ℕ) (rest : List ℕ) → P (a ∷ rest) → P rest

module _ (Q P : List ℕ → Type 0) (is : IsOfArrays Q P) where
  abbrev AreAll : List (List ℕ) → Type 0
  AreAll names = All P names

  none : AreAll []
  none = All-nil P

  one : (name : List ℕ) → P name → AreAll (name ∷ [])
  one name h = All-cons P name [] h none

  flat : {X : Type 0} (f : X → List (List ℕ)) (xs : List X) → All (λ x. AreAll (f x)) xs → AreAll (flat_map f xs)
  flat f [] h = none
  flat f (x ∷ xs) h = All-append P (f x) (flat_map f xs) (All-head (λ z. AreAll (f z)) x xs h) (flat f xs (All-tail (λ z. AreAll (f z)) x xs h))

  -- WHAT A POOL NAMES AND CODE MAKES
  module _ (slots : List (Option Item)) (names : AreNames Q slots) where
    if_named : (o : Option (List ℕ)) → ((name : List ℕ) → o ≡ Some name → Q name) → (name : List ℕ) → if_array o ≡ Some name → P name
    if_named None h name e = absurd (none-some name e)
    if_named (Some x) h name e = is.named name (by (is_array x) e)
      where
        by : (b : Bool) → (if b then Some x else None) ≡ Some name → Q name
        by true k = h name k
        by false k = absurd (none-some name k)

    cons : (o : Option (List ℕ)) (rest : List (List ℕ)) → ((name : List ℕ) → o ≡ Some name → P name) → AreAll rest → AreAll (cons_option o rest)
    cons None rest h all = all
    cons (Some x) rest h all = All-cons P x rest (h x refl) all

    all_named : (ss : List (Option Item)) → AreAll (filter_map (λ s. if_array (named_by slots CLASS s)) ss)
    all_named [] = none
    all_named (s ∷ ss) = cons (if_array (named_by slots CLASS s)) (filter_map (λ t. if_array (named_by slots CLASS t)) ss) (λ name e. if_named (named_by slots CLASS s) (names s) name e) (all_named ss)

    over_class : (o : Option (List ℕ)) → ((name : List ℕ) → o ≡ Some name → Q name) → AreAll (option_to_list (option_map array_over o))
    over_class None h = none
    over_class (Some x) h = one (array_over x) (is.over x (h x refl))

    all_made : (i : Instr) → AreAll (made_by slots i)
    all_made i =
        let base : List (List ℕ) = (91 ∷ base_letter (index_of i.first) ∷ []) ∷ [] in
        let over : List (List ℕ) = option_to_list (option_map array_over (class_name_at slots (index_of i.first))) in
        if_case AreAll (i.opcode == NEWARRAY) base (if i.opcode == ANEWARRAY then over else [])
        (one (91 ∷ base_letter (index_of i.first) ∷ []) (is.base (index_of i.first)))
        (if_case AreAll (i.opcode == ANEWARRAY) over [] (over_class (class_name_at slots (index_of i.first)) (names (slot_at slots (index_of i.first)))) none)

    if_made : (x : Result (Instr × ℕ) CodeFault) → AreAll (made_if slots x)
    if_made (Ok x) = all_made x.0
    if_made (Err f) = none

    in_body : (o : Option Body) → AreAll (made_in_method slots o)
    in_body None = none
    in_body (Some b) =
        numbered_all P (λ pc a. if is_start b.code pc then made_if slots (instruction_at b.code pc) else []) 0 b.code
        (λ pc a le. if_case AreAll (is_start b.code pc) (made_if slots (instruction_at b.code pc)) [] (if_made (instruction_at b.code pc)) none)

  in_file : (c : LoadedClass) → AreTexts Q c.pool.slots → AreAll (file_arrays c)
  in_file c texts =
      let names : AreNames Q c.pool.slots = class_texts Q c.pool.slots texts in
      All-append P (named_arrays c.pool.slots) (flat_map (λ (m : LoadedMember). made_in_method c.pool.slots m.code) c.methods) (all_named c.pool.slots names c.pool.slots)
      (flat (λ (m : LoadedMember). made_in_method c.pool.slots m.code) c.methods (λ i d lt. in_body c.pool.slots names _))

  -- EACH ONCE, with the types of its elements

  elements : (name : List ℕ) → P name → AreAll (with_element_types name)
  elements [] h = none
  elements (a ∷ rest) h =
      if_case AreAll (a == 91) ((a ∷ rest) ∷ with_element_types rest) []
      (All-cons P (a ∷ rest) (with_element_types rest) h (elements rest (is.element a rest h))) none

  added : (seen names : List (List ℕ)) → AreAll seen → AreAll names → AreAll (names_added seen names)
  added seen [] h g = h
  added seen (x ∷ names) h g =
      added (name_added seen x) names
      (if_case AreAll (list_any (λ y. bytes_eq x y) seen) seen (seen ++ x ∷ []) h (All-push P seen x h (All-head P x names g))) (All-tail P x names g)

  pub array_texts : (files : List LoadedClass) → All (λ (c : LoadedClass). AreTexts Q c.pool.slots) files → AreAll (class_names_of files)
  array_texts files texts =
      let met : AreAll (arrays_met files) = All-cons P (codes "[Ljava/lang/String;") (flat_map file_arrays files) is.arguments (flat file_arrays files (λ i d lt. in_file (slice_index_or files i d) (texts i d lt))) in
      let known : AreAll (filter (is_type_known (class_place (set_of files))) (arrays_met files)) = All-filter (is_type_known (class_place (set_of files))) P (arrays_met files) met in
      added [] (flat_map with_element_types (filter (is_type_known (class_place (set_of files))) (arrays_met files))) none
      (flat with_element_types (filter (is_type_known (class_place (set_of files))) (arrays_met files)) (λ i d lt. elements _ (known i d lt)))
