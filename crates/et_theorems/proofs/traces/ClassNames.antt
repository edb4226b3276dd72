-- No two classes of a linked program have one name.
use Rattle.std.proofs.Common.{◌≡◌, ℕ, ◌+◌, ◌-◌, ◌<◌, ◌≤◌, Bool, true, false, List, [], ◌∷◌, ◌++◌, length, refl, sym, ◌∙◌, ap, subst, inl, inr, arith, length-append}
use Rattle.std.specs.Prelude.{All, bytes_eq, if◌then◌else◌}
use Rattle.std.specs.List.{filter, flat_map, list_any, slice_index_or}
use Rattle.std.proofs.Math.Seq.{get_or-append_seam}
use Rattle.std.proofs.lemmas.Bool.{cases_eq, cases_lt, true≢false}
use Rattle.std.proofs.lemmas.List.{get_or_append_left}
use Rattle.std.proofs.lemmas.List.Folds.{list_any_at}
use Rattle.et_base.proofs.Lists.{same_bytes}
use Rattle.et_pool.specs.Descriptors.{is_array}
use Rattle.et_pool.specs.Entries.{Constants}
use Rattle.et_hierarchy.specs.Ancestry.{Ancestry}
use Rattle.et_hierarchy.specs.Outline.{no_outline, outline_at, class_place}
use Rattle.et_hierarchy.proofs.Names.{same_name}
use Rattle.et_program.specs.ArrayTypes.{arrays_met, is_type_known, name_added, names_added, with_element_types}
use Rattle.et_program.specs.Entries.{ClassEntry, Linked, class_at}
use Rattle.et_program.specs.Files.{set_of}
use Rattle.et_program.specs.LinkFaults.{IsLinkable}
use Rattle.et_program.specs.Loaded.{LoadedClass}
use Rattle.et_program.specs.ProgramOf.{IsProgramOf, class_names_of, program_with}
use Rattle.et_program.specs.declared.fault.LinkFaultKind.TheVariants.{Duplicate}
use Rattle.et_history.specs.programs.ClassNames.{HasClassName}
use Rattle.et_history.proofs.programs.ArrayNames.{all_names}
use Rattle.et_history.proofs.programs.Arrays.{set_plain}
use Rattle.et_history.proofs.programs.Classes.{array_in, length_all}
use Rattle.et_history.proofs.programs.Making.{class_in}

-- NAMES, EACH ONCE

abbrev AreApart : List (List ℕ) → Type 0
AreApart names = (i j : ℕ) → i < j → j < length names → slice_index_or names i [] ≡ slice_index_or names j [] → ⊥

added_apart : (seen : List (List ℕ)) (x : List ℕ) → AreApart seen → AreApart (name_added seen x)
added_apart seen x apart = by (list_any (λ y. bytes_eq x y) seen) refl
  where
    by : (b : Bool) → list_any (λ y. bytes_eq x y) seen ≡ b → AreApart (if b then seen else seen ++ x ∷ [])
    by true e = apart
    by false e = λ i j lt within same.
        let len : length (seen ++ x ∷ []) ≡ length seen + 1 = length-append seen (x ∷ []) in
        elim (cases_lt j (length seen)) [
          | inl old ↦ apart i j lt old (sym (get_or_append_left seen (x ∷ []) [] i (omega (arith, lt, old))) ∙ (same ∙ get_or_append_left seen (x ∷ []) [] j old))
          | inr new ↦
              let last : j ≡ length seen = omega (arith, new, within, len) in
              let first : i < length seen = omega (arith, lt, last) in
              let is_x : slice_index_or (seen ++ x ∷ []) j [] ≡ x = ap (λ (k : ℕ). slice_index_or (seen ++ x ∷ []) k []) last ∙ get_or-append_seam seen x [] [] in
              let is : slice_index_or seen i [] ≡ x = sym (get_or_append_left seen (x ∷ []) [] i first) ∙ (same ∙ is_x) in
              let found : bytes_eq x (slice_index_or seen i []) ≡ true = subst (λ (y : List ℕ). bytes_eq x y ≡ true) (sym is) (same_bytes x) in
              absurd (true≢false (sym (list_any_at (λ y. bytes_eq x y) seen i [] first found) ∙ e))
        ]

all_apart : (seen xs : List (List ℕ)) → AreApart seen → AreApart (names_added seen xs)
all_apart seen [] apart = apart
all_apart seen (x ∷ xs) apart = all_apart (name_added seen x) xs (added_apart seen x apart)

-- THE CLASSES
module _ (files : List LoadedClass) (rows : List Ancestry) (pools : List Constants) (named : All HasClassName files) (linkable : IsLinkable files) where
  abbrev program : Linked
  program = program_with files rows pools

  abbrev name_at : ℕ → List ℕ
  name_at c = (class_at program c).info.name

  set_name : (c : ℕ) → c < length (set_of files) → name_at c ≡ (outline_at (set_of files) c).name
  set_name c lt = ap (λ (x : ClassEntry). x.info.name) (class_in files rows pools c lt)

  array_name : (c : ℕ) → length (set_of files) ≤ c → c < length program.classes → name_at c ≡ slice_index_or (class_names_of files) (c - length (set_of files)) []
  array_name c le lt = ap (λ (x : ClassEntry). x.info.name) (array_in files rows pools c le lt)

  place_within : (c : ℕ) → length (set_of files) ≤ c → c < length program.classes → c - length (set_of files) < length (class_names_of files)
  place_within c le lt = let all = length_all files rows pools in omega (arith, all, le, lt)

  set_apart : (c d : ℕ) → c < d → d < length (set_of files) → name_at c ≡ name_at d → ⊥
  set_apart c d lt within same =
      linkable Duplicate d within (c, lt, sym (set_name c (omega (arith, lt, within))) ∙ (same ∙ set_name d within))

  -- a class of the set has no name of an array
  kinds_apart : (c d : ℕ) → c < length (set_of files) → length (set_of files) ≤ d → d < length program.classes → name_at c ≡ name_at d → ⊥
  kinds_apart c d inside le lt same =
      let none : is_array (name_at c) ≡ false = ap (λ (n : List ℕ). is_array n) (set_name c inside) ∙ set_plain files named c no_outline inside in
      let array : is_array (slice_index_or (class_names_of files) (d - length (set_of files)) []) ≡ true = (all_names (class_place (set_of files)) (arrays_met files) (d - length (set_of files)) [] (place_within d le lt)).array in
      absurd (true≢false (sym array ∙ (ap (λ (n : List ℕ). is_array n) (sym (same ∙ array_name d le lt)) ∙ none)))

  ordered_apart : (c d : ℕ) → c < d → d < length program.classes → name_at c ≡ name_at d → ⊥
  ordered_apart c d lt within same =
      elim (cases_lt d (length (set_of files))) [
        | inl inside ↦ set_apart c d lt inside same
        | inr le ↦
            elim (cases_lt c (length (set_of files))) [
              | inl inside ↦ kinds_apart c d inside le within same
              | inr above ↦
                  let c_within : c < length program.classes = omega (arith, lt, within) in
                  all_apart [] (flat_map with_element_types (filter (is_type_known (class_place (set_of files))) (arrays_met files))) (λ i j less short e. absurd (omega (arith, short))) (c - length (set_of files)) (d - length (set_of files)) (omega (arith, lt, above, le)) (place_within d le within)
                  (sym (array_name c above c_within) ∙ (same ∙ array_name d le within))
            ]
      ]

  pub names_apart : (c d : ℕ) → c < length program.classes → d < length program.classes → bytes_eq (name_at c) (name_at d) ≡ true → c ≡ d
  names_apart c d inside within same =
      let is : name_at c ≡ name_at d = same_name (name_at c) (name_at d) same in
      elim (cases_eq c d) [
        | inl e ↦ e
        | inr ne ↦ elim (cases_lt c d) [
          | inl lt ↦ absurd (ordered_apart c d lt within is)
          | inr le ↦ absurd (ordered_apart d c (omega (arith, le, ne)) inside (sym is))
        ]
      ]

pub class_names_apart : (files : List LoadedClass) (p : Linked) → All HasClassName files → IsLinkable files → IsProgramOf files p → (c d : ℕ) → c < length p.classes → d < length p.classes → bytes_eq (class_at p c).info.name (class_at p d).info.name ≡ true → c ≡ d
class_names_apart files p named linkable is =
    subst (λ (q : Linked). (c d : ℕ) → c < length q.classes → d < length q.classes → bytes_eq (class_at q c).info.name (class_at q d).info.name ≡ true → c ≡ d) (sym is.tables)
    (names_apart files is.rows p.pools named linkable)
