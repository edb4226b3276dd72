-- The classes of a program: those of the set, and the array classes behind them.
use Rattle.std.proofs.Common.{◌≡◌, ℕ, zero, suc, ◌+◌, ◌-◌, ◌<◌, ◌≤◌, List, [], ◌∷◌, length, refl, sym, ◌∙◌, ap, subst, inl, inr, arith, append-nil}
use Rattle.std.specs.List.{slice_index_or}
use Rattle.std.proofs.lemmas.Bool.{cases_lt}
use Rattle.std.proofs.lemmas.List.{get_or-append_right}
use Rattle.et_pool.specs.Entries.{Constants}
use Rattle.et_hierarchy.specs.Outline.{outline_at}
use Rattle.et_hierarchy.specs.Ancestry.{Ancestry}
use Rattle.et_program.specs.Entries.{ClassEntry, Linked, no_class, class_at}
use Rattle.et_program.specs.Classes.{Heads, set_class, array_class}
use Rattle.et_program.specs.Files.{set_of}
use Rattle.et_program.specs.Loaded.{LoadedClass}
use Rattle.et_program.specs.MembersOf.{numbered}
use Rattle.et_program.specs.ProgramOf.{heads_of, class_names_of, program_with}
use Rattle.et_link.proofs.TabledLemmas.{length-singles, length-classes}
use Rattle.et_history.proofs.programs.Places.{at_numbered}
use Rattle.et_history.proofs.programs.Making.{class_in}

pub past : {X : Type 0} (xs : List X) (k : ℕ) (d : X) → length xs ≤ k → slice_index_or xs k d ≡ d
past [] k d le = refl
past (x ∷ xs) zero d le = absurd (omega arith)
past (x ∷ xs) (suc k) d le = past xs k d (omega arith)

module _ (files : List LoadedClass) (rows : List Ancestry) (pools : List Constants) where
  abbrev p : Linked
  p = program_with files rows pools

  abbrev heads : Heads
  heads = heads_of files rows

  abbrev set_length : ℕ
  set_length = length (set_of files)

  pub length_all : length (program_with files rows pools).classes ≡ length (set_of files) + length (class_names_of files)
  length_all = length-classes (heads_of files rows) (set_of files) (class_names_of files)

  pub array_in : (c : ℕ) → length (set_of files) ≤ c → c < length (program_with files rows pools).classes → class_at (program_with files rows pools) c ≡ array_class (heads_of files rows) c (slice_index_or (class_names_of files) (c - length (set_of files)) [])
  array_in c le lt =
      let front : List ClassEntry = numbered (λ k o. set_class heads k o ∷ []) 0 (set_of files) in
      let back : List ClassEntry = numbered (λ k name. array_class heads k name ∷ []) set_length (class_names_of files) in
      let n : length front ≡ set_length = length-singles (λ k o. set_class heads k o) 0 (set_of files) in
      let all : length p.classes ≡ set_length + length (class_names_of files) = length_all in
      let there : class_at p c ≡ slice_index_or back (c - length front) no_class = get_or-append_right front back (length front) c no_class refl (omega arith) in
      let inside : c - set_length < length (class_names_of files) = omega arith in
      let sum : set_length + (c - set_length) ≡ c = omega arith in
      there
      ∙ (ap (λ (i : ℕ). slice_index_or back (c - i) no_class) n
      ∙ (ap (λ (l : List ClassEntry). slice_index_or l (c - set_length) no_class) (sym (append-nil back))
      ∙ (at_numbered (λ k name. array_class heads k name) set_length (class_names_of files) [] (c - set_length) [] no_class inside
      ∙ ap (λ (i : ℕ). array_class heads i (slice_index_or (class_names_of files) (c - set_length) [])) sum)))

  -- what holds of each class of the set, of each array class and of none holds of each
  pub class_cases : (P : ClassEntry → Type 0) (c : ℕ) → (c < length (set_of files) → P (set_class (heads_of files rows) c (outline_at (set_of files) c))) → ((name : List ℕ) → length (set_of files) ≤ c → c < length (program_with files rows pools).classes → P (array_class (heads_of files rows) c name)) → P no_class → P (class_at (program_with files rows pools) c)
  class_cases P c in_set array none =
      elim (cases_lt c set_length) [
        | inl lt ↦ subst P (sym (class_in files rows pools c lt)) (in_set lt)
        | inr le ↦
            elim (cases_lt c (length p.classes)) [
              | inl lt ↦ subst P (sym (array_in c le lt)) (array (slice_index_or (class_names_of files) (c - set_length) []) le lt)
              | inr over ↦ subst P (sym (past p.classes c no_class over)) none
            ]
      ]
