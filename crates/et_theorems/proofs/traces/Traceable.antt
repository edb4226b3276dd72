-- Every linked program is one that a trace can tell of.
use Rattle.std.proofs.Common.{◌≡◌, ℕ, ◌+◌, ◌*◌, ◌<◌, ◌≤◌, ◌^◌, List, length, map, sym, subst, true, arith}
use Rattle.std.specs.Prelude.{All, bytes_eq}
use Rattle.std.specs.List.{slice_index_or}
use Rattle.std.proofs.lemmas.List.Elements.{All-map, All-weaker}
use Rattle.et_text.specs.Ranges.{IsText}
use Rattle.et_class.specs.Layout.{ClassOf}
use Rattle.et_program.specs.Entries.{Linked, no_method}
use Rattle.et_program.specs.LinkFaults.{IsLinkable}
use Rattle.et_program.specs.Linking.{IsOfFile}
use Rattle.et_program.specs.Loaded.{LoadedClass, loaded_class}
use Rattle.et_program.specs.ProgramOf.{program_with, IsProgramOf}
use Rattle.et_history.specs.programs.ClassNames.{HasClassName}
use Rattle.et_history.specs.steps.Telling.{names_of_program}
use Rattle.et_theorems.specs.traces.Good.{AreNamesApart}
use Rattle.et_theorems.proofs.traces.ApartMethods.{HasApartMethods, methods_apart}
use Rattle.et_theorems.proofs.traces.ClassNames.{class_names_apart}
use Rattle.et_theorems.proofs.traces.FewStatics.{few_statics}
use Rattle.et_theorems.proofs.traces.FileNames.{HasTexts, has_texts}
use Rattle.et_theorems.proofs.traces.ProgramTexts.{HasMethodTexts, methods_told, classes_told}

pub file_texts : (classes : List ClassOf) → All IsOfFile classes → All HasTexts (map loaded_class classes)
file_texts classes of_files = All-map HasTexts loaded_class classes (λ i d lt. has_texts _ (of_files i d lt))

pub statics_within : (files : List LoadedClass) (p : Linked) → All HasTexts files → IsLinkable files → IsProgramOf files p → length p.statics ≤ 4096 * 65535 + 1
statics_within files p texts linkable is =
    subst (λ (q : Linked). length q.statics ≤ 4096 * 65535 + 1) (sym is.tables) (few_statics files linkable (All-weaker HasTexts (λ (c : LoadedClass). length c.fields < 65536) (λ c h. h.few) files texts))

-- of the files that it was linked of
module _ (files : List LoadedClass) (p : Linked) (texts : All HasTexts files) (named : All HasClassName files) (linkable : IsLinkable files) (is : IsProgramOf files p) where
  abbrev whole : Linked
  whole = program_with files is.rows p.pools

  class_texts : (c : ℕ) → c < length p.classes → IsText ((names_of_program p).class_name c)
  class_texts = subst (λ (q : Linked). (c : ℕ) → c < length q.classes → IsText ((names_of_program q).class_name c)) (sym is.tables) (classes_told files is.rows p.pools texts named)

  abbrev HasTextsAt : Linked → Type 0
  HasTextsAt q = (m : ℕ) → m < length q.methods → HasMethodTexts (slice_index_or q.methods m no_method)

  method_texts : HasTextsAt p
  method_texts = subst HasTextsAt (sym is.tables) (λ m lt. methods_told files texts m no_method lt)

  abbrev HasApart : Linked → Type 0
  HasApart q = (m n : ℕ) → m < length q.methods → n < length q.methods → (names_of_program q).method_class m ≡ (names_of_program q).method_class n
      → bytes_eq ((names_of_program q).method_name m) ((names_of_program q).method_name n) ≡ true → bytes_eq ((names_of_program q).method_descriptor m) ((names_of_program q).method_descriptor n) ≡ true → m ≡ n

  apart : HasApart p
  apart = subst HasApart (sym is.tables) (methods_apart files (All-weaker HasTexts HasApartMethods (λ c h. h.apart) files texts))

  pub names_are_apart : AreNamesApart (names_of_program p)
  names_are_apart = record {
    class_texts = class_texts;
    method_texts = λ m lt. (method_texts m lt).name;
    descriptor_texts = λ m lt. (method_texts m lt).descriptor;
    classes_apart = class_names_apart files p named linkable is;
    methods_apart = apart;
  }

  pub statics_few : length p.statics < 2 ^ 28
  statics_few = let le = statics_within files p texts linkable is in omega (arith, le)
