-- WHAT A TRACE ASKS OF A PROGRAM that it is the trace of.
use Rattle.std.specs.Prelude.{◌≡◌, ℕ, ◌<◌, ◌^◌, true, bytes_eq, length}
use Rattle.et_program.specs.Entries.{Linked}
use Rattle.et_state.specs.Naming.{Names}
use Rattle.et_text.specs.Ranges.{IsText, IsShort}
use Rattle.et_history.specs.steps.Records.{HasPlainStrings}
use Rattle.et_history.specs.steps.Telling.{names_of_program}

-- the names of a program are apart: each is one that a line can tell, and no two are alike
pub record AreNamesApart (names : Names) : Type 0 where
  pub class_texts : (c : ℕ) → c < names.class_count → IsText (names.class_name c)
  pub method_texts : (m : ℕ) → m < names.method_count → IsText (names.method_name m)
  pub descriptor_texts : (m : ℕ) → m < names.method_count → IsText (names.method_descriptor m)
  -- no two classes have one name
  pub classes_apart : (c d : ℕ) → c < names.class_count → d < names.class_count → bytes_eq (names.class_name c) (names.class_name d) ≡ true → c ≡ d
  -- .. and no two methods of a class have one name and descriptor
  pub methods_apart : (m n : ℕ) → m < names.method_count → n < names.method_count → names.method_class m ≡ names.method_class n
      → bytes_eq (names.method_name m) (names.method_name n) ≡ true → bytes_eq (names.method_descriptor m) (names.method_descriptor n) ≡ true → m ≡ n

-- each name of a program is short
pub record AreNamesShort (names : Names) : Type 0 where
  pub class_names : (c : ℕ) → c < names.class_count → IsShort (names.class_name c)
  pub method_names : (m : ℕ) → m < names.method_count → IsShort (names.method_name m)
  pub descriptors : (m : ℕ) → m < names.method_count → IsShort (names.method_descriptor m)

-- THE PROGRAM is one that a trace can tell of
pub record IsTraceable (p : Linked) : Type 0 where
  pub names : AreNamesApart (names_of_program p)
  pub short : AreNamesShort (names_of_program p)
  pub few_statics : length p.statics < 2 ^ 28
  pub strings : HasPlainStrings p
