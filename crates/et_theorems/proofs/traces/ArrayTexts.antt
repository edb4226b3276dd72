-- The names of the array classes of a program are bytes.
use Rattle.std.proofs.Common.{ℕ, ◌<◌, ◌-◌, Bool, true, false, List, ◌∷◌, ◌++◌, [], refl, arith}
use Rattle.std.specs.Prelude.{All, codes, if◌then◌else◌, nat_lt}
use Rattle.std.proofs.lemmas.Bool.{ltb-true}
use Rattle.std.proofs.lemmas.List.Elements.{All-append, All-tail}
use Rattle.et_pool.specs.Descriptors.{is_array}
use Rattle.et_program.specs.ArrayTypes.{array_over, base_letter, base_letters}
use Rattle.et_program.specs.Loaded.{LoadedClass}
use Rattle.et_program.specs.ProgramOf.{class_names_of}
use Rattle.et_history.proofs.ArrayWords.{array_texts}
use Rattle.et_history.proofs.PoolWords.{each_at, each_passes}
use Rattle.et_theorems.proofs.traces.PoolTexts.{AreSmall, no_more, and_more}
use Rattle.et_theorems.proofs.traces.FileNames.{HasTexts}

letters_small : All (λ b. b < 256) base_letters
letters_small = each_passes (λ b. nat_lt b 256) (λ b. b < 256) (λ b h. ltb-true b 256 h) base_letters refl

letter_small : (kind : ℕ) → base_letter kind < 256
letter_small kind = each_at (λ b. b < 256) base_letters (kind - 4) 0 (omega arith) letters_small

over_small : (name : List ℕ) → AreSmall name → AreSmall (array_over name)
over_small name h = by (is_array name)
  where
    by : (b : Bool) → AreSmall (if b then 91 ∷ name else 91 ∷ 76 ∷ (name ++ 59 ∷ []))
    by true = and_more 91 name (omega arith) h
    by false = and_more 91 (76 ∷ (name ++ 59 ∷ [])) (omega arith) (and_more 76 (name ++ 59 ∷ []) (omega arith) (All-append (λ b. b < 256) name (59 ∷ []) h (and_more 59 [] (omega arith) no_more)))

arguments_small : AreSmall (codes "[Ljava/lang/String;")
arguments_small = each_passes (λ b. nat_lt b 256) (λ b. b < 256) (λ b h. ltb-true b 256 h) (codes "[Ljava/lang/String;") refl

pub arrays_small : (files : List LoadedClass) → All HasTexts files → All AreSmall (class_names_of files)
arrays_small files texts =
    array_texts AreSmall AreSmall
    (record {
      named = λ name h. h;
      over = over_small;
      base = λ kind. and_more 91 (base_letter kind ∷ []) (omega arith) (and_more (base_letter kind) [] (letter_small kind) no_more);
      arguments = arguments_small;
      element = λ a rest h. All-tail (λ b. b < 256) a rest h;
    })
    files (λ i d lt. (texts i d lt).small)
