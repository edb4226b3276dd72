-- `convert` of what `convert` wrote.
use Rattle.std.proofs.Common.{◌≡◌, ℕ, ◌<◌, ◌≤◌, ◌^◌, Bool, true, false, List, [], length, Option, Some, Ok, Err, inl, inr, refl, sym, ap, subst, arith}
use Rattle.std.specs.Prelude.{All, nat_lt, if◌then◌else◌}
use Rattle.std.proofs.lemmas.Bool.Decides.{nat_tests}
use Rattle.et_base.specs.declared.line.TraceLine.{TraceLine}
use Rattle.et_graph.specs.Graph.{Graph}
use Rattle.et_io.specs.Files.{Held}
use Rattle.et_replay.specs.declared.model.Kind.{Kind}
use Rattle.et_text.specs.Ranges.{HasShortNames}
use Rattle.et_command.specs.Command.{Convert}
use Rattle.et_files.specs.Faults.{Fault, TooLong}
use Rattle.et_files.specs.Loaded.{file_bytes, most_of_trace, IsTraceOf}
use Rattle.et_convert.specs.Spellings.{SpellsTrace}
use Rattle.et_convert.specs.Conversions.{converted_lines, converted_bytes}
use Rattle.et_top.specs.Top.{Defined, Usage, Refused, Writes, Traces, Prints, Verifies, Benches, IsAskedDefined}
use Rattle.et_files.proofs.ReadLemmas.{bytes_there}

-- what is written, where something is
text_in : Defined → (Graph → ℕ → Bool) → List ℕ
text_in (Writes text) = text
text_in Usage = λ reached. []
text_in (Refused fault) = λ reached. []
text_in (Traces program options) = λ reached. []
text_in (Prints program options) = λ reached. []
text_in (Verifies program) = λ reached. []
text_in (Benches program) = λ reached. []

writes_one : (a b : List ℕ) → Writes (λ reached. a) ≡ Writes (λ reached. b) → a ≡ b
unfolding text_in
writes_one a b e = ap (λ d. text_in d (λ graph object. false)) e

IsWritten : Defined → Type 0
IsWritten (Writes text) = Unit {0}
IsWritten Usage = ⊥
IsWritten (Refused fault) = ⊥
IsWritten (Traces program options) = ⊥
IsWritten (Prints program options) = ⊥
IsWritten (Verifies program) = ⊥
IsWritten (Benches program) = ⊥

not_refused : (text : (Graph → ℕ → Bool) → List ℕ) (fault : Fault) → Writes text ≡ Refused fault → ⊥
unfolding IsWritten
not_refused text fault e = subst IsWritten e tt

-- the lines that the bytes were found to spell are those that they spell
spells : (bytes : List ℕ) (lines : List TraceLine) → IsTraceOf (Ok bytes) (Ok lines) → SpellsTrace lines bytes
spells bytes lines (inl (kind, line, has, e)) = absurd cc
spells bytes lines (inr (found, is, e)) = let same : found ≡ lines = cc in subst (λ ls. SpellsTrace ls bytes) same is

-- the bytes of the file, which were read, are not too long and spell the lines
spells_by : (bytes : List ℕ) (lines : List TraceLine) (long : Bool) → nat_lt most_of_trace (length bytes) ≡ long → IsTraceOf (if long then Err TooLong else Ok bytes) (Ok lines) → (length bytes ≤ most_of_trace) × SpellsTrace lines bytes
spells_by bytes lines true e is = absurd cc
spells_by bytes lines false e is = (grind (arith, nat_tests), spells bytes lines is)

spells_file : (file : Option (List ℕ)) (bytes : List ℕ) (lines : List TraceLine) → file ≡ Some bytes → IsTraceOf (file_bytes most_of_trace file) (Ok lines) → (length bytes ≤ most_of_trace) × SpellsTrace lines bytes
spells_file file bytes lines e is = spells_by bytes lines (nat_lt most_of_trace (length bytes)) refl (subst (λ f. IsTraceOf (file_bytes most_of_trace f) (Ok lines)) e is)

module _ (other : (lines : List TraceLine) (bytes : List ℕ) → SpellsTrace lines bytes → All HasShortNames lines → SpellsTrace (converted_lines lines) (converted_bytes lines))
    (again : (lines : List TraceLine) (bytes : List ℕ) → SpellsTrace lines bytes → (converted_lines (converted_lines lines) ≡ lines) × (converted_bytes (converted_lines lines) ≡ bytes))
    (short : (lines : List TraceLine) (bytes : List ℕ) → SpellsTrace lines bytes → length bytes < 2 ^ 32 → All HasShortNames lines) where
  pub twice : (kinds : List Kind) (held : Held) (path to bytes text : List ℕ) → held path ≡ Some bytes → held to ≡ Some text → length text ≤ most_of_trace
      → IsAskedDefined kinds (Some (Convert path)) held (Writes (λ reached. text)) → IsAskedDefined kinds (Some (Convert to)) held (Writes (λ reached. bytes))
  twice kinds held path to bytes text first second le (Err fault, is, e) = absurd (not_refused (λ reached. text) fault e)
  twice kinds held path to bytes text first second le (Ok lines, is, e) =
      let read = spells_file (held path) bytes lines first is in
      let small : length bytes < 2 ^ 32 = omega (arith, read.0) in
      let wrote : text ≡ converted_bytes lines = writes_one text (converted_bytes lines) e in
      let new : SpellsTrace (converted_lines lines) text = subst (SpellsTrace (converted_lines lines)) (sym wrote) (other lines bytes read.1 (short lines bytes read.1 small)) in (
        Ok (converted_lines lines),
        subst (λ f. IsTraceOf f (Ok (converted_lines lines))) (sym (bytes_there most_of_trace (held to) text second le)) (inr (converted_lines lines, new, refl)),
        ap (λ bs. Writes (λ reached. bs)) (sym (again lines bytes read.1).1),
      )
