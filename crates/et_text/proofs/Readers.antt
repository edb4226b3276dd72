-- What is read, and what is none.
use Rattle.std.proofs.Common.{◌≡◌, ◌≢◌, ℕ, ◌-◌, ◌≤◌, List, [], ◌∷◌, ◌++◌, length, take, drop, get_or, Some, Result, Ok, Err, ap, sym, ◌∙◌, arith}
use Rattle.std.specs.Prelude.{IfOk, IsErrOf}
use Rattle.std.proofs.lemmas.List.{take_rest}
use Rattle.et_base.specs.declared.line.TraceLine.{TraceLine}
use Rattle.et_text.specs.Ranges.{IsInRange}
use Rattle.et_text.specs.Spelling.{line_body}
use Rattle.et_text.specs.Stream.{FirstLine}
use Rattle.et_text.specs.Text.{IsLineSpelled}
use Rattle.et_text.specs.declared.fault.LineError.{LineError}
use Rattle.et_text.specs.declared.fault.LineError.TheVariants as errors
use Rattle.et_text.specs.Reading.{GivesWhereRead, front_at, line_at}
use Rattle.et_text.proofs.LineKinds.{to_all, front_body, line_takes, no_line}
use Rattle.et_text.proofs.Splitting.{no_lf-line}

pub found_by : (r : Result TraceLine LineError) (bytes : List ℕ) → GivesWhereRead (λ x. x) r (line_at bytes) → IfOk r (λ line. IsLineSpelled line bytes)
found_by (Ok line) bytes h = line_takes bytes line h
found_by (Err e) bytes h = tt

pub form_by : (r : Result TraceLine LineError) (bytes : List ℕ) → GivesWhereRead (λ x. x) r (line_at bytes) → IsErrOf r errors.Form → (line : TraceLine) → IsLineSpelled line bytes → ⊥
form_by (Ok found) bytes h e = absurd cc
form_by (Err errors.Memory) bytes h e = absurd cc
form_by (Err errors.Form) bytes h e = λ line p. no_line bytes line h p

-- A LINE WITH ITS LF

pub front_range : (bytes : List ℕ) (line : TraceLine) (left : List ℕ) → front_at bytes ≡ Some (line, left) → IsInRange 1 line
front_range bytes line left e = (front_body bytes line left e).0

first_of_left : (left : List ℕ) → 1 ≤ length left → get_or left 0 0 ≡ 10 → left ≡ 10 ∷ take (length left - 1) (drop 1 left)
first_of_left [] le e = absurd (omega (arith, le))
first_of_left (b ∷ rest) le e = ap (λ (x : ℕ). x ∷ rest) e ∙ ap (λ (t : List ℕ). 10 ∷ t) (sym (take_rest (b ∷ rest) 1))

pub front_first : (bytes : List ℕ) (line : TraceLine) (left : List ℕ) → front_at bytes ≡ Some (line, left) → 1 ≤ length left → get_or left 0 0 ≡ 10 → FirstLine bytes (line_body line) (take (length left - 1) (drop 1 left))
front_first bytes line left e le lf =
    let h = front_body bytes line left e in
    record { parts = h.1 ∙ ap (λ (t : List ℕ). line_body line ++ t) (first_of_left left le lf); one_line = to_all (λ b. b ≢ 10) (line_body line) (no_lf-line line h.0) }
