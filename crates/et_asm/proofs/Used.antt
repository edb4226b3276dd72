-- What the lines of a listing use passes a test, since what each line has does.
use Rattle.std.proofs.Common.{◌≡◌, ℕ, Bool, true, false, cond, ◌&&◌, Option, Some, None, List, [], ◌∷◌, ◌++◌, refl, sym, ap, ◌∙◌}
use Rattle.std.specs.List.{flat_map, list_all}
use Rattle.std.proofs.lemmas.List.Folds.{list_all-append}
use Rattle.et_base.proofs.Tests.{and_first, and_second}
use Rattle.et_listing.specs.declared.entry.Entry.{Entry}
use Rattle.et_listing.specs.declared.entry.Entry.TheVariants as entry
use Rattle.et_listing.specs.declared.instruction.Instruction.{Instruction}
use Rattle.et_listing.specs.declared.instruction.Instruction.TheVariants as instruction
use Rattle.et_listing.specs.declared.line.Line.{Line}
use Rattle.et_listing.specs.declared.line.Line.TheVariants as line
use Rattle.et_listing.specs.declared.line.Parsed.{Parsed}
use Rattle.et_listing.proofs.Sane.{is_number, IsConstant, IsLoad, IsSane, AllSane}
use Rattle.et_asm.specs.Along.{along_from}
use Rattle.et_asm.specs.Order.{opens, is_end_line, lines_of_body, stage_of, is_inside}
use Rattle.et_asm.specs.Pool.{operand_entries, constant_entries, attribute_entries, header_entries, code_entries, catch_entries, body_uses, outside_uses, line_uses, uses}
use Rattle.et_asm.specs.Listings.{entry_fits, line_entries, line_fits}
use Rattle.et_asm.proofs.Held.{LinesHold}

module _ (t : Entry → Bool) where
  abbrev pub AllFit : List Parsed → Type 0
  AllFit lines = list_all (λ p. list_all t (line_entries p.line)) lines ≡ true

  abbrev Fit : List Entry → Type 0
  Fit es = list_all t es ≡ true

  both : (xs ys : List Entry) → Fit xs → Fit ys → Fit (xs ++ ys)
  both xs ys h k = list_all-append t xs ys ∙ (ap (λ b. b && list_all t ys) h ∙ k)

  front : (xs ys : List Entry) → Fit (xs ++ ys) → Fit xs
  front xs ys h = and_first (list_all t xs) (list_all t ys) (sym (list_all-append t xs ys) ∙ h)

  rest : (xs ys : List Entry) → Fit (xs ++ ys) → Fit ys
  rest xs ys h = and_second (list_all t xs) (list_all t ys) (sym (list_all-append t xs ys) ∙ h)

  body_fits : (more : List Parsed) → AllFit more → AllFit (lines_of_body more)
  body_fits [] h = refl
  body_fits (p ∷ more) h =
      by (is_end_line p.line)
      (ap (λ b. b && list_all (λ q. list_all t (line_entries q.line)) (lines_of_body more)) (and_first (list_all t (line_entries p.line)) (list_all (λ q. list_all t (line_entries q.line)) more) h)
      ∙ body_fits more (and_second (list_all t (line_entries p.line)) (list_all (λ q. list_all t (line_entries q.line)) more) h))
    where
      by : (b : Bool) → AllFit (p ∷ lines_of_body more) → AllFit (cond b [] (p ∷ lines_of_body more))
      by true k = refl
      by false k = k

  of_lines : (f : Line → List Entry) → ((l : Line) → list_all t (line_entries l) ≡ true → Fit (f l)) → (body : List Parsed) → AllFit body → Fit (flat_map (λ p. f p.line) body)
  of_lines f each [] h = refl
  of_lines f each (p ∷ body) h =
      both (f p.line) (flat_map (λ q. f q.line) body) (each p.line (and_first (list_all t (line_entries p.line)) (list_all (λ q. list_all t (line_entries q.line)) body) h))
      (of_lines f each body (and_second (list_all t (line_entries p.line)) (list_all (λ q. list_all t (line_entries q.line)) body) h))

  in_header : (l : Line) → list_all t (line_entries l) ≡ true → Fit (header_entries l)
  in_header l h = front (header_entries l) (code_entries l ++ catch_entries l) h

  in_code : (l : Line) → list_all t (line_entries l) ≡ true → Fit (code_entries l)
  in_code l h = front (code_entries l) (catch_entries l) (rest (header_entries l) (code_entries l ++ catch_entries l) h)

  in_catch : (l : Line) → list_all t (line_entries l) ≡ true → Fit (catch_entries l)
  in_catch l h = rest (code_entries l) (catch_entries l) (rest (header_entries l) (code_entries l ++ catch_entries l) h)

  of_body : (body : List Parsed) → AllFit body → Fit (body_uses body)
  of_body body h = both (flat_map (λ p. code_entries p.line) body) (flat_map (λ p. catch_entries p.line) body) (of_lines code_entries in_code body h) (of_lines catch_entries in_catch body h)

  maybe : (b : Bool) (xs : List Entry) → Fit xs → Fit (cond b xs [])
  maybe true xs h = h
  maybe false xs h = refl

  outside : (b : Bool) (xs : List Entry) → Fit xs → Fit (cond b [] xs)
  outside true xs h = refl
  outside false xs h = h

  pub uses_from : (before more : List Parsed) → AllFit more → Fit (along_from line_uses before more)
  unfolding along_from
  uses_from before [] h = refl
  uses_from before (p ∷ more) h =
      let here = and_first (list_all t (line_entries p.line)) (list_all (λ q. list_all t (line_entries q.line)) more) h in
      let behind = and_second (list_all t (line_entries p.line)) (list_all (λ q. list_all t (line_entries q.line)) more) h in
      both (line_uses before p more) (along_from line_uses (before ++ p ∷ []) more)
      (outside (is_inside (stage_of before)) (outside_uses p.line more) (both (header_entries p.line) (cond (opens p.line) (body_uses (lines_of_body more)) []) (in_header p.line here) (maybe (opens p.line) (body_uses (lines_of_body more)) (of_body (lines_of_body more) (body_fits more behind)))))
      (uses_from (before ++ p ∷ []) more behind)

-- THE LIMITS

lines_fit : (entries : List Entry) (before more : List Parsed) → LinesHold entries before more → AllFit (entry_fits entries) more
lines_fit entries before [] h = refl
lines_fit entries before (p ∷ more) h = ap (λ b. b && list_all (λ q. line_fits entries q.line) more) h.0.fits ∙ lines_fit entries (before ++ p ∷ []) more h.1

pub uses_fit : (entries : List Entry) (lines : List Parsed) → LinesHold entries [] lines → list_all (entry_fits entries) (uses lines) ≡ true
uses_fit entries lines h = uses_from (entry_fits entries) [] lines (lines_fit entries [] lines h)

-- THE NUMBERS

load_numbers : (i : Instruction) → IsLoad i → list_all is_number (operand_entries i) ≡ true
load_numbers (instruction.Load e) h = ap (λ b. b && true) h
load_numbers (instruction.Pool opcode e) h = ap (λ b. b && true) h
load_numbers i h = refl

constant_numbers : (constant : Option Entry) → IsConstant constant → list_all is_number (constant_entries constant) ≡ true
constant_numbers None h = refl
constant_numbers (Some (entry.Integer value)) h = ap (λ b. b && true) h
constant_numbers (Some (entry.Long value)) h = ap (λ b. b && true) h
constant_numbers (Some (entry.Text text)) h = refl
constant_numbers (Some e) h = absurd h

limit_numbers : (limits : Option (ℕ × ℕ)) → list_all is_number (attribute_entries limits) ≡ true
limit_numbers None = refl
limit_numbers (Some limits) = refl

caught_numbers : (from to handler : List ℕ) (class : Option (List ℕ)) → list_all is_number (catch_entries (line.Catch from to handler class)) ≡ true
caught_numbers from to handler None = refl
caught_numbers from to handler (Some class) = refl

line_numbers : (l : Line) → IsSane l → list_all is_number (line_entries l) ≡ true
line_numbers (line.Field name descriptor flags constant) h = list_all-append is_number (constant_entries constant) [] ∙ ap (λ b. b && true) (constant_numbers constant h.1)
line_numbers (line.Method name descriptor flags limits) h = list_all-append is_number (attribute_entries limits) [] ∙ ap (λ b. b && true) (limit_numbers limits)
line_numbers (line.Catch from to handler class) h = caught_numbers from to handler class
line_numbers (line.Instruction i) h = list_all-append is_number (operand_entries i) [] ∙ ap (λ b. b && true) (load_numbers i h)
line_numbers l h = refl

lines_numbers : (lines : List Parsed) → AllSane lines → AllFit is_number lines
lines_numbers [] h = refl
lines_numbers (p ∷ more) h = ap (λ b. b && list_all (λ q. list_all is_number (line_entries q.line)) more) (line_numbers p.line h.0) ∙ lines_numbers more h.1

pub uses_numbers : (lines : List Parsed) → AllSane lines → list_all is_number (uses lines) ≡ true
uses_numbers lines h = uses_from is_number [] lines (lines_numbers lines h)
