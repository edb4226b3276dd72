-- The marks of code, one after the other.
use Rattle.std.proofs.Common.{◌≡◌, ℕ, ◌+◌, ◌<◌, ◌≤◌, Bool, List, [], ◌∷◌, ◌++◌, length, get_or, drop, true, false, Option, None, Result, Ok, Err, refl, sym, ap, subst, ◌∙◌, arith, inl, inr}
use Rattle.std.specs.List.{flat_map}
use Rattle.std.proofs.lemmas.List.{at_drop_more, at_drop_all}
use Rattle.std.proofs.Math.Path.{fun_ext}
use Rattle.et_base.specs.Marks.{Mark, Breaks, IsUpTo, IsFirstBroken, MarksAre, marked, first_from, mark}
use Rattle.et_base.proofs.Firsts.{found_is_first, first_from-append}
use Rattle.et_code.specs.declared.instr.CodeFault.{CodeFault}
use Rattle.et_code.specs.declared.instr.CodeFault.TheVariants as fault
use Rattle.et_code.specs.declared.instr.Instr.{Instr}
use Rattle.et_code.specs.declared.body.TableRow.{TableRow}
use Rattle.et_code.specs.Decoding.{instruction_at}
use Rattle.et_code.specs.Bodies.{Body}
use Rattle.et_code.specs.Starts.{starts, is_start}
use Rattle.et_code.specs.Rules.{decoded_marks, marks_at, row_holds, rows_marks, is_code_length, code_marks}
use Rattle.et_code.specs.declared.body.TheConstants.{CODE}
use Rattle.et_code.proofs.Starting.{rest, rest_all, rest_next, rest_last, rest_none}

-- THE ROWS OF THE EXCEPTION TABLE

pub rows_step : (acc : Option (ℕ × ℕ)) (size : ℕ) (tags : List ℕ) (test : ℕ → Bool) (place : ℕ) (rows : List TableRow) (i : ℕ) (d : TableRow) → i < length rows → first_from acc (rows_marks size tags test place (drop i rows)) ≡ first_from (marked acc (mark place CODE (row_holds size tags test (get_or rows i d)))) (rows_marks size tags test (place + 8) (drop (i + 1) rows))
unfolding rows_marks first_from
rows_step acc size tags test place rows i d lt = at_drop_more (λ xs. first_from acc (rows_marks size tags test place xs)) rows i d lt

pub rows_end : (acc : Option (ℕ × ℕ)) (size : ℕ) (tags : List ℕ) (test : ℕ → Bool) (place : ℕ) (rows : List TableRow) (i : ℕ) → length rows ≤ i → first_from acc (rows_marks size tags test place (drop i rows)) ≡ acc
unfolding rows_marks first_from
rows_end acc size tags test place rows i le = at_drop_all (λ xs. first_from acc (rows_marks size tags test place xs)) rows i le

-- THE INSTRUCTIONS

abbrev pub left : Body → List ℕ → (ℕ → Bool) → ℕ → List Mark
left b tags test pc = flat_map (marks_at b tags test) (rest b.code pc)

pub left_next : (acc : Option (ℕ × ℕ)) (b : Body) (tags : List ℕ) (test : ℕ → Bool) (pc : ℕ) (i : Instr) (next : ℕ) → pc < length b.code → instruction_at b.code pc ≡ Ok (i, next) → first_from acc (left b tags test pc) ≡ first_from (first_from acc (decoded_marks b tags test pc (Ok (i, next)))) (left b tags test next)
left_next acc b tags test pc i next lt e =
    ap (λ xs. first_from acc (flat_map (marks_at b tags test) xs)) (rest_next b.code pc i next lt e)
    ∙ (first_from-append acc (marks_at b tags test pc) (left b tags test next)
    ∙ ap (λ r. first_from (first_from acc (decoded_marks b tags test pc r)) (left b tags test next)) e)

pub left_last : (acc : Option (ℕ × ℕ)) (b : Body) (tags : List ℕ) (test : ℕ → Bool) (pc : ℕ) (f : CodeFault) → pc < length b.code → instruction_at b.code pc ≡ Err f → first_from acc (left b tags test pc) ≡ first_from acc (decoded_marks b tags test pc (Err f))
unfolding first_from
left_last acc b tags test pc f lt e =
    ap (λ xs. first_from acc (flat_map (marks_at b tags test) xs)) (rest_last b.code pc f lt e)
    ∙ (first_from-append acc (marks_at b tags test pc) []
    ∙ ap (λ r. first_from acc (decoded_marks b tags test pc r)) e)

pub left_end : (acc : Option (ℕ × ℕ)) (b : Body) (tags : List ℕ) (test : ℕ → Bool) (pc : ℕ) → length b.code ≤ pc → first_from acc (left b tags test pc) ≡ acc
unfolding first_from
left_end acc b tags test pc le = ap (λ xs. first_from acc (flat_map (marks_at b tags test) xs)) (rest_none b.code pc le)

pub left_all : (acc : Option (ℕ × ℕ)) (b : Body) (tags : List ℕ) (test : ℕ → Bool) → first_from acc (left b tags test 0) ≡ first_from acc (flat_map (marks_at b tags test) (starts b.code))
left_all acc b tags test = ap (λ xs. first_from acc (flat_map (marks_at b tags test) xs)) (rest_all b.code)

pub rows_next : (acc result : Option (ℕ × ℕ)) (size size' : ℕ) (tags : List ℕ) (test : ℕ → Bool) (place : ℕ) (rows rows' : List TableRow) (i : ℕ) (d : TableRow) (holds : Bool) (whole : Option (ℕ × ℕ)) → rows' ≡ rows → size' ≡ size → i < length rows' → holds ≡ row_holds size' tags test (get_or rows' i d) → result ≡ marked acc (mark place CODE holds) → first_from acc (rows_marks size tags test place (drop i rows)) ≡ whole → first_from result (rows_marks size tags test (place + 8) (drop (i + 1) rows)) ≡ whole
rows_next acc result size size' tags test place rows rows' i d holds whole same_rows same_size lt holds_is result_is before =
    let lt' : i < length rows = omega (arith, ap length same_rows) in
    let more = rows_marks size tags test (place + 8) (drop (i + 1) rows) in
    let holds_here = holds_is ∙ (ap (λ n. row_holds n tags test (get_or rows' i d)) same_size ∙ ap (λ (xs : List TableRow). row_holds size tags test (get_or xs i d)) same_rows) in
    ap (λ x. first_from x more) (result_is ∙ ap (λ h. marked acc (mark place CODE h)) holds_here) ∙ (sym (rows_step acc size tags test place rows i d lt') ∙ before)

-- ALL MARKS

pub all_marks : (b : Body) (tags : List ℕ) (test : ℕ → Bool) (first second : Option (ℕ × ℕ)) → ((place : ℕ) → test place ≡ is_start b.code place) → is_code_length (length b.code) ≡ true → first ≡ first_from None (flat_map (marks_at b tags test) (starts b.code)) → second ≡ first_from first (rows_marks (length b.code) tags test (length b.code + 6) b.table) → MarksAre (code_marks b tags) second
unfolding first_from
all_marks b tags test first second same good first_is second_is =
    let marks = λ (t : ℕ → Bool). first_from None (flat_map (marks_at b tags t) (starts b.code) ++ rows_marks (length b.code) tags t (length b.code + 6) b.table) in
    let joined : second ≡ marks test = second_is ∙ (ap (λ x. first_from x (rows_marks (length b.code) tags test (length b.code + 6) b.table)) first_is ∙ sym (first_from-append None (flat_map (marks_at b tags test) (starts b.code)) (rows_marks (length b.code) tags test (length b.code + 6) b.table))) in
    let tested : second ≡ marks (is_start b.code) = joined ∙ ap marks (fun_ext same) in
    let long : marks (is_start b.code) ≡ first_from None (code_marks b tags) = ap (λ h. first_from (marked None (mark 0 CODE h)) (flat_map (marks_at b tags (is_start b.code)) (starts b.code) ++ rows_marks (length b.code) tags (is_start b.code) (length b.code + 6) b.table)) (sym good) in
    subst (λ r. MarksAre (code_marks b tags) r) (sym (tested ∙ long)) (found_is_first (code_marks b tags))

-- A CODE LENGTH OUT OF RANGE is the first broken item, since all others stand behind it

abbrev Behind : List Mark → Type 0
Behind [] = Unit {0}
Behind (m ∷ ms) = (0 < m.place) × Behind ms

Behind-append : (xs ys : List Mark) → Behind xs → Behind ys → Behind (xs ++ ys)
Behind-append [] ys h i = i
Behind-append (m ∷ xs) ys h i = (h.0, Behind-append xs ys h.1 i)

Behind-decoded : (b : Body) (tags : List ℕ) (test : ℕ → Bool) (pc : ℕ) (r : Result (Instr × ℕ) CodeFault) → Behind (decoded_marks b tags test pc r)
Behind-decoded b tags test pc (Ok x) = let lt : 0 < pc + 4 = omega arith in (lt, (lt, (lt, (lt, (lt, (lt, (lt, tt)))))))
Behind-decoded b tags test pc (Err fault.Opcode) = (omega arith, tt)
Behind-decoded b tags test pc (Err fault.Short) = (omega arith, tt)
Behind-decoded b tags test pc (Err fault.Unsupported) = (omega arith, tt)

Behind-instructions : (b : Body) (tags : List ℕ) (test : ℕ → Bool) (pcs : List ℕ) → Behind (flat_map (marks_at b tags test) pcs)
Behind-instructions b tags test [] = tt
Behind-instructions b tags test (pc ∷ pcs) = Behind-append (marks_at b tags test pc) (flat_map (marks_at b tags test) pcs) (Behind-decoded b tags test pc (instruction_at b.code pc)) (Behind-instructions b tags test pcs)

Behind-rows : (size : ℕ) (tags : List ℕ) (test : ℕ → Bool) (place : ℕ) (rows : List TableRow) → 0 < place → Behind (rows_marks size tags test place rows)
unfolding rows_marks
Behind-rows size tags test place [] lt = tt
Behind-rows size tags test place (row ∷ rows) lt = (lt, Behind-rows size tags test (place + 8) rows (omega arith))

Behind-breaks : (ms : List Mark) (p k : ℕ) → Behind ms → Breaks ms p k → 0 < p
Behind-breaks [] p k h b = absurd b
Behind-breaks (m ∷ ms) p k h (inl e) = omega (arith, h.0, e.1)
Behind-breaks (m ∷ ms) p k h (inr b) = Behind-breaks ms p k h.1 b

up_to : (ms : List Mark) (holds : Bool) (p k : ℕ) → Behind ms → Breaks (mark 0 CODE holds ∷ ms) p k → IsUpTo 0 CODE p k
up_to ms holds p k h (inl e) = inr (e.1, omega (arith, e.2))
up_to ms holds p k h (inr b) = inl (Behind-breaks ms p k h b)

pub bad_length : (b : Body) (tags : List ℕ) → is_code_length (length b.code) ≡ false → IsFirstBroken (code_marks b tags) 0 CODE
bad_length b tags e = record {
  broken = inl (e, refl, refl);
  first = λ p k x. up_to (flat_map (marks_at b tags (is_start b.code)) (starts b.code) ++ rows_marks (length b.code) tags (is_start b.code) (length b.code + 6) b.table) (is_code_length (length b.code)) p k (Behind-append (flat_map (marks_at b tags (is_start b.code)) (starts b.code)) (rows_marks (length b.code) tags (is_start b.code) (length b.code + 6) b.table) (Behind-instructions b tags (is_start b.code) (starts b.code)) (Behind-rows (length b.code) tags (is_start b.code) (length b.code + 6) b.table (omega arith))) x;
}
