-- The rules on code are marked at places of the code and of its exception table.
use Rattle.std.proofs.Common.{◌≡◌, ℕ, zero, suc, ◌+◌, ◌*◌, ◌<◌, ◌≤◌, Bool, true, false, cond, ltb, List, [], ◌∷◌, ◌++◌, length, Result, Ok, Err, refl, arith, inl, inr}
use Rattle.std.specs.List.{flat_map}
use Rattle.std.proofs.lemmas.Bool.{ltb-true}
use Rattle.et_base.specs.Marks.{Mark, Breaks, IsFirstBroken}
use Rattle.et_code.specs.declared.instr.Instr.{Instr}
use Rattle.et_code.specs.declared.instr.CodeFault.{CodeFault}
use Rattle.et_code.specs.declared.instr.CodeFault.TheVariants as fault
use Rattle.et_code.specs.declared.body.TableRow.{TableRow}
use Rattle.et_code.specs.Decoding.{instruction_at}
use Rattle.et_code.specs.Bodies.{Body}
use Rattle.et_code.specs.Starts.{starts, starts_from, bytes_behind, is_start}
use Rattle.et_code.specs.Rules.{decoded_marks, marks_at, rows_marks, code_marks}

-- no mark stands beyond a place
record UpTo (bound : ℕ) (ms : List Mark) : Type 0 where
  below : (p k : ℕ) → Breaks ms p k → p ≤ bound

up_to_append : (bound : ℕ) (xs ys : List Mark) → UpTo bound xs → UpTo bound ys → UpTo bound (xs ++ ys)
up_to_append bound [] ys h i = i
up_to_append bound (m ∷ xs) ys h i =
    let more = up_to_append bound xs ys (record { below = λ q l s. h.below q l (inr s) }) i in
    record { below = λ p k b. elim b [ inl e ↦ h.below p k (inl e) | inr r ↦ more.below p k r ] }

at_place : (bound place kind : ℕ) (holds : Bool) (ms : List Mark) → place ≤ bound → UpTo bound ms → UpTo bound (record { place = place; kind = kind; holds = holds } ∷ ms)
at_place bound place kind holds ms le h = record { below = λ p k b. elim b [ inl e ↦ omega (arith, e.1) | inr r ↦ h.below p k r ] }

none_there : (bound : ℕ) → UpTo bound []
none_there bound = record { below = λ p k b. absurd b }

module _ (b : Body) (tags : List ℕ) (test : ℕ → Bool) (bound : ℕ) where
  decoded_bound : (pc : ℕ) (r : Result (Instr × ℕ) CodeFault) → pc + 4 ≤ bound → UpTo bound (decoded_marks b tags test pc r)
  decoded_bound pc (Ok x) le =
      at_place bound _ _ _ _ le (at_place bound _ _ _ _ le (at_place bound _ _ _ _ le
      (at_place bound _ _ _ _ le (at_place bound _ _ _ _ le
      (at_place bound _ _ _ _ le (at_place bound _ _ _ _ le (none_there bound)))))))
  decoded_bound pc (Err fault.Opcode) le = at_place bound _ _ _ _ le (none_there bound)
  decoded_bound pc (Err fault.Short) le = at_place bound _ _ _ _ le (none_there bound)
  decoded_bound pc (Err fault.Unsupported) le = at_place bound _ _ _ _ le (none_there bound)

  behind_bound : (f : ℕ → List ℕ) (r : Result (Instr × ℕ) CodeFault) → ((pc : ℕ) → UpTo bound (flat_map (marks_at b tags test) (f pc))) → UpTo bound (flat_map (marks_at b tags test) (bytes_behind f r))
  behind_bound f (Ok x) h = h x.1
  behind_bound f (Err e) h = none_there bound

  front_bound : (pc : ℕ) (rest : List ℕ) (t : Bool) → ltb pc (length b.code) ≡ t → length b.code + 4 ≤ bound → UpTo bound (flat_map (marks_at b tags test) rest) → UpTo bound (flat_map (marks_at b tags test) (cond t (pc ∷ rest) []))
  front_bound pc rest true e le h = up_to_append bound (marks_at b tags test pc) _ (let lt : pc < length b.code = ltb-true _ _ e in decoded_bound pc (instruction_at b.code pc) (omega arith)) h
  front_bound pc rest false e le h = none_there bound

  -- the instructions from a place on
  starts_bound : (most pc : ℕ) → length b.code + 4 ≤ bound → UpTo bound (flat_map (marks_at b tags test) (starts_from b.code most pc))
  unfolding starts_from
  starts_bound zero pc le = none_there bound
  starts_bound (suc most) pc le = front_bound pc _ (ltb pc (length b.code)) refl le (behind_bound (starts_from b.code most) (instruction_at b.code pc) (λ next. starts_bound most next le))

  rows_bound : (size place : ℕ) (rows : List TableRow) → place + 8 * length rows ≤ bound → UpTo bound (rows_marks size tags test place rows)
  unfolding rows_marks
  rows_bound size place [] le = none_there bound
  rows_bound size place (r ∷ rows) le = at_place bound place _ _ _ (omega arith) (rows_bound size (place + 8) rows (omega arith))

pub code_bound : (b : Body) (tags : List ℕ) (place kind : ℕ) → IsFirstBroken (code_marks b tags) place kind → place ≤ 6 + length b.code + 8 * length b.table
code_bound b tags place kind first =
    let all : UpTo (6 + length b.code + 8 * length b.table) (code_marks b tags) =
    at_place (6 + length b.code + 8 * length b.table) 0 _ _ _ (omega arith)
    (up_to_append (6 + length b.code + 8 * length b.table) (flat_map (marks_at b tags (is_start b.code)) (starts b.code)) _
    (starts_bound b tags (is_start b.code) (6 + length b.code + 8 * length b.table) (length b.code) 0 (omega arith))
    (rows_bound b tags (is_start b.code) (6 + length b.code + 8 * length b.table) (length b.code) (length b.code + 6) b.table (omega arith))) in
    all.below place kind first.broken
