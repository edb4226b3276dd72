-- Where an instruction of code that keeps the rules may go: behind itself, and to the targets of a branch or a switch.
use Rattle.std.proofs.Common.{◌≡◌, ℕ, zero, suc, ◌+◌, ◌*◌, ◌<◌, ◌≤◌, ◌⊎◌, Bool, true, false, List, [], ◌∷◌, Option, Some, Result, Ok, refl, sym, ◌∙◌, ap, subst, inl, inr, arith, rules, IsTrue}
use Rattle.std.specs.Prelude.{◌==◌, ◌||◌, ℤ, pos, negsuc, ◌+ℤ◌, int_lt, if◌then◌else◌, find, map}
use Rattle.std.specs.List.{list_all}
use Rattle.std.specs.Option.{option_map_or}
use Rattle.std.specs.Int.{int_gap, w32, cast_unsigned}
use Rattle.std.proofs.lemmas.Bool.{and_parts, ltb-false}
use Rattle.et_code.specs.declared.instr.Instr.{Instr}
use Rattle.et_code.specs.declared.instr.CodeFault.{CodeFault}
use Rattle.et_code.specs.Bodies.{Body}
use Rattle.et_code.specs.Decoding.{instruction_at, code_word_at, row_count}
use Rattle.et_code.specs.Kept.{IsKeptCode, HasInstruction}
use Rattle.et_code.specs.Rules.{passes_test, is_branch, offsets}
use Rattle.et_code.specs.Starts.{IsStart, is_start}
use Rattle.et_code.specs.Switches.{rows_from, table_rows, lookup_pairs, table_target, lookup_target, target_of}
use Rattle.et_code.proofs.Starting.{starts_are_all}
use Rattle.et_event.specs.declared.rows.Condition.{Condition}
use Rattle.et_event.specs.declared.rows.Row.{Row}
use Rattle.et_event.specs.declared.rows.Row.TheVariants as rows
use Rattle.et_event.specs.declared.rows.FrameRow.{FrameRow}
use Rattle.et_event.specs.declared.rows.FrameRow.TheVariants as row
use Rattle.et_event.specs.Sites.{Site, natural_of, target}
use Rattle.et_event.specs.Sound.{IsPc}
use Rattle.et_event.specs.Table.{rows as all_rows, row_of}
use Rattle.et_history.proofs.soundness.Frames.{behind_pc}
use Rattle.et_history.proofs.soundness.Keeping.{MayGo}
use Rattle.et_event.proofs.FrameRows.{opcode_of_switch}
use Rattle.et_event.proofs.RowsAmong.{among}

-- THE OPCODES of branches

abbrev is_branch_row : Row → Bool
is_branch_row (rows.Frame (row.Branch c)) = true
is_branch_row other = false

abbrev branches : ℕ × Row → Bool
branches e = if is_branch_row e.1 then is_branch e.0 else true

all_branches : list_all branches all_rows ≡ true
all_branches = refl

pub opcode_of_branch : (opcode : ℕ) (c : Condition) → row_of opcode ≡ Some (rows.Frame (row.Branch c)) → is_branch opcode ≡ true
unfolding row_of
opcode_of_branch opcode c e = among branches all_rows opcode (rows.Frame (row.Branch c)) all_branches e

-- PLACES

start_passes : (b : Body) (z : ℤ) → passes_test (is_start b.code) z ≡ true → IsPc b (natural_of z)
start_passes b (pos n) e = let t : IsTrue (is_start b.code n) = search (rules, e) in inl ((starts_are_all b.code n).0 t)
start_passes b (negsuc n) e = cc

first_of : (p : ℤ → Bool) (x : ℤ) (xs : List ℤ) → list_all p (x ∷ xs) ≡ true → p x ≡ true
first_of p x xs h = (and_parts (p x) (list_all p xs) h).0

rest_of : (p : ℤ → Bool) (x : ℤ) (xs : List ℤ) → list_all p (x ∷ xs) ≡ true → list_all p xs ≡ true
rest_of p x xs h = (and_parts (p x) (list_all p xs) h).1

-- .. in the rows of a table

row_passes : (p : ℤ → Bool) (code : List ℕ) (n at k : ℕ) → list_all p (rows_from code n at) ≡ true → k < n → p (code_word_at code (at + k * 4)) ≡ true
unfolding rows_from
row_passes p code zero at k h lt = absurd (omega arith)
row_passes p code (suc n) at zero h lt =
    let e : at ≡ at + 0 * 4 = omega arith in
    subst (λ (j : ℕ). p (code_word_at code j) ≡ true) e (first_of p (code_word_at code at) (rows_from code n (at + 4)) h)
row_passes p code (suc n) at (suc k) h lt =
    let e : at + 4 + k * 4 ≡ at + suc k * 4 = omega arith in
    subst (λ (j : ℕ). p (code_word_at code j) ≡ true) e (row_passes p code n (at + 4) k (rest_of p (code_word_at code at) (rows_from code n (at + 4)) h) (omega arith))

gap_within : (low key high : ℤ) → int_lt key low ≡ false → int_lt high key ≡ false → int_gap low key ≤ int_gap low high
gap_within (pos l) (pos k) (pos h) a b = let le = ltb-false h k b in omega arith
gap_within (pos l) (pos k) (negsuc h) a b = cc
gap_within (pos l) (negsuc k) high a b = cc
gap_within (negsuc l) (pos k) (pos h) a b = let le = ltb-false h k b in omega arith
gap_within (negsuc l) (pos k) (negsuc h) a b = cc
gap_within (negsuc l) (negsuc k) (pos h) a b = omega arith
gap_within (negsuc l) (negsuc k) (negsuc h) a b = let le = ltb-false k h b in omega arith

table_case : (p : ℤ → Bool) (below above : Bool) (x y : ℤ) → p x ≡ true → (below ≡ false → above ≡ false → p y ≡ true) → p (if below || above then x else y) ≡ true
table_case p true above x y h i = h
table_case p false true x y h i = h
table_case p false false x y h i = i refl refl

table_passes : (p : ℤ → Bool) (code : List ℕ) (table : ℕ) (key : ℤ) → list_all p (code_word_at code table ∷ table_rows code table) ≡ true → p (table_target code table key) ≡ true
table_passes p code table key h =
    let low = code_word_at code (table + 4) in
    let high = code_word_at code (table + 8) in
    table_case p (int_lt key low) (int_lt high key) (code_word_at code table) (code_word_at code (table + 12 + int_gap low key * 4)) (first_of p (code_word_at code table) (table_rows code table) h)
    (λ a b. let le : int_gap low key ≤ int_gap low high = gap_within low key high a b in
    row_passes p code (row_count low high) (table + 12) (int_gap low key) (rest_of p (code_word_at code table) (table_rows code table) h) (omega arith))

-- .. and in the pairs of a lookup

find_step : (p : ℤ → Bool) (b : Bool) (q : ℕ × ℤ) (o : Option (ℕ × ℤ)) (d : ℤ) → p q.1 ≡ true → p (option_map_or (λ q. q.1) o d) ≡ true → p (option_map_or (λ q. q.1) (if b then Some q else o) d) ≡ true
find_step p true q o d h i = h
find_step p false q o d h i = i

find_passes : (p : ℤ → Bool) (test : ℕ × ℤ → Bool) (qs : List (ℕ × ℤ)) (d : ℤ) → p d ≡ true → list_all p (map (λ q. q.1) qs) ≡ true → p (option_map_or (λ q. q.1) (find test qs) d) ≡ true
find_passes p test [] d h i = h
find_passes p test (q ∷ qs) d h i = find_step p (test q) q (find test qs) d (first_of p q.1 (map (λ q. q.1) qs) i) (find_passes p test qs d h (rest_of p q.1 (map (λ q. q.1) qs) i))

lookup_passes : (p : ℤ → Bool) (code : List ℕ) (table : ℕ) (key : ℤ) → list_all p (code_word_at code table ∷ map (λ q. q.1) (lookup_pairs code table)) ≡ true → p (lookup_target code table key) ≡ true
lookup_passes p code table key h =
    find_passes p (λ q. q.0 == cast_unsigned w32 key) (lookup_pairs code table) (code_word_at code table) (first_of p (code_word_at code table) (map (λ q. q.1) (lookup_pairs code table)) h) (rest_of p (code_word_at code table) (map (λ q. q.1) (lookup_pairs code table)) h)

-- TARGETS

abbrev at_opcode : Instr → ℕ → Instr
at_opcode i opcode = record i { opcode = opcode }

branch_offsets : (code : List ℕ) (i : Instr) (b : Bool) (others : List ℤ) → b ≡ true → (if b then i.first ∷ [] else others) ≡ i.first ∷ []
branch_offsets code i true others e = refl
branch_offsets code i false others e = cc

branch_passes : (p : ℤ → Bool) (code : List ℕ) (i : Instr) → is_branch i.opcode ≡ true → list_all p (offsets code i) ≡ true → p i.first ≡ true
branch_passes p code i e h = first_of p i.first [] (subst (λ (os : List ℤ). list_all p os ≡ true) (branch_offsets code i (is_branch i.opcode) _ e) h)

pub switch_passes : (p : ℤ → Bool) (code : List ℕ) (i : Instr) (key : ℤ) → (i.opcode ≡ 0xaa) ⊎ (i.opcode ≡ 0xab) → list_all p (offsets code i) ≡ true → p (target_of code i key) ≡ true
switch_passes p code i key (inl o) h =
    let all : list_all p (code_word_at code i.table ∷ table_rows code i.table) ≡ true = subst (λ (k : ℕ). list_all p (offsets code (at_opcode i k)) ≡ true) o h in
    subst (λ (k : ℕ). p (target_of code (at_opcode i k) key) ≡ true) (sym o) (table_passes p code i.table key all)
switch_passes p code i key (inr o) h =
    let all : list_all p (code_word_at code i.table ∷ map (λ q. q.1) (lookup_pairs code i.table)) ≡ true = subst (λ (k : ℕ). list_all p (offsets code (at_opcode i k)) ≡ true) o h in
    subst (λ (k : ℕ). p (target_of code (at_opcode i k) key) ≡ true) (sym o) (lookup_passes p code i.table key all)

abbrev same_result : Instr × ℕ → Instr × ℕ → Type 0
same_result x y = let r : Result (Instr × ℕ) CodeFault = Ok x in r ≡ Ok y

same_instruction : (x : Instr × ℕ) (i : Instr) (next : ℕ) (r : Result (Instr × ℕ) CodeFault) → r ≡ Ok x → r ≡ Ok (i, next) → i ≡ x.0
same_instruction x i next r a b = let e : same_result (i, next) x = sym b ∙ a in cc

pub may_go : (b : Body) (tags : List ℕ) (pc : ℕ) (x : Instr × ℕ) (at : Site) (r : FrameRow) → IsKeptCode b tags → IsStart b.code pc → instruction_at b.code pc ≡ Ok x → row_of x.0.opcode ≡ Some (rows.Frame r)
    → at.instr ≡ x.0 → at.next ≡ x.1 → at.code ≡ b.code → MayGo b at r pc
may_go b tags pc x at r kept s e here instr next code =
    let has : HasInstruction b tags pc = kept.instructions pc s in
    let p : ℤ → Bool = λ offset. passes_test (is_start b.code) (pos pc +ℤ offset) in
    let all : list_all p (offsets b.code x.0) ≡ true = subst (λ (i : Instr). list_all p (offsets b.code i) ≡ true) (same_instruction x has.instruction has.next (instruction_at b.code pc) e has.decoded) has.keeps.targets in
    record {
      next = subst (λ (n : ℕ). IsPc b n) (sym next) (behind_pc b pc x s e);
      branch = λ c same. subst (λ (i : Instr). IsPc b (target pc i.first)) (sym instr)
          (start_passes b (pos pc +ℤ x.0.first) (branch_passes p b.code x.0 (opcode_of_branch x.0.opcode c (here ∙ ap (λ (q : FrameRow). Some (rows.Frame q)) same)) all));
      switch = λ same key. subst (λ (i : Instr). IsPc b (target pc (target_of at.code i key))) (sym instr)
          (subst (λ (bytes : List ℕ). IsPc b (target pc (target_of bytes x.0 key))) (sym code)
          (start_passes b (pos pc +ℤ target_of b.code x.0 key) (switch_passes p b.code x.0 key (opcode_of_switch x.0.opcode (here ∙ ap (λ (q : FrameRow). Some (rows.Frame q)) same)) all)));
    }
