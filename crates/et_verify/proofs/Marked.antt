-- The places of instructions, and their targets, are flagged one after another.
use Rattle.std.proofs.Common.{◌≡◌, ℕ, ◌<◌, Bool, true, false, List, [], ◌∷◌, ◌==◌, Contains, ap, length, set, map, refl, sym, ◌∙◌, subst, inl, inr, arith, get_or-set_other}
use Rattle.std.specs.Prelude.{ℤ, if◌then◌else◌, Result, Ok, Err, Some, None, option_map}
use Rattle.std.specs.Result.{result_ok}
use Rattle.std.proofs.lemmas.Bool.{cases_eq}
use Rattle.std.proofs.lemmas.List.Elements.{Contains-push_cases}
use Rattle.et_code.specs.declared.instr.Instr.{Instr}
use Rattle.et_code.specs.declared.instr.CodeFault.{CodeFault}
use Rattle.et_code.specs.declared.opcode.TheConstants.{TABLESWITCH, LOOKUPSWITCH}
use Rattle.et_code.specs.Decoding.{instruction_at, code_word_at}
use Rattle.et_code.specs.Switches.{table_rows, lookup_pairs}
use Rattle.et_code.specs.Rules.{flag, is_branch, offsets}
use Rattle.et_code.specs.Starts.{is_start}
use Rattle.et_code.proofs.Starting.{Flagged, flags_last}
use Rattle.et_event.specs.Sites.{target}
use Rattle.et_verify.specs.Targets.{KeepsFlags, AreFlagged, place_behind}

-- an instruction stands before the place behind it
pub record StandsBefore (code : List ℕ) (pc next : ℕ) : Type 0 where
  pub instr : Instr
  pub is : instruction_at code pc ≡ Ok (instr, next)

pub stands_before : (code : List ℕ) (pc next : ℕ) → Some next ≡ place_behind code pc → StandsBefore code pc next
stands_before code pc next e = by (instruction_at code pc) refl (sym e)
  where
    by : (r : Result (Instr × ℕ) CodeFault) → instruction_at code pc ≡ r → option_map (λ x. x.1) (result_ok r) ≡ Some next → StandsBefore code pc next
    by (Ok x) at same = (let n : x.1 ≡ next = cc in subst (λ (k : ℕ). StandsBefore code pc k) n (record { instr = x.0; is = at }))
    by (Err f) at same = absurd (cc same)

pub flags_end_there : (code : List ℕ) (flags : List Bool) (pc : ℕ) → pc < length code → length flags ≡ length code → None ≡ place_behind code pc → Flagged code flags pc → (place : ℕ) → flag (set flags pc true) place ≡ is_start code place
flags_end_there code flags pc lt size e all = by (instruction_at code pc) refl (sym e)
  where
    by : (r : Result (Instr × ℕ) CodeFault) → instruction_at code pc ≡ r → option_map (λ x. x.1) (result_ok r) ≡ None → (place : ℕ) → flag (set flags pc true) place ≡ is_start code place
    by (Ok x) at same = absurd (cc same)
    by (Err f) at same = flags_last code flags pc f lt size at all

abbrev pub Marks : List ℕ → List Bool → List Bool → Type 0
Marks code starts flags = (k : ℕ) (i : Instr) (next : ℕ) → flag starts k ≡ true → instruction_at code k ≡ Ok (i, next) → AreFlagged flags (map (target k) (offsets code i))

pub marked_more : (code : List ℕ) (starts old new : List Bool) (pc : ℕ) → Marks code starts old → KeepsFlags old new → length old ≡ length new → ((i : Instr) (next : ℕ) → instruction_at code pc ≡ Ok (i, next) → AreFlagged new (map (target pc) (offsets code i))) → Marks code (set starts pc true) new
marked_more code starts old new pc marked kept long here k i next on at = elim (cases_eq k pc) [
  | inl same ↦ subst (λ (n : ℕ). AreFlagged new (map (target n) (offsets code i))) (sym same) (here i next (subst (λ (n : ℕ). instruction_at code n ≡ Ok (i, next)) same at))
  | inr ne ↦ λ q there lt. kept q (marked k i next (sym (get_or-set_other starts pc k true false ne) ∙ on) at q there (omega (arith, lt, long)))
]

-- THE TARGET of a branch

some_instruction : (i j : Instr) (a b : ℕ) → ◌≡◌ {A = Result (Instr × ℕ) CodeFault} (Ok (i, a)) (Ok (j, b)) → i ≡ j
some_instruction i j a b e = let same : (i, a) ≡ (j, b) = cc in ap (λ (x : Instr × ℕ). x.0) same

pub branch_flagged : (flags : List Bool) (code : List ℕ) (pc place : ℕ) (j : Instr) (n : ℕ) → instruction_at code pc ≡ Ok (j, n) → is_branch j.opcode ≡ true → place ≡ target pc j.first → (place < length flags → flag flags place ≡ true)
    → (i : Instr) (next : ℕ) → instruction_at code pc ≡ Ok (i, next) → AreFlagged flags (map (target pc) (offsets code i))
branch_flagged flags code pc place j n at b is on i next e q there lt =
    let same : i ≡ j = some_instruction i j next n (sym e ∙ at) in
    let one : offsets code j ≡ j.first ∷ [] = ap (λ (x : Bool). if x then j.first ∷ [] else (if j.opcode == TABLESWITCH then code_word_at code j.table ∷ table_rows code j.table else (if j.opcode == LOOKUPSWITCH then code_word_at code j.table ∷ map (λ p. p.1) (lookup_pairs code j.table) else []))) b in
    let all : map (target pc) (offsets code i) ≡ place ∷ [] = ap (λ (k : Instr). map (target pc) (offsets code k)) same ∙ (ap (λ (os : List ℤ). map (target pc) os) one ∙ ap (λ (k : ℕ). k ∷ []) (sym is)) in
    elim (Contains-push_cases [] place q (subst (λ (ps : List ℕ). Contains ps q) all there)) [
      | inl none ↦ absurd (omega (arith, none.1))
      | inr here ↦ subst (λ (k : ℕ). flag flags k ≡ true) here (on (omega (arith, here, lt)))
    ]
