-- Where no mark is broken, each rule holds.
use Rattle.std.proofs.Common.{◌≡◌, ℕ, ◌+◌, ◌^◌, ◌<◌, Bool, true, false, ◌||◌, List, [], ◌∷◌, ◌++◌, length, All, None, Result, Ok, Err, refl, sym, ap, subst, ◌∙◌, rules, inl, inr}
use Rattle.std.specs.Prelude.{nat_le, nat_lt}
use Rattle.std.specs.List.{flat_map}
use Rattle.std.proofs.lemmas.Bool.{cases_eq, ne_eqb, and_parts, ltb-true, not-true}
use Rattle.et_base.specs.Marks.{Mark, Breaks, MarksAre, mark}
use Rattle.et_code.specs.declared.instr.CodeFault.{CodeFault}
use Rattle.et_code.specs.declared.instr.CodeFault.TheVariants as fault
use Rattle.et_code.specs.declared.instr.Instr.{Instr}
use Rattle.et_code.specs.declared.body.TableRow.{TableRow}
use Rattle.et_code.specs.Decoding.{instruction_at}
use Rattle.et_code.specs.Bodies.{Body}
use Rattle.et_code.specs.Starts.{starts, is_start}
use Rattle.et_code.specs.Rules.{decoded_marks, marks_at, row_holds, rows_marks, code_marks, KeepsRules}
use Rattle.et_code.specs.Kept.{HasInstruction, IsKeptCode}
use Rattle.et_code.proofs.Starting.{has, starts_are_all}

abbrev AllHold : List Mark → Type 0
AllHold [] = Unit {0}
AllHold (m ∷ ms) = (m.holds ≡ true) × AllHold ms

one_holds : (place kind : ℕ) (holds : Bool) (ms : List Mark) → ((p k : ℕ) → Breaks (mark place kind holds ∷ ms) p k → ⊥) → holds ≡ true
one_holds place kind true ms h = refl
one_holds place kind false ms h = absurd (h place kind (inl (refl, refl, refl)))

all_hold : (ms : List Mark) → ((p k : ℕ) → Breaks ms p k → ⊥) → AllHold ms
all_hold [] h = tt
all_hold (m ∷ ms) h = (one_holds m.place m.kind m.holds ms h, all_hold ms (λ p k b. h p k (inr b)))

pub front : (xs ys : List Mark) → AllHold (xs ++ ys) → AllHold xs
front [] ys h = tt
front (m ∷ xs) ys h = (h.0, front xs ys h.1)

pub back : (xs ys : List Mark) → AllHold (xs ++ ys) → AllHold ys
back [] ys h = h
back (m ∷ xs) ys h = back xs ys h.1

at_member : (f : ℕ → List Mark) (pcs : List ℕ) (pc : ℕ) → has pcs pc ≡ true → AllHold (flat_map f pcs) → AllHold (f pc)
at_member f [] pc e h = cc
at_member f (p ∷ pcs) pc e h =
    elim (cases_eq p pc) [
      | inl same ↦ subst (λ x. AllHold (f x)) same (front (f p) (flat_map f pcs) h)
      | inr other ↦ at_member f pcs pc (ap (λ a. a || has pcs pc) (sym (ne_eqb p pc other)) ∙ e) (back (f p) (flat_map f pcs) h)
    ]

instruction : (b : Body) (tags : List ℕ) (pc : ℕ) (r : Result (Instr × ℕ) CodeFault) → instruction_at b.code pc ≡ r → AllHold (decoded_marks b tags (is_start b.code) pc r) → HasInstruction b tags pc
instruction b tags pc (Ok x) e h = record {
  instruction = x.0;
  next = x.1;
  decoded = e;
  keeps = record {
    locals = h.0;
    named = h.1.0;
    loaded = not-true _ h.1.1.0;
    kind = h.1.1.1.0;
    element = not-true _ h.1.1.1.1.0;
    targets = h.1.1.1.1.1.0;
    keys = h.1.1.1.1.1.1.0;
  };
}
instruction b tags pc (Err fault.Opcode) e h = let no = h.0 in cc
instruction b tags pc (Err fault.Short) e h = let no = h.0 in cc
instruction b tags pc (Err fault.Unsupported) e h = let no = h.0 in cc

rows_hold : (size : ℕ) (tags : List ℕ) (test : ℕ → Bool) (place : ℕ) (rows : List TableRow) → AllHold (rows_marks size tags test place rows) → All (λ row. row_holds size tags test row ≡ true) rows
unfolding rows_marks
rows_hold size tags test place [] h = search rules
rows_hold size tags test place (row ∷ rows) h = let here = h.0 in let more = rows_hold size tags test (place + 8) rows h.1 in search rules

pub kept_code : (b : Body) (tags : List ℕ) → MarksAre (code_marks b tags) None → IsKeptCode b tags
kept_code b tags h =
    let all = all_hold (code_marks b tags) h in
    let instructions = flat_map (marks_at b tags (is_start b.code)) (starts b.code) in
    let rows = rows_marks (length b.code) tags (is_start b.code) (length b.code + 6) b.table in
    record {
      sized = all.0;
      instructions = λ pc s. instruction b tags pc (instruction_at b.code pc) refl (at_member (marks_at b tags (is_start b.code)) (starts b.code) pc (search (rules, (starts_are_all b.code pc).1 s)) (front instructions rows all.1));
      rows = rows_hold (length b.code) tags (is_start b.code) (length b.code + 6) b.table (back instructions rows all.1);
    }

-- code that keeps the rules has fewer than 65,536 bytes
pub few_bytes : (b : Body) → KeepsRules b → length b.code < 2 ^ 16
few_bytes b k = ltb-true (length b.code) (2 ^ 16) (and_parts (nat_le 1 (length b.code)) (nat_lt (length b.code) (2 ^ 16)) (kept_code b k.tags k.kept).sized).1
