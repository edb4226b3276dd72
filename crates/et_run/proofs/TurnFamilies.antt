-- The family of a turn that is an instruction is that of the byte at its pc.
use Rattle.std.proofs.Common.{◌≡◌, ℕ, ◌+◌, ◌&&◌, Bool, true, false, not, cond, ltb, List, length, Option, Some, None, Result, Ok, refl, sym, ap, ◌∙◌, subst, inl, inr, arith, lt-ltb}
use Rattle.std.specs.Prelude.{IfOk, if◌then◌else◌}
use Rattle.std.specs.Int.{w8}
use Rattle.std.specs.List.{list_all}
use Rattle.std.specs.Option.{ok_or}
use Rattle.et_base.specs.Numbers.{number_at}
use Rattle.et_base.specs.Steps.{◌>>=◌}
use Rattle.et_code.specs.declared.instr.CodeFault.{CodeFault}
use Rattle.et_code.specs.declared.instr.CodeFault.TheVariants as fault
use Rattle.et_code.specs.declared.instr.Instr.{Instr}
use Rattle.et_code.specs.declared.form.Form.{Form}
use Rattle.et_code.specs.declared.form.Form.TheVariants as form
use Rattle.et_code.specs.Bodies.{Body}
use Rattle.et_code.specs.Decoding.{instruction_at, operands_at}
use Rattle.et_code.specs.Forms.{form_of, wide_form_of}
use Rattle.et_code.specs.Kept.{HasInstruction}
use Rattle.et_code.specs.Rules.{KeepsRules}
use Rattle.et_code.proofs.Keeping.{kept_code}
use Rattle.et_program.specs.Entries.{Linked}
use Rattle.et_state.specs.State.{Kept}
use Rattle.et_state.specs.Threads.{FrameState, turn_of}
use Rattle.et_state.specs.Words.{thread_at, top}
use Rattle.et_state.specs.declared.stage.Turn.TheVariants.{Instruction}
use Rattle.et_event.specs.Families.{family_of, family_of_row, row_at}
use Rattle.et_event.specs.PlainRows.{is_plain}
use Rattle.et_event.specs.Runnable.{IsRunnable}
use Rattle.et_event.specs.Sites.{code_of_frame, decoded_at}
use Rattle.et_event.specs.Sound.{IsPc, IsSoundFor}
use Rattle.et_event.specs.Table.{row_of, rows}
use Rattle.et_event.specs.declared.families.Family.TheVariants.{Ops}
use Rattle.et_event.specs.declared.rows.Row.{Row}
use Rattle.et_event.specs.declared.rows.Row.TheVariants as row
use Rattle.et_event.proofs.FamilyTurns.{family_here}
use Rattle.et_event.specs.Places.{Runs}
use Rattle.et_event.proofs.Placing.{body_runs}
use Rattle.et_event.proofs.RowsAmong.{among}
use Rattle.et_event.proofs.Running.{runs_there}
use Rattle.et_run.proofs.Opcodes.{Follows, IsWidened, OneOperand, TwoOperands, decoded_behind}

-- `wide` HAS NO ROW, and what may stand behind it has a plain one

abbrev is_wide : Form → Bool
is_wide form.Wide = true
is_wide other = false

abbrev is_widened : Form → Bool
is_widened form.U2 = true
is_widened form.LongIncrement = true
is_widened other = false

abbrev fine : ℕ × Row → Bool
fine e = not (is_wide (form_of e.0)) && (if is_widened (wide_form_of e.0) then is_plain e.1 else true)

all_fine : list_all fine rows ≡ true
unfolding form_of
all_fine = refl

plain : (r : Row) → is_plain r ≡ true → family_of_row (Some r) ≡ Ops
plain (row.Frame r) e = refl
plain row.PoolConstant e = refl
plain (row.Divide n o) e = refl
plain (row.Heap r) e = cc
plain (row.Call r) e = cc
plain row.Throw e = cc
plain (row.Monitor r) e = cc

fine_row : (opcode : ℕ) (r : Row) → row_of opcode ≡ Some r → fine (opcode, r) ≡ true
unfolding row_of
fine_row opcode r e = among fine rows opcode r all_fine e

not_wide : (f : Form) (r : Row) (b : Bool) → f ≡ form.Wide → not (is_wide f) && b ≡ true → ⊥
not_wide f r b is e = absurd (no (subst (λ (x : Form). not (is_wide x) && b ≡ true) is e))
  where
    no : (not (is_wide form.Wide) && b ≡ true) → ⊥
    no h = cc

widens : (f : Form) (r : Row) (b : Bool) → is_widened f ≡ true → b && (if is_widened f then is_plain r else true) ≡ true → is_plain r ≡ true
widens f r true is e = subst (λ (x : Bool). (if x then is_plain r else true) ≡ true) is e
widens f r false is e = cc

wide_ops : (opcode : ℕ) (r : Option Row) → row_of opcode ≡ r → form_of opcode ≡ form.Wide → family_of_row r ≡ Ops
wide_ops opcode None e wide = refl
wide_ops opcode (Some r) e wide = absurd (not_wide (form_of opcode) r (if is_widened (wide_form_of opcode) then is_plain r else true) wide (fine_row opcode r e))

widened_form : (opcode : ℕ) → IsWidened opcode → is_widened (wide_form_of opcode) ≡ true
widened_form opcode (OneOperand e) = ap is_widened e
widened_form opcode (TwoOperands e) = ap is_widened e

widened_ops : (opcode : ℕ) (r : Option Row) → row_of opcode ≡ r → IsWidened opcode → family_of_row r ≡ Ops
widened_ops opcode None e widened = refl
widened_ops opcode (Some r) e widened = plain r (widens (wide_form_of opcode) r (not (is_wide (form_of opcode))) (widened_form opcode widened) (fine_row opcode r e))

same_family : (opcode : ℕ) (i : Instr) → Follows opcode i → family_of_row (row_of i.opcode) ≡ family_of_row (row_of opcode)
same_family opcode i (inl e) = ap (λ (o : ℕ). family_of_row (row_of o)) e
same_family opcode i (inr (wide, widened)) = widened_ops i.opcode (row_of i.opcode) refl widened ∙ sym (wide_ops opcode (row_of opcode) refl wide)

-- AN INSTRUCTION OF CODE THAT KEEPS THE RULES is of the family of its first byte

decoded_family : (code : List ℕ) (pc opcode next : ℕ) (x : Instr × ℕ) → number_at w8 code pc ≡ Some (opcode, next) → instruction_at code pc ≡ Ok x → family_of_row (row_at (instruction_at code pc)) ≡ family_of_row (row_of opcode)
decoded_family code pc opcode next x byte decoded =
    let follows : Follows opcode x.0 =
    subst (λ (r : Result (Instr × ℕ) CodeFault). IfOk r (λ y. Follows opcode y.0)) decoded
    (decoded_behind code pc opcode next (ap (λ (o : Option (ℕ × ℕ)). ok_or o fault.Short) byte)) in
    ap (λ (r : Result (Instr × ℕ) CodeFault). family_of_row (row_at r)) decoded ∙ same_family opcode x.0 follows

no_byte : (opcode next : ℕ) (b : Bool) (n : ℕ × ℕ) → b ≡ true → cond b None (Some n) ≡ Some (opcode, next) → ⊥
no_byte opcode next true n is e = cc
no_byte opcode next false n is e = cc

family_in : (b : Body) (pc opcode next : ℕ) → KeepsRules b → IsPc b pc → number_at w8 b.code pc ≡ Some (opcode, next) → family_of_row (row_at (instruction_at b.code pc)) ≡ family_of_row (row_of opcode)
family_in b pc opcode next keeps (inl start) byte =
    let has : HasInstruction b keeps.tags pc = (kept_code b keeps.tags keeps.kept).instructions pc start in
    decoded_family b.code pc opcode next (has.instruction, has.next) byte has.decoded
family_in b pc opcode next keeps (inr end) byte =
    absurd (no_byte opcode next (ltb (length b.code) (pc + 1)) _ (lt-ltb (length b.code) (pc + 1) (omega (arith, end))) byte)

module _ (p : Linked) (s : Kept) (t : ℕ) (runnable : IsRunnable p) (sound : IsSoundFor p s) (turn : turn_of (thread_at s.guest t) ≡ Instruction) where
  pub byte_family : (opcode next : ℕ) → number_at w8 (code_of_frame p (top s.guest t)).code (top s.guest t).pc ≡ Some (opcode, next) → family_of p s t ≡ family_of_row (row_of opcode)
  byte_family opcode next byte =
      let f : FrameState = top s.guest t in
      let r : Runs p f = runs_there p s t sound turn in
      let keeps : KeepsRules r.runs.body = runnable.rules r.method r.runs.body r.runs.method r.runs.code in
      let here : family_of_row (row_at (decoded_at p f)) ≡ family_of_row (row_of opcode) =
      subst (λ (b : Body). IsPc b f.pc → KeepsRules b → family_of_row (row_at (decoded_at p f)) ≡ family_of_row (row_of opcode)) (body_runs p f r)
      (λ pc rules. family_in (code_of_frame p f) f.pc opcode next rules pc byte) r.runs.pc keeps in
      family_here p s t (row_at (decoded_at p f)) turn refl ∙ here

  ended : (code : List ℕ) (pc : ℕ) → number_at w8 code pc ≡ None → row_at (instruction_at code pc) ≡ None
  unfolding instruction_at
  ended code pc e = ap (λ (o : Option (ℕ × ℕ)). row_at (ok_or o fault.Short >>= λ x. operands_at code pc x.0 x.1 (form_of x.0))) e

  pub end_family : number_at w8 (code_of_frame p (top s.guest t)).code (top s.guest t).pc ≡ None → family_of p s t ≡ Ops
  end_family none = family_here p s t None turn (ended (code_of_frame p (top s.guest t)).code (top s.guest t).pc none)
