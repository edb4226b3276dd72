-- The table of simple instructions, and what stands where one is.
use Rattle.std.proofs.Common.{◌≡◌, ℕ, zero, suc, ◌+◌, ◌<◌, ◌==◌, ◌&&◌, ◌||◌, Bool, true, false, List, [], ◌∷◌, ◌++◌, length, get_or, Option, Some, refl, sym, ap, ◌∙◌, arith}
use Rattle.std.specs.Prelude.{ℤ, pos, not, map, if◌then◌else◌, Result, Ok, Err}
use Rattle.std.specs.Int.{w8, w16}
use Rattle.std.specs.Option.{ok_or}
use Rattle.std.specs.Result.{result_ok}
use Rattle.std.proofs.Math.Dec.{eqb-suc-zero}
use Rattle.std.proofs.lemmas.Bool.{false≢true, and_parts, or_parts}
use Rattle.std.proofs.lemmas.List.{append-nil}
use Rattle.et_base.specs.Steps.{◌>>=◌}
use Rattle.et_base.specs.Numbers.{number_at}
use Rattle.et_code.specs.declared.form.Form.{Form}
use Rattle.et_code.specs.declared.form.Form.TheVariants as form
use Rattle.et_code.specs.declared.instr.Instr.{Instr}
use Rattle.et_code.specs.declared.instr.CodeFault.{CodeFault}
use Rattle.et_code.specs.declared.instr.CodeFault.TheVariants as fault
use Rattle.et_code.specs.declared.opcode.TheConstants.{TABLESWITCH, LOOKUPSWITCH}
use Rattle.et_code.specs.Decoding.{instr, operands_at, instruction_at, code_word_at}
use Rattle.et_code.specs.Switches.{table_rows, lookup_pairs}
use Rattle.et_code.specs.Forms.{run_of, form_runs, form_of}
use Rattle.et_code.specs.Rules.{is_branch, offsets}
use Rattle.et_event.specs.Sites.{target}
use Rattle.et_verify.specs.declared.simple.TheConstants.{LENGTHS}
use Rattle.et_verify.specs.Simple.{turns, IsSimple}

-- THE TABLE

abbrev is_form : ℕ → Form → Bool
is_form zero f = true
is_form (suc zero) form.Plain = true
is_form (suc (suc zero)) form.U1 = true
is_form (suc (suc (suc zero))) form.U2 = true
is_form n f = false

abbrev is_entry : ℕ → ℕ → Bool
is_entry n opcode = is_form n (run_of form_runs opcode) && ((n == 0) || not (turns opcode))

-- these are the lengths of the opcodes from k on
agrees : List ℕ → ℕ → Bool
agrees [] k = true
agrees (n ∷ ns) k = is_entry n k && agrees ns (suc k)

agrees_at : (ns : List ℕ) (k n m : ℕ) → agrees ns k ≡ true → n < length ns → m ≡ n + k → is_entry (get_or ns n 0) m ≡ true
unfolding agrees
agrees_at [] k n m e lt s = absurd (omega arith)
agrees_at (x ∷ ns) k zero m e lt s = let s' : m ≡ k = omega arith in ap (is_entry x) s' ∙ (and_parts _ _ e).0
agrees_at (x ∷ ns) k (suc n) m e lt s = agrees_at ns (suc k) n m (and_parts _ _ e).1 (omega arith) (omega arith)

table_agrees : agrees LENGTHS 0 ≡ true
unfolding agrees
table_agrees = refl

table_length : length LENGTHS ≡ 256
table_length = refl

-- of each of these lengths there is one form alone
forms_apart : (f : Form) → (is_form 1 f ≡ true → f ≡ form.Plain) × (is_form 2 f ≡ true → f ≡ form.U1) × (is_form 3 f ≡ true → f ≡ form.U2)
forms_apart form.Plain = (λ e. refl, λ e. absurd (false≢true e), λ e. absurd (false≢true e))
forms_apart form.U1 = (λ e. absurd (false≢true e), λ e. refl, λ e. absurd (false≢true e))
forms_apart form.S1 = (λ e. absurd (false≢true e), λ e. absurd (false≢true e), λ e. absurd (false≢true e))
forms_apart form.U2 = (λ e. absurd (false≢true e), λ e. absurd (false≢true e), λ e. refl)
forms_apart form.S2 = (λ e. absurd (false≢true e), λ e. absurd (false≢true e), λ e. absurd (false≢true e))
forms_apart form.S4 = (λ e. absurd (false≢true e), λ e. absurd (false≢true e), λ e. absurd (false≢true e))
forms_apart form.Increment = (λ e. absurd (false≢true e), λ e. absurd (false≢true e), λ e. absurd (false≢true e))
forms_apart form.LongIncrement = (λ e. absurd (false≢true e), λ e. absurd (false≢true e), λ e. absurd (false≢true e))
forms_apart form.Interface = (λ e. absurd (false≢true e), λ e. absurd (false≢true e), λ e. absurd (false≢true e))
forms_apart form.Dimensions = (λ e. absurd (false≢true e), λ e. absurd (false≢true e), λ e. absurd (false≢true e))
forms_apart form.Wide = (λ e. absurd (false≢true e), λ e. absurd (false≢true e), λ e. absurd (false≢true e))
forms_apart form.Table = (λ e. absurd (false≢true e), λ e. absurd (false≢true e), λ e. absurd (false≢true e))
forms_apart form.Lookup = (λ e. absurd (false≢true e), λ e. absurd (false≢true e), λ e. absurd (false≢true e))
forms_apart form.Refused = (λ e. absurd (false≢true e), λ e. absurd (false≢true e), λ e. absurd (false≢true e))
forms_apart form.Unknown = (λ e. absurd (false≢true e), λ e. absurd (false≢true e), λ e. absurd (false≢true e))

form_one : (n : ℕ) (f : Form) → is_form n f ≡ true → n ≡ 1 → f ≡ form.Plain
form_one n f e one = (forms_apart f).0 (ap (λ (k : ℕ). is_form k f) (sym one) ∙ e)

form_two : (n : ℕ) (f : Form) → is_form n f ≡ true → n ≡ 2 → f ≡ form.U1
form_two n f e two = (forms_apart f).1 (ap (λ (k : ℕ). is_form k f) (sym two) ∙ e)

form_three : (n : ℕ) (f : Form) → is_form n f ≡ true → n ≡ 3 → f ≡ form.U2
form_three n f e three = (forms_apart f).2 (ap (λ (k : ℕ). is_form k f) (sym three) ∙ e)

no_turn : (n : ℕ) (b : Bool) → ((n == 0) || not b) ≡ true → 0 < n → b ≡ false
no_turn zero b e lt = absurd (omega (arith, lt))
no_turn (suc n) true e lt = absurd (false≢true (sym (ap (λ (b : Bool). b || false) (eqb-suc-zero n)) ∙ e))
no_turn (suc n) false e lt = refl

pub simple_at : (opcode : ℕ) → opcode < 256 → IsSimple opcode (get_or LENGTHS opcode 0)
unfolding form_of
simple_at opcode lt =
    let n : ℕ = get_or LENGTHS opcode 0 in
    let is : is_entry n opcode ≡ true = agrees_at LENGTHS 0 opcode opcode table_agrees (omega (arith, table_length)) (omega arith) in
    let parts = and_parts (is_form n (run_of form_runs opcode)) ((n == 0) || not (turns opcode)) is in
    record {
      one = λ e. form_one n (run_of form_runs opcode) parts.0 e;
      two = λ e. form_two n (run_of form_runs opcode) parts.0 e;
      three = λ e. form_three n (run_of form_runs opcode) parts.0 e;
      straight = λ some. no_turn n (turns opcode) parts.1 some;
    }

-- WHAT STANDS THERE

module _ (code : List ℕ) (pc opcode at : ℕ) (here : number_at w8 code pc ≡ Some (opcode, at)) where
  read_here : (f : Form) → form_of opcode ≡ f → instruction_at code pc ≡ operands_at code pc opcode at f
  unfolding instruction_at
  read_here f e = ap (λ (o : Option (ℕ × ℕ)). ok_or o fault.Short >>= (λ (x : ℕ × ℕ). operands_at code pc x.0 x.1 (form_of x.0))) here ∙ ap (operands_at code pc opcode at) e

  -- .. with an operand
  abbrev one_number : ℕ × ℕ → Result (Instr × ℕ) CodeFault
  one_number x = Ok (instr opcode false (pos x.0) (pos 0) 0, x.1)

  operand_there : (n next : ℕ) (o : Option (ℕ × ℕ)) → o ≡ Some (n, next) → (ok_or o fault.Short >>= (λ (x : ℕ × ℕ). one_number x)) ≡ one_number (n, next)
  operand_there n next o e = ap (λ (p : Option (ℕ × ℕ)). ok_or p fault.Short >>= (λ (x : ℕ × ℕ). one_number x)) e

  pub plain_here : form_of opcode ≡ form.Plain → instruction_at code pc ≡ Ok (instr opcode false (pos 0) (pos 0) 0, at)
  plain_here e = read_here form.Plain e

  pub byte_here : (n next : ℕ) → form_of opcode ≡ form.U1 → number_at w8 code at ≡ Some (n, next) → instruction_at code pc ≡ Ok (instr opcode false (pos n) (pos 0) 0, next)
  byte_here n next e there = read_here form.U1 e ∙ operand_there n next (number_at w8 code at) there

  pub short_here : (n next : ℕ) → form_of opcode ≡ form.U2 → number_at w16 code at ≡ Some (n, next) → instruction_at code pc ≡ Ok (instr opcode false (pos n) (pos 0) 0, next)
  short_here n next e there = read_here form.U2 e ∙ operand_there n next (number_at w16 code at) there

pub no_offsets : (code : List ℕ) (i : Instr) → turns i.opcode ≡ false → offsets code i ≡ []
no_offsets code i e =
    let some = or_parts (is_branch i.opcode || (i.opcode == TABLESWITCH)) (i.opcode == LOOKUPSWITCH) e in
    let one = or_parts (is_branch i.opcode) (i.opcode == TABLESWITCH) some.0 in
    ap (λ (b : Bool). if b then i.first ∷ [] else (if i.opcode == TABLESWITCH then code_word_at code i.table ∷ table_rows code i.table else (if i.opcode == LOOKUPSWITCH then code_word_at code i.table ∷ map (λ p. p.1) (lookup_pairs code i.table) else []))) one.0
    ∙ (ap (λ (b : Bool). if b then code_word_at code i.table ∷ table_rows code i.table else (if i.opcode == LOOKUPSWITCH then code_word_at code i.table ∷ map (λ p. p.1) (lookup_pairs code i.table) else [])) one.1
    ∙ ap (λ (b : Bool). if b then code_word_at code i.table ∷ map (λ p. p.1) (lookup_pairs code i.table) else []) some.1)

pub no_targets : (places : List ℕ) (pc : ℕ) (code : List ℕ) (i : Instr) → turns i.opcode ≡ false → places ≡ places ++ map (target pc) (offsets code i)
no_targets places pc code i e = sym (append-nil places) ∙ ap (λ (os : List ℤ). places ++ map (target pc) os) (sym (no_offsets code i e))

-- AN ANSWER

pub is_ok : (r : Result (Instr × ℕ) CodeFault) (x : Instr × ℕ) → result_ok r ≡ Some x → r ≡ Ok x
is_ok (Ok y) x e = cc
is_ok (Err f) x e = cc

pub with_next : (next : ℕ) (i j : Instr) → i ≡ j → ◌≡◌ {A = Result (Instr × ℕ) CodeFault} (Ok (i, next)) (Ok (j, next))
with_next next i j e = ap (λ (x : Instr). let r : Result (Instr × ℕ) CodeFault = Ok (x, next) in r) e
