-- What holds of an instruction that was decoded: it ends behind its beginning and within the code, with its rows.
use Rattle.std.proofs.Common.{◌≡◌, ℕ, ◌+◌, ◌*◌, ◌^◌, ◌≤◌, ◌<◌, Bool, true, false, cond, ltb, leb, List, length, drop, Some, None, Result, Ok, Err, refl, sym, ap, subst, ◌∙◌, arith}
use Rattle.std.specs.Prelude.{pos, int_lt, IfOk}
use Rattle.std.specs.Option.{ok_or}
use Rattle.std.specs.Int.{Width, w8, w16, w32, byte_len, from_be_bytes, cast_signed}
use Rattle.std.proofs.lemmas.Bool.{ltb-false}
use Rattle.et_code.specs.declared.instr.CodeFault.{CodeFault}
use Rattle.et_code.specs.declared.instr.CodeFault.TheVariants as fault
use Rattle.et_code.specs.declared.instr.Instr.{Instr}
use Rattle.et_code.specs.declared.form.Form.{Form}
use Rattle.et_code.specs.declared.form.Form.TheVariants as form
use Rattle.et_code.specs.Forms.{form_of, wide_form_of}
use Rattle.et_code.specs.Decoding.{read, instr, table_place, bits_at, code_word_at, rows_at, row_count, table_instruction, table_at, lookup_at, wide_at, behind_wide, operands_at, instruction_at, Fits}
use Rattle.et_base.specs.Steps.{◌>>=◌}

-- an outcome whose instruction, where there is one, fits
abbrev Good : List ℕ → ℕ → Result (Instr × ℕ) CodeFault → Type 0
Good code pc r = IfOk r (λ x. Fits code pc x.0 x.1)

Good-guard : {A : Type 0} (code : List ℕ) (pc : ℕ) (b : Bool) (x : A) (f : A → Result (Instr × ℕ) CodeFault) → (b ≡ false → Good code pc (f x)) → Good code pc (ok_or (cond b None (Some x)) fault.Short >>= f)
Good-guard code pc true x f h = tt
Good-guard code pc false x f h = h refl

-- behind a number that was read the code goes on
Good-read : (code : List ℕ) (pc : ℕ) (w : Width) (at : ℕ) (f : ℕ × ℕ → Result (Instr × ℕ) CodeFault) → (at + byte_len w ≤ length code → Good code pc (f (from_be_bytes w (drop at code), at + byte_len w))) → Good code pc (read w code at >>= f)
Good-read code pc w at f h = Good-guard code pc (ltb (length code) (at + byte_len w)) (from_be_bytes w (drop at code), at + byte_len w) f (λ e. h (ltb-false _ _ e))

Good-if : (code : List ℕ) (pc : ℕ) (b : Bool) (x y : Result (Instr × ℕ) CodeFault) → (b ≡ true → Good code pc x) → (b ≡ false → Good code pc y) → Good code pc (cond b x y)
Good-if code pc true x y h i = h refl
Good-if code pc false x y h i = i refl

table_form : form_of 0xaa ≡ form.Table
unfolding form_of
table_form = refl

lookup_form : form_of 0xab ≡ form.Lookup
unfolding form_of
lookup_form = refl

table_lookup : form.Table ≡ form.Lookup → ⊥
table_lookup e = cc

plus_eight : (n : ℕ) → n + 4 + 4 ≡ n + 8
plus_eight n = omega arith

-- an opcode of another form is no switch's
other : (code : List ℕ) (pc : ℕ) (i : Instr) (next : ℕ) (f : Form) → form_of i.opcode ≡ f → (form.Table ≡ f → ⊥) → (form.Lookup ≡ f → ⊥) → pc < next → next ≤ length code → Fits code pc i next
other code pc i next f e no_table no_lookup after within = record {
  advances = after;
  within = within;
  table = λ o. absurd (no_table (sym table_form ∙ (ap form_of (sym o) ∙ e)));
  lookup = λ o. absurd (no_lookup (sym lookup_form ∙ (ap form_of (sym o) ∙ e)));
}

-- and so is one that may stand behind a `wide`
wide_one : (code : List ℕ) (pc : ℕ) (i : Instr) (next : ℕ) (f : Form) → wide_form_of i.opcode ≡ f → (form.Unknown ≡ f → ⊥) → pc < next → next ≤ length code → Fits code pc i next
wide_one code pc i next f e known after within = record {
  advances = after;
  within = within;
  table = λ o. absurd (known (ap wide_form_of (sym o) ∙ e));
  lookup = λ o. absurd (known (ap wide_form_of (sym o) ∙ e));
}

Good-wide : (code : List ℕ) (pc opcode at : ℕ) (f : Form) → pc < at → wide_form_of opcode ≡ f → Good code pc (wide_at code opcode at f)
Good-wide code pc opcode at form.U2 lt e = Good-read code pc w16 at (λ n. Ok (instr opcode true (pos n.0) (pos 0) 0, n.1)) (λ le. wide_one code pc _ _ form.U2 e (λ p. cc) (omega arith) le)
Good-wide code pc opcode at form.LongIncrement lt e = Good-read code pc w16 at (λ m. read w16 code m.1 >>= λ n. Ok (instr opcode true (pos m.0) (cast_signed w16 n.0) 0, n.1)) (λ le. Good-read code pc w16 (at + 2) (λ n. Ok (instr opcode true (pos (from_be_bytes w16 (drop at code))) (cast_signed w16 n.0) 0, n.1)) (λ le2. wide_one code pc _ _ form.LongIncrement e (λ p. cc) (omega arith) le2))
Good-wide code pc opcode at form.Refused lt e = tt
Good-wide code pc opcode at form.Plain lt e = tt
Good-wide code pc opcode at form.S1 lt e = tt
Good-wide code pc opcode at form.U1 lt e = tt
Good-wide code pc opcode at form.S2 lt e = tt
Good-wide code pc opcode at form.S4 lt e = tt
Good-wide code pc opcode at form.Increment lt e = tt
Good-wide code pc opcode at form.Interface lt e = tt
Good-wide code pc opcode at form.Dimensions lt e = tt
Good-wide code pc opcode at form.Wide lt e = tt
Good-wide code pc opcode at form.Table lt e = tt
Good-wide code pc opcode at form.Lookup lt e = tt
Good-wide code pc opcode at form.Unknown lt e = tt

Good-behind : (code : List ℕ) (pc at : ℕ) → pc < at → Good code pc (behind_wide code at)
unfolding behind_wide
Good-behind code pc at lt = Good-read code pc w8 at (λ o. wide_at code o.0 o.1 (wide_form_of o.0)) (λ le. Good-wide code pc (from_be_bytes w8 (drop at code)) (at + 1) (wide_form_of (from_be_bytes w8 (drop at code))) (omega arith) refl)

Good-rows : (code : List ℕ) (pc opcode at size : ℕ) → (at + size ≤ length code → Fits code pc (instr opcode false (pos 0) (pos 0) (table_place pc)) (at + size)) → Good code pc (rows_at code pc opcode at size)
Good-rows code pc opcode at size h = Good-if code pc (ltb (length code) (at + size)) _ _ (λ e. tt) (λ e. h (ltb-false _ _ e))

behind : (pc : ℕ) → pc < table_place pc
behind pc = omega arith

Good-table : (code : List ℕ) (pc opcode : ℕ) → form_of opcode ≡ form.Table → Good code pc (table_at code pc opcode)
unfolding table_at
Good-table code pc opcode e =
    let low = code_word_at code (table_place pc + 4) in
    let high = code_word_at code (table_place pc + 4 + 4) in
    Good-read code pc w32 (table_place pc) (λ d. read w32 code d.1 >>= λ l. read w32 code l.1 >>= λ h. table_instruction code pc opcode h.1 (cast_signed w32 l.0) (cast_signed w32 h.0))
    (λ a. Good-read code pc w32 (table_place pc + 4) (λ l. read w32 code l.1 >>= λ h. table_instruction code pc opcode h.1 (cast_signed w32 l.0) (cast_signed w32 h.0))
    (λ b. Good-read code pc w32 (table_place pc + 4 + 4) (λ h. table_instruction code pc opcode h.1 low (cast_signed w32 h.0))
    (λ c. Good-if code pc (int_lt high low) _ _ (λ t. tt) (λ t. Good-rows code pc opcode (table_place pc + 4 + 4 + 4) (row_count low high * 4) (λ le. record {
      advances = omega (arith, behind pc);
      within = le;
      table = λ o. record {
        ordered = subst (λ p. int_lt (code_word_at code p) low ≡ false) (plus_eight (table_place pc)) t;
        within = subst (λ p. table_place pc + 12 + row_count low (code_word_at code p) * 4 ≤ length code) (plus_eight (table_place pc)) (omega (arith, le));
      };
      lookup = λ o. absurd (table_lookup (sym e ∙ (ap form_of o ∙ lookup_form)));
    })))))

Good-lookup : (code : List ℕ) (pc opcode : ℕ) → form_of opcode ≡ form.Lookup → Good code pc (lookup_at code pc opcode)
unfolding lookup_at
Good-lookup code pc opcode e =
    Good-read code pc w32 (table_place pc) (λ d. read w32 code d.1 >>= λ n. cond (leb (2 ^ 31) n.0) (Err fault.Short) (rows_at code pc opcode n.1 (n.0 * 8)))
    (λ a. Good-read code pc w32 (table_place pc + 4) (λ n. cond (leb (2 ^ 31) n.0) (Err fault.Short) (rows_at code pc opcode n.1 (n.0 * 8)))
    (λ b. Good-if code pc (leb (2 ^ 31) (bits_at code (table_place pc + 4))) _ _ (λ t. tt) (λ t. Good-rows code pc opcode (table_place pc + 4 + 4) (bits_at code (table_place pc + 4) * 8) (λ le. record {
      advances = omega (arith, behind pc);
      within = le;
      table = λ o. absurd (table_lookup (sym table_form ∙ (ap form_of (sym o) ∙ e)));
      lookup = λ o. omega (arith, le);
    }))))

Good-operands : (code : List ℕ) (pc opcode at : ℕ) (f : Form) → pc < at → at ≤ length code → form_of opcode ≡ f → Good code pc (operands_at code pc opcode at f)
Good-operands code pc opcode at form.Plain lt in_code e = other code pc _ _ form.Plain e (λ p. cc) (λ p. cc) lt in_code
Good-operands code pc opcode at form.S1 lt in_code e = Good-read code pc w8 at (λ n. Ok (instr opcode false (cast_signed w8 n.0) (pos 0) 0, n.1)) (λ le. other code pc _ _ form.S1 e (λ p. cc) (λ p. cc) (omega arith) le)
Good-operands code pc opcode at form.U1 lt in_code e = Good-read code pc w8 at (λ n. Ok (instr opcode false (pos n.0) (pos 0) 0, n.1)) (λ le. other code pc _ _ form.U1 e (λ p. cc) (λ p. cc) (omega arith) le)
Good-operands code pc opcode at form.S2 lt in_code e = Good-read code pc w16 at (λ n. Ok (instr opcode false (cast_signed w16 n.0) (pos 0) 0, n.1)) (λ le. other code pc _ _ form.S2 e (λ p. cc) (λ p. cc) (omega arith) le)
Good-operands code pc opcode at form.U2 lt in_code e = Good-read code pc w16 at (λ n. Ok (instr opcode false (pos n.0) (pos 0) 0, n.1)) (λ le. other code pc _ _ form.U2 e (λ p. cc) (λ p. cc) (omega arith) le)
Good-operands code pc opcode at form.S4 lt in_code e = Good-read code pc w32 at (λ n. Ok (instr opcode false (cast_signed w32 n.0) (pos 0) 0, n.1)) (λ le. other code pc _ _ form.S4 e (λ p. cc) (λ p. cc) (omega arith) le)
Good-operands code pc opcode at form.Increment lt in_code e = Good-read code pc w8 at (λ m. read w8 code m.1 >>= λ n. Ok (instr opcode false (pos m.0) (cast_signed w8 n.0) 0, n.1)) (λ le. Good-read code pc w8 (at + 1) (λ n. Ok (instr opcode false (pos (from_be_bytes w8 (drop at code))) (cast_signed w8 n.0) 0, n.1)) (λ le2. other code pc _ _ form.Increment e (λ p. cc) (λ p. cc) (omega arith) le2))
Good-operands code pc opcode at form.LongIncrement lt in_code e = tt
Good-operands code pc opcode at form.Interface lt in_code e = Good-read code pc w16 at (λ m. read w8 code m.1 >>= λ n. read w8 code n.1 >>= λ k. Ok (instr opcode false (pos m.0) (pos n.0) 0, k.1)) (λ le. Good-read code pc w8 (at + 2) (λ n. read w8 code n.1 >>= λ k. Ok (instr opcode false (pos (from_be_bytes w16 (drop at code))) (pos n.0) 0, k.1)) (λ le2. Good-read code pc w8 (at + 2 + 1) (λ k. Ok (instr opcode false (pos (from_be_bytes w16 (drop at code))) (pos (from_be_bytes w8 (drop (at + 2) code))) 0, k.1)) (λ le3. other code pc _ _ form.Interface e (λ p. cc) (λ p. cc) (omega arith) le3)))
Good-operands code pc opcode at form.Dimensions lt in_code e = Good-read code pc w16 at (λ m. read w8 code m.1 >>= λ n. Ok (instr opcode false (pos m.0) (pos n.0) 0, n.1)) (λ le. Good-read code pc w8 (at + 2) (λ n. Ok (instr opcode false (pos (from_be_bytes w16 (drop at code))) (pos n.0) 0, n.1)) (λ le2. other code pc _ _ form.Dimensions e (λ p. cc) (λ p. cc) (omega arith) le2))
Good-operands code pc opcode at form.Wide lt in_code e = Good-behind code pc at lt
Good-operands code pc opcode at form.Table lt in_code e = Good-table code pc opcode e
Good-operands code pc opcode at form.Lookup lt in_code e = Good-lookup code pc opcode e
Good-operands code pc opcode at form.Refused lt in_code e = tt
Good-operands code pc opcode at form.Unknown lt in_code e = tt

pub instruction_fits : (code : List ℕ) (pc : ℕ) → IfOk (instruction_at code pc) (λ x. Fits code pc x.0 x.1)
unfolding instruction_at
instruction_fits code pc = Good-read code pc w8 pc (λ o. operands_at code pc o.0 o.1 (form_of o.0)) (λ le. Good-operands code pc (from_be_bytes w8 (drop pc code)) (pc + 1) (form_of (from_be_bytes w8 (drop pc code))) (omega arith) le refl)

pub decoded_fits : (code : List ℕ) (pc : ℕ) (i : Instr) (next : ℕ) → instruction_at code pc ≡ Ok (i, next) → Fits code pc i next
decoded_fits code pc i next e = subst (λ r. Good code pc r) e (instruction_fits code pc)
