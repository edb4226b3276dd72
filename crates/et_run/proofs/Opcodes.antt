-- The opcode of an instruction is the first byte, or the one behind a `wide`.
use Rattle.std.proofs.Common.{◌≡◌, ℕ, ◌+◌, ◌*◌, ◌^◌, Bool, true, false, cond, ltb, leb, List, length, drop, Some, None, Result, Ok, Err, refl, sym, subst, inl, inr}
use Rattle.std.specs.Prelude.{◌⊎◌, int_lt, IfOk}
use Rattle.std.specs.Option.{ok_or}
use Rattle.std.specs.Int.{Width, w8, w16, w32, byte_len, from_be_bytes, cast_signed}
use Rattle.et_base.specs.Steps.{◌>>=◌}
use Rattle.et_code.specs.declared.instr.CodeFault.{CodeFault}
use Rattle.et_code.specs.declared.instr.CodeFault.TheVariants as fault
use Rattle.et_code.specs.declared.instr.Instr.{Instr}
use Rattle.et_code.specs.declared.form.Form.{Form}
use Rattle.et_code.specs.declared.form.Form.TheVariants as form
use Rattle.et_code.specs.Forms.{form_of, wide_form_of}
use Rattle.et_code.specs.Decoding.{read, rows_at, row_count, table_at, lookup_at, wide_at, behind_wide, operands_at, instruction_at}

abbrev Decoded : Type 0
Decoded = Result (Instr × ℕ) CodeFault

-- what is decoded, if anything is, passes
abbrev Passes : (Instr → Type 0) → Decoded → Type 0
Passes P r = IfOk r (λ x. P x.0)

guarded : (P : Instr → Type 0) {A : Type 0} (b : Bool) (x : A) (f : A → Decoded) → Passes P (f x) → Passes P (ok_or (cond b None (Some x)) fault.Short >>= f)
guarded P true x f h = tt
guarded P false x f h = h

either : (P : Instr → Type 0) (b : Bool) (x y : Decoded) → Passes P x → Passes P y → Passes P (cond b x y)
either P true x y h i = h
either P false x y h i = i

behind : (P : Instr → Type 0) (w : Width) (code : List ℕ) (at : ℕ) (f : ℕ × ℕ → Decoded) → ((n : ℕ × ℕ) → Passes P (f n)) → Passes P (read w code at >>= f)
behind P w code at f h = guarded P (ltb (length code) (at + byte_len w)) (from_be_bytes w (drop at code), at + byte_len w) f (h _)

-- the opcode is this
abbrev Has : ℕ → Instr → Type 0
Has opcode i = i.opcode ≡ opcode

rows : (code : List ℕ) (pc opcode at size : ℕ) → Passes (Has opcode) (rows_at code pc opcode at size)
rows code pc opcode at size = either (Has opcode) (ltb (length code) (at + size)) _ _ tt refl

table : (code : List ℕ) (pc opcode : ℕ) → Passes (Has opcode) (table_at code pc opcode)
unfolding table_at
table code pc opcode =
    behind (Has opcode) w32 code _ _ (λ d. behind (Has opcode) w32 code _ _ (λ l. behind (Has opcode) w32 code _ _ (λ h.
    either (Has opcode) (int_lt (cast_signed w32 h.0) (cast_signed w32 l.0)) _ _ tt (rows code pc opcode h.1 (row_count (cast_signed w32 l.0) (cast_signed w32 h.0) * 4)))))

lookup : (code : List ℕ) (pc opcode : ℕ) → Passes (Has opcode) (lookup_at code pc opcode)
unfolding lookup_at
lookup code pc opcode =
    behind (Has opcode) w32 code _ _ (λ d. behind (Has opcode) w32 code _ _ (λ n.
    either (Has opcode) (leb (2 ^ 31) n.0) _ _ tt (rows code pc opcode n.1 (n.0 * 8))))

-- an instruction that may stand behind a `wide`
pub data IsWidened (opcode : ℕ) : Type 0 where
  OneOperand : wide_form_of opcode ≡ form.U2 → IsWidened opcode
  TwoOperands : wide_form_of opcode ≡ form.LongIncrement → IsWidened opcode

abbrev Widened : Instr → Type 0
Widened i = IsWidened i.opcode

widened_at : (code : List ℕ) (opcode at : ℕ) (f : Form) → wide_form_of opcode ≡ f → Passes Widened (wide_at code opcode at f)
widened_at code opcode at form.U2 e = behind Widened w16 code at _ (λ n. OneOperand e)
widened_at code opcode at form.LongIncrement e = behind Widened w16 code at _ (λ m. behind Widened w16 code _ _ (λ n. TwoOperands e))
widened_at code opcode at form.Refused e = tt
widened_at code opcode at form.Plain e = tt
widened_at code opcode at form.S1 e = tt
widened_at code opcode at form.U1 e = tt
widened_at code opcode at form.S2 e = tt
widened_at code opcode at form.S4 e = tt
widened_at code opcode at form.Increment e = tt
widened_at code opcode at form.Interface e = tt
widened_at code opcode at form.Dimensions e = tt
widened_at code opcode at form.Wide e = tt
widened_at code opcode at form.Table e = tt
widened_at code opcode at form.Lookup e = tt
widened_at code opcode at form.Unknown e = tt

widened : (code : List ℕ) (at : ℕ) → Passes Widened (behind_wide code at)
unfolding behind_wide
widened code at = behind Widened w8 code at _ (λ o. widened_at code o.0 o.1 (wide_form_of o.0) refl)

-- the instruction has this opcode, or this is a `wide`, behind which the instruction may stand
abbrev pub Follows : ℕ → Instr → Type 0
Follows opcode i = (i.opcode ≡ opcode) ⊎ ((form_of opcode ≡ form.Wide) × IsWidened i.opcode)

eased : (P Q : Instr → Type 0) (r : Decoded) → ((i : Instr) → P i → Q i) → Passes P r → Passes Q r
eased P Q (Ok x) f h = f x.0 h
eased P Q (Err fault) f h = tt

same : (opcode : ℕ) (r : Decoded) → Passes (Has opcode) r → Passes (Follows opcode) r
same opcode r h = eased (Has opcode) (Follows opcode) r (λ i e. inl e) h

one : (w : Width) (code : List ℕ) (opcode at : ℕ) (f : ℕ × ℕ → Decoded) → ((n : ℕ × ℕ) → Passes (Has opcode) (f n)) → Passes (Follows opcode) (read w code at >>= f)
one w code opcode at f h = same opcode _ (behind (Has opcode) w code at f h)

follows : (code : List ℕ) (pc opcode at : ℕ) (f : Form) → form_of opcode ≡ f → Passes (Follows opcode) (operands_at code pc opcode at f)
follows code pc opcode at form.Plain e = inl refl
follows code pc opcode at form.U1 e = one w8 code opcode at _ (λ n. refl)
follows code pc opcode at form.S1 e = one w8 code opcode at _ (λ n. refl)
follows code pc opcode at form.U2 e = one w16 code opcode at _ (λ n. refl)
follows code pc opcode at form.S2 e = one w16 code opcode at _ (λ n. refl)
follows code pc opcode at form.S4 e = one w32 code opcode at _ (λ n. refl)
follows code pc opcode at form.Increment e = one w8 code opcode at _ (λ m. behind (Has opcode) w8 code _ _ (λ n. refl))
follows code pc opcode at form.LongIncrement e = tt
follows code pc opcode at form.Interface e = one w16 code opcode at _ (λ m. behind (Has opcode) w8 code _ _ (λ n. behind (Has opcode) w8 code _ _ (λ k. refl)))
follows code pc opcode at form.Dimensions e = one w16 code opcode at _ (λ m. behind (Has opcode) w8 code _ _ (λ n. refl))
follows code pc opcode at form.Wide e = eased Widened (Follows opcode) (behind_wide code at) (λ i w. inr (e, w)) (widened code at)
follows code pc opcode at form.Table e = same opcode _ (table code pc opcode)
follows code pc opcode at form.Lookup e = same opcode _ (lookup code pc opcode)
follows code pc opcode at form.Refused e = tt
follows code pc opcode at form.Unknown e = tt

-- what is decoded behind an opcode
pub decoded_behind : (code : List ℕ) (pc opcode next : ℕ) → read w8 code pc ≡ Ok (opcode, next) → IfOk (instruction_at code pc) (λ x. Follows opcode x.0)
unfolding instruction_at
decoded_behind code pc opcode next e =
    subst (λ (r : Result (ℕ × ℕ) CodeFault). Passes (Follows opcode) (r >>= λ o. operands_at code pc o.0 o.1 (form_of o.0))) (sym e) (follows code pc opcode next (form_of opcode) refl)
