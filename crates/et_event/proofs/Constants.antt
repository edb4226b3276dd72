-- What does more than change the topmost frame has an index of 8 or 16 bits, or none.
use Rattle.std.proofs.Common.{◌≡◌, ℕ, ◌+◌, ◌*◌, ◌^◌, ◌<◌, ◌≤◌, Bool, true, false, cond, ltb, leb, List, length, drop, Some, None, Result, Ok, Err, refl, sym, ap, subst, ◌∙◌, arith}
use Rattle.std.specs.Prelude.{◌&&◌, pos, int_lt, IfOk, if◌then◌else◌}
use Rattle.std.specs.List.{list_all}
use Rattle.std.specs.Option.{ok_or}
use Rattle.std.specs.Int.{Width, w8, w16, w32, byte_len, from_be_bytes, cast_signed}
use Rattle.std.proofs.lemmas.Bool.{and_parts, lt-ltb}
use Rattle.et_base.specs.Numbers.{AreBytes}
use Rattle.et_base.proofs.Spelling.{IsWide, wide8, wide16, AreBytes-drop}
use Rattle.et_code.specs.declared.instr.CodeFault.{CodeFault}
use Rattle.et_code.specs.declared.instr.CodeFault.TheVariants as fault
use Rattle.et_code.specs.declared.instr.Instr.{Instr}
use Rattle.et_code.specs.declared.form.Form.{Form}
use Rattle.et_code.specs.declared.form.Form.TheVariants as form
use Rattle.et_code.specs.Forms.{form_of, wide_form_of}
use Rattle.et_code.specs.Decoding.{read, instr, table_place, rows_at, row_count, table_instruction, table_at, lookup_at, wide_at, behind_wide, operands_at, instruction_at}
use Rattle.et_base.specs.Steps.{◌>>=◌}
use Rattle.et_event.specs.declared.rows.Row.{Row}
use Rattle.et_event.specs.Sites.{natural_of}
use Rattle.et_event.specs.Table.{rows, row_of}
use Rattle.et_event.specs.Places.{is_frame}
use Rattle.et_event.proofs.RowsAmong.{among}

-- THE OPCODES of rows that don't change the topmost frame alone, and their forms

abbrev is_unsigned : Form → Bool
is_unsigned form.Plain = true
is_unsigned form.U1 = true
is_unsigned form.U2 = true
is_unsigned form.Interface = true
is_unsigned form.Dimensions = true
is_unsigned other = false

abbrev is_unknown : Form → Bool
is_unknown form.Unknown = true
is_unknown other = false

record Indexed (opcode : ℕ) : Type 0 where
  row : Row
  there : row_of opcode ≡ Some row
  other : is_frame row ≡ false

abbrev fine : ℕ × Row → Bool
fine e = if is_frame e.1 then true else (is_unsigned (form_of e.0) && is_unknown (wide_form_of e.0))

all_fine : list_all fine rows ≡ true
unfolding form_of
all_fine = refl

fine_case : (frame a b : Bool) → frame ≡ false → (if frame then true else (a && b)) ≡ true → (a ≡ true) × (b ≡ true)
fine_case true a b f e = cc
fine_case false a b f e = and_parts a b e

forms_of : (opcode : ℕ) → Indexed opcode → (is_unsigned (form_of opcode) ≡ true) × (is_unknown (wide_form_of opcode) ≡ true)
unfolding row_of
forms_of opcode x = fine_case (is_frame x.row) (is_unsigned (form_of opcode)) (is_unknown (wide_form_of opcode)) x.other (among fine rows opcode x.row all_fine x.there)

-- an opcode of another form has none
other : (opcode : ℕ) (f : Form) → form_of opcode ≡ f → is_unsigned f ≡ false → Indexed opcode → ⊥
other opcode f e no_index x = let a : is_unsigned f ≡ true = ap (λ (g : Form). is_unsigned g) (sym e) ∙ (forms_of opcode x).0 in cc

-- nor does one that may stand behind a `wide`
wide_one : (opcode : ℕ) (f : Form) → wide_form_of opcode ≡ f → is_unknown f ≡ false → Indexed opcode → ⊥
wide_one opcode f e known x = let a : is_unknown f ≡ true = ap (λ (g : Form). is_unknown g) (sym e) ∙ (forms_of opcode x).1 in cc

-- WHAT IS DECODED

abbrev Small : Result (Instr × ℕ) CodeFault → Type 0
Small r = IfOk r (λ x. Indexed x.0.opcode → natural_of x.0.first < 2 ^ 16)

small_guard : {A : Type 0} (b : Bool) (x : A) (f : A → Result (Instr × ℕ) CodeFault) → Small (f x) → Small (ok_or (cond b None (Some x)) fault.Short >>= f)
small_guard true x f h = tt
small_guard false x f h = h

small_read : (code : List ℕ) (w : Width) (at : ℕ) (f : ℕ × ℕ → Result (Instr × ℕ) CodeFault) → Small (f (from_be_bytes w (drop at code), at + byte_len w)) → Small (read w code at >>= f)
small_read code w at f h = small_guard (ltb (length code) (at + byte_len w)) (from_be_bytes w (drop at code), at + byte_len w) f h

small_if : (b : Bool) (x y : Result (Instr × ℕ) CodeFault) → Small x → Small y → Small (cond b x y)
small_if true x y h i = h
small_if false x y h i = i

-- .. where a number that is read is small
small_number : (code : List ℕ) (w : Width) (at : ℕ) (f : ℕ × ℕ → Result (Instr × ℕ) CodeFault) → IsWide w → AreBytes code
    → (from_be_bytes w (drop at code) < 256 ^ byte_len w → Small (f (from_be_bytes w (drop at code), at + byte_len w))) → Small (read w code at >>= f)
small_number code w at f wide fits go = small_read code w at f (go (wide.fits (drop at code) (AreBytes-drop at code fits)))

small_wide : (code : List ℕ) (opcode at : ℕ) (f : Form) → wide_form_of opcode ≡ f → Small (wide_at code opcode at f)
small_wide code opcode at form.U2 e = small_read code w16 at (λ n. Ok (instr opcode true (pos n.0) (pos 0) 0, n.1)) (λ l. absurd (wide_one opcode form.U2 e refl l))
small_wide code opcode at form.LongIncrement e = small_read code w16 at (λ m. read w16 code m.1 >>= λ n. Ok (instr opcode true (pos m.0) (cast_signed w16 n.0) 0, n.1)) (small_read code w16 (at + 2) (λ n. Ok (instr opcode true (pos (from_be_bytes w16 (drop at code))) (cast_signed w16 n.0) 0, n.1)) (λ l. absurd (wide_one opcode form.LongIncrement e refl l)))
small_wide code opcode at form.Refused e = tt
small_wide code opcode at form.Plain e = tt
small_wide code opcode at form.S1 e = tt
small_wide code opcode at form.U1 e = tt
small_wide code opcode at form.S2 e = tt
small_wide code opcode at form.S4 e = tt
small_wide code opcode at form.Increment e = tt
small_wide code opcode at form.Interface e = tt
small_wide code opcode at form.Dimensions e = tt
small_wide code opcode at form.Wide e = tt
small_wide code opcode at form.Table e = tt
small_wide code opcode at form.Lookup e = tt
small_wide code opcode at form.Unknown e = tt

small_behind : (code : List ℕ) (at : ℕ) → Small (behind_wide code at)
unfolding behind_wide
small_behind code at = small_read code w8 at (λ o. wide_at code o.0 o.1 (wide_form_of o.0)) (small_wide code (from_be_bytes w8 (drop at code)) (at + 1) (wide_form_of (from_be_bytes w8 (drop at code))) refl)

small_rows : (code : List ℕ) (pc opcode at size : ℕ) → (Indexed opcode → ⊥) → Small (rows_at code pc opcode at size)
small_rows code pc opcode at size none = small_if (ltb (length code) (at + size)) (Err fault.Short) (Ok (instr opcode false (pos 0) (pos 0) (table_place pc), at + size)) tt (λ l. absurd (none l))

small_table : (code : List ℕ) (pc opcode : ℕ) → (Indexed opcode → ⊥) → Small (table_at code pc opcode)
unfolding table_at
small_table code pc opcode none =
    let low = from_be_bytes w32 (drop (table_place pc + 4) code) in
    let high = from_be_bytes w32 (drop (table_place pc + 4 + 4) code) in
    small_read code w32 (table_place pc) (λ d. read w32 code d.1 >>= λ l. read w32 code l.1 >>= λ h. table_instruction code pc opcode h.1 (cast_signed w32 l.0) (cast_signed w32 h.0))
    (small_read code w32 (table_place pc + 4) (λ l. read w32 code l.1 >>= λ h. table_instruction code pc opcode h.1 (cast_signed w32 l.0) (cast_signed w32 h.0))
    (small_read code w32 (table_place pc + 4 + 4) (λ h. table_instruction code pc opcode h.1 (cast_signed w32 low) (cast_signed w32 h.0))
    (small_if (int_lt (cast_signed w32 high) (cast_signed w32 low)) (Err fault.Short) (rows_at code pc opcode (table_place pc + 4 + 4 + 4) (row_count (cast_signed w32 low) (cast_signed w32 high) * 4)) tt
    (small_rows code pc opcode (table_place pc + 4 + 4 + 4) (row_count (cast_signed w32 low) (cast_signed w32 high) * 4) none))))

small_lookup : (code : List ℕ) (pc opcode : ℕ) → (Indexed opcode → ⊥) → Small (lookup_at code pc opcode)
unfolding lookup_at
small_lookup code pc opcode none =
    let count = from_be_bytes w32 (drop (table_place pc + 4) code) in
    small_read code w32 (table_place pc) (λ d. read w32 code d.1 >>= λ n. cond (leb (2 ^ 31) n.0) (Err fault.Short) (rows_at code pc opcode n.1 (n.0 * 8)))
    (small_read code w32 (table_place pc + 4) (λ n. cond (leb (2 ^ 31) n.0) (Err fault.Short) (rows_at code pc opcode n.1 (n.0 * 8)))
    (small_if (leb (2 ^ 31) count) (Err fault.Short) (rows_at code pc opcode (table_place pc + 4 + 4) (count * 8)) tt (small_rows code pc opcode (table_place pc + 4 + 4) (count * 8) none)))

small_operands : (code : List ℕ) (pc opcode at : ℕ) (f : Form) → AreBytes code → form_of opcode ≡ f → Small (operands_at code pc opcode at f)
small_operands code pc opcode at form.Plain fits e = λ l. omega arith
small_operands code pc opcode at form.U1 fits e = small_number code w8 at (λ n. Ok (instr opcode false (pos n.0) (pos 0) 0, n.1)) wide8 fits (λ lt l. omega arith)
small_operands code pc opcode at form.U2 fits e = small_number code w16 at (λ n. Ok (instr opcode false (pos n.0) (pos 0) 0, n.1)) wide16 fits (λ lt l. omega arith)
small_operands code pc opcode at form.S1 fits e = small_read code w8 at (λ n. Ok (instr opcode false (cast_signed w8 n.0) (pos 0) 0, n.1)) (λ l. absurd (other opcode form.S1 e refl l))
small_operands code pc opcode at form.S2 fits e = small_read code w16 at (λ n. Ok (instr opcode false (cast_signed w16 n.0) (pos 0) 0, n.1)) (λ l. absurd (other opcode form.S2 e refl l))
small_operands code pc opcode at form.S4 fits e = small_read code w32 at (λ n. Ok (instr opcode false (cast_signed w32 n.0) (pos 0) 0, n.1)) (λ l. absurd (other opcode form.S4 e refl l))
small_operands code pc opcode at form.Increment fits e = small_read code w8 at (λ m. read w8 code m.1 >>= λ n. Ok (instr opcode false (pos m.0) (cast_signed w8 n.0) 0, n.1)) (small_read code w8 (at + 1) (λ n. Ok (instr opcode false (pos (from_be_bytes w8 (drop at code))) (cast_signed w8 n.0) 0, n.1)) (λ l. absurd (other opcode form.Increment e refl l)))
small_operands code pc opcode at form.LongIncrement fits e = tt
small_operands code pc opcode at form.Interface fits e = small_number code w16 at (λ m. read w8 code m.1 >>= λ n. read w8 code n.1 >>= λ k. Ok (instr opcode false (pos m.0) (pos n.0) 0, k.1)) wide16 fits (λ lt. small_read code w8 (at + 2) (λ n. read w8 code n.1 >>= λ k. Ok (instr opcode false (pos (from_be_bytes w16 (drop at code))) (pos n.0) 0, k.1)) (small_read code w8 (at + 2 + 1) (λ k. Ok (instr opcode false (pos (from_be_bytes w16 (drop at code))) (pos (from_be_bytes w8 (drop (at + 2) code))) 0, k.1)) (λ l. omega arith)))
small_operands code pc opcode at form.Dimensions fits e = small_number code w16 at (λ m. read w8 code m.1 >>= λ n. Ok (instr opcode false (pos m.0) (pos n.0) 0, n.1)) wide16 fits (λ lt. small_read code w8 (at + 2) (λ n. Ok (instr opcode false (pos (from_be_bytes w16 (drop at code))) (pos n.0) 0, n.1)) (λ l. omega arith))
small_operands code pc opcode at form.Wide fits e = small_behind code at
small_operands code pc opcode at form.Table fits e = small_table code pc opcode (other opcode form.Table e refl)
small_operands code pc opcode at form.Lookup fits e = small_lookup code pc opcode (other opcode form.Lookup e refl)
small_operands code pc opcode at form.Refused fits e = tt
small_operands code pc opcode at form.Unknown fits e = tt

small : (code : List ℕ) (pc : ℕ) → AreBytes code → Small (instruction_at code pc)
unfolding instruction_at
small code pc fits = small_read code w8 pc (λ o. operands_at code pc o.0 o.1 (form_of o.0)) (small_operands code pc (from_be_bytes w8 (drop pc code)) (pc + 1) (form_of (from_be_bytes w8 (drop pc code))) fits refl)

pub index_small : (code : List ℕ) (pc : ℕ) (x : Instr × ℕ) → AreBytes code
    → instruction_at code pc ≡ Ok x → (r : Row) → row_of x.0.opcode ≡ Some r → is_frame r ≡ false → natural_of x.0.first < 2 ^ 16
index_small code pc x fits e r there other =
    let h : Small (Ok x) = subst (λ (q : Result (Instr × ℕ) CodeFault). Small q) e (small code pc fits) in
    h (record { row = r; there = there; other = other })

-- at the end of the code nothing is decoded
ended : {A : Type 0} (b : Bool) (x : A) (f : A → Result (Instr × ℕ) CodeFault) → b ≡ true → (ok_or (cond b None (Some x)) fault.Short >>= f) ≡ Err fault.Short
ended true x f e = refl
ended false x f e = cc

pub at_end : (code : List ℕ) (pc : ℕ) → length code ≤ pc → instruction_at code pc ≡ Err fault.Short
unfolding instruction_at
at_end code pc le = ended (ltb (length code) (pc + byte_len w8)) (from_be_bytes w8 (drop pc code), pc + byte_len w8) (λ o. operands_at code pc o.0 o.1 (form_of o.0)) (lt-ltb (length code) (pc + byte_len w8) (omega arith))
