-- The pc behind a call.
use Rattle.std.proofs.Common.{◌≡◌, ℕ, ◌+◌, ◌<◌, ◌≤◌, ◌==◌, ◌||◌, ◌⊎◌, Bool, true, false, List, length, drop, Option, Some, None, inl, inr, refl, sym, ◌∙◌, ap, arith}
use Rattle.std.specs.Prelude.{pos, Result, Ok, if◌then◌else◌, unwrap_or}
use Rattle.std.specs.Option.{ok_or}
use Rattle.std.specs.Int.{Width, w8, w16, byte_len, from_be_bytes}
use Rattle.std.proofs.lemmas.Bool.{eqb-true, le-ltb}
use Rattle.et_base.specs.Steps.{◌>>=◌}
use Rattle.et_base.specs.Numbers.{number_at}
use Rattle.et_code.specs.declared.instr.CodeFault.{CodeFault}
use Rattle.et_code.specs.declared.instr.CodeFault.TheVariants as fault
use Rattle.et_code.specs.declared.form.Form.TheVariants as form
use Rattle.et_code.specs.Decoding.{instr, instruction_at, operands_at, read}
use Rattle.et_code.specs.Forms.{form_of}
use Rattle.et_event.specs.Frames.{behind_or}
use Rattle.et_calls.specs.Sizes.{call_size}

-- a number that is there
number : (w : Width) (code : List ℕ) (at : ℕ) → at + byte_len w ≤ length code → number_at w code at ≡ Some (from_be_bytes w (drop at code), at + byte_len w)
number w code at le = ap (λ (b : Bool). if b then None else Some (from_be_bytes w (drop at code), at + byte_len w)) (le-ltb (length code) (at + byte_len w) le)

there : (w : Width) (code : List ℕ) (at : ℕ) → at + byte_len w ≤ length code → read w code at ≡ Ok (from_be_bytes w (drop at code), at + byte_len w)
there w code at le = ap (λ (q : Option (ℕ × ℕ)). ok_or q fault.Short) (number w code at le)

step : {A B : Type 0} (q : Result A CodeFault) (x : A) (k : A → Result B CodeFault) → q ≡ Ok x → (q >>= k) ≡ k x
step q x k e = ap (λ r. r >>= k) e

-- the opcode
abbrev byte : List ℕ → ℕ → ℕ
byte code pc = from_be_bytes w8 (drop pc code)

short_call : (code : List ℕ) (pc : ℕ) → form_of (byte code pc) ≡ form.U2 → pc + 3 ≤ length code → behind_or pc (instruction_at code pc) ≡ pc + 3
unfolding instruction_at
short_call code pc f le =
    let op : ℕ = byte code pc in
    let index : ℕ = from_be_bytes w16 (drop (pc + 1) code) in
    let same : pc + 1 + 2 ≡ pc + 3 = omega arith in
    ap (λ r. behind_or pc r)
    (step (read w8 code pc) (op, pc + 1) (λ o. operands_at code pc o.0 o.1 (form_of o.0)) (there w8 code pc (omega (arith, le)))
    ∙ (ap (λ g. operands_at code pc op (pc + 1) g) f
    ∙ step (read w16 code (pc + 1)) (index, pc + 1 + 2) (λ n. Ok (instr op false (pos n.0) (pos 0) 0, n.1)) (there w16 code (pc + 1) (omega (arith, le)))))
    ∙ same

long_call : (code : List ℕ) (pc : ℕ) → form_of (byte code pc) ≡ form.Interface → pc + 5 ≤ length code → behind_or pc (instruction_at code pc) ≡ pc + 5
unfolding instruction_at
long_call code pc f le =
    let op : ℕ = byte code pc in
    let index : ℕ = from_be_bytes w16 (drop (pc + 1) code) in
    let count : ℕ = byte code (pc + 1 + 2) in
    let same : pc + 1 + 2 + 1 + 1 ≡ pc + 5 = omega arith in
    ap (λ r. behind_or pc r)
    (step (read w8 code pc) (op, pc + 1) (λ o. operands_at code pc o.0 o.1 (form_of o.0)) (there w8 code pc (omega (arith, le)))
    ∙ (ap (λ g. operands_at code pc op (pc + 1) g) f
    ∙ (step (read w16 code (pc + 1)) (index, pc + 1 + 2) (λ m. read w8 code m.1 >>= (λ n. read w8 code n.1 >>= (λ x. Ok (instr op false (pos m.0) (pos n.0) 0, x.1)))) (there w16 code (pc + 1) (omega (arith, le)))
    ∙ (step (read w8 code (pc + 1 + 2)) (count, pc + 1 + 2 + 1) (λ n. read w8 code n.1 >>= (λ x. Ok (instr op false (pos index) (pos n.0) 0, x.1))) (there w8 code (pc + 1 + 2) (omega (arith, le)))
    ∙ step (read w8 code (pc + 1 + 2 + 1)) (byte code (pc + 1 + 2 + 1), pc + 1 + 2 + 1 + 1) (λ x. Ok (instr op false (pos index) (pos count) 0, x.1)) (there w8 code (pc + 1 + 2 + 1) (omega (arith, le)))))))
    ∙ same

-- the operands of a call, by how long it is
abbrev IsSized : ℕ → ℕ → Type 0
IsSized opcode n = ((form_of opcode ≡ form.U2) × (n ≡ 3)) ⊎ ((form_of opcode ≡ form.Interface) × (n ≡ 5))

sized : (opcode : ℕ) → 0 < call_size opcode → IsSized opcode (call_size opcode)
unfolding form_of
sized opcode lt = by_test (opcode == 0xb6) (opcode == 0xb7) (opcode == 0xb8) (opcode == 0xb9) refl refl refl refl lt
  where
    by_test : (a b c d : Bool) → (opcode == 0xb6) ≡ a → (opcode == 0xb7) ≡ b → (opcode == 0xb8) ≡ c → (opcode == 0xb9) ≡ d → 0 < (if a || (b || c) then 3 else (if d then 5 else 0)) → IsSized opcode (if a || (b || c) then 3 else (if d then 5 else 0))
    by_test true b c d e₁ e₂ e₃ e₄ lt = inl (ap form_of (eqb-true opcode 0xb6 e₁), refl)
    by_test false true c d e₁ e₂ e₃ e₄ lt = inl (ap form_of (eqb-true opcode 0xb7 e₂), refl)
    by_test false false true d e₁ e₂ e₃ e₄ lt = inl (ap form_of (eqb-true opcode 0xb8 e₃), refl)
    by_test false false false true e₁ e₂ e₃ e₄ lt = inr (ap form_of (eqb-true opcode 0xb9 e₄), refl)
    by_test false false false false e₁ e₂ e₃ e₄ lt = absurd (omega (arith, lt))

pub behind_call : (code : List ℕ) (pc : ℕ) (o : ℕ × ℕ) → Some o ≡ number_at w8 code pc → 0 < call_size o.0 → pc + call_size o.0 ≤ length code → behind_or pc (instruction_at code pc) ≡ pc + call_size o.0
behind_call code pc o e lt le =
    let op : o.0 ≡ byte code pc = ap (λ (q : Option (ℕ × ℕ)). (unwrap_or q (0, 0)).0) (e ∙ number w8 code pc (omega (arith, lt, le))) in
    elim (sized o.0 lt) [
      | inl s ↦ short_call code pc (ap form_of (sym op) ∙ s.0) (omega (arith, le, s.1)) ∙ ap (λ n. pc + n) (sym s.1)
      | inr s ↦ long_call code pc (ap form_of (sym op) ∙ s.0) (omega (arith, le, s.1)) ∙ ap (λ n. pc + n) (sym s.1)
    ]
