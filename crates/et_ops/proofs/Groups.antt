-- Groups of operands: one value, or a long or two values.
use Rattle.std.proofs.Common.{◌≡◌, ℕ, zero, suc, ◌+◌, ◌<◌, ◌≤◌, Bool, true, List, [], ◌∷◌, length, drop, get_or, Some, None, refl, sym, ◌∙◌, ap, arith}
use Rattle.std.specs.Prelude.{◌&&◌, if◌then◌else◌}
use Rattle.et_base.specs.declared.value.Value.{Value}
use Rattle.et_base.specs.declared.value.Value.TheVariants.{Unset, Int, Long, LongHigh, Null, Ref}
use Rattle.et_state.specs.Threads.{FrameState, operand_of}
use Rattle.et_event.specs.Plain.{is_single, is_one_value, is_value_pair, put, rearranged}
use Rattle.et_event.specs.declared.rows.Rearrangement.TheVariants as stack
use Rattle.et_event.proofs.Taking.{replaced}
use Rattle.et_ops.specs.Tops.{are_pair}
use Rattle.et_ops.proofs.InFrame.{fits_below}

single_pair : (v : Value) → is_value_pair (v ∷ []) ≡ are_pair v Unset
single_pair Unset = refl
single_pair (Int n) = refl
single_pair (Long n) = refl
single_pair LongHigh = refl
single_pair Null = refl
single_pair (Ref o) = refl

two_pair : (v w : Value) (vs : List Value) → is_value_pair (v ∷ w ∷ vs) ≡ are_pair v w
two_pair Unset w vs = refl
two_pair (Int n) w vs = refl
two_pair (Long n) w vs = refl
two_pair LongHigh Unset vs = refl
two_pair LongHigh (Int n) vs = refl
two_pair LongHigh (Long n) vs = refl
two_pair LongHigh LongHigh vs = refl
two_pair LongHigh Null vs = refl
two_pair LongHigh (Ref o) vs = refl
two_pair Null w vs = refl
two_pair (Ref o) w vs = refl

pub one_at : (ops : List Value) (k : ℕ) → is_single (get_or ops k Unset) ≡ is_one_value (drop k ops)
one_at [] zero = refl
one_at [] (suc k) = refl
one_at (v ∷ vs) zero = refl
one_at (v ∷ vs) (suc k) = one_at vs k

pairs_at : (ops : List Value) (k : ℕ) → are_pair (get_or ops k Unset) (get_or ops (suc k) Unset) ≡ is_value_pair (drop k ops)
pairs_at [] zero = refl
pairs_at [] (suc k) = refl
pairs_at (v ∷ []) zero = sym (single_pair v)
pairs_at (v ∷ w ∷ vs) zero = sym (two_pair v w vs)
pairs_at (v ∷ vs) (suc k) = pairs_at vs k

pub pair_at : (ops : List Value) (k : ℕ) → are_pair (get_or ops k Unset) (get_or ops (k + 1) Unset) ≡ is_value_pair (drop k ops)
pair_at ops k = let e : k + 1 ≡ suc k = omega arith in ap (λ (j : ℕ). are_pair (get_or ops k Unset) (get_or ops j Unset)) e ∙ pairs_at ops k

pub one_deep : (ops : List Value) (k : ℕ) → is_single (get_or ops k Unset) ≡ true → k < length ops
one_deep [] zero e = cc
one_deep [] (suc k) e = cc
one_deep (v ∷ vs) zero e = omega arith
one_deep (v ∷ vs) (suc k) e = let h : k < length vs = one_deep vs k e in omega arith

pairs_deep : (ops : List Value) (k : ℕ) → is_value_pair (drop k ops) ≡ true → k + 1 < length ops
pairs_deep [] zero e = cc
pairs_deep [] (suc k) e = cc
pairs_deep (v ∷ []) zero e = absurd (none v (sym (single_pair v) ∙ e))
  where
    none : (v : Value) → are_pair v Unset ≡ true → ⊥
    none Unset e = cc
    none (Int n) e = cc
    none (Long n) e = cc
    none LongHigh e = cc
    none Null e = cc
    none (Ref o) e = cc
pairs_deep (v ∷ w ∷ vs) zero e = omega arith
pairs_deep (v ∷ vs) (suc k) e = let h : k + 1 < length vs = pairs_deep vs k e in omega arith

pub pair_deep : (ops : List Value) (k : ℕ) → are_pair (get_or ops k Unset) (get_or ops (k + 1) Unset) ≡ true → k + 1 < length ops
pair_deep ops k e = pairs_deep ops k (sym (pair_at ops k) ∙ e)

-- `pop` and `dup`, where one value stands on top

pub popped_value : (next : ℕ) (f : FrameState) → is_one_value f.operands ≡ true → 0 < length f.operands → length f.operands ≤ f.room → rearranged next stack.Pop f ≡ Some (replaced 1 [] next f)
popped_value next f one deep room =
    ap (λ (b : Bool). if b && true then put next (drop 1 f.operands) f else None) one ∙ fits_below next 1 f (omega arith) room

top_again : (ops : List Value) → 0 < length ops → ops ≡ get_or ops 0 Unset ∷ drop 1 ops
top_again [] deep = absurd (omega arith)
top_again (v ∷ vs) deep = refl

pub value_again : (next : ℕ) (f : FrameState) (v : Value) → is_one_value f.operands ≡ true → 0 < length f.operands → v ≡ operand_of f 0 → put next (v ∷ f.operands) f ≡ rearranged next stack.Dup f
value_again next f v one deep is =
    ap (λ (w : Value). put next (w ∷ f.operands) f) is
    ∙ (ap (λ (ops : List Value). put next (operand_of f 0 ∷ ops) f) (top_again f.operands deep)
    ∙ sym (ap (λ (b : Bool). if b && true then put next (operand_of f 0 ∷ operand_of f 0 ∷ drop 1 f.operands) f else None) one))
