-- The reference on top of the operands.
use Rattle.std.proofs.Common.{◌≡◌, ℕ, ◌<◌, List, [], ◌∷◌, length, get_or, Some, None, refl, sym, ap, subst, Contains, arith}
use Rattle.et_base.specs.declared.value.Value.{Value}
use Rattle.et_base.specs.declared.value.Value.TheVariants.{Unset, Int, Long, LongHigh, Null, Ref}
use Rattle.et_base.proofs.Lists.{Contains-here}
use Rattle.et_heap.specs.Objects.{IsHeld}
use Rattle.et_heap.specs.Refs.{refs_of_value}
use Rattle.et_state.specs.Threads.{operand_of}
use Rattle.et_state.specs.State.{MachineState, kept_of}
use Rattle.et_state.specs.Words.{top, HasFrame}
use Rattle.et_state.specs.Sound.{IsSound}
use Rattle.et_state.proofs.Steps.{operand_held}
use Rattle.et_event.specs.Checks.{Reference, with_reference}
use Rattle.et_event.specs.Tops.{entry_reference}

pub no_reference : {A : Type 0} (refused : A) (go : Reference → List Value → A) (ops : List Value) → entry_reference (get_or ops 0 Unset) ≡ None → with_reference refused ops go ≡ refused
no_reference refused go [] e = refl
no_reference refused go (Unset ∷ below) e = refl
no_reference refused go (Int n ∷ below) e = refl
no_reference refused go (Long n ∷ below) e = refl
no_reference refused go (LongHigh ∷ below) e = refl
no_reference refused go (Null ∷ below) e = cc
no_reference refused go (Ref o ∷ below) e = cc

pub on_top : (ops : List Value) (o : ℕ) → entry_reference (get_or ops 0 Unset) ≡ Some (Some o) → (0 < length ops) × (get_or ops 0 Unset ≡ Ref o)
on_top [] o e = cc
on_top (Unset ∷ below) o e = cc
on_top (Int n ∷ below) o e = cc
on_top (Long n ∷ below) o e = cc
on_top (LongHigh ∷ below) o e = cc
on_top (Null ∷ below) o e = cc
on_top (Ref q ∷ below) o e = let same : q ≡ o = cc in (omega arith, ap (λ (k : ℕ). Ref k) same)

pub reference_held : (m : MachineState) (t o : ℕ) → IsSound (kept_of m) → HasFrame m.guest t → entry_reference (operand_of (top m.guest t) 0) ≡ Some (Some o) → IsHeld m.heap o
reference_held m t o sound has e =
    let h = on_top (top m.guest t).operands o e in
    operand_held m t 0 sound has h.0 o (subst (λ (v : Value). Contains (refs_of_value v) o) (sym h.1) (Contains-here o []))
