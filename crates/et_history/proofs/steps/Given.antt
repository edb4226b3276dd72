-- What a row gives refers to what is held.
use Rattle.et_base.specs.declared.value.Value.{Value}
use Rattle.et_base.specs.declared.value.Value.TheVariants.{Int}
use Rattle.et_event.specs.Heap.{truth, with_lengths}
use Rattle.et_event.specs.Kinds.{kept_element}
use Rattle.et_event.specs.declared.rows.Elements.{Elements}
use Rattle.et_heap.specs.Objects.{Objects, found}
use Rattle.et_history.proofs.steps.Taken.{any_int}
use Rattle.et_history.specs.steps.Values.{Fine, Fines}
use Rattle.std.proofs.Common.{Bool, List, arith, false, length, suc, true, zero, ℕ, ◌+◌, ◌∷◌, ◌≡◌}
use Rattle.std.specs.Prelude.{ℤ}
use Rattle.et_event.specs.declared.rows.Elements.TheVariants as elements

pub kept_fine : (h : Objects) (kind : Elements) (v : Value) → Fine h v → Fine h (kept_element kind v)
kept_fine h elements.Byte (Int n) f = tt
kept_fine h elements.Char (Int n) f = tt
kept_fine h elements.Short (Int n) f = tt
kept_fine h other v f = f

pub truth_fine : (h : Objects) (b : Bool) → Fine h (truth b)
truth_fine h true = tt
truth_fine h false = tt

pub lengths_does : {A : Type 0} (P : A → Type 0) (refused : A) (ill : P refused) (heap : Objects) (n : ℕ) (found : List ℤ) (ops : List Value) (go : List ℤ → List Value → A) → Fines heap ops
    → ((ls : List ℤ) (below : List Value) → length ls ≡ length found + n → Fines heap below → P (go ls below)) → P (with_lengths n found refused ops go)
lengths_does P refused ill heap zero found ops go f h = h found ops (omega arith) f
lengths_does P refused ill heap (suc n) found ops go f h =
    any_int P refused ill heap ops _ f (λ i below g. lengths_does P refused ill heap n (i ∷ found) below go g (λ ls rest same j. h ls rest (omega arith) j))
