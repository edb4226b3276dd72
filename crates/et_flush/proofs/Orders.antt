-- An object is held or not.
use Rattle.std.proofs.Common.{ℕ, ◌⊎◌, inl, inr, Option, Some, None}
use Rattle.et_heap.specs.Objects.{ObjectState, Objects, IsHeld, is_there, at}

cases_there : (p : Option ObjectState) → is_there p ⊎ (is_there p → ⊥)
cases_there None = inr (λ h. h)
cases_there (Some x) = inl tt

pub cases_held : (heap : Objects) (o : ℕ) → IsHeld heap o ⊎ (IsHeld heap o → ⊥)
cases_held heap o = cases_there (at heap o)
