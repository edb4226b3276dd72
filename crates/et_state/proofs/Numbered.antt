-- Numbers in a row.
use Rattle.std.proofs.Common.{◌≡◌, ℕ, zero, suc, ◌+◌, ◌<◌, ◌≤◌, Contains, arith, ◌⊎◌, inl, inr}
use Rattle.et_base.proofs.Lists.{Contains-none, Contains-cons}
use Rattle.et_state.specs.Roots.{numbers_from}

pub in_range : (k n o : ℕ) → Contains (numbers_from k n) o → (k ≤ o) × (o < k + n)
in_range k zero o c = absurd (Contains-none o c)
in_range k (suc n) o c = elim (Contains-cons k (numbers_from (k + 1) n) o c) [
  | inl e ↦ (omega arith, omega arith)
  | inr d ↦ let h = in_range (k + 1) n o d in let low = h.0 in let high = h.1 in (omega arith, omega arith)
]
