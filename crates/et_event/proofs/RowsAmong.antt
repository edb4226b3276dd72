-- What holds of each row of the table holds of the row of an opcode.
use Rattle.std.proofs.Common.{◌≡◌, ℕ, ◌==◌, Bool, true, false, List, [], ◌∷◌, Option, Some, refl, subst}
use Rattle.std.specs.Prelude.{if◌then◌else◌}
use Rattle.std.specs.List.{list_all}
use Rattle.std.proofs.lemmas.Bool.{and_parts, eqb-true}
use Rattle.std.proofs.lemmas.Option.{none-some, same_Some}
use Rattle.et_event.specs.declared.rows.Row.{Row}
use Rattle.et_event.specs.Table.{row_among}

step : (fine : ℕ × Row → Bool) (b : Bool) (x : ℕ × Row) (k : ℕ) (r : Row) (o : Option Row) → (b ≡ true → x.0 ≡ k) → fine x ≡ true → (o ≡ Some r → fine (k, r) ≡ true) → (if b then Some x.1 else o) ≡ Some r → fine (k, r) ≡ true
step fine true x k r o same first rest e = subst (λ (j : ℕ). fine (j, r) ≡ true) (same refl) (subst (λ (q : Row). fine (x.0, q) ≡ true) (same_Some x.1 r e) first)
step fine false x k r o same first rest e = rest e

pub among : (fine : ℕ × Row → Bool) (rs : List (ℕ × Row)) (k : ℕ) (r : Row) → list_all fine rs ≡ true → row_among rs k ≡ Some r → fine (k, r) ≡ true
among fine [] k r h e = absurd (none-some r e)
among fine (x ∷ rs) k r h e =
    let parts = and_parts (fine x) (list_all fine rs) h in
    step fine (x.0 == k) x k r (row_among rs k) (eqb-true x.0 k) parts.0 (among fine rs k r parts.1) e
