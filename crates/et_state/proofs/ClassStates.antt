-- How far each class is at first, one class after another.
use Rattle.std.proofs.Common.{◌≡◌, ℕ, zero, suc, ◌+◌, List, ◌∷◌, ◌++◌, [], sym, ◌∙◌, ap, arith}
use Rattle.et_program.specs.Entries.{Linked}
use Rattle.et_state.specs.declared.class_state.ClassState.{ClassState}
use Rattle.et_state.specs.Start.{first_class_state, class_states_from}

-- one class more
states_more : (p : Linked) (c n : ℕ) → class_states_from p c (n + 1) ≡ class_states_from p c n ++ first_class_state p (c + n) ∷ []
states_more p c zero = ap (λ (k : ℕ). first_class_state p k ∷ []) (let same : c ≡ c + 0 = omega arith in same)
states_more p c (suc n) =
    ap (λ (k : ℕ). class_states_from p c k) (let e : suc n + 1 ≡ suc (n + 1) = omega arith in e)
    ∙ ap (λ (l : List ClassState). first_class_state p c ∷ l)
    (states_more p (c + 1) n ∙ ap (λ (k : ℕ). class_states_from p (c + 1) n ++ first_class_state p k ∷ []) (let same : c + 1 + n ≡ c + suc n = omega arith in same))

pub states_next : (p : Linked) (n : ℕ) (old new : List ClassState) (x : ClassState) → old ≡ class_states_from p 0 n → x ≡ first_class_state p n → new ≡ old ++ x ∷ [] → new ≡ class_states_from p 0 (n + 1)
states_next p n old new x e here grown =
    grown ∙ (ap (λ (l : List ClassState). l ++ x ∷ []) e ∙ (ap (λ (y : ClassState). class_states_from p 0 n ++ y ∷ []) here
    ∙ sym (states_more p 0 n ∙ ap (λ (k : ℕ). class_states_from p 0 n ++ first_class_state p k ∷ []) (let same : 0 + n ≡ n = omega arith in same))))
