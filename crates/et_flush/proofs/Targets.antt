-- What an object leads to, while a search looks into it.
use Rattle.std.proofs.Common.{◌≡◌, ℕ, zero, suc, ◌<◌, ◌⊎◌, Bool, List, [], ◌∷◌, Option, Some, None, Contains, refl, sym, ◌∙◌, subst, inl, inr, arith}
use Rattle.et_graph.specs.Times.{IsSet}
use Rattle.et_base.proofs.Lists.{Contains-none, Contains-here, Contains-there, Contains-cons}
use Rattle.et_heap.specs.Objects.{ObjectState, Objects, IsHeld, is_there, at, found, object_at}
use Rattle.et_heap.specs.Refs.{leads_to, targets_of, pairs_of}
use Rattle.et_heap.proofs.HeapLists.{pair_at, at_pair}

targets_found : (p : Option ObjectState) → is_there p → targets_of p ≡ leads_to (found p)
targets_found None h = absurd h
targets_found (Some x) h = refl

pub target_pair : (heap : Objects) (o : ℕ) (ts : List ℕ) → IsHeld heap o → ts ≡ leads_to (object_at heap o) → (x : ℕ) → Contains ts x → Contains (pairs_of heap) (o, x)
target_pair heap o ts held is x c = at_pair heap o x (subst (λ (vs : List ℕ). Contains vs x) (is ∙ sym (targets_found (at heap o) held)) c)

pub pair_target : (heap : Objects) (o : ℕ) (ts : List ℕ) → IsHeld heap o → ts ≡ leads_to (object_at heap o) → (x : ℕ) → Contains (pairs_of heap) (o, x) → Contains ts x
pair_target heap o ts held is x c = subst (λ (vs : List ℕ). Contains vs x) (sym (is ∙ sym (targets_found (at heap o) held))) (pair_at heap o x c)

-- the first of those that are left
pub first_left : (pairs : List (ℕ × ℕ)) (o t : ℕ) (ts rest : List ℕ) → ts ≡ t ∷ rest → ((x : ℕ) → Contains ts x → Contains pairs (o, x)) → Contains pairs (o, t)
first_left pairs o t ts rest first left = left t (subst (λ (vs : List ℕ). Contains vs t) (sym first) (Contains-here t rest))

pub left_there : (P : ℕ → Type 0) (t : ℕ) (ts rest : List ℕ) → ts ≡ t ∷ rest → ((x : ℕ) → Contains ts x → P x) → (x : ℕ) → Contains rest x → P x
left_there P t ts rest first left x c = left x (subst (λ (vs : List ℕ). Contains vs x) (sym first) (Contains-there t rest x c))

pub done_more : (P : ℕ → Type 0) (t : ℕ) (ts rest : List ℕ) (seen seen' : List Bool) → ts ≡ t ∷ rest → ((x : ℕ) → IsSet seen x → IsSet seen' x) → (P t → IsSet seen' t) → ((x : ℕ) → P x → Contains ts x ⊎ IsSet seen x) → (x : ℕ) → P x → Contains rest x ⊎ IsSet seen' x
done_more P t ts rest seen seen' first grows here done x p =
    elim (done x p) [
      | inl c ↦ elim (Contains-cons t rest x (subst (λ (vs : List ℕ). Contains vs x) first c)) [
        | inl e ↦ inr (subst (λ (z : ℕ). IsSet seen' z) e (here (subst P (sym e) p)))
        | inr d ↦ inl d
      ]
      | inr s ↦ inr (grows x s)
    ]

pub all_done : (P : ℕ → Type 0) (ts : List ℕ) (seen : List Bool) → ts ≡ [] → ((x : ℕ) → P x → Contains ts x ⊎ IsSet seen x) → (x : ℕ) → P x → IsSet seen x
all_done P ts seen none done x p =
    elim (done x p) [
      | inl c ↦ absurd (Contains-none x (subst (λ (vs : List ℕ). Contains vs x) none c))
      | inr s ↦ s
    ]

-- no object has the number 0
pub held_above : (heap : Objects) (o : ℕ) → (IsHeld heap 0 → ⊥) → IsHeld heap o → 0 < o
held_above heap zero none held = absurd (none held)
held_above heap (suc o) none held = omega arith
