-- The sources of a search, one after the other.
use Rattle.std.proofs.Common.{◌≡◌, ℕ, ◌+◌, ◌-◌, ◌<◌, ◌≤◌, Bool, true, List, [], ◌∷◌, ◌++◌, length, get_or, set, Contains, refl, sym, ◌∙◌, ap, subst, inl, inr, arith}
use Rattle.std.proofs.lemmas.Bool.{cases_lt}
use Rattle.std.proofs.lemmas.List.{get_or_default}
use Rattle.et_graph.specs.declared.objects.Death.{Death}
use Rattle.et_graph.specs.Times.{ArePairsWithin, Carries, AreSettled, IsSet, IsSpread, AreFollowed, Visits, Spreads}
use Rattle.et_graph.specs.Order.{IsOrder}
use Rattle.et_base.proofs.Lists.{Contains-none}
use Rattle.et_graph.proofs.Carrying.{carries_none}
use Rattle.et_graph.proofs.Spreading.{cases_set, set_here, set_keeps, mark_spread, mark_followed, carry_own, popped_spread, popped_waits, popped_followed, none_waits}

-- While the time t of object o is carried.
pub record IsCarrying (pairs : List (ℕ × ℕ)) (o t : ℕ) (times : List ℕ) (seen : List Bool) (times' : List ℕ) (seen' : List Bool) (work' : List ℕ) : Type 0 where
  pub source : IsSet seen' o
  pub grows : (x : ℕ) → IsSet seen x → IsSet seen' x
  pub spreads : (start : List ℕ) → IsSpread pairs start t times seen [] → AreFollowed pairs times seen (λ v. ⊥)
      → IsSpread pairs start t times' seen' work' × AreFollowed pairs times' seen' (λ v. Contains work' v)

pub carrying_source : (pairs : List (ℕ × ℕ)) (o t n : ℕ) (times : List ℕ) (seen : List Bool) → ArePairsWithin n pairs → length seen ≡ length times → 0 < o → o - 1 < length times → t ≡ get_or times (o - 1) 0 → ¬ IsSet seen o
    → IsCarrying pairs o t times seen (set times (o - 1) t) (set seen (o - 1) true) (o ∷ [])
carrying_source pairs o t n times seen pairs_within long above within time unseen =
    let seen_within : o - 1 < length seen = omega arith in
    record {
      source = set_here seen o seen_within;
      grows = λ x s. set_keeps seen o seen_within x s;
      spreads = λ start spread followed.
          let carry : Carries pairs times (set times (o - 1) t) = subst (λ (v : ℕ). Carries pairs times (set times (o - 1) v)) (sym time) (carry_own pairs times o) in (
            mark_spread pairs start t times seen o long above within unseen n [] pairs_within carry spread,
            mark_followed pairs start t times seen o long above within unseen n (λ v. ⊥) (λ v. Contains (o ∷ []) v) pairs_within (λ v none. absurd none) (0, omega arith, refl) followed,
          );
    }

-- one more object's pairs are followed
pub carrying_visit : (pairs : List (ℕ × ℕ)) (o t u : ℕ) (times : List ℕ) (seen : List Bool) (times₁ : List ℕ) (seen₁ : List Bool) (work₁ : List ℕ) (times₂ : List ℕ) (seen₂ : List Bool) (work₂ : List ℕ)
    → IsCarrying pairs o t times seen times₁ seen₁ (work₁ ++ u ∷ []) → Visits pairs u t times₁ seen₁ work₁ times₂ seen₂ work₂
    → IsCarrying pairs o t times seen times₂ seen₂ work₂
carrying_visit pairs o t u times seen times₁ seen₁ work₁ times₂ seen₂ work₂ carrying visits = record {
  source = visits.grows o carrying.source;
  grows = λ x s. visits.grows x (carrying.grows x s);
  spreads = λ start spread followed.
      let now = carrying.spreads start spread followed in
      let waits = popped_waits pairs start t times₁ seen₁ work₁ u now.0 in
      visits.spreads start (popped_spread pairs start t times₁ seen₁ work₁ u now.0) waits.1 waits.2 (popped_followed pairs times₁ seen₁ work₁ u now.1);
}

pub carrying_end : (pairs : List (ℕ × ℕ)) (o t : ℕ) (times : List ℕ) (seen : List Bool) (times' : List ℕ) (seen' : List Bool) (work' : List ℕ)
    → t ≡ get_or times (o - 1) 0 → ¬ IsSet seen o → work' ≡ [] → IsCarrying pairs o t times seen times' seen' work' → Spreads pairs o times seen times' seen'
carrying_end pairs o t times seen times' seen' work' time unseen none carrying = record {
  source = carrying.source;
  grows = carrying.grows;
  kept = λ s. absurd (unseen s);
  spreads = λ start _ spread followed.
      let now = carrying.spreads start (subst (λ (v : ℕ). IsSpread pairs start v times seen []) (sym time) spread) followed in (
        subst (λ (v : ℕ). IsSpread pairs start v times' seen' []) time (subst (λ (ws : List ℕ). IsSpread pairs start t times' seen' ws) none now.0),
        none_waits pairs times' seen' work' none now.1,
      );
}

pub spreads_none : (pairs : List (ℕ × ℕ)) (o : ℕ) (times : List ℕ) (seen : List Bool) → IsSet seen o → Spreads pairs o times seen times seen
spreads_none pairs o times seen s = record {
  source = s;
  grows = λ x here. here;
  kept = λ _. (refl, refl);
  spreads = λ start unseen. absurd (unseen s);
}

-- After the first i sources.
pub record AreCarried (pairs : List (ℕ × ℕ)) (start : List ℕ) (order : List Death) (i : ℕ) (times : List ℕ) (seen : List Bool) : Type 0 where
  pub carries : Carries pairs start times
  pub kept : (o : ℕ) → 0 < o → ¬ IsSet seen o → get_or times (o - 1) 0 ≡ get_or start (o - 1) 0
  pub followed : AreFollowed pairs times seen (λ v. ⊥)
  pub above : (u o : ℕ) → Contains pairs (u, o) → IsSet seen o → (k : ℕ) (d : Death) → i ≤ k → k < length order → get_or start ((get_or order k d).object - 1) 0 ≤ get_or times (o - 1) 0
  pub done : (k : ℕ) (d : Death) → k < i → IsSet seen (get_or order k d).object

pub none_carried : (pairs : List (ℕ × ℕ)) (start : List ℕ) (order : List Death) (seen : List Bool)
    → ((u o : ℕ) → Contains pairs (u, o) → ¬ IsSet seen u) → ((u o : ℕ) → Contains pairs (u, o) → ¬ IsSet seen o)
    → AreCarried pairs start order 0 start seen
none_carried pairs start order seen unseen_from unseen_to = record {
  carries = carries_none pairs start;
  kept = λ o _ _. refl;
  followed = λ u x c s. absurd (unseen_from u x c s);
  above = λ u o c s. absurd (unseen_to u o c s);
  done = λ k d lt. absurd (omega arith);
}

-- The sources are the objects of which P holds, and each pair leads to one of them.
module _ (P : ℕ → Type 0) (pairs : List (ℕ × ℕ)) (start : List ℕ) (order : List Death) (i : ℕ) (s : Death) (times : List ℕ) (seen : List Bool)
    (positive : (o : ℕ) → P o → 0 < o) (targets : (u o : ℕ) → Contains pairs (u, o) → P o)
    (is_order : IsOrder P start order) (lt : i < length order) (is : s ≡ get_or order i s)
    (carried : AreCarried pairs start order i times seen) where
  object_at : (k : ℕ) (d : Death) → k ≡ i → (get_or order k d).object ≡ s.object
  object_at k d e = ap (λ (j : ℕ). (get_or order j d).object) e ∙ ap (λ (z : Death). z.object) (get_or_default order i d s lt ∙ sym is)

  -- what wasn't seen has no greater time
  unseen_below : (o : ℕ) → P o → ¬ IsSet seen o → get_or start (o - 1) 0 ≤ get_or start (s.object - 1) 0
  unseen_below o there unseen =
      let found = is_order.all o there in
      elim (cases_lt found.0 i) [
        | inl before ↦ absurd (unseen (subst (λ (z : ℕ). IsSet seen z) (found.2 s) (carried.done found.0 s before)))
        | inr later ↦
            let falls = is_order.falls i found.0 s later found.1 in
            let here : get_or start ((get_or order found.0 s).object - 1) 0 ≡ get_or start (o - 1) 0 = ap (λ (z : ℕ). get_or start (z - 1) 0) (found.2 s) in
            let own : get_or start ((get_or order i s).object - 1) 0 ≡ get_or start (s.object - 1) 0 = ap (λ (z : ℕ). get_or start (z - 1) 0) (object_at i s refl) in
            omega (arith, falls, here, own)
      ]

  first_above : 0 < s.object
  first_above = positive s.object (is_order.each s (i, lt, sym is))

  done_more : (seen' : List Bool) → ((x : ℕ) → IsSet seen x → IsSet seen' x) → IsSet seen' s.object → (k : ℕ) (d : Death) → k < i + 1 → IsSet seen' (get_or order k d).object
  done_more seen' grows here k d less =
      elim (cases_lt k i) [
        | inl before ↦ grows (get_or order k d).object (carried.done k d before)
        | inr le ↦ let same : k ≡ i = omega arith in subst (λ (z : ℕ). IsSet seen' z) (sym (object_at k d same)) here
      ]

  -- one more source
  pub carried_more : (times' : List ℕ) (seen' : List Bool) → Spreads pairs s.object times seen times' seen' → AreCarried pairs start order (i + 1) times' seen'
  carried_more times' seen' spreads =
      elim (cases_set seen s.object) [
        | inl before ↦
            let same = spreads.kept before in
            subst (λ (ss : List Bool). AreCarried pairs start order (i + 1) times' ss) (sym same.1)
            (subst (λ (ts : List ℕ). AreCarried pairs start order (i + 1) ts seen) (sym same.0)
            (record {
              carries = carried.carries;
              kept = carried.kept;
              followed = carried.followed;
              above = λ u o c set k d le less. carried.above u o c set k d (omega arith) less;
              done = done_more seen (λ x here. here) before;
            }))
        | inr unseen ↦
            let t : ℕ = get_or times (s.object - 1) 0 in
            let own : t ≡ get_or start (s.object - 1) 0 = carried.kept s.object first_above unseen in
            let place : get_or start ((get_or order i s).object - 1) 0 ≡ get_or start (s.object - 1) 0 = ap (λ (z : ℕ). get_or start (z - 1) 0) (object_at i s refl) in
            let spread : IsSpread pairs start t times seen [] = record {
              carries = carried.carries;
              kept = carried.kept;
              above = λ u o c set. omega (arith, own, place, carried.above u o c set i s (omega arith) lt);
              below = λ u o c out. let there = targets u o c in omega (arith, own, carried.kept o (positive o there) out, unseen_below o there out);
              waiting = λ o c. absurd (Contains-none o c);
            } in
            let now = spreads.spreads start unseen spread carried.followed in
            record {
              carries = now.0.carries;
              kept = now.0.kept;
              followed = now.1;
              above = λ u o c set k d le less.
                  let falls = is_order.falls i k d (omega arith) less in
                  let there : get_or start ((get_or order i d).object - 1) 0 ≡ get_or start (s.object - 1) 0 = ap (λ (z : ℕ). get_or start (z - 1) 0) (object_at i d refl) in
                  omega (arith, own, falls, there, now.0.above u o c set);
              done = done_more seen' spreads.grows spreads.source;
            }
      ]

pub carried_all : (P : ℕ → Type 0) (pairs : List (ℕ × ℕ)) (start : List ℕ) (order : List Death) (i : ℕ) (times : List ℕ) (seen : List Bool)
    → ((u o : ℕ) → Contains pairs (u, o) → P u) → IsOrder P start order → length order ≤ i → AreCarried pairs start order i times seen → AreSettled pairs times
carried_all P pairs start order i times seen sources is_order all carried u x c =
    let found = is_order.all u (sources u x c) in
    let d : Death = record { object = 0; time = 0 } in
    let s : IsSet seen u = subst (λ (z : ℕ). IsSet seen z) (found.2 d) (carried.done found.0 d (omega (arith, found.1))) in
    elim (carried.followed u x c s) [
      | inl never ↦ absurd never
      | inr r ↦ r.1
    ]
