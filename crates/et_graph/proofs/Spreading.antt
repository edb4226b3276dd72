-- A search that carries times along pairs, over plain lists.
use Rattle.std.proofs.Common.{◌≡◌, ◌≢◌, ℕ, ◌+◌, ◌-◌, ◌<◌, ◌⊎◌, Bool, true, false, cond, List, [], ◌∷◌, ◌++◌, length, get_or, set, Contains, sym, ◌∙◌, ap, subst, inl, inr, arith, get_or-set_same, get_or-set_other}
use Rattle.std.proofs.lemmas.Bool.{cases_eq, cases_Bool, both_ways}
use Rattle.std.proofs.lemmas.List.{set-get_or}
use Rattle.std.proofs.lemmas.List.Elements.{Contains-push_cases, Contains-append_left, Contains-append_right}
use Rattle.std.proofs.lemmas.List.Sums.{sum_by-set}
use Rattle.et_graph.specs.Times.{ArePairsWithin, Carries, IsSet, unset_count, IsSpread, AreFollowed}
use Rattle.et_base.proofs.Lists.{Contains-none, Contains-here, Cases}
use Rattle.et_graph.proofs.Carrying.{carries_none, carries_one, carries_more}

pub cases_set : (flags : List Bool) (o : ℕ) → Cases (IsSet flags o)
cases_set flags o =
    elim (cases_Bool (get_or flags (o - 1) false)) [
      | inl t ↦ inl t
      | inr f ↦ inr (λ t. both_ways (get_or flags (o - 1) false) f t)
    ]

pub unset_is : (flags : List Bool) (o : ℕ) → ¬ IsSet flags o → get_or flags (o - 1) false ≡ false
unset_is flags o unset =
    elim (cases_Bool (get_or flags (o - 1) false)) [
      | inl t ↦ absurd (unset t)
      | inr f ↦ f
    ]

-- One more flag is set.
module _ (flags : List Bool) (x : ℕ) (within : x - 1 < length flags) where
  pub set_here : IsSet (set flags (x - 1) true) x
  set_here = get_or-set_same flags (x - 1) true false within

  pub set_keeps : (o : ℕ) → IsSet flags o → IsSet (set flags (x - 1) true) o
  set_keeps o s =
      elim (cases_eq (o - 1) (x - 1)) [
        | inl e ↦ ap (λ (i : ℕ). get_or (set flags (x - 1) true) i false) e ∙ set_here
        | inr ne ↦ get_or-set_other flags (x - 1) (o - 1) true false ne ∙ s
      ]

  pub set_back : (o : ℕ) → 0 < o → 0 < x → IsSet (set flags (x - 1) true) o → (o ≡ x) ⊎ IsSet flags o
  set_back o po px s =
      elim (cases_eq (o - 1) (x - 1)) [
        | inl e ↦ inl (omega arith)
        | inr ne ↦ inr (sym (get_or-set_other flags (x - 1) (o - 1) true false ne) ∙ s)
      ]

  pub unset_less : ¬ IsSet flags x → unset_count (set flags (x - 1) true) + 1 ≡ unset_count flags
  unset_less unset =
      let weight : Bool → ℕ = λ b. cond b 0 1 in
      let change = sum_by-set weight flags (x - 1) true false within in
      let was : weight (get_or flags (x - 1) false) ≡ weight false = ap weight (unset_is flags x unset) in
      omega (arith, change, was)

-- Object x, which wasn't seen, is seen at time t.
module _ (pairs : List (ℕ × ℕ)) (start : List ℕ) (t : ℕ) (times : List ℕ) (seen : List Bool) (x : ℕ)
    (long : length seen ≡ length times) (px : 0 < x) (within : x - 1 < length times) (unseen : ¬ IsSet seen x) where
  seen_within : x - 1 < length seen
  seen_within = omega arith

  -- what was seen is another object
  other_place : (o : ℕ) → 0 < o → IsSet seen o → o - 1 ≢ x - 1
  other_place o po s = λ e. unseen (subst (λ (z : ℕ). IsSet seen z) (let same : o ≡ x = omega arith in same) s)

  pub other_time : (o : ℕ) → 0 < o → IsSet seen o → get_or (set times (x - 1) t) (o - 1) 0 ≡ get_or times (o - 1) 0
  other_time o po s = get_or-set_other times (x - 1) (o - 1) t 0 (other_place o po s)

  unseen_time : (o : ℕ) → ¬ IsSet (set seen (x - 1) true) o → get_or (set times (x - 1) t) (o - 1) 0 ≡ get_or times (o - 1) 0
  unseen_time o out =
      get_or-set_other times (x - 1) (o - 1) t 0
      (λ e. out (ap (λ (i : ℕ). get_or (set seen (x - 1) true) i false) e ∙ set_here seen x seen_within))

  still_unseen : (o : ℕ) → ¬ IsSet (set seen (x - 1) true) o → ¬ IsSet seen o
  still_unseen o out = λ s. out (set_keeps seen x seen_within o s)

  here_time : get_or (set times (x - 1) t) (x - 1) 0 ≡ t
  here_time = get_or-set_same times (x - 1) t 0 within

  pub mark_spread : (n : ℕ) (work : List ℕ) → ArePairsWithin n pairs → Carries pairs times (set times (x - 1) t) → IsSpread pairs start t times seen work → IsSpread pairs start t (set times (x - 1) t) (set seen (x - 1) true) (work ++ x ∷ [])
  mark_spread n work pairs_within carry spread = record {
    carries = carries_more pairs start times (set times (x - 1) t) spread.carries carry;
    kept = λ o po out. unseen_time o out ∙ spread.kept o po (still_unseen o out);
    above = λ u o c s.
        let po : 0 < o = (pairs_within u o c).2 in
        elim (set_back seen x seen_within o po px s) [
          | inl e ↦ omega (arith, here_time, ap (λ (z : ℕ). get_or (set times (x - 1) t) (z - 1) 0) e)
          | inr before ↦ omega (arith, other_time o po before, spread.above u o c before)
        ];
    below = λ u o c out. omega (arith, unseen_time o out, spread.below u o c (still_unseen o out));
    waiting = λ o c. elim (Contains-push_cases work x o c) [
      | inl d ↦ let w = spread.waiting o d in (w.0, set_keeps seen x seen_within o w.1, other_time o w.0 w.1 ∙ w.2)
      | inr e ↦ subst (λ (z : ℕ). (0 < z) × IsSet (set seen (x - 1) true) z × (get_or (set times (x - 1) t) (z - 1) 0 ≡ t)) e (px, set_here seen x seen_within, here_time)
    ];
  }

  pub mark_followed : (n : ℕ) (P Q : ℕ → Type 0) → ArePairsWithin n pairs → ((v : ℕ) → P v → Q v) → Q x → AreFollowed pairs times seen P → AreFollowed pairs (set times (x - 1) t) (set seen (x - 1) true) Q
  mark_followed n P Q pairs_within more here followed u y c s =
      let at = pairs_within u y c in
      elim (set_back seen x seen_within u at.0 px s) [
        | inl e ↦ inl (subst Q (sym e) here)
        | inr before ↦ elim (followed u y c before) [
          | inl p ↦ inl (more u p)
          | inr r ↦ inr (set_keeps seen x seen_within y r.0, omega (arith, other_time u at.0 before, other_time y at.2 r.0, r.1))
        ]
      ]

-- a time that a seen object has is carried along a pair
pub carry_pair : (pairs : List (ℕ × ℕ)) (start : List ℕ) (t n : ℕ) (times : List ℕ) (seen : List Bool) (work : List ℕ) (u x : ℕ) → ArePairsWithin n pairs → Contains pairs (u, x) → x - 1 < length times → get_or times (u - 1) 0 ≡ t → ¬ IsSet seen x → IsSpread pairs start t times seen work → Carries pairs times (set times (x - 1) t)
carry_pair pairs start t n times seen work u x pairs_within c within time unseen spread =
    let at = pairs_within u x c in
    subst (λ (v : ℕ). Carries pairs times (set times (x - 1) v)) time
    (carries_one pairs times u x c at.0 at.2 within (omega (arith, time, spread.below u x c unseen)))

-- its own time is carried to an object
pub carry_own : (pairs : List (ℕ × ℕ)) (times : List ℕ) (x : ℕ) → Carries pairs times (set times (x - 1) (get_or times (x - 1) 0))
carry_own pairs times x = subst (λ (ts : List ℕ). Carries pairs times ts) (sym (set-get_or times (x - 1) 0)) (carries_none pairs times)

-- The object at the end of the work is taken off.
pub popped_spread : (pairs : List (ℕ × ℕ)) (start : List ℕ) (t : ℕ) (times : List ℕ) (seen : List Bool) (work : List ℕ) (o : ℕ) → IsSpread pairs start t times seen (work ++ o ∷ []) → IsSpread pairs start t times seen work
popped_spread pairs start t times seen work o spread = record {
  carries = spread.carries;
  kept = spread.kept;
  above = spread.above;
  below = spread.below;
  waiting = λ v c. spread.waiting v (Contains-append_left work (o ∷ []) v c);
}

pub popped_waits : (pairs : List (ℕ × ℕ)) (start : List ℕ) (t : ℕ) (times : List ℕ) (seen : List Bool) (work : List ℕ) (o : ℕ) → IsSpread pairs start t times seen (work ++ o ∷ []) → (0 < o) × IsSet seen o × (get_or times (o - 1) 0 ≡ t)
popped_waits pairs start t times seen work o spread = spread.waiting o (Contains-append_right work (o ∷ []) o (Contains-here o []))

pub popped_followed : (pairs : List (ℕ × ℕ)) (times : List ℕ) (seen : List Bool) (work : List ℕ) (o : ℕ) → AreFollowed pairs times seen (λ v. Contains (work ++ o ∷ []) v) → AreFollowed pairs times seen (λ v. Contains work v ⊎ (v ≡ o))
popped_followed pairs times seen work o followed u x c s =
    elim (followed u x c s) [
      | inl w ↦ elim (Contains-push_cases work o u w) [ inl d ↦ inl (inl d) | inr e ↦ inl (inr (sym e)) ]
      | inr r ↦ inr r
    ]

-- all targets of o were seen
pub visited_followed : (pairs : List (ℕ × ℕ)) (start : List ℕ) (t o : ℕ) (times : List ℕ) (seen : List Bool) (work : List ℕ) → IsSpread pairs start t times seen work → get_or times (o - 1) 0 ≡ t → ((x : ℕ) → Contains pairs (o, x) → IsSet seen x) → AreFollowed pairs times seen (λ v. Contains work v ⊎ (v ≡ o)) → AreFollowed pairs times seen (λ v. Contains work v)
visited_followed pairs start t o times seen work spread time targets followed u x c s =
    elim (followed u x c s) [
      | inl w ↦ elim w [
        | inl d ↦ inl d
        | inr e ↦
            let c' : Contains pairs (o, x) = subst (λ (z : ℕ). Contains pairs (z, x)) e c in
            let seen_x : IsSet seen x = targets x c' in
            inr (seen_x, omega (arith, spread.above o x c' seen_x, time, ap (λ (z : ℕ). get_or times (z - 1) 0) e))
      ]
      | inr r ↦ inr r
    ]

-- with no work left nothing waits
pub none_waits : (pairs : List (ℕ × ℕ)) (times : List ℕ) (seen : List Bool) (work : List ℕ) → work ≡ [] → AreFollowed pairs times seen (λ v. Contains work v) → AreFollowed pairs times seen (λ v. ⊥)
none_waits pairs times seen work none followed u x c s =
    elim (followed u x c s) [
      | inl w ↦ absurd (Contains-none u (subst (λ (ws : List ℕ). Contains ws u) none w))
      | inr r ↦ inr r
    ]
