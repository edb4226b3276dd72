-- Entries that are carried along pairs.
use Rattle.std.proofs.Common.{◌≡◌, ◌≢◌, ℕ, ◌-◌, ◌<◌, ◌≤◌, List, [], ◌∷◌, length, get_or, set, Contains, All, refl, ◌∙◌, subst, inl, inr, arith, get_or-set_same, get_or-set_other}
use Rattle.std.proofs.Math.ListN.{length-set}
use Rattle.std.proofs.lemmas.Bool.{cases_eq}
use Rattle.std.proofs.lemmas.List.Elements.{All-set}
use Rattle.et_graph.specs.Graph.{Leads}
use Rattle.et_graph.specs.Times.{set_each, ArePositive, Carries, AreSettled}
use Rattle.et_base.proofs.Lists.{Contains-none, Contains-here, Contains-there, Contains-cons, cases_number}
use Rattle.et_graph.proofs.Walks.{leads_itself, leads_first, leads_on, along}

pub carries_none : (pairs : List (ℕ × ℕ)) (a : List ℕ) → Carries pairs a a
carries_none pairs a = record {
  kept_length = refl;
  raised = λ o. omega arith;
  carried = λ o above. (o, above, leads_itself pairs o, refl);
}

pub carries_more : (pairs : List (ℕ × ℕ)) (a b c : List ℕ) → Carries pairs a b → Carries pairs b c → Carries pairs a c
carries_more pairs a b c f g = record {
  kept_length = g.kept_length ∙ f.kept_length;
  raised = λ o. omega (arith, f.raised o, g.raised o);
  carried = λ o above.
      let v = g.carried o above in
      let u = f.carried v.0 v.1 in
      (u.0, u.1, leads_on pairs u.0 v.0 o u.2 v.2, v.3 ∙ u.3);
}

-- one entry carried along one pair
pub carries_one : (pairs : List (ℕ × ℕ)) (a : List ℕ) (u x : ℕ) → Contains pairs (u, x) → 0 < u → 0 < x → x - 1 < length a → get_or a (x - 1) 0 ≤ get_or a (u - 1) 0 → Carries pairs a (set a (x - 1) (get_or a (u - 1) 0))
carries_one pairs a u x c pu px within le = record {
  kept_length = length-set a (x - 1) (get_or a (u - 1) 0);
  raised = λ o. elim (cases_eq (o - 1) (x - 1)) [
    | inl e ↦ rw e (rw get_or-set_same le)
    | inr ne ↦ let other : o - 1 ≢ x - 1 = ne in rw get_or-set_other (omega arith)
  ];
  carried = λ o above. elim (cases_eq (o - 1) (x - 1)) [
    | inl e ↦
        let same : x ≡ o = omega arith in
        (u, pu, leads_first pairs u x o c (subst (Leads pairs x) same (leads_itself pairs x)), rw (e, get_or-set_same))
    | inr ne ↦ let other : o - 1 ≢ x - 1 = ne in (o, above, leads_itself pairs o, rw get_or-set_other refl)
  ];
}

-- an entry in the end is the greatest of those in the beginning that lead to it
pub carried_greatest : (pairs : List (ℕ × ℕ)) (a b : List ℕ) → Carries pairs a b → AreSettled pairs b → (u o : ℕ) → Leads pairs u o → get_or a (u - 1) 0 ≤ get_or b (o - 1) 0
carried_greatest pairs a b f settled u o l =
    along (λ v. get_or a (u - 1) 0 ≤ get_or b (v - 1) 0) pairs (λ v x c h. omega (arith, h, settled v x c)) u l.0 o l.1 (f.raised u)

-- Entries that are set.
pub length-set_each : (objects : List ℕ) (t : ℕ) (entries : List ℕ) → length (set_each objects t entries) ≡ length entries
length-set_each [] t entries = refl
length-set_each (x ∷ objects) t entries = length-set_each objects t (set entries (x - 1) t) ∙ length-set entries (x - 1) t

pub set_each_out : (objects : List ℕ) (t : ℕ) (entries : List ℕ) (o : ℕ) → ArePositive objects → 0 < o → ¬ Contains objects o → get_or (set_each objects t entries) (o - 1) 0 ≡ get_or entries (o - 1) 0
set_each_out [] t entries o positive above out = refl
set_each_out (x ∷ objects) t entries o positive above out =
    let first : 0 < x = positive x (Contains-here x objects) in
    let other : o - 1 ≢ x - 1 = λ e. out (subst (λ (z : ℕ). Contains (z ∷ objects) o) (let same : o ≡ x = omega arith in same) (Contains-here o objects)) in
    set_each_out objects t (set entries (x - 1) t) o (λ y c. positive y (Contains-there x objects y c)) above (λ c. out (Contains-there x objects o c))
    ∙ rw get_or-set_other refl

pub set_each_in : (objects : List ℕ) (t : ℕ) (entries : List ℕ) (o : ℕ) → ArePositive objects → 0 < o → o - 1 < length entries → Contains objects o → get_or (set_each objects t entries) (o - 1) 0 ≡ t
set_each_in [] t entries o positive above fits c = absurd (Contains-none o c)
set_each_in (x ∷ objects) t entries o positive above fits c =
    let rest : ArePositive objects = λ y d. positive y (Contains-there x objects y d) in
    elim (cases_number objects o) [
      | inl d ↦ set_each_in objects t (set entries (x - 1) t) o rest above (rw length-set fits) d
      | inr out ↦
          elim (Contains-cons x objects o c) [
            | inl e ↦
                let here : x - 1 < length entries = omega (arith, e, fits) in
                set_each_out objects t (set entries (x - 1) t) o rest above out ∙ rw (← e, get_or-set_same) refl
            | inr d ↦ absurd (out d)
          ]
    ]

-- what is below top stays so
pub All-set_each : (top : ℕ) (objects : List ℕ) (t : ℕ) (entries : List ℕ) → t ≤ top → All (λ v. v ≤ top) entries → All (λ v. v ≤ top) (set_each objects t entries)
All-set_each top [] t entries le all = all
All-set_each top (x ∷ objects) t entries le all =
    All-set_each top objects t (set entries (x - 1) t) le (All-set (λ v. v ≤ top) entries (x - 1) t le all)
