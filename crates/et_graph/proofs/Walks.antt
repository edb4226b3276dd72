-- Walks along pairs, and which objects a list of pairs leads to.
use Rattle.std.proofs.Common.{◌≡◌, ℕ, ◌↔◌, ◌⊎◌, Bool, IsTrue, true, false, List, [], ◌∷◌, Contains, refl, sym, ap, subst, inl, inr}
use Rattle.std.proofs.lemmas.Bool.{cases_eq}
use Rattle.et_graph.specs.Graph.{Graph, IsWalk, Leads, LeadsTo, IsReached, Decides}
use Rattle.et_base.proofs.Lists.{Contains-none, Contains-here, Contains-there, Contains-cons, Cases}

pub leads_itself : (pairs : List (ℕ × ℕ)) (u : ℕ) → Leads pairs u u
leads_itself pairs u = ([], refl)

pub leads_first : (pairs : List (ℕ × ℕ)) (u x o : ℕ) → Contains pairs (u, x) → Leads pairs x o → Leads pairs u o
leads_first pairs u x o c l = (x ∷ l.0, (c, l.1))

walk_on : (pairs : List (ℕ × ℕ)) (u : ℕ) (walk : List ℕ) (v o : ℕ) → IsWalk pairs u walk v → Leads pairs v o → Leads pairs u o
walk_on pairs u [] v o e l = subst (λ x. Leads pairs x o) (sym e) l
walk_on pairs u (x ∷ walk) v o w l = leads_first pairs u x o w.0 (walk_on pairs x walk v o w.1 l)

pub leads_on : (pairs : List (ℕ × ℕ)) (u v o : ℕ) → Leads pairs u v → Leads pairs v o → Leads pairs u o
leads_on pairs u v o l m = walk_on pairs u l.0 v o l.1 m

pub walk_more : (ps qs : List (ℕ × ℕ)) → ((u x : ℕ) → Contains ps (u, x) → Contains qs (u, x)) → (u : ℕ) (walk : List ℕ) (o : ℕ) → IsWalk ps u walk o → IsWalk qs u walk o
walk_more ps qs more u [] o e = e
walk_more ps qs more u (x ∷ walk) o w = (more u x w.0, walk_more ps qs more x walk o w.1)

-- a fact that goes along pairs goes from u to all that u leads to
pub along : (P : ℕ → Type 0) (pairs : List (ℕ × ℕ)) → ((u x : ℕ) → Contains pairs (u, x) → P u → P x) → (u : ℕ) (walk : List ℕ) (o : ℕ) → IsWalk pairs u walk o → P u → P o
along P pairs next u [] o e h = subst P e h
along P pairs next u (x ∷ walk) o w h = along P pairs next x walk o w.1 (next u x w.0 h)

-- a walk along one more pair avoids it, or goes to it and on from it without it
walk_split : (a b : ℕ) (ps : List (ℕ × ℕ)) (u : ℕ) (walk : List ℕ) (o : ℕ) → IsWalk ((a, b) ∷ ps) u walk o → Leads ps u o ⊎ (Leads ps u a × Leads ps b o)
walk_split a b ps u [] o e = inl ([], e)
walk_split a b ps u (x ∷ walk) o w =
    let rest = walk_split a b ps x walk o w.1 in
    elim (Contains-cons (a, b) ps (u, x) w.0) [
      | inl e ↦
          let first : a ≡ u = ap (λ (p : ℕ × ℕ). p.0) e in
          let second : b ≡ x = ap (λ (p : ℕ × ℕ). p.1) e in
          let start : Leads ps u a = subst (λ v. Leads ps v a) first (leads_itself ps a) in
          elim rest [
            | inl l ↦ inr (start, subst (λ v. Leads ps v o) (sym second) l)
            | inr l ↦ inr (start, l.1)
          ]
      | inr c ↦ elim rest [
        | inl l ↦ inl (leads_first ps u x o c l)
        | inr l ↦ inr (leads_first ps u x a c l.0, l.1)
      ]
    ]

no_pairs : (u : ℕ) (walk : List ℕ) (o : ℕ) → (u ≡ o → ⊥) → IsWalk [] u walk o → ⊥
no_pairs u [] o ne e = ne e
no_pairs u (x ∷ walk) o ne w = Contains-none (u, x) w.0

pub leads_more : (p : ℕ × ℕ) (ps : List (ℕ × ℕ)) (u o : ℕ) → Leads ps u o → Leads (p ∷ ps) u o
leads_more p ps u o l = (l.0, walk_more ps (p ∷ ps) (λ v x c. Contains-there p ps (v, x) c) u l.0 o l.1)

-- whether the pairs lead from u to o, by trying the pairs one by one
pub cases_leads : (pairs : List (ℕ × ℕ)) (u o : ℕ) → Cases (Leads pairs u o)
cases_leads [] u o =
    elim (cases_eq u o) [
      | inl e ↦ inl ([], e)
      | inr ne ↦ inr (λ l. no_pairs u l.0 o ne l.1)
    ]
cases_leads ((a, b) ∷ ps) u o =
    elim (cases_leads ps u o) [
      | inl l ↦ inl (leads_more (a, b) ps u o l)
      | inr without ↦
          elim (cases_leads ps u a) [
            | inl before ↦
                elim (cases_leads ps b o) [
                  | inl after ↦
                      inl (leads_on ((a, b) ∷ ps) u a o (leads_more (a, b) ps u a before)
                      (leads_first ((a, b) ∷ ps) a b o (Contains-here (a, b) ps) (leads_more (a, b) ps b o after)))
                  | inr none ↦ inr (λ l. elim (walk_split a b ps u l.0 o l.1) [ inl m ↦ without m | inr m ↦ none m.1 ])
                ]
            | inr none ↦ inr (λ l. elim (walk_split a b ps u l.0 o l.1) [ inl m ↦ without m | inr m ↦ none m.0 ])
          ]
    ]

cases_from : (pairs : List (ℕ × ℕ)) (roots : List ℕ) (o : ℕ) → Cases ((root : ℕ) × Contains roots root × Leads pairs root o)
cases_from pairs [] o = inr (λ h. Contains-none h.0 h.1)
cases_from pairs (r ∷ roots) o =
    elim (cases_leads pairs r o) [
      | inl l ↦ inl (r, Contains-here r roots, l)
      | inr first ↦
          elim (cases_from pairs roots o) [
            | inl h ↦ inl (h.0, Contains-there r roots h.0 h.1, h.2)
            | inr rest ↦ inr (λ h. elim (Contains-cons r roots h.0 h.1) [
              | inl e ↦ first (subst (λ v. Leads pairs v o) (sym e) h.2)
              | inr c ↦ rest (h.0, c, h.2)
            ])
          ]
    ]

-- whether an object is reached
pub cases_reached : (g : Graph) (o : ℕ) → Cases (IsReached g o)
cases_reached g o = cases_from g.pairs g.roots o

pub reached_on : (g : Graph) (u o : ℕ) → IsReached g u → LeadsTo g u o → IsReached g o
reached_on g u o r l = (r.0, r.1, leads_on g.pairs r.0 u o r.2 l)

pub root_reached : (g : Graph) (r : ℕ) → Contains g.roots r → IsReached g r
root_reached g r c = (r, c, leads_itself g.pairs r)

-- a fact of the roots that goes along pairs holds of each reached object
pub reached_all : (P : ℕ → Type 0) (g : Graph) → ((r : ℕ) → Contains g.roots r → P r) → ((u x : ℕ) → Contains g.pairs (u, x) → P u → P x) → (o : ℕ) → IsReached g o → P o
reached_all P g start next o r = along P g.pairs next r.0 r.2.0 o r.2.1 (start r.0 r.1)

abbrev pub as_test : {P : Type 0} → Cases P → Bool
as_test (inl h) = true
as_test (inr none) = false

test_tells : {P : Type 0} (cases : Cases P) → IsTrue (as_test cases) ↔ P
test_tells (inl h) = ((λ t. h), (λ p. refl))
test_tells (inr none) = ((λ t. absurd (let e : false ≡ true = t in cc)), (λ p. absurd (none p)))

-- a test of whether an object is reached
abbrev pub is_reached : Graph → ℕ → Bool
is_reached g o = as_test (cases_reached g o)

pub is_reached_decides : Decides is_reached
is_reached_decides g o = test_tells (cases_reached g o)
