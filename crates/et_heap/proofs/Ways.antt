-- Links that lead over references.
use Rattle.std.proofs.Common.{◌≡◌, ℕ, List, [], ◌∷◌, ◌++◌, Option, Some, None, Contains, ap, subst, refl, sym, ◌∙◌, inl, inr}
use Rattle.std.proofs.lemmas.Bool.{cases_eq}
use Rattle.std.proofs.lemmas.List.Elements.{Contains-append_cases}
use Rattle.et_base.proofs.Lists.{Contains-none, Contains-here, Contains-there, Contains-cons}
use Rattle.et_heap.specs.Links.{IsChain, IsLeft, IsRing, StandOnce}

-- a way ends at one of its references
pub way-end : (next : ℕ → Option ℕ) (p : ℕ) (rs : List ℕ) (l : ℕ) → IsChain next p rs l → Contains (p ∷ rs) l
way-end next p [] l way = subst (λ (x : ℕ). Contains (p ∷ []) x) way (Contains-here p [])
way-end next p (r ∷ rs) l way = Contains-there p (r ∷ rs) l (way-end next r rs l way.1)

-- where a way goes on, it ends behind its beginning
pub way-goes_on : (next : ℕ → Option ℕ) (p r : ℕ) (rs : List ℕ) (l : ℕ) → StandOnce (p ∷ r ∷ rs) → IsChain next r rs l → p ≡ l → ⊥
way-goes_on next p r rs l once way e = once.0 (subst (λ (x : ℕ). Contains (r ∷ rs) x) (sym e) (way-end next r rs l way))

-- other links lead the same way where they agree on its references, the last one left out
leads-same : (next next' : ℕ → Option ℕ) (p : ℕ) (rs : List ℕ) (l : ℕ) → ((o : ℕ) → Contains (p ∷ rs) o → (o ≡ l → ⊥) → next' o ≡ next o) → StandOnce (p ∷ rs) → IsChain next p rs l → IsChain next' p rs l
leads-same next next' p [] l same once way = way
leads-same next next' p (r ∷ rs) l same once way = (
  same p (Contains-here p (r ∷ rs)) (way-goes_on next p r rs l once way.1) ∙ way.0,
  leads-same next next' r rs l (λ o c. same o (Contains-there p (r ∷ rs) o c)) once.1 way.1,
)

leads-more : (next next' : ℕ → Option ℕ) (p : ℕ) (rs : List ℕ) (l r : ℕ) → ((o : ℕ) → Contains (p ∷ rs) o → (o ≡ l → ⊥) → next' o ≡ next o) → next' l ≡ Some r → StandOnce (p ∷ rs) → IsChain next p rs l → IsChain next' p (rs ++ r ∷ []) r
leads-more next next' p [] l r same is once way = (subst (λ (x : ℕ). next' x ≡ Some r) (sym way) is, refl)
leads-more next next' p (q ∷ rs) l r same is once way = (
  same p (Contains-here p (q ∷ rs)) (way-goes_on next p q rs l once way.1) ∙ way.0,
  leads-more next next' q rs l r (λ o c. same o (Contains-there p (q ∷ rs) o c)) is once.1 way.1,
)

leads-kept : (next next' : ℕ → Option ℕ) (p : ℕ) (rs : List ℕ) (l : ℕ) → ((o : ℕ) → Contains (p ∷ rs) o → next' o ≡ next o) → IsChain next p rs l → IsChain next' p rs l
leads-kept next next' p [] l same way = way
leads-kept next next' p (r ∷ rs) l same way = (same p (Contains-here p (r ∷ rs)) ∙ way.0, leads-kept next next' r rs l (λ o c. same o (Contains-there p (r ∷ rs) o c)) way.1)

-- RINGS

abbrev value_or : ℕ → Option ℕ → ℕ
value_or d None = d
value_or d (Some x) = x

-- the last reference of a ring is one of its references
pub ring-last : (next : ℕ → Option ℕ) (l : ℕ) (rs : List ℕ) → IsRing next (Some l) rs → Contains rs l
ring-last next l [] ring = absurd (cc ring)
ring-last next l (r ∷ rs) ring = way-end next r rs l ring.1

-- and the link of the last one leads to the first
pub ring-first : (next : ℕ → Option ℕ) (l : ℕ) (rs : List ℕ) (f : ℕ) → IsRing next (Some l) rs → next l ≡ Some f → Contains rs f
ring-first next l [] f ring is = absurd (cc ring)
ring-first next l (r ∷ rs) f ring is = let e : r ≡ f = ap (value_or f) (sym ring.0 ∙ is) in subst (λ (x : ℕ). Contains (r ∷ rs) x) e (Contains-here r rs)

pub ring-none : (next : ℕ → Option ℕ) (rs : List ℕ) → IsRing next None rs → rs ≡ []
ring-none next [] ring = refl
ring-none next (r ∷ rs) ring = absurd ring

-- other links that agree on the references of a ring
pub ring-kept : (next next' : ℕ → Option ℕ) (n : Option ℕ) (rs : List ℕ) → ((o : ℕ) → Contains rs o → next' o ≡ next o) → IsRing next n rs → IsRing next' n rs
ring-kept next next' n [] same ring = ring
ring-kept next next' None (r ∷ rs) same ring = absurd ring
ring-kept next next' (Some l) (r ∷ rs) same ring = (same l (way-end next r rs l ring.1) ∙ ring.0, leads-kept next next' r rs l same ring.1)

-- a ring of one
pub ring-one : (next : ℕ → Option ℕ) (r : ℕ) → next r ≡ Some r → IsRing next (Some r) (r ∷ [])
ring-one next r is = (is, refl)

-- one reference more, behind the last one
pub ring-more : (next next' : ℕ → Option ℕ) (l r : ℕ) (rs : List ℕ) → ((o : ℕ) → Contains rs o → (o ≡ l → ⊥) → next' o ≡ next o) → next' l ≡ Some r → next' r ≡ next l → StandOnce rs → IsRing next (Some l) rs → IsRing next' (Some r) (rs ++ r ∷ [])
ring-more next next' l r [] same is first once ring = absurd (cc ring)
ring-more next next' l r (w ∷ rs) same is first once ring = (first ∙ ring.0, leads-more next next' w rs l r same is once ring.1)

-- one reference fewer, at the beginning
pub ring-fewer : (next next' : ℕ → Option ℕ) (l w s : ℕ) (ss : List ℕ) → ((o : ℕ) → Contains (s ∷ ss) o → (o ≡ l → ⊥) → next' o ≡ next o) → next' l ≡ next w → StandOnce (w ∷ s ∷ ss) → IsRing next (Some l) (w ∷ s ∷ ss) → IsRing next' (Some l) (s ∷ ss)
ring-fewer next next' l w s ss same is once ring = (is ∙ ring.1.0, leads-same next next' s ss l same once.1 ring.1.1)

-- LISTS IN WHICH NO REFERENCE STANDS TWICE

pub once-more : (rs : List ℕ) (r : ℕ) → (Contains rs r → ⊥) → StandOnce rs → StandOnce (rs ++ r ∷ [])
once-more [] r out once = (λ c. Contains-none r c, tt)
once-more (x ∷ rs) r out once = (
  λ c. elim (Contains-append_cases rs (r ∷ []) x c) [
    | inl d ↦ once.0 d
    | inr d ↦ elim (Contains-cons r [] x d) [
      | inl e ↦ out (subst (λ (y : ℕ). Contains (y ∷ rs) r) e (Contains-here r rs))
      | inr n ↦ Contains-none x n
    ]
  ],
  once-more rs r (λ c. out (Contains-there x rs r c)) once.1,
)

-- WHAT IS LEFT OF A LIST

pub record IsNextLeft (next : ℕ → Option ℕ) (p : ℕ) (l : Option ℕ) (rs : List ℕ) : Type 0 where
  pub first : ℕ
  pub rest : List ℕ
  pub is : rs ≡ first ∷ rest
  pub goes : next p ≡ Some first
  pub ends : Some first ≡ l → rest ≡ []
  pub goes_on : (Some first ≡ l → ⊥) → IsLeft next (Some first) l rest

left_ends : (next : ℕ → Option ℕ) (r : ℕ) (rs : List ℕ) (l : ℕ) → StandOnce (r ∷ rs) → IsChain next r rs l → r ≡ l → rs ≡ []
left_ends next r [] l once way e = refl
left_ends next r (s ∷ ss) l once way e = absurd (way-goes_on next r s ss l once way.1 e)

left_goes_on : (next : ℕ → Option ℕ) (r : ℕ) (rs : List ℕ) (l : ℕ) → IsChain next r rs l → (r ≡ l → ⊥) → IsLeft next (Some r) (Some l) rs
left_goes_on next r [] l way other = absurd (other way)
left_goes_on next r (s ∷ ss) l way other = way

pub left-next : (next : ℕ → Option ℕ) (p : ℕ) (l : Option ℕ) (rs : List ℕ) → StandOnce rs → IsLeft next (Some p) l rs → IsNextLeft next p l rs
left-next next p l [] once left = absurd (cc left)
left-next next p None (r ∷ rs) once left = absurd left
left-next next p (Some l) (r ∷ rs) once left = record {
  first = r;
  rest = rs;
  is = refl;
  goes = left.0;
  ends = λ e. left_ends next r rs l once left.1 (ap (value_or l) e);
  goes_on = λ other. left_goes_on next r rs l left.1 (λ e. other (ap (λ (x : ℕ). Some x) e));
}

-- where the list goes on behind its first reference
pub left-behind : (next : ℕ → Option ℕ) (p : ℕ) (l : Option ℕ) (rs : List ℕ) (n : IsNextLeft next p l rs) (b : Option ℕ) → (Some n.first ≡ l → b ≡ None) → ((Some n.first ≡ l → ⊥) → b ≡ Some n.first) → IsLeft next b l n.rest
left-behind next p None rs n b ends goes_on = subst (λ (x : Option ℕ). IsLeft next x None n.rest) (sym (goes_on (λ e. absurd (cc e)))) (n.goes_on (λ e. absurd (cc e)))
left-behind next p (Some l) rs n b ends goes_on =
    elim (cases_eq n.first l) [
      | inl e ↦
          let same : Some n.first ≡ Some l = ap (λ (x : ℕ). Some x) e in
          subst (λ (x : Option ℕ). IsLeft next x (Some l) n.rest) (sym (ends same)) (subst (λ (xs : List ℕ). IsLeft next None (Some l) xs) (sym (n.ends same)) refl)
      | inr other ↦
          let differ : Some n.first ≡ Some l → ⊥ = λ e. other (ap (value_or l) e) in
          subst (λ (x : Option ℕ). IsLeft next x (Some l) n.rest) (sym (goes_on differ)) (n.goes_on differ)
    ]

pub first-behind : (f : ℕ) (l b : Option ℕ) → (Some f ≡ l → b ≡ None) → ((Some f ≡ l → ⊥) → b ≡ Some f) → (p : ℕ) → b ≡ Some p → f ≡ p
first-behind f None b ends goes_on p is = ap (value_or p) (sym (goes_on (λ e. absurd (cc e))) ∙ is)
first-behind f (Some l) b ends goes_on p is =
    elim (cases_eq f l) [
      | inl e ↦ let none : Some p ≡ None = sym is ∙ ends (ap (λ (x : ℕ). Some x) e) in absurd (cc none)
      | inr other ↦ ap (value_or p) (sym (goes_on (λ e. other (ap (value_or l) e))) ∙ is)
    ]
