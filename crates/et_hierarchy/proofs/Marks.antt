-- What visits do, and what the search keeps.
use Rattle.std.proofs.Common.{◌≡◌, ℕ, ◌+◌, ◌<◌, Bool, true, false, suc, zero, ◌⊎◌, inl, inr, List, [], ◌∷◌, ◌++◌, length, get_or, set, refl, sym, ◌∙◌, ap, subst, arith, get_or-set_same, get_or-set_other, ◌↔◌, replicate, true≢false, Option, None}
use Rattle.std.specs.Prelude.{All, Contains}
use Rattle.std.proofs.lemmas.Bool.{cases_eq, cases_lt}
use Rattle.std.proofs.lemmas.List.{length-set, length-append, length-replicate, get_or_past, get_or_default}
use Rattle.std.proofs.lemmas.List.Elements.{Contains-push, Contains-push_cases, Contains-append_cases, Contains-append_left, Contains-append_right}
use Rattle.et_hierarchy.specs.Links.{LinkEntry, parents, parents_of, no_links, IsAncestorIn, IsAncestor}
use Rattle.std.specs.Option.{option_to_list}
use Rattle.std.proofs.lemmas.List.{get_or-append-add}
use Rattle.et_base.proofs.Lists.{Contains-none, Contains-one}
use Rattle.et_hierarchy.specs.Search.{VisitsLinks, IsMarkedIn, unmarked}

⊎-elim : {A B C : Type 0} → (A → C) → (B → C) → A ⊎ B → C
⊎-elim f g (inl a) = f a
⊎-elim f g (inr b) = g b

pub unmarked-set : (marks : List Bool) (o : ℕ) → o < length marks → get_or marks o false ≡ false → unmarked (set marks o true) + 1 ≡ unmarked marks
unmarked-set [] o lt h = omega arith
unmarked-set (true ∷ marks) zero lt h = cc
unmarked-set (false ∷ marks) zero lt h = omega arith
unmarked-set (true ∷ marks) (suc o) lt h = unmarked-set marks o (omega arith) h
unmarked-set (false ∷ marks) (suc o) lt h = omega (arith, unmarked-set marks o (omega arith) h)

pub marked_after : (marks : List Bool) (o u : ℕ) → o < length marks → IsMarkedIn marks u → IsMarkedIn (set marks o true) u
marked_after marks o u lt h =
    ⊎-elim
    (λ e. subst (λ v. IsMarkedIn (set marks o true) v) (sym e) (get_or-set_same marks o true false lt))
    (λ ne. get_or-set_other marks o u true false ne ∙ h) (cases_eq u o)

pub marked_before : (marks : List Bool) (o u : ℕ) → o < length marks → IsMarkedIn (set marks o true) u → (u ≡ o) ⊎ IsMarkedIn marks u
marked_before marks o u lt h =
    ⊎-elim (λ e. inl e) (λ ne. inr (sym (get_or-set_other marks o u true false ne) ∙ h)) (cases_eq u o)

-- a class that was not marked
pub visits_fresh : (marks : List Bool) (work : List ℕ) (o : ℕ) → o < length marks → get_or marks o false ≡ false → VisitsLinks (o ∷ []) marks work (set marks o true) (work ++ o ∷ [])
visits_fresh marks work o lt fresh = record {
  same_length = length-set marks o true;
  keeps = λ u h. marked_after marks o u lt h;
  covers = λ u h. subst (λ v. IsMarkedIn (set marks o true) v) (Contains-one o u h) (get_or-set_same marks o true false lt);
  only = λ u h. ⊎-elim (λ e. inr (subst (λ v. Contains (o ∷ []) v × Contains (work ++ o ∷ []) v) (sym e) (Contains-push [] o, Contains-push work o))) (λ m. inl m) (marked_before marks o u lt h);
  waits = λ u h. Contains-append_left work (o ∷ []) u h;
  only_work = λ u h. ⊎-elim (λ w. inl w) (λ e. inr (subst (λ v. IsMarkedIn (set marks o true) v) e (get_or-set_same marks o true false lt))) (Contains-push_cases work o u h);
  weight = omega (arith, unmarked-set marks o lt fresh, length-append work (o ∷ []));
}

-- a class that was marked
pub visits_marked : (marks : List Bool) (work : List ℕ) (o : ℕ) → IsMarkedIn marks o → VisitsLinks (o ∷ []) marks work marks work
visits_marked marks work o m = record {
  same_length = refl;
  keeps = λ u h. h;
  covers = λ u h. subst (λ v. IsMarkedIn marks v) (Contains-one o u h) m;
  only = λ u h. inl h;
  waits = λ u h. h;
  only_work = λ u h. inl h;
  weight = refl;
}

pub visits_none : (marks : List Bool) (work : List ℕ) → VisitsLinks [] marks work marks work
visits_none marks work = record {
  same_length = refl;
  keeps = λ u h. h;
  covers = λ u h. absurd (Contains-none u h);
  only = λ u h. inl h;
  waits = λ u h. h;
  only_work = λ u h. inl h;
  weight = refl;
}

pub visits_join : (os ps : List ℕ) (a b c : List Bool) (v w x : List ℕ) → VisitsLinks os a v b w → VisitsLinks ps b w c x → VisitsLinks (os ++ ps) a v c x
visits_join os ps a b c v w x f g = record {
  same_length = g.same_length ∙ f.same_length;
  keeps = λ u h. g.keeps u (f.keeps u h);
  covers = λ u h. ⊎-elim (λ i. g.keeps u (f.covers u i)) (λ i. g.covers u i) (Contains-append_cases os ps u h);
  only = λ u h.
      ⊎-elim
      (λ m. ⊎-elim (λ n. inl n) (λ n. inr (Contains-append_left os ps u n.0, g.waits u n.1)) (f.only u m))
      (λ n. inr (Contains-append_right os ps u n.0, n.1)) (g.only u h);
  waits = λ u h. g.waits u (f.waits u h);
  only_work = λ u h. ⊎-elim (λ i. ⊎-elim (λ j. inl j) (λ j. inr (g.keeps u j)) (f.only_work u i)) (λ i. inr i) (g.only_work u h);
  weight = g.weight ∙ f.weight;
}

-- what holds between two turns of the search
pub record Searching (t : List LinkEntry) (k : ℕ) (marks : List Bool) (work : List ℕ) : Type 0 where
  pub same_length : length marks ≡ length t
  pub roots : (o : ℕ) → Contains (parents t k) o → IsMarkedIn marks o
  pub sound : (o : ℕ) → IsMarkedIn marks o → IsAncestor t k o
  pub closed : (u o : ℕ) → IsMarkedIn marks u → Contains (parents t u) o → IsMarkedIn marks o ⊎ Contains work u
  pub work_marked : (u : ℕ) → Contains work u → IsMarkedIn marks u

pub no_marks : (n u : ℕ) → IsMarkedIn (replicate n false) u → ⊥
no_marks zero u h = cc
no_marks (suc n) zero h = cc
no_marks (suc n) (suc u) h = no_marks n u h

-- after the roots were visited
pub searching_start : (t : List LinkEntry) (k : ℕ) (n : ℕ) (marks : List Bool) (work : List ℕ) → n ≡ length t → VisitsLinks (parents t k) (replicate n false) [] marks work → Searching t k marks work
searching_start t k n marks work e v = record {
  same_length = v.same_length ∙ (length-replicate n false ∙ e);
  roots = v.covers;
  sound = λ o h. ⊎-elim (λ m. absurd (no_marks n o m)) (λ m. (0, m.0)) (v.only o h);
  closed = λ u o h p. ⊎-elim (λ m. absurd (no_marks n u m)) (λ m. inr m.1) (v.only u h);
  work_marked = λ u h. ⊎-elim (λ m. absurd (Contains-none u m)) (λ m. m) (v.only_work u h);
}

-- the class u was taken off the list, and its parents were visited
pub searching_step : (t : List LinkEntry) (k : ℕ) (marks : List Bool) (work : List ℕ) (u : ℕ) (marks' : List Bool) (work' : List ℕ) → Searching t k marks (work ++ u ∷ []) → VisitsLinks (parents t u) marks work marks' work' → Searching t k marks' work'
searching_step t k marks work u marks' work' s v = record {
  same_length = v.same_length ∙ s.same_length;
  roots = λ o h. v.keeps o (s.roots o h);
  sound = λ o h. ⊎-elim (λ m. s.sound o m) (λ m. let r = s.sound u (s.work_marked u (Contains-push work u)) in (suc r.0, (u, r.1, m.0))) (v.only o h);
  closed = λ w o h p.
      ⊎-elim
      (λ m.
      ⊎-elim (λ n. inl (v.keeps o n))
      (λ n. ⊎-elim (λ i. inr (v.waits w i)) (λ e. inl (v.covers o (subst (λ x. Contains (parents t x) o) (sym e) p))) (Contains-push_cases work u w n))
      (s.closed w o m p))
      (λ m. inr m.1) (v.only w h);
  work_marked = λ w h. ⊎-elim (λ i. v.keeps w (s.work_marked w (Contains-append_left work (u ∷ []) w i))) (λ i. i) (v.only_work w h);
}

complete : (t : List LinkEntry) (k : ℕ) (marks : List Bool) → Searching t k marks [] → (n o : ℕ) → IsAncestorIn t k n o → IsMarkedIn marks o
complete t k marks s zero o h = s.roots o h
complete t k marks s (suc n) o h =
    ⊎-elim (λ m. m) (λ i. absurd (Contains-none h.0 i)) (s.closed h.0 o (complete t k marks s n h.0 h.1) h.2)

-- nothing is left to do
pub searching_end : (t : List LinkEntry) (k : ℕ) (marks : List Bool) → Searching t k marks [] → (o : ℕ) → IsMarkedIn marks o ↔ IsAncestor t k o
searching_end t k marks s o = (λ h. s.sound o h, λ h. complete t k marks s h.0 o h.1)

-- what is marked is an object of the graph
pub marked_within : (marks : List Bool) (u : ℕ) → IsMarkedIn marks u → u < length marks
marked_within marks u h =
    ⊎-elim (λ lt. lt) (λ le. absurd (true≢false (sym h ∙ get_or_past marks u false le))) (cases_lt u (length marks))

-- the class that was taken off the list
pub taken_within : (t : List LinkEntry) (k : ℕ) (marks : List Bool) (work rest : List ℕ) (u : ℕ) → Searching t k marks work → work ≡ rest ++ u ∷ [] → u < length t
taken_within t k marks work rest u s e =
    let m : IsMarkedIn marks u = s.work_marked u (subst (λ us. Contains us u) (sym e) (Contains-push rest u)) in
    subst (λ n. u < n) s.same_length (marked_within marks u m)

pub searching_taken : (t : List LinkEntry) (k : ℕ) (marks : List Bool) (work rest : List ℕ) (u : ℕ) (os : List ℕ) (marks' : List Bool) (work' : List ℕ) → Searching t k marks work → work ≡ rest ++ u ∷ [] → parents t u ≡ os → VisitsLinks os marks rest marks' work' → Searching t k marks' work'
searching_taken t k marks work rest u os marks' work' s e f v =
    searching_step t k marks rest u marks' work' (subst (λ us. Searching t k marks us) e s) (subst (λ ps. VisitsLinks ps marks rest marks' work') (sym f) v)

-- what a read says, at any default
pub read_at : (bs : List Bool) (i : ℕ) (r d : Bool) → i < length bs → r ≡ get_or bs i r → get_or bs i d ≡ r
read_at bs i r d lt e = get_or_default bs i d r lt ∙ sym e

pub searching_begun : (t : List LinkEntry) (k : ℕ) (n : ℕ) (marks₀ : List Bool) (work₀ : List ℕ) (marks : List Bool) (work : List ℕ) → n ≡ length t → marks₀ ≡ replicate n false → work₀ ≡ [] → VisitsLinks (parents t k) marks₀ work₀ marks work → Searching t k marks work
searching_begun t k n marks₀ work₀ marks work e m w v =
    searching_start t k n marks work e (subst (λ ms. VisitsLinks (parents t k) ms [] marks work) m (subst (λ us. VisitsLinks (parents t k) marks₀ us marks work) w v))

pub marked_test : (marks : List Bool) (i : ℕ) (r : Bool) → i < length marks → r ≡ get_or marks i r → get_or marks i false ≡ r
marked_test marks i r lt e = read_at marks i r false lt e

pub visits_no_option : (o : Option ℕ) (marks : List Bool) (work : List ℕ) → o ≡ None → VisitsLinks (option_to_list o) marks work marks work
visits_no_option o marks work e = subst (λ (p : Option ℕ). VisitsLinks (option_to_list p) marks work marks work) (sym e) (visits_none marks work)

pub within_right : (xs ys zs : List ℕ) (n m : ℕ) → All (λ o. o < n) (xs ++ ys) → zs ≡ ys → m ≡ n → All (λ o. o < m) zs
within_right xs ys zs n m h e f =
    let w : All (λ o. o < n) ys = λ k d lt. subst (λ v. v < n) (get_or-append-add xs ys k d) (h (length xs + k) d (omega (arith, length-append xs ys))) in
    subst (λ ws. All (λ o. o < m) ws) (sym e) (subst (λ p. All (λ o. o < p) ys) (sym f) w)

pub visits_parents : (l : LinkEntry) (o : Option ℕ) (ys : List ℕ) (a b c : List Bool) (v w x : List ℕ) → o ≡ l.above → ys ≡ l.interfaces → VisitsLinks (option_to_list o) a v b w → VisitsLinks ys b w c x → VisitsLinks (parents_of l) a v c x
visits_parents l o ys a b c v w x e f g h =
    visits_join (option_to_list l.above) l.interfaces a b c v w x (subst (λ (p : Option ℕ). VisitsLinks (option_to_list p) a v b w) e g) (subst (λ ps. VisitsLinks ps b w c x) f h)

-- the links that were read
pub read_links : (t : List LinkEntry) (k : ℕ) (x : LinkEntry) → k < length t → x ≡ get_or t k x → parents t k ≡ parents_of x
read_links t k x lt e = ap parents_of (sym (e ∙ get_or_default t k x no_links lt))
