-- The tests of `Members` say what `Words` says.
use Rattle.std.proofs.Common.{◌≡◌, ℕ, suc, ◌==◌, Bool, true, false, cond, ◌&&◌, ◌||◌, not, ◌⊎◌, inl, inr, List, [], ◌∷◌, Option, None, Some, is_some, refl, sym, ◌∙◌, ap, subst, arith, true≢false, Contains}
use mathlib.Core.Logic.{⊎_elim}
use Rattle.std.specs.List.{list_any, filter_map, cons_option}
use Rattle.std.proofs.lemmas.Bool.{cases_Bool, and_parts, and_from, eqb-true, eq-eqb, not-true, not_from_false}
use Rattle.std.proofs.lemmas.Option.{same_Some}
use Rattle.et_base.proofs.Lists.{Contains-none, Contains-cons}
use Rattle.et_base.proofs.Options.{is_some_of}
use Rattle.et_program.specs.Entries.{Linked, class_at, is_private, is_static, is_abstract}
use Rattle.et_program.specs.Members.{method_in, kept, is_open_method, open_in, is_above, is_overridden, specific_in}
use Rattle.et_program.specs.Words.{IsOpenMember, AreSpecific}

pub here : (x : ℕ) (xs : List ℕ) → Contains (x ∷ xs) x
here x xs = (0, omega arith, refl)

pub there : (y : ℕ) (xs : List ℕ) (x : ℕ) → Contains xs x → Contains (y ∷ xs) x
there y xs x (k, lt, e) = (suc k, omega arith, e)

-- a test that passes at some member
pub any_some : (t : ℕ → Bool) (xs : List ℕ) → list_any t xs ≡ true → (x : ℕ) × Contains xs x × (t x ≡ true)
any_some t [] h = absurd (cc)
any_some t (x ∷ xs) h =
    ⊎_elim
    (λ y. (x, here x xs, y))
    (λ n. let r = any_some t xs (sym (ap (λ b. b || list_any t xs) n) ∙ h) in (r.0, there x xs r.0 r.1, r.2))
    (cases_Bool (t x))

pub any_from : (t : ℕ → Bool) (xs : List ℕ) (x : ℕ) → Contains xs x → t x ≡ true → list_any t xs ≡ true
any_from t [] x c h = absurd (Contains-none x c)
any_from t (y ∷ xs) x c h =
    ⊎_elim
    (λ e. ap (λ b. b || list_any t xs) (ap t e ∙ h))
    (λ d. ⊎_elim (λ yes'. ap (λ b. b || list_any t xs) yes') (λ no'. ap (λ b. b || list_any t xs) no' ∙ any_from t xs x d h) (cases_Bool (t y)))
    (Contains-cons y xs x c)

cons_cases : (o : Option ℕ) (ms : List ℕ) (m : ℕ) → Contains (cons_option o ms) m → (o ≡ Some m) ⊎ Contains ms m
cons_cases None ms m c = inr c
cons_cases (Some k) ms m c = ⊎_elim (λ e. inl (ap (λ (j : ℕ). Some j) e)) (λ d. inr d) (Contains-cons k ms m c)

cons_left : (o : Option ℕ) (ms : List ℕ) (m : ℕ) → o ≡ Some m → Contains (cons_option o ms) m
cons_left None ms m e = absurd (cc)
cons_left (Some k) ms m e = subst (λ (j : ℕ). Contains (k ∷ ms) j) (same_Some k m e) (here k ms)

cons_right : (o : Option ℕ) (ms : List ℕ) (m : ℕ) → Contains ms m → Contains (cons_option o ms) m
cons_right None ms m c = c
cons_right (Some k) ms m c = there k ms m c

kept_some : (f : ℕ → Option ℕ) (xs : List ℕ) (m : ℕ) → Contains (filter_map f xs) m → (i : ℕ) × Contains xs i × (f i ≡ Some m)
kept_some f [] m c = absurd (Contains-none m c)
kept_some f (x ∷ xs) m c =
    ⊎_elim (λ e. (x, here x xs, e)) (λ d. let r = kept_some f xs m d in (r.0, there x xs r.0 r.1, r.2)) (cons_cases (f x) (filter_map f xs) m c)

kept_from : (f : ℕ → Option ℕ) (xs : List ℕ) (m i : ℕ) → Contains xs i → f i ≡ Some m → Contains (filter_map f xs) m
kept_from f [] m i c e = absurd (Contains-none i c)
kept_from f (x ∷ xs) m i c e =
    ⊎_elim
    (λ s. cons_left (f x) (filter_map f xs) m (ap f s ∙ e))
    (λ d. cons_right (f x) (filter_map f xs) m (kept_from f xs m i d e))
    (Contains-cons x xs i c)

-- a member that is kept
kept_is : (t : ℕ → Bool) (o : Option ℕ) (m : ℕ) → kept t o ≡ Some m → (o ≡ Some m) × (t m ≡ true)
kept_is t None m e = absurd (cc)
kept_is t (Some k) m e =
    ⊎_elim
    (λ y. let s : k ≡ m = same_Some k m (sym (ap (λ b. cond b (Some k) None) y) ∙ e) in (ap (λ (j : ℕ). Some j) s, ap t (sym s) ∙ y))
    (λ n. let z : None ≡ Some m = sym (ap (λ b. cond b (Some k) None) n) ∙ e in absurd (cc))
    (cases_Bool (t k))

keeps : (t : ℕ → Bool) (o : Option ℕ) (m : ℕ) → o ≡ Some m → t m ≡ true → kept t o ≡ Some m
keeps t o m e y = ap (kept t) e ∙ ap (λ b. cond b (Some m) None) y

open_is : (p : Linked) (name descriptor : List ℕ) (i m : ℕ) → open_in p name descriptor i ≡ Some m → IsOpenMember p name descriptor i m
open_is p name descriptor i m e =
    let k = kept_is (is_open_method p) (method_in p name descriptor i) m e in
    let a = and_parts (not (is_private p m)) (not (is_static p m)) k.1 in
    record { declared = k.0; not_private = not-true _ a.0; not_static = not-true _ a.1 }

open_from : (p : Linked) (name descriptor : List ℕ) (i m : ℕ) → IsOpenMember p name descriptor i m → open_in p name descriptor i ≡ Some m
open_from p name descriptor i m h =
    keeps (is_open_method p) (method_in p name descriptor i) m h.declared (and_from (not (is_private p m)) (not (is_static p m)) (not_from_false _ h.not_private) (not_from_false _ h.not_static))

above_is : (p : Linked) (i j : ℕ) → is_above p i j ≡ true → Contains (class_at p j).superinterfaces i
above_is p i j h =
    let r = any_some (λ k. k == i) (class_at p j).superinterfaces h in
    subst (λ k. Contains (class_at p j).superinterfaces k) (eqb-true r.0 i r.2) r.1

above_from : (p : Linked) (i j : ℕ) → Contains (class_at p j).superinterfaces i → is_above p i j ≡ true
above_from p i j c = any_from (λ k. k == i) (class_at p j).superinterfaces i c (eq-eqb i i refl)

pub specific_words : (p : Linked) (name descriptor : List ℕ) (c : ℕ) → AreSpecific p name descriptor c
specific_words p name descriptor c m =
    let all : List ℕ = (class_at p c).superinterfaces in (
      λ h.
          let r = kept_some (specific_in p name descriptor all) all m h in
          ⊎_elim
          (λ y. let z : None ≡ Some m = sym (ap (λ b. cond b None (kept (λ k. not (is_abstract p k)) (open_in p name descriptor r.0))) y) ∙ r.2 in absurd (cc))
          (λ n.
          let k = kept_is (λ k. not (is_abstract p k)) (open_in p name descriptor r.0) m (sym (ap (λ b. cond b None (kept (λ k. not (is_abstract p k)) (open_in p name descriptor r.0))) n) ∙ r.2) in (
            r.0,
            record {
              inside = r.1;
              member = open_is p name descriptor r.0 m k.0;
              none_below = λ j other cj above o.
                  let w : is_overridden p name descriptor all r.0 ≡ true = any_from (λ q. is_above p r.0 q && is_some (open_in p name descriptor q)) all j cj (and_from (is_above p r.0 j) (is_some (open_in p name descriptor j)) (above_from p r.0 j above) (ap is_some (open_from p name descriptor j other o))) in
                  true≢false (sym w ∙ n);
            },
            not-true _ k.1,
          ))
          (cases_Bool (is_overridden p name descriptor all r.0)),
      λ h.
          let i : ℕ = h.0 in
          let f : specific_in p name descriptor all i ≡ Some m =
          ⊎_elim
          (λ y.
          let r = any_some (λ q. is_above p i q && is_some (open_in p name descriptor q)) all y in
          let a = and_parts (is_above p i r.0) (is_some (open_in p name descriptor r.0)) r.2 in
          let o = is_some_of (open_in p name descriptor r.0) a.1 in
          absurd (h.1.none_below r.0 o.0 r.1 (above_is p i r.0 a.0) (open_is p name descriptor r.0 o.0 o.1)))
          (λ n. ap (λ b. cond b None (kept (λ k. not (is_abstract p k)) (open_in p name descriptor i))) n ∙ keeps (λ k. not (is_abstract p k)) (open_in p name descriptor i) m (open_from p name descriptor i m h.1.member) (not_from_false _ h.2))
          (cases_Bool (is_overridden p name descriptor all i)) in
          kept_from (specific_in p name descriptor all) all m i h.1.inside f,
    )
