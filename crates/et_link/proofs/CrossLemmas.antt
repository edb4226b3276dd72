-- Redeclared methods.
use Rattle.std.proofs.Common.{◌≡◌, ℕ, zero, suc, ◌+◌, ◌<◌, ◌≤◌, Bool, true, false, cond, ◌&&◌, not, List, ◌++◌, length, get_or, Option, None, Some, IfSome, refl, sym, ◌∙◌, ap, subst, arith, below_more, true≢false, Contains}
use mathlib.Core.Logic.{⊎_elim}
use Rattle.std.specs.Prelude.{nat_lt, All}
use Rattle.std.specs.List.{position_from, list_any, slice_index_or}
use Rattle.std.proofs.lemmas.Bool.{cases_Bool, cond-true, cond-false, and_parts, and_from, ltb-true, ltb-false, not-true}
use Rattle.std.proofs.lemmas.List.{get_or_default}
use Rattle.et_hierarchy.specs.Outline.{Outline}
use Rattle.std.specs.Option.{option_to_list}
use Rattle.std.proofs.lemmas.Option.{same_Some}
use Rattle.et_hierarchy.specs.Links.{LinkEntry, links, no_links, HasLinksWithin}
use Rattle.et_hierarchy.specs.Ancestry.{Ancestry, ancestry_at, IsAncestry, supers_over}
use Rattle.et_program.specs.declared.info.MethodInfo.{MethodInfo}
use Rattle.et_program.specs.Entries.{no_method}
use Rattle.et_program.specs.Members.{is_method}
use Rattle.et_program.proofs.PlaceLemmas.{position_within}
use Rattle.et_program.proofs.WordLemmas.{here, there, any_some, any_from}
use Rattle.et_program.specs.LinkFaults.{IsSuperIn, IsSuper, may_redeclare, is_package_private, method_numbered, same_in, is_same_package, CrossesPackage}
use Rattle.et_link.specs.Crossing.{is_private_at, hides, crosses, lesser, IsLeastClass, AnswersLeast}

-- THE INDEX

pub found_within : (methods : List MethodInfo) (n d : List ℕ) (s o num : ℕ) → Some o ≡ position_from (is_method n d s) 0 methods → num ≡ o → num < length methods
found_within methods n d s o num e at =
    let below : o < length methods = subst (λ (p : Option ℕ). IfSome p (λ j. j < length methods)) (sym e) (position_within (is_method n d s) methods) in
    omega arith

pub hides_found : (set : List Outline) (methods : List MethodInfo) (m : MethodInfo) (s : ℕ) (n d : List ℕ) (o num : ℕ) (p : MethodInfo) (r : Bool) → n ≡ m.name → d ≡ m.descriptor → Some o ≡ position_from (is_method n d s) 0 methods → num ≡ o
    → p ≡ get_or methods num p → r ≡ is_package_private p → is_same_package set m.class s ≡ false → r ≡ hides set methods m s
hides_found set methods m s n d o num p r en ed e at is private apart =
    let lt : num < length methods = found_within methods n d s o num e at in
    let same : same_in methods m s ≡ Some num =
    sym (ap (λ (a : List ℕ). position_from (is_method a m.descriptor s) 0 methods) en) ∙ (sym (ap (λ (b : List ℕ). position_from (is_method n b s) 0 methods) ed) ∙ (sym e ∙ ap (λ (k : ℕ). Some k) (sym at))) in
    let q : r ≡ is_private_at methods (same_in methods m s) = private ∙ (ap is_package_private (is ∙ get_or_default methods num p no_method lt) ∙ ap (is_private_at methods) (sym same)) in
    q ∙ sym (ap (λ b. not b && is_private_at methods (same_in methods m s)) apart)

-- THE LEAST CLASS

pub least_of : (test : MethodInfo → Bool) (methods : List MethodInfo) (n : ℕ) (a b : Option ℕ) → a ≡ b → AnswersLeast test methods n b → AnswersLeast test methods n a
least_of test methods n a b e h = subst (AnswersLeast test methods n) (sym e) h

module _ (test : MethodInfo → Bool) (methods : List MethodInfo) (n : ℕ) where
  passed_over : (found : Option ℕ) → AnswersLeast test methods n found → test (method_numbered methods n) ≡ false → AnswersLeast test methods (n + 1) found
  passed_over None h no' = below_more (λ j. test (method_numbered methods j) ≡ true → ⊥) n h (λ y. true≢false (sym y ∙ no'))
  passed_over (Some k) h no' = record {
    at = h.at;
    within = (let lt : h.at < n = h.within in omega arith);
    of_class = h.of_class;
    passes = h.passes;
    least = below_more (λ j. test (method_numbered methods j) ≡ true → (method_numbered methods j).class < k → ⊥) n h.least (λ y lt. true≢false (sym y ∙ no'));
  }

  counted : (found : Option ℕ) → AnswersLeast test methods n found → test (method_numbered methods n) ≡ true → IsLeastClass test methods (n + 1) (lesser found (method_numbered methods n).class)
  counted None h yes' = record {
    at = n;
    within = omega arith;
    of_class = refl;
    passes = yes';
    least = below_more (λ j. test (method_numbered methods j) ≡ true → (method_numbered methods j).class < (method_numbered methods n).class → ⊥) n (λ j lt y less. h j lt y) (λ y less. omega arith);
  }
  counted (Some k) h yes' =
      let c : ℕ = (method_numbered methods n).class in
      ⊎_elim
      (λ t. let lt : c < k = ltb-true c k t in
      subst (IsLeastClass test methods (n + 1)) (sym (cond-true (nat_lt c k) c k t)) (record {
        at = n;
        within = omega arith;
        of_class = refl;
        passes = yes';
        least = below_more (λ j. test (method_numbered methods j) ≡ true → (method_numbered methods j).class < c → ⊥) n (λ j l y less. h.least j l y (omega arith)) (λ y less. omega arith);
      }))
      (λ f. let le : k ≤ c = ltb-false c k f in
      subst (IsLeastClass test methods (n + 1)) (sym (cond-false (nat_lt c k) c k f)) (record {
        at = h.at;
        within = (let lt : h.at < n = h.within in omega arith);
        of_class = h.of_class;
        passes = h.passes;
        least = below_more (λ j. test (method_numbered methods j) ≡ true → (method_numbered methods j).class < k → ⊥) n h.least (λ y less. omega arith);
      }))
      (cases_Bool (nat_lt c k))

pub least_more : (test : MethodInfo → Bool) (methods : List MethodInfo) (n : ℕ) (found : Option ℕ) (m : MethodInfo) → AnswersLeast test methods n found → n < length methods → m ≡ get_or methods n m → AnswersLeast test methods (n + 1) (cond (test m) (Some (lesser found m.class)) found)
least_more test methods n found m h lt is =
    let e : m ≡ method_numbered methods n = is ∙ get_or_default methods n m no_method lt in
    ⊎_elim
    (λ t. least_of test methods (n + 1) _ (Some (lesser found m.class)) (cond-true (test m) (Some (lesser found m.class)) found t) (subst (λ (x : MethodInfo). IsLeastClass test methods (n + 1) (lesser found x.class)) (sym e) (counted test methods n found h (ap test (sym e) ∙ t))))
    (λ f. least_of test methods (n + 1) _ found (cond-false (test m) (Some (lesser found m.class)) found f) (passed_over test methods n found h (ap test (sym e) ∙ f)))
    (cases_Bool (test m))

pub least_at : (test : MethodInfo → Bool) (methods : List MethodInfo) (n : ℕ) → n ≤ length methods → (found : Option ℕ) × AnswersLeast test methods n found
least_at test methods zero le = (None, λ j lt y. absurd (omega arith))
least_at test methods (suc n) le =
    let r = least_at test methods n (omega arith) in
    let m : MethodInfo = method_numbered methods n in
    let inside : n < length methods = omega arith in
    let e : n + 1 ≡ suc n = omega arith in
    (cond (test m) (Some (lesser r.0 m.class)) r.0, subst (λ k. AnswersLeast test methods k (cond (test m) (Some (lesser r.0 m.class)) r.0)) e (least_more test methods n r.0 m r.1 inside (get_or_default methods n no_method m inside)))

-- SUPERCLASSES

module _ (table : List LinkEntry) (rows : List Ancestry) (is : IsAncestry table rows) (within : HasLinksWithin (length table) table) where
  -- the superclasses of class k, by the class right above it
  supers_by : (k : ℕ) → k < length table → (ancestry_at rows k).supers ≡ supers_over rows (slice_index_or table k no_links).above
  supers_by k lt = ap (λ (a : Ancestry). a.supers) (is.row k lt)

  above_of : (o : Option ℕ) (ints : List ℕ) (u : ℕ) → o ≡ Some u → All (λ j. j < length table) (option_to_list o ++ ints) → u < length table
  above_of None ints u e h = absurd (cc)
  above_of (Some v) ints u e h = let r : v < length table = h 0 v (omega arith) in let s : v ≡ u = same_Some v u e in omega arith

  above_within : (k u : ℕ) → k < length table → (slice_index_or table k no_links).above ≡ Some u → u < length table
  above_within k u lt e = above_of _ (slice_index_or table k no_links).interfaces u e (within k no_links lt)

  super_at : (p : ℕ) (o : Option ℕ) (k s : ℕ) → k < length table → o ≡ (slice_index_or table k no_links).above → p < length (supers_over rows o) → get_or (supers_over rows o) p s ≡ s → IsSuper table k s
  super_at zero None k s lt e l h = absurd (omega arith)
  super_at zero (Some u) k s lt e l h = (0, sym e ∙ ap (λ (x : ℕ). Some x) h)
  super_at (suc p) None k s lt e l h = absurd (omega arith)
  super_at (suc p) (Some u) k s lt e l h =
      let below : u < length table = above_within k u lt (sym e) in
      let up = supers_by u below in
      let size : p < length (ancestry_at rows u).supers = omega arith in
      let r = super_at p (slice_index_or table u no_links).above u s below refl (subst (λ (xs : List ℕ). p < length xs) up size) (subst (λ (xs : List ℕ). get_or xs p s ≡ s) up h) in
      (suc r.0, (u, sym e, r.1))

  pub super_from : (k s : ℕ) → k < length table → Contains (ancestry_at rows k).supers s → IsSuper table k s
  super_from k s lt c =
      let d : Contains (supers_over rows (slice_index_or table k no_links).above) s = subst (λ (xs : List ℕ). Contains xs s) (supers_by k lt) c in
      super_at d.0 (slice_index_or table k no_links).above k s lt refl d.1 d.2

  pub super_in : (n k s : ℕ) → k < length table → IsSuperIn table k n s → Contains (ancestry_at rows k).supers s
  super_in zero k s lt h = subst (λ (xs : List ℕ). Contains xs s) (sym (supers_by k lt ∙ ap (supers_over rows) h)) (here s (ancestry_at rows s).supers)
  super_in (suc n) k s lt (u, e, h) = subst (λ (xs : List ℕ). Contains xs s) (sym (supers_by k lt ∙ ap (supers_over rows) e)) (there u (ancestry_at rows u).supers s (super_in n u s (above_within k u lt e) h))

-- WHAT CROSSES

some_private : (methods : List MethodInfo) (o : Option ℕ) → is_private_at methods o ≡ true → (j : ℕ) × (o ≡ Some j) × (is_package_private (method_numbered methods j) ≡ true)
some_private methods None h = absurd (cc)
some_private methods (Some j) h = (j, refl, h)

module _ (set : List Outline) (rows : List Ancestry) (methods : List MethodInfo) (is : IsAncestry (links set) rows) (within : HasLinksWithin (length (links set)) (links set)) (own : All (λ (m : MethodInfo). m.class < length (links set)) methods) where
  crossing_at : (j : ℕ) → j < length methods → crosses set rows methods (method_numbered methods j) ≡ true → CrossesPackage set methods (method_numbered methods j).class
  crossing_at j lt h =
      let m : MethodInfo = method_numbered methods j in
      let a = and_parts (may_redeclare m) (list_any (hides set methods m) (ancestry_at rows m.class).supers) h in
      let s = any_some (hides set methods m) (ancestry_at rows m.class).supers a.1 in
      let b = and_parts (not (is_same_package set m.class s.0)) (is_private_at methods (same_in methods m s.0)) s.2 in
      let o = some_private methods (same_in methods m s.0) b.1 in
      record {
        method = j;
        within = lt;
        of_class = refl;
        redeclares = a.0;
        superclass = s.0;
        is_super = super_from (links set) rows is within m.class s.0 (own j no_method lt) s.1;
        elsewhere = not-true _ b.0;
        redeclared = o.0;
        found = o.1;
        package_private = o.2;
      }

  crossing_is : (k : ℕ) (c : CrossesPackage set methods k) → crosses set rows methods (method_numbered methods c.method) ≡ true
  crossing_is k c =
      let m : MethodInfo = method_numbered methods c.method in
      let up : Contains (ancestry_at rows m.class).supers c.superclass = super_in (links set) rows is within c.is_super.0 m.class c.superclass (own c.method no_method c.within) (subst (λ (x : ℕ). IsSuperIn (links set) x c.is_super.0 c.superclass) (sym c.of_class) c.is_super.1) in
      let apart : is_same_package set m.class c.superclass ≡ false = ap (λ (x : ℕ). is_same_package set x c.superclass) c.of_class ∙ c.elsewhere in
      let hidden : hides set methods m c.superclass ≡ true = and_from (not (is_same_package set m.class c.superclass)) (is_private_at methods (same_in methods m c.superclass)) (ap not apart) (ap (is_private_at methods) c.found ∙ c.package_private) in
      and_from (may_redeclare m) (list_any (hides set methods m) (ancestry_at rows m.class).supers) c.redeclares (any_from (hides set methods m) (ancestry_at rows m.class).supers c.superclass up hidden)

  pub no_crossing : AnswersLeast (crosses set rows methods) methods (length methods) None → (k : ℕ) → CrossesPackage set methods k → ⊥
  no_crossing h k c = h c.method c.within (crossing_is k c)

  pub first_crosses : (k : ℕ) → AnswersLeast (crosses set rows methods) methods (length methods) (Some k) → CrossesPackage set methods k
  first_crosses k h = subst (CrossesPackage set methods) h.of_class (crossing_at h.at h.within h.passes)

  pub none_crosses_before : (k : ℕ) → AnswersLeast (crosses set rows methods) methods (length methods) (Some k) → (j : ℕ) → j < k → CrossesPackage set methods j → ⊥
  none_crosses_before k h j lt c = h.least c.method c.within (crossing_is j c) (let e : (method_numbered methods c.method).class ≡ j = c.of_class in omega arith)
