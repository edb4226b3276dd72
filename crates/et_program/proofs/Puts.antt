-- What an index of names has after a number was put in.
use Rattle.std.proofs.Common.{◌≡◌, ℕ, Bool, true, false, cond, List, Option, None, Some, Vec, Global, is_some, is_eq, nat_cmp, Ordering, refl, sym, ◌∙◌, ap, subst}
use mathlib.Core.Logic.{⊎_elim}
use Rattle.std.specs.Option.{option_or}
use Rattle.std.specs.Str.{bytes_eq}
use Rattle.std.specs.Ordering.{eq_by_cmp}
use Rattle.std.specs.Cmp.Lexicographic.{slice_cmp}
use Rattle.std.specs.BTreeMap.{BTreeMap, get_by, UpdatesBy, is_at}
use Rattle.std.proofs.lemmas.Bool.{cases_Bool, cond-true, cond-false}
use Rattle.std.proofs.lemmas.Cmp.{nat_list_cmp_total, nat_list_eq_equiv, eq_by_cmp_equiv}
use Rattle.std.proofs.lemmas.Map.Text.{is_eq-slice_cmp}
use Rattle.et_hierarchy.proofs.Maps.{other_entries}
use Rattle.et_hierarchy.proofs.Names.{same_name}
use Rattle.et_base.proofs.Options.{is_none}

abbrev Places : Type 0
Places = BTreeMap (Vec ℕ Global) ℕ

-- how a name stands to a key
abbrev stands : List ℕ → Vec ℕ Global → Ordering
stands name k = slice_cmp nat_cmp name k.items

or_none : (o : Option ℕ) → option_or o None ≡ o
or_none None = refl
or_none (Some k) = refl

-- what was put in where there was nothing
pub put_behind : (at : Bool) (k : ℕ) (old new : Option ℕ) → new ≡ cond at (Some k) old → (at ≡ true → old ≡ None) → new ≡ option_or old (cond at (Some k) None)
put_behind true k old new is none = is ∙ sym (ap (λ o. option_or o (Some k)) (none refl))
put_behind false k old new is none = is ∙ sym (or_none old)

-- what is found already stays
pub put_over : (at : Bool) (k : ℕ) (old : Option ℕ) → (at ≡ true → is_some old ≡ true) → old ≡ option_or old (cond at (Some k) None)
put_over true k None h = let e : false ≡ true = h refl in absurd (cc)
put_over true k (Some m) h = refl
put_over false k old h = sym (or_none old)

-- a key that is found by one name isn't found by another
apart : (bs cs ks : List ℕ) → bytes_eq bs cs ≡ false → is_eq (slice_cmp nat_cmp bs ks) ≡ true → is_eq (slice_cmp nat_cmp cs ks) ≡ false
apart bs cs ks n y =
    is_eq-slice_cmp cs ks ∙ (nat_list_eq_equiv.symm cs ks ∙ (sym (nat_list_eq_equiv.congr bs ks cs (sym (is_eq-slice_cmp bs ks) ∙ y)) ∙ n))

-- a look-up by bytes after a change at the bytes bs
updates_bytes : (bs : List ℕ) (m n : Places) (w : Option ℕ) → UpdatesBy (λ (x y : Vec ℕ Global). slice_cmp nat_cmp x.items y.items) (stands bs) m n w → (cs : List ℕ) → get_by (stands cs) n ≡ cond (bytes_eq bs cs) w (get_by (stands cs) m)
updates_bytes bs m n w h cs =
    ⊎_elim
    (λ y. subst (λ l. get_by (stands l) n ≡ w) (same_name bs cs y) h.1 ∙ sym (cond-true (bytes_eq bs cs) w _ y))
    (λ f. other_entries (eq_by_cmp (λ (x y : Vec ℕ Global). slice_cmp nat_cmp x.items y.items)) (is_at (stands bs)) m.entries n.entries h.3 (is_at (stands cs))
    (λ x y k. sym (nat_list_alike cs x.items y.items k)) (λ k. apart bs cs k.items f) ∙ sym (cond-false (bytes_eq bs cs) w _ f))
    (cases_Bool (bytes_eq bs cs))
  where
    nat_list_alike : (q x y : List ℕ) → is_eq (slice_cmp nat_cmp q x) ≡ true → is_eq (slice_cmp nat_cmp x y) ≡ is_eq (slice_cmp nat_cmp q y)
    nat_list_alike q x y k = sym ((eq_by_cmp_equiv nat_list_cmp_total).congr q x y k)

-- a name that was put in
pub name_put : (name : List ℕ) (key : Vec ℕ Global) (m n : Places) (i : ℕ) → key.items ≡ name → is_some (get_by (stands name) m) ≡ false → UpdatesBy (λ (x y : Vec ℕ Global). slice_cmp nat_cmp x.items y.items) (stands key.items) m n (Some i)
    → (q : List ℕ) → get_by (stands q) n ≡ option_or (get_by (stands q) m) (cond (bytes_eq q name) (Some i) None)
name_put name key m n i is new h q =
    let u = updates_bytes name m n (Some i) (subst (λ (l : List ℕ). UpdatesBy (λ (x y : Vec ℕ Global). slice_cmp nat_cmp x.items y.items) (stands l) m n (Some i)) is h) q in
    let turned : bytes_eq name q ≡ bytes_eq q name = nat_list_eq_equiv.symm name q in
    put_behind (bytes_eq q name) i _ _ (u ∙ ap (λ b. cond b (Some i) (get_by (stands q) m)) turned)
    (λ y. subst (λ l. get_by (stands l) m ≡ None) (sym (same_name q name y)) (is_none _ new))

-- a name that stays as it is
pub name_stays : (name : List ℕ) (m : Places) (i : ℕ) → is_some (get_by (stands name) m) ≡ true → (q : List ℕ) → get_by (stands q) m ≡ option_or (get_by (stands q) m) (cond (bytes_eq q name) (Some i) None)
name_stays name m i has q =
    put_over (bytes_eq q name) i _ (λ y. subst (λ l. is_some (get_by (stands l) m) ≡ true) (sym (same_name q name y)) has)
