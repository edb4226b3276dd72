-- The index of names, as it grows.
use Rattle.std.proofs.Common.{◌≡◌, ℕ, ◌+◌, ◌<◌, Bool, true, false, cond, List, length, take, Option, None, Some, refl, sym, ◌∙◌, ap, subst}
use mathlib.Core.Logic.{⊎_elim}
use Rattle.std.specs.Option.{option_or}
use Rattle.std.specs.Str.{bytes_eq}
use Rattle.std.specs.Cmp.Lexicographic.{nat_list_eq_equiv}
use Rattle.std.specs.HashMap.{get_by, UpdatesBy}
use Rattle.std.specs.Map.{lookup, IsKeyTest, AreApart, KeepsOthers}
use Rattle.std.specs.declared.vec.Vec.{Vec}
use Rattle.std.specs.declared.alloc.Global.{Global}
use Rattle.std.proofs.lemmas.Bool.{cases_Bool, cond-true, cond-false}
use Rattle.et_hierarchy.specs.Outline.{Outline, outline_at, class_place}
use Rattle.et_hierarchy.specs.Index.{NameMap, IsIndexOf}
use Rattle.et_hierarchy.proofs.Names.{has_name, same_name, place_more}

apart : (bs cs ks : List ℕ) → bytes_eq bs cs ≡ false → bytes_eq bs ks ≡ true → bytes_eq cs ks ≡ false
apart bs cs ks n y = nat_list_eq_equiv.symm cs ks ∙ sym (nat_list_eq_equiv.congr bs ks cs y) ∙ n

pub other_entries : {K X : Type 0} (eq : K → K → Bool) (test : K → Bool) (old new : List (K × X)) → KeepsOthers eq test old new → (other : K → Bool) → IsKeyTest eq other → AreApart test other → lookup other new ≡ lookup other old
unfolding KeepsOthers
other_entries eq test old new h = h

-- a look-up by bytes after a change at the bytes bs
pub updates_bytes : (bs : List ℕ) (m n : NameMap) (w : Option ℕ) → UpdatesBy (λ (x y : Vec ℕ Global). bytes_eq x.items y.items) (λ k. bytes_eq bs k.items) m n w → (cs : List ℕ) → get_by (λ k. bytes_eq cs k.items) n ≡ cond (bytes_eq bs cs) w (get_by (λ k. bytes_eq cs k.items) m)
updates_bytes bs m n w h cs =
    ⊎_elim
    (λ y. subst (λ l. get_by (λ k. bytes_eq l k.items) n ≡ w) (same_name bs cs y) h.1 ∙ sym (cond-true (bytes_eq bs cs) w _ y))
    (λ f. other_entries _ _ _ _ h.3 _ (λ x y. nat_list_eq_equiv.congr cs x.items y.items) (λ k. apart bs cs k.items f) ∙ sym (cond-false (bytes_eq bs cs) w _ f))
    (cases_Bool (bytes_eq bs cs))

-- one more class was put into the index
pub indexed_more : (set : List Outline) (i : ℕ) (name : List ℕ) (m n : NameMap) → i < length set → name ≡ (outline_at set i).name → class_place (take i set) name ≡ None → IsIndexOf (take i set) m
    → UpdatesBy (λ (x y : Vec ℕ Global). bytes_eq x.items y.items) (λ k. bytes_eq name k.items) m n (Some i) → IsIndexOf (take (i + 1) set) n
indexed_more set i name m n lt e new indexed updates q =
    let u = updates_bytes name m n (Some i) updates q in
    let p = place_more set i q lt in
    let turned : bytes_eq q (outline_at set i).name ≡ bytes_eq name q = ap (bytes_eq q) (sym e) ∙ nat_list_eq_equiv.symm q name in
    ⊎_elim
    (λ y.
    let same : class_place (take i set) q ≡ None = subst (λ l. class_place (take i set) l ≡ None) (same_name name q y) new in
    u ∙ (cond-true (bytes_eq name q) (Some i) (get_by (λ k. bytes_eq q k.items) m) y ∙ sym (p ∙ (ap (λ o. option_or o (cond (has_name q (outline_at set i)) (Some i) None)) same ∙ cond-true (has_name q (outline_at set i)) (Some i) None (turned ∙ y)))))
    (λ f.
    u ∙ (cond-false (bytes_eq name q) (Some i) (get_by (λ k. bytes_eq q k.items) m) f ∙ (indexed q ∙ sym (p ∙ (ap (λ o. option_or (class_place (take i set) q) o) (cond-false (has_name q (outline_at set i)) (Some i) None (turned ∙ f)) ∙ or_none (class_place (take i set) q))))))
    (cases_Bool (bytes_eq name q))
  where
    or_none : (o : Option ℕ) → option_or o None ≡ o
    or_none None = refl
    or_none (Some k) = refl

pub indexed_under : (set : List Outline) (i : ℕ) (name : List ℕ) (key : Vec ℕ Global) (m n : NameMap) → i < length set → name ≡ (outline_at set i).name → class_place (take i set) name ≡ None → IsIndexOf (take i set) m → key.items ≡ name
    → UpdatesBy (λ (x y : Vec ℕ Global). bytes_eq x.items y.items) (λ k. bytes_eq key.items k.items) m n (Some i) → IsIndexOf (take (i + 1) set) n
indexed_under set i name key m n lt e new indexed is updates =
    indexed_more set i name m n lt e new indexed (subst (λ (l : List ℕ). UpdatesBy (λ (x y : Vec ℕ Global). bytes_eq x.items y.items) (λ k. bytes_eq l k.items) m n (Some i)) is updates)
