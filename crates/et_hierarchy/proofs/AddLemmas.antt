-- Lists that are added in turn.
use Rattle.std.proofs.Common.{◌≡◌, ℕ, ◌+◌, ◌<◌, List, [], ◌∷◌, ◌++◌, length, drop, get_or, Option, refl, sym, ◌∙◌, ap, subst, add-one, drop-cons}
use Rattle.std.specs.List.{flat_map}
use Rattle.std.proofs.lemmas.List.{get_or_default}
use Rattle.et_hierarchy.specs.Links.{LinkEntry}
use Rattle.et_hierarchy.specs.Ancestry.{Ancestry, no_ancestry, ancestry_at, class_added, added_all, once, superinterfaces_over, field_order_over, ancestry_of}

abbrev pub made : List ℕ → List ℕ → List ℕ → Ancestry
made s i f = record { supers = s; superinterfaces = i; field_order = f }

pub added_all-append : (seen xs ys : List ℕ) → added_all seen (xs ++ ys) ≡ added_all (added_all seen xs) ys
added_all-append seen [] ys = refl
added_all-append seen (x ∷ xs) ys = added_all-append (class_added seen x) xs ys

pub ruleset add_rules = (added_all-append)

-- the row that was read
pub row_at : (rows : List Ancestry) (k : ℕ) (x : Ancestry) → k < length rows → x ≡ get_or rows k x → ancestry_at rows k ≡ x
row_at rows k x lt e = sym (e ∙ get_or_default rows k x no_ancestry lt)

-- one more part was added
pub add_more : (f : ℕ → List ℕ) (xs : List ℕ) (i : ℕ) (list list' end part : List ℕ) → i < length xs → added_all list (flat_map f (drop i xs)) ≡ end → f (get_or xs i 0) ≡ part → list' ≡ added_all list part → added_all list' (flat_map f (drop (i + 1) xs)) ≡ end
add_more f xs i list list' end part lt h e g =
    let d : drop i xs ≡ get_or xs i 0 ∷ drop (i + 1) xs = rw (add-one, drop-cons xs i 0) refl in
    let w : added_all list (f (get_or xs i 0) ++ flat_map f (drop (i + 1) xs)) ≡ end = subst (λ ys. added_all list (flat_map f ys) ≡ end) d h in
    ap (λ l. added_all l (flat_map f (drop (i + 1) xs))) (g ∙ ap (added_all list) (sym e)) ∙ (sym (added_all-append list (f (get_or xs i 0)) (flat_map f (drop (i + 1) xs))) ∙ w)

pub add_pair : (list list' list'' part : List ℕ) (x : ℕ) → list' ≡ added_all list part → list'' ≡ class_added list' x → list'' ≡ added_all list (part ++ x ∷ [])
add_pair list list' list'' part x e f = f ∙ (ap (λ l. class_added l x) e ∙ sym (added_all-append list part (x ∷ [])))

pub record_is : (a a' b b' c c' : List ℕ) → a ≡ a' → b ≡ b' → c ≡ c' → made a b c ≡ made a' b' c'
record_is a a' b b' c c' e f g = ap (λ x. made x b c) e ∙ (ap (λ x. made a' x c) f ∙ ap (λ x. made a' b' x) g)

pub superinterfaces_are : (l : LinkEntry) (rows : List Ancestry) (k : ℕ) (above : Option ℕ) (ints w si si' : List ℕ) → above ≡ l.above → ints ≡ l.interfaces
    → w ≡ [] → si ≡ added_all w (superinterfaces_over rows above) → si' ≡ added_all si (flat_map (λ i. (ancestry_at rows i).superinterfaces ++ i ∷ []) ints) → si' ≡ (ancestry_of l rows k).superinterfaces
superinterfaces_are l rows k above ints w si si' ea ei ew e1 e2 =
    let F : ℕ → List ℕ = λ i. (ancestry_at rows i).superinterfaces ++ i ∷ [] in
    e2 ∙ (ap (λ z. added_all z (flat_map F ints)) (e1 ∙ ap (λ z. added_all z (superinterfaces_over rows above)) ew) ∙ (sym (added_all-append [] (superinterfaces_over rows above) (flat_map F ints)) ∙ (ap (λ a. once (superinterfaces_over rows a ++ flat_map F ints)) ea ∙ ap (λ is. once (superinterfaces_over rows l.above ++ flat_map F is)) ei)))

pub field_order_is : (l : LinkEntry) (rows : List Ancestry) (k : ℕ) (above : Option ℕ) (ints v fo fo' fo'' : List ℕ) → above ≡ l.above → ints ≡ l.interfaces
    → v ≡ [] → fo ≡ class_added v k → fo' ≡ added_all fo (flat_map (λ i. (ancestry_at rows i).field_order) ints) → fo'' ≡ added_all fo' (field_order_over rows above) → fo'' ≡ (ancestry_of l rows k).field_order
field_order_is l rows k above ints v fo fo' fo'' ea ei ev e3 e4 e5 =
    let G : ℕ → List ℕ = λ i. (ancestry_at rows i).field_order in
    e5 ∙ (ap (λ z. added_all z (field_order_over rows above)) (e4 ∙ ap (λ z. added_all z (flat_map G ints)) (e3 ∙ ap (λ z. class_added z k) ev)) ∙ (sym (added_all-append (class_added [] k) (flat_map G ints) (field_order_over rows above)) ∙ (ap (λ a. once (k ∷ flat_map G ints ++ field_order_over rows a)) ea ∙ ap (λ is. once (k ∷ flat_map G is ++ field_order_over rows l.above)) ei)))
