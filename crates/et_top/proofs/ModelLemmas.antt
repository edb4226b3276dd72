-- Items and models one after another.
use Rattle.std.proofs.Common.{◌≡◌, List, [], ◌∷◌, ◌++◌, map, refl, sym, ◌∙◌, ap, subst}
use Rattle.std.specs.Prelude.{Option, Some, None}
use Rattle.std.specs.List.{AllZip, filter_map}
use Rattle.std.proofs.lemmas.List.Elements.{filter_map-append}
use Rattle.et_link.proofs.Lists.{map_push}
use Rattle.et_replay.specs.declared.model.Policy.{Policy}
use Rattle.et_top.specs.Told.{IsPrepared}

zip_append : {B : Type 0} (R : B → Policy → Type 0) (bs : List B) (ps : List Policy) (b : B) (p : Policy) → AllZip R bs ps → R b p → AllZip R (bs ++ b ∷ []) (ps ++ p ∷ [])
zip_append R [] [] b p z r = (r, tt)
zip_append R [] (q ∷ qs) b p z r = absurd z
zip_append R (c ∷ cs) [] b p z r = absurd z
zip_append R (c ∷ cs) (q ∷ qs) b p z r = (z.0, zip_append R cs qs b p z.1 r)

append_nothing : (ps : List Policy) → ps ++ [] ≡ ps
append_nothing [] = refl
append_nothing (p ∷ ps) = ap (λ qs. p ∷ qs) (append_nothing ps)

one_more : {A K : Type 0} (kind : A → K) (policy : K → Option Policy) (xs : List A) (x : A) → filter_map policy (map kind (xs ++ x ∷ [])) ≡ filter_map policy (map kind xs) ++ filter_map policy (kind x ∷ [])
one_more kind policy xs x = ap (filter_map policy) (map_push kind xs x) ∙ filter_map-append policy (map kind xs) (kind x ∷ [])

-- a model that is asked for joins those that are
pub joins : {A B K : Type 0} (R : B → Policy → Type 0) (kind : A → K) (policy : K → Option Policy) (xs : List A) (x : A) (bs : List B) (b : B) → AllZip R bs (filter_map policy (map kind xs)) → IsPrepared R (policy (kind x)) (Some b) → AllZip R (bs ++ b ∷ []) (filter_map policy (map kind (xs ++ x ∷ [])))
joins R kind policy xs x bs b z is = subst (AllZip R (bs ++ b ∷ [])) (sym (one_more kind policy xs x)) (by (policy (kind x)) is)
  where
    one : Option Policy → List Policy
    one None = []
    one (Some p) = p ∷ []

    by : (o : Option Policy) → IsPrepared R o (Some b) → AllZip R (bs ++ b ∷ []) (filter_map policy (map kind xs) ++ filter_map (λ q. q) (o ∷ []))
    by (Some p) r = zip_append R bs (filter_map policy (map kind xs)) b p z r
    by None r = absurd r

-- another changes nothing
pub passes_by : {A B K : Type 0} (R : B → Policy → Type 0) (kind : A → K) (policy : K → Option Policy) (xs : List A) (x : A) (bs : List B) → AllZip R bs (filter_map policy (map kind xs)) → IsPrepared R (policy (kind x)) None → AllZip R bs (filter_map policy (map kind (xs ++ x ∷ [])))
passes_by R kind policy xs x bs z is = subst (AllZip R bs) (sym (one_more kind policy xs x)) (by (policy (kind x)) is)
  where
    by : (o : Option Policy) → IsPrepared R o None → AllZip R bs (filter_map policy (map kind xs) ++ filter_map (λ q. q) (o ∷ []))
    by None r = subst (AllZip R bs) (sym (append_nothing (filter_map policy (map kind xs)))) z
    by (Some p) r = absurd r

-- what holds of each pair
pub zip_weaker : {B : Type 0} (R S : B → Policy → Type 0) (bs : List B) (ps : List Policy) → ((b : B) (p : Policy) → R b p → S b p) → AllZip R bs ps → AllZip S bs ps
zip_weaker R S [] [] weaker z = tt
zip_weaker R S [] (p ∷ ps) weaker z = absurd z
zip_weaker R S (b ∷ bs) [] weaker z = absurd z
zip_weaker R S (b ∷ bs) (p ∷ ps) weaker z = (weaker b p z.0, zip_weaker R S bs ps weaker z.1)
