-- Links lead to classes of the set.
use Rattle.std.proofs.Common.{◌≡◌, ℕ, ◌<◌, List, [], ◌∷◌, length, get_or, Option, None, Some, IfSome, refl, sym, subst}
use Rattle.std.specs.Prelude.{All}
use Rattle.std.specs.List.{filter_map, cons_option}
use Rattle.std.specs.Option.{option_and_then, option_to_list}
use Rattle.std.proofs.lemmas.List.{length-map}
use Rattle.std.proofs.lemmas.List.Elements.{All-nil, All-cons, All-append, All-map}
use Rattle.et_hierarchy.specs.Outline.{Outline, class_place}
use Rattle.et_hierarchy.specs.Links.{LinkEntry, links_of, links, parents_of, HasLinksWithin}
use Rattle.et_hierarchy.proofs.Names.{place_within}

option_within : (n : ℕ) (o : Option ℕ) → IfSome o (λ k. k < n) → All (λ k. k < n) (option_to_list o)
option_within n None h = All-nil (λ k. k < n)
option_within n (Some k) h = All-cons (λ j. j < n) k [] h (All-nil (λ j. j < n))

above_within : (set : List Outline) (name : Option (List ℕ)) → All (λ k. k < length set) (option_to_list (option_and_then (class_place set) name))
above_within set None = All-nil (λ k. k < length set)
above_within set (Some name) = option_within (length set) (class_place set name) (place_within set name _ refl)

cons_within : (n : ℕ) (o : Option ℕ) (ks : List ℕ) → IfSome o (λ k. k < n) → All (λ k. k < n) ks → All (λ k. k < n) (cons_option o ks)
cons_within n None ks h a = a
cons_within n (Some k) ks h a = All-cons (λ j. j < n) k ks h a

names_within : (set : List Outline) (names : List (List ℕ)) → All (λ k. k < length set) (filter_map (class_place set) names)
names_within set [] = All-nil (λ k. k < length set)
names_within set (name ∷ names) = cons_within (length set) (class_place set name) _ (place_within set name _ refl) (names_within set names)

links_within : (set : List Outline) (c : Outline) → All (λ k. k < length set) (parents_of (links_of set c))
links_within set c = All-append (λ k. k < length set) _ _ (above_within set c.super_name) (names_within set c.interfaces)

pub are_within : (set : List Outline) → HasLinksWithin (length set) (links set)
are_within set = All-map (λ l. All (λ k. k < length set) (parents_of l)) (links_of set) set (λ i d lt. links_within set (get_or set i d))

pub table_within : (set : List Outline) (table : List LinkEntry) → table ≡ links set → HasLinksWithin (length table) table
table_within set table e =
    subst (λ t. HasLinksWithin (length t) t) (sym e) (subst (λ n. HasLinksWithin n (links set)) (sym (length-map set (links_of set))) (are_within set))
