-- Names that are added, each once.
use Rattle.std.proofs.Common.{◌≡◌, ℕ, ◌+◌, ◌<◌, Bool, true, false, cond, ◌||◌, List, [], ◌∷◌, ◌++◌, length, take, get_or, Option, None, Some, is_some, refl, sym, ◌∙◌, ap}
use Rattle.std.specs.Prelude.{filter}
use Rattle.std.specs.List.{flat_map, list_any, position_from}
use Rattle.std.specs.Option.{option_or}
use Rattle.std.specs.Str.{bytes_eq}
use Rattle.std.proofs.lemmas.Bool.{cond-true, cond-false}
use Rattle.std.proofs.lemmas.List.{take_more}
use Rattle.std.proofs.lemmas.List.Concat.{flat_map-append}
use Rattle.et_program.specs.declared.tables.names.NameIndex.{NameIndex}
use Rattle.et_program.specs.Indices.{number_of_name}
use Rattle.et_program.proofs.IndexLemmas.{position_push}
use Rattle.et_program.specs.ArrayTypes.{with_element_types, is_type_known, name_added, names_added, array_names, array_at}
use Rattle.et_link.specs.Naming.{IsIndexFrom}

-- a place is found exactly where the test passes somewhere
any_position : {X : Type 0} (t : X → Bool) (n : ℕ) (xs : List X) → is_some (position_from t n xs) ≡ list_any t xs
any_position t n [] = refl
any_position {X} t n (x ∷ xs) = by (t x) (any_position t (n + 1) xs)
  where
    by : (b : Bool) → is_some (position_from t (n + 1) xs) ≡ list_any t xs → is_some (cond b (Some n) (position_from t (n + 1) xs)) ≡ (b || list_any t xs)
    by true h = refl
    by false h = h

known_name : (first : ℕ) (names : List (List ℕ)) (index : NameIndex) (name : List ℕ) (o : Option ℕ) → IsIndexFrom first names index → o ≡ number_of_name index name → is_some o ≡ list_any (λ y. bytes_eq name y) names
known_name first names index name o is e = ap is_some (e ∙ is name) ∙ any_position (λ y. bytes_eq name y) first names

pub name_stays : (first : ℕ) (names : List (List ℕ)) (index : NameIndex) (name : List ℕ) (o : Option ℕ) → IsIndexFrom first names index → o ≡ number_of_name index name → is_some o ≡ true → names ≡ name_added names name
name_stays first names index name o is e yes' = sym (cond-true (list_any (λ y. bytes_eq name y) names) names (names ++ name ∷ []) (sym (known_name first names index name o is e) ∙ yes'))

pub name_goes : (first : ℕ) (names names' : List (List ℕ)) (index : NameIndex) (name : List ℕ) (o : Option ℕ) → IsIndexFrom first names index → o ≡ number_of_name index name → is_some o ≡ false → names' ≡ names ++ name ∷ [] → names' ≡ name_added names name
name_goes first names names' index name o is e no' put = put ∙ sym (cond-false (list_any (λ y. bytes_eq name y) names) names (names ++ name ∷ []) (sym (known_name first names index name o is e) ∙ no'))

pub index_goes : (first n : ℕ) (names names' : List (List ℕ)) (index index' : NameIndex) (name : List ℕ) → IsIndexFrom first names index → names' ≡ names ++ name ∷ [] → n ≡ first + length names
    → ((q : List ℕ) → number_of_name index' q ≡ option_or (number_of_name index q) (cond (bytes_eq q name) (Some n) None)) → IsIndexFrom first names' index'
index_goes first n names names' index index' name is put at puts q =
    puts q
    ∙ (ap (λ o. option_or o (cond (bytes_eq q name) (Some n) None)) (is q)
    ∙ (ap (λ k. option_or (array_at first names q) (cond (bytes_eq q name) (Some k) None)) at
    ∙ (sym (position_push (λ x. bytes_eq q x) names name first) ∙ ap (λ l. array_at first l q) (sym put))))

names_added-append : (seen xs ys : List (List ℕ)) → names_added seen (xs ++ ys) ≡ names_added (names_added seen xs) ys
names_added-append seen [] ys = refl
names_added-append seen (x ∷ xs) ys = names_added-append (name_added seen x) xs ys

filter_push : (p : List ℕ → Bool) (xs : List (List ℕ)) (x : List ℕ) → filter p (xs ++ x ∷ []) ≡ filter p xs ++ cond (p x) (x ∷ []) []
filter_push p [] x = refl
filter_push p (y ∷ xs) x = by (p y) (filter_push p xs x)
  where
    by : (b : Bool) → filter p (xs ++ x ∷ []) ≡ filter p xs ++ cond (p x) (x ∷ []) [] → cond b (y ∷ filter p (xs ++ x ∷ [])) (filter p (xs ++ x ∷ [])) ≡ cond b (y ∷ filter p xs) (filter p xs) ++ cond (p x) (x ∷ []) []
    by true h = ap (λ l. y ∷ l) h
    by false h = h

one_kept : (b : Bool) (x : List ℕ) → flat_map with_element_types (cond b (x ∷ []) []) ≡ cond b (with_element_types x) []
one_kept true x = append_nil (with_element_types x)
  where
    append_nil : (l : List (List ℕ)) → l ++ [] ≡ l
    append_nil [] = refl
    append_nil (y ∷ l) = ap (λ r. y ∷ r) (append_nil l)
one_kept false x = refl

pub names_more : (place : List ℕ → Option ℕ) (met : List (List ℕ)) (i : ℕ) (x : List ℕ) → i < length met → x ≡ get_or met i x → array_names place (take (i + 1) met) ≡ names_added (array_names place (take i met)) (cond (is_type_known place x) (with_element_types x) [])
names_more place met i x lt is =
    let t : take (i + 1) met ≡ take i met ++ x ∷ [] = take_more met i x lt ∙ ap (λ y. take i met ++ y ∷ []) (sym is) in
    ap (array_names place) t
    ∙ (ap (λ l. names_added [] (flat_map with_element_types l)) (filter_push (is_type_known place) (take i met) x)
    ∙ (ap (names_added []) (flat_map-append with_element_types (filter (is_type_known place) (take i met)) (cond (is_type_known place x) (x ∷ []) []))
    ∙ (names_added-append [] (flat_map with_element_types (filter (is_type_known place) (take i met))) (flat_map with_element_types (cond (is_type_known place x) (x ∷ []) []))
    ∙ ap (names_added (array_names place (take i met))) (one_kept (is_type_known place x) x))))
