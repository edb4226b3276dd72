-- The names of the array classes of a program: with each the names of its elements, and each of a known type.
use Rattle.std.proofs.Common.{◌≡◌, ℕ, zero, suc, ◌+◌, ◌<◌, ◌==◌, Bool, true, false, cond, List, [], ◌∷◌, ◌++◌, length, take, drop, filter, Option, Some, is_some, refl, sym, ◌∙◌, ap, subst, inl, inr, arith, Contains}
use Rattle.std.specs.Prelude.{All}
use Rattle.std.specs.List.{prefix_len, slice_index_or, list_any, flat_map, position_from}
use Rattle.std.specs.Str.{bytes_eq}
use Rattle.std.proofs.lemmas.Bool.{both_ways, eqb-true, false≢true}
use Rattle.std.proofs.lemmas.List.Elements.{All-nil, All-cons, All-head, All-tail, All-append, All-push, Contains-append_left, Contains-append_right}
use Rattle.et_base.proofs.Lists.{Contains-none, Contains-here, Contains-there, Contains-cons, any_contains, filter_kept, filter_keeps, same_bytes}
use Rattle.et_pool.specs.Descriptors.{is_array, dimensions}
use Rattle.et_hierarchy.proofs.Names.{same_name}
use Rattle.et_program.specs.ArrayTypes.{leaf_at, is_type_known, with_element_types, name_added, names_added, array_names, array_at}
use Rattle.et_program.specs.MembersOf.{numbered}

-- LISTS

pub flat_has : {X Y : Type 0} (f : X → List Y) (xs : List X) (t : X) (y : Y) → Contains xs t → Contains (f t) y → Contains (flat_map f xs) y
flat_has f [] t y h c = absurd (Contains-none t h)
flat_has {X} {Y} f (x ∷ xs) t y h c =
    elim (Contains-cons x xs t h) [
      | inl e ↦ Contains-append_left (f x) (flat_map f xs) y (subst (λ (z : X). Contains (f z) y) (sym e) c)
      | inr d ↦ Contains-append_right (f x) (flat_map f xs) y (flat_has f xs t y d c)
    ]

all_flat : {X Y : Type 0} (P : Y → Type 0) (f : X → List Y) (xs : List X) → ((x : X) → Contains xs x → All P (f x)) → All P (flat_map f xs)
all_flat P f [] h = All-nil P
all_flat P f (x ∷ xs) h = All-append P (f x) (flat_map f xs) (h x (Contains-here x xs)) (all_flat P f xs (λ z c. h z (Contains-there x xs z c)))

-- what element i gives, which has number k + i
pub numbered_has : {X Y : Type 0} (f : ℕ → X → List Y) (k : ℕ) (xs : List X) (i : ℕ) (d : X) (y : Y) → i < length xs → Contains (f (k + i) (slice_index_or xs i d)) y → Contains (numbered f k xs) y
numbered_has f k [] i d y lt c = absurd (omega arith)
numbered_has {X} {Y} f k (x ∷ xs) zero d y lt c =
    Contains-append_left (f k x) (numbered f (k + 1) xs) y (subst (λ (n : ℕ). Contains (f n x) y) (let e : k + 0 ≡ k = omega arith in e) c)
numbered_has {X} {Y} f k (x ∷ xs) (suc i) d y lt c =
    Contains-append_right (f k x) (numbered f (k + 1) xs) y
    (numbered_has f (k + 1) xs i d y (omega arith) (subst (λ (n : ℕ). Contains (f n (slice_index_or xs i d)) y) (let e : k + suc i ≡ k + 1 + i = omega arith in e) c))

-- NAMES ONCE

module _ (P : List ℕ → Type 0) where
  either : (b : Bool) (xs ys : List (List ℕ)) → All P xs → All P ys → All P (cond b xs ys)
  either true xs ys h g = h
  either false xs ys h g = g

  all_added : (seen xs : List (List ℕ)) → All P seen → All P xs → All P (names_added seen xs)
  all_added seen [] h g = h
  all_added seen (x ∷ xs) h g =
      all_added (name_added seen x) xs (either (list_any (λ y. bytes_eq x y) seen) seen (seen ++ x ∷ []) h (All-push P seen x h (All-head P x xs g))) (All-tail P x xs g)

added_has : (seen : List (List ℕ)) (x : List ℕ) → Contains (name_added seen x) x
added_has seen x = by (list_any (λ y. bytes_eq x y) seen) refl
  where
    by : (b : Bool) → list_any (λ y. bytes_eq x y) seen ≡ b → Contains (cond b seen (seen ++ x ∷ [])) x
    by true e = any_contains (λ y. bytes_eq x y) x (λ y t. sym (same_name x y t)) seen e
    by false e = Contains-append_right seen (x ∷ []) x (Contains-here x [])

added_keeps : (seen : List (List ℕ)) (y x : List ℕ) → Contains seen x → Contains (name_added seen y) x
added_keeps seen y x h = by (list_any (λ z. bytes_eq y z) seen)
  where
    by : (b : Bool) → Contains (cond b seen (seen ++ y ∷ [])) x
    by true = h
    by false = Contains-append_left seen (y ∷ []) x h

all_keep : (seen xs : List (List ℕ)) (x : List ℕ) → Contains seen x → Contains (names_added seen xs) x
all_keep seen [] x h = h
all_keep seen (y ∷ ys) x h = all_keep (name_added seen y) ys x (added_keeps seen y x h)

all_has : (seen xs : List (List ℕ)) (x : List ℕ) → Contains xs x → Contains (names_added seen xs) x
all_has seen [] x h = absurd (Contains-none x h)
all_has seen (y ∷ ys) x h =
    elim (Contains-cons y ys x h) [
      | inl e ↦ all_keep (name_added seen y) ys x (subst (λ (z : List ℕ). Contains (name_added seen y) z) e (added_has seen y))
      | inr d ↦ all_has (name_added seen y) ys x d
    ]

-- AN ARRAY TYPE AND ITS ELEMENTS

-- a name among others: that of an array, of a known type, and where its elements are arrays their name is there too
pub record IsArrayName (place : List ℕ → Option ℕ) (names : List (List ℕ)) (name : List ℕ) : Type 0 where
  pub array : is_array name ≡ true
  pub known : is_type_known place name ≡ true
  pub below : is_array (drop 1 name) ≡ true → Contains names (drop 1 name)

-- an array type is the first of its elements
pub first_element : (name : List ℕ) → is_array name ≡ true → Contains (with_element_types name) name
first_element [] h = absurd (false≢true h)
first_element (a ∷ rest) h = subst (λ (b : Bool). Contains (cond b ((a ∷ rest) ∷ with_element_types rest) []) (a ∷ rest)) (sym h) (Contains-here (a ∷ rest) (with_element_types rest))

pub one_more : (rest : List ℕ) → dimensions (91 ∷ rest) ≡ suc (dimensions rest)
one_more rest = ap (λ (n : ℕ). length (take n (91 ∷ rest))) (let s : 1 + prefix_len (λ a. a == 91) rest ≡ suc (prefix_len (λ a. a == 91) rest) = omega arith in s)

module _ (place : List ℕ → Option ℕ) where
  -- one dimension less leaves the type under them
  pub known_below : (a : ℕ) (rest : List ℕ) → (a == 91) ≡ true → is_type_known place (a ∷ rest) ≡ is_type_known place rest
  known_below a rest h = subst (λ (c : ℕ). is_type_known place (c ∷ rest) ≡ is_type_known place rest) (sym (eqb-true a 91 h)) (ap (λ (n : ℕ). is_some (leaf_at place (drop n (91 ∷ rest)))) (one_more rest))

  elements : (names : List (List ℕ)) (name : List ℕ) → is_type_known place name ≡ true → ((y : List ℕ) → Contains (with_element_types name) y → Contains names y) → All (IsArrayName place names) (with_element_types name)
  elements names [] known there = All-nil (IsArrayName place names)
  elements names (a ∷ rest) known there = by (a == 91) refl there (λ k sub. elements names rest k sub)
    where
      by : (b : Bool) → (a == 91) ≡ b → ((y : List ℕ) → Contains (cond b ((a ∷ rest) ∷ with_element_types rest) []) y → Contains names y)
          → (is_type_known place rest ≡ true → ((y : List ℕ) → Contains (with_element_types rest) y → Contains names y) → All (IsArrayName place names) (with_element_types rest))
          → All (IsArrayName place names) (cond b ((a ∷ rest) ∷ with_element_types rest) [])
      by true e sub more =
          let behind : (y : List ℕ) → Contains (with_element_types rest) y → Contains names y = λ y c. sub y (Contains-there (a ∷ rest) (with_element_types rest) y c) in
          All-cons (IsArrayName place names) (a ∷ rest) (with_element_types rest) (record { array = e; known = known; below = λ h. behind rest (first_element rest h) })
          (more (sym (known_below a rest e) ∙ known) behind)
      by false e sub more = All-nil (IsArrayName place names)

  module _ (met : List (List ℕ)) where
    abbrev whole : List (List ℕ)
    whole = flat_map with_element_types (filter (is_type_known place) met)

    within_whole : (x y : List ℕ) → Contains (filter (is_type_known place) met) x → Contains (with_element_types x) y → Contains whole y
    within_whole x y c d = flat_has with_element_types (filter (is_type_known place) met) x y c d

    -- each name of the array classes
    pub all_names : All (IsArrayName place (array_names place met)) (array_names place met)
    all_names =
        let Q = IsArrayName place (array_names place met) in
        all_added Q [] whole (All-nil Q)
        (all_flat Q with_element_types (filter (is_type_known place) met)
        (λ x c. elements (array_names place met) x (filter_kept (is_type_known place) met x c).1 (λ y d. all_has [] whole y (within_whole x y c d))))

    -- an array type of a known type that was met is one
    pub met_is_named : (name : List ℕ) → Contains met name → is_array name ≡ true → is_type_known place name ≡ true → Contains (array_names place met) name
    met_is_named name c array known = all_has [] whole name (within_whole name name (filter_keeps (is_type_known place) met name c known) (first_element name array))

-- THE NUMBER of an array class

pub record IsNumbered (first : ℕ) (names : List (List ℕ)) (name : List ℕ) : Type 0 where
  pub place : ℕ
  pub within : place < length names
  pub is : array_at first names name ≡ Some (first + place)
  pub named : slice_index_or names place [] ≡ name

pub number_of : (first : ℕ) (names : List (List ℕ)) (name : List ℕ) → Contains names name → IsNumbered first names name
number_of first [] name c = absurd (Contains-none name c)
number_of first (x ∷ xs) name c = by (bytes_eq name x) refl (λ d. number_of (first + 1) xs name d)
  where
    later : bytes_eq name x ≡ false → Contains xs name
    later e =
        elim (Contains-cons x xs name c) [
          | inl same ↦ absurd (both_ways (bytes_eq name x) e (subst (λ (z : List ℕ). bytes_eq name z ≡ true) (sym same) (same_bytes name)))
          | inr d ↦ d
        ]

    by : (b : Bool) → bytes_eq name x ≡ b → (Contains xs name → IsNumbered (first + 1) xs name) → IsNumbered first (x ∷ xs) name
    by true e more = record {
      place = 0;
      within = omega arith;
      is = ap (λ (b : Bool). cond b (Some first) (position_from (λ y. bytes_eq name y) (first + 1) xs)) e ∙ ap Some (let s : first ≡ first + 0 = omega arith in s);
      named = sym (same_name name x e);
    }
    by false e more =
        let r : IsNumbered (first + 1) xs name = more (later e) in
        record {
          place = suc r.place;
          within = omega (arith, r.within);
          is = ap (λ (b : Bool). cond b (Some first) (position_from (λ y. bytes_eq name y) (first + 1) xs)) e ∙ (r.is ∙ ap Some (let s : first + 1 + r.place ≡ first + suc r.place = omega arith in s));
          named = r.named;
        }
