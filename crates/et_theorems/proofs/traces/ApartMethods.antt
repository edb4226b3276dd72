-- No two methods of a class have one name and descriptor.
use Rattle.std.proofs.Common.{◌≡◌, ℕ, zero, suc, ◌+◌, ◌<◌, ◌≤◌, ◌&&◌, Bool, true, false, not, List, [], ◌∷◌, ◌++◌, length, map, Option, Some, refl, sym, ◌∙◌, ap, subst, inl, inr, arith, Contains}
use Rattle.std.specs.Prelude.{All, bytes_eq, option_and_then, option_map}
use Rattle.std.specs.List.{list_all, list_any, slice_index_or}
use Rattle.std.proofs.lemmas.Bool.{and_parts, and_from, not-true, both_ways, true≢false, false_from_ne_true, cases_eq, cases_lt}
use Rattle.std.proofs.lemmas.List.Elements.{All-nil, All-cons, All-head, All-tail, All-append, All-map, All-weaker, Contains-append_left, Contains-push}
use Rattle.et_base.specs.Marks.{Mark}
use Rattle.et_base.proofs.Lists.{contains_any, same_bytes}
use Rattle.et_pool.specs.Entries.{Item}
use Rattle.et_pool.specs.Looks.{utf8_at}
use Rattle.et_class.specs.Along.{along}
use Rattle.et_class.specs.Layout.{MemberOf, member_bytes}
use Rattle.et_class.specs.Methods.{method_marks}
use Rattle.et_class.specs.Names.{key_of, share, is_member_new, has_member_name}
use Rattle.et_hierarchy.proofs.Names.{same_name}
use Rattle.et_program.specs.BootClasses.{BootClassOf, BootMethodOf}
use Rattle.et_program.specs.declared.info.MethodInfo.{MethodInfo}
use Rattle.et_program.specs.Entries.{no_method}
use Rattle.et_program.specs.Files.{boots, or_empty}
use Rattle.et_program.specs.Loaded.{LoadedClass, loaded_method}
use Rattle.et_program.specs.MembersOf.{numbered, pool_text, boot_method, boot_methods, file_method, file_methods, methods_of}
use Rattle.et_history.proofs.programs.Marks.{AreWell, well_before, well_behind, well_first, well_rest}
use Rattle.et_history.proofs.PoolWords.{each_passes}

-- EACH WITH EACH LATER ONE

module _ {X : Type 0} (R : X → X → Type 0) where
  abbrev pub Apart : List X → Type 0
  Apart [] = Unit {0}
  Apart (x ∷ xs) = All (R x) xs × Apart xs

  apart_append : (xs ys : List X) → Apart xs → Apart ys → All (λ x. All (R x) ys) xs → Apart (xs ++ ys)
  apart_append [] ys h g both = g
  apart_append (x ∷ xs) ys h g both =
      (All-append (R x) xs ys h.0 (All-head (λ z. All (R z) ys) x xs both), apart_append xs ys h.1 g (All-tail (λ z. All (R z) ys) x xs both))

  apart_at : (xs : List X) → Apart xs → (i j : ℕ) (d : X) → i < j → j < length xs → R (slice_index_or xs i d) (slice_index_or xs j d)
  apart_at [] h i j d lt within = absurd (omega (arith, within))
  apart_at (x ∷ xs) h i zero d lt within = absurd (omega (arith, lt))
  apart_at (x ∷ xs) h zero (suc j) d lt within = h.0 j d (omega (arith, within))
  apart_at (x ∷ xs) h (suc i) (suc j) d lt within = apart_at xs h.1 i j d (omega (arith, lt)) (omega (arith, within))

apart_mapped : {X Y : Type 0} (R : X → X → Type 0) (P : X → Type 0) (S : Y → Y → Type 0) (f : X → Y) → ((x y : X) → P x → P y → R x y → S (f x) (f y)) → (xs : List X) → All P xs → Apart R xs → Apart S (map f xs)
apart_mapped R P S f says [] each h = tt
apart_mapped {X} R P S f says (x ∷ xs) each h = (
  All-map (S (f x)) f xs (λ i d lt. says x (slice_index_or xs i d) (All-head P x xs each) (All-tail P x xs each i d lt) (h.0 i d lt)),
  apart_mapped R P S f says xs (All-tail P x xs each) h.1,
)

-- METHODS

abbrev pub AreApart : MethodInfo → MethodInfo → Type 0
AreApart m n = m.class ≡ n.class → bytes_eq m.name n.name ≡ true → bytes_eq m.descriptor n.descriptor ≡ true → ⊥

-- class by class, each with its number
module _ {X : Type 0} (f : ℕ → X → List MethodInfo) (of_class : (k : ℕ) (x : X) → All (λ (m : MethodInfo). m.class ≡ k) (f k x)) where
  from_class : (k : ℕ) (xs : List X) → All (λ (m : MethodInfo). k ≤ m.class) (numbered f k xs)
  from_class k [] = All-nil (λ (m : MethodInfo). k ≤ m.class)
  from_class k (x ∷ xs) =
      All-append (λ (m : MethodInfo). k ≤ m.class) (f k x) (numbered f (k + 1) xs)
      (All-weaker (λ (m : MethodInfo). m.class ≡ k) (λ (m : MethodInfo). k ≤ m.class) (λ m e. omega (arith, e)) (f k x) (of_class k x))
      (All-weaker (λ (m : MethodInfo). k + 1 ≤ m.class) (λ (m : MethodInfo). k ≤ m.class) (λ m le. omega (arith, le)) (numbered f (k + 1) xs) (from_class (k + 1) xs))

  to_class : (k n : ℕ) (xs : List X) → k + length xs ≤ n → All (λ (m : MethodInfo). m.class < n) (numbered f k xs)
  to_class k n [] le = All-nil (λ (m : MethodInfo). m.class < n)
  to_class k n (x ∷ xs) le =
      All-append (λ (m : MethodInfo). m.class < n) (f k x) (numbered f (k + 1) xs)
      (All-weaker (λ (m : MethodInfo). m.class ≡ k) (λ (m : MethodInfo). m.class < n) (λ m e. omega (arith, e, le)) (f k x) (of_class k x))
      (to_class (k + 1) n xs (omega (arith, le)))

  numbered_apart : (k : ℕ) (xs : List X) → All (λ (x : X). (j : ℕ) → Apart AreApart (f j x)) xs → Apart AreApart (numbered f k xs)
  numbered_apart k [] h = tt
  numbered_apart k (x ∷ xs) h =
      apart_append AreApart (f k x) (numbered f (k + 1) xs) (All-head (λ (y : X). (j : ℕ) → Apart AreApart (f j y)) x xs h k)
      (numbered_apart (k + 1) xs (All-tail (λ (y : X). (j : ℕ) → Apart AreApart (f j y)) x xs h))
      (All-weaker (λ (m : MethodInfo). m.class ≡ k) (λ m. All (AreApart m) (numbered f (k + 1) xs))
      (λ m e. All-weaker (λ (n : MethodInfo). k + 1 ≤ n.class) (AreApart m) (λ n le same name descriptor. absurd (omega (arith, e, le, same))) (numbered f (k + 1) xs) (from_class (k + 1) xs)) (f k x) (of_class k x))

-- THE BUILT-IN ONES

abbrev is_apart : BootMethodOf → BootMethodOf → Bool
is_apart m n = not (bytes_eq m.name n.name && bytes_eq m.descriptor n.descriptor)

abbrev are_apart : List BootMethodOf → Bool
are_apart [] = true
are_apart (m ∷ ms) = list_all (is_apart m) ms && are_apart ms

boots_apart : list_all (λ (c : BootClassOf). are_apart c.methods) boots ≡ true
unfolding boots
boots_apart = refl

apart_by : (k : ℕ) (m n : BootMethodOf) → is_apart m n ≡ true → AreApart (boot_method k m) (boot_method k n)
apart_by k m n h same name descriptor = both_ways (bytes_eq m.name n.name && bytes_eq m.descriptor n.descriptor) (not-true (bytes_eq m.name n.name && bytes_eq m.descriptor n.descriptor) h) (and_from (bytes_eq m.name n.name) (bytes_eq m.descriptor n.descriptor) name descriptor)

boot_apart : (k : ℕ) (ms : List BootMethodOf) → are_apart ms ≡ true → Apart AreApart (map (boot_method k) ms)
boot_apart k [] h = tt
boot_apart k (m ∷ ms) h =
    let parts = and_parts (list_all (is_apart m) ms) (are_apart ms) h in
    (All-map (AreApart (boot_method k m)) (boot_method k) ms (each_passes (is_apart m) (λ n. AreApart (boot_method k m) (boot_method k n)) (apart_by k m) ms parts.0), boot_apart k ms parts.1)

of_boot : (k : ℕ) (c : BootClassOf) → All (λ (m : MethodInfo). m.class ≡ k) (boot_methods k c)
of_boot k c = All-map (λ (m : MethodInfo). m.class ≡ k) (boot_method k) c.methods (λ i d lt. refl)

all_boots_apart : Apart AreApart (numbered boot_methods 0 boots)
all_boots_apart = numbered_apart boot_methods of_boot 0 boots (each_passes (λ (c : BootClassOf). are_apart c.methods) (λ (c : BootClassOf). (k : ℕ) → Apart AreApart (boot_methods k c)) (λ c h k. boot_apart k c.methods h) boots boots_apart)

-- THOSE OF A CLASS FILE

-- it has a name and a descriptor
pub record HasKey (slots : List (Option Item)) (m : MemberOf) : Type 0 where
  pub name : List ℕ
  pub descriptor : List ℕ
  pub name_is : utf8_at slots m.name ≡ Some name
  pub descriptor_is : utf8_at slots m.descriptor ≡ Some descriptor

module _ (slots : List (Option Item)) where
  abbrev AreUnlike : MemberOf → MemberOf → Type 0
  AreUnlike x y = share (key_of slots y) (key_of slots x) ≡ false

  abbrev AreNew : List MemberOf → List MemberOf → Type 0
  AreNew before [] = Unit {0}
  AreNew before (x ∷ xs) = (is_member_new slots before x ≡ true) × AreNew (before ++ x ∷ []) xs

  new_by : (before : List MemberOf) (place : ℕ) (m : MemberOf) → AreWell (method_marks slots before place m) → is_member_new slots before m ≡ true
  new_by before place m h = (and_parts (has_member_name slots m) (is_member_new slots before m) (well_first _ _ (well_rest _ _ h))).1

  all_new : (before : List MemberOf) (place : ℕ) (xs : List MemberOf) → AreWell (along member_bytes (method_marks slots) before place xs) → AreNew before xs
  unfolding along
  all_new before place [] h = tt
  all_new before place (x ∷ xs) h =
      let rest : List Mark = along member_bytes (method_marks slots) (before ++ x ∷ []) (place + length (member_bytes x)) xs in
      (new_by before place x (well_before (method_marks slots before place x) rest h), all_new (before ++ x ∷ []) (place + length (member_bytes x)) xs (well_behind (method_marks slots before place x) rest h))

  not_shared : (before : List MemberOf) (x y : MemberOf) → is_member_new slots before x ≡ true → Contains before y → AreUnlike y x
  not_shared before x y new there =
      let none : list_any (λ e. share (key_of slots x) (key_of slots e)) before ≡ false = not-true (list_any (λ e. share (key_of slots x) (key_of slots e)) before) new in
      false_from_ne_true (share (key_of slots x) (key_of slots y)) (λ h. true≢false (sym (contains_any (λ e. share (key_of slots x) (key_of slots e)) y h before there) ∙ none))

  each_new : (before : List MemberOf) (y : MemberOf) (xs : List MemberOf) → Contains before y → AreNew before xs → All (AreUnlike y) xs
  each_new before y [] there h = All-nil (AreUnlike y)
  each_new before y (x ∷ xs) there h =
      All-cons (AreUnlike y) x xs (not_shared before x y h.0 there) (each_new (before ++ x ∷ []) y xs (Contains-append_left before (x ∷ []) y there) h.1)

  new_apart : (before xs : List MemberOf) → AreNew before xs → Apart AreUnlike xs
  new_apart before [] h = tt
  new_apart before (x ∷ xs) h = (each_new (before ++ x ∷ []) x xs (Contains-push before x) h.1, new_apart (before ++ x ∷ []) xs h.1)

  key_is : (m : MemberOf) (k : HasKey slots m) → key_of slots m ≡ Some (k.name, k.descriptor)
  key_is m k =
      ap (λ (o : Option (List ℕ)). option_and_then (λ name. option_map (λ descriptor. (name, descriptor)) (utf8_at slots m.descriptor)) o) k.name_is
      ∙ ap (λ (o : Option (List ℕ)). option_map (λ descriptor. (k.name, descriptor)) o) k.descriptor_is

  text_is : (i : ℕ) (text : List ℕ) → utf8_at slots i ≡ Some text → pool_text slots i ≡ text
  text_is i text e = ap (λ (o : Option (List ℕ)). or_empty o) e

  apart_keys : (k : ℕ) (x y : MemberOf) → HasKey slots x → HasKey slots y → AreUnlike x y → AreApart (file_method slots k (loaded_method slots x)) (file_method slots k (loaded_method slots y))
  apart_keys k x y a b none class name descriptor =
      let one : a.name ≡ b.name = sym (text_is x.name a.name a.name_is) ∙ (same_name (pool_text slots x.name) (pool_text slots y.name) name ∙ text_is y.name b.name b.name_is) in
      let two : a.descriptor ≡ b.descriptor = sym (text_is x.descriptor a.descriptor a.descriptor_is) ∙ (same_name (pool_text slots x.descriptor) (pool_text slots y.descriptor) descriptor ∙ text_is y.descriptor b.descriptor b.descriptor_is) in
      let shown : share (Some (b.name, b.descriptor)) (Some (a.name, a.descriptor)) ≡ false =
      sym (ap (λ (o : Option (List ℕ × List ℕ)). share (key_of slots y) o) (key_is x a) ∙ ap (λ (o : Option (List ℕ × List ℕ)). share o (Some (a.name, a.descriptor))) (key_is y b)) ∙ none in
      let names : bytes_eq b.name a.name ≡ true = subst (λ (n : List ℕ). bytes_eq b.name n ≡ true) (sym one) (same_bytes b.name) in
      let descriptors : bytes_eq b.descriptor a.descriptor ≡ true = subst (λ (n : List ℕ). bytes_eq b.descriptor n ≡ true) (sym two) (same_bytes b.descriptor) in
      true≢false (sym (and_from (bytes_eq b.name a.name) (bytes_eq b.descriptor a.descriptor) names descriptors) ∙ shown)

  -- the methods that stand from a place on are apart
  pub file_apart : (place : ℕ) (xs : List MemberOf) → All (HasKey slots) xs → AreWell (along member_bytes (method_marks slots) [] place xs) → (k : ℕ) → Apart AreApart (map (file_method slots k) (map (loaded_method slots) xs))
  file_apart place xs keys well k =
      subst (λ (ms : List MethodInfo). Apart AreApart ms) (sym (map_twice xs))
      (apart_mapped AreUnlike (HasKey slots) AreApart (λ m. file_method slots k (loaded_method slots m)) (apart_keys k) xs keys (new_apart [] xs (all_new [] place xs well)))
    where
      map_twice : (ms : List MemberOf) → map (file_method slots k) (map (loaded_method slots) ms) ≡ map (λ m. file_method slots k (loaded_method slots m)) ms
      map_twice [] = refl
      map_twice (m ∷ ms) = ap (λ (ns : List MethodInfo). file_method slots k (loaded_method slots m) ∷ ns) (map_twice ms)

-- ALL OF A PROGRAM

-- no two methods of the class are alike
abbrev pub HasApartMethods : LoadedClass → Type 0
HasApartMethods c = (k : ℕ) → Apart AreApart (file_methods k c)

of_file : (k : ℕ) (c : LoadedClass) → All (λ (m : MethodInfo). m.class ≡ k) (file_methods k c)
of_file k c = All-map (λ (m : MethodInfo). m.class ≡ k) (file_method c.pool.slots k) c.methods (λ i d lt. refl)

all_apart : (files : List LoadedClass) → All HasApartMethods files → Apart AreApart (methods_of files)
all_apart files each =
    let front : All (λ (m : MethodInfo). m.class < length boots) (numbered boot_methods 0 boots) = to_class boot_methods of_boot 0 (length boots) boots (omega arith) in
    let back : All (λ (m : MethodInfo). length boots ≤ m.class) (numbered file_methods (length boots) files) = from_class file_methods of_file (length boots) files in
    apart_append AreApart (numbered boot_methods 0 boots) (numbered file_methods (length boots) files) all_boots_apart (numbered_apart file_methods of_file (length boots) files each)
    (All-weaker (λ (m : MethodInfo). m.class < length boots) (λ m. All (AreApart m) (numbered file_methods (length boots) files))
    (λ m lt. All-weaker (λ (n : MethodInfo). length boots ≤ n.class) (AreApart m) (λ n le same name descriptor. absurd (omega (arith, lt, le, same))) (numbered file_methods (length boots) files) back) (numbered boot_methods 0 boots) front)

abbrev info_at : List LoadedClass → ℕ → MethodInfo
info_at files m = slice_index_or (methods_of files) m no_method

pub methods_apart : (files : List LoadedClass) → All HasApartMethods files → (m n : ℕ) → m < length (methods_of files) → n < length (methods_of files) → (info_at files m).class ≡ (info_at files n).class
    → bytes_eq (info_at files m).name (info_at files n).name ≡ true → bytes_eq (info_at files m).descriptor (info_at files n).descriptor ≡ true → m ≡ n
methods_apart files each m n first second class name descriptor =
    let apart : Apart AreApart (methods_of files) = all_apart files each in
    elim (cases_eq m n) [
      | inl e ↦ e
      | inr ne ↦ elim (cases_lt m n) [
        | inl lt ↦ absurd (apart_at AreApart (methods_of files) apart m n no_method lt second class name descriptor)
        | inr le ↦ absurd (apart_at AreApart (methods_of files) apart n m no_method (omega (arith, le, ne)) first (sym class) (turned (info_at files m).name (info_at files n).name name) (turned (info_at files m).descriptor (info_at files n).descriptor descriptor))
      ]
    ]
  where
    turned : (a b : List ℕ) → bytes_eq a b ≡ true → bytes_eq b a ≡ true
    turned a b h = subst (λ (x : List ℕ). bytes_eq b x ≡ true) (sym (same_name a b h)) (same_bytes b)
