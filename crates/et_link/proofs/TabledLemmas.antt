-- The tables of the linked program name classes, methods and fields of it alone.
use Rattle.std.proofs.Common.{◌≡◌, ℕ, suc, ◌+◌, ◌<◌, ◌≤◌, ◌^◌, Bool, true, false, cond, ◌==◌, List, [], ◌∷◌, ◌++◌, length, map, take, drop, reverse, Option, None, Some, IfSome, refl, sym, ap, subst, arith, length-append, ◌-◌, option_map}
use Rattle.std.specs.Prelude.{All, filter, unwrap_or}
use Rattle.std.specs.List.{slice_index_or}
use Rattle.std.specs.Option.{option_to_list}
use Rattle.std.proofs.lemmas.List.{length-map}
use Rattle.std.proofs.lemmas.List.Elements.{All-nil, All-cons, All-head, All-tail, All-append, All-push, All-map, All-weaker}
use Rattle.std.proofs.lemmas.List.Sorted.{All-permutation, IsPermutation-reverse}
use Rattle.et_pool.specs.Entries.{Constants}
use Rattle.et_pool.specs.Descriptors.{dimensions}
use Rattle.et_program.specs.Loaded.{LoadedClass}
use Rattle.et_hierarchy.specs.Outline.{Outline, class_place}
use Rattle.et_hierarchy.specs.Links.{LinkEntry, links, links_of, no_links, parents_of, HasLinksWithin}
use Rattle.et_hierarchy.specs.Ancestry.{Ancestry, ancestry_at, IsBelow}
use Rattle.et_hierarchy.specs.Initialization.{interfaces_to_run, with_interfaces, init_order}
use Rattle.et_hierarchy.proofs.BelowLemmas.{below_added_all, below_flat}
use Rattle.et_program.specs.declared.info.MethodInfo.{MethodInfo}
use Rattle.et_program.specs.declared.info.FieldInfo.{FieldInfo}
use Rattle.et_program.specs.declared.kind.Leaf.TheVariants.{Base, Class}
use Rattle.et_program.specs.Entries.{ClassEntry}
use Rattle.et_program.specs.Tables.{IsWithinTables, IsInfoWithin, IsLeafBelow, IsTabled}
use Rattle.et_program.proofs.DeclaredFields.{all_fields}
use Rattle.et_program.proofs.PlaceLemmas.{position_below, position_within}
use Rattle.et_program.specs.Files.{boots, set_of, boot_outline, file_outline}
use Rattle.et_program.specs.MembersOf.{numbered, methods_of, fields_of, boot_method, boot_methods, file_method, file_methods, boot_field, boot_fields, file_field, file_fields, is_boot_static}
use Rattle.et_program.specs.Slots.{placed, placed_behind, places_from, slots_above}
use Rattle.et_program.specs.ArrayTypes.{leaf_at, leaf_or, base_kind}
use Rattle.et_program.specs.Classes.{Heads, prerequisites_of, set_class, array_class}
use Rattle.et_link.specs.Declaring.{AreRows}
use Rattle.et_program.specs.ProgramOf.{heads_of, class_names_of, classes_by, main_of, program_with}

-- LISTS

pub all_left : {X : Type 0} (P : X → Type 0) (xs ys : List X) → All P (xs ++ ys) → All P xs
all_left P [] ys h = All-nil P
all_left P (x ∷ xs) ys h = All-cons P x xs (All-head P x (xs ++ ys) h) (all_left P xs ys (All-tail P x (xs ++ ys) h))

all_right : {X : Type 0} (P : X → Type 0) (xs ys : List X) → All P (xs ++ ys) → All P ys
all_right P [] ys h = h
all_right P (x ∷ xs) ys h = all_right P xs ys (All-tail P x (xs ++ ys) h)

all_kept : (n : ℕ) (p : ℕ → Bool) (xs : List ℕ) → All (λ k. k < n) xs → All (λ k. k < n) (filter p xs)
all_kept n p [] h = All-nil (λ k. k < n)
all_kept n p (x ∷ xs) h = by (p x) (all_kept n p xs (All-tail (λ k. k < n) x xs h))
  where
    by : (b : Bool) → All (λ k. k < n) (filter p xs) → All (λ k. k < n) (cond b (x ∷ filter p xs) (filter p xs))
    by true r = All-cons (λ k. k < n) x (filter p xs) (All-head (λ k. k < n) x xs h) r
    by false r = r

more : (a b : ℕ) → a ≤ b → (xs : List ℕ) → All (λ k. k < a) xs → All (λ k. k < b) xs
more a b le xs h = All-weaker (λ k. k < a) (λ k. k < b) (λ k lt. omega arith) xs h

numbered_all : {X Y : Type 0} (P : Y → Type 0) (f : ℕ → X → List Y) (k : ℕ) (xs : List X) → ((j : ℕ) (x : X) → k ≤ j → j < k + length xs → All P (f j x)) → All P (numbered f k xs)
numbered_all P f k [] h = All-nil P
numbered_all P f k (x ∷ xs) h = All-append P (f k x) (numbered f (k + 1) xs) (h k x (omega arith) (omega arith)) (numbered_all P f (k + 1) xs (λ j y le lt. h j y (omega arith) (omega arith)))

pub length-singles : {X Y : Type 0} (f : ℕ → X → Y) (k : ℕ) (xs : List X) → length (numbered (λ j x. f j x ∷ []) k xs) ≡ length xs
length-singles f k [] = refl
length-singles f k (x ∷ xs) = ap suc (length-singles f (k + 1) xs)

places_within : {X : Type 0} (t : X → Bool) (n m : ℕ) (xs : List X) → n + length xs ≤ m → All (λ k. k < m) (places_from t n xs)
places_within t n m [] le = All-nil (λ k. k < m)
places_within {X} t n m (x ∷ xs) le = by (t x) (places_within t (n + 1) m xs (omega arith))
  where
    by : (b : Bool) → All (λ k. k < m) (places_from t (n + 1) xs) → All (λ k. k < m) (cond b (n ∷ places_from t (n + 1) xs) (places_from t (n + 1) xs))
    by true r = All-cons (λ k. k < m) n (places_from t (n + 1) xs) (omega arith) r
    by false r = r

-- MEMBERS

pub length-set : (files : List LoadedClass) → length (set_of files) ≡ length boots + length files
length-set files =
    let a = length-append (map boot_outline boots) (map file_outline files) in
    let b = length-map boots boot_outline in
    let d = length-map files file_outline in
    omega arith

pub methods_within : (files : List LoadedClass) → All (λ (m : MethodInfo). m.class < length (set_of files)) (methods_of files)
methods_within files =
    let n : length (set_of files) ≡ length boots + length files = length-set files in
    let P = λ (m : MethodInfo). m.class < length (set_of files) in
    All-append P (numbered boot_methods 0 boots) (numbered file_methods (length boots) files)
    (numbered_all P boot_methods 0 boots (λ j c le lt. All-map P (boot_method j) c.methods (λ i d l. omega arith)))
    (numbered_all P file_methods (length boots) files (λ j c le lt. All-map P (file_method c.pool.slots j) c.methods (λ i d l. omega arith)))

pub fields_within : (files : List LoadedClass) → All (λ (f : FieldInfo). f.class < length (set_of files)) (fields_of files)
fields_within files =
    let n : length (set_of files) ≡ length boots + length files = length-set files in
    let P = λ (f : FieldInfo). f.class < length (set_of files) in
    all_fields P files
    (λ static. numbered_all P (boot_fields static) 0 boots (λ j c le lt. All-map P (boot_field j) (filter (is_boot_static static) c.fields) (λ i d l. omega arith)))
    (numbered_all P file_fields (length boots) files (λ j c le lt. All-map P (file_field c.pool.slots j) c.fields (λ i d l. omega arith)))

pub length-placed : (base : ℕ → ℕ) (before fs : List FieldInfo) → length (placed_behind base before fs) ≡ length fs
length-placed base before [] = refl
length-placed base before (f ∷ fs) = ap suc (length-placed base (before ++ f ∷ []) fs)

placed_within : (n : ℕ) (base : ℕ → ℕ) (before fs : List FieldInfo) → All (λ (f : FieldInfo). f.class < n) fs → All (λ (f : FieldInfo). f.class < n) (placed_behind base before fs)
placed_within n base before [] h = All-nil (λ (f : FieldInfo). f.class < n)
placed_within n base before (f ∷ fs) h =
    All-cons (λ (g : FieldInfo). g.class < n) _ (placed_behind base (before ++ f ∷ []) fs) (All-head (λ (g : FieldInfo). g.class < n) f fs h) (placed_within n base (before ++ f ∷ []) fs (All-tail (λ (g : FieldInfo). g.class < n) f fs h))

-- CLASSES

run_within : (n : ℕ) (needs : ℕ → Bool) (rows : List Ancestry) (l : LinkEntry) → ((j : ℕ) → j < n → IsBelow n (ancestry_at rows j)) → All (λ k. k < n) l.interfaces → All (λ k. k < n) (interfaces_to_run needs rows l)
run_within n needs rows l below h =
    all_kept n needs _ (below_added_all n [] _ (All-nil (λ k. k < n)) (below_flat n (λ i. (ancestry_at rows i).superinterfaces ++ i ∷ []) l.interfaces (λ i d lt. All-push (λ k. k < n) _ _ (below _ (h i d lt)).superinterfaces (h i d lt))))

links_at : (n : ℕ) (table : List LinkEntry) (k : ℕ) → length table ≡ n → HasLinksWithin n table → k < n → All (λ j. j < n) (parents_of (slice_index_or table k no_links))
links_at n table k e within lt = within k no_links (omega arith)

pub order_within : (n : ℕ) (b : Bool) (needs : ℕ → Bool) (table : List LinkEntry) (rows : List Ancestry) (k : ℕ) → length table ≡ n → HasLinksWithin n table → ((j : ℕ) → j < n → IsBelow n (ancestry_at rows j)) → k < n → All (λ j. j < n) (init_order b needs table rows k)
order_within n true needs table rows k e within below lt = All-cons (λ j. j < n) k [] lt (All-nil (λ j. j < n))
order_within n false needs table rows k e within below lt =
    let W : ℕ → List ℕ = with_interfaces needs table rows in
    let up : List ℕ = k ∷ (ancestry_at rows k).supers in
    let each = λ (j : ℕ) (l : j < n). All-push (λ i. i < n) _ j (run_within n needs rows (slice_index_or table j no_links) below (all_right (λ i. i < n) (option_to_list (slice_index_or table j no_links).above) _ (links_at n table j e within l))) l in
    below_added_all n [] _ (All-nil (λ j. j < n))
    (below_flat n W (reverse up) (All-permutation (λ j. All (λ i. i < n) (W j)) up (reverse up) (IsPermutation-reverse up) (All-weaker (λ j. j < n) (λ j. All (λ i. i < n) (W j)) each up (All-cons (λ j. j < n) k _ lt (below k lt).supers))))

required_within : (n : ℕ) (h : Heads) (k : ℕ) (b : Bool) → length h.table ≡ n → HasLinksWithin n h.table → ((j : ℕ) → j < n → IsBelow n (ancestry_at h.rows j)) → k < n → All (λ j. j < n) (prerequisites_of h k b)
required_within n h k true e within below lt = All-nil (λ j. j < n)
required_within n h k false e within below lt =
    let p = links_at n h.table k e within lt in
    All-append (λ j. j < n) (option_to_list (slice_index_or h.table k no_links).above) _ (all_left (λ j. j < n) _ _ p)
    (run_within n h.needs h.rows (slice_index_or h.table k no_links) below (all_right (λ i. i < n) (option_to_list (slice_index_or h.table k no_links).above) _ p))

pub some_below : (o : Option ℕ) (a b : ℕ) → a ≤ b → IfSome o (λ j. j < a) → IfSome o (λ j. j < b)
some_below None a b le h = tt
some_below (Some j) a b le h = omega arith

leaf_below : (set : List Outline) (m : ℕ) (text : List ℕ) → length set ≤ m → IsLeafBelow m (leaf_or (leaf_at (class_place set) text))
leaf_below set m [] le = tt
leaf_below set m (a ∷ rest) le = by (a == 76)
  where
    of_class : (o : Option ℕ) → IfSome o (λ j. j < m) → IsLeafBelow m (leaf_or (option_map (λ (k : ℕ). Class k) o))
    of_class None h = tt
    of_class (Some k) h = h

    of_base : (o : Option ℕ) → IsLeafBelow m (leaf_or (option_map (λ (k : ℕ). Base k) o))
    of_base None = tt
    of_base (Some k) = tt

    by : (b : Bool) → IsLeafBelow m (leaf_or (cond b (option_map (λ (k : ℕ). Class k) (class_place set (take (length rest - 1) rest))) (option_map (λ (k : ℕ). Base k) (base_kind a))))
    by true = of_class _ (some_below (class_place set (take (length rest - 1) rest)) (length set) m le (position_within _ set))
    by false = of_base (base_kind a)

set_class_within : (files : List LoadedClass) (rows : List Ancestry) (m k : ℕ) (c : Outline) → AreRows files rows → m ≡ length (set_of files) + length (class_names_of files) → k < length (set_of files) → IsWithinTables m (set_class (heads_of files rows) k c)
set_class_within files rows m k c are e lt =
    let n : ℕ = length (set_of files) in
    let le : n ≤ m = omega arith in
    let b : IsBelow n (ancestry_at rows k) = are.below k lt in
    record {
      supers = more n m le _ b.supers;
      superinterfaces = more n m le _ b.superinterfaces;
      field_order = more n m le _ b.field_order;
      init_order = more n m le _ (order_within n c.is_interface _ (links (set_of files)) rows k (length-map (set_of files) (links_of (set_of files))) are.within are.below lt);
      leaf = (let r : k < m = omega arith in r);
      array = some_below _ (n + length (class_names_of files)) m (omega arith) (position_below _ n (class_names_of files));
    }

set_info_within : (files : List LoadedClass) (rows : List Ancestry) (m k : ℕ) (c : Outline) → AreRows files rows → m ≡ length (set_of files) + length (class_names_of files) → k < length (set_of files) → IsInfoWithin m (length (methods_of files)) (length (fields_of files)) (set_class (heads_of files rows) k c).info
set_info_within files rows m k c are e lt =
    let n : ℕ = length (set_of files) in
    let le : n ≤ m = omega arith in
    record {
      clinit = position_within _ (methods_of files);
      prerequisites = more n m le _ (required_within n (heads_of files rows) k c.is_interface (length-map (set_of files) (links_of (set_of files))) are.within are.below lt);
      constants = places_within _ 0 (length (fields_of files)) (fields_of files) (omega arith);
    }

boots_are_some : 5 ≤ length boots
unfolding boots
boots_are_some = omega arith

array_within : (files : List LoadedClass) (rows : List Ancestry) (m k : ℕ) (name : List ℕ) → m ≡ length (set_of files) + length (class_names_of files) → k < m → IsWithinTables m (array_class (heads_of files rows) k name)
array_within files rows m k name e lt =
    let n : ℕ = length (set_of files) in
    let s : n ≡ length boots + length files = length-set files in
    let five : 5 ≤ length boots = boots_are_some in
    let P = λ (j : ℕ). j < m in
    record {
      supers = All-cons P 0 [] (omega arith) (All-nil P);
      superinterfaces = All-cons P 2 (4 ∷ []) (omega arith) (All-cons P 4 [] (omega arith) (All-nil P));
      field_order = All-cons P k (2 ∷ 0 ∷ 4 ∷ []) lt (All-cons P 2 (0 ∷ 4 ∷ []) (omega arith) (All-cons P 0 (4 ∷ []) (omega arith) (All-cons P 4 [] (omega arith) (All-nil P))));
      init_order = All-cons P k [] lt (All-nil P);
      leaf = leaf_below (set_of files) m (drop (dimensions name) name) (omega arith);
      array = some_below _ (n + length (class_names_of files)) m (omega arith) (position_below _ n (class_names_of files));
    }

array_info_within : (files : List LoadedClass) (rows : List Ancestry) (m a b k : ℕ) (name : List ℕ) → IsInfoWithin m a b (array_class (heads_of files rows) k name).info
array_info_within files rows m a b k name = record { clinit = tt; prerequisites = All-nil (λ j. j < m); constants = All-nil (λ j. j < b) }

pub length-classes : (h : Heads) (set : List Outline) (names : List (List ℕ)) → length (classes_by h set names) ≡ length set + length names
length-classes h set names =
    let a = length-append (numbered (λ k c. set_class h k c ∷ []) 0 set) (numbered (λ k name. array_class h k name ∷ []) (length set) names) in
    let b = length-singles (λ (k : ℕ) (c : Outline). set_class h k c) 0 set in
    let d = length-singles (λ (k : ℕ) (name : List ℕ). array_class h k name) (length set) names in
    omega arith

main_below : (o : Option ℕ) (m n : ℕ) → o ≡ Some m → IfSome o (λ j. j < n) → unwrap_or o 0 < n
main_below None m n e h = absurd (cc)
main_below (Some j) m n e h = h

pub tabled : (files : List LoadedClass) (rows : List Ancestry) (pools : List Constants) (m : ℕ) → AreRows files rows → main_of (methods_of files) ≡ Some m
    → length (classes_by (heads_of files rows) (set_of files) (class_names_of files)) < 2 ^ 32 → length (methods_of files) < 2 ^ 32 → length (fields_of files) < 2 ^ 32 → IsTabled (program_with files rows pools)
tabled files rows pools m are main few_c few_m few_f =
    let h : Heads = heads_of files rows in
    let n : ℕ = length (set_of files) in
    let classes : List ClassEntry = classes_by h (set_of files) (class_names_of files) in
    let total : length classes ≡ n + length (class_names_of files) = length-classes h (set_of files) (class_names_of files) in
    let size : length (placed (fields_of files) rows) ≡ length (fields_of files) = length-placed (slots_above (fields_of files) rows) [] (fields_of files) in
    let W = IsWithinTables (length classes) in
    let I = λ (c : ClassEntry). IsInfoWithin (length classes) (length (methods_of files)) (length (fields_of files)) c.info in
    let infos : All I classes =
    All-append I (numbered (λ k c. set_class h k c ∷ []) 0 (set_of files)) (numbered (λ k name. array_class h k name ∷ []) n (class_names_of files))
    (numbered_all I (λ k c. set_class h k c ∷ []) 0 (set_of files) (λ j c le lt. All-cons I _ [] (set_info_within files rows (length classes) j c are total (omega arith)) (All-nil I)))
    (numbered_all I (λ k name. array_class h k name ∷ []) n (class_names_of files) (λ j name le lt. All-cons I _ [] (array_info_within files rows (length classes) (length (methods_of files)) (length (fields_of files)) j name) (All-nil I))) in
    record {
      classes =
          All-append W (numbered (λ k c. set_class h k c ∷ []) 0 (set_of files)) (numbered (λ k name. array_class h k name ∷ []) n (class_names_of files))
          (numbered_all W (λ k c. set_class h k c ∷ []) 0 (set_of files) (λ j c le lt. All-cons W _ [] (set_class_within files rows (length classes) j c are total (omega arith)) (All-nil W)))
          (numbered_all W (λ k name. array_class h k name ∷ []) n (class_names_of files) (λ j name le lt. All-cons W _ [] (array_within files rows (length classes) j name total (omega arith)) (All-nil W)));
      infos = subst (λ f. All (λ (c : ClassEntry). IsInfoWithin (length classes) (length (methods_of files)) f c.info) classes) (sym size) infos;
      methods = All-weaker (λ (x : MethodInfo). x.class < n) (λ (x : MethodInfo). x.class < length classes) (λ x lt. omega arith) (methods_of files) (methods_within files);
      fields = All-weaker (λ (x : FieldInfo). x.class < n) (λ (x : FieldInfo). x.class < length classes) (λ x lt. omega arith) (placed (fields_of files) rows) (placed_within n (slots_above (fields_of files) rows) [] (fields_of files) (fields_within files));
      statics = places_within _ 0 (length (placed (fields_of files) rows)) (fields_of files) (omega arith);
      file_methods = places_within _ 0 (length (methods_of files)) (methods_of files) (omega arith);
      main = main_below (main_of (methods_of files)) m (length (methods_of files)) main (position_within _ (methods_of files));
      few_classes = few_c;
      few_methods = few_m;
      few_fields = omega arith;
    }
