-- Methods that are resolved and selected have the descriptor by which they are looked for.
use Rattle.std.proofs.Common.{◌≡◌, ℕ, suc, ◌+◌, ◌-◌, ◌≤◌, Bool, true, false, List, [], ◌∷◌, length, drop, get_or, Option, Some, None, refl, sym, ap, ◌∙◌, subst, arith}
use Rattle.std.specs.Prelude.{Result, Ok, Err, IfOk, IfSome, if◌then◌else◌, not, ◌||◌, ◌==◌, codes}
use Rattle.std.specs.List.{position_from, filter_map, cons_option}
use Rattle.std.specs.Option.{option_or, ok_or, option_map_or}
use Rattle.std.specs.Str.{bytes_eq}
use Rattle.std.proofs.lemmas.Bool.{and_parts}
use Rattle.std.proofs.lemmas.Slice.Eq.{bytes_eq-Decides}
use Rattle.et_pool.specs.Descriptors.{MethodType, method_type}
use Rattle.et_pool.specs.Operands.{Shape, shape_of, entries_returned, returned_width}
use Rattle.et_pool.proofs.Returns.{width_returned}
use Rattle.et_program.specs.Entries.{Linked, method_at, no_method, class_at, is_interface, is_private, is_abstract}
use Rattle.et_program.specs.Members.{amount, first_in, is_method, is_open_method, is_overridden, is_subclass, kept, lineage, method_in, only, open_in, resolved_above, specific_in, specific_methods}
use Rattle.et_program.specs.Resolution.{is_selectable, resolve_method, select, select_from, select_special, selectable_in, selected, selected_above, special_start}
use Rattle.et_program.specs.declared.info.MethodInfo.{MethodInfo}
use Rattle.et_program.specs.declared.errors.LinkError.{LinkError}
use Rattle.et_program.specs.declared.errors.LinkError.TheVariants.{NoSuchMethod, IncompatibleClassChange, AbstractMethod}
use Rattle.et_event.specs.Moments.{Moment, current_frame}
use Rattle.et_builtins.specs.Plans.{HasCallRoom}
use Rattle.et_builtins.specs.Types.{returned_in}

-- the method has this descriptor
abbrev Has : Linked → List ℕ → ℕ → Type 0
Has p d m = (method_at p m).descriptor ≡ d

abbrev Found : (MethodInfo → Bool) → ℕ → List MethodInfo → Option ℕ → Type 0
Found test i xs r = IfSome r (λ j. (i ≤ j) × (test (get_or xs (j - i) no_method) ≡ true))

found_behind : (test : MethodInfo → Bool) (i : ℕ) (x : MethodInfo) (xs : List MethodInfo) (r : Option ℕ) → Found test (i + 1) xs r → Found test i (x ∷ xs) r
found_behind test i x xs None h = tt
found_behind test i x xs (Some j) h =
    let le : i + 1 ≤ j = h.0 in
    let e : j - i ≡ suc (j - (i + 1)) = omega arith in
    (omega arith, subst (λ (k : ℕ). test (get_or (x ∷ xs) k no_method) ≡ true) (sym e) h.1)

found_by : (test : MethodInfo → Bool) (i : ℕ) (x : MethodInfo) (xs : List MethodInfo) (b : Bool) → test x ≡ b → Found test (i + 1) xs (position_from test (i + 1) xs) → Found test i (x ∷ xs) (if b then Some i else position_from test (i + 1) xs)
found_by test i x xs true e h =
    let zero : i - i ≡ 0 = omega arith in
    (omega arith, subst (λ (k : ℕ). test (get_or (x ∷ xs) k no_method) ≡ true) (sym zero) e)
found_by test i x xs false e h = found_behind test i x xs (position_from test (i + 1) xs) h

place_found : (test : MethodInfo → Bool) (i : ℕ) (xs : List MethodInfo) → Found test i xs (position_from test i xs)
place_found test i [] = tt
place_found test i (x ∷ xs) = found_by test i x xs (test x) refl (place_found test (i + 1) xs)

in_class : (p : Linked) (name d : List ℕ) (c : ℕ) → IfSome (method_in p name d c) (λ m. Has p d m)
in_class p name d c = by_found (method_in p name d c) (place_found (is_method name d c) 0 p.methods)
  where
    by_found : (r : Option ℕ) → IfSome r (λ j. (0 ≤ j) × (is_method name d c (get_or p.methods (j - 0) no_method) ≡ true)) → IfSome r (λ m. Has p d m)
    by_found None h = tt
    by_found (Some j) h =
        let e : j - 0 ≡ j = omega arith in
        let is : is_method name d c (method_at p j) ≡ true = subst (λ (k : ℕ). is_method name d c (get_or p.methods k no_method) ≡ true) e h.1 in
        (bytes_eq-Decides (method_at p j).descriptor d).0 (and_parts _ _ (and_parts _ _ is).1).1

kept_has : (p : Linked) (d : List ℕ) (test : ℕ → Bool) (r : Option ℕ) → IfSome r (λ m. Has p d m) → IfSome (kept test r) (λ m. Has p d m)
kept_has p d test None h = tt
kept_has p d test (Some m) h = by_test (test m)
  where
    by_test : (b : Bool) → IfSome (if b then Some m else None) (λ k. Has p d k)
    by_test true = h
    by_test false = tt

either_has : (p : Linked) (d : List ℕ) (r q : Option ℕ) → IfSome r (λ m. Has p d m) → IfSome q (λ m. Has p d m) → IfSome (option_or r q) (λ m. Has p d m)
either_has p d None q h k = k
either_has p d (Some m) q h k = h

first_has : (p : Linked) (d : List ℕ) (f : ℕ → Option ℕ) (cs : List ℕ) → ((c : ℕ) → IfSome (f c) (λ m. Has p d m)) → IfSome (first_in f cs) (λ m. Has p d m)
first_has p d f [] h = tt
first_has p d f (c ∷ cs) h = either_has p d (f c) (first_in f cs) (h c) (first_has p d f cs h)

open_has : (p : Linked) (name d : List ℕ) (c : ℕ) → IfSome (open_in p name d c) (λ m. Has p d m)
open_has p name d c = kept_has p d (is_open_method p) (method_in p name d c) (in_class p name d c)

specific_has : (p : Linked) (name d all : List ℕ) (i : ℕ) → IfSome (specific_in p name d all i) (λ m. Has p d m)
specific_has p name d all i = by_test (is_overridden p name d all i)
  where
    by_test : (b : Bool) → IfSome (if b then None else kept (λ m. not (is_abstract p m)) (open_in p name d i)) (λ m. Has p d m)
    by_test true = tt
    by_test false = kept_has p d (λ m. not (is_abstract p m)) (open_in p name d i) (open_has p name d i)

abbrev AllHave : Linked → List ℕ → List ℕ → Type 0
AllHave p d [] = Unit {0}
AllHave p d (m ∷ ms) = Has p d m × AllHave p d ms

one_more : (p : Linked) (d : List ℕ) (r : Option ℕ) (ms : List ℕ) → IfSome r (λ m. Has p d m) → AllHave p d ms → AllHave p d (cons_option r ms)
one_more p d None ms one more = more
one_more p d (Some m) ms one more = (one, more)

filtered_have : (p : Linked) (d : List ℕ) (f : ℕ → Option ℕ) (is : List ℕ) → ((i : ℕ) → IfSome (f i) (λ m. Has p d m)) → AllHave p d (filter_map f is)
filtered_have p d f [] h = tt
filtered_have p d f (i ∷ is) h = one_more p d (f i) (filter_map f is) (h i) (filtered_have p d f is h)

only_has : (p : Linked) (d ms : List ℕ) → AllHave p d ms → IfSome (only (amount ms)) (λ m. Has p d m)
only_has p d [] h = tt
only_has p d (m ∷ []) h = h.0
only_has p d (m ∷ n ∷ ms) h = tt

above_has : (p : Linked) (d ms : List ℕ) → AllHave p d ms → IfOk (selected_above (amount ms)) (λ m. Has p d m)
above_has p d [] h = tt
above_has p d (m ∷ []) h = h.0
above_has p d (m ∷ n ∷ ms) h = tt

specific_all : (p : Linked) (name d : List ℕ) (c : ℕ) → AllHave p d (specific_methods p name d c)
specific_all p name d c = filtered_have p d (specific_in p name d (class_at p c).superinterfaces) (class_at p c).superinterfaces (λ i. specific_has p name d (class_at p c).superinterfaces i)

-- RESOLUTION

ok_has : (p : Linked) (d : List ℕ) (r : Option ℕ) (error : LinkError) → IfSome r (λ m. Has p d m) → IfOk (ok_or r error) (λ m. Has p d m)
ok_has p d None error h = tt
ok_has p d (Some m) error h = h

resolved_has : (p : Linked) (name d : List ℕ) (c : ℕ) → IfSome (resolved_above p name d c) (λ m. Has p d m)
resolved_has p name d c =
    either_has p d (only (amount (specific_methods p name d c))) (first_in (open_in p name d) (class_at p c).superinterfaces) (only_has p d (specific_methods p name d c) (specific_all p name d c))
    (first_has p d (open_in p name d) (class_at p c).superinterfaces (open_has p name d))

pub resolved_same : (p : Linked) (owner : ℕ) (by_interface : Bool) (name d : List ℕ) → IfOk (resolve_method p owner by_interface name d) (λ m. (method_at p m).descriptor ≡ d)
resolved_same p owner true name d = by_test (is_interface p owner)
  where
    by_test : (b : Bool) → IfOk (if b then ok_or (option_or (method_in p name d owner) (resolved_above p name d owner)) NoSuchMethod else Err IncompatibleClassChange) (λ m. Has p d m)
    by_test true = ok_has p d (option_or (method_in p name d owner) (resolved_above p name d owner)) NoSuchMethod (either_has p d (method_in p name d owner) (resolved_above p name d owner) (in_class p name d owner) (resolved_has p name d owner))
    by_test false = tt
resolved_same p owner false name d = by_test (is_interface p owner)
  where
    by_test : (b : Bool) → IfOk (if b then Err IncompatibleClassChange else ok_or (option_or (first_in (method_in p name d) (lineage p owner)) (resolved_above p name d owner)) NoSuchMethod) (λ m. Has p d m)
    by_test true = tt
    by_test false =
        ok_has p d (option_or (first_in (method_in p name d) (lineage p owner)) (resolved_above p name d owner)) NoSuchMethod
        (either_has p d (first_in (method_in p name d) (lineage p owner)) (resolved_above p name d owner) (first_has p d (method_in p name d) (lineage p owner) (in_class p name d)) (resolved_has p name d owner))

-- SELECTION

selected_has : (p : Linked) (d ms : List ℕ) (r : Option ℕ) → IfSome r (λ m. Has p d m) → AllHave p d ms → IfOk (selected p r (amount ms)) (λ m. Has p d m)
selected_has p d ms None h k = above_has p d ms k
selected_has p d ms (Some m) h k = by_test (is_abstract p m)
  where
    by_test : (b : Bool) → IfOk (if b then Err AbstractMethod else Ok m) (λ n. Has p d n)
    by_test true = tt
    by_test false = h

from_has : (p : Linked) (special : Bool) (name d : List ℕ) (c : ℕ) → IfOk (select_from p special name d c) (λ m. Has p d m)
from_has p special name d c =
    selected_has p d (specific_methods p name d c) (first_in (selectable_in p special name d) (lineage p c))
    (first_has p d (selectable_in p special name d) (lineage p c) (λ k. kept_has p d (is_selectable p special) (method_in p name d k) (in_class p name d k))) (specific_all p name d c)

select_same : (p : Linked) (c m : ℕ) (by_interface : Bool) → IfOk (select p c m by_interface) (λ n. (method_at p n).descriptor ≡ (method_at p m).descriptor)
select_same p c m true = by_test (is_private p m || not (is_subclass p c (method_at p m).class))
  where
    by_test : (b : Bool) → IfOk (if b then Err IncompatibleClassChange else select_from p false (method_at p m).name (method_at p m).descriptor c) (λ n. Has p (method_at p m).descriptor n)
    by_test true = tt
    by_test false = from_has p false (method_at p m).name (method_at p m).descriptor c
select_same p c m false = by_test (is_private p m)
  where
    by_test : (b : Bool) → IfOk (if b then Ok m else select_from p false (method_at p m).name (method_at p m).descriptor c) (λ n. Has p (method_at p m).descriptor n)
    by_test true = refl
    by_test false = from_has p false (method_at p m).name (method_at p m).descriptor c

special_same : (p : Linked) (current named m : ℕ) → IfOk (select_special p current named m) (λ n. (method_at p n).descriptor ≡ (method_at p m).descriptor)
special_same p current named m = by_name (bytes_eq (method_at p m).name (codes "<init>"))
  where
    by_own : (b : Bool) → IfOk (if b then Ok m else Err NoSuchMethod) (λ n. Has p (method_at p m).descriptor n)
    by_own true = refl
    by_own false = tt

    by_name : (b : Bool) → IfOk (if b then (if (method_at p m).class == named then Ok m else Err NoSuchMethod) else select_from p true (method_at p m).name (method_at p m).descriptor (special_start p current named)) (λ n. Has p (method_at p m).descriptor n)
    by_name true = by_own ((method_at p m).class == named)
    by_name false = from_has p true (method_at p m).name (method_at p m).descriptor (special_start p current named)

-- WHAT THE METHOD RETURNS has room then

room_of : (e : Moment) (m count : ℕ) (r : Result ℕ LinkError) → HasCallRoom e m count → IfOk r (λ n. (method_at e.program n).descriptor ≡ (method_at e.program m).descriptor) → IfOk r (λ n. HasCallRoom e n count)
room_of e m count (Err error) room h = tt
room_of e m count (Ok n) room h = subst (λ (d : List ℕ). length (drop count (current_frame e).operands) + returned_width (returned_in d) ≤ (current_frame e).room) (sym h) room

pub select_room : (e : Moment) (c m count : ℕ) (by_interface : Bool) (r : Result ℕ LinkError) → r ≡ select e.program c m by_interface → HasCallRoom e m count → IfOk r (λ n. HasCallRoom e n count)
select_room e c m count by_interface r is room =
    room_of e m count r room (subst (λ (q : Result ℕ LinkError). IfOk q (λ n. (method_at e.program n).descriptor ≡ (method_at e.program m).descriptor)) (sym is) (select_same e.program c m by_interface))

pub special_room : (e : Moment) (current named m count : ℕ) (r : Result ℕ LinkError) → r ≡ select_special e.program current named m → HasCallRoom e m count → IfOk r (λ n. HasCallRoom e n count)
special_room e current named m count r is room =
    room_of e m count r room (subst (λ (q : Result ℕ LinkError). IfOk q (λ n. (method_at e.program n).descriptor ≡ (method_at e.program m).descriptor)) (sym is) (special_same e.program current named m))

returned_type : (d : List ℕ) (type : MethodType) → method_type d ≡ Some type → returned_in d ≡ type.returned
returned_type d type e = ap (λ (o : Option MethodType). option_map_or (λ (t : MethodType). t.returned) o []) e

pub resolved_room : (e : Moment) (m count : ℕ) (d : List ℕ) (type : MethodType) (shape : Shape) → (method_at e.program m).descriptor ≡ d → method_type d ≡ Some type → shape ≡ shape_of type
    → length (drop count (current_frame e).operands) + entries_returned shape.returned ≤ (current_frame e).room → HasCallRoom e m count
resolved_room e m count d type shape same typed is room =
    let width : entries_returned shape.returned ≡ returned_width (returned_in d) =
    ap (λ (x : Shape). entries_returned x.returned) is ∙ (width_returned type.returned ∙ ap returned_width (sym (returned_type d type typed))) in
    let fits : length (drop count (current_frame e).operands) + returned_width (returned_in d) ≤ (current_frame e).room = omega arith in
    subst (λ (s : List ℕ). length (drop count (current_frame e).operands) + returned_width (returned_in s) ≤ (current_frame e).room) (sym same) fits
