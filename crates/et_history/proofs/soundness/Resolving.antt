-- What resolution and selection find is a method of that descriptor.
use Rattle.std.proofs.Common.{◌≡◌, ℕ, ◌<◌, ◌&&◌, ◌||◌, ◌==◌, Bool, true, false, not, List, [], ◌∷◌, length, get_or, Option, Some, None, IfSome, Result, Ok, Err, refl, subst, arith}
use Rattle.std.specs.Prelude.{All, if◌then◌else◌, codes}
use Rattle.std.specs.List.{filter_map, cons_option}
use Rattle.std.specs.Option.{option_or, ok_or}
use Rattle.std.specs.Str.{bytes_eq}
use Rattle.std.proofs.lemmas.Bool.{and_parts, not-true}
use Rattle.std.proofs.lemmas.List.Elements.{All-nil, All-cons, All-head}
use Rattle.std.proofs.lemmas.Slice.Eq.{bytes_eq-Decides}
use Rattle.et_program.specs.Entries.{Linked, no_method, class_at, method_at, is_interface, is_private, is_static, is_abstract}
use Rattle.et_program.specs.Members.{lineage, is_method, method_in, first_in, kept, is_open_method, open_in, is_overridden, specific_in, specific_methods, amount, only, resolved_above, is_subclass}
use Rattle.et_program.specs.Resolution.{resolve_method, selected_above, selected, is_selectable, selectable_in, select_from, select, special_start, select_special}
use Rattle.et_program.specs.declared.errors.LinkError.{LinkError}
use Rattle.et_program.specs.declared.errors.LinkError.TheVariants.{NoSuchMethod, IncompatibleClassChange, AbstractMethod}
use Rattle.et_program.specs.declared.info.MethodInfo.{MethodInfo}
use Rattle.et_base.proofs.Positions.{Passes, position_passes}
use Rattle.et_base.proofs.Options.{either_holds}
use Rattle.et_history.proofs.soundness.Fields.{ok_is, first_found}
use Rattle.et_history.specs.soundness.Methods.{IsMethod, IsInstanceMethod}

-- THE METHOD of a class

described : (m : MethodInfo) (name descriptor : List ℕ) (c : ℕ) → is_method name descriptor c m ≡ true → (m.name ≡ name) × (m.descriptor ≡ descriptor)
described m name descriptor c e =
    let rest = (and_parts (m.class == c) (bytes_eq m.name name && bytes_eq m.descriptor descriptor) e).1 in
    let both = and_parts (bytes_eq m.name name) (bytes_eq m.descriptor descriptor) rest in
    ((bytes_eq-Decides m.name name).0 both.0, (bytes_eq-Decides m.descriptor descriptor).0 both.1)

found_in : (p : Linked) (name descriptor : List ℕ) (c : ℕ) (o : Option ℕ) → IfSome o (Passes (is_method name descriptor c) no_method 0 p.methods) → IfSome o (IsMethod p name descriptor)
found_in p name descriptor c None h = tt
found_in p name descriptor c (Some m) h =
    let same : h.place ≡ m = omega (arith, h.is) in
    let is = described (method_at p m) name descriptor c (subst (λ (k : ℕ). is_method name descriptor c (get_or p.methods k no_method) ≡ true) same h.passes) in
    record { within = omega (arith, h.within, h.is); named = is.0; descriptor = is.1 }

pub method_found : (p : Linked) (name descriptor : List ℕ) (c : ℕ) → IfSome (method_in p name descriptor c) (IsMethod p name descriptor)
method_found p name descriptor c = found_in p name descriptor c (method_in p name descriptor c) (position_passes (is_method name descriptor c) no_method 0 p.methods)

-- .. that passes a test

kept_by : (P : ℕ → Type 0) (test : ℕ → Bool) (m : ℕ) (b : Bool) → test m ≡ b → P m → IfSome (if b then Some m else None) (λ k. P k × (test k ≡ true))
kept_by P test m true e h = (h, e)
kept_by P test m false e h = tt

kept_found : (P : ℕ → Type 0) (test : ℕ → Bool) (o : Option ℕ) → IfSome o P → IfSome (kept test o) (λ k. P k × (test k ≡ true))
kept_found P test None h = tt
kept_found P test (Some m) h = kept_by P test m (test m) refl h

weaker : (P Q : ℕ → Type 0) (o : Option ℕ) → ((m : ℕ) → P m → Q m) → IfSome o P → IfSome o Q
weaker P Q None f h = tt
weaker P Q (Some m) f h = f m h

-- not private, and not static
open_found : (p : Linked) (name descriptor : List ℕ) (c : ℕ) → IfSome (open_in p name descriptor c) (IsInstanceMethod p name descriptor)
open_found p name descriptor c =
    weaker (λ k. IsMethod p name descriptor k × (is_open_method p k ≡ true)) (IsInstanceMethod p name descriptor) (open_in p name descriptor c)
    (λ m h. record { method = h.0; instance = not-true (is_static p m) (and_parts (not (is_private p m)) (not (is_static p m)) h.1).1 })
    (kept_found (IsMethod p name descriptor) (is_open_method p) (method_in p name descriptor c) (method_found p name descriptor c))

selectable_found : (p : Linked) (special : Bool) (name descriptor : List ℕ) (c : ℕ) → IfSome (selectable_in p special name descriptor c) (IsInstanceMethod p name descriptor)
selectable_found p special name descriptor c =
    weaker (λ k. IsMethod p name descriptor k × (is_selectable p special k ≡ true)) (IsInstanceMethod p name descriptor) (selectable_in p special name descriptor c)
    (λ m h. record { method = h.0; instance = not-true (is_static p m) (and_parts (special || not (is_private p m)) (not (is_static p m)) h.1).1 })
    (kept_found (IsMethod p name descriptor) (is_selectable p special) (method_in p name descriptor c) (method_found p name descriptor c))

-- THE MAXIMALLY SPECIFIC ONES

none_or : (P : ℕ → Type 0) (b : Bool) (o : Option ℕ) → IfSome o P → IfSome (if b then None else o) P
none_or P true o h = tt
none_or P false o h = h

specific_found : (p : Linked) (name descriptor : List ℕ) (all : List ℕ) (i : ℕ) → IfSome (specific_in p name descriptor all i) (IsInstanceMethod p name descriptor)
specific_found p name descriptor all i =
    none_or (IsInstanceMethod p name descriptor) (is_overridden p name descriptor all i) (kept (λ m. not (is_abstract p m)) (open_in p name descriptor i))
    (weaker (λ k. IsInstanceMethod p name descriptor k × (not (is_abstract p k) ≡ true)) (IsInstanceMethod p name descriptor) (kept (λ m. not (is_abstract p m)) (open_in p name descriptor i)) (λ m h. h.0)
    (kept_found (IsInstanceMethod p name descriptor) (λ m. not (is_abstract p m)) (open_in p name descriptor i) (open_found p name descriptor i)))

one_more : (P : ℕ → Type 0) (o : Option ℕ) (xs : List ℕ) → IfSome o P → All P xs → All P (cons_option o xs)
one_more P None xs h all = all
one_more P (Some m) xs h all = All-cons P m xs h all

all_found : (P : ℕ → Type 0) (g : ℕ → Option ℕ) → ((c : ℕ) → IfSome (g c) P) → (cs : List ℕ) → All P (filter_map g cs)
all_found P g h [] = All-nil P
all_found P g h (c ∷ cs) = one_more P (g c) (filter_map g cs) (h c) (all_found P g h cs)

specific_ones : (p : Linked) (name descriptor : List ℕ) (c : ℕ) → All (IsInstanceMethod p name descriptor) (specific_methods p name descriptor c)
specific_ones p name descriptor c =
    let all : List ℕ = (class_at p c).superinterfaces in
    all_found (IsInstanceMethod p name descriptor) (specific_in p name descriptor all) (specific_found p name descriptor all) all

only_one : (P : ℕ → Type 0) (ms : List ℕ) → All P ms → IfSome (only (amount ms)) P
only_one P [] h = tt
only_one P (m ∷ []) h = All-head P m [] h
only_one P (m ∷ n ∷ ms) h = tt

above_found : (p : Linked) (name descriptor : List ℕ) (c : ℕ) → IfSome (resolved_above p name descriptor c) (IsMethod p name descriptor)
above_found p name descriptor c =
    weaker (IsInstanceMethod p name descriptor) (IsMethod p name descriptor) (resolved_above p name descriptor c) (λ m h. h.method)
    (either_holds (IsInstanceMethod p name descriptor) (only (amount (specific_methods p name descriptor c))) (first_in (open_in p name descriptor) (class_at p c).superinterfaces)
    (only_one (IsInstanceMethod p name descriptor) (specific_methods p name descriptor c) (specific_ones p name descriptor c))
    (first_found (IsInstanceMethod p name descriptor) (open_in p name descriptor) (open_found p name descriptor) (class_at p c).superinterfaces))

-- RESOLUTION

refused : (error : LinkError) (m : ℕ) (r : Result ℕ LinkError) → r ≡ Err error → r ≡ Ok m → ⊥
refused error m r a b = cc

same_ok : (m k : ℕ) (r : Result ℕ LinkError) → r ≡ Ok m → r ≡ Ok k → m ≡ k
same_ok m k r a b = cc

pub resolved_method : (p : Linked) (owner : ℕ) (b : Bool) (name descriptor : List ℕ) (m : ℕ) → resolve_method p owner b name descriptor ≡ Ok m → IsMethod p name descriptor m
resolved_method p owner true name descriptor m e = by (is_interface p owner) e
  where
    by : (i : Bool) → (if i then ok_or (option_or (method_in p name descriptor owner) (resolved_above p name descriptor owner)) NoSuchMethod else Err IncompatibleClassChange) ≡ Ok m → IsMethod p name descriptor m
    by true q = ok_is (IsMethod p name descriptor) (option_or (method_in p name descriptor owner) (resolved_above p name descriptor owner)) NoSuchMethod m
        (either_holds (IsMethod p name descriptor) (method_in p name descriptor owner) (resolved_above p name descriptor owner) (method_found p name descriptor owner) (above_found p name descriptor owner)) q
    by false q = absurd (refused IncompatibleClassChange m (Err IncompatibleClassChange) refl q)
resolved_method p owner false name descriptor m e = by (is_interface p owner) e
  where
    by : (i : Bool) → (if i then Err IncompatibleClassChange else ok_or (option_or (first_in (method_in p name descriptor) (lineage p owner)) (resolved_above p name descriptor owner)) NoSuchMethod) ≡ Ok m → IsMethod p name descriptor m
    by true q = absurd (refused IncompatibleClassChange m (Err IncompatibleClassChange) refl q)
    by false q = ok_is (IsMethod p name descriptor) (option_or (first_in (method_in p name descriptor) (lineage p owner)) (resolved_above p name descriptor owner)) NoSuchMethod m
        (either_holds (IsMethod p name descriptor) (first_in (method_in p name descriptor) (lineage p owner)) (resolved_above p name descriptor owner)
        (first_found (IsMethod p name descriptor) (method_in p name descriptor) (method_found p name descriptor) (lineage p owner)) (above_found p name descriptor owner)) q

-- SELECTION

above_selected : (P : ℕ → Type 0) (ms : List ℕ) (m : ℕ) → All P ms → selected_above (amount ms) ≡ Ok m → P m
above_selected P [] m h e = absurd (refused AbstractMethod m (Err AbstractMethod) refl e)
above_selected P (k ∷ []) m h e = subst P (same_ok k m (Ok k) refl e) (All-head P k [] h)
above_selected P (k ∷ n ∷ ms) m h e = absurd (refused IncompatibleClassChange m (Err IncompatibleClassChange) refl e)

selected_is : (p : Linked) (P : ℕ → Type 0) (o : Option ℕ) (ms : List ℕ) (m : ℕ) → IfSome o P → All P ms → selected p o (amount ms) ≡ Ok m → P m
selected_is p P None ms m h all e = above_selected P ms m all e
selected_is p P (Some k) ms m h all e = by (is_abstract p k) e
  where
    by : (b : Bool) → (if b then Err AbstractMethod else Ok k) ≡ Ok m → P m
    by true q = absurd (refused AbstractMethod m (Err AbstractMethod) refl q)
    by false q = subst P (same_ok k m (Ok k) refl q) h

from_selected : (p : Linked) (special : Bool) (name descriptor : List ℕ) (c m : ℕ) → select_from p special name descriptor c ≡ Ok m → IsInstanceMethod p name descriptor m
from_selected p special name descriptor c m e =
    selected_is p (IsInstanceMethod p name descriptor) (first_in (selectable_in p special name descriptor) (lineage p c)) (specific_methods p name descriptor c) m
    (first_found (IsInstanceMethod p name descriptor) (selectable_in p special name descriptor) (selectable_found p special name descriptor) (lineage p c)) (specific_ones p name descriptor c) e

pub selected_method : (p : Linked) (c m : ℕ) (interface : Bool) (k : ℕ) → m < length p.methods → is_static p m ≡ false → select p c m interface ≡ Ok k → IsInstanceMethod p (method_at p m).name (method_at p m).descriptor k
selected_method p c m true k lt instance e = by (is_private p m || not (is_subclass p c (method_at p m).class)) e
  where
    by : (b : Bool) → (if b then Err IncompatibleClassChange else select_from p false (method_at p m).name (method_at p m).descriptor c) ≡ Ok k → IsInstanceMethod p (method_at p m).name (method_at p m).descriptor k
    by true q = absurd (refused IncompatibleClassChange k (Err IncompatibleClassChange) refl q)
    by false q = from_selected p false (method_at p m).name (method_at p m).descriptor c k q
selected_method p c m false k lt instance e = by (is_private p m) e
  where
    by : (b : Bool) → (if b then Ok m else select_from p false (method_at p m).name (method_at p m).descriptor c) ≡ Ok k → IsInstanceMethod p (method_at p m).name (method_at p m).descriptor k
    by true q = subst (IsInstanceMethod p (method_at p m).name (method_at p m).descriptor) (same_ok m k (Ok m) refl q) (record { method = record { within = lt; named = refl; descriptor = refl }; instance = instance })
    by false q = from_selected p false (method_at p m).name (method_at p m).descriptor c k q

pub selected_special : (p : Linked) (current named m k : ℕ) → m < length p.methods → is_static p m ≡ false → select_special p current named m ≡ Ok k → IsInstanceMethod p (method_at p m).name (method_at p m).descriptor k
selected_special p current named m k lt instance e = by (bytes_eq (method_at p m).name (codes "<init>")) ((method_at p m).class == named) e
  where
    by : (b own : Bool) → (if b then (if own then Ok m else Err NoSuchMethod) else select_from p true (method_at p m).name (method_at p m).descriptor (special_start p current named)) ≡ Ok k → IsInstanceMethod p (method_at p m).name (method_at p m).descriptor k
    by true true q = subst (IsInstanceMethod p (method_at p m).name (method_at p m).descriptor) (same_ok m k (Ok m) refl q) (record { method = record { within = lt; named = refl; descriptor = refl }; instance = instance })
    by true false q = absurd (refused NoSuchMethod k (Err NoSuchMethod) refl q)
    by false own q = from_selected p true (method_at p m).name (method_at p m).descriptor (special_start p current named) k q
