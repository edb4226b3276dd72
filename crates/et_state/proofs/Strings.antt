-- The strings of constants as they are kept.
use Rattle.std.proofs.Common.{◌≡◌, ℕ, zero, suc, ◌+◌, ◌==◌, ◌||◌, ◌<◌, ◌≤◌, ◌^◌, Bool, true, false, cond, List, [], ◌∷◌, ◌++◌, length, Option, Some, None, map, refl, sym, ap, ◌∙◌, subst, arith}
use Rattle.std.specs.Prelude.{All, IfSome, if◌then◌else◌, find, position, slice_get}
use Rattle.indexmap.specs.IndexMap.{insert_entry}
use Rattle.std.proofs.lemmas.Iterator.Adapters.{position_from-zero}
use Rattle.std.proofs.lemmas.List.{map-append}
use Rattle.std.proofs.lemmas.List.Elements.{All-head, All-tail}
use Rattle.std.specs.List.{position_from, list_any}
use Rattle.std.specs.Option.{option_map}
use Rattle.std.specs.Map.{lookup}
use Rattle.std.specs.Str.{bytes_eq}
use Rattle.std.specs.declared.vec.Vec.{Vec}
use Rattle.std.specs.declared.alloc.Global.{Global}
use Rattle.std.proofs.lemmas.Option.{none-some, same_Some}
use Rattle.et_state.specs.Interned.{object_of, interned_text, interned_objects}

abbrev pub Entries : Type 0
Entries = List (Vec ℕ Global × ℕ)

abbrev pub shown : Entries → List (List ℕ × ℕ)
shown es = map (λ e. (e.0.items, e.1)) es

pub object-shown : (text : List ℕ) (es : Entries) → object_of (shown es) text ≡ lookup (λ k. bytes_eq text k.items) es
object-shown text [] = refl
object-shown text (e ∷ es) = ap (λ o. cond (bytes_eq text e.0.items) (Some e.1) o) (object-shown text es)

absent_step : (b : Bool) (p : List ℕ × ℕ) (i : ℕ) (at : Option ℕ) (r : Option (List ℕ × ℕ)) → (at ≡ None → option_map (λ q. q.0) r ≡ None) → cond b (Some i) at ≡ None → option_map (λ q. q.0) (cond b (Some p) r) ≡ None
absent_step true p i at r ih h = absurd (none-some i (sym h))
absent_step false p i at r ih h = ih h

-- an object that stands nowhere has no bytes
pub text-absent : (o i : ℕ) (es : Entries) → position_from (λ k. o == k) i (interned_objects (shown es)) ≡ None → interned_text (shown es) o ≡ None
text-absent o i [] h = refl
text-absent o i (e ∷ es) h = absent_step (o == e.1) (e.0.items, e.1) i (position_from (λ k. o == k) (i + 1) (interned_objects (shown es))) (find (λ p. o == p.1) (shown es)) (text-absent o (i + 1) es) h

from_step : (b : Bool) (i j : ℕ) (at : Option ℕ) → (at ≡ Some j → i + 1 ≤ j) → cond b (Some i) at ≡ Some j → i ≤ j
from_step true i j at ih h = let e : i ≡ j = same_Some i j h in omega arith
from_step false i j at ih h = let le = ih h in omega arith

position_from-le : (o i j : ℕ) (ks : List ℕ) → position_from (λ k. o == k) i ks ≡ Some j → i ≤ j
position_from-le o i j [] h = absurd (none-some j h)
position_from-le o i j (k ∷ ks) h = from_step (o == k) i j (position_from (λ u. o == u) (i + 1) ks) (position_from-le o (i + 1) j ks) h

first_step : (b : Bool) (p : List ℕ × ℕ) (i : ℕ) (at : Option ℕ) (r : Option (List ℕ × ℕ)) → (at ≡ Some i → i + 1 ≤ i) → cond b (Some i) at ≡ Some i → option_map (λ q. q.0) (cond b (Some p) r) ≡ Some p.0
first_step true p i at r le h = refl
first_step false p i at r le h = let lt = le h in absurd (omega arith)

later_step : (b : Bool) (p : List ℕ × ℕ) (i j : ℕ) (at : Option ℕ) (r : Option (List ℕ × ℕ)) (t : List ℕ) → i < j → (at ≡ Some j → option_map (λ q. q.0) r ≡ Some t) → cond b (Some i) at ≡ Some j → option_map (λ q. q.0) (cond b (Some p) r) ≡ Some t
later_step true p i j at r t lt ih h = let e : i ≡ j = same_Some i j h in absurd (omega arith)
later_step false p i j at r t lt ih h = ih h

-- an object that stands at a place has the bytes that stand there
pub text-present : (o i k : ℕ) (es : Entries) (e : Vec ℕ Global × ℕ) → position_from (λ u. o == u) i (interned_objects (shown es)) ≡ Some (i + k) → slice_get es k ≡ Some e → interned_text (shown es) o ≡ Some e.0.items
text-present o i k [] e h g = absurd (none-some (i + k) h)
text-present o i zero (x ∷ es) e h g =
    let same : i + 0 ≡ i = omega arith in
    let first = first_step (o == x.1) (x.0.items, x.1) i (position_from (λ u. o == u) (i + 1) (interned_objects (shown es))) (find (λ p. o == p.1) (shown es))
    (position_from-le o (i + 1) i (interned_objects (shown es))) (h ∙ ap Some same) in
    first ∙ ap (λ (y : Vec ℕ Global × ℕ). Some y.0.items) (same_Some x e g)
text-present o i (suc k) (x ∷ es) e h g =
    let same : (i + 1) + k ≡ i + suc k = omega arith in
    later_step (o == x.1) (x.0.items, x.1) i (i + suc k) (position_from (λ u. o == u) (i + 1) (interned_objects (shown es))) (find (λ p. o == p.1) (shown es)) e.0.items (omega arith)
    (λ (at : position_from (λ u. o == u) (i + 1) (interned_objects (shown es)) ≡ Some (i + suc k)). text-present o (i + 1) k es e (at ∙ ap Some (sym same)) g) h

none_step : (b : Bool) (p : List ℕ × ℕ) (r : Option (List ℕ × ℕ)) (c : Bool) → (option_map (λ q. q.0) r ≡ None → c ≡ false) → option_map (λ q. q.0) (cond b (Some p) r) ≡ None → (b || c) ≡ false
none_step true p r c ih h = absurd (none-some p.0 (sym h))
none_step false p r c ih h = ih h

-- an object that has no bytes stands nowhere
pub new-object : (o : ℕ) (es : Entries) → interned_text (shown es) o ≡ None → list_any (λ k. o == k) (interned_objects (shown es)) ≡ false
new-object o [] h = refl
new-object o (e ∷ es) h = none_step (o == e.1) (e.0.items, e.1) (find (λ p. o == p.1) (shown es)) (list_any (λ k. o == k) (interned_objects (shown es))) (new-object o es) h

found_at : (es : Entries) (ks : List ℕ) (o n : ℕ) → n ≡ o → ks ≡ interned_objects (shown es) → position (λ k. n == k) ks ≡ position_from (λ k. o == k) 0 (interned_objects (shown es))
found_at es ks o n number keys = ap (λ m. position (λ k. m == k) ks) number ∙ (ap (position (λ k. o == k)) keys ∙ position_from-zero (λ k. o == k) (interned_objects (shown es)))

pub text-missing : (es : Entries) (m : List (List ℕ × ℕ)) (ks : List ℕ) (o n : ℕ) → n ≡ o → ks ≡ interned_objects (shown es) → shown es ≡ m → None ≡ position (λ k. n == k) ks → interned_text m o ≡ None
text-missing es m ks o n number keys view none =
    subst (λ strings. interned_text strings o ≡ None) view (text-absent o 0 es (sym (none ∙ found_at es ks o n number keys)))

pub text-found : (es : Entries) (m : List (List ℕ × ℕ)) (ks : List ℕ) (o n i : ℕ) (e : Vec ℕ Global × ℕ) → n ≡ o → ks ≡ interned_objects (shown es) → shown es ≡ m → Some i ≡ position (λ k. n == k) ks → Some e ≡ slice_get es i → interned_text m o ≡ Some e.0.items
text-found es m ks o n i e number keys view some entry =
    let zeroth : 0 + i ≡ i = omega arith in
    subst (λ strings. interned_text strings o ≡ Some e.0.items) view (text-present o 0 i es e (sym (some ∙ found_at es ks o n number keys) ∙ ap Some (sym zeroth)) (sym entry))

abbrev pub same_text : Vec ℕ Global → Vec ℕ Global → Bool
same_text x y = bytes_eq x.items y.items

insert_step : (b : Bool) (e : Vec ℕ Global × ℕ) (v : ℕ) (es inserted : Entries) (x : Vec ℕ Global × ℕ) (l : Option ℕ) → (l ≡ None → inserted ≡ es ++ x ∷ []) → cond b (Some e.1) l ≡ None → (if b then (e.0, v) ∷ es else (e ∷ inserted)) ≡ e ∷ (es ++ x ∷ [])
insert_step true e v es inserted x l ih h = absurd (none-some e.1 (sym h))
insert_step false e v es inserted x l ih h = ap (λ ys. e ∷ ys) (ih h)

inserted_last : (es : Entries) (k : Vec ℕ Global) (v : ℕ) → lookup (λ x. bytes_eq k.items x.items) es ≡ None → insert_entry same_text es k v ≡ es ++ (k, v) ∷ []
inserted_last [] k v h = refl
inserted_last (e ∷ es) k v h = insert_step (bytes_eq k.items e.0.items) e v es (insert_entry same_text es k v) (k, v) (lookup (λ x. bytes_eq k.items x.items) es) (inserted_last es k v) h

-- new bytes and a new object stand last
pub strings-added : (es fs : Entries) (m : List (List ℕ × ℕ)) (k : Vec ℕ Global) (text : List ℕ) (o : ℕ) → shown es ≡ m → k.items ≡ text → object_of m text ≡ None → fs ≡ insert_entry same_text es k o → shown fs ≡ m ++ (text, o) ∷ []
strings-added es fs m k text o view items new is =
    let none : lookup (λ x. bytes_eq k.items x.items) es ≡ None =
    subst (λ t. lookup (λ x. bytes_eq t x.items) es ≡ None) (sym items) (sym (object-shown text es) ∙ (ap (λ n. object_of n text) view ∙ new)) in
    ap shown (is ∙ inserted_last es k o none) ∙ (map-append (λ e. (e.0.items, e.1)) es ((k, o) ∷ []) ∙ (ap (λ n. n ++ (k.items, o) ∷ []) view ∙ ap (λ t. m ++ (t, o) ∷ []) items))

pub objects-added : (es fs : Entries) (m : List (List ℕ × ℕ)) (text : List ℕ) (o n : ℕ) (ks new : List ℕ) → shown es ≡ m → shown fs ≡ m ++ (text, o) ∷ [] → n ≡ o → ks ≡ interned_objects (shown es) → interned_text m o ≡ None → new ≡ (if list_any (λ k. n == k) ks then ks else (ks ++ n ∷ [])) → new ≡ interned_objects (shown fs)
objects-added es fs m text o n ks new view added number keys fresh is =
    let none : list_any (λ k. n == k) ks ≡ false =
    ap (λ p. list_any (λ k. p == k) ks) number ∙ (ap (list_any (λ k. o == k)) keys ∙ new-object o es (ap (λ strings. interned_text strings o) view ∙ fresh)) in
    let last : new ≡ ks ++ n ∷ [] = is ∙ ap (λ b. if b then ks else (ks ++ n ∷ [])) none in
    let same : ks ++ n ∷ [] ≡ interned_objects m ++ o ∷ [] = ap (λ p. ks ++ p ∷ []) number ∙ ap (λ p. p ++ o ∷ []) (keys ∙ ap interned_objects view) in
    last ∙ (same ∙ sym (ap interned_objects added ∙ map-append (λ p. p.1) m ((text, o) ∷ [])))

short_step : (b : Bool) (p : List ℕ × ℕ) (r : Option (List ℕ × ℕ)) → length p.0 < 2 ^ 16 → IfSome (option_map (λ q. q.0) r) (λ t. length t < 2 ^ 16) → IfSome (option_map (λ q. q.0) (cond b (Some p) r)) (λ t. length t < 2 ^ 16)
short_step true p r here later = here
short_step false p r here later = later

-- the bytes of an object are few where all are
pub text-short : (m : List (List ℕ × ℕ)) (o : ℕ) → All (λ (s : List ℕ × ℕ). length s.0 < 2 ^ 16) m → IfSome (interned_text m o) (λ t. length t < 2 ^ 16)
text-short [] o all = tt
text-short (x ∷ m) o all =
    short_step (o == x.1) x (find (λ p. o == p.1) m) (All-head (λ (s : List ℕ × ℕ). length s.0 < 2 ^ 16) x m all) (text-short m o (All-tail (λ (s : List ℕ × ℕ). length s.0 < 2 ^ 16) x m all))
