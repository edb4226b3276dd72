-- What is kept of the lines tells the rows of the snapshot.
use Rattle.std.proofs.Common.{◌≡◌, ◌∙◌, ℕ, suc, ◌+◌, ◌-◌, ◌*◌, ◌^◌, ◌<◌, ◌≤◌, Bool, true, false, cond, not, ◌&&◌, eqb, leb, List, [], ◌∷◌, ◌++◌, length, map, get_or, Option, Some, None, refl, sym, ap, subst, arith, append_assoc}
use Rattle.std.specs.Prelude.{reverse, filter, All, codes}
use Rattle.std.specs.List.{filter_map, flat_map, sum_by, cons_option, AllByRecursion}
use Rattle.std.specs.BTreeMap.{insert_entry}
use Rattle.std.specs.Ordering.{nat_cmp}
use Rattle.std.proofs.lemmas.List.{append-nil, length-map, reverse-reverse}
use Rattle.std.proofs.lemmas.List.Elements.{filter_map-append, All-from_recursion}
use Rattle.std.proofs.lemmas.List.Sums.{fold-append, sum_by-cons}
use Rattle.std.proofs.lemmas.Bool.{ne_eqb}
use Rattle.et_base.specs.declared.line.TraceLine.{TraceLine}
use Rattle.et_base.specs.declared.line.TraceLine.TheVariants.{Header, Class, Method, Alloc, Update, Enter, Exit, Unwind, Flush, Death, Finish}
use Rattle.et_text.specs.Rules.{objects, classes, AreFine}
use Rattle.et_text.specs.Spelling.{number_field, text_field}
use Rattle.et_replay.specs.Curve.{live_size, live}
use Rattle.et_replay.proofs.Living.{lives}
use Rattle.et_snapshot.specs.Snapshot.{write_by, writes, written, is_set, slots_at, makes_live, live_lines, is_of_class, size_made, bytes_made, class_name, static_row, object_rows, class_row}
use Rattle.et_snapshot.specs.Heap.{Kept, note_static, statics_by, kept_by, size_of, is_kept_of, IsTotal, AreTotals, HasClass, row_in, row_of, rows_of, total_row, total_rows, no_total}
use Rattle.et_snapshot.specs.declared.totals.Total.{Total}
use Rattle.et_snapshot.proofs.Keeping.{in_order, in_order_is, kept_at, all_at, Rise, Below, Fits, AllFit, is_kept, below, all_more}
use Rattle.et_snapshot.proofs.Classes.{fields, Numbered, are_numbered, named}

-- STATIC SLOTS
module _ (e : ℕ) (past : List TraceLine) where
  abbrev s_lines : List TraceLine
  s_lines = in_order past

  abbrev s_put : List (ℕ × ℕ) → ℕ × ℕ → List (ℕ × ℕ)
  s_put slots w = insert_entry nat_cmp slots w.0 w.1

  s_more : (line : TraceLine) → written (writes (s_lines ++ line ∷ []) e 0) ≡ written (writes s_lines e 0 ++ cons_option (write_by e 0 line) [])
  s_more line = ap written (filter_map-append (write_by e 0) s_lines (line ∷ []))

  s_none : (line : TraceLine) → write_by e 0 line ≡ None → written (writes s_lines e 0) ≡ written (writes (s_lines ++ line ∷ []) e 0)
  s_none line off = sym (s_more line ∙ (ap (λ (o : Option (ℕ × ℕ)). written (writes s_lines e 0 ++ cons_option o [])) off ∙ ap written (append-nil (writes s_lines e 0))))

  s_one : (slot new : ℕ) (a b : Bool) → cond (a && b) (insert_entry nat_cmp (written (writes s_lines e 0)) slot new) (written (writes s_lines e 0)) ≡ written (writes s_lines e 0 ++ cons_option (cond (b && a) (Some (slot, new)) None) [])
  s_one slot new true true = sym (fold-append s_put [] (writes s_lines e 0) ((slot, new) ∷ []))
  s_one slot new true false = sym (ap written (append-nil (writes s_lines e 0)))
  s_one slot new false true = sym (ap written (append-nil (writes s_lines e 0)))
  s_one slot new false false = sym (ap written (append-nil (writes s_lines e 0)))

  s_by : (line : TraceLine) → note_static e (written (writes s_lines e 0)) line ≡ written (writes (s_lines ++ line ∷ []) e 0)
  s_by (Update event thread object slot old new) = s_one slot new (leb event e) (eqb object 0) ∙ sym (s_more (Update event thread object slot old new))
  s_by (Header v n) = s_none (Header v n) refl
  s_by (Class number name) = s_none (Class number name) refl
  s_by (Method number class name descriptor) = s_none (Method number class name descriptor) refl
  s_by (Alloc event thread object class size len) = s_none (Alloc event thread object class size len) refl
  s_by (Enter event thread method receiver) = s_none (Enter event thread method receiver) refl
  s_by (Exit event thread method) = s_none (Exit event thread method) refl
  s_by (Unwind event thread method exception) = s_none (Unwind event thread method exception) refl
  s_by (Flush event deaths) = s_none (Flush event deaths) refl
  s_by (Death object time) = s_none (Death object time) refl
  s_by (Finish event how) = s_none (Finish event how) refl

  static_put : (line : TraceLine) → note_static e (written (writes (in_order past) e 0)) line ≡ written (writes (in_order past ++ line ∷ []) e 0)
  static_put line = s_by line

statics_in_order : (e : ℕ) (past : List TraceLine) → statics_by e past ≡ written (writes (in_order past) e 0)
statics_in_order e [] = refl
statics_in_order e (line ∷ past) = ap (λ (s : List (ℕ × ℕ)). note_static e s line) (statics_in_order e past) ∙ static_put e past line

in_order_of : (lines : List TraceLine) → in_order (reverse lines) ≡ lines
in_order_of lines = in_order_is (reverse lines) ∙ reverse-reverse lines

pub statics_are : (e : ℕ) (lines : List TraceLine) → statics_by e (reverse lines) ≡ written (writes lines e 0)
statics_are e lines = statics_in_order e (reverse lines) ∙ ap (λ (l : List TraceLine). written (writes l e 0)) (in_order_of lines)

-- rows of slots that aren't null
pub set_rows : (owner : Option ℕ) (slots : List (ℕ × ℕ)) → flat_map (row_of owner) slots ≡ flat_map (row_in owner) (filter is_set slots)
set_rows owner [] = refl
set_rows owner (p ∷ slots) =
    elim (eqb p.1 0) as (λ b. cond b [] (row_in owner p) ++ flat_map (row_of owner) slots ≡ flat_map (row_in owner) (cond (not b) (p ∷ filter is_set slots) (filter is_set slots))) [
      | true ↦ set_rows owner slots
      | false ↦ ap (λ (t : List ℕ). row_in owner p ++ t) (set_rows owner slots)
    ]

pub static_rows : (e : ℕ) (lines : List TraceLine) → flat_map (row_of None) (statics_by e (reverse lines)) ≡ flat_map static_row (slots_at lines e 0)
static_rows e lines = ap (λ (s : List (ℕ × ℕ)). flat_map (row_of None) s) (statics_are e lines) ∙ set_rows None (written (writes lines e 0))

-- OBJECTS

-- what is kept of the object that a line makes; nothing is, of another line
abbrev pub body_at : List TraceLine → ℕ → TraceLine → Kept
body_at lines e (Alloc born thread object class size len) = (object, record { class = class; size = size; slots = written (writes lines e object) })
body_at lines e _ = (0, record { class = 0; size = 0; slots = [] })

kept_if_live : (lines : List TraceLine) (e : ℕ) (x : TraceLine) → kept_at lines e x ≡ cond (makes_live lines e x) (Some (body_at lines e x)) None
kept_if_live lines e (Alloc born thread object class size len) = refl
kept_if_live lines e _ = refl

bodies_of : (lines : List TraceLine) (e : ℕ) (xs : List TraceLine) → filter_map (kept_at lines e) xs ≡ map (body_at lines e) (filter (makes_live lines e) xs)
bodies_of lines e [] = refl
bodies_of lines e (x ∷ xs) =
    ap (λ (o : Option Kept). cons_option o (filter_map (kept_at lines e) xs)) (kept_if_live lines e x)
    ∙ elim (makes_live lines e x) as (λ b. cons_option (cond b (Some (body_at lines e x)) None) (filter_map (kept_at lines e) xs) ≡ map (body_at lines e) (cond b (x ∷ filter (makes_live lines e) xs) (filter (makes_live lines e) xs))) [
      | true ↦ ap (λ (t : List Kept). body_at lines e x ∷ t) (bodies_of lines e xs)
      | false ↦ bodies_of lines e xs
    ]

pub record IsTold (lines : List TraceLine) (e : ℕ) (kept : List Kept) : Type 0 where
  pub bodies : kept ≡ map (body_at lines e) (live_lines lines e)
  pub classed : AllByRecursion (HasClass (length (fields lines))) kept
  pub light : sum_by size_of kept < 2 ^ 64
  pub numbered : Numbered 0 lines

rise_long : (low n : ℕ) (ks : List Kept) → Rise low ks → Below n ks → low ≤ n → length ks + low ≤ n
rise_long low n [] r b le = omega (arith, le)
rise_long low n (k ∷ ks) r b le = let more = rise_long k.0 n ks r.1 b.1 b.0 in let lt = r.0 in omega (arith, more, lt)

all_light : (count names : ℕ) (ks : List Kept) → AllFit count names ks → sum_by size_of ks ≤ length ks * 2 ^ 30
all_light count names [] a = omega arith
all_light count names (k ∷ ks) a =
    let rest = all_light count names ks a.1 in
    let one = a.0.small in
    let sum = sum_by-cons size_of k ks in
    omega (arith, rest, one, sum)

pub is_told : (version e : ℕ) (lines : List TraceLine) → AreFine version (reverse lines) → IsTold lines e (kept_by e (reverse lines))
is_told version e lines f =
    let past = reverse lines in
    let kept = kept_by e past in
    let h = is_kept version e past f in
    let n = are_numbered version past f in
    let l = lives version past f in
    let few = l.few in
    let many = l.many in
    let order = in_order_of lines in
    let count : length (fields lines) ≡ classes past = sym (ap (λ (t : List TraceLine). length (fields t)) order) ∙ n.many in
    let long = rise_long 0 (objects past) kept h.rise (below (objects past) (classes past) kept h.fit) (omega arith) in
    let light = all_light (objects past) (classes past) kept h.fit in
    record {
      bodies = h.same ∙ (ap (λ (t : List TraceLine). all_at t e) order ∙ bodies_of lines e lines);
      classed = all_more (Fits (objects past) (classes past)) (HasClass (length (fields lines))) kept (λ k fit. (fit.class.0, (let c = fit.class.1 in omega (arith, c, count)))) h.fit;
      light = omega (arith, light, long, few, many);
      numbered = subst (λ (t : List TraceLine). Numbered 0 t) order n.numbered;
    }

-- HOW MANY, AND THEIR BYTES
sum_map : (lines : List TraceLine) (e : ℕ) (xs : List TraceLine) → sum_by size_of (map (body_at lines e) xs) ≡ sum_by size_made xs
sum_map lines e [] = refl
sum_map lines e (x ∷ xs) =
    let rest = sum_map lines e xs in
    let left = sum_by-cons size_of (body_at lines e x) (map (body_at lines e) xs) in
    let right = sum_by-cons size_made x xs in
    let one = same_size x in
    omega (arith, rest, left, right, one)
  where
    same_size : (x : TraceLine) → size_of (body_at lines e x) ≡ size_made x
    same_size (Alloc born thread object class size len) = refl
    same_size _ = refl

size_if_live : (lines : List TraceLine) (e : ℕ) (x : TraceLine) → live_size lines e x ≡ cond (makes_live lines e x) (size_made x) 0
size_if_live lines e (Alloc born thread object class size len) = refl
size_if_live lines e _ = refl

live_from : (lines : List TraceLine) (e : ℕ) (xs : List TraceLine) → sum_by size_made (filter (makes_live lines e) xs) ≡ sum_by (live_size lines e) xs
live_from lines e [] = refl
live_from lines e (x ∷ xs) =
    let rest = live_from lines e xs in
    let right = sum_by-cons (live_size lines e) x xs in
    let one = size_if_live lines e x in
    let left = sum_by-cons size_made x (filter (makes_live lines e) xs) in
    let both : (b : Bool) → sum_by size_made (cond b (x ∷ filter (makes_live lines e) xs) (filter (makes_live lines e) xs)) ≡ cond b (size_made x) 0 + sum_by size_made (filter (makes_live lines e) xs) = λ b.
    elim b as (λ v. sum_by size_made (cond v (x ∷ filter (makes_live lines e) xs) (filter (makes_live lines e) xs)) ≡ cond v (size_made x) 0 + sum_by size_made (filter (makes_live lines e) xs)) [ true ↦ left | false ↦ omega arith ] in
    let here = both (makes_live lines e x) in
    omega (arith, rest, right, one, here)

pub made_is_live : (lines : List TraceLine) (e : ℕ) → bytes_made (live_lines lines e) ≡ live lines e
made_is_live lines e = live_from lines e lines

pub count_is : (lines : List TraceLine) (e : ℕ) (kept : List Kept) → IsTold lines e kept → length kept ≡ length (live_lines lines e)
count_is lines e kept t = ap (λ (k : List Kept). length k) t.bodies ∙ length-map (live_lines lines e) (body_at lines e)

pub bytes_are : (lines : List TraceLine) (e : ℕ) (kept : List Kept) → IsTold lines e kept → sum_by size_of kept ≡ live lines e
bytes_are lines e kept t = ap (λ (k : List Kept). sum_by size_of k) t.bodies ∙ (sum_map lines e (live_lines lines e) ∙ made_is_live lines e)

-- ROWS OF OBJECTS
one_object : (lines : List TraceLine) (e : ℕ) (x : TraceLine) → Numbered 0 lines → HasClass (length (fields lines)) (body_at lines e x) → rows_of (fields lines) (body_at lines e x) ≡ object_rows lines e x
one_object lines e (Alloc born thread object class size len) n h =
    let top = h.1 in
    let high : class ≤ 0 + length (fields lines) = omega (arith, top) in
    let whole : class - 0 ≡ class = omega arith in
    let name : get_or (fields lines) (class - 1) [] ≡ text_field (class_name lines class) = ap (λ (k : ℕ). get_or (fields lines) (k - 1) []) (sym whole) ∙ named 0 class lines n h.0 high in
    let front = codes "o" ++ number_field object in
    let row : List ℕ → List ℕ = λ t. front ++ t ++ number_field size in
    ap (λ (t : List ℕ). (row t ++ 10 ∷ []) ++ flat_map (row_of (Some object)) (written (writes lines e object))) name
    ∙ (append_assoc (row (text_field (class_name lines class))) (10 ∷ []) (flat_map (row_of (Some object)) (written (writes lines e object)))
    ∙ ap (λ (t : List ℕ). row (text_field (class_name lines class)) ++ 10 ∷ t) (set_rows (Some object) (written (writes lines e object))))
one_object lines e _ n h = absurd (let low = h.0 in omega (arith, low))

object_rows_from : (lines : List TraceLine) (e : ℕ) (xs : List TraceLine) → Numbered 0 lines → AllByRecursion (HasClass (length (fields lines))) (map (body_at lines e) xs) → flat_map (rows_of (fields lines)) (map (body_at lines e) xs) ≡ flat_map (object_rows lines e) xs
object_rows_from lines e [] n a = refl
object_rows_from lines e (x ∷ xs) n a =
    ap (λ (t : List ℕ). t ++ flat_map (rows_of (fields lines)) (map (body_at lines e) xs)) (one_object lines e x n a.0) ∙ ap (λ (t : List ℕ). object_rows lines e x ++ t) (object_rows_from lines e xs n a.1)

pub object_rows_are : (lines : List TraceLine) (e : ℕ) (kept : List Kept) → IsTold lines e kept → flat_map (rows_of (fields lines)) kept ≡ flat_map (object_rows lines e) (live_lines lines e)
object_rows_are lines e kept t =
    ap (λ (k : List Kept). flat_map (rows_of (fields lines)) k) t.bodies
    ∙ object_rows_from lines e (live_lines lines e) t.numbered (subst (λ (k : List Kept). AllByRecursion (HasClass (length (fields lines))) k) t.bodies t.classed)

-- ROWS OF CLASSES
same_class : (lines : List TraceLine) (e class : ℕ) (x : TraceLine) → 1 ≤ class → is_kept_of class (body_at lines e x) ≡ is_of_class class x
same_class lines e class (Alloc born thread object of size len) low = refl
same_class lines e class _ low = ne_eqb 0 class (λ z. omega (arith, z, low))

of_class : (lines : List TraceLine) (e class : ℕ) (xs : List TraceLine) → 1 ≤ class → filter (is_kept_of class) (map (body_at lines e) xs) ≡ map (body_at lines e) (filter (is_of_class class) xs)
of_class lines e class [] low = refl
of_class lines e class (x ∷ xs) low =
    ap (λ (b : Bool). cond b (body_at lines e x ∷ filter (is_kept_of class) (map (body_at lines e) xs)) (filter (is_kept_of class) (map (body_at lines e) xs))) (same_class lines e class x low)
    ∙ elim (is_of_class class x) as (λ b. cond b (body_at lines e x ∷ filter (is_kept_of class) (map (body_at lines e) xs)) (filter (is_kept_of class) (map (body_at lines e) xs)) ≡ map (body_at lines e) (cond b (x ∷ filter (is_of_class class) xs) (filter (is_of_class class) xs))) [
      | true ↦ ap (λ (t : List Kept). body_at lines e x ∷ t) (of_class lines e class xs low)
      | false ↦ of_class lines e class xs low
    ]

-- the total of a class
record IsClassTotal (made : List TraceLine) (class : ℕ) (total : Total) : Type 0 where
  pub count : total.count ≡ length (filter (is_of_class class) made)
  pub bytes : total.bytes ≡ bytes_made (filter (is_of_class class) made)

class_total : (lines : List TraceLine) (e class : ℕ) (kept : List Kept) (total : Total) → IsTold lines e kept → 1 ≤ class → IsTotal total (filter (is_kept_of class) kept) → IsClassTotal (live_lines lines e) class total
class_total lines e class kept total t low is =
    let own : filter (is_kept_of class) kept ≡ map (body_at lines e) (filter (is_of_class class) (live_lines lines e)) = ap (λ (k : List Kept). filter (is_kept_of class) k) t.bodies ∙ of_class lines e class (live_lines lines e) low in
    record {
      count = is.count ∙ (ap (λ (k : List Kept). length k) own ∙ length-map (filter (is_of_class class) (live_lines lines e)) (body_at lines e));
      bytes = is.bytes ∙ (ap (λ (k : List Kept). sum_by size_of k) own ∙ sum_map lines e (filter (is_of_class class) (live_lines lines e)));
    }

one_class : (made : List TraceLine) (number : ℕ) (name : List ℕ) (total : Total) → IsClassTotal made number total → total_row (text_field name) total ≡ class_row made (Class number name)
one_class made number name total is =
    ap (λ (n : ℕ). cond (eqb n 0) [] (codes "c" ++ text_field name ++ number_field n ++ number_field total.bytes ++ 10 ∷ [])) is.count
    ∙ ap (λ (n : ℕ). cond (eqb (length (filter (is_of_class number) made)) 0) [] (codes "c" ++ text_field name ++ number_field (length (filter (is_of_class number) made)) ++ number_field n ++ 10 ∷ [])) is.bytes

class_rows_from : (made : List TraceLine) (n : ℕ) (xs : List TraceLine) (totals : List Total) → Numbered n xs → length totals ≡ length (fields xs) → ((k : ℕ) → k < length totals → IsClassTotal made (k + n + 1) (get_or totals k no_total)) → total_rows (fields xs) totals ≡ flat_map (class_row made) xs
class_rows_from made n [] totals h long each = refl
class_rows_from made n (Class number name ∷ xs) [] h long each = absurd (omega (arith, long))
class_rows_from made n (Class number name ∷ xs) (t ∷ totals) h long each =
    let first : 0 + n + 1 ≡ number = (let e = h.0 in omega (arith, e)) in
    let is : IsClassTotal made number t = subst (λ (c : ℕ). IsClassTotal made c t) first (each 0 (omega arith)) in
    let rest = class_rows_from made (n + 1) xs totals h.1 (omega (arith, long))
    (λ k lt. (let c : suc k + n + 1 ≡ k + (n + 1) + 1 = omega arith in subst (λ (m : ℕ). IsClassTotal made m (get_or totals k no_total)) c (each (suc k) (omega (arith, lt))))) in
    ap (λ (r : List ℕ). r ++ total_rows (fields xs) totals) (one_class made number name t is) ∙ ap (λ (r : List ℕ). class_row made (Class number name) ++ r) rest
class_rows_from made n (Header v i ∷ xs) totals h long each = class_rows_from made n xs totals h long each
class_rows_from made n (Method number class name descriptor ∷ xs) totals h long each = class_rows_from made n xs totals h long each
class_rows_from made n (Alloc event thread object class size len ∷ xs) totals h long each = class_rows_from made n xs totals h long each
class_rows_from made n (Update event thread object slot old new ∷ xs) totals h long each = class_rows_from made n xs totals h long each
class_rows_from made n (Enter event thread method receiver ∷ xs) totals h long each = class_rows_from made n xs totals h long each
class_rows_from made n (Exit event thread method ∷ xs) totals h long each = class_rows_from made n xs totals h long each
class_rows_from made n (Unwind event thread method exception ∷ xs) totals h long each = class_rows_from made n xs totals h long each
class_rows_from made n (Flush event deaths ∷ xs) totals h long each = class_rows_from made n xs totals h long each
class_rows_from made n (Death object time ∷ xs) totals h long each = class_rows_from made n xs totals h long each
class_rows_from made n (Finish event how ∷ xs) totals h long each = class_rows_from made n xs totals h long each

pub class_rows_are : (lines : List TraceLine) (e : ℕ) (kept : List Kept) (totals : List Total) → IsTold lines e kept → length totals ≡ length (fields lines) → AreTotals totals kept → total_rows (fields lines) totals ≡ flat_map (class_row (live_lines lines e)) lines
class_rows_are lines e kept totals t long a =
    class_rows_from (live_lines lines e) 0 lines totals t.numbered long
    (λ k lt. (let c : k + 1 ≡ k + 0 + 1 = omega arith in subst (λ (m : ℕ). IsClassTotal (live_lines lines e) m (get_or totals k no_total)) c (class_total lines e (k + 1) kept (get_or totals k no_total) t (omega arith) (a.each k lt))))

-- WHAT IS COUNTED

pub objects_told : (version e : ℕ) (lines found : List TraceLine) (ks : List Kept) → AreFine version (reverse lines) → found ≡ lines → ks ≡ kept_by e (reverse found) → IsTold lines e ks
objects_told version e lines found ks f is k = subst (λ (t : List Kept). IsTold lines e t) (sym (k ∙ ap (λ (l : List TraceLine). kept_by e (reverse l)) is)) (is_told version e lines f)

-- each is of one of so many classes
pub all_classed : (lines : List TraceLine) (e n : ℕ) (ks : List Kept) → IsTold lines e ks → n ≡ length (fields lines) → All (HasClass n) ks
all_classed lines e n ks t is = subst (λ (m : ℕ). All (HasClass m) ks) (sym is) (All-from_recursion (HasClass (length (fields lines))) ks t.classed)
