-- The items of a trace in order of time are the timeline.
use Rattle.std.proofs.Common.{◌≡◌, ◌≢◌, ℕ, zero, suc, ◌+◌, ◌-◌, ◌*◌, ◌/◌, ◌%◌, ◌^◌, ◌<◌, ◌≤◌, Bool, true, false, cond, not, ◌&&◌, eqb, ltb, leb, List, [], ◌∷◌, ◌++◌, length, get_or, Option, Some, None, refl, sym, ap, subst, ◌∙◌, arith, inl, inr, ◌⊎◌, append_assoc, length-append}
use Rattle.std.specs.Prelude.{reverse, unwrap_or}
use Rattle.std.specs.List.{filter, filter_map, cons_option, All}
use Rattle.std.specs.List.Sorted.{IsNonDecreasingBy, IsStableByKey, IsPermutation, ties}
use Rattle.std.specs.Ordering.{nat_cmp, is_lt}
use Rattle.std.proofs.Math.Seq.{get_or-append_seam}
use Rattle.std.proofs.Math.ListN.{get_or-append}
use Rattle.std.proofs.lemmas.Bool.Decides.{nat_tests}
use Rattle.std.proofs.lemmas.List.{append-nil, reverse-append, reverse-reverse}
use Rattle.std.proofs.lemmas.List.Elements.{filter_map-append, filter-append, All-push, All-append, All-cons, All-tail, All-set}
use Rattle.std.proofs.lemmas.List.Sorted.{All-permutation, IsNonDecreasingBy-push}
use Rattle.std.proofs.lemmas.Bool.{and_parts, leb-true, eqb-true}
use Rattle.et_base.specs.declared.line.TraceLine.{TraceLine}
use Rattle.et_base.specs.declared.line.TraceLine.TheVariants.{Header, Class, Method, Alloc, Update, Enter, Exit, Unwind, Flush, Death, Finish}
use Rattle.et_text.specs.Rules.{objects, births, newest_flush, is_timely, latest, awaited, last_dead, AreFine}
use Rattle.et_replay.specs.declared.item.Item.{Item}
use Rattle.et_replay.specs.declared.item.Item.TheVariants as items
use Rattle.et_replay.specs.Items.{object_made, size_made, made_objects, sizes, MakesInOrder}
use Rattle.et_replay.specs.Lives.{never, no_size, Sizes, died_by}
use Rattle.et_replay.specs.Parts.{item_of, item_event, death_of, deaths_from}
use Rattle.et_replay.specs.Timeline.{item_at, death_at, items_at, items_to, timeline_items}
use Rattle.et_replay.proofs.ByKey.{below, equal, below-suc, below-all, below-zero, same_by_key, filter_swap, filter_same}
use Rattle.et_replay.proofs.Dying.{deaths_told}
use Rattle.et_replay.proofs.Living.{follows, lives}
use Rattle.et_replay.proofs.Rising.{moves, Happens, Rests}

-- WHAT HAPPENS AT AN EVENT

even_same : (a b : ℕ) → eqb (2 * a) (2 * b) ≡ eqb a b
even_same a b = grind (arith, nat_tests)

even_odd : (a b : ℕ) → eqb (2 * a) (2 * b + 1) ≡ false
even_odd a b = grind (arith, nat_tests)

odd_even : (a b : ℕ) → eqb (2 * a + 1) (2 * b) ≡ false
odd_even a b = grind (arith, nat_tests)

one_at : (e : ℕ) (line : TraceLine) → equal item_event (2 * e) (filter_map item_of (line ∷ [])) ≡ filter_map (item_at e) (line ∷ [])
one_at e (Header v n) = refl
one_at e (Class number name) = refl
one_at e (Method number class name descriptor) = refl
one_at e (Alloc event thread object class size len) = rw (even_same event e) (elim (eqb event e) as (λ v. cond v (items.Alloc event object size ∷ []) [] ≡ filter_map (λ (u : TraceLine). cond v (Some (items.Alloc event object size)) None) (Alloc event thread object class size len ∷ [])) [ true ↦ refl | false ↦ refl ])
one_at e (Update event thread object slot old new) = written (eqb object 0) (eqb event e) refl refl
  where
    written : (a b : Bool) → eqb object 0 ≡ a → eqb event e ≡ b → equal item_event (2 * e) (filter_map item_of (Update event thread object slot old new ∷ [])) ≡ filter_map (item_at e) (Update event thread object slot old new ∷ [])
    written true true p q = rw (p, q) refl
    written true false p q = rw (p, q) refl
    written false true p q = (let s : eqb (2 * event) (2 * e) ≡ true = even_same event e ∙ q in rw (p, s, q) refl)
    written false false p q = (let s : eqb (2 * event) (2 * e) ≡ false = even_same event e ∙ q in rw (p, s, q) refl)
one_at e (Enter event thread method receiver) = refl
one_at e (Exit event thread method) = refl
one_at e (Unwind event thread method exception) = refl
one_at e (Flush event deaths) = refl
one_at e (Death object time) = refl
one_at e (Finish event how) = refl

one_odd : (e : ℕ) (line : TraceLine) → equal item_event (2 * e + 1) (filter_map item_of (line ∷ [])) ≡ []
one_odd e (Header v n) = refl
one_odd e (Class number name) = refl
one_odd e (Method number class name descriptor) = refl
one_odd e (Alloc event thread object class size len) = rw (even_odd event e) refl
one_odd e (Update event thread object slot old new) = elim (eqb object 0) as (λ v. equal item_event (2 * e + 1) (filter_map (λ (u : TraceLine). cond v None (Some (items.Write event object slot new))) (Update event thread object slot old new ∷ [])) ≡ []) [
  | true ↦ refl
  | false ↦ rw (even_odd event e) refl
]
one_odd e (Enter event thread method receiver) = refl
one_odd e (Exit event thread method) = refl
one_odd e (Unwind event thread method exception) = refl
one_odd e (Flush event deaths) = refl
one_odd e (Death object time) = refl
one_odd e (Finish event how) = refl

-- one line more
first_line : {Y : Type 0} (f : TraceLine → Option Y) (line : TraceLine) (lines : List TraceLine) → filter_map f (line ∷ lines) ≡ filter_map f (line ∷ []) ++ filter_map f lines
first_line f line lines = filter_map-append f (line ∷ []) lines

all_at : (e : ℕ) (lines : List TraceLine) → equal item_event (2 * e) (filter_map item_of lines) ≡ filter_map (item_at e) lines
all_at e [] = refl
all_at e (line ∷ lines) =
    ap (λ (t : List Item). equal item_event (2 * e) t) (first_line item_of line lines)
    ∙ (filter-append (λ x. eqb (item_event x) (2 * e)) (filter_map item_of (line ∷ [])) (filter_map item_of lines)
    ∙ (ap (λ (t : List Item). t ++ equal item_event (2 * e) (filter_map item_of lines)) (one_at e line)
    ∙ (ap (λ (t : List Item). filter_map (item_at e) (line ∷ []) ++ t) (all_at e lines) ∙ sym (first_line (item_at e) line lines))))

none_odd : (e : ℕ) (lines : List TraceLine) → equal item_event (2 * e + 1) (filter_map item_of lines) ≡ []
none_odd e [] = refl
none_odd e (line ∷ lines) =
    ap (λ (t : List Item). equal item_event (2 * e + 1) t) (first_line item_of line lines)
    ∙ (filter-append (λ x. eqb (item_event x) (2 * e + 1)) (filter_map item_of (line ∷ [])) (filter_map item_of lines)
    ∙ (ap (λ (t : List Item). t ++ equal item_event (2 * e + 1) (filter_map item_of lines)) (one_odd e line) ∙ none_odd e lines))

-- no death is at an even moment
none_even : (e k : ℕ) (d : Sizes) → equal item_event (2 * e) (deaths_from k d) ≡ []
none_even e k [] = refl
none_even e k (q ∷ d) =
    filter-append (λ x. eqb (item_event x) (2 * e)) (death_of (k + 1) q) (deaths_from (k + 1) d)
    ∙ (ap (λ (t : List Item). t ++ equal item_event (2 * e) (deaths_from (k + 1) d)) (elim (eqb q.0 never) as (λ v. equal item_event (2 * e) (cond v [] (items.Death (k + 1) q.0 ∷ [])) ≡ []) [ true ↦ refl | false ↦ rw (odd_even q.0 e) refl ])
    ∙ none_even e (k + 1) d)

-- IN ORDER

abbrev happening : List TraceLine → List Item
happening past = filter_map item_of (reverse past)

data Gives (past : List TraceLine) (line : TraceLine) : Type 0 where
  GivesOne : (x : Item) → item_of line ≡ Some x → item_event x ≡ 2 * latest (line ∷ past) → Gives past line
  GivesNone : item_of line ≡ None → Gives past line

gives : (past : List TraceLine) (line : TraceLine) → Gives past line
gives past (Header v n) = GivesNone refl
gives past (Class number name) = GivesNone refl
gives past (Method number class name descriptor) = GivesNone refl
gives past (Alloc event thread object class size len) = GivesOne (items.Alloc event object size) refl refl
gives past (Update event thread object slot old new) = writes (eqb object 0) refl
  where
    writes : (a : Bool) → eqb object 0 ≡ a → Gives past (Update event thread object slot old new)
    writes true p = GivesNone (rw p refl)
    writes false p = GivesOne (items.Write event object slot new) (rw p refl) refl
gives past (Enter event thread method receiver) = GivesNone refl
gives past (Exit event thread method) = GivesNone refl
gives past (Unwind event thread method exception) = GivesNone refl
gives past (Flush event deaths) = GivesNone refl
gives past (Death object time) = GivesNone refl
gives past (Finish event how) = GivesNone refl

pub grows : (version : ℕ) (past : List TraceLine) (line : TraceLine) → AreFine version (line ∷ past) → latest past ≤ latest (line ∷ past)
grows version past line f = elim (moves version past line f) [
  | Happens e h l le fits ↦ omega (arith, l, le)
  | Rests h le ↦ le
]

more_happening : (past : List TraceLine) (line : TraceLine) → happening (line ∷ past) ≡ happening past ++ filter_map item_of (line ∷ [])
more_happening past line = ap (λ (t : List TraceLine). filter_map item_of t) (reverse-append (line ∷ []) past) ∙ filter_map-append item_of (reverse past) (line ∷ [])

record AreTimed (xs : List Item) (most : ℕ) : Type 0 where
  pub sorted : IsNonDecreasingBy item_event xs
  pub low : All (λ x. item_event x ≤ 2 * most) xs

timed_on : (past : List TraceLine) (line : TraceLine) → latest past ≤ latest (line ∷ past) → Gives past line → AreTimed (happening past) (latest past) → AreTimed (happening (line ∷ past)) (latest (line ∷ past))
timed_on past line le (GivesOne x h m) t =
    let xs = happening past in
    let is : happening (line ∷ past) ≡ xs ++ x ∷ [] = more_happening past line ∙ ap (λ (t : List Item). xs ++ t) (rw h refl) in
    let low = t.low in
    subst (λ (t : List Item). AreTimed t (latest (line ∷ past))) (sym is) (record {
      sorted = IsNonDecreasingBy-push item_event xs x t.sorted (λ d lt. (let l = low (length xs - 1) d (omega (arith, lt)) in omega (arith, l, m, le)));
      low = All-push (λ x. item_event x ≤ 2 * latest (line ∷ past)) xs x (λ k d lt. (let l = low k d lt in omega (arith, l, le))) (omega (arith, m));
    })
timed_on past line le (GivesNone h) t =
    let xs = happening past in
    let low = t.low in
    let is : happening (line ∷ past) ≡ xs = more_happening past line ∙ (ap (λ (t : List Item). xs ++ t) (rw h refl) ∙ append-nil xs) in
    subst (λ (t : List Item). AreTimed t (latest (line ∷ past))) (sym is) (record { sorted = t.sorted; low = λ k d lt. (let l = low k d lt in omega (arith, l, le)) })

timed : (version : ℕ) (past : List TraceLine) → AreFine version past → AreTimed (happening past) (latest past)
timed version [] f = record { sorted = λ i j d le lt. absurd (omega (arith, lt)); low = λ k d lt. absurd (omega (arith, lt)) }
timed version (line ∷ past) f = timed_on past line (grows version past line f) (gives past line) (timed version past f.0)

-- TIMES ARE LOW

flushed_low : (version : ℕ) (past : List TraceLine) → AreFine version past → unwrap_or (newest_flush past) 0 ≤ latest past
flushed_low version [] f = omega arith
flushed_low version (Header v n ∷ past) f = flushed_low version past f.0
flushed_low version (Class number name ∷ past) f = flushed_low version past f.0
flushed_low version (Method number class name descriptor ∷ past) f = flushed_low version past f.0
flushed_low version (Alloc event thread object class size len ∷ past) f = let le = grows version past (Alloc event thread object class size len) f in let ih = flushed_low version past f.0 in omega (arith, le, ih)
flushed_low version (Update event thread object slot old new ∷ past) f = let le = grows version past (Update event thread object slot old new) f in let ih = flushed_low version past f.0 in omega (arith, le, ih)
flushed_low version (Enter event thread method receiver ∷ past) f = let le = grows version past (Enter event thread method receiver) f in let ih = flushed_low version past f.0 in omega (arith, le, ih)
flushed_low version (Exit event thread method ∷ past) f = let le = grows version past (Exit event thread method) f in let ih = flushed_low version past f.0 in omega (arith, le, ih)
flushed_low version (Unwind event thread method exception ∷ past) f = let le = grows version past (Unwind event thread method exception) f in let ih = flushed_low version past f.0 in omega (arith, le, ih)
flushed_low version (Flush event deaths ∷ past) f = omega arith
flushed_low version (Death object time ∷ past) f = flushed_low version past f.0
flushed_low version (Finish event how ∷ past) f = flushed_low version past f.0

last_true : (a b c : Bool) → (a && b && c) ≡ true → c ≡ true
last_true true true c e = e
last_true true false c e = absurd cc
last_true false b c e = absurd cc

-- a time that is told is at most this
abbrev IsLow : ℕ → ℕ × ℕ → Type 0
IsLow most p = p.0 ≢ never → p.0 ≤ most

low_on : (most most' : ℕ) (d : Sizes) → most ≤ most' → All (IsLow most) d → All (IsLow most') d
low_on most most' d le h k e lt ne = let l = h k e lt ne in omega (arith, l, le)

times_low : (version : ℕ) (past : List TraceLine) → AreFine version past → All (IsLow (latest past)) (died_by past)
times_low version [] f = λ k e lt. absurd (omega (arith, lt))
times_low version (Header v n ∷ past) f = times_low version past f.0
times_low version (Class number name ∷ past) f = times_low version past f.0
times_low version (Method number class name descriptor ∷ past) f = times_low version past f.0
times_low version (Alloc event thread object class size len ∷ past) f = All-push (IsLow event) (died_by past) (never, size) (low_on (latest past) event (died_by past) (grows version past (Alloc event thread object class size len) f) (times_low version past f.0)) (λ ne. absurd (ne refl))
times_low version (Update event thread object slot old new ∷ past) f = low_on (latest past) event (died_by past) (grows version past (Update event thread object slot old new) f) (times_low version past f.0)
times_low version (Enter event thread method receiver ∷ past) f = low_on (latest past) event (died_by past) (grows version past (Enter event thread method receiver) f) (times_low version past f.0)
times_low version (Exit event thread method ∷ past) f = low_on (latest past) event (died_by past) (grows version past (Exit event thread method) f) (times_low version past f.0)
times_low version (Unwind event thread method exception ∷ past) f = low_on (latest past) event (died_by past) (grows version past (Unwind event thread method exception) f) (times_low version past f.0)
times_low version (Flush event deaths ∷ past) f = low_on (latest past) event (died_by past) (grows version past (Flush event deaths) f) (times_low version past f.0)
times_low version (Death object time ∷ past) f =
    let g = follows past (Death object time) f.2 in
    let c = last_true (ltb 0 (awaited past)) (ltb (last_dead past) object) (leb time (unwrap_or (newest_flush past) 0)) g.ordered in
    let a = leb-true time (unwrap_or (newest_flush past) 0) c in
    let b = flushed_low version past f.0 in
    All-set (IsLow (latest past)) (died_by past) (object - 1) (time, (get_or (died_by past) (object - 1) no_size).1) (λ ne. omega (arith, a, b)) (times_low version past f.0)
times_low version (Finish event how ∷ past) f = times_low version past f.0

deaths_low : (most k : ℕ) (d : Sizes) → All (IsLow most) d → All (λ x. item_event x ≤ 2 * most + 1) (deaths_from k d)
deaths_low most k [] h = λ i e lt. absurd (omega (arith, lt))
deaths_low most k (q ∷ d) h =
    All-append (λ x. item_event x ≤ 2 * most + 1) (death_of (k + 1) q) (deaths_from (k + 1) d) (one (eqb q.0 never) refl) (deaths_low most (k + 1) d (All-tail (IsLow most) q d h))
  where
    one : (b : Bool) → eqb q.0 never ≡ b → All (λ x. item_event x ≤ 2 * most + 1) (death_of (k + 1) q)
    one true p = rw p (λ i e lt. absurd (omega (arith, lt)))
    one false p =
        let l = h 0 q (omega arith) in
        let ne : q.0 ≢ never = grind (arith, nat_tests) in
        let low = l ne in
        rw p (All-cons (λ x. item_event x ≤ 2 * most + 1) (items.Death (k + 1) q.0) [] (omega (arith, low)) (λ i e lt. absurd (omega (arith, lt))))

-- ALL ITEMS, before they are put in order

abbrev pub unordered : List TraceLine → List Item
unordered lines = filter_map item_of lines ++ deaths_from 0 (died_by (reverse lines))

happening_is : (lines : List TraceLine) → happening (reverse lines) ≡ filter_map item_of lines
happening_is lines = ap (λ (t : List TraceLine). filter_map item_of t) (reverse-reverse lines)

all_low : (version : ℕ) (lines : List TraceLine) → AreFine version (reverse lines) → All (λ x. item_event x < 2 * suc (latest (reverse lines))) (unordered lines)
all_low version lines f =
    let most = latest (reverse lines) in
    let t = timed version (reverse lines) f in
    let low = t.low in
    let late = deaths_low most 0 (died_by (reverse lines)) (times_low version (reverse lines) f) in
    All-append (λ x. item_event x < 2 * suc most) (filter_map item_of lines) (deaths_from 0 (died_by (reverse lines)))
    (subst (λ (xs : List Item). All (λ x. item_event x < 2 * suc most) xs) (happening_is lines) (λ k d lt. (let l = low k d lt in omega (arith, l))))
    (λ k d lt. (let l = late k d lt in omega (arith, l)))

-- what is at a moment, of all items
even_part : (lines : List TraceLine) (e : ℕ) → equal item_event (2 * e) (unordered lines) ≡ filter_map (item_at e) lines
even_part lines e =
    filter-append (λ x. eqb (item_event x) (2 * e)) (filter_map item_of lines) (deaths_from 0 (died_by (reverse lines)))
    ∙ (ap (λ (t : List Item). t ++ equal item_event (2 * e) (deaths_from 0 (died_by (reverse lines)))) (all_at e lines)
    ∙ (ap (λ (t : List Item). filter_map (item_at e) lines ++ t) (none_even e 0 (died_by (reverse lines))) ∙ append-nil (filter_map (item_at e) lines)))

odd_part : (version : ℕ) (lines : List TraceLine) (e : ℕ) → AreFine version (reverse lines) → e ≢ never → equal item_event (2 * e + 1) (unordered lines) ≡ filter_map (death_at lines e) lines
odd_part version lines e f ne =
    filter-append (λ x. eqb (item_event x) (2 * e + 1)) (filter_map item_of lines) (deaths_from 0 (died_by (reverse lines)))
    ∙ (ap (λ (t : List Item). t ++ equal item_event (2 * e + 1) (deaths_from 0 (died_by (reverse lines)))) (none_odd e lines)
    ∙ deaths_told version lines e f ne)

-- IN ORDER OF TIME

pub record InOrder (lines : List TraceLine) (xs : List Item) : Type 0 where
  pub sorted : IsNonDecreasingBy item_event xs
  pub same : (m : ℕ) → equal item_event m xs ≡ equal item_event m (unordered lines)
  pub low : All (λ x. item_event x < 2 * suc (latest (reverse lines))) xs

at_both : (version : ℕ) (lines : List TraceLine) (xs : List Item) (e : ℕ) → AreFine version (reverse lines) → e ≤ 2 ^ 40 → InOrder lines xs → below item_event (suc (suc (2 * e))) xs ≡ below item_event (2 * e) xs ++ items_at lines e
at_both version lines xs e f le o =
    let a : equal item_event (2 * e) xs ≡ filter_map (item_at e) lines = o.same (2 * e) ∙ even_part lines e in
    let next : suc (2 * e) ≡ 2 * e + 1 = omega arith in
    let ne : e ≢ never = omega (arith, le) in
    let b : equal item_event (suc (2 * e)) xs ≡ filter_map (death_at lines e) lines = ap (λ (m : ℕ). equal item_event m xs) next ∙ (o.same (2 * e + 1) ∙ odd_part version lines e f ne) in
    below-suc item_event (suc (2 * e)) xs o.sorted
    ∙ (ap (λ (t : List Item). t ++ equal item_event (suc (2 * e)) xs) (below-suc item_event (2 * e) xs o.sorted)
    ∙ (append_assoc (below item_event (2 * e) xs) (equal item_event (2 * e) xs) (equal item_event (suc (2 * e)) xs)
    ∙ (ap (λ (t : List Item). below item_event (2 * e) xs ++ (t ++ equal item_event (suc (2 * e)) xs)) a
    ∙ ap (λ (t : List Item). below item_event (2 * e) xs ++ (filter_map (item_at e) lines ++ t)) b)))

up_to : (version : ℕ) (lines : List TraceLine) (xs : List Item) (e : ℕ) → AreFine version (reverse lines) → e ≤ 2 ^ 40 → InOrder lines xs → below item_event (suc (suc (2 * e))) xs ≡ items_to lines e
up_to version lines xs zero f le o = at_both version lines xs 0 f le o ∙ ap (λ (t : List Item). t ++ items_at lines 0) (below-zero item_event xs)
up_to version lines xs (suc e) f le o =
    let twice : 2 * suc e ≡ suc (suc (2 * e)) = omega arith in
    at_both version lines xs (suc e) f le o
    ∙ (ap (λ (m : ℕ). below item_event m xs ++ items_at lines (suc e)) twice
    ∙ ap (λ (t : List Item). t ++ items_at lines (suc e)) (up_to version lines xs e f (omega (arith, le)) o))

latest_fits : (version : ℕ) (past : List TraceLine) → AreFine version past → latest past ≤ 2 ^ 40
latest_fits version [] f = omega arith
latest_fits version (Header v n ∷ past) f = latest_fits version past f.0
latest_fits version (Class number name ∷ past) f = latest_fits version past f.0
latest_fits version (Method number class name descriptor ∷ past) f = latest_fits version past f.0
latest_fits version (Alloc event thread object class size len ∷ past) f = let r = f.1 in omega arith
latest_fits version (Update event thread object slot old new ∷ past) f = let r = f.1 in omega arith
latest_fits version (Enter event thread method receiver ∷ past) f = let r = f.1 in omega arith
latest_fits version (Exit event thread method ∷ past) f = let r = f.1 in omega arith
latest_fits version (Unwind event thread method exception ∷ past) f = let r = f.1 in omega arith
latest_fits version (Flush event deaths ∷ past) f = let r = f.1 in omega arith
latest_fits version (Death object time ∷ past) f = latest_fits version past f.0
latest_fits version (Finish event how ∷ past) f = latest_fits version past f.0

-- .. they are the timeline
pub are_timeline : (version : ℕ) (lines : List TraceLine) (xs : List Item) → AreFine version (reverse lines) → InOrder lines xs → xs ≡ timeline_items lines
are_timeline version lines xs f o =
    let most = latest (reverse lines) in
    let twice : 2 * suc most ≡ suc (suc (2 * most)) = omega arith in
    sym (below-all item_event (2 * suc most) xs o.low) ∙ (ap (λ (m : ℕ). below item_event m xs) twice ∙ up_to version lines xs most f (latest_fits version (reverse lines) f) o)

-- what a stable sort gives
tie_test : (a b : ℕ) → (not (is_lt (nat_cmp a b)) && not (is_lt (nat_cmp b a))) ≡ eqb b a
tie_test a b = grind (arith, nat_tests)

by_tie : (xs : List Item) (x : Item) (m : ℕ) → item_event x ≡ m → filter (ties (λ a b. is_lt (nat_cmp (item_event a) (item_event b))) x) xs ≡ equal item_event m xs
by_tie xs x m e = filter_same (ties (λ a b. is_lt (nat_cmp (item_event a) (item_event b))) x) (λ y. eqb (item_event y) m) xs (λ k d lt. tie_test (item_event x) (item_event (get_or xs k d)) ∙ ap (λ (n : ℕ). eqb (item_event (get_or xs k d)) n) e)

-- an item at each moment
data HasItem (m : ℕ) : Type 0 where
  Has : (x : Item) → item_event x ≡ m → HasItem m

halves : (m : ℕ) → (m ≡ 2 * (m / 2)) ⊎ (m ≡ 2 * (m / 2) + 1)
halves m = let small : m % 2 < 2 = omega arith in let parts : 2 * (m / 2) + m % 2 ≡ m = omega arith in grind (arith, small, parts)

has_item : (m : ℕ) → HasItem m
has_item m = elim (halves m) [
  | inl e ↦ Has (items.Alloc (m / 2) 0 0) (sym e)
  | inr e ↦ Has (items.Death 0 (m / 2)) (sym e)
]

equal_parts : (xs ys : List Item) → IsStableByKey item_event nat_cmp xs ys → (m : ℕ) → equal item_event m ys ≡ equal item_event m xs
equal_parts xs ys s m = elim (has_item m) [ Has x e ↦ sym (by_tie ys x m e) ∙ (s x ∙ by_tie xs x m e) ]

pub sort_orders : (version : ℕ) (lines : List TraceLine) (xs : List Item) → AreFine version (reverse lines) → IsNonDecreasingBy item_event xs → IsPermutation (unordered lines) xs → IsStableByKey item_event nat_cmp (unordered lines) xs → InOrder lines xs
sort_orders version lines xs f sorted perm stable = record {
  sorted = sorted;
  same = equal_parts (unordered lines) xs stable;
  low = All-permutation (λ x. item_event x < 2 * suc (latest (reverse lines))) (unordered lines) xs perm (all_low version lines f);
}

-- WHAT IS MADE

abbrev is_alloc : Item → Bool
is_alloc (items.Alloc event object size) = true
is_alloc (items.Write event object slot new) = false
is_alloc (items.Death object time) = false

of_allocs : {Y : Type 0} (f : Item → Option Y) (none : (x : Item) → is_alloc x ≡ false → f x ≡ None) (xs : List Item) → filter_map f (filter is_alloc xs) ≡ filter_map f xs
of_allocs {Y = Y} f none [] = refl
of_allocs {Y = Y} f none (x ∷ xs) = by (is_alloc x) refl (of_allocs f none xs)
  where
    by : (b : Bool) → is_alloc x ≡ b → filter_map f (filter is_alloc xs) ≡ filter_map f xs → filter_map f (filter is_alloc (x ∷ xs)) ≡ filter_map f (x ∷ xs)
    by true e ih = rw e (ap (λ (t : List Y). cons_option (f x) t) ih)
    by false e ih = (let n : f x ≡ None = none x e in rw (e, n) ih)

no_object : (x : Item) → is_alloc x ≡ false → object_made x ≡ None
no_object (items.Alloc event object size) e = absurd cc
no_object (items.Write event object slot new) e = refl
no_object (items.Death object time) e = refl

no_size_made : (x : Item) → is_alloc x ≡ false → size_made x ≡ None
no_size_made (items.Alloc event object size) e = absurd cc
no_size_made (items.Write event object slot new) e = refl
no_size_made (items.Death object time) e = refl

no_alloc : (k : ℕ) (d : Sizes) → filter is_alloc (deaths_from k d) ≡ []
no_alloc k [] = refl
no_alloc k (q ∷ d) =
    filter-append is_alloc (death_of (k + 1) q) (deaths_from (k + 1) d)
    ∙ (ap (λ (t : List Item). t ++ filter is_alloc (deaths_from (k + 1) d)) (elim (eqb q.0 never) as (λ v. filter is_alloc (cond v [] (items.Death (k + 1) q.0 ∷ [])) ≡ []) [ true ↦ refl | false ↦ refl ])
    ∙ no_alloc (k + 1) d)

-- the objects that are made stand in the order of the lines
allocs_stay : (version : ℕ) (lines : List TraceLine) (xs : List Item) → AreFine version (reverse lines) → InOrder lines xs → filter is_alloc xs ≡ filter is_alloc (filter_map item_of lines)
allocs_stay version lines xs f o =
    let ys = filter_map item_of lines in
    let ds = deaths_from 0 (died_by (reverse lines)) in
    let t = timed version (reverse lines) f in
    let low = subst (λ (v : List Item). All (λ x. item_event x ≤ 2 * latest (reverse lines)) v) (happening_is lines) t.low in
    same_by_key item_event is_alloc (2 * suc (latest (reverse lines))) xs ys o.sorted (subst (λ (v : List Item). IsNonDecreasingBy item_event v) (happening_is lines) t.sorted) o.low
    (λ k d lt. (let l = low k d lt in omega (arith, l)))
    (λ m. ap (λ (v : List Item). filter is_alloc v) (o.same m ∙ filter-append (λ x. eqb (item_event x) m) ys ds)
    ∙ (filter-append is_alloc (equal item_event m ys) (equal item_event m ds)
    ∙ (ap (λ (v : List Item). filter is_alloc (equal item_event m ys) ++ v) (filter_swap is_alloc (λ x. eqb (item_event x) m) ds ∙ ap (λ (v : List Item). equal item_event m v) (no_alloc 0 (died_by (reverse lines))))
    ∙ append-nil (filter is_alloc (equal item_event m ys)))))

record AreMade (past : List TraceLine) (xs : List Item) : Type 0 where
  pub many : length (made_objects xs) ≡ objects past
  pub numbered : (k : ℕ) → k < length (made_objects xs) → get_or (made_objects xs) k 0 ≡ k + 1
  pub small : All (λ size. size ≤ 2 ^ 30) (sizes xs)

-- a line that makes nothing
record MakesNone (past : List TraceLine) (line : TraceLine) : Type 0 where
  pub no_made : made_objects (filter_map item_of (line ∷ [])) ≡ []
  pub no_sizes : sizes (filter_map item_of (line ∷ [])) ≡ []
  pub as_many : objects (line ∷ past) ≡ objects past

made_same : (past : List TraceLine) (line : TraceLine) → MakesNone past line → AreMade past (happening past) → AreMade (line ∷ past) (happening (line ∷ past))
made_same past line n a =
    let xs = happening past in
    let new = filter_map item_of (line ∷ []) in
    let made_is : made_objects (happening (line ∷ past)) ≡ made_objects xs = ap (λ (t : List Item). made_objects t) (more_happening past line) ∙ (filter_map-append object_made xs new ∙ (ap (λ (t : List ℕ). made_objects xs ++ t) n.no_made ∙ append-nil (made_objects xs))) in
    let sizes_is : sizes (happening (line ∷ past)) ≡ sizes xs = ap (λ (t : List Item). sizes t) (more_happening past line) ∙ (filter_map-append size_made xs new ∙ (ap (λ (t : List ℕ). sizes xs ++ t) n.no_sizes ∙ append-nil (sizes xs))) in
    record {
      many = ap (λ (t : List ℕ). length t) made_is ∙ (a.many ∙ sym n.as_many);
      numbered = λ k lt. ap (λ (t : List ℕ). get_or t k 0) made_is ∙ a.numbered k (subst (λ (t : List ℕ). k < length t) made_is lt);
      small = subst (λ (t : List ℕ). All (λ size. size ≤ 2 ^ 30) t) (sym sizes_is) a.small;
    }

numbered_push : (xs : List ℕ) (k : ℕ) → ((k : ℕ) → k < length xs → get_or xs k 0 ≡ k + 1) → k < length (xs ++ (length xs + 1) ∷ []) → get_or (xs ++ (length xs + 1) ∷ []) k 0 ≡ k + 1
numbered_push xs k h lt = elim (last_or (length xs)) [
  | inl l ↦ get_or-append xs ((length xs + 1) ∷ []) 0 k l ∙ h k l
  | inr e ↦ subst (λ (j : ℕ). get_or (xs ++ (length xs + 1) ∷ []) j 0 ≡ j + 1) (sym e) (get_or-append_seam xs (length xs + 1) [] 0)
]
  where
    last_or : (n : ℕ) → (k < length xs) ⊎ (k ≡ length xs)
    last_or n = let long = length-append xs ((length xs + 1) ∷ []) in grind (arith, lt, long)

made_more : (past : List TraceLine) (event thread object class size len : ℕ) → object ≡ objects past + 1 → size ≤ 2 ^ 30 → AreMade past (happening past) → AreMade (Alloc event thread object class size len ∷ past) (happening (Alloc event thread object class size len ∷ past))
made_more past event thread object class size len next fits a =
    let xs = happening past in
    let line = Alloc event thread object class size len in
    let many = a.many in
    let is : object ≡ length (made_objects xs) + 1 = omega (arith, next, many) in
    let made_is : made_objects (happening (line ∷ past)) ≡ made_objects xs ++ (length (made_objects xs) + 1) ∷ [] = ap (λ (t : List Item). made_objects t) (more_happening past line) ∙ (filter_map-append object_made xs (filter_map item_of (line ∷ [])) ∙ ap (λ (o : ℕ). made_objects xs ++ o ∷ []) is) in
    let sizes_is : sizes (happening (line ∷ past)) ≡ sizes xs ++ size ∷ [] = ap (λ (t : List Item). sizes t) (more_happening past line) ∙ filter_map-append size_made xs (filter_map item_of (line ∷ [])) in
    record {
      many = ap (λ (t : List ℕ). length t) made_is ∙ (length-append (made_objects xs) ((length (made_objects xs) + 1) ∷ []) ∙ (let l = length-append (births past) (event ∷ []) in omega (arith, many, l)));
      numbered = λ k lt. ap (λ (t : List ℕ). get_or t k 0) made_is ∙ numbered_push (made_objects xs) k a.numbered (subst (λ (t : List ℕ). k < length t) made_is lt);
      small = subst (λ (t : List ℕ). All (λ s. s ≤ 2 ^ 30) t) (sym sizes_is) (All-push (λ s. s ≤ 2 ^ 30) (sizes xs) size a.small fits);
    }

made_on : (version : ℕ) (past : List TraceLine) (line : TraceLine) → AreFine version (line ∷ past) → AreMade past (happening past) → AreMade (line ∷ past) (happening (line ∷ past))
made_on version past (Header v n) f a = made_same past (Header v n) (record { no_made = refl; no_sizes = refl; as_many = refl }) a
made_on version past (Class number name) f a = made_same past (Class number name) (record { no_made = refl; no_sizes = refl; as_many = refl }) a
made_on version past (Method number class name descriptor) f a = made_same past (Method number class name descriptor) (record { no_made = refl; no_sizes = refl; as_many = refl }) a
made_on version past (Alloc event thread object class size len) f a =
    let g = follows past (Alloc event thread object class size len) f.2 in
    let o = and_parts (is_timely past event) (eqb object (objects past + 1)) g.ordered in
    made_more past event thread object class size len (eqb-true object (objects past + 1) o.1) (let r = f.1 in omega arith) a
made_on version past (Update event thread object slot old new) f a = made_same past (Update event thread object slot old new) (record {
  no_made = elim (eqb object 0) as (λ v. made_objects (filter_map (λ (u : TraceLine). cond v None (Some (items.Write event object slot new))) (Update event thread object slot old new ∷ [])) ≡ []) [ true ↦ refl | false ↦ refl ];
  no_sizes = elim (eqb object 0) as (λ v. sizes (filter_map (λ (u : TraceLine). cond v None (Some (items.Write event object slot new))) (Update event thread object slot old new ∷ [])) ≡ []) [ true ↦ refl | false ↦ refl ];
  as_many = refl;
}) a
made_on version past (Enter event thread method receiver) f a = made_same past (Enter event thread method receiver) (record { no_made = refl; no_sizes = refl; as_many = refl }) a
made_on version past (Exit event thread method) f a = made_same past (Exit event thread method) (record { no_made = refl; no_sizes = refl; as_many = refl }) a
made_on version past (Unwind event thread method exception) f a = made_same past (Unwind event thread method exception) (record { no_made = refl; no_sizes = refl; as_many = refl }) a
made_on version past (Flush event deaths) f a = made_same past (Flush event deaths) (record { no_made = refl; no_sizes = refl; as_many = refl }) a
made_on version past (Death object time) f a = made_same past (Death object time) (record { no_made = refl; no_sizes = refl; as_many = refl }) a
made_on version past (Finish event how) f a = made_same past (Finish event how) (record { no_made = refl; no_sizes = refl; as_many = refl }) a

are_made : (version : ℕ) (past : List TraceLine) → AreFine version past → AreMade past (happening past)
are_made version [] f = record { many = refl; numbered = λ k lt. absurd (omega (arith, lt)); small = λ k d lt. absurd (omega (arith, lt)) }
are_made version (line ∷ past) f = made_on version past line f (are_made version past f.0)

-- .. as a timeline keeps them
pub makes_in_order : (version : ℕ) (lines : List TraceLine) (xs : List Item) → AreFine version (reverse lines) → InOrder lines xs → MakesInOrder xs
makes_in_order version lines xs f o =
    let a = are_made version (reverse lines) f in
    let l = lives version (reverse lines) f in
    let few = l.few in
    let lives_many = l.many in
    let same = sym (ap (λ (t : List Item). filter is_alloc t) (happening_is lines)) in
    let stay = allocs_stay version lines xs f o ∙ same in
    let made_is : made_objects xs ≡ made_objects (happening (reverse lines)) = sym (of_allocs object_made no_object xs) ∙ (ap (λ (t : List Item). made_objects t) stay ∙ of_allocs object_made no_object (happening (reverse lines))) in
    let sizes_is : sizes xs ≡ sizes (happening (reverse lines)) = sym (of_allocs size_made no_size_made xs) ∙ (ap (λ (t : List Item). sizes t) stay ∙ of_allocs size_made no_size_made (happening (reverse lines))) in
    let many = a.many in
    let long = ap (λ (t : List ℕ). length t) made_is in
    record {
      few = omega (arith, long, many, few, lives_many);
      numbered = λ k lt. ap (λ (t : List ℕ). get_or t k 0) made_is ∙ a.numbered k (subst (λ (t : List ℕ). k < length t) made_is lt);
      small = subst (λ (t : List ℕ). All (λ size. size ≤ 2 ^ 30) t) (sym sizes_is) a.small;
    }
