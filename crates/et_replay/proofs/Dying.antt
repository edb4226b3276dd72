-- The deaths of a trace, by what is kept of its objects.
use Rattle.std.proofs.Common.{◌≡◌, ◌≢◌, ℕ, zero, suc, ◌+◌, ◌-◌, ◌*◌, ◌<◌, ◌≤◌, Bool, true, false, cond, eqb, List, [], ◌∷◌, ◌++◌, length, get_or, Some, None, refl, sym, ap, subst, ◌∙◌, arith, append_assoc, length-append}
use Rattle.std.specs.Prelude.{reverse}
use Rattle.std.specs.List.{filter_map}
use Rattle.std.proofs.lemmas.Bool.Decides.{nat_tests}
use Rattle.std.proofs.lemmas.List.{append-nil, reverse-append, reverse-reverse}
use Rattle.std.proofs.lemmas.List.Elements.{filter_map-append, filter-append}
use Rattle.std.proofs.lemmas.List.Sorted.{list_any-IsPermutation, IsPermutation-reverse}
use Rattle.std.proofs.lemmas.Bool.{and_parts, not-true, or_parts, leb-true, eqb-true}
use Rattle.et_base.specs.declared.line.TraceLine.{TraceLine}
use Rattle.et_base.specs.declared.line.TraceLine.TheVariants.{Header, Class, Method, Alloc, Update, Enter, Exit, Unwind, Flush, Death, Finish}
use Rattle.et_text.specs.Rules.{objects, births, is_reported, is_timely, AreFine}
use Rattle.et_replay.specs.declared.item.Item.{Item}
use Rattle.et_replay.specs.declared.item.Item.TheVariants as items
use Rattle.et_replay.specs.Lives.{never, no_size, Sizes, with_time, died_by}
use Rattle.et_replay.specs.Parts.{item_event, death_of, deaths_from}
use Rattle.et_replay.specs.Timeline.{tells_at, dies_at, death_at}
use Rattle.et_replay.proofs.ByKey.{equal}
use Rattle.et_replay.proofs.Living.{follows, lives, times_push, told_after}

abbrev at : Sizes → ℕ → ℕ × ℕ
at sizes i = get_or sizes i no_size

-- A TIME IS TOLD
not_told_by : (past : List TraceLine) (line : TraceLine) (e o : ℕ) → (is_reported past o ≡ false → dies_at past e o ≡ false) → is_reported (line ∷ past) o ≡ false → dies_at (line ∷ past) e o ≡ false
not_told_by past (Header v n) e o ih h = ih h
not_told_by past (Class number name) e o ih h = ih h
not_told_by past (Method number class name descriptor) e o ih h = ih h
not_told_by past (Alloc event thread object class size len) e o ih h = ih h
not_told_by past (Update event thread object slot old new) e o ih h = ih h
not_told_by past (Enter event thread method receiver) e o ih h = ih h
not_told_by past (Exit event thread method) e o ih h = ih h
not_told_by past (Unwind event thread method exception) e o ih h = ih h
not_told_by past (Flush event deaths) e o ih h = ih h
not_told_by past (Death object time) e o ih h =
    let p = or_parts (eqb object o) (is_reported past o) h in
    let rest : dies_at past e o ≡ false = ih p.1 in
    let first : eqb object o ≡ false = p.0 in
    rw first rest
not_told_by past (Finish event how) e o ih h = ih h

not_told : (past : List TraceLine) (e o : ℕ) → is_reported past o ≡ false → dies_at past e o ≡ false
not_told [] e o h = refl
not_told (line ∷ past) e o h = not_told_by past line e o (not_told past e o) h

abbrev IsTold : List TraceLine → Sizes → ℕ → Type 0
IsTold past d e = (o : ℕ) → 1 ≤ o → eqb (at d (o - 1)).0 e ≡ dies_at past e o

told_died : (past : List TraceLine) (object time e : ℕ) (d : Sizes) → 1 ≤ object → object - 1 < length d → is_reported past object ≡ false → IsTold past d e → IsTold (Death object time ∷ past) (with_time d (object - 1) time) e
told_died past object time e d low lt once h = told_after (λ t. eqb t e) (λ k. dies_at past e k) object time d low lt (not_told past e object once) h

told_on : (version : ℕ) (past : List TraceLine) (line : TraceLine) (e : ℕ) → AreFine version (line ∷ past) → IsTold past (died_by past) e → IsTold (line ∷ past) (died_by (line ∷ past)) e
told_on version past (Header v n) e f h = h
told_on version past (Class number name) e f h = h
told_on version past (Method number class name descriptor) e f h = h
told_on version past (Alloc event thread object class size len) e f h = λ o ge. ap (λ (t : ℕ). eqb t e) (times_push (died_by past) size (o - 1)) ∙ h o ge
told_on version past (Update event thread object slot old new) e f h = h
told_on version past (Enter event thread method receiver) e f h = h
told_on version past (Exit event thread method) e f h = h
told_on version past (Unwind event thread method exception) e f h = h
told_on version past (Flush event deaths) e f h = h
told_on version past (Death object time) e f h =
    let g = follows past (Death object time) f.2 in
    let l = lives version past f.0 in
    let known : object ≤ objects past = leb-true object (objects past) g.known in
    let many = l.many in
    let as_many = l.as_many in
    let low : 1 ≤ object = (let r = f.1 in omega arith) in
    told_died past object time e (died_by past) low (omega (arith, known, many, as_many, low)) (not-true (is_reported past object) g.new) h
told_on version past (Finish event how) e f h = h

told : (version : ℕ) (past : List TraceLine) (e : ℕ) → e ≢ never → AreFine version past → IsTold past (died_by past) e
told version [] e ne f = λ o ge. (let n : eqb never e ≡ false = grind (arith, nat_tests) in n)
told version (line ∷ past) e ne f = told_on version past line e f (told version past e ne f.0)

-- THE DEATHS OF A TIME

-- of n objects behind this one, those that pass
abbrev here : (ℕ → Bool) → ℕ → ℕ → List Item
here p e o = cond (p o) (items.Death o e ∷ []) []

abbrev dying : (ℕ → Bool) → ℕ → ℕ → ℕ → List Item
dying p e k zero = []
dying p e k (suc n) = here p e (k + 1) ++ dying p e (k + 1) n

dying-push : (p : ℕ → Bool) (e k n : ℕ) → dying p e k (suc n) ≡ dying p e k n ++ here p e (k + n + 1)
dying-push p e k zero =
    let q : k + 1 ≡ k + 0 + 1 = omega arith in
    append-nil (here p e (k + 1)) ∙ ap (λ (j : ℕ). here p e j) q
dying-push p e k (suc n) =
    let q : k + 1 + n + 1 ≡ k + suc n + 1 = omega arith in
    ap (λ (t : List Item). here p e (k + 1) ++ t) (dying-push p e (k + 1) n ∙ ap (λ (j : ℕ). dying p e (k + 1) n ++ here p e j) q)
    ∙ sym (append_assoc (here p e (k + 1)) (dying p e (k + 1) n) (here p e (k + suc n + 1)))

moment_here : (o e t : ℕ) → eqb (item_event (items.Death o t)) (2 * e + 1) ≡ eqb t e
moment_here o e t = grind (arith, nat_tests)

equal_one : (o e : ℕ) (q : ℕ × ℕ) (b : Bool) → e ≢ never → eqb q.0 e ≡ b → equal item_event (2 * e + 1) (death_of o q) ≡ cond b (items.Death o e ∷ []) []
equal_one o e q true ne h =
    let is : q.0 ≡ e = eqb-true q.0 e h in
    let lives_not : eqb q.0 never ≡ false = grind (arith, nat_tests) in
    let yes : eqb (item_event (items.Death o q.0)) (2 * e + 1) ≡ true = moment_here o e q.0 ∙ h in
    rw (lives_not, yes) (ap (λ (t : ℕ). items.Death o t ∷ []) is)
equal_one o e q false ne h = elim (eqb q.0 never) as (λ v. equal item_event (2 * e + 1) (cond v [] (items.Death o q.0 ∷ [])) ≡ []) [
  | true ↦ refl
  | false ↦ let no : eqb (item_event (items.Death o q.0)) (2 * e + 1) ≡ false = moment_here o e q.0 ∙ h in rw no refl
]

equal_deaths : (p : ℕ → Bool) (e k : ℕ) (d : Sizes) → e ≢ never → ((i : ℕ) → i < length d → eqb (at d i).0 e ≡ p (k + i + 1)) → equal item_event (2 * e + 1) (deaths_from k d) ≡ dying p e k (length d)
equal_deaths p e k [] ne h = refl
equal_deaths p e k (q ∷ d) ne h =
    let first : eqb q.0 e ≡ p (k + 1) = (let z : k + 0 + 1 ≡ k + 1 = omega arith in subst (λ (j : ℕ). eqb q.0 e ≡ p j) z (h 0 (omega arith))) in
    let rest = equal_deaths p e (k + 1) d ne (λ i lt. (let z : k + suc i + 1 ≡ k + 1 + i + 1 = omega arith in subst (λ (j : ℕ). eqb (at d i).0 e ≡ p j) z (h (suc i) (omega (arith, lt))))) in
    filter-append (λ x. eqb (item_event x) (2 * e + 1)) (death_of (k + 1) q) (deaths_from (k + 1) d)
    ∙ (ap (λ (t : List Item). t ++ equal item_event (2 * e + 1) (deaths_from (k + 1) d)) (equal_one (k + 1) e q (p (k + 1)) ne first)
    ∙ ap (λ (t : List Item). here p e (k + 1) ++ t) rest)

length_push : (past : List TraceLine) (event : ℕ) → length (births past ++ event ∷ []) ≡ length (births past) + 1
length_push past event = length-append (births past) (event ∷ [])

-- the same by the lines
by_line : (lines past : List TraceLine) (line : TraceLine) (e : ℕ) → filter_map (death_at lines e) (reverse (line ∷ past)) ≡ filter_map (death_at lines e) (reverse past) ++ filter_map (death_at lines e) (line ∷ [])
by_line lines past line e = ap (λ (t : List TraceLine). filter_map (death_at lines e) t) (reverse-append (line ∷ []) past) ∙ filter_map-append (death_at lines e) (reverse past) (line ∷ [])

by_none : (lines past : List TraceLine) (line : TraceLine) (e : ℕ) (xs : List Item) → death_at lines e line ≡ None → filter_map (death_at lines e) (reverse past) ≡ xs → filter_map (death_at lines e) (reverse (line ∷ past)) ≡ xs
by_none lines past line e xs n ih = by_line lines past line e ∙ (let empty : filter_map (death_at lines e) (line ∷ []) ≡ [] = rw n refl in ap (λ (t : List Item). filter_map (death_at lines e) (reverse past) ++ t) empty ∙ (append-nil (filter_map (death_at lines e) (reverse past)) ∙ ih))

one_death : (lines : List TraceLine) (e event thread object class size len : ℕ) → filter_map (death_at lines e) (Alloc event thread object class size len ∷ []) ≡ here (dies_at lines e) e object
one_death lines e event thread object class size len = elim (dies_at lines e object) as (λ v. filter_map (λ (u : TraceLine). cond v (Some (items.Death object e)) None) (Alloc event thread object class size len ∷ []) ≡ cond v (items.Death object e ∷ []) []) [ true ↦ refl | false ↦ refl ]

deaths_on : (version : ℕ) (lines past : List TraceLine) (line : TraceLine) (e : ℕ) → AreFine version (line ∷ past) → filter_map (death_at lines e) (reverse past) ≡ dying (dies_at lines e) e 0 (objects past) → filter_map (death_at lines e) (reverse (line ∷ past)) ≡ dying (dies_at lines e) e 0 (objects (line ∷ past))
deaths_on version lines past (Header v n) e f ih = by_none lines past (Header v n) e _ refl ih
deaths_on version lines past (Class number name) e f ih = by_none lines past (Class number name) e _ refl ih
deaths_on version lines past (Method number class name descriptor) e f ih = by_none lines past (Method number class name descriptor) e _ refl ih
deaths_on version lines past (Alloc event thread object class size len) e f ih =
    let g = follows past (Alloc event thread object class size len) f.2 in
    let o = and_parts (is_timely past event) (eqb object (objects past + 1)) g.ordered in
    let next : object ≡ 0 + objects past + 1 = (let n = eqb-true object (objects past + 1) o.1 in omega arith) in
    let many : suc (objects past) ≡ objects (Alloc event thread object class size len ∷ past) = (let l = length_push past event in omega (arith, l)) in
    by_line lines past (Alloc event thread object class size len) e
    ∙ (ap (λ (t : List Item). t ++ filter_map (death_at lines e) (Alloc event thread object class size len ∷ [])) ih
    ∙ (ap (λ (t : List Item). dying (dies_at lines e) e 0 (objects past) ++ t) (one_death lines e event thread object class size len ∙ ap (λ (j : ℕ). here (dies_at lines e) e j) next)
    ∙ (sym (dying-push (dies_at lines e) e 0 (objects past)) ∙ ap (λ (n : ℕ). dying (dies_at lines e) e 0 n) many)))
deaths_on version lines past (Update event thread object slot old new) e f ih = by_none lines past (Update event thread object slot old new) e _ refl ih
deaths_on version lines past (Enter event thread method receiver) e f ih = by_none lines past (Enter event thread method receiver) e _ refl ih
deaths_on version lines past (Exit event thread method) e f ih = by_none lines past (Exit event thread method) e _ refl ih
deaths_on version lines past (Unwind event thread method exception) e f ih = by_none lines past (Unwind event thread method exception) e _ refl ih
deaths_on version lines past (Flush event deaths) e f ih = by_none lines past (Flush event deaths) e _ refl ih
deaths_on version lines past (Death object time) e f ih = by_none lines past (Death object time) e _ refl ih
deaths_on version lines past (Finish event how) e f ih = by_none lines past (Finish event how) e _ refl ih

deaths_are : (version : ℕ) (lines past : List TraceLine) (e : ℕ) → AreFine version past → filter_map (death_at lines e) (reverse past) ≡ dying (dies_at lines e) e 0 (objects past)
deaths_are version lines [] e f = refl
deaths_are version lines (line ∷ past) e f = deaths_on version lines past line e f (deaths_are version lines past e f.0)

-- the deaths of a time are those that the lines tell
pub deaths_told : (version : ℕ) (lines : List TraceLine) (e : ℕ) → AreFine version (reverse lines) → e ≢ never → equal item_event (2 * e + 1) (deaths_from 0 (died_by (reverse lines))) ≡ filter_map (death_at lines e) lines
deaths_told version lines e f ne =
    let l = lives version (reverse lines) f in
    let many = l.many in
    let as_many = l.as_many in
    let count : length (died_by (reverse lines)) ≡ objects (reverse lines) = omega (arith, many, as_many) in
    let tests = told version (reverse lines) e ne f in
    equal_deaths (dies_at lines e) e 0 (died_by (reverse lines)) ne
    (λ i lt. (let z : 0 + i + 1 - 1 ≡ i = omega arith in subst (λ (j : ℕ). eqb (at (died_by (reverse lines)) j).0 e ≡ dies_at (reverse lines) e (0 + i + 1)) z (tests (0 + i + 1) (omega arith))) ∙ sym (list_any-IsPermutation (tells_at e (0 + i + 1)) lines (reverse lines) (IsPermutation-reverse lines)))
    ∙ (ap (λ (n : ℕ). dying (dies_at lines e) e 0 n) count
    ∙ (sym (deaths_are version lines (reverse lines) e f) ∙ ap (λ (t : List TraceLine). filter_map (death_at lines e) t) (reverse-reverse lines)))
