-- In a good list each event is at most that of its last line, and so is each event of its curve.
use Rattle.std.proofs.Common.{◌≡◌, ℕ, ◌≤◌, ◌==◌, ◌&&◌, Bool, true, false, not, List, [], ◌∷◌, ◌++◌, Option, Some, None, refl, sym, ◌∙◌, subst, arith, Contains, nat_eq}
use Rattle.std.specs.Prelude.{All, if◌then◌else◌, filter_map, reverse}
use Rattle.std.specs.List.{cons_option}
use Rattle.std.proofs.lemmas.Bool.{and_parts, eqb-true, false≢true}
use Rattle.std.proofs.lemmas.List.{reverse-append, reverse-reverse}
use Rattle.std.proofs.lemmas.List.Elements.{All-nil, All-cons, All-head, All-tail, All-contains, All-weaker}
use Rattle.std.proofs.lemmas.List.Kept.{Contains-from_dedup}
use Rattle.std.proofs.lemmas.List.Sorted.{All-permutation, IsPermutation-reverse}
use Rattle.std.proofs.lemmas.Option.{none-some, same_Some}
use Rattle.et_replay.proofs.Rising.{timely}
use Rattle.et_base.specs.declared.line.TraceLine.{TraceLine}
use Rattle.et_base.specs.declared.line.TraceLine.TheVariants.{Header, Class, Method, Alloc, Update, Enter, Exit, Unwind, Flush, Death, Finish}
use Rattle.et_text.specs.Rules.{AreFine, IsGood, after, awaited, has_ended, is_timely, keeps_order, latest, next_fault, order, standing_flush, stands_at}
use Rattle.et_replay.specs.Curve.{curve_events, happens_at}

-- the event of the line, if it has one, is at most this one
abbrev IsBy : ℕ → TraceLine → Type 0
IsBy k l = (n : ℕ) → happens_at l ≡ Some n → n ≤ k

-- WHAT THE RULES SAY

order_kept : (past : List TraceLine) (l : TraceLine) → next_fault past l ≡ None → keeps_order past l ≡ true
order_kept past l h = by (has_ended past) (keeps_order past l) _ h
  where
    some_none : (n : ℕ) → Some n ≡ None → ⊥
    some_none n e = cc

    by : (a b : Bool) (rest : Option ℕ) → (if a then Some after else (if not b then Some order else rest)) ≡ None → b ≡ true
    by true b rest e = absurd (some_none after e)
    by false true rest e = refl
    by false false rest e = absurd (some_none order e)

rises : (past : List TraceLine) (l : TraceLine) → keeps_order past l ≡ true → latest past ≤ latest (l ∷ past)
rises past (Header version n) h = omega arith
rises past (Class number name) h = omega arith
rises past (Method number class name descriptor) h = omega arith
rises past (Alloc event thread object class size length) h = timely past event (and_parts (is_timely past event) _ h).0
rises past (Update event thread object slot old new) h = timely past event h
rises past (Enter event thread method receiver) h = timely past event h
rises past (Exit event thread method) h = timely past event h
rises past (Unwind event thread method exception) h = timely past event h
rises past (Flush event deaths) h = timely past event h
rises past (Death object time) h = omega arith
rises past (Finish event how) h = omega arith

-- an event that is this one
is_at : (event n : ℕ) → Some event ≡ Some n → n ≤ event
is_at event n e = let same = same_Some event n e in omega (arith, same)

own : (past : List TraceLine) (l : TraceLine) → IsBy (latest (l ∷ past)) l
own past (Header version k) n e = absurd (none-some n e)
own past (Class number name) n e = absurd (none-some n e)
own past (Method number class name descriptor) n e = absurd (none-some n e)
own past (Alloc event thread object class size length) n e = is_at event n e
own past (Update event thread object slot old new) n e = is_at event n e
own past (Enter event thread method receiver) n e = is_at event n e
own past (Exit event thread method) n e = is_at event n e
own past (Unwind event thread method exception) n e = is_at event n e
own past (Flush event deaths) n e = absurd (none-some n e)
own past (Death object time) n e = absurd (none-some n e)
own past (Finish event how) n e = absurd (none-some n e)

all_by : (version : ℕ) (past : List TraceLine) → AreFine version past → All (IsBy (latest past)) past
all_by version [] h = All-nil (IsBy 0)
all_by version (l ∷ past) h =
    let up = rises past l (order_kept past l h.2) in
    All-cons (IsBy (latest (l ∷ past))) l past (own past l) (All-weaker (IsBy (latest past)) (IsBy (latest (l ∷ past))) (λ x by n e. let le = by n e in omega (arith, le, up)) past (all_by version past h.0))

-- the flush that stands last is of the latest event
standing_is : (past : List TraceLine) (f : ℕ) → standing_flush past ≡ Some f → latest past ≡ f
standing_is [] f e = absurd (none-some f e)
standing_is (Header version n ∷ past) f e = absurd (none-some f e)
standing_is (Class number name ∷ past) f e = absurd (none-some f e)
standing_is (Method number class name descriptor ∷ past) f e = absurd (none-some f e)
standing_is (Alloc event thread object class size length ∷ past) f e = absurd (none-some f e)
standing_is (Update event thread object slot old new ∷ past) f e = absurd (none-some f e)
standing_is (Enter event thread method receiver ∷ past) f e = absurd (none-some f e)
standing_is (Exit event thread method ∷ past) f e = absurd (none-some f e)
standing_is (Unwind event thread method exception ∷ past) f e = absurd (none-some f e)
standing_is (Flush event deaths ∷ past) f e = same_Some event f e
standing_is (Death object time ∷ past) f e = standing_is past f e
standing_is (Finish event how ∷ past) f e = absurd (none-some f e)

last_by : (past : List TraceLine) (last : ℕ) (o : Option ℕ) → standing_flush past ≡ o → stands_at o last ≡ true → latest past ≡ last
last_by past last None e h = absurd (false≢true h)
last_by past last (Some f) e h = standing_is past f e ∙ eqb-true f last h

-- LISTS

good_by : (version : ℕ) (xs : List TraceLine) (last how : ℕ) → IsGood version (xs ++ Finish last how ∷ []) → All (IsBy last) (xs ++ Finish last how ∷ [])
good_by version xs last how good =
    let trace : List TraceLine = xs ++ Finish last how ∷ [] in
    let turned : reverse trace ≡ Finish last how ∷ reverse xs = reverse-append xs (Finish last how ∷ []) in
    let fine : AreFine version (Finish last how ∷ reverse xs) = subst (λ (ls : List TraceLine). AreFine version ls) turned good.fine in
    let kept : (awaited (reverse xs) == 0 && stands_at (standing_flush (reverse xs)) last) ≡ true = order_kept (reverse xs) (Finish last how) fine.2 in
    let is : latest (reverse xs) ≡ last = last_by (reverse xs) last (standing_flush (reverse xs)) refl (and_parts (awaited (reverse xs) == 0) (stands_at (standing_flush (reverse xs)) last) kept).1 in
    let each : All (IsBy last) (Finish last how ∷ reverse xs) = subst (λ (k : ℕ). All (IsBy k) (Finish last how ∷ reverse xs)) is (all_by version (Finish last how ∷ reverse xs) fine) in
    let back : All (IsBy last) (reverse (reverse trace)) =
    All-permutation (IsBy last) (reverse trace) (reverse (reverse trace)) (IsPermutation-reverse (reverse trace)) (subst (λ (ls : List TraceLine). All (IsBy last) ls) (sym turned) each) in
    subst (λ (ls : List TraceLine). All (IsBy last) ls) (reverse-reverse trace) back

one_more : (k : ℕ) (o : Option ℕ) (ns : List ℕ) → ((n : ℕ) → o ≡ Some n → n ≤ k) → All (λ n. n ≤ k) ns → All (λ n. n ≤ k) (cons_option o ns)
one_more k None ns h rest = rest
one_more k (Some n) ns h rest = All-cons (λ n. n ≤ k) n ns (h n refl) rest

events_by : (k : ℕ) (ls : List TraceLine) → All (IsBy k) ls → All (λ n. n ≤ k) (filter_map happens_at ls)
events_by k [] h = All-nil (λ n. n ≤ k)
events_by k (l ∷ ls) h = one_more k (happens_at l) (filter_map happens_at ls) (All-head (IsBy k) l ls h) (events_by k ls (All-tail (IsBy k) l ls h))

pub curve_within : (version : ℕ) (xs : List TraceLine) (last how e : ℕ) → IsGood version (xs ++ Finish last how ∷ []) → Contains (curve_events (xs ++ Finish last how ∷ [])) e → e ≤ last
curve_within version xs last how e good has =
    let trace : List TraceLine = xs ++ Finish last how ∷ [] in
    All-contains (λ n. n ≤ last) (filter_map happens_at trace) e (events_by last trace (good_by version xs last how good)) (Contains-from_dedup nat_eq (filter_map happens_at trace) e has)
