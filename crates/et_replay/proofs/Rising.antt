-- The events of a trace never fall.
use Rattle.std.proofs.Common.{◌≡◌, ℕ, ◌+◌, ◌-◌, ◌<◌, ◌≤◌, Bool, true, false, eqb, ltb, leb, ◌&&◌, List, [], ◌∷◌, ◌++◌, length, get_or, Some, None, refl, sym, ap, subst, ◌∙◌, arith}
use Rattle.std.specs.Prelude.{reverse}
use Rattle.std.specs.List.{filter_map, AllPairs}
use Rattle.std.specs.List.Sorted.{IsSorted}
use Rattle.std.specs.Ordering.{nat_cmp}
use Rattle.std.proofs.lemmas.Bool.Decides.{nat_tests}
use Rattle.std.proofs.lemmas.List.{append-nil, reverse-append, reverse-reverse}
use Rattle.std.proofs.lemmas.List.Elements.{filter_map-append}
use Rattle.std.proofs.lemmas.List.Kept.{IsSortedBy-push, AllPairs-from_increasing}
use Rattle.std.proofs.lemmas.Map.Keys.{IsStrictlyIncreasing-dedup}
use Rattle.et_base.specs.declared.line.TraceLine.{TraceLine}
use Rattle.et_base.specs.declared.line.TraceLine.TheVariants.{Header, Class, Method, Alloc, Update, Enter, Exit, Unwind, Flush, Death, Finish}
use Rattle.et_text.specs.Rules.{is_open, is_timely, is_before, misses_no_flush, interval, newest_flush, objects, latest, AreFine}
use Rattle.et_replay.specs.Curve.{happens_at, curve_events}
use Rattle.et_replay.proofs.Living.{follows}
use Rattle.std.proofs.Math.Seq.{get_or-append_seam}
use Rattle.std.proofs.Common.{length-append, cond, take}
use Rattle.std.proofs.Common.{◌^◌}
use Rattle.std.specs.Prelude.{All}
use Rattle.std.proofs.lemmas.List.Elements.{All-push}
use Rattle.std.proofs.lemmas.List.Filters.{All-dedup}
use Rattle.std.proofs.lemmas.List.{take_more}
use Rattle.std.specs.Ordering.{is_lt}
use Rattle.std.specs.declared.cmp.Ordering.TheVariants.{Equal, Greater}
use Rattle.std.proofs.lemmas.Bool.{and_parts, leb-true}

tie : (b : Bool) → is_lt (cond b Equal Greater) ≡ false
tie true = refl
tie false = refl

not_less : (x y : ℕ) → ltb x y ≡ false → is_lt (nat_cmp x y) ≡ false
not_less x y n = rw n (tie (eqb x y))

second_true : (a b c d : Bool) → (a && b && c && d) ≡ true → b ≡ true
second_true true true c d e = refl
second_true true false c d e = absurd cc
second_true false b c d e = absurd cc

pub timely : (past : List TraceLine) (event : ℕ) → is_timely past event ≡ true → latest past ≤ event
timely past event e = leb-true (latest past) event (second_true (is_open past) (leb (latest past) event) (is_before (newest_flush past) event) (misses_no_flush (interval past) (newest_flush past) event) e)

-- what a line does to the event of the newest line
pub data Moves (past : List TraceLine) (line : TraceLine) : Type 0 where
  Happens : (e : ℕ) → happens_at line ≡ Some e → latest (line ∷ past) ≡ e → latest past ≤ e → e ≤ 2 ^ 40 → Moves past line
  Rests : happens_at line ≡ None → latest past ≤ latest (line ∷ past) → Moves past line

pub moves : (version : ℕ) (past : List TraceLine) (line : TraceLine) → AreFine version (line ∷ past) → Moves past line
moves version past (Header v n) f = Rests refl (omega arith)
moves version past (Class number name) f = Rests refl (omega arith)
moves version past (Method number class name descriptor) f = Rests refl (omega arith)
moves version past (Alloc event thread object class size len) f = Happens event refl refl (timely past event (and_parts (is_timely past event) (eqb object (objects past + 1)) (follows past (Alloc event thread object class size len) f.2).ordered).0) (let r = f.1 in omega arith)
moves version past (Update event thread object slot old new) f = Happens event refl refl (timely past event (follows past (Update event thread object slot old new) f.2).ordered) (let r = f.1 in omega arith)
moves version past (Enter event thread method receiver) f = Happens event refl refl (timely past event (follows past (Enter event thread method receiver) f.2).ordered) (let r = f.1 in omega arith)
moves version past (Exit event thread method) f = Happens event refl refl (timely past event (follows past (Exit event thread method) f.2).ordered) (let r = f.1 in omega arith)
moves version past (Unwind event thread method exception) f = Happens event refl refl (timely past event (follows past (Unwind event thread method exception) f.2).ordered) (let r = f.1 in omega arith)
moves version past (Flush event deaths) f = Rests refl (timely past event (follows past (Flush event deaths) f.2).ordered)
moves version past (Death object time) f = Rests refl (omega arith)
moves version past (Finish event how) f = Rests refl (omega arith)

abbrev events : List TraceLine → List ℕ
events past = filter_map happens_at (reverse past)

one_more : (past : List TraceLine) (line : TraceLine) → events (line ∷ past) ≡ events past ++ filter_map happens_at (line ∷ [])
one_more past line = ap (λ (t : List TraceLine). filter_map happens_at t) (reverse-append (line ∷ []) past) ∙ filter_map-append happens_at (reverse past) (line ∷ [])

some_more : (past : List TraceLine) (line : TraceLine) (e : ℕ) → happens_at line ≡ Some e → events (line ∷ past) ≡ events past ++ e ∷ []
some_more past line e h = one_more past line ∙ (rw h refl)

no_more : (past : List TraceLine) (line : TraceLine) → happens_at line ≡ None → events (line ∷ past) ≡ events past
no_more past line h = one_more past line ∙ (let n : filter_map happens_at (line ∷ []) ≡ [] = rw h refl in ap (λ (t : List ℕ). events past ++ t) n ∙ append-nil (events past))

record RiseTo (xs : List ℕ) (most : ℕ) : Type 0 where
  pub sorted : IsSorted nat_cmp xs
  pub last : (d : ℕ) → 0 < length xs → get_or xs (length xs - 1) d ≤ most
  pub low : All (λ (x : ℕ). x ≤ 2 ^ 40) xs

rise_push : (xs : List ℕ) (most e : ℕ) → most ≤ e → e ≤ 2 ^ 40 → RiseTo xs most → RiseTo (xs ++ e ∷ []) e
rise_push xs most e le fits r = record {
  sorted = IsSortedBy-push (λ (x y : ℕ). is_lt (nat_cmp x y)) xs e r.sorted (λ d lt. (let l = r.last d lt in let n : ltb e (get_or xs (length xs - 1) d) ≡ false = grind (arith, nat_tests) in not_less e (get_or xs (length xs - 1) d) n));
  last = λ d lt. (let place : length (xs ++ e ∷ []) - 1 ≡ length xs = omega (arith, length-append xs (e ∷ [])) in
      let is : get_or (xs ++ e ∷ []) (length (xs ++ e ∷ []) - 1) d ≡ e = ap (λ (k : ℕ). get_or (xs ++ e ∷ []) k d) place ∙ get_or-append_seam xs e [] d in omega (arith, is));
  low = All-push (λ (x : ℕ). x ≤ 2 ^ 40) xs e r.low fits;
}

rise_on : (past : List TraceLine) (line : TraceLine) → Moves past line → RiseTo (events past) (latest past) → RiseTo (events (line ∷ past)) (latest (line ∷ past))
rise_on past line (Happens e h l le fits) r =
    subst (λ (m : ℕ). RiseTo (events (line ∷ past)) m) (sym l) (subst (λ (t : List ℕ). RiseTo t e) (sym (some_more past line e h)) (rise_push (events past) (latest past) e le fits r))
rise_on past line (Rests h le) r =
    subst (λ (t : List ℕ). RiseTo t (latest (line ∷ past))) (sym (no_more past line h)) (record { sorted = r.sorted; last = λ d lt. (let l = r.last d lt in omega (arith, l, le)); low = r.low })

rise : (version : ℕ) (past : List TraceLine) → AreFine version past → RiseTo (events past) (latest past)
rise version [] f = record { sorted = λ k d low lt. absurd (omega (arith, lt)); last = λ d lt. absurd (omega (arith, lt)); low = λ k d lt. absurd (omega (arith, lt)) }
rise version (line ∷ past) f = rise_on past line (moves version past line f) (rise version past f.0)

-- the events of the curve are low
pub events_low : (version : ℕ) (lines : List TraceLine) → AreFine version (reverse lines) → All (λ (x : ℕ). x ≤ 2 ^ 40) (curve_events lines)
events_low version lines f =
    let r = rise version (reverse lines) f in
    let same : events (reverse lines) ≡ filter_map happens_at lines = ap (λ (t : List TraceLine). filter_map happens_at t) (reverse-reverse lines) in
    All-dedup eqb (λ (x : ℕ). x ≤ 2 ^ 40) (filter_map happens_at lines) (subst (λ (t : List ℕ). All (λ (x : ℕ). x ≤ 2 ^ 40) t) same r.low)

-- .. and rise
pub events_rise : (version : ℕ) (lines : List TraceLine) → AreFine version (reverse lines) → AllPairs (λ (x y : ℕ). x < y) (curve_events lines)
events_rise version lines f =
    let r = rise version (reverse lines) f in
    let same : events (reverse lines) ≡ filter_map happens_at lines = ap (λ (t : List TraceLine). filter_map happens_at t) (reverse-reverse lines) in
    AllPairs-from_increasing (curve_events lines) (IsStrictlyIncreasing-dedup (filter_map happens_at lines) (subst (λ (t : List ℕ). IsSorted nat_cmp t) same r.sorted))

pub more_events : (lines : List TraceLine) (i : ℕ) (d : TraceLine) → i < length lines → filter_map happens_at (take (i + 1) lines) ≡ filter_map happens_at (take i lines) ++ filter_map happens_at (get_or lines i d ∷ [])
more_events lines i d lt = ap (λ (t : List TraceLine). filter_map happens_at t) (take_more lines i d lt) ∙ filter_map-append happens_at (take i lines) (get_or lines i d ∷ [])
