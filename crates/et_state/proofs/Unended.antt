-- The threads that have not ended, before and after one of them changes.
use Rattle.std.proofs.Common.{◌≡◌, ◌≢◌, ◌==◌, ℕ, zero, suc, ◌+◌, ◌<◌, Bool, true, false, not, cond, List, [], ◌∷◌, ◌++◌, length, get_or, set, filter, refl, sym, ap, ◌∙◌, subst, arith, append_assoc}
use Rattle.std.specs.Prelude.{if◌then◌else◌}
use Rattle.std.proofs.lemmas.Bool.{eq-eqb, ne_eqb}
use Rattle.std.proofs.lemmas.Grind.{common_steps}
use Rattle.std.proofs.lemmas.List.{get_or_default, length-set}
use Rattle.et_state.specs.Threads.{ThreadState, no_thread, unended_from, unended_of}
use Rattle.et_state.specs.MachineInside.{AreThreads}

-- the numbers but one
abbrev pub others : ℕ → List ℕ → List ℕ
others j ns = filter (λ (n : ℕ). not (n == j)) ns

-- a thread, read at another default
pub thread_default : (threads : List ThreadState) (t : ℕ) (x : ThreadState) → t < length threads → get_or threads t x ≡ get_or threads t no_thread
thread_default threads t x lt = get_or_default threads t x no_thread lt

-- one of them changes, and has ended where it had before
kept_from : (k : ℕ) (threads : List ThreadState) (t : ℕ) (x : ThreadState) → x.ended ≡ (get_or threads t no_thread).ended → unended_from k (set threads t x) ≡ unended_from k threads
kept_from k [] t x e = refl
kept_from k (y ∷ threads) zero x e = ap (λ (b : Bool). (if b then [] else k ∷ []) ++ unended_from (k + 1) threads) e
kept_from k (y ∷ threads) (suc t) x e = ap (λ (ns : List ℕ). (if y.ended then [] else k ∷ []) ++ ns) (kept_from (k + 1) threads t x e)

pub unended_kept : (threads : List ThreadState) (t : ℕ) (x : ThreadState) → x.ended ≡ (get_or threads t no_thread).ended → unended_of (set threads t x) ≡ unended_of threads
unended_kept threads t x e = kept_from 0 threads t x e

-- where there are no threads
pub unended_none : (threads : List ThreadState) → threads ≡ [] → unended_of threads ≡ []
unended_none threads e = ap (λ (ts : List ThreadState). unended_of ts) e

-- one more of them
started_from : (k : ℕ) (threads : List ThreadState) (x : ThreadState) → x.ended ≡ false → unended_from k (threads ++ x ∷ []) ≡ unended_from k threads ++ (length threads + k) ∷ []
started_from k [] x e =
    let same : k ≡ 0 + k = omega arith in
    ap (λ (b : Bool). (if b then [] else k ∷ []) ++ []) e ∙ ap (λ (n : ℕ). n ∷ []) same
started_from k (y ∷ threads) x e =
    let same : length threads + (k + 1) ≡ length (y ∷ threads) + k = omega arith in
    let more : unended_from (k + 1) (threads ++ x ∷ []) ≡ unended_from (k + 1) threads ++ (length (y ∷ threads) + k) ∷ [] = started_from (k + 1) threads x e ∙ ap (λ (n : ℕ). unended_from (k + 1) threads ++ n ∷ []) same in
    ap (λ (ns : List ℕ). (if y.ended then [] else k ∷ []) ++ ns) more ∙ sym (append_assoc (if y.ended then [] else k ∷ []) (unended_from (k + 1) threads) ((length (y ∷ threads) + k) ∷ []))

-- the first part says nothing: it shows `grind` the call to match
pub unended_started : (threads : List ThreadState) (x : ThreadState) → x.ended ≡ false → (threads ++ x ∷ [] ≡ threads ++ x ∷ []) × (unended_of (threads ++ x ∷ []) ≡ unended_of threads ++ length threads ∷ [])
unended_started threads x e =
    let same : length threads + 0 ≡ length threads = omega arith in
    (refl, started_from 0 threads x e ∙ ap (λ (n : ℕ). unended_of threads ++ n ∷ []) same)

-- what the calls of a machine cite that change a thread, and those that start one
pub ruleset stays = (common_steps, thread_default, unended_kept)

pub ruleset begins = (common_steps, unended_none, unended_started)

-- a number that is left out, and one that is not
left_out : (k : ℕ) (ended : Bool) (ns : List ℕ) → others k ((if ended then [] else k ∷ []) ++ ns) ≡ others k ns
left_out k true ns = refl
left_out k false ns = ap (λ (b : Bool). cond (not b) (k ∷ others k ns) (others k ns)) (eq-eqb k k refl)

left_in : (j k : ℕ) (ended : Bool) (ns : List ℕ) → k ≢ j → others j ((if ended then [] else k ∷ []) ++ ns) ≡ (if ended then [] else k ∷ []) ++ others j ns
left_in j k true ns ne = refl
left_in j k false ns ne = ap (λ (b : Bool). cond (not b) (k ∷ others j ns) (others j ns)) (ne_eqb k j ne)

-- a number below all of them leaves none out
later_stay : (j k : ℕ) (threads : List ThreadState) → j < k → others j (unended_from k threads) ≡ unended_from k threads
later_stay j k [] lt = refl
later_stay j k (y ∷ threads) lt =
    let ne : k ≢ j = omega (arith, lt) in
    let more : j < k + 1 = omega (arith, lt) in
    left_in j k y.ended (unended_from (k + 1) threads) ne ∙ ap (λ (ns : List ℕ). (if y.ended then [] else k ∷ []) ++ ns) (later_stay j (k + 1) threads more)

-- one of them ends
ended_from : (k j : ℕ) (threads : List ThreadState) (t : ℕ) (x : ThreadState) → j ≡ t + k → x.ended ≡ true → unended_from k (set threads t x) ≡ others j (unended_from k threads)
ended_from k j [] t x is e = refl
ended_from k j (y ∷ threads) zero x is e =
    let same : k ≡ j = omega (arith, is) in
    let after : k < k + 1 = omega arith in
    let here : unended_from k (x ∷ threads) ≡ unended_from (k + 1) threads = ap (λ (b : Bool). (if b then [] else k ∷ []) ++ unended_from (k + 1) threads) e in
    let gone : others k (unended_from k (y ∷ threads)) ≡ unended_from (k + 1) threads = left_out k y.ended (unended_from (k + 1) threads) ∙ later_stay k (k + 1) threads after in
    subst (λ (i : ℕ). unended_from k (x ∷ threads) ≡ others i (unended_from k (y ∷ threads))) same (here ∙ sym gone)
ended_from k j (y ∷ threads) (suc t) x is e =
    let next : j ≡ t + (k + 1) = omega (arith, is) in
    let ne : k ≢ j = omega (arith, is) in
    ap (λ (ns : List ℕ). (if y.ended then [] else k ∷ []) ++ ns) (ended_from (k + 1) j threads t x next e) ∙ sym (left_in j k y.ended (unended_from (k + 1) threads) ne)

pub unended_ended : (threads : List ThreadState) (j t : ℕ) (x : ThreadState) → j ≡ t → x.ended ≡ true → unended_of (set threads t x) ≡ others j (unended_of threads)
unended_ended threads j t x is e = let from : j ≡ t + 0 = omega (arith, is) in ended_from 0 j threads t x from e

pub threads_ended : (threads : List ThreadState) (unended left : List ℕ) (j t : ℕ) (x : ThreadState) → AreThreads threads unended → j ≡ t → x.ended ≡ true → left ≡ others j unended → AreThreads (set threads t x) left
threads_ended threads unended left j t x was is e says =
    let same : length (set threads t x) ≡ length threads = length-set threads t x in
    record {
      few = omega (arith, same, was.few);
      unended = says ∙ (ap (λ (ns : List ℕ). others j ns) was.unended ∙ sym (unended_ended threads j t x is e));
    }
