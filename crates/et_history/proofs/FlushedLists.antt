-- A flush keeps waiting lists apart and marks what it puts there.
use Rattle.std.proofs.Common.{◌≡◌, ℕ, zero, suc, ◌+◌, ◌≤◌, ◌&&◌, Bool, true, false, List, [], ◌∷◌, ◌++◌, length, Option, Some, None, Contains, refl, sym, ◌∙◌, ap, subst, inl, inr, arith}
use Rattle.std.specs.Prelude.{◌||◌, ◌==◌, not, if◌then◌else◌, map}
use Rattle.std.specs.Option.{is_some, option_map_or}
use Rattle.std.proofs.lemmas.Bool.{false≢true, and_parts, and_from, eqb-true, eq-eqb, not-true, false_from_ne_true}
use Rattle.std.proofs.lemmas.List.Elements.{Contains-append_left, Contains-append_right, Contains-append_cases}
use Rattle.std.proofs.lemmas.Option.{same_Some}
use Rattle.et_base.proofs.Lists.{Contains-none, Contains-here}
use Rattle.et_heap.specs.Links.{StandOnce}
use Rattle.et_heap.specs.Objects.{ObjectState, Objects, IsHeld, is_there, at, found, object_at}
use Rattle.et_heap.specs.Remaining.{is_cleared, left_place}
use Rattle.et_state.specs.Enqueuing.{is_free_to_wait, has_queue, has_this_queue, newcomers_from, newcomers, begins_to_wait, joined_place, flushed_heap}
use Rattle.et_state.specs.Past.{IsPast, first_of, reporting}
use Rattle.et_state.proofs.Enqueued.{flushed_at, one_of}
use Rattle.et_history.specs.Whole.{cleared}
use Rattle.et_history.proofs.Freed.{at_cleared}
use Rattle.et_history.proofs.steps.WaitingLists.{lined_same, Coming, lined_more, seen, AreLined}

-- WHO COMES TO A LIST

-- the reference at a place comes to the list of q
abbrev comes : (ℕ → Bool) → ℕ → ℕ → Option ObjectState → Bool
comes here q r x = is_free_to_wait here (here r) x && has_this_queue q x

comer_from : (here : ℕ → Bool) (q k : ℕ) (xs : Objects) (r : ℕ) → Contains (newcomers_from here q k xs) r → (j : ℕ) × (r ≡ k + j) × (comes here q r (at xs j) ≡ true)
comer_from here q k [] r c = absurd (Contains-none r c)
comer_from here q k (x ∷ xs) r c =
    elim (Contains-append_cases (if comes here q k x then k ∷ [] else []) (newcomers_from here q (k + 1) xs) r c) [
      | inl d ↦ let one = one_of (comes here q k x) k r d in (0, (let e = one.0 in omega arith), subst (λ (n : ℕ). comes here q n x ≡ true) one.0 one.1)
      | inr d ↦ let h = comer_from here q (k + 1) xs r d in (suc h.0, (let e = h.1 in omega arith), h.2)
    ]

pub comer : (here : ℕ → Bool) (h : Objects) (q r : ℕ) → Contains (newcomers here h q) r → comes here q r (at h r) ≡ true
comer here h q r c =
    let is = comer_from here q 0 h r c in
    let e : is.0 ≡ r = let f = is.1 in omega arith in
    subst (λ (j : ℕ). comes here q r (at h j) ≡ true) e is.2

if_comes : (b : Bool) (k : ℕ) → b ≡ true → Contains (if b then k ∷ [] else []) k
if_comes true k e = Contains-here k []
if_comes false k e = absurd (false≢true e)

from_comer : (here : ℕ → Bool) (q k : ℕ) (xs : Objects) (j : ℕ) → comes here q (k + j) (at xs j) ≡ true → Contains (newcomers_from here q k xs) (k + j)
from_comer here q k [] j e = absurd (false≢true e)
from_comer here q k (x ∷ xs) zero e =
    let same : k + 0 ≡ k = omega arith in
    let now : comes here q k x ≡ true = subst (λ (n : ℕ). comes here q n x ≡ true) same e in
    subst (λ (n : ℕ). Contains (newcomers_from here q k (x ∷ xs)) n) (sym same) (Contains-append_left (if comes here q k x then k ∷ [] else []) (newcomers_from here q (k + 1) xs) k (if_comes (comes here q k x) k now))
from_comer here q k (x ∷ xs) (suc j) e =
    let same : k + suc j ≡ k + 1 + j = omega arith in
    let now : comes here q (k + 1 + j) (at xs j) ≡ true = subst (λ (n : ℕ). comes here q n (at xs j) ≡ true) same e in
    subst (λ (n : ℕ). Contains (newcomers_from here q k (x ∷ xs)) n) (sym same)
    (Contains-append_right (if comes here q k x then k ∷ [] else []) (newcomers_from here q (k + 1) xs) (k + 1 + j) (from_comer here q (k + 1) xs j now))

at_comer : (here : ℕ → Bool) (h : Objects) (q r : ℕ) → comes here q r (at h r) ≡ true → Contains (newcomers here h q) r
at_comer here h q r e =
    let same : 0 + r ≡ r = omega arith in
    subst (λ (n : ℕ). Contains (newcomers here h q) n) same (from_comer here q 0 h r (subst (λ (n : ℕ). comes here q n (at h r) ≡ true) (sym same) e))

one_first : (b : Bool) (k : ℕ) (rs : List ℕ) → (Contains rs k → ⊥) → StandOnce rs → StandOnce ((if b then k ∷ [] else []) ++ rs)
one_first true k rs out once = (out, once)
one_first false k rs out once = once

come_once : (here : ℕ → Bool) (q k : ℕ) (xs : Objects) → StandOnce (newcomers_from here q k xs)
come_once here q k [] = tt
come_once here q k (x ∷ xs) =
    one_first (comes here q k x) k (newcomers_from here q (k + 1) xs) (λ c. let is = comer_from here q (k + 1) xs k c in let e = is.1 in absurd (omega arith)) (come_once here q (k + 1) xs)

-- WHAT IT MEANS TO COME

pub record Comer (here : ℕ → Bool) (q r : ℕ) (x : Option ObjectState) : Type 0 where
  pub there : is_there x
  pub stays : here r ≡ true
  pub queue : (found x).queue ≡ Some q
  pub free : (found x).waits ≡ false

this_queue : (q : ℕ) (o : Option ℕ) → option_map_or (λ u. u == q) o false ≡ true → o ≡ Some q
this_queue q None e = absurd (false≢true e)
this_queue q (Some u) e = ap (λ (n : ℕ). Some n) (eqb-true u q e)

is_comer : (here : ℕ → Bool) (q r : ℕ) (x : Option ObjectState) → comes here q r x ≡ true → Comer here q r x
is_comer here q r None e = absurd (false≢true e)
is_comer here q r (Some x) e =
    let parts = and_parts (is_free_to_wait here (here r) (Some x)) (has_this_queue q (Some x)) e in
    let free = and_parts (here r && is_cleared here x.referent) (not x.waits) parts.0 in
    record { there = tt; stays = (and_parts (here r) (is_cleared here x.referent) free.0).0; queue = this_queue q x.queue parts.1; free = not-true x.waits free.1 }

-- what begins to wait has a queue, and comes to its list
begins_some : (here : ℕ → Bool) (r : ℕ) (x : Option ObjectState) → (is_free_to_wait here (here r) x && has_queue x) ≡ true → (q : ℕ) × (comes here q r x ≡ true)
begins_some here r None e = absurd (false≢true e)
begins_some here r (Some x) e = by x.queue refl
  where
    free : is_free_to_wait here (here r) (Some x) ≡ true
    free = (and_parts (is_free_to_wait here (here r) (Some x)) (is_some x.queue) e).0

    some : is_some x.queue ≡ true
    some = (and_parts (is_free_to_wait here (here r) (Some x)) (is_some x.queue) e).1

    by : (o : Option ℕ) → x.queue ≡ o → (q : ℕ) × (comes here q r (Some x) ≡ true)
    by None is = absurd (false≢true (sym (ap (λ (o : Option ℕ). is_some o) is) ∙ some))
    by (Some q) is = (
      q,
      and_from (is_free_to_wait here (here r) (Some x)) (has_this_queue q (Some x)) free
          (ap (λ (o : Option ℕ). option_map_or (λ u. u == q) o false) is ∙ eq-eqb q q refl),
    )

-- .. and what comes begins to wait
comes_begins : (here : ℕ → Bool) (q r : ℕ) (x : Option ObjectState) → comes here q r x ≡ true → (is_free_to_wait here (here r) x && has_queue x) ≡ true
comes_begins here q r None e = absurd (false≢true e)
comes_begins here q r (Some x) e =
    let parts = and_parts (is_free_to_wait here (here r) (Some x)) (has_this_queue q (Some x)) e in
    and_from (is_free_to_wait here (here r) (Some x)) (is_some x.queue) parts.0 (ap (λ (o : Option ℕ). is_some o) (this_queue q x.queue parts.1))

begins_here : (here : ℕ → Bool) (b : Bool) (x : Option ObjectState) → (is_free_to_wait here b x && has_queue x) ≡ true → is_there x × (b ≡ true)
begins_here here b None e = absurd (false≢true e)
begins_here here b (Some x) e =
    let free = (and_parts (is_free_to_wait here b (Some x)) (is_some x.queue) e).0 in
    (tt, (and_parts b (is_cleared here x.referent) (and_parts (b && is_cleared here x.referent) (not x.waits) free).0).0)

seen_free : (x y : Option ObjectState) → is_there x → (found x).waits ≡ false → (found (first_of x y)).waits ≡ false
seen_free None y there e = absurd there
seen_free (Some x) y there e = e

pub coming : (here : ℕ → Bool) (h rs : Objects) → Coming (λ r. (seen h rs r).waits) (newcomers here h) (begins_to_wait here h)
coming here h rs = record {
  free = λ q r c. let is = is_comer here q r (at h r) (comer here h q r c) in seen_free (at h r) (at rs r) is.there is.free;
  begun = λ q r c. comes_begins here q r (at h r) (comer here h q r c);
  into = λ r e. let to = begins_some here r (at h r) e in (to.0, at_comer here h to.0 r to.1);
  one = λ q u r c d.
      let a = is_comer here q r (at h r) (comer here h q r c) in
      let b = is_comer here u r (at h r) (comer here h u r d) in
      same_Some q u (sym a.queue ∙ b.queue);
  once = λ q. come_once here q 0 h;
}

-- WHAT STANDS AT A NUMBER after the flush

abbrev left_over : Bool → Option ObjectState → Option ObjectState
left_over b x = if b then None else x

none_either : (b : Bool) → left_over b None ≡ None
none_either true = refl
none_either false = refl

reporting_at : (here : ℕ → Bool) (k : ℕ) (xs rs : Objects) (o : ℕ) → length rs ≤ length xs → at (reporting here k xs rs) o ≡ first_of (at rs o) (left_over (here (k + o)) (at xs o))
reporting_at here k [] [] o le = sym (none_either (here (k + o)))
reporting_at here k [] (r ∷ rs) o le = absurd (omega (arith, le))
reporting_at here k (x ∷ xs) [] zero le = ap (λ (i : ℕ). left_over (here i) x) (let same : k ≡ k + 0 = omega arith in same)
reporting_at here k (x ∷ xs) [] (suc o) le =
    reporting_at here (k + 1) xs [] o (omega arith) ∙ ap (λ (i : ℕ). left_over (here i) (at xs o)) (let same : k + 1 + o ≡ k + suc o = omega arith in same)
reporting_at here k (x ∷ xs) (r ∷ rs) zero le = ap (λ (i : ℕ). first_of r (left_over (here i) x)) (let same : k ≡ k + 0 = omega arith in same)
reporting_at here k (x ∷ xs) (r ∷ rs) (suc o) le =
    reporting_at here (k + 1) xs rs o (omega (arith, le)) ∙ ap (λ (i : ℕ). first_of (at rs o) (left_over (here i) (at xs o))) (let same : k + 1 + o ≡ k + suc o = omega arith in same)

none_more : (ns : List ℕ) (ws : List ℕ) → ns ≡ [] → ws ≡ ws ++ ns
none_more ns ws none = sym (ap (λ (l : List ℕ). ws ++ l) none ∙ by ws)
  where
    by : (l : List ℕ) → l ++ [] ≡ l
    by [] = refl
    by (x ∷ xs) = ap (λ (l : List ℕ). x ∷ l) (by xs)

not_more : (a b : Bool) → b ≡ false → a ≡ (a || b)
not_more true b e = refl
not_more false b e = sym e

module _ (here : ℕ → Bool) (ns : ℕ → List ℕ) (begins : ℕ → Bool) (k : ℕ) where
  abbrev after : Bool → Option ObjectState → Option ObjectState → ObjectState
  after b x y = found (first_of (joined_place ns begins k (left_place here b x)) (cleared here (first_of y (left_over b x))))

  -- it stays where it is
  abbrev Stays : Bool → Option ObjectState → Type 0
  Stays b x = is_there x × (b ≡ true)

  list_after : (b : Bool) (x y : Option ObjectState) → (is_there x → is_there y → ⊥) → ((Stays b x → ⊥) → ns k ≡ []) → (after b x y).waiting ≡ (found (first_of x y)).waiting ++ ns k
  list_after b None (Some y) apart none = none_more (ns k) y.waiting (none (λ s. s.0))
  list_after true None None apart none = none_more (ns k) [] (none (λ s. s.0))
  list_after false None None apart none = none_more (ns k) [] (none (λ s. s.0))
  list_after true (Some x) y apart none = refl
  list_after false (Some x) None apart none = none_more (ns k) x.waiting (none (λ s. false≢true s.1))
  list_after false (Some x) (Some y) apart none = absurd (apart tt tt)

  mark_after : (b : Bool) (x y : Option ObjectState) → (is_there x → is_there y → ⊥) → ((Stays b x → ⊥) → begins k ≡ false) → (after b x y).waits ≡ ((found (first_of x y)).waits || begins k)
  mark_after b None (Some y) apart none = not_more y.waits (begins k) (none (λ s. s.0))
  mark_after true None None apart none = not_more false (begins k) (none (λ s. s.0))
  mark_after false None None apart none = not_more false (begins k) (none (λ s. s.0))
  mark_after true (Some x) y apart none = refl
  mark_after false (Some x) None apart none = not_more x.waits (begins k) (none (λ s. false≢true s.1))
  mark_after false (Some x) (Some y) apart none = absurd (apart tt tt)

nobody : (rs : List ℕ) → ((r : ℕ) → Contains rs r → ⊥) → rs ≡ []
nobody [] none = refl
nobody (r ∷ rs) none = absurd (none r (Contains-here r rs))

-- A FLUSH, where the queue of what stays stays

module _ (here : ℕ → Bool) (h rs : Objects) (past : IsPast h rs) (closed : (r q : ℕ) → IsHeld h r → here r ≡ true → (object_at h r).queue ≡ Some q → IsHeld h q × (here q ≡ true)) where
  abbrev now : Objects
  now = flushed_heap here h

  abbrev reports : Objects
  reports = map (cleared here) (reporting here 0 h rs)

  place_after : (o : ℕ) → seen now reports o ≡ after here (newcomers here h) (begins_to_wait here h) o (here o) (at h o) (at rs o)
  place_after o =
      ap (λ (x : Option ObjectState). found (first_of x (at reports o))) (flushed_at here h o)
      ∙ ap (λ (y : Option ObjectState). found (first_of (joined_place (newcomers here h) (begins_to_wait here h) o (left_place here (here o) (at h o))) y))
      (at_cleared here (reporting here 0 h rs) o ∙ ap (λ (y : Option ObjectState). cleared here y)
      (reporting_at here 0 h rs o past.within ∙ ap (λ (i : ℕ). first_of (at rs o) (left_over (here i) (at h o))) (let same : 0 + o ≡ o = omega arith in same)))

  none_comes : (q : ℕ) → (IsHeld h q × (here q ≡ true) → ⊥) → newcomers here h q ≡ []
  none_comes q out = nobody (newcomers here h q) (λ r c. let is = is_comer here q r (at h r) (comer here h q r c) in out (closed r q is.there is.stays is.queue))

  pub flush_lined : AreLined h rs → AreLined now reports
  flush_lined lined =
      lined_same (λ q. (seen h rs q).waiting ++ newcomers here h q) (λ q. (seen now reports q).waiting) (λ r. (seen h rs r).waits || begins_to_wait here h r) (λ r. (seen now reports r).waits)
      (λ q. ap (λ (x : ObjectState). x.waiting) (place_after q) ∙ list_after here (newcomers here h) (begins_to_wait here h) q (here q) (at h q) (at rs q) (past.apart q) (none_comes q))
      (λ r. ap (λ (x : ObjectState). x.waits) (place_after r) ∙ mark_after here (newcomers here h) (begins_to_wait here h) r (here r) (at h r) (at rs r) (past.apart r)
      (λ out. false_from_ne_true (begins_to_wait here h r) (λ e. out (begins_here here (here r) (at h r) e))))
      (lined_more (λ q. (seen h rs q).waiting) (newcomers here h) (λ r. (seen h rs r).waits) (begins_to_wait here h) lined (coming here h rs))
