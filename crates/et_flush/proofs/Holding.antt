-- The objects that are held, listed one after the other.
use Rattle.std.proofs.Common.{◌≡◌, ℕ, zero, suc, ◌+◌, ◌-◌, ◌<◌, ◌≤◌, List, [], ◌∷◌, ◌++◌, length, get_or, Contains, Option, Some, None, refl, sym, ◌∙◌, ap, subst, arith}
use mathlib.Core.Logic.{⊎_elim}
use Rattle.std.specs.List.Sorted.{IsStrictlyIncreasing}
use Rattle.std.proofs.lemmas.Bool.{cases_eq, cases_lt}
use Rattle.std.proofs.lemmas.List.{length-append, get_or_append_left, get_or_push, get_or_past, get_or_default}
use Rattle.std.proofs.lemmas.List.Elements.{Contains-append_left, Contains-push, Contains-push_cases, Contains-get_or}
use Rattle.std.proofs.lemmas.List.Kept.{AllPairs-from_increasing}
use Rattle.et_base.proofs.Lists.{Contains-none, rising_push}
use Rattle.et_heap.specs.Objects.{ObjectState, Objects, IsHeld, IsNextHeld, is_there, ones_in, held_count}
use Rattle.std.proofs.lemmas.List.Sums.{sum_by-cons}
use Rattle.et_heap.proofs.HeapLists.{held_within}
use Rattle.et_flush.specs.Searches.{AreAllHeld}
use Rattle.et_flush.proofs.Targets.{held_above}

-- RISING LISTS

pub below_push : (xs : List ℕ) (x y : ℕ) → ((k : ℕ) → k < length xs → get_or xs k 0 < x) → x < y → (k : ℕ) → k < length (xs ++ x ∷ []) → get_or (xs ++ x ∷ []) k 0 < y
below_push xs x y below less k lt =
    ⊎_elim
    (λ b. omega (arith, below k b, get_or_append_left xs (x ∷ []) 0 k b))
    (λ g. let e : length xs ≡ k = omega (arith, length-append xs (x ∷ [])) in omega (arith, get_or_push xs x 0 k e))
    (cases_lt k (length xs))

-- THE LIST SO FAR, of the objects below n
pub record AreHeldBelow (heap : Objects) (n : ℕ) (held : List ℕ) : Type 0 where
  pub rising : IsStrictlyIncreasing held
  pub below : (k : ℕ) → k < length held → get_or held k 0 < n
  pub each : (o : ℕ) → Contains held o → IsHeld heap o
  pub all : (o : ℕ) → o < n → IsHeld heap o → Contains held o

pub below_none : (heap : Objects) (held : List ℕ) → held ≡ [] → (IsHeld heap 0 → ⊥) → AreHeldBelow heap 1 held
below_none heap held none zero_free = record {
  rising = λ k lt. let e : length held ≡ 0 = ap length none in absurd (omega arith);
  below = λ k lt. let e : length held ≡ 0 = ap length none in absurd (omega arith);
  each = λ o c. absurd (Contains-none o (subst (λ (xs : List ℕ). Contains xs o) none c));
  all = λ o lt h. absurd (zero_free (subst (λ (k : ℕ). IsHeld heap k) (let e : o ≡ 0 = omega arith in e) h));
}

pub below_next : (heap : Objects) (n o : ℕ) (held held' : List ℕ) → AreHeldBelow heap n held → IsNextHeld heap n o → held' ≡ held ++ o ∷ [] → AreHeldBelow heap (o + 1) held'
below_next heap n o held held' are next push =
    subst (λ (xs : List ℕ). AreHeldBelow heap (o + 1) xs) (sym push)
    (record {
      rising = rising_push held o are.rising (λ k lt. omega (arith, are.below k lt, next.from));
      below = below_push held o (o + 1) (λ k lt. omega (arith, are.below k lt, next.from)) (omega arith);
      each = λ x c.
          ⊎_elim
          (λ d. are.each x d)
          (λ e. subst (λ (z : ℕ). IsHeld heap z) e next.held)
          (Contains-push_cases held o x c);
      all = λ x lt h.
          ⊎_elim
          (λ b. Contains-append_left held (o ∷ []) x (are.all x b h))
          (λ g.
          let least = next.first x g h in
          let e : o ≡ x = omega arith in
          subst (λ (z : ℕ). Contains (held ++ o ∷ []) z) e (Contains-push held o))
          (cases_lt x n);
    })

pub all_below : (heap : Objects) (n : ℕ) (held : List ℕ) → AreHeldBelow heap n held → ((u : ℕ) → n ≤ u → IsHeld heap u → ⊥) → AreAllHeld heap held
all_below heap n held are out = record {
  rising = are.rising;
  exact = λ o. (
    are.each o,
    λ h. ⊎_elim (λ b. are.all o b h) (λ g. absurd (out o g h)) (cases_lt o n),
  );
}

-- WHAT IS BETWEEN THEM

module _ (heap : Objects) (held : List ℕ) (are : AreAllHeld heap held) where
  rises : (i k d : ℕ) → i < k → k < length held → get_or held i d < get_or held k d
  rises i k d lt within = AllPairs-from_increasing held are.rising i k d lt within

  pub here_held : (i d : ℕ) → i < length held → IsHeld heap (get_or held i d)
  here_held i d lt = (are.exact (get_or held i d)).0 (Contains-get_or held i d lt)

  -- nothing is held before the first
  pub gap_first : (d u : ℕ) → u < get_or held 0 d → IsHeld heap u → ⊥
  gap_first d u less h =
      let c = (are.exact u).1 h in
      let at : get_or held c.0 d ≡ u = sym (get_or_default held c.0 u d c.1) ∙ c.2 in
      ⊎_elim
      (λ later. omega (arith, rises 0 c.0 d later c.1, at))
      (λ first. let e : c.0 ≡ 0 = omega arith in omega (arith, at, ap (λ (k : ℕ). get_or held k d) e))
      (cases_lt 0 c.0)

  -- .. and between one and the next
  pub gap_next : (i d u : ℕ) → i < length held → get_or held i d < u → u < get_or held (i + 1) d → IsHeld heap u → ⊥
  gap_next i d u lt after less h =
      let c = (are.exact u).1 h in
      let at : get_or held c.0 d ≡ u = sym (get_or_default held c.0 u d c.1) ∙ c.2 in
      ⊎_elim
      (λ later.
      ⊎_elim
      (λ more. omega (arith, rises (i + 1) c.0 d more c.1, at))
      (λ next. let e : c.0 ≡ i + 1 = omega arith in omega (arith, at, ap (λ (k : ℕ). get_or held k d) e))
      (cases_lt (i + 1) c.0))
      (λ first.
      ⊎_elim
      (λ before. omega (arith, rises c.0 i d before lt, at))
      (λ same. let e : c.0 ≡ i = omega arith in omega (arith, at, ap (λ (k : ℕ). get_or held k d) e))
      (cases_lt c.0 i))
      (cases_lt i c.0)

  -- the next one, or the end, comes later
  pub next_later : (i : ℕ) → i < length held → get_or held i (length heap) < get_or held (i + 1) (length heap)
  next_later i lt =
      ⊎_elim
      (λ more. rises i (i + 1) (length heap) (omega arith) more)
      (λ last. omega (arith, get_or_past held (i + 1) (length heap) last, held_within heap (get_or held i (length heap)) (here_held i (length heap) lt)))
      (cases_lt (i + 1) (length held))

  least_at : (k : ℕ) → (IsHeld heap 0 → ⊥) → k < length held → k < get_or held k 0
  least_at zero none lt = held_above heap (get_or held 0 0) none (here_held 0 0 lt)
  least_at (suc k) none lt = omega (arith, least_at k none (omega arith), rises k (suc k) 0 (omega arith) lt)

  -- there are no more of them than were made
  pub held_few : (IsHeld heap 0 → ⊥) → length held ≤ length heap - 1
  held_few none =
      ⊎_elim
      (λ some.
      let k : ℕ = length held - 1 in
      let inside : k < length held = omega arith in
      omega (arith, least_at k none inside, held_within heap (get_or held k 0) (here_held k 0 inside)))
      (λ empty. omega arith)
      (cases_lt 0 (length held))

-- HOW MANY THERE ARE

there_one : (x : Option ObjectState) → is_there x → ones_in x ≡ 1
there_one None h = absurd h
there_one (Some x) h = refl

held_counted : (k : ℕ) (xs : Objects) (held : List ℕ) → IsStrictlyIncreasing held → ((j : ℕ) → j < length held → (k ≤ get_or held j 0) × is_there (get_or xs (get_or held j 0 - k) None)) → length held ≤ held_count xs
held_counted k xs [] rising there = omega arith
held_counted k [] (h ∷ hs) rising there = absurd (there 0 (omega arith)).1
held_counted k (x ∷ xs) (h ∷ hs) rising there =
    let least = (there 0 (omega arith)).0 in
    let after : (o : ℕ) → k + 1 ≤ o → is_there (get_or (x ∷ xs) (o - k) None) → is_there (get_or xs (o - (k + 1)) None) = λ o le p.
    let e : o - k ≡ suc (o - (k + 1)) = omega arith in
    subst (λ (i : ℕ). is_there (get_or (x ∷ xs) i None)) e p in
    ⊎_elim
    (λ e.
    let here : is_there x = subst (λ (i : ℕ). is_there (get_or (x ∷ xs) i None)) (let f : h - k ≡ 0 = omega arith in f) (there 0 (omega arith)).1 in
    let rest = held_counted (k + 1) xs hs (λ j lt. AllPairs-from_increasing (h ∷ hs) rising (suc j) (suc (j + 1)) 0 (omega arith) (omega arith))
    (λ j lt.
    let later : h < get_or hs j 0 = AllPairs-from_increasing (h ∷ hs) rising 0 (suc j) 0 (omega arith) (omega arith) in
    let more : k + 1 ≤ get_or hs j 0 = omega arith in
    (more, after (get_or hs j 0) more (there (suc j) (omega arith)).1)) in
    omega (arith, rest, there_one x here, sum_by-cons ones_in x xs))
    (λ ne.
    let rest = held_counted (k + 1) xs (h ∷ hs) rising
    (λ j lt.
    let more : k + 1 ≤ get_or (h ∷ hs) j 0 =
    ⊎_elim
    (λ (z : 0 < j). let later : h < get_or (h ∷ hs) j 0 = AllPairs-from_increasing (h ∷ hs) rising 0 j 0 z lt in omega arith)
    (λ (z : j ≤ 0). let e : 0 ≡ j = omega arith in subst (λ (i : ℕ). k + 1 ≤ get_or (h ∷ hs) i 0) e (omega arith))
    (cases_lt 0 j) in
    (more, after (get_or (h ∷ hs) j 0) more (there j lt).1)) in
    omega (arith, rest, sum_by-cons ones_in x xs))
    (cases_eq h k)

-- a list of some has no more than there are
pub listed_counted : (heap : Objects) (held : List ℕ) → IsStrictlyIncreasing held → ((o : ℕ) → Contains held o → IsHeld heap o) → length held ≤ held_count heap
listed_counted heap held rising each =
    held_counted 0 heap held rising
    (λ j lt. (omega arith, subst (λ (i : ℕ). is_there (get_or heap i None)) (let e : get_or held j 0 ≡ get_or held j 0 - 0 = omega arith in e) (each (get_or held j 0) (Contains-get_or held j 0 lt))))

pub all_counted : (heap : Objects) (held : List ℕ) → AreAllHeld heap held → length held ≤ held_count heap
all_counted heap held are = listed_counted heap held are.rising (λ o. (are.exact o).0)

-- .. also with the next one
pub next_counted : (heap : Objects) (n o : ℕ) (held : List ℕ) → AreHeldBelow heap n held → IsNextHeld heap n o → length held + 1 ≤ held_count heap
next_counted heap n o held are next =
    let more = below_next heap n o held (held ++ o ∷ []) are next refl in
    omega (arith, listed_counted heap (held ++ o ∷ []) more.rising more.each, length-append held (o ∷ []))
