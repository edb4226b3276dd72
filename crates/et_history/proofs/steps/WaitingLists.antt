-- Waiting lists: a reference stands in one list at most, once there, and is marked exactly while it stands in one.
use Rattle.std.proofs.Common.{◌≡◌, ℕ, zero, suc, ◌≤◌, Bool, true, false, List, [], ◌∷◌, ◌++◌, length, drop, Option, Some, None, Contains, refl, sym, ◌∙◌, ap, subst, inl, inr, arith, get_or-set_same}
use Rattle.std.specs.Prelude.{◌||◌}
use mathlib.Core.Path.{fun_ext}
use Rattle.std.proofs.lemmas.Bool.{cases_eq, true≢false, or_left, or_right, or_cases}
use Rattle.std.proofs.lemmas.List.{get_or-set_other}
use Rattle.std.proofs.lemmas.List.Elements.{Contains-append_left, Contains-append_right, Contains-append_cases}
use Rattle.et_base.proofs.Lists.{Contains-here, Contains-there, Contains-cons}
use Rattle.et_heap.specs.Links.{StandOnce}
use Rattle.et_heap.specs.Objects.{ObjectState, Objects, IsHeld, is_there, at, found, object_at, no_object, with_object_at}
use Rattle.et_heap.specs.Queues.{with_waits, without_first_waiting, take_first}
use Rattle.et_heap.proofs.HeapLists.{held_within, held_set}
use Rattle.et_state.specs.Past.{first_of}
use Rattle.et_history.proofs.steps.Heaps.{at_push}

pub record Lined (lists : ℕ → List ℕ) (marks : ℕ → Bool) : Type 0 where
  pub marked : (r : ℕ) → marks r ≡ true → (q : ℕ) × Contains (lists q) r
  pub listed : (q r : ℕ) → Contains (lists q) r → marks r ≡ true
  pub one : (q u r : ℕ) → Contains (lists q) r → Contains (lists u) r → q ≡ u
  pub once : (q : ℕ) → StandOnce (lists q)

pub lined_same : (lists now : ℕ → List ℕ) (marks then : ℕ → Bool) → ((q : ℕ) → now q ≡ lists q) → ((r : ℕ) → then r ≡ marks r) → Lined lists marks → Lined now then
lined_same lists now marks then same alike h =
    subst (λ (m : ℕ → Bool). Lined now m) (sym (fun_ext alike)) (subst (λ (l : ℕ → List ℕ). Lined l marks) (sym (fun_ext same)) h)

-- THE FIRST REFERENCE OF A LIST IS TAKEN OUT

module _ (lists now : ℕ → List ℕ) (marks then : ℕ → Bool) (q r : ℕ) (ws : List ℕ) (is : lists q ≡ r ∷ ws) (fewer : now q ≡ ws) (others : (k : ℕ) → (k ≡ q → ⊥) → now k ≡ lists k) (unmarked : then r ≡ false) (alike : (k : ℕ) → (k ≡ r → ⊥) → then k ≡ marks k) (h : Lined lists marks) where
  was_listed : (u k : ℕ) → Contains (now u) k → Contains (lists u) k
  was_listed u k c = elim (cases_eq u q) [
    | inl e ↦
        let d : Contains ws k = subst (λ (l : List ℕ). Contains l k) fewer (subst (λ (v : ℕ). Contains (now v) k) e c) in
        subst (λ (v : ℕ). Contains (lists v) k) (sym e) (subst (λ (l : List ℕ). Contains l k) (sym is) (Contains-there r ws k d))
    | inr ne ↦ subst (λ (l : List ℕ). Contains l k) (others u ne) c
  ]

  first_stands : Contains (lists q) r
  first_stands = subst (λ (l : List ℕ). Contains l r) (sym is) (Contains-here r ws)

  stood_once : StandOnce (r ∷ ws)
  stood_once = subst StandOnce is (h.once q)

  not_first : (u k : ℕ) → Contains (now u) k → k ≡ r → ⊥
  not_first u k c same =
      let d : Contains (now u) r = subst (λ (v : ℕ). Contains (now u) v) same c in
      let e : u ≡ q = h.one u q r (was_listed u r d) first_stands in
      stood_once.0 (subst (λ (l : List ℕ). Contains l r) fewer (subst (λ (v : ℕ). Contains (now v) r) e d))

  stands_on : (k u : ℕ) → (k ≡ r → ⊥) → Contains (lists u) k → Contains (now u) k
  stands_on k u ne c = elim (cases_eq u q) [
    | inl e ↦
        let d : Contains (r ∷ ws) k = subst (λ (l : List ℕ). Contains l k) is (subst (λ (v : ℕ). Contains (lists v) k) e c) in
        elim (Contains-cons r ws k d) [
          | inl same ↦ absurd (ne (sym same))
          | inr rest ↦ subst (λ (v : ℕ). Contains (now v) k) (sym e) (subst (λ (l : List ℕ). Contains l k) (sym fewer) rest)
        ]
    | inr other ↦ subst (λ (l : List ℕ). Contains l k) (sym (others u other)) c
  ]

  still_marked : (k : ℕ) → then k ≡ true → (u : ℕ) × Contains (now u) k
  still_marked k m = elim (cases_eq k r) [
    | inl same ↦ absurd (true≢false (sym (subst (λ (v : ℕ). then v ≡ true) same m) ∙ unmarked))
    | inr ne ↦ let old = h.marked k (sym (alike k ne) ∙ m) in (old.0, stands_on k old.0 ne old.1)
  ]

  pub lined_taken : Lined now then
  lined_taken = record {
    marked = still_marked;
    listed = λ u k c. alike k (not_first u k c) ∙ h.listed u k (was_listed u k c);
    one = λ u v k c d. h.one u v k (was_listed u k c) (was_listed v k d);
    once = λ u. elim (cases_eq u q) [
      | inl e ↦ subst (λ (v : ℕ). StandOnce (now v)) (sym e) (subst StandOnce (sym fewer) stood_once.1)
      | inr ne ↦ subst StandOnce (sym (others u ne)) (h.once u)
    ];
  }

-- REFERENCES BEGIN TO WAIT

once_both : (xs ys : List ℕ) → StandOnce xs → StandOnce ys → ((r : ℕ) → Contains xs r → Contains ys r → ⊥) → StandOnce (xs ++ ys)
once_both [] ys a b apart = b
once_both (x ∷ xs) ys a b apart = (
  λ c. elim (Contains-append_cases xs ys x c) [ inl d ↦ a.0 d | inr d ↦ apart x (Contains-here x xs) d ],
  once_both xs ys a.1 b (λ r c d. apart r (Contains-there x xs r c) d),
)

-- who comes to a list was not marked, and is then
pub record Coming (marks : ℕ → Bool) (coming : ℕ → List ℕ) (begins : ℕ → Bool) : Type 0 where
  pub free : (q r : ℕ) → Contains (coming q) r → marks r ≡ false
  pub begun : (q r : ℕ) → Contains (coming q) r → begins r ≡ true
  pub into : (r : ℕ) → begins r ≡ true → (q : ℕ) × Contains (coming q) r
  pub one : (q u r : ℕ) → Contains (coming q) r → Contains (coming u) r → q ≡ u
  pub once : (q : ℕ) → StandOnce (coming q)

module _ (lists coming : ℕ → List ℕ) (marks begins : ℕ → Bool) (h : Lined lists marks) (new : Coming marks coming begins) where
  both : (q u r : ℕ) → Contains (lists q) r → Contains (coming u) r → ⊥
  both q u r c d = true≢false (sym (h.listed q r c) ∙ new.free u r d)

  pub lined_more : Lined (λ q. lists q ++ coming q) (λ r. marks r || begins r)
  lined_more = record {
    marked = λ r m. elim (or_cases (marks r) (begins r) m) [
      | inl old ↦ (let was = h.marked r old in (was.0, Contains-append_left (lists was.0) (coming was.0) r was.1))
      | inr now ↦ (let to = new.into r now in (to.0, Contains-append_right (lists to.0) (coming to.0) r to.1))
    ];
    listed = λ q r c. elim (Contains-append_cases (lists q) (coming q) r c) [
      | inl d ↦ or_left (marks r) (begins r) (h.listed q r d)
      | inr d ↦ or_right (marks r) (begins r) (new.begun q r d)
    ];
    one = λ q u r c d. elim (Contains-append_cases (lists q) (coming q) r c) [
      | inl a ↦ elim (Contains-append_cases (lists u) (coming u) r d) [ inl b ↦ h.one q u r a b | inr b ↦ absurd (both q u r a b) ]
      | inr a ↦ elim (Contains-append_cases (lists u) (coming u) r d) [ inl b ↦ absurd (both u q r b a) | inr b ↦ new.one q u r a b ]
    ];
    once = λ q. once_both (lists q) (coming q) (h.once q) (new.once q) (λ r c d. both q q r c d);
  }

-- HEAPS, and the objects that were reported beside them

abbrev pub seen : Objects → Objects → ℕ → ObjectState
seen h rs o = found (first_of (at h o) (at rs o))

abbrev pub AreLined : Objects → Objects → Type 0
AreLined h rs = Lined (λ q. (seen h rs q).waiting) (λ r. (seen h rs r).waits)

-- what leads from one heap to another leaves the lists so, whatever was reported
abbrev pub KeepLists : Objects → Objects → Type 0
KeepLists h now = (rs : Objects) → length rs ≤ length h → AreLined h rs → AreLined now rs

pub keep_then : (a b c : Objects) → length a ≤ length b → KeepLists a b → KeepLists b c → KeepLists a c
keep_then a b c longer first next = λ rs within lined. next rs (omega (arith, longer, within)) (first rs within lined)

seen_first : (x y : Option ObjectState) → is_there x → found (first_of x y) ≡ found x
seen_first None y there = absurd there
seen_first (Some x) y there = refl

pub seen_held : (h rs : Objects) (o : ℕ) → IsHeld h o → seen h rs o ≡ object_at h o
seen_held h rs o held = seen_first (at h o) (at rs o) held

seen_set : (h rs : Objects) (o : ℕ) (y : ObjectState) → IsHeld h o → seen (with_object_at h o y) rs o ≡ y
seen_set h rs o y held = ap (λ (x : Option ObjectState). found (first_of x (at rs o))) (get_or-set_same h o (Some y) None (held_within h o held))

seen_other : (h rs : Objects) (o k : ℕ) (y : ObjectState) → (k ≡ o → ⊥) → seen (with_object_at h o y) rs k ≡ seen h rs k
seen_other h rs o k y ne = ap (λ (x : Option ObjectState). found (first_of x (at rs k))) (get_or-set_other h o k (Some y) None ne)

-- what doesn't speak of what an object became is the same
set_keeps : {X : Type 0} (g : ObjectState → X) (h rs : Objects) (o : ℕ) (y : ObjectState) → IsHeld h o → g y ≡ g (object_at h o) → (k : ℕ) → g (seen (with_object_at h o y) rs k) ≡ g (seen h rs k)
set_keeps g h rs o y held same k = elim (cases_eq k o) [
  | inl e ↦ subst (λ (j : ℕ). g (seen (with_object_at h o y) rs j) ≡ g (seen h rs j)) (sym e) (ap g (seen_set h rs o y held) ∙ (same ∙ ap g (sym (seen_held h rs o held))))
  | inr ne ↦ ap g (seen_other h rs o k y ne)
]

pub keep_set : (h : Objects) (o : ℕ) (y : ObjectState) → IsHeld h o → y.waiting ≡ (object_at h o).waiting → y.waits ≡ (object_at h o).waits → KeepLists h (with_object_at h o y)
keep_set h o y held list mark = λ rs within lined.
    let now : Objects = with_object_at h o y in
    lined_same (λ q. (seen h rs q).waiting) (λ q. (seen now rs q).waiting) (λ r. (seen h rs r).waits) (λ r. (seen now rs r).waits)
    (set_keeps (λ x. x.waiting) h rs o y held list) (set_keeps (λ x. x.waits) h rs o y held mark) lined

pub beyond : (xs : Objects) (k : ℕ) → length xs ≤ k → at xs k ≡ None
beyond [] k le = refl
beyond (x ∷ xs) zero le = absurd (omega (arith, le))
beyond (x ∷ xs) (suc k) le = beyond xs k (omega (arith, le))

push_keeps : {X : Type 0} (g : ObjectState → X) (h rs : Objects) (y : ObjectState) → length rs ≤ length h → g y ≡ g no_object → (k : ℕ) → g (seen (h ++ Some y ∷ []) rs k) ≡ g (seen h rs k)
push_keeps g h rs y within same k = elim (at_push h y k) [
  | inl e ↦ ap (λ (x : Option ObjectState). g (found (first_of x (at rs k)))) e
  | inr e ↦
      let a : at h k ≡ None = beyond h k e.0 in
      let b : at rs k ≡ None = beyond rs k (let le = e.0 in omega (arith, within, le)) in
      ap (λ (x : Option ObjectState). g (found (first_of x (at rs k)))) e.1
      ∙ (same ∙ sym (ap (λ (x : Option ObjectState). g (found (first_of x (at rs k)))) a ∙ ap (λ (x : Option ObjectState). g (found x)) b))
]

pub keep_push : (h : Objects) (y : ObjectState) → y.waiting ≡ [] → y.waits ≡ false → KeepLists h (h ++ Some y ∷ [])
keep_push h y list mark = λ rs within lined.
    let now : Objects = h ++ Some y ∷ [] in
    lined_same (λ q. (seen h rs q).waiting) (λ q. (seen now rs q).waiting) (λ r. (seen h rs r).waits) (λ r. (seen now rs r).waits)
    (push_keeps (λ x. x.waiting) h rs y within list) (push_keeps (λ x. x.waits) h rs y within mark) lined

-- a queue is polled
pub keep_taken : (h : Objects) (q r : ℕ) (ws : List ℕ) → (object_at h q).waiting ≡ r ∷ ws → IsHeld h q → IsHeld h r → KeepLists h (take_first (r ∷ ws) q h)
keep_taken h q r ws is held there = λ rs within lined.
    let y : ObjectState = without_first_waiting (object_at h q) in
    let first : Objects = with_object_at h q y in
    let z : ObjectState = with_waits false (object_at first r) in
    let now : Objects = with_object_at first r z in
    let after : IsHeld first r = held_set h q y r held there in
    let list : (k : ℕ) → (seen now rs k).waiting ≡ (seen first rs k).waiting = set_keeps (λ x. x.waiting) first rs r z after refl in
    lined_taken (λ k. (seen h rs k).waiting) (λ k. (seen now rs k).waiting) (λ k. (seen h rs k).waits) (λ k. (seen now rs k).waits) q r ws
    (ap (λ (x : ObjectState). x.waiting) (seen_held h rs q held) ∙ is)
    (list q ∙ (ap (λ (x : ObjectState). x.waiting) (seen_set h rs q y held) ∙ ap (λ (l : List ℕ). drop 1 l) is))
    (λ k ne. list k ∙ ap (λ (x : ObjectState). x.waiting) (seen_other h rs q k y ne))
    (ap (λ (x : ObjectState). x.waits) (seen_set first rs r z after))
    (λ k ne. ap (λ (x : ObjectState). x.waits) (seen_other first rs r k z ne) ∙ set_keeps (λ x. x.waits) h rs q y held refl k)
    lined
