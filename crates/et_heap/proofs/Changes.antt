-- What a change of one object leaves as it was.
use Rattle.std.proofs.Common.{◌≡◌, ℕ, zero, suc, ◌<◌, ◌≤◌, ◌⊎◌, List, [], ◌∷◌, ◌++◌, length, set, Option, Some, None, Result, Ok, Err, Contains, ap, subst, refl, sym, ◌∙◌, inl, inr, arith}
use Rattle.std.proofs.lemmas.List.{length-set, length-append, get_or-set_same, get_or-set_other, get_or_append_left}
use Rattle.std.proofs.lemmas.Bool.{cases_eq, cases_lt}
use Rattle.std.specs.Result.{OnOk, OnErr}
use Rattle.et_base.proofs.Lists.{Contains-none}
use Rattle.et_heap.specs.Objects.{ObjectState, Objects, IsHeld}
use Rattle.et_heap.specs.Stored.{Stored, StoredPlaces, unlinked, as_stored, stored_in, stored_at, is_stored, IsStored, without_stored_at, on_state, states_of}
use Rattle.et_heap.specs.Links.{next_of, last_of, waiting_of, IsRing, StandOnce, AreLinked, stored_with}
use Rattle.et_heap.proofs.Places.{there_below}
use Rattle.et_heap.proofs.States.{there}
use Rattle.et_heap.proofs.Ways.{ring-kept}

pub at-changed : (f : Stored → Stored) (P : StoredPlaces) (o : ℕ) → IsStored P o → stored_at (stored_with f o P) o ≡ f (stored_at P o)
at-changed f P o there = ap as_stored (get_or-set_same P o (Some (f (stored_at P o))) None (there_below P o there))

pub at-other : (f : Stored → Stored) (P : StoredPlaces) (o u : ℕ) → (u ≡ o → ⊥) → stored_at (stored_with f o P) u ≡ stored_at P u
at-other f P o u other = ap as_stored (get_or-set_other P o u (Some (f (stored_at P o))) None other)

-- what the change of an object keeps, it keeps of all
pub keeps : {X : Type 0} (g : Stored → X) (f : Stored → Stored) (P : StoredPlaces) (o u : ℕ) → IsStored P o → ((x : Stored) → g (f x) ≡ g x) → g (stored_at (stored_with f o P) u) ≡ g (stored_at P u)
keeps g f P o u there same =
    elim (cases_eq u o) [
      | inl e ↦ subst (λ (v : ℕ). g (stored_at (stored_with f o P) v) ≡ g (stored_at P v)) (sym e) (ap g (at-changed f P o there) ∙ same (stored_at P o))
      | inr other ↦ ap g (at-other f P o u other)
    ]

stored_set : (P : StoredPlaces) (o : ℕ) (y : Stored) (u : ℕ) → IsStored P o → IsStored P u → IsStored (set P o (Some y)) u
stored_set [] o y u h g = absurd h
stored_set (x ∷ xs) zero y zero h g = tt
stored_set (x ∷ xs) zero y (suc u) h g = g
stored_set (x ∷ xs) (suc o) y zero h g = g
stored_set (x ∷ xs) (suc o) y (suc u) h g = stored_set xs o y u h g

set_stored : (P : StoredPlaces) (o : ℕ) (y : Stored) (u : ℕ) → IsStored P o → IsStored (set P o (Some y)) u → IsStored P u
set_stored [] o y u h g = absurd h
set_stored (x ∷ xs) zero y zero h g = h
set_stored (x ∷ xs) zero y (suc u) h g = g
set_stored (x ∷ xs) (suc o) y zero h g = g
set_stored (x ∷ xs) (suc o) y (suc u) h g = set_stored xs o y u h g

pub stays : (f : Stored → Stored) (P : StoredPlaces) (o u : ℕ) → IsStored P o → IsStored P u → IsStored (stored_with f o P) u
stays f P o u there = stored_set P o (f (stored_at P o)) u there

pub stood : (f : Stored → Stored) (P : StoredPlaces) (o u : ℕ) → IsStored P o → IsStored (stored_with f o P) u → IsStored P u
stood f P o u there = set_stored P o (f (stored_at P o)) u there

pub length-changed : (f : Stored → Stored) (P : StoredPlaces) (o : ℕ) → length (stored_with f o P) ≡ length P
length-changed f P o = length-set P o (Some (f (stored_at P o)))

-- LISTS AS THEY WERE

pub ring-at : (next : ℕ → Option ℕ) (n m : Option ℕ) (rs ss : List ℕ) → n ≡ m → rs ≡ ss → IsRing next n rs → IsRing next m ss
ring-at next n m rs ss e d ring = subst (λ (x : Option ℕ). IsRing next x ss) e (subst (λ (xs : List ℕ). IsRing next n xs) d ring)

-- Each list is as before or is empty, and each object that stood before has its link as before.
pub record IsLesser (P Q : StoredPlaces) : Type 0 where
  pub longer : length P ≤ length Q
  pub lists : (q : ℕ) → ((waiting_of Q q ≡ []) × (last_of Q q ≡ None)) ⊎ ((waiting_of Q q ≡ waiting_of P q) × (last_of Q q ≡ last_of P q))
  pub kept : (o : ℕ) → o < length P → IsStored Q o → IsStored P o × (next_of Q o ≡ next_of P o) × ((stored_at Q o).state.waits ≡ (stored_at P o).state.waits)

was_waiting : (P Q : StoredPlaces) → IsLesser P Q → (q r : ℕ) → Contains (waiting_of Q q) r → Contains (waiting_of P q) r
was_waiting P Q less q r c = elim (less.lists q) [
  | inl e ↦ absurd (Contains-none r (subst (λ (rs : List ℕ). Contains rs r) e.0 c))
  | inr e ↦ subst (λ (rs : List ℕ). Contains rs r) e.0 c
]

once_lesser : (P Q : StoredPlaces) → IsLesser P Q → AreLinked P → (q : ℕ) → StandOnce (waiting_of Q q)
once_lesser P Q less linked q = elim (less.lists q) [
  | inl e ↦ subst StandOnce (sym e.0) tt
  | inr e ↦ subst StandOnce (sym e.0) (linked.once q)
]

ring_lesser : (P Q : StoredPlaces) → IsLesser P Q → AreLinked P → (q : ℕ) → ((r : ℕ) → Contains (waiting_of Q q) r → IsStored Q r) → IsRing (next_of Q) (last_of Q q) (waiting_of Q q)
ring_lesser P Q less linked q all = elim (less.lists q) [
  | inl e ↦ ring-at (next_of Q) None (last_of Q q) [] (waiting_of Q q) (sym e.1) (sym e.0) refl
  | inr e ↦
      let stands : (r : ℕ) → Contains (waiting_of P q) r → IsStored Q r = λ r c. all r (subst (λ (rs : List ℕ). Contains rs r) (sym e.0) c) in
      let ring = linked.rings q (λ r c. (less.kept r (linked.made q r c) (stands r c)).0) in
      ring-at (next_of Q) (last_of P q) (last_of Q q) (waiting_of P q) (waiting_of Q q) (sym e.1) (sym e.0)
      (ring-kept (next_of P) (next_of Q) (last_of P q) (waiting_of P q) (λ r c. (less.kept r (linked.made q r c) (stands r c)).1) ring)
]

pub lesser-linked : (P Q : StoredPlaces) → IsLesser P Q → AreLinked P → AreLinked Q
lesser-linked P Q less linked = record {
  made = λ q r c. let lt = linked.made q r (was_waiting P Q less q r c) in let le = less.longer in omega arith;
  once = λ q. once_lesser P Q less linked q;
  apart = λ q u r c d. linked.apart q u r (was_waiting P Q less q r c) (was_waiting P Q less u r d);
  marked = λ q r c there.
      let d = was_waiting P Q less q r c in
      let k = less.kept r (linked.made q r d) there in
      k.2 ∙ linked.marked q r d k.0;
  rings = λ q all. ring_lesser P Q less linked q all;
}

-- a change of what no list knows
pub written-linked : (f : Stored → Stored) (P : StoredPlaces) (o : ℕ) → IsStored P o → ((x : Stored) → (f x).state.waiting ≡ x.state.waiting) → ((x : Stored) → (f x).state.waits ≡ x.state.waits) → ((x : Stored) → (f x).last ≡ x.last) → ((x : Stored) → (f x).next ≡ x.next) → AreLinked P → AreLinked (stored_with f o P)
written-linked f P o there waiting waits last next linked =
    let same = length-changed f P o in
    lesser-linked P (stored_with f o P) (record {
      longer = omega arith;
      lists = λ q. inr (keeps (λ (x : Stored). x.state.waiting) f P o q there waiting, keeps (λ (x : Stored). x.last) f P o q there last);
      kept = λ u lt stands. (stood f P o u there stands, keeps (λ (x : Stored). x.next) f P o u there next, keeps (λ (x : Stored). x.state.waits) f P o u there waits);
    }) linked

-- .. as a heap is seen
pub written_seen : (f : ObjectState → ObjectState) (heap : Objects) (P T : StoredPlaces) (o : ℕ) → states_of P ≡ heap → IsHeld heap o → T ≡ stored_with (on_state f) o P → ((x : ObjectState) → (f x).waiting ≡ x.waiting) → ((x : ObjectState) → (f x).waits ≡ x.waits) → AreLinked P → AreLinked T
written_seen f heap P T o view held is waiting waits linked =
    subst AreLinked (sym is)
    (written-linked (on_state f) P o (there heap P o view held) (λ x. waiting x.state) (λ x. waits x.state) (λ x. refl) (λ x. refl) linked)

-- an object is taken out
pub without-linked : (P : StoredPlaces) (o : ℕ) → IsStored P o → AreLinked P → AreLinked (without_stored_at P o)
without-linked P o there linked =
    let Q : StoredPlaces = without_stored_at P o in
    let same = length-set P o None in
    let out : stored_at Q o ≡ as_stored None = ap as_stored (get_or-set_same P o None None (there_below P o there)) in
    let others : (u : ℕ) → (u ≡ o → ⊥) → stored_in Q u ≡ stored_in P u = λ u other. get_or-set_other P o u None None other in
    lesser-linked P Q (record {
      longer = omega arith;
      lists = λ q. elim (cases_eq q o) [
        | inl e ↦ inl (subst (λ (u : ℕ). (waiting_of Q u ≡ []) × (last_of Q u ≡ None)) (sym e) (ap (λ (x : Stored). x.state.waiting) out, ap (λ (x : Stored). x.last) out))
        | inr other ↦ inr (ap (λ (p : Option Stored). (as_stored p).state.waiting) (others q other), ap (λ (p : Option Stored). (as_stored p).last) (others q other))
      ];
      kept = λ u lt stands. elim (cases_eq u o) [
        | inl e ↦ absurd (subst is_stored (ap (λ (v : ℕ). stored_in Q v) e ∙ get_or-set_same P o None None (there_below P o there)) stands)
        | inr other ↦ (subst is_stored (others u other) stands, ap (λ (p : Option Stored). (as_stored p).next) (others u other), ap (λ (p : Option Stored). (as_stored p).state.waits) (others u other))
      ];
    }) linked

past_end : (P : StoredPlaces) (x : Option Stored) (u : ℕ) → length P ≤ u → (stored_in (P ++ x ∷ []) u ≡ x) ⊎ (stored_in (P ++ x ∷ []) u ≡ None)
past_end [] x zero le = inl refl
past_end [] x (suc u) le = inr refl
past_end (y ∷ P) x zero le = absurd (omega arith)
past_end (y ∷ P) x (suc u) le = past_end P x u (omega arith)

-- an object is made, in which nothing waits
pub push-linked : (P : StoredPlaces) (x : Stored) → x.state.waiting ≡ [] → x.last ≡ None → AreLinked P → AreLinked (P ++ Some x ∷ [])
push-linked P x empty last linked =
    let Q : StoredPlaces = P ++ Some x ∷ [] in
    let more = length-append P (Some x ∷ []) in
    let before : (u : ℕ) → u < length P → stored_in Q u ≡ stored_in P u = λ u lt. get_or_append_left P (Some x ∷ []) None u lt in
    lesser-linked P Q (record {
      longer = omega arith;
      lists = λ q. elim (cases_lt q (length P)) [
        | inl lt ↦ inr (ap (λ (p : Option Stored). (as_stored p).state.waiting) (before q lt), ap (λ (p : Option Stored). (as_stored p).last) (before q lt))
        | inr le ↦ elim (past_end P (Some x) q le) [
          | inl e ↦ inl (ap (λ (p : Option Stored). (as_stored p).state.waiting) e ∙ empty, ap (λ (p : Option Stored). (as_stored p).last) e ∙ last)
          | inr e ↦ inl (ap (λ (p : Option Stored). (as_stored p).state.waiting) e, ap (λ (p : Option Stored). (as_stored p).last) e)
        ]
      ];
      kept = λ u lt stands. (subst is_stored (before u lt) stands, ap (λ (p : Option Stored). (as_stored p).next) (before u lt), ap (λ (p : Option Stored). (as_stored p).state.waits) (before u lt));
    }) linked

-- an object is made, or none is
pub made-linked : {X E : Type 0} (r : Result X E) (P Q : StoredPlaces) (x : ObjectState) → x.waiting ≡ [] → OnOk r (Q ≡ P ++ Some (unlinked x) ∷ []) → OnErr r (Q ≡ P) → AreLinked P → AreLinked Q
made-linked (Ok o) P Q x empty made err linked = subst AreLinked (sym made) (push-linked P (unlinked x) empty refl linked)
made-linked (Err e) P Q x empty made err linked = subst AreLinked (sym err) linked
