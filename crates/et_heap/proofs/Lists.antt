-- A reference is put into a waiting list, or is taken out of it.
use Rattle.std.proofs.Common.{◌≡◌, ℕ, ◌⊎◌, Bool, true, false, List, [], ◌∷◌, ◌++◌, length, drop, Option, Some, None, is_some, Contains, ap, subst, refl, sym, ◌∙◌, inl, inr, arith}
use Rattle.std.proofs.lemmas.List.Elements.{Contains-append_cases}
use Rattle.std.proofs.lemmas.Bool.{cases_eq, eq-eqb, ne_eqb, false≢true}
use Rattle.et_base.proofs.Lists.{Contains-none, Contains-here, Contains-there, Contains-cons}
use Rattle.et_heap.specs.Objects.{ObjectState, Objects, object_at, IsHeld, referent_value}
use Rattle.et_heap.specs.Queues.{HasQueue, with_waits, with_one_waiting, without_first_waiting, changed_at, put_in, enqueued, take_first, first_value}
use Rattle.et_heap.specs.Stored.{Stored, StoredPlaces, stored_at, IsStored, with_next, with_last, without_first, states_of}
use Rattle.et_heap.specs.Links.{next_of, last_of, waiting_of, IsRing, StandOnce, AllStand, AreLinked, stored_with, linked as put_last, linked_behind, first_behind, links_without, without_link, first_unlinked}
use Rattle.et_heap.proofs.Places.{there_below}
use Rattle.et_heap.proofs.States.{there, shows, all-there, held-stored, object-shown, changed-shown, changed-same}
use Rattle.et_heap.proofs.Ways.{way-goes_on, ring-last, ring-first, ring-none, ring-kept, ring-one, ring-more, ring-fewer, once-more}
use Rattle.et_heap.proofs.Changes.{at-changed, at-other, keeps, stays, stood, length-changed, ring-at}

abbrev waits_at : StoredPlaces → ℕ → Bool
waits_at P o = (stored_at P o).state.waits

abbrev waiting : Stored → List ℕ
waiting x = x.state.waiting

-- what waited waits after a change of what waits after it
waits-kept : (f : Stored → Stored) (P : StoredPlaces) (o : ℕ) → IsStored P o → waits_at (stored_with f o P) o ≡ true → (u : ℕ) → waits_at P u ≡ true → waits_at (stored_with f o P) u ≡ true
waits-kept f P o there now u e =
    elim (cases_eq u o) [
      | inl same ↦ subst (λ (v : ℕ). waits_at (stored_with f o P) v ≡ true) (sym same) now
      | inr other ↦ ap (λ (x : Stored). x.state.waits) (at-other f P o u other) ∙ e
    ]

same-waits : (x : ObjectState) → x.waits ≡ true → with_waits true x ≡ x
same-waits x e = ap (λ (b : Bool). with_waits b x) (sym e)

some-next : (next : ℕ → Option ℕ) (l : ℕ) (rs : List ℕ) → IsRing next (Some l) rs → is_some (next l) ≡ true
some-next next l [] ring = absurd (cc ring)
some-next next l (r ∷ rs) ring = ap is_some ring.0

-- THE LAST OF A LIST IS IN IT

pub last-waits : (P : StoredPlaces) (q l : ℕ) → AreLinked P → AllStand P q → last_of P q ≡ Some l → Contains (waiting_of P q) l
last-waits P q l linked whole is = ring-last (next_of P) l (waiting_of P q) (subst (λ (n : Option ℕ). IsRing (next_of P) n (waiting_of P q)) is (linked.rings q whole))

pub first-waits : (P : StoredPlaces) (q l f : ℕ) → AreLinked P → AllStand P q → last_of P q ≡ Some l → next_of P l ≡ Some f → Contains (waiting_of P q) f
first-waits P q l f linked whole is next = ring-first (next_of P) l (waiting_of P q) f (subst (λ (n : Option ℕ). IsRing (next_of P) n (waiting_of P q)) is (linked.rings q whole)) next

-- PUT IN

-- R is P with the links that lead to r and on
record IsReady (P R : StoredPlaces) (q r : ℕ) : Type 0 where
  same_length : length R ≡ length P
  stands : (o : ℕ) → IsStored R o → IsStored P o
  queue : IsStored R q
  lists : (u : ℕ) → waiting_of R u ≡ waiting_of P u
  lasts : (u : ℕ) → last_of R u ≡ last_of P u
  waits : waits_at R r ≡ true
  waits_on : (o : ℕ) → waits_at P o ≡ true → waits_at R o ≡ true
  next : (o : ℕ) → (o ≡ r → ⊥) → (last_of P q ≡ Some o → ⊥) → next_of R o ≡ next_of P o
  ring : IsRing (next_of R) (Some r) (waiting_of P q ++ r ∷ [])

-- T is P with r at the end of the list of q
record IsAppended (P T : StoredPlaces) (q r : ℕ) : Type 0 where
  same_length : length T ≡ length P
  stands : (o : ℕ) → IsStored T o → IsStored P o
  more : waiting_of T q ≡ waiting_of P q ++ r ∷ []
  last : last_of T q ≡ Some r
  others : (u : ℕ) → (u ≡ q → ⊥) → (waiting_of T u ≡ waiting_of P u) × (last_of T u ≡ last_of P u)
  waits : waits_at T r ≡ true
  waits_on : (o : ℕ) → waits_at P o ≡ true → waits_at T o ≡ true
  next : (o : ℕ) → (o ≡ r → ⊥) → (last_of P q ≡ Some o → ⊥) → next_of T o ≡ next_of P o
  ring : IsRing (next_of T) (Some r) (waiting_of P q ++ r ∷ [])

ready-appended : (P R : StoredPlaces) (q r : ℕ) → IsReady P R q r → IsAppended P (stored_with (with_last r) q R) q r
ready-appended P R q r ready =
    let T : StoredPlaces = stored_with (with_last r) q R in
    let at-q : stored_at T q ≡ with_last r (stored_at R q) = at-changed (with_last r) R q ready.queue in
    let waits : (o : ℕ) → waits_at T o ≡ waits_at R o = λ o. keeps (λ (x : Stored). x.state.waits) (with_last r) R q o ready.queue (λ x. refl) in
    let next : (o : ℕ) → next_of T o ≡ next_of R o = λ o. keeps (λ (x : Stored). x.next) (with_last r) R q o ready.queue (λ x. refl) in
    record {
      same_length = length-changed (with_last r) R q ∙ ready.same_length;
      stands = λ o there. ready.stands o (stood (with_last r) R q o ready.queue there);
      more = ap waiting at-q ∙ ap (λ (rs : List ℕ). rs ++ r ∷ []) (ready.lists q);
      last = ap (λ (x : Stored). x.last) at-q;
      others = λ u other. (
        ap waiting (at-other (with_last r) R q u other) ∙ ready.lists u,
        ap (λ (x : Stored). x.last) (at-other (with_last r) R q u other) ∙ ready.lasts u,
      );
      waits = waits r ∙ ready.waits;
      waits_on = λ o e. waits o ∙ ready.waits_on o e;
      next = λ o nr nl. next o ∙ ready.next o nr nl;
      ring = ring-kept (next_of R) (next_of T) (Some r) (waiting_of P q ++ r ∷ []) (λ o c. next o) ready.ring;
    }

-- the links where r is the first of the list
ready-first : (P : StoredPlaces) (q r : ℕ) → IsStored P q → IsStored P r → last_of P q ≡ None → AllStand P q → AreLinked P → IsReady P (stored_with (with_next (Some r)) r P) q r
ready-first P q r at-queue at-r is whole linked =
    let f : Stored → Stored = with_next (Some r) in
    let R : StoredPlaces = stored_with f r P in
    let empty : waiting_of P q ≡ [] = ring-none (next_of P) (waiting_of P q) (subst (λ (n : Option ℕ). IsRing (next_of P) n (waiting_of P q)) is (linked.rings q whole)) in
    let at-new : stored_at R r ≡ f (stored_at P r) = at-changed f P r at-r in
    let waits : waits_at R r ≡ true = ap (λ (x : Stored). x.state.waits) at-new in
    record {
      same_length = length-changed f P r;
      stands = λ o there. stood f P r o at-r there;
      queue = stays f P r q at-r at-queue;
      lists = λ u. keeps waiting f P r u at-r (λ x. refl);
      lasts = λ u. keeps (λ (x : Stored). x.last) f P r u at-r (λ x. refl);
      waits = waits;
      waits_on = waits-kept f P r at-r waits;
      next = λ o nr nl. ap (λ (x : Stored). x.next) (at-other f P r o nr);
      ring = ring-at (next_of R) (Some r) (Some r) (r ∷ []) (waiting_of P q ++ r ∷ []) refl (ap (λ (rs : List ℕ). rs ++ r ∷ []) (sym empty)) (ring-one (next_of R) r (ap (λ (x : Stored). x.next) at-new));
    }

abbrev behind : ℕ → ℕ → StoredPlaces → StoredPlaces
behind l r P = stored_with (with_next (Some r)) l (stored_with (with_next (next_of P l)) r P)

-- the links where r comes behind l
ready-behind : (P : StoredPlaces) (q r l : ℕ) → IsStored P q → IsStored P r → IsStored P l → (r ≡ l → ⊥) → (Contains (waiting_of P q) r → ⊥) → last_of P q ≡ Some l → AllStand P q → AreLinked P → IsReady P (behind l r P) q r
ready-behind P q r l at-queue at-r at-l apart free is whole linked =
    let f : Stored → Stored = with_next (next_of P l) in
    let g : Stored → Stored = with_next (Some r) in
    let S : StoredPlaces = stored_with f r P in
    let R : StoredPlaces = stored_with g l S in
    let ring : IsRing (next_of P) (Some l) (waiting_of P q) = subst (λ (n : Option ℕ). IsRing (next_of P) n (waiting_of P q)) is (linked.rings q whole) in
    let l-in-S : IsStored S l = stays f P r l at-r at-l in
    let at-new : stored_at S r ≡ f (stored_at P r) = at-changed f P r at-r in
    let at-last : stored_at R l ≡ g (stored_at S l) = at-changed g S l l-in-S in
    let new-in-R : stored_at R r ≡ stored_at S r = at-other g S l r apart in
    let waits-S : waits_at S r ≡ true = ap (λ (x : Stored). x.state.waits) at-new ∙ some-next (next_of P) l (waiting_of P q) ring in
    let waits-l : waits_at R l ≡ true = ap (λ (x : Stored). x.state.waits) at-last in
    let next : (o : ℕ) → (o ≡ r → ⊥) → (o ≡ l → ⊥) → next_of R o ≡ next_of P o = λ o nr nl. ap (λ (x : Stored). x.next) (at-other g S l o nl ∙ at-other f P r o nr) in
    record {
      same_length = length-changed g S l ∙ length-changed f P r;
      stands = λ o there. stood f P r o at-r (stood g S l o l-in-S there);
      queue = stays g S l q l-in-S (stays f P r q at-r at-queue);
      lists = λ u. keeps waiting g S l u l-in-S (λ x. refl) ∙ keeps waiting f P r u at-r (λ x. refl);
      lasts = λ u. keeps (λ (x : Stored). x.last) g S l u l-in-S (λ x. refl) ∙ keeps (λ (x : Stored). x.last) f P r u at-r (λ x. refl);
      waits = ap (λ (x : Stored). x.state.waits) new-in-R ∙ waits-S;
      waits_on = λ o e. waits-kept g S l l-in-S waits-l o (waits-kept f P r at-r waits-S o e);
      next = λ o nr nl. next o nr (λ e. nl (is ∙ ap (λ (x : ℕ). Some x) (sym e)));
      ring = ring-more (next_of P) (next_of R) l r (waiting_of P q)
          (λ o c nl. next o (λ e. free (subst (λ (x : ℕ). Contains (waiting_of P q) x) e c)) nl)
          (ap (λ (x : Stored). x.next) at-last)
          (ap (λ (x : Stored). x.next) (new-in-R ∙ at-new))
          (linked.once q) ring;
    }

-- who waits in T
appended_who : (P T : StoredPlaces) (q r : ℕ) → IsAppended P T q r → (u o : ℕ) → Contains (waiting_of T u) o → Contains (waiting_of P u) o ⊎ ((u ≡ q) × (o ≡ r))
appended_who P T q r new u o c =
    elim (cases_eq u q) [
      | inl e ↦
          let d : Contains (waiting_of P q ++ r ∷ []) o = subst (λ (rs : List ℕ). Contains rs o) (ap (waiting_of T) e ∙ new.more) c in
          elim (Contains-append_cases (waiting_of P q) (r ∷ []) o d) [
            | inl before ↦ inl (subst (λ (v : ℕ). Contains (waiting_of P v) o) (sym e) before)
            | inr there ↦ elim (Contains-cons r [] o there) [
              | inl same ↦ inr (e, sym same)
              | inr none ↦ absurd (Contains-none o none)
            ]
          ]
      | inr other ↦ inl (subst (λ (rs : List ℕ). Contains rs o) (new.others u other).0 c)
    ]

once_appended : (P T : StoredPlaces) (q r : ℕ) → IsAppended P T q r → AreLinked P → (Contains (waiting_of P q) r → ⊥) → (u : ℕ) → StandOnce (waiting_of T u)
once_appended P T q r new linked free u =
    elim (cases_eq u q) [
      | inl e ↦ subst StandOnce (sym (ap (waiting_of T) e ∙ new.more)) (once-more (waiting_of P q) r free (linked.once q))
      | inr other ↦ subst StandOnce (sym (new.others u other).0) (linked.once u)
    ]

-- the ring of an object whose list stays as it is
ring_elsewhere : (P T : StoredPlaces) (q u : ℕ) → AreLinked P → AllStand P q → (u ≡ q → ⊥)
    → (waiting_of T u ≡ waiting_of P u) × (last_of T u ≡ last_of P u) → ((o : ℕ) → IsStored T o → IsStored P o)
    → ((o : ℕ) → Contains (waiting_of P u) o → (last_of P q ≡ Some o → ⊥) → next_of T o ≡ next_of P o)
    → AllStand T u → IsRing (next_of T) (last_of T u) (waiting_of T u)
ring_elsewhere P T q u linked whole other as_before stands next all =
    let before : AllStand P u = λ o c. stands o (all o (subst (λ (rs : List ℕ). Contains rs o) (sym as_before.0) c)) in
    ring-at (next_of T) (last_of P u) (last_of T u) (waiting_of P u) (waiting_of T u) (sym as_before.1) (sym as_before.0)
    (ring-kept (next_of P) (next_of T) (last_of P u) (waiting_of P u)
    (λ o c. next o c (λ l. other (linked.apart u q o c (last-waits P q o linked whole l))))
    (linked.rings u before))

ring_appended : (P T : StoredPlaces) (q r : ℕ) → IsAppended P T q r → AreLinked P → AllStand P q → ((u : ℕ) → Contains (waiting_of P u) r → ⊥) → (u : ℕ) → AllStand T u → IsRing (next_of T) (last_of T u) (waiting_of T u)
ring_appended P T q r new linked whole free u all =
    elim (cases_eq u q) [
      | inl e ↦ ring-at (next_of T) (Some r) (last_of T u) (waiting_of P q ++ r ∷ []) (waiting_of T u) (sym (ap (last_of T) e ∙ new.last)) (sym (ap (waiting_of T) e ∙ new.more)) new.ring
      | inr other ↦
          ring_elsewhere P T q u linked whole other (new.others u other) new.stands
          (λ o c. new.next o (λ e. free u (subst (λ (x : ℕ). Contains (waiting_of P u) x) e c))) all
    ]

appended-linked : (P T : StoredPlaces) (q r : ℕ) → IsAppended P T q r → AreLinked P → AllStand P q → IsStored P r → ((u : ℕ) → Contains (waiting_of P u) r → ⊥) → AreLinked T
appended-linked P T q r new linked whole at-r free = record {
  made = λ u o c. elim (appended_who P T q r new u o c) [
    | inl d ↦ let lt = linked.made u o d in let e = new.same_length in omega arith
    | inr is ↦ let lt = there_below P r at-r in let e = new.same_length in let same = is.1 in omega arith
  ];
  once = λ u. once_appended P T q r new linked (free q) u;
  apart = λ u v o c d. elim (appended_who P T q r new u o c) [
    | inl c' ↦ elim (appended_who P T q r new v o d) [
      | inl d' ↦ linked.apart u v o c' d'
      | inr is ↦ absurd (free u (subst (λ (x : ℕ). Contains (waiting_of P u) x) is.1 c'))
    ]
    | inr is ↦ elim (appended_who P T q r new v o d) [
      | inl d' ↦ absurd (free v (subst (λ (x : ℕ). Contains (waiting_of P v) x) is.1 d'))
      | inr also ↦ is.0 ∙ sym also.0
    ]
  ];
  marked = λ u o c there. elim (appended_who P T q r new u o c) [
    | inl d ↦ new.waits_on o (linked.marked u o d (new.stands o there))
    | inr is ↦ subst (λ (x : ℕ). waits_at T x ≡ true) (sym is.1) new.waits
  ];
  rings = λ u all. ring_appended P T q r new linked whole free u all;
}

-- a reference that does not wait stands in no list
pub waits_nowhere : (P : StoredPlaces) (r : ℕ) → AreLinked P → IsStored P r → waits_at P r ≡ false → (u : ℕ) → Contains (waiting_of P u) r → ⊥
waits_nowhere P r linked at-r free u c = false≢true (sym free ∙ linked.marked u r c at-r)

pub record IsPutIn (P T : StoredPlaces) (q r : ℕ) : Type 0 where
  pub linked : AreLinked T
  pub state : states_of T ≡ changed_at (with_one_waiting r) q (changed_at (with_waits true) r (states_of P))

put_in_first : (P : StoredPlaces) (q r : ℕ) → IsStored P q → IsStored P r → AllStand P q → AreLinked P → waits_at P r ≡ false → last_of P q ≡ None → IsPutIn P (linked_behind None q r P) q r
put_in_first P q r at-queue at-r whole linked free is =
    let f : Stored → Stored = with_next (Some r) in
    let R : StoredPlaces = stored_with f r P in
    record {
      linked = appended-linked P (stored_with (with_last r) q R) q r (ready-appended P R q r (ready-first P q r at-queue at-r is whole linked)) linked whole at-r (waits_nowhere P r linked at-r free);
      state = changed-shown (with_one_waiting r) (with_last r) R q (λ x. refl) ∙ ap (changed_at (with_one_waiting r) q) (changed-shown (with_waits true) f P r (λ x. refl));
    }

put_in_behind : (P : StoredPlaces) (q r l : ℕ) → IsStored P q → IsStored P r → AllStand P q → AreLinked P → waits_at P r ≡ false → last_of P q ≡ Some l → IsPutIn P (linked_behind (Some l) q r P) q r
put_in_behind P q r l at-queue at-r whole linked free is =
    let f : Stored → Stored = with_next (next_of P l) in
    let g : Stored → Stored = with_next (Some r) in
    let S : StoredPlaces = stored_with f r P in
    let R : StoredPlaces = stored_with g l S in
    let nowhere = waits_nowhere P r linked at-r free in
    let in-list : Contains (waiting_of P q) l = last-waits P q l linked whole is in
    let at-l : IsStored P l = whole l in-list in
    let apart : r ≡ l → ⊥ = λ e. nowhere q (subst (λ (x : ℕ). Contains (waiting_of P q) x) (sym e) in-list) in
    let ring : IsRing (next_of P) (Some l) (waiting_of P q) = subst (λ (n : Option ℕ). IsRing (next_of P) n (waiting_of P q)) is (linked.rings q whole) in
    let l-in-S : IsStored S l = stays f P r l at-r at-l in
    let waits-l : waits_at S l ≡ true = ap (λ (x : Stored). x.state.waits) (at-other f P r l (λ e. apart (sym e))) ∙ linked.marked q l in-list at-l in
    let first : states_of S ≡ changed_at (with_waits true) r (states_of P) =
    changed-shown (with_waits (is_some (next_of P l))) f P r (λ x. refl) ∙ ap (λ (b : Bool). changed_at (with_waits b) r (states_of P)) (some-next (next_of P) l (waiting_of P q) ring) in
    let second : states_of R ≡ states_of S =
    changed-shown (with_waits true) g S l (λ x. refl)
    ∙ changed-same (with_waits true) (states_of S) l (held-stored S l l-in-S) (same-waits (object_at (states_of S) l) (ap (λ (x : ObjectState). x.waits) (object-shown S l) ∙ waits-l)) in
    record {
      linked = appended-linked P (stored_with (with_last r) q R) q r (ready-appended P R q r (ready-behind P q r l at-queue at-r at-l apart (nowhere q) is whole linked)) linked whole at-r nowhere;
      state = changed-shown (with_one_waiting r) (with_last r) R q (λ x. refl) ∙ ap (changed_at (with_one_waiting r) q) (second ∙ first);
    }

put_in_any : (P : StoredPlaces) (q r : ℕ) (n : Option ℕ) → IsStored P q → IsStored P r → AllStand P q → AreLinked P → waits_at P r ≡ false → last_of P q ≡ n → IsPutIn P (linked_behind n q r P) q r
put_in_any P q r None at-queue at-r whole linked free is = put_in_first P q r at-queue at-r whole linked free is
put_in_any P q r (Some l) at-queue at-r whole linked free is = put_in_behind P q r l at-queue at-r whole linked free is

pub put-in : (P : StoredPlaces) (q r : ℕ) → IsStored P q → IsStored P r → AllStand P q → AreLinked P → waits_at P r ≡ false → IsPutIn P (linked_behind (last_of P q) q r P) q r
put-in P q r at-queue at-r whole linked free = put_in_any P q r (last_of P q) at-queue at-r whole linked free refl

-- the same of a heap
pub put-in-heap : (heap : Objects) (P T : StoredPlaces) (q r : ℕ) → states_of P ≡ heap → IsHeld heap r → HasQueue heap r → (object_at heap r).queue ≡ Some q → waits_at P r ≡ false → AreLinked P → T ≡ put_last q r P → AreLinked T × (states_of T ≡ enqueued r heap)
put-in-heap heap P T q r view held has queue free links is =
    let put = put-in P q r (there heap P q view (has.held q queue)) (there heap P r view held) (all-there heap P q view (has.whole q queue)) links free in
    let waits : (object_at heap r).waits ≡ false = sym (ap (λ (x : ObjectState). x.waits) (shows heap P r view)) ∙ free in
    let goal : put_in (Some q) false r heap ≡ enqueued r heap =
    sym (ap (λ (n : Option ℕ). put_in n (object_at heap r).waits r heap) queue ∙ ap (λ (b : Bool). put_in (Some q) b r heap) waits) in
    (subst AreLinked (sym is) put.linked, ap states_of is ∙ (put.state ∙ (ap (λ (h : Objects). changed_at (with_one_waiting r) q (changed_at (with_waits true) r h)) view ∙ goal)))

-- TAKEN OUT

-- R is P with the links that leave the first reference out, and l is the last
record IsSkipped (P R : StoredPlaces) (q w : ℕ) (n : Option ℕ) (rest : List ℕ) : Type 0 where
  same_length : length R ≡ length P
  stands : (o : ℕ) → IsStored R o → IsStored P o
  stays_on : (o : ℕ) → IsStored P o → IsStored R o
  lists : (u : ℕ) → waiting_of R u ≡ waiting_of P u
  lasts : (u : ℕ) → last_of R u ≡ last_of P u
  waits_on : (o : ℕ) → waits_at P o ≡ true → waits_at R o ≡ true
  next : (o : ℕ) → (last_of P q ≡ Some o → ⊥) → next_of R o ≡ next_of P o
  ring : IsRing (next_of R) n rest

-- T is P without w at the beginning of the list of q
record IsShortened (P T : StoredPlaces) (q w : ℕ) (n : Option ℕ) (rest : List ℕ) : Type 0 where
  same_length : length T ≡ length P
  stands : (o : ℕ) → IsStored T o → IsStored P o
  fewer : waiting_of T q ≡ rest
  last : last_of T q ≡ n
  others : (u : ℕ) → (u ≡ q → ⊥) → (waiting_of T u ≡ waiting_of P u) × (last_of T u ≡ last_of P u)
  waits_on : (o : ℕ) → (o ≡ w → ⊥) → waits_at P o ≡ true → waits_at T o ≡ true
  next : (o : ℕ) → (o ≡ w → ⊥) → (last_of P q ≡ Some o → ⊥) → next_of T o ≡ next_of P o
  ring : IsRing (next_of T) n rest

abbrev skipped : ℕ → ℕ → Option ℕ → StoredPlaces → StoredPlaces
skipped q w n R = stored_with (with_next None) w (stored_with (without_first n) q R)

skipped-shortened : (P R : StoredPlaces) (q w : ℕ) (n : Option ℕ) (rest : List ℕ) → IsStored P q → IsStored P w → waiting_of P q ≡ w ∷ rest → (Contains rest w → ⊥) → IsSkipped P R q w n rest → IsShortened P (skipped q w n R) q w n rest
skipped-shortened P R q w n rest at-queue at-w is once ready =
    let f : Stored → Stored = without_first n in
    let g : Stored → Stored = with_next None in
    let S : StoredPlaces = stored_with f q R in
    let T : StoredPlaces = stored_with g w S in
    let queue : IsStored R q = ready.stays_on q at-queue in
    let w-in-S : IsStored S w = stays f R q w queue (ready.stays_on w at-w) in
    let at-q : stored_at S q ≡ f (stored_at R q) = at-changed f R q queue in
    let lists : (u : ℕ) → waiting_of T u ≡ waiting_of S u = λ u. keeps waiting g S w u w-in-S (λ x. refl) in
    let lasts : (u : ℕ) → last_of T u ≡ last_of S u = λ u. keeps (λ (x : Stored). x.last) g S w u w-in-S (λ x. refl) in
    let next : (o : ℕ) → (o ≡ w → ⊥) → next_of T o ≡ next_of R o = λ o nw. ap (λ (x : Stored). x.next) (at-other g S w o nw) ∙ keeps (λ (x : Stored). x.next) f R q o queue (λ x. refl) in
    record {
      same_length = length-changed g S w ∙ (length-changed f R q ∙ ready.same_length);
      stands = λ o there. ready.stands o (stood f R q o queue (stood g S w o w-in-S there));
      fewer = lists q ∙ (ap waiting at-q ∙ ap (λ (rs : List ℕ). drop 1 rs) (ready.lists q ∙ is));
      last = lasts q ∙ ap (λ (x : Stored). x.last) at-q;
      others = λ u other. (
        lists u ∙ (ap waiting (at-other f R q u other) ∙ ready.lists u),
        lasts u ∙ (ap (λ (x : Stored). x.last) (at-other f R q u other) ∙ ready.lasts u),
      );
      waits_on = λ o nw e.
          ap (λ (x : Stored). x.state.waits) (at-other g S w o nw) ∙ (keeps (λ (x : Stored). x.state.waits) f R q o queue (λ x. refl) ∙ ready.waits_on o e);
      next = λ o nw nl. next o nw ∙ ready.next o nl;
      ring = ring-kept (next_of R) (next_of T) n rest (λ o c. next o (λ e. once (subst (λ (x : ℕ). Contains rest x) e c))) ready.ring;
    }

shortened_who : (P T : StoredPlaces) (q w : ℕ) (n : Option ℕ) (rest : List ℕ) → IsShortened P T q w n rest → AreLinked P → waiting_of P q ≡ w ∷ rest → (Contains rest w → ⊥) → (u o : ℕ) → Contains (waiting_of T u) o → Contains (waiting_of P u) o × (o ≡ w → ⊥)
shortened_who P T q w n rest new linked is once u o c =
    elim (cases_eq u q) [
      | inl e ↦
          let d : Contains rest o = subst (λ (rs : List ℕ). Contains rs o) (ap (waiting_of T) e ∙ new.fewer) c in
          (subst (λ (rs : List ℕ). Contains rs o) (sym (ap (waiting_of P) e ∙ is)) (Contains-there w rest o d), λ same. once (subst (λ (x : ℕ). Contains rest x) same d))
      | inr other ↦
          let d : Contains (waiting_of P u) o = subst (λ (rs : List ℕ). Contains rs o) (new.others u other).0 c in
          let first : Contains (waiting_of P q) w = subst (λ (rs : List ℕ). Contains rs w) (sym is) (Contains-here w rest) in
          (d, λ same. other (linked.apart u q w (subst (λ (x : ℕ). Contains (waiting_of P u) x) same d) first))
    ]

once_shortened : (P T : StoredPlaces) (q w : ℕ) (n : Option ℕ) (rest : List ℕ) → IsShortened P T q w n rest → AreLinked P → StandOnce rest → (u : ℕ) → StandOnce (waiting_of T u)
once_shortened P T q w n rest new linked once u =
    elim (cases_eq u q) [
      | inl e ↦ subst StandOnce (sym (ap (waiting_of T) e ∙ new.fewer)) once
      | inr other ↦ subst StandOnce (sym (new.others u other).0) (linked.once u)
    ]

ring_shortened : (P T : StoredPlaces) (q w : ℕ) (n : Option ℕ) (rest : List ℕ) → IsShortened P T q w n rest → AreLinked P → AllStand P q → waiting_of P q ≡ w ∷ rest → (Contains rest w → ⊥) → (u : ℕ) → AllStand T u → IsRing (next_of T) (last_of T u) (waiting_of T u)
ring_shortened P T q w n rest new linked whole is once u all =
    elim (cases_eq u q) [
      | inl e ↦ ring-at (next_of T) n (last_of T u) rest (waiting_of T u) (sym (ap (last_of T) e ∙ new.last)) (sym (ap (waiting_of T) e ∙ new.fewer)) new.ring
      | inr other ↦
          let same = new.others u other in
          ring_elsewhere P T q u linked whole other same new.stands
          (λ o c. new.next o (shortened_who P T q w n rest new linked is once u o (subst (λ (rs : List ℕ). Contains rs o) (sym same.0) c)).1) all
    ]

shortened-linked : (P T : StoredPlaces) (q w : ℕ) (n : Option ℕ) (rest : List ℕ) → IsShortened P T q w n rest → AreLinked P → AllStand P q → waiting_of P q ≡ w ∷ rest → StandOnce (w ∷ rest) → AreLinked T
shortened-linked P T q w n rest new linked whole is once =
    let who : (u o : ℕ) → Contains (waiting_of T u) o → Contains (waiting_of P u) o × (o ≡ w → ⊥) = shortened_who P T q w n rest new linked is once.0 in
    record {
      made = λ u o c. let lt = linked.made u o (who u o c).0 in let e = new.same_length in omega arith;
      once = λ u. once_shortened P T q w n rest new linked once.1 u;
      apart = λ u v o c d. linked.apart u v o (who u o c).0 (who v o d).0;
      marked = λ u o c there. new.waits_on o (who u o c).1 (linked.marked u o (who u o c).0 (new.stands o there));
      rings = λ u all. ring_shortened P T q w n rest new linked whole is once.0 u all;
    }

pub record IsTakenOut (P T : StoredPlaces) (q w : ℕ) : Type 0 where
  pub linked : AreLinked T
  pub state : states_of T ≡ changed_at (with_waits false) w (changed_at without_first_waiting q (states_of P))

skipped-taken : (P R : StoredPlaces) (q w : ℕ) (n : Option ℕ) (rest : List ℕ) → IsStored P q → AllStand P q → AreLinked P → waiting_of P q ≡ w ∷ rest → IsSkipped P R q w n rest → states_of R ≡ states_of P → IsTakenOut P (skipped q w n R) q w
skipped-taken P R q w n rest at-queue whole linked is ready same =
    let once : StandOnce (w ∷ rest) = subst StandOnce is (linked.once q) in
    let at-w : IsStored P w = whole w (subst (λ (rs : List ℕ). Contains rs w) (sym is) (Contains-here w rest)) in
    let S : StoredPlaces = stored_with (without_first n) q R in
    record {
      linked = shortened-linked P (skipped q w n R) q w n rest (skipped-shortened P R q w n rest at-queue at-w is once.0 ready) linked whole is once;
      state =
          changed-shown (with_waits false) (with_next None) S w (λ x. refl)
          ∙ ap (changed_at (with_waits false) w) (changed-shown without_first_waiting (without_first n) R q (λ x. refl) ∙ ap (changed_at without_first_waiting q) same);
    }

-- the only reference
skipped-only : (P : StoredPlaces) (q w : ℕ) → IsSkipped P P q w None []
skipped-only P q w = record {
  same_length = refl;
  stands = λ o there. there;
  stays_on = λ o there. there;
  lists = λ u. refl;
  lasts = λ u. refl;
  waits_on = λ o e. e;
  next = λ o nl. refl;
  ring = refl;
}

abbrev past : ℕ → ℕ → StoredPlaces → StoredPlaces
past l w P = stored_with (with_next (next_of P w)) l P

past_state : (P : StoredPlaces) (l w s : ℕ) → IsStored P l → waits_at P l ≡ true → next_of P w ≡ Some s → states_of (past l w P) ≡ states_of P
past_state P l w s at-l waits second =
    changed-shown (with_waits (is_some (next_of P w))) (with_next (next_of P w)) P l (λ x. refl)
    ∙ (ap (λ (n : Option ℕ). changed_at (with_waits (is_some n)) l (states_of P)) second
    ∙ changed-same (with_waits true) (states_of P) l (held-stored P l at-l) (same-waits (object_at (states_of P) l) (ap (λ (x : ObjectState). x.waits) (object-shown P l) ∙ waits)))

-- the first of two or more
skipped-first : (P : StoredPlaces) (q w l s : ℕ) (ss : List ℕ) → IsStored P l → StandOnce (w ∷ s ∷ ss) → last_of P q ≡ Some l → IsRing (next_of P) (Some l) (w ∷ s ∷ ss) → IsSkipped P (past l w P) q w (Some l) (s ∷ ss)
skipped-first P q w l s ss at-l once is ring =
    let f : Stored → Stored = with_next (next_of P w) in
    let R : StoredPlaces = stored_with f l P in
    let at-last : stored_at R l ≡ f (stored_at P l) = at-changed f P l at-l in
    let next : (o : ℕ) → (o ≡ l → ⊥) → next_of R o ≡ next_of P o = λ o nl. ap (λ (x : Stored). x.next) (at-other f P l o nl) in
    record {
      same_length = length-changed f P l;
      stands = λ o there. stood f P l o at-l there;
      stays_on = λ o there. stays f P l o at-l there;
      lists = λ u. keeps waiting f P l u at-l (λ x. refl);
      lasts = λ u. keeps (λ (x : Stored). x.last) f P l u at-l (λ x. refl);
      waits_on = waits-kept f P l at-l (ap (λ (x : Stored). x.state.waits) at-last ∙ ap is_some ring.1.0);
      next = λ o nl. next o (λ e. nl (is ∙ ap (λ (x : ℕ). Some x) (sym e)));
      ring = ring-fewer (next_of P) (next_of R) l w s ss (λ o c nl. next o nl) (ap (λ (x : Stored). x.next) at-last) once ring;
    }

-- WHAT IS ANSWERED, AND WHAT IS LEFT

pub record IsPolled (P T : StoredPlaces) (q : ℕ) (f : Option ℕ) (rs : List ℕ) : Type 0 where
  pub value : referent_value f ≡ first_value rs
  pub linked : AreLinked T
  pub state : states_of T ≡ take_first rs q (states_of P)

poll_only : (P : StoredPlaces) (q l w : ℕ) → IsStored P q → AllStand P q → AreLinked P → last_of P q ≡ Some l → waiting_of P q ≡ w ∷ [] → IsRing (next_of P) (Some l) (w ∷ []) → IsPolled P (without_link (Some l) (Some w) q P) q (Some w) (w ∷ [])
poll_only P q l w at-queue whole linked is list ring =
    let taken = skipped-taken P P q w None [] at-queue whole linked list (skipped-only P q w) refl in
    let chosen : links_without true l w q P ≡ without_link (Some l) (Some w) q P = ap (λ (b : Bool). links_without b l w q P) (sym (eq-eqb w l ring.1)) in
    record {
      value = refl;
      linked = subst AreLinked chosen taken.linked;
      state = ap states_of (sym chosen) ∙ taken.state;
    }

poll_first : (P : StoredPlaces) (q l w s : ℕ) (ss : List ℕ) → IsStored P q → AllStand P q → AreLinked P → last_of P q ≡ Some l → waiting_of P q ≡ w ∷ s ∷ ss → IsRing (next_of P) (Some l) (w ∷ s ∷ ss) → IsPolled P (without_link (Some l) (Some w) q P) q (Some w) (w ∷ s ∷ ss)
poll_first P q l w s ss at-queue whole linked is list ring =
    let once : StandOnce (w ∷ s ∷ ss) = subst StandOnce list (linked.once q) in
    let in-list : Contains (waiting_of P q) l = last-waits P q l linked whole is in
    let at-l : IsStored P l = whole l in-list in
    let apart : w ≡ l → ⊥ = way-goes_on (next_of P) w s ss l once ring.1.1 in
    let taken = skipped-taken P (past l w P) q w (Some l) (s ∷ ss) at-queue whole linked list (skipped-first P q w l s ss at-l once is ring) (past_state P l w s at-l (linked.marked q l in-list at-l) ring.1.0) in
    let chosen : links_without false l w q P ≡ without_link (Some l) (Some w) q P = ap (λ (b : Bool). links_without b l w q P) (sym (ne_eqb w l apart)) in
    record {
      value = refl;
      linked = subst AreLinked chosen taken.linked;
      state = ap states_of (sym chosen) ∙ taken.state;
    }

poll_some : (P : StoredPlaces) (q l w : ℕ) (rest : List ℕ) → IsStored P q → AllStand P q → AreLinked P → last_of P q ≡ Some l → waiting_of P q ≡ w ∷ rest → IsRing (next_of P) (Some l) (w ∷ rest) → IsPolled P (without_link (Some l) (Some w) q P) q (Some w) (w ∷ rest)
poll_some P q l w [] at-queue whole linked is list ring = poll_only P q l w at-queue whole linked is list ring
poll_some P q l w (s ∷ ss) at-queue whole linked is list ring = poll_first P q l w s ss at-queue whole linked is list ring

poll_any : (P : StoredPlaces) (q : ℕ) (n : Option ℕ) (rs : List ℕ) → IsStored P q → AllStand P q → AreLinked P → last_of P q ≡ n → waiting_of P q ≡ rs → IsRing (next_of P) n rs → IsPolled P (without_link n (first_behind P n) q P) q (first_behind P n) rs
poll_any P q n [] at-queue whole linked is list ring =
    subst (λ (m : Option ℕ). IsPolled P (without_link m (first_behind P m) q P) q (first_behind P m) []) (sym ring) (record { value = refl; linked = linked; state = refl })
poll_any P q None (w ∷ rest) at-queue whole linked is list ring = absurd ring
poll_any P q (Some l) (w ∷ rest) at-queue whole linked is list ring =
    subst (λ (f : Option ℕ). IsPolled P (without_link (Some l) f q P) q f (w ∷ rest)) (sym ring.0) (poll_some P q l w rest at-queue whole linked is list ring)

pub poll : (P : StoredPlaces) (q : ℕ) → IsStored P q → AllStand P q → AreLinked P → IsPolled P (first_unlinked q P) q (first_behind P (last_of P q)) (waiting_of P q)
poll P q at-queue whole linked = poll_any P q (last_of P q) (waiting_of P q) at-queue whole linked refl refl (linked.rings q whole)
