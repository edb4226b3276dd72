-- The law of drafts over states: what each kind of call does to an event under way.
use Rattle.std.proofs.Common.{◌≡◌, ℕ, zero, suc, ◌+◌, ◌-◌, ◌<◌, ◌≤◌, ◌⊎◌, List, [], ◌∷◌, ◌++◌, length, set, map, Option, Some, None, Contains, refl, sym, ap, ◌∙◌, subst, inl, inr, arith, get_or-set_same}
use Rattle.std.proofs.lemmas.List.{length-set, length_push}
use Rattle.std.proofs.lemmas.Bool.{cases_eq}
use Rattle.std.proofs.lemmas.List.Elements.{Contains-append_left, Contains-append_right, Contains-append_cases}
use Rattle.et_graph.specs.Graph.{IsMade, IsReached, IsSoundGraph}
use Rattle.et_graph.specs.Steps.{IsDraft}
use Rattle.et_graph.specs.Drafts.{IsMove, IsMaking}
use Rattle.et_base.proofs.Lists.{Contains-none, Contains-here}
use Rattle.et_graph.proofs.Walks.{root_reached, reached_on}
use Rattle.et_graph.proofs.DraftLaws.{draft_start, draft_move, draft_making, draft_end}
use Rattle.et_heap.specs.Objects.{ObjectState, Objects, at, found, is_there, IsHeld, object_at, with_object_at}
use Rattle.std.specs.Option.{option_to_list}
use Rattle.et_heap.specs.Refs.{refs_of, leads_to, targets_of, pairs_from, pairs_of, gone_of}
use Rattle.et_heap.proofs.HeapLists.{pair_at, at_pair, held_within, pair_held, gone_at, gone_set, gone_push, pairs_push, held_set, set_held, held_push}
use Rattle.et_state.specs.State.{GuestState, Kept}
use Rattle.et_state.specs.Words.{ticked}
use Rattle.et_state.specs.Roots.{roots_of, graph_of, numbers_from, fresh_of, state_step}
use Rattle.et_state.specs.Sound.{IsSound}
use Rattle.et_state.specs.Moves.{Moves, WasThere, MayBeTied, IsUnderWay, IsEventOf}

held_positive : (s : Kept) (o : ℕ) → IsSound s → IsHeld s.heap o → 0 < o
held_positive s zero sound h = absurd (sound.none h)
held_positive s (suc o) sound h = omega arith

held_made : (s : Kept) (o : ℕ) → IsSound s → IsHeld s.heap o → (0 < o) × (o ≤ length s.heap - 1)
held_made s o sound h =
    let lt = held_within s.heap o h in
    let p = held_positive s o sound h in
    (p, omega arith)

-- the graph of a sound state is sound
pub sound_graph : (s : Kept) → IsSound s → IsSoundGraph (graph_of s)
sound_graph s sound = record {
  roots_made = λ r c. held_made s r sound (sound.roots r c);
  pairs_made = λ u x c. (held_made s u sound (pair_held s.heap u x (pair_at s.heap u x c)), held_made s x sound (sound.slots u x c));
  gone_made = λ o c. let h = gone_at s.heap o c in let lt = h.1 in (h.0, omega arith);
  roots_held = λ r c g. (gone_at s.heap r g).2 (sound.roots r c);
  gone_before = λ u x c g. absurd ((gone_at s.heap x g).2 (sound.slots u x c));
}

-- START: nothing has changed but the clock
pub start : (s : Kept) → IsSound s → IsUnderWay s (record { heap = s.heap; guest = ticked s.guest }) []
start s sound =
    let zero_more : length s.heap - length s.heap ≡ 0 = omega arith in
    let none : [] ≡ numbers_from (length s.heap) (length s.heap - length s.heap) = sym (ap (λ (n : ℕ). numbers_from (length s.heap) n) zero_more) in
    record {
      first = sound;
      draft = subst (λ (os : List ℕ). IsDraft (graph_of s) (record { after = graph_of s; fresh = os; lost = [] })) none (draft_start (graph_of s) (sound_graph s sound));
      sound = record { room = sound.room; none = sound.none; roots = sound.roots; slots = sound.slots; referents = sound.referents };
    }

-- what is held now was made by now, and was not gone at first
held_now : (s x : Kept) (lost : List ℕ) → IsUnderWay s x lost → (o : ℕ) → IsHeld x.heap o → IsMade (graph_of x) o × ¬ Contains (gone_of s.heap) o
held_now s x lost w o h = (held_made x o w.sound h, λ c. (gone_at x.heap o (subst (λ (os : List ℕ). Contains os o) (sym w.draft.gone) c)).2 h)

-- THE GUEST: a call that changes root places
pub law_guest : (s x : Kept) (lost : List ℕ) (g : GuestState) (l : List ℕ) → IsUnderWay s x lost → Moves (IsHeld x.heap) (WasThere s x) (roots_of x.guest) (roots_of g) l → IsUnderWay s (record { heap = x.heap; guest = g }) (lost ++ l)
law_guest s x lost g l w m =
    let move : IsMove (graph_of s) (state_step s x lost) (state_step s (record { heap = x.heap; guest = g }) (lost ++ l)) = record {
      fresh = refl;
      made = refl;
      gone = refl;
      lost_kept = λ o c. Contains-append_left lost l o c;
      lost_known = λ o c. elim (Contains-append_cases lost l o c) [ inl d ↦ inl d | inr d ↦ inr (m.was o d) ];
      roots_off = λ r c d out. elim (m.off r d) [ inl e ↦ absurd (out e) | inr e ↦ Contains-append_right lost l r e ];
      roots_on = λ r c. elim (m.on r c) [ inl d ↦ inl d | inr h ↦ inr (held_now s x lost w r h) ];
      pairs_off = λ u z c d out. absurd (out d);
      pairs_on = λ u z c. inl c;
    } in
    record {
      first = w.first;
      draft = draft_move (graph_of s) (state_step s x lost) (state_step s (record { heap = x.heap; guest = g }) (lost ++ l)) (sound_graph s w.first) w.draft move;
      sound = record {
        room = w.sound.room;
        none = w.sound.none;
        roots = λ o c. elim (m.on o c) [ inl d ↦ w.sound.roots o d | inr h ↦ h ];
        slots = w.sound.slots;
        referents = w.sound.referents;
      };
    }

-- LOSE: an object that was reached is listed
pub law_lose : (s x : Kept) (lost : List ℕ) (l : List ℕ) → IsUnderWay s x lost → ((o : ℕ) → Contains l o → WasThere s x o) → IsUnderWay s x (lost ++ l)
law_lose s x lost l w was =
    law_guest s x lost x.guest l w (record { on = λ o c. inl c; off = λ o c. inl c; was = was })

-- THE HEAP: a call that changes what an object leads to, or its referent
pub targets_found : (x : Option ObjectState) → targets_of x ≡ leads_to (found x)
targets_found None = refl
targets_found (Some x) = refl

pub set_pair_same : (xs : Objects) (o : ℕ) (y : ObjectState) (z : ℕ) → o < length xs → Contains (pairs_of (set xs o (Some y))) (o, z) → Contains (leads_to y) z
set_pair_same xs o y z lt c = subst (λ (v : Option ObjectState). Contains (targets_of v) z) (get_or-set_same xs o (Some y) None lt) (pair_at (set xs o (Some y)) o z c)

pair_set_same : (xs : Objects) (o : ℕ) (y : ObjectState) (z : ℕ) → o < length xs → Contains (leads_to y) z → Contains (pairs_of (set xs o (Some y))) (o, z)
pair_set_same xs o y z lt c = at_pair (set xs o (Some y)) o z (subst (λ (v : Option ObjectState). Contains (targets_of v) z) (sym (get_or-set_same xs o (Some y) None lt)) c)

pub at_other : (xs : Objects) (o u : ℕ) (y : ObjectState) → (u ≡ o → ⊥) → at (set xs o (Some y)) u ≡ at xs u
at_other [] o u y ne = refl
at_other (x ∷ xs) zero zero y ne = absurd (ne refl)
at_other (x ∷ xs) zero (suc u) y ne = refl
at_other (x ∷ xs) (suc o) zero y ne = refl
at_other (x ∷ xs) (suc o) (suc u) y ne = at_other xs o u y (λ e. ne (ap suc e))

pair_set_other : (xs : Objects) (o u : ℕ) (y : ObjectState) (z : ℕ) → (u ≡ o → ⊥) → Contains (pairs_of xs) (u, z) → Contains (pairs_of (set xs o (Some y))) (u, z)
pair_set_other xs o u y z ne c = at_pair (set xs o (Some y)) u z (subst (λ (v : Option ObjectState). Contains (targets_of v) z) (sym (at_other xs o u y ne)) (pair_at xs u z c))

pub set_pair_other : (xs : Objects) (o u : ℕ) (y : ObjectState) (z : ℕ) → (u ≡ o → ⊥) → Contains (pairs_of (set xs o (Some y))) (u, z) → Contains (pairs_of xs) (u, z)
set_pair_other xs o u y z ne c = at_pair xs u z (subst (λ (v : Option ObjectState). Contains (targets_of v) z) (at_other xs o u y ne) (pair_at (set xs o (Some y)) u z c))

-- what an object leads to is a pair
pub lead_pair : (xs : Objects) (o z : ℕ) → Contains (leads_to (object_at xs o)) z → Contains (pairs_of xs) (o, z)
lead_pair xs o z c = at_pair xs o z (subst (λ (os : List ℕ). Contains os z) (sym (targets_found (at xs o))) c)

pub pair_lead : (xs : Objects) (o z : ℕ) → Contains (pairs_of xs) (o, z) → Contains (leads_to (object_at xs o)) z
pair_lead xs o z c = subst (λ (os : List ℕ). Contains os z) (targets_found (at xs o)) (pair_at xs o z c)

-- a reference in a slot of an object is a pair
pub slot_pair : (xs : Objects) (o z : ℕ) → Contains (refs_of (object_at xs o).slots) z → Contains (pairs_of xs) (o, z)
slot_pair xs o z c = lead_pair xs o z (Contains-append_left (refs_of (object_at xs o).slots) _ z c)

-- .. so is its queue, and each reference that waits in it
pub queue_pair : (xs : Objects) (o q : ℕ) → (object_at xs o).queue ≡ Some q → Contains (pairs_of xs) (o, q)
queue_pair xs o q e =
    lead_pair xs o q (Contains-append_right (refs_of (object_at xs o).slots) _ q (Contains-append_left (option_to_list (object_at xs o).queue) (object_at xs o).waiting q
    (subst (λ (v : Option ℕ). Contains (option_to_list v) q) (sym e) (Contains-here q []))))

pub waiting_pair : (xs : Objects) (o z : ℕ) → Contains (object_at xs o).waiting z → Contains (pairs_of xs) (o, z)
waiting_pair xs o z c = lead_pair xs o z (Contains-append_right (refs_of (object_at xs o).slots) _ z (Contains-append_right (option_to_list (object_at xs o).queue) (object_at xs o).waiting z c))

-- a pair after the write was one before, or was put in
set_pair : (s x : Kept) (lost : List ℕ) (o : ℕ) (y : ObjectState) (l : List ℕ) → IsHeld x.heap o
    → ((z : ℕ) → Contains (leads_to y) z → Contains (leads_to (object_at x.heap o)) z ⊎ MayBeTied s x z)
    → (u z : ℕ) → Contains (pairs_of (with_object_at x.heap o y)) (u, z) → Contains (pairs_of x.heap) (u, z) ⊎ ((u ≡ o) × MayBeTied s x z)
set_pair s x lost o y l held on u z c =
    elim (cases_eq u o) [
      | inr ne ↦ inl (set_pair_other x.heap o u y z ne c)
      | inl e ↦
          let d : Contains (pairs_of (with_object_at x.heap o y)) (o, z) = subst (λ (v : ℕ). Contains (pairs_of (with_object_at x.heap o y)) (v, z)) e c in
          elim (on z (set_pair_same x.heap o y z (held_within x.heap o held) d)) [
            | inl f ↦ inl (subst (λ (v : ℕ). Contains (pairs_of x.heap) (v, z)) (sym e) (lead_pair x.heap o z f))
            | inr h ↦ inr (e, h)
          ]
    ]

-- what the object leads to no more is lost now, or was lost before
pub law_leads : (s x : Kept) (lost : List ℕ) (o : ℕ) (y : ObjectState) (l : List ℕ) → IsUnderWay s x lost → IsHeld x.heap o → WasThere s x o
    → ((z : ℕ) → Contains (leads_to y) z → Contains (leads_to (object_at x.heap o)) z ⊎ MayBeTied s x z)
    → ((z : ℕ) → Contains (leads_to (object_at x.heap o)) z → Contains (leads_to y) z ⊎ Contains (lost ++ l) z)
    → ((z : ℕ) → Contains l z → WasThere s x z)
    → ((r : ℕ) → y.referent ≡ Some r → IsHeld x.heap r)
    → IsUnderWay s (record { heap = with_object_at x.heap o y; guest = x.guest }) (lost ++ l)
law_leads s x lost o y l w held known on off was refers =
    let lt : o < length x.heap = held_within x.heap o held in
    let len : length (with_object_at x.heap o y) ≡ length x.heap = length-set x.heap o (Some y) in
    let pairs = set_pair s x lost o y l held on in
    let move : IsMove (graph_of s) (state_step s x lost) (state_step s (record { heap = with_object_at x.heap o y; guest = x.guest }) (lost ++ l)) = record {
      fresh = ap (λ (n : ℕ). numbers_from (length s.heap) (n - length s.heap)) len;
      made = ap (λ (n : ℕ). n - 1) len;
      gone = gone_set x.heap o y held;
      lost_kept = λ r c. Contains-append_left lost l r c;
      lost_known = λ r c. elim (Contains-append_cases lost l r c) [ inl d ↦ inl d | inr d ↦ inr (was r d) ];
      roots_off = λ r c d out. absurd (out d);
      roots_on = λ r c. inl c;
      pairs_off = λ u z c d out. elim (cases_eq u o) [
        | inr ne ↦ absurd (out (pair_set_other x.heap o u y z ne d))
        | inl e ↦
            let f : Contains (pairs_of x.heap) (o, z) = subst (λ (v : ℕ). Contains (pairs_of x.heap) (v, z)) e d in
            elim (off z (pair_lead x.heap o z f)) [
              | inl i ↦ absurd (out (subst (λ (v : ℕ). Contains (pairs_of (with_object_at x.heap o y)) (v, z)) (sym e) (pair_set_same x.heap o y z lt i)))
              | inr i ↦ (i, subst (WasThere s x) (sym e) known)
            ]
      ];
      pairs_on = λ u z c. elim (pairs u z c) [
        | inl d ↦ inl d
        | inr h ↦ inr (subst (WasThere s x) (sym h.0) known, h.1.1)
      ];
    } in
    record {
      first = w.first;
      draft = draft_move (graph_of s) (state_step s x lost) (state_step s (record { heap = with_object_at x.heap o y; guest = x.guest }) (lost ++ l)) (sound_graph s w.first) w.draft move;
      sound = record {
        room = subst (λ (n : ℕ). 0 < n) (sym len) w.sound.room;
        none = λ h. w.sound.none (set_held x.heap o y 0 held h);
        roots = λ r c. held_set x.heap o y r held (w.sound.roots r c);
        slots = λ u z c. held_set x.heap o y z held (elim (pairs u z c) [ inl d ↦ w.sound.slots u z d | inr h ↦ h.1.0 ]);
        referents = λ u r e. held_set x.heap o y r held (elim (cases_eq u o) [
          | inr ne ↦ w.sound.referents u r (subst (λ (v : Option ObjectState). (found v).referent ≡ Some r) (at_other x.heap o u y ne) e)
          | inl same ↦
              let f : (object_at (with_object_at x.heap o y) o).referent ≡ Some r = subst (λ (v : ℕ). (object_at (with_object_at x.heap o y) v).referent ≡ Some r) same e in
              refers r (subst (λ (v : Option ObjectState). (found v).referent ≡ Some r) (get_or-set_same x.heap o (Some y) None lt) f)
        ]);
      };
    }

pub law_object : (s x : Kept) (lost : List ℕ) (o : ℕ) (y : ObjectState) (l : List ℕ) → IsUnderWay s x lost → IsHeld x.heap o → WasThere s x o
    → Moves (MayBeTied s x) (WasThere s x) (leads_to (object_at x.heap o)) (leads_to y) l
    → ((r : ℕ) → y.referent ≡ Some r → IsHeld x.heap r)
    → IsUnderWay s (record { heap = with_object_at x.heap o y; guest = x.guest }) (lost ++ l)
law_object s x lost o y l w held known m refers =
    law_leads s x lost o y l w held known m.on (λ z c. elim (m.off z c) [ inl d ↦ inl d | inr d ↦ inr (Contains-append_right lost l z d) ]) m.was refers

pairs_set_from : (k : ℕ) (xs : Objects) (o : ℕ) (y : ObjectState) → IsHeld xs o → leads_to y ≡ leads_to (object_at xs o) → pairs_from k (set xs o (Some y)) ≡ pairs_from k xs
pairs_set_from k [] o y held e = absurd held
pairs_set_from k (None ∷ xs) zero y held e = absurd held
pairs_set_from k (Some x ∷ xs) zero y held e = ap (λ (os : List ℕ). map (λ (z : ℕ). (k, z)) os ++ pairs_from (k + 1) xs) e
pairs_set_from k (x ∷ xs) (suc o) y held e = ap (λ (ps : List (ℕ × ℕ)). map (λ (z : ℕ). (k, z)) (targets_of x) ++ ps) (pairs_set_from (k + 1) xs o y held e)

-- a call after which an object leads to what it led to
pub law_beside : (s x : Kept) (lost : List ℕ) (o : ℕ) (y : ObjectState) → IsUnderWay s x lost → IsHeld x.heap o → leads_to y ≡ leads_to (object_at x.heap o) → ((r : ℕ) → y.referent ≡ Some r → IsHeld x.heap r)
    → IsUnderWay s (record { heap = with_object_at x.heap o y; guest = x.guest }) lost
law_beside s x lost o y w held same refers =
    let lt : o < length x.heap = held_within x.heap o held in
    let len : length (with_object_at x.heap o y) ≡ length x.heap = length-set x.heap o (Some y) in
    let pairs : pairs_of (with_object_at x.heap o y) ≡ pairs_of x.heap = pairs_set_from 0 x.heap o y held same in
    let move : IsMove (graph_of s) (state_step s x lost) (state_step s (record { heap = with_object_at x.heap o y; guest = x.guest }) lost) = record {
      fresh = ap (λ (n : ℕ). numbers_from (length s.heap) (n - length s.heap)) len;
      made = ap (λ (n : ℕ). n - 1) len;
      gone = gone_set x.heap o y held;
      lost_kept = λ r c. c;
      lost_known = λ r c. inl c;
      roots_off = λ r c d out. absurd (out d);
      roots_on = λ r c. inl c;
      pairs_off = λ u z c d out. absurd (out (subst (λ (ps : List (ℕ × ℕ)). Contains ps (u, z)) (sym pairs) d));
      pairs_on = λ u z c. inl (subst (λ (ps : List (ℕ × ℕ)). Contains ps (u, z)) pairs c);
    } in
    record {
      first = w.first;
      draft = draft_move (graph_of s) (state_step s x lost) (state_step s (record { heap = with_object_at x.heap o y; guest = x.guest }) lost) (sound_graph s w.first) w.draft move;
      sound = record {
        room = subst (λ (n : ℕ). 0 < n) (sym len) w.sound.room;
        none = λ h. w.sound.none (set_held x.heap o y 0 held h);
        roots = λ r c. held_set x.heap o y r held (w.sound.roots r c);
        slots = λ u z c. held_set x.heap o y z held (w.sound.slots u z (subst (λ (ps : List (ℕ × ℕ)). Contains ps (u, z)) pairs c));
        referents = λ u r e. held_set x.heap o y r held (elim (cases_eq u o) [
          | inr ne ↦ w.sound.referents u r (subst (λ (v : Option ObjectState). (found v).referent ≡ Some r) (at_other x.heap o u y ne) e)
          | inl here ↦
              let f : (object_at (with_object_at x.heap o y) o).referent ≡ Some r = subst (λ (v : ℕ). (object_at (with_object_at x.heap o y) v).referent ≡ Some r) here e in
              refers r (subst (λ (v : Option ObjectState). (found v).referent ≡ Some r) (get_or-set_same x.heap o (Some y) None lt) f)
        ]);
      };
    }

pub numbers_more : (k n : ℕ) → numbers_from k (n + 1) ≡ numbers_from k n ++ (k + n) ∷ []
numbers_more k zero = let e : k ≡ k + 0 = omega arith in ap (λ (j : ℕ). j ∷ []) e
numbers_more k (suc n) =
    let e : suc n + 1 ≡ suc (n + 1) = omega arith in
    let f : k + 1 + n ≡ k + suc n = omega arith in
    ap (λ (m : ℕ). numbers_from k m) e ∙ (ap (λ (os : List ℕ). k ∷ os) (numbers_more (k + 1) n) ∙ ap (λ (m : ℕ). k ∷ (numbers_from (k + 1) n ++ m ∷ [])) f)

-- MAKE: a new object, which refers to nothing
at_push : (xs : Objects) (y : ObjectState) (u : ℕ) → (at (xs ++ Some y ∷ []) u ≡ at xs u) ⊎ (at (xs ++ Some y ∷ []) u ≡ Some y)
at_push [] y zero = inr refl
at_push [] y (suc u) = inl refl
at_push (x ∷ xs) y zero = inl refl
at_push (x ∷ xs) y (suc u) = at_push xs y u

pub law_make : (s x : Kept) (lost : List ℕ) (y : ObjectState) → IsUnderWay s x lost → leads_to y ≡ [] → y.referent ≡ None → IsUnderWay s (record { heap = x.heap ++ Some y ∷ []; guest = x.guest }) lost
law_make s x lost y w empty weak =
    let n : ℕ = length s.heap in
    let k : ℕ = length x.heap in
    let len : length (x.heap ++ Some y ∷ []) ≡ k + 1 = length_push x.heap (Some y) in
    let made : k - 1 ≡ n - 1 + length (fresh_of s x) = w.draft.made in
    let a : 0 < n = w.first.room in
    let b : 0 < k = w.sound.room in
    let count : k + 1 - n ≡ k - n + 1 = omega arith in
    let last : n + (k - n) ≡ k - 1 + 1 = omega arith in
    let making : IsMaking (state_step s x lost) (state_step s (record { heap = x.heap ++ Some y ∷ []; guest = x.guest }) lost) = record {
      fresh = ap (λ (m : ℕ). numbers_from n (m - n)) len ∙ (ap (λ (m : ℕ). numbers_from n m) count ∙ (numbers_more n (k - n) ∙ ap (λ (m : ℕ). numbers_from n (k - n) ++ m ∷ []) last));
      made = ap (λ (m : ℕ). m - 1) len ∙ omega arith;
      gone = gone_push x.heap y b;
      lost = refl;
      roots = refl;
      pairs = pairs_push x.heap y empty;
    } in
    record {
      first = w.first;
      draft = draft_making (graph_of s) (state_step s x lost) (state_step s (record { heap = x.heap ++ Some y ∷ []; guest = x.guest }) lost) w.draft making;
      sound = record {
        room = subst (λ (m : ℕ). 0 < m) (sym len) (omega arith);
        none = λ h. elim (at_push x.heap y 0) [
          | inl e ↦ w.sound.none (subst is_there e h)
          | inr e ↦ first_none x.heap y b w.sound.none h
        ];
        roots = λ o c. held_push x.heap y o (w.sound.roots o c);
        slots = λ u o c. held_push x.heap y o (w.sound.slots u o (subst (λ (ps : List (ℕ × ℕ)). Contains ps (u, o)) (pairs_push x.heap y empty) c));
        referents = λ u o e. held_push x.heap y o (elim (at_push x.heap y u) [
          | inl f ↦ w.sound.referents u o (subst (λ (v : Option ObjectState). (found v).referent ≡ Some o) f e)
          | inr f ↦ absurd (none_some o (sym weak ∙ subst (λ (v : Option ObjectState). (found v).referent ≡ Some o) f e))
        ]);
      };
    } where
      first_none : (xs : Objects) (y : ObjectState) → 0 < length xs → ¬ IsHeld xs 0 → IsHeld (xs ++ Some y ∷ []) 0 → ⊥
      first_none [] y lt out h = absurd (omega arith)
      first_none (x ∷ xs) y lt out h = out h

      none_some : (o : ℕ) → None ≡ Some o → ⊥
      none_some o e = cc

-- END
pub finish : (s x : Kept) (lost : List ℕ) → IsUnderWay s x lost → ((o : ℕ) → Contains (fresh_of s x) o → IsReached (graph_of x) o) → IsEventOf s x lost
finish s x lost w reached = record { legal = draft_end (graph_of s) (state_step s x lost) w.draft reached; sound = w.sound }

pub no_fresh : (s x : Kept) → length x.heap ≡ length s.heap → (o : ℕ) → Contains (fresh_of s x) o → ⊥
no_fresh s x len o c =
    let e : length x.heap - length s.heap ≡ 0 = omega arith in
    Contains-none o (subst (λ (n : ℕ). Contains (numbers_from (length s.heap) n) o) e c)

-- WHAT IS REACHED
pub root_is_reached : (s : Kept) (o : ℕ) → Contains (roots_of s.guest) o → IsReached (graph_of s) o
root_is_reached s o c = root_reached (graph_of s) o c

pub reached_by_pair : (s : Kept) (u o : ℕ) → IsReached (graph_of s) u → Contains (pairs_of s.heap) (u, o) → IsReached (graph_of s) o
reached_by_pair s u o r c = reached_on (graph_of s) u o r (o ∷ [], (c, refl))

pub slot_is_reached : (s : Kept) (u o : ℕ) → IsReached (graph_of s) u → Contains (refs_of (object_at s.heap u).slots) o → IsReached (graph_of s) o
slot_is_reached s u o r c = reached_on (graph_of s) u o r (o ∷ [], (slot_pair s.heap u o c, refl))
