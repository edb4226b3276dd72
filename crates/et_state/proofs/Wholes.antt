-- Legal steps and clearing over a state with its reported objects.
use Rattle.std.proofs.Common.{◌≡◌, ℕ, zero, suc, ◌+◌, ◌<◌, ◌⊎◌, Bool, true, false, List, [], ◌∷◌, ◌++◌, length, Option, Some, None, Contains, refl, sym, ap, subst, inl, inr, arith, ◌↔◌, if◌then◌else◌, not}
use Rattle.std.proofs.lemmas.List.Elements.{Contains-append_left, Contains-append_right, Contains-append_cases}
use Rattle.et_graph.specs.Graph.{Graph, IsReached}
use Rattle.et_graph.specs.Steps.{IsKnown, IsLegalStep, IsRemoved, IsAdded}
use Rattle.et_base.proofs.Lists.{Contains-none}
use Rattle.et_graph.proofs.Walks.{walk_more, reached_on}
use Rattle.et_heap.specs.Objects.{ObjectState, Objects, IsHeld, is_there, found, object_at}
use Rattle.et_heap.specs.Refs.{targets_of, pairs_of}
use Rattle.et_heap.specs.Remaining.{kept_referent, left_place, remaining}
use Rattle.et_heap.proofs.HeapLists.{IsPair, pair_at, at_pair, pair_held, targets_there}
use Rattle.et_state.specs.State.{Kept}
use Rattle.et_state.specs.Roots.{graph, graph_of, state_step, fresh_of}
use Rattle.et_state.specs.Sound.{IsSound}
use Rattle.et_state.specs.Past.{whole_step, first_of, reporting, IsPast}
use Rattle.et_state.proofs.UnderWay.{root_is_reached}

-- with more pairs, more is reached
pub reached_more : (g h : Graph) → g.roots ≡ h.roots → ((u x : ℕ) → Contains g.pairs (u, x) → Contains h.pairs (u, x)) → (o : ℕ) → IsReached g o → IsReached h o
reached_more g h e more o r = (r.0, subst (λ (rs : List ℕ). Contains rs r.0) e r.1, (r.2.0, walk_more g.pairs h.pairs more r.0 r.2.0 o r.2.1))

-- A step that is legal over what is kept is legal over all.
pub legal_whole : (s x : Kept) (lost : List ℕ) (reported : Objects) → IsLegalStep (graph_of s) (state_step s x lost)
    → IsLegalStep (graph (record { kept = s; reported = reported })) (whole_step reported x (fresh_of s x) lost)
legal_whole s x lost reported legal =
    let g : Graph = graph (record { kept = s; reported = reported }) in
    let h : Graph = graph (record { kept = x; reported = reported }) in
    let past : List (ℕ × ℕ) = pairs_of reported in
    let draft = legal.draft in
    let more : (o : ℕ) → IsReached (graph_of s) o → IsReached g o = reached_more (graph_of s) g refl (λ u z c. Contains-append_left (pairs_of s.heap) past (u, z) c) in
    let known : (o : ℕ) → IsKnown (graph_of s) (state_step s x lost) o → IsKnown g (whole_step reported x (fresh_of s x) lost) o = λ o. elim [ inl r ↦ inl (more o r) | inr c ↦ inr c ] in
    let removed : (u z : ℕ) → IsRemoved g (whole_step reported x (fresh_of s x) lost) u z → IsRemoved (graph_of s) (state_step s x lost) u z = λ u z r.
    elim (Contains-append_cases (pairs_of s.heap) past (u, z) r.0) [
      | inl c ↦ (c, λ d. r.1 (Contains-append_left (pairs_of x.heap) past (u, z) d))
      | inr c ↦ absurd (r.1 (Contains-append_right (pairs_of x.heap) past (u, z) c))
    ] in
    let added : (u z : ℕ) → IsAdded g (whole_step reported x (fresh_of s x) lost) u z → IsAdded (graph_of s) (state_step s x lost) u z = λ u z a.
    elim (Contains-append_cases (pairs_of x.heap) past (u, z) a.0) [
      | inl c ↦ (c, λ d. a.1 (Contains-append_left (pairs_of s.heap) past (u, z) d))
      | inr c ↦ absurd (a.1 (Contains-append_right (pairs_of s.heap) past (u, z) c))
    ] in
    record {
      draft = record {
        made = draft.made;
        fresh_next = draft.fresh_next;
        roots_lost = draft.roots_lost;
        pairs_lost = λ u z r. draft.pairs_lost u z (removed u z r);
        pairs_from_reached = λ u z r. more u (draft.pairs_from_reached u z (removed u z r));
        pairs_known = λ u z a. let both = draft.pairs_known u z (added u z a) in (known u both.0, known z both.1);
        lost_known = λ o c. known o (draft.lost_known o c);
        roots_held = draft.roots_held;
        gone = draft.gone;
      };
      fresh_reached = λ o c. reached_more (graph_of x) h refl (λ u z d. Contains-append_left (pairs_of x.heap) past (u, z) d) o (legal.fresh_reached o c);
    }

-- A flush keeps all pairs.
-- u, which is held or reported, leads to x
abbrev IsEither : Objects → Objects → ℕ → ℕ → Type 0
IsEither heap reported u z = IsPair heap u z ⊎ IsPair reported u z

no_targets : (z : ℕ) → Contains (targets_of None) z → ⊥
no_targets z c = Contains-none z c

pub targets_left : (here : ℕ → Bool) (b : Bool) (x : Option ObjectState) (z : ℕ) → Contains (targets_of (left_place here b x)) z → Contains (targets_of x) z
targets_left here b None z c = c
targets_left here true (Some x) z c = c
targets_left here false (Some x) z c = absurd (no_targets z c)

left_targets : (here : ℕ → Bool) (x : Option ObjectState) (z : ℕ) → Contains (targets_of x) z → Contains (targets_of (left_place here true x)) z
left_targets here None z c = c
left_targets here (Some x) z c = c

-- where an object stands after a flush, of one place
split_place : (here : ℕ → Bool) (b : Bool) (x r : Option ObjectState) (z : ℕ) → Contains (targets_of x) z ⊎ Contains (targets_of r) z → (is_there x → ¬ is_there r) → Contains (targets_of (left_place here b x)) z ⊎ Contains (targets_of (first_of r (if b then None else x))) z
split_place here true x None z (inl c) apart = inl (left_targets here x z c)
split_place here true x None z (inr c) apart = absurd (no_targets z c)
split_place here false x None z (inl c) apart = inr c
split_place here false x None z (inr c) apart = absurd (no_targets z c)
split_place here b x (Some r) z (inl c) apart = absurd (apart (targets_there x z c) tt)
split_place here b x (Some r) z (inr c) apart = inr c

join_place : (here : ℕ → Bool) (b : Bool) (x r : Option ObjectState) (z : ℕ) → Contains (targets_of (left_place here b x)) z ⊎ Contains (targets_of (first_of r (if b then None else x))) z → Contains (targets_of x) z ⊎ Contains (targets_of r) z
join_place here b x r z (inl c) = inl (targets_left here b x z c)
join_place here b x (Some r) z (inr c) = inr c
join_place here true x None z (inr c) = absurd (no_targets z c)
join_place here false x None z (inr c) = inl c

pub flush_keeps : (here : ℕ → Bool) (k : ℕ) (heap reported : Objects) → IsPast heap reported → (u z : ℕ) → IsEither heap reported u z → IsEither (remaining here k heap) (reporting here k heap reported) u z
flush_keeps here k [] [] past u z h = h
flush_keeps here k [] (r ∷ rs) past u z h = absurd (let le = past.within in omega arith)
flush_keeps here k (x ∷ xs) [] past zero z h = split_place here (here k) x None z h (λ a b. b)
flush_keeps here k (x ∷ xs) [] past (suc u) z h = flush_keeps here (k + 1) xs [] (record { within = omega arith; apart = λ o a b. past.apart (suc o) a b }) u z h
flush_keeps here k (x ∷ xs) (r ∷ rs) past zero z h = split_place here (here k) x r z h (past.apart 0)
flush_keeps here k (x ∷ xs) (r ∷ rs) past (suc u) z h = flush_keeps here (k + 1) xs rs (record { within = (let le = past.within in omega arith); apart = λ o a b. past.apart (suc o) a b }) u z h

pub flush_adds_none : (here : ℕ → Bool) (k : ℕ) (heap reported : Objects) → (u z : ℕ) → IsEither (remaining here k heap) (reporting here k heap reported) u z → IsEither heap reported u z
flush_adds_none here k [] reported u z (inl c) = absurd (Contains-none z c)
flush_adds_none here k [] reported u z (inr c) = absurd (Contains-none z c)
flush_adds_none here k (x ∷ xs) [] zero z h = join_place here (here k) x None z h
flush_adds_none here k (x ∷ xs) [] (suc u) z h = flush_adds_none here (k + 1) xs [] u z h
flush_adds_none here k (x ∷ xs) (r ∷ rs) zero z h = join_place here (here k) x r z h
flush_adds_none here k (x ∷ xs) (r ∷ rs) (suc u) z h = flush_adds_none here (k + 1) xs rs u z h

-- the pairs of a state are the same after a flush
pub flush_pairs : (here : ℕ → Bool) (heap reported : Objects) → IsPast heap reported → (u z : ℕ) → Contains (pairs_of heap ++ pairs_of reported) (u, z) ↔ Contains (pairs_of (remaining here 0 heap) ++ pairs_of (reporting here 0 heap reported)) (u, z)
flush_pairs here heap reported past u z = (
  λ c. whole (remaining here 0 heap) (reporting here 0 heap reported) (flush_keeps here 0 heap reported past u z (parts heap reported c)),
  λ c. whole heap reported (flush_adds_none here 0 heap reported u z (parts (remaining here 0 heap) (reporting here 0 heap reported) c)),
) where
  parts : (xs ys : Objects) → Contains (pairs_of xs ++ pairs_of ys) (u, z) → IsEither xs ys u z
  parts xs ys c = elim (Contains-append_cases (pairs_of xs) (pairs_of ys) (u, z) c) [ inl d ↦ inl (pair_at xs u z d) | inr d ↦ inr (pair_at ys u z d) ]

  whole : (xs ys : Objects) → IsEither xs ys u z → Contains (pairs_of xs ++ pairs_of ys) (u, z)
  whole xs ys (inl c) = Contains-append_left (pairs_of xs) (pairs_of ys) (u, z) (at_pair xs u z c)
  whole xs ys (inr c) = Contains-append_right (pairs_of xs) (pairs_of ys) (u, z) (at_pair ys u z c)

pub length-remaining : (here : ℕ → Bool) (k : ℕ) (xs : Objects) → length (remaining here k xs) ≡ length xs
length-remaining here k [] = refl
length-remaining here k (x ∷ xs) = ap suc (length-remaining here (k + 1) xs)

place_kept : (here : ℕ → Bool) (b : Bool) (x : Option ObjectState) → is_there (left_place here b x) → is_there x × (b ≡ true)
place_kept here true (Some x) h = (h, refl)
place_kept here false (Some x) h = absurd h
place_kept here b None h = absurd h

place_stays : (here : ℕ → Bool) (b : Bool) (x : Option ObjectState) → is_there x → b ≡ true → is_there (left_place here b x)
place_stays here true (Some x) h e = h
place_stays here false (Some x) h e = cc
place_stays here b None h e = absurd h

pub remaining_held : (here : ℕ → Bool) (k : ℕ) (xs : Objects) (o : ℕ) → IsHeld (remaining here k xs) o → IsHeld xs o × (here (k + o) ≡ true)
remaining_held here k [] o h = absurd h
remaining_held here k (x ∷ xs) zero h = let r = place_kept here (here k) x h in let e : k ≡ k + 0 = omega arith in (r.0, subst (λ (n : ℕ). here n ≡ true) e r.1)
remaining_held here k (x ∷ xs) (suc o) h = let r = remaining_held here (k + 1) xs o h in let e : k + 1 + o ≡ k + suc o = omega arith in (r.0, subst (λ (n : ℕ). here n ≡ true) e r.1)

pub held_remaining : (here : ℕ → Bool) (k : ℕ) (xs : Objects) (o : ℕ) → IsHeld xs o → here (k + o) ≡ true → IsHeld (remaining here k xs) o
held_remaining here k [] o h t = absurd h
held_remaining here k (x ∷ xs) zero h t = let e : k + 0 ≡ k = omega arith in place_stays here (here k) x h (subst (λ (n : ℕ). here n ≡ true) e t)
held_remaining here k (x ∷ xs) (suc o) h t = let e : k + suc o ≡ k + 1 + o = omega arith in held_remaining here (k + 1) xs o h (subst (λ (n : ℕ). here n ≡ true) e t)

pub remaining_pair : (here : ℕ → Bool) (k : ℕ) (xs : Objects) (u z : ℕ) → IsPair (remaining here k xs) u z → IsPair xs u z
remaining_pair here k [] u z c = c
remaining_pair here k (x ∷ xs) zero z c = targets_left here (here k) x z c
remaining_pair here k (x ∷ xs) (suc u) z c = remaining_pair here (k + 1) xs u z c

pub place_pair_stays : (here : ℕ → Bool) (b : Bool) (x : Option ObjectState) (z : ℕ) → b ≡ true → Contains (targets_of x) z → Contains (targets_of (left_place here b x)) z
place_pair_stays here true x z e c = left_targets here x z c
place_pair_stays here false x z e c = cc

-- what stays leads to what it led to
pub remaining_pair_stays : (here : ℕ → Bool) (k : ℕ) (xs : Objects) (u z : ℕ) → here (k + u) ≡ true → IsPair xs u z → IsPair (remaining here k xs) u z
remaining_pair_stays here k [] u z t c = c
remaining_pair_stays here k (x ∷ xs) zero z t c = let e : k + 0 ≡ k = omega arith in place_pair_stays here (here k) x z (subst (λ (n : ℕ). here n ≡ true) e t) c
remaining_pair_stays here k (x ∷ xs) (suc u) z t c = let e : k + suc u ≡ k + 1 + u = omega arith in remaining_pair_stays here (k + 1) xs u z (subst (λ (n : ℕ). here n ≡ true) e t) c

referent_stays : (b : Bool) (here : ℕ → Bool) (o q : ℕ) → b ≡ here o → (if not b then None else Some o) ≡ Some q → (o ≡ q) × (here q ≡ true)
referent_stays true here o q e h = let same : o ≡ q = cc in (same, subst (λ (n : ℕ). here n ≡ true) same (sym e))
referent_stays false here o q e h = absurd (none_some q h) where
  none_some : (n : ℕ) → None ≡ Some n → ⊥
  none_some n e = cc

kept_referent_is : (here : ℕ → Bool) (r : Option ℕ) (q : ℕ) → kept_referent here r ≡ Some q → (r ≡ Some q) × (here q ≡ true)
kept_referent_is here None q h = cc
kept_referent_is here (Some o) q h = let e = referent_stays (here o) here o q refl h in (ap (λ (n : ℕ). Some n) e.0, e.1)

place_referent : (here : ℕ → Bool) (b : Bool) (x : Option ObjectState) (q : ℕ) → (found (left_place here b x)).referent ≡ Some q → ((found x).referent ≡ Some q) × (here q ≡ true)
place_referent here true (Some x) q h = kept_referent_is here x.referent q h
place_referent here false (Some x) q h = cc
place_referent here b None q h = cc

remaining_referent : (here : ℕ → Bool) (k : ℕ) (xs : Objects) (u q : ℕ) → (object_at (remaining here k xs) u).referent ≡ Some q → ((object_at xs u).referent ≡ Some q) × (here q ≡ true)
remaining_referent here k [] u q h = cc
remaining_referent here k (x ∷ xs) zero q h = place_referent here (here k) x q h
remaining_referent here k (x ∷ xs) (suc u) q h = remaining_referent here (k + 1) xs u q h

-- once it is cleared, what is kept is sound
pub sound_cleared : (s : Kept) (here : ℕ → Bool) → IsSound s → ((o : ℕ) → IsHeld s.heap o → (here o ≡ true) ↔ IsReached (graph_of s) o) → IsSound (record { heap = remaining here 0 s.heap; guest = s.guest })
sound_cleared s here sound tells = record {
  room = subst (λ (n : ℕ). 0 < n) (sym (length-remaining here 0 s.heap)) sound.room;
  none = λ h. sound.none (remaining_held here 0 s.heap 0 h).0;
  roots = λ o c. stays o (sound.roots o c) ((tells o (sound.roots o c)).1 (root_is_reached s o c));
  slots = λ u o c.
      let p = pair_at (remaining here 0 s.heap) u o c in
      let h = remaining_held here 0 s.heap u (pair_held (remaining here 0 s.heap) u o p) in
      let q : Contains (pairs_of s.heap) (u, o) = at_pair s.heap u o (remaining_pair here 0 s.heap u o p) in
      let r : IsReached (graph_of s) u = (tells u h.0).0 (subst (λ (n : ℕ). here n ≡ true) (at_start u) h.1) in
      stays o (sound.slots u o q) ((tells o (sound.slots u o q)).1 (reached_on (graph_of s) u o r (o ∷ [], (q, refl))));
  referents = λ u o e.
      let h = remaining_referent here 0 s.heap u o e in
      stays o (sound.referents u o h.0) h.1;
} where
  at_start : (o : ℕ) → 0 + o ≡ o
  at_start o = omega arith

  stays : (o : ℕ) → IsHeld s.heap o → here o ≡ true → IsHeld (remaining here 0 s.heap) o
  stays o h t = held_remaining here 0 s.heap o h (subst (λ (n : ℕ). here n ≡ true) (sym (at_start o)) t)
