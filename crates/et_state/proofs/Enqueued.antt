-- What a flush puts in queues ties what is reached, and leaves a sound state.
use Rattle.std.proofs.Common.{◌≡◌, ℕ, zero, suc, ◌+◌, ◌-◌, ◌<◌, ◌≤◌, ◌&&◌, ◌⊎◌, ◌↔◌, Bool, true, false, if◌then◌else◌, List, [], ◌∷◌, length, Option, Some, None, Contains, refl, sym, ap, ◌∙◌, subst, inl, inr, arith}
use Rattle.std.specs.Option.{option_to_list}
use Rattle.std.proofs.lemmas.Bool.{and_parts}
use Rattle.std.proofs.lemmas.List.Elements.{Contains-append_left, Contains-append_right, Contains-append_cases}
use Rattle.et_base.proofs.Lists.{Contains-none, Contains-cons}
use Rattle.et_graph.specs.Graph.{IsReached}
use Rattle.et_graph.specs.Steps.{IsTie}
use Rattle.et_graph.proofs.Walks.{root_reached, reached_all}
use Rattle.et_heap.specs.Objects.{ObjectState, Objects, IsHeld, is_there, at, found, object_at}
use Rattle.et_heap.specs.Refs.{refs_of, targets_of, pairs_of, gone_from, gone_of}
use Rattle.et_heap.specs.Remaining.{left_place, remaining}
use Rattle.et_heap.proofs.HeapLists.{pair_at, at_pair, pair_held}
use Rattle.et_state.specs.State.{Kept, State}
use Rattle.et_state.specs.Roots.{graph, graph_of}
use Rattle.et_state.specs.Enqueuing.{is_free_to_wait, has_this_queue, newcomers_from, newcomers, begins_to_wait, joined_place, joined_from, flushed_heap}
use Rattle.et_state.specs.Past.{IsPast, cleared_state, flushed}
use Rattle.et_state.specs.Sound.{IsSound}
use Rattle.et_state.proofs.UnderWay.{reached_by_pair}
use Rattle.et_state.proofs.Wholes.{reached_more, length-remaining, remaining_held, held_remaining, remaining_pair_stays, sound_cleared}
use Rattle.et_state.proofs.Pasts.{past_cleared, reached_kept}

-- what is reached is held
pub reached_is_held : (s : Kept) → IsSound s → (o : ℕ) → IsReached (graph_of s) o → IsHeld s.heap o
reached_is_held s sound = reached_all (IsHeld s.heap) (graph_of s) (λ r c. sound.roots r c) (λ u x c h. sound.slots u x c)

-- REFERENCES BEGIN TO WAIT: of each object only who waits in it, and whether it waits, may change

module _ (coming : ℕ → List ℕ) (begins : ℕ → Bool) where
  pub length-joined : (k : ℕ) (xs : Objects) → length (joined_from coming begins k xs) ≡ length xs
  length-joined k [] = refl
  length-joined k (x ∷ xs) = ap suc (length-joined (k + 1) xs)

  pub joined_at : (k : ℕ) (xs : Objects) (o : ℕ) → at (joined_from coming begins k xs) o ≡ joined_place coming begins (k + o) (at xs o)
  joined_at k [] o = refl
  joined_at k (x ∷ xs) zero = ap (λ (n : ℕ). joined_place coming begins n x) (let e : k ≡ k + 0 = omega arith in e)
  joined_at k (x ∷ xs) (suc o) = joined_at (k + 1) xs o ∙ ap (λ (n : ℕ). joined_place coming begins n (at xs o)) (let e : k + 1 + o ≡ k + suc o = omega arith in e)

  pub joined_now : (xs : Objects) (o : ℕ) → at (joined_from coming begins 0 xs) o ≡ joined_place coming begins o (at xs o)
  joined_now xs o = joined_at 0 xs o ∙ ap (λ (n : ℕ). joined_place coming begins n (at xs o)) (let e : 0 + o ≡ o = omega arith in e)

  there_joined : (k : ℕ) (x : Option ObjectState) → is_there (joined_place coming begins k x) → is_there x
  there_joined k None h = h
  there_joined k (Some x) h = tt

  joined_there : (k : ℕ) (x : Option ObjectState) → is_there x → is_there (joined_place coming begins k x)
  joined_there k None h = h
  joined_there k (Some x) h = tt

  pub held_joined : (xs : Objects) (o : ℕ) → IsHeld (joined_from coming begins 0 xs) o → IsHeld xs o
  held_joined xs o h = there_joined o (at xs o) (subst is_there (joined_now xs o) h)

  pub joined_held : (xs : Objects) (o : ℕ) → IsHeld xs o → IsHeld (joined_from coming begins 0 xs) o
  joined_held xs o h = subst is_there (sym (joined_now xs o)) (joined_there o (at xs o) h)

  -- what doesn't speak of waiting is the same
  place_same : {X : Type 0} (g : ObjectState → X) → ((x : ObjectState) (ws : List ℕ) (b : Bool) → g (record x { waiting = ws; waits = b }) ≡ g x) → (k : ℕ) (x : Option ObjectState) → g (found (joined_place coming begins k x)) ≡ g (found x)
  place_same g same k None = refl
  place_same g same k (Some x) = same x _ _

  pub joined_same : {X : Type 0} (g : ObjectState → X) → ((x : ObjectState) (ws : List ℕ) (b : Bool) → g (record x { waiting = ws; waits = b }) ≡ g x) → (xs : Objects) (o : ℕ) → g (object_at (joined_from coming begins 0 xs) o) ≡ g (object_at xs o)
  joined_same g same xs o = ap (λ (x : Option ObjectState). g (found x)) (joined_now xs o) ∙ place_same g same o (at xs o)

  gone_joined_from : (j k : ℕ) (xs : Objects) → gone_from j (joined_from coming begins k xs) ≡ gone_from j xs
  gone_joined_from j k [] = refl
  gone_joined_from j k (None ∷ xs) = ap (λ (os : List ℕ). j ∷ os) (gone_joined_from (j + 1) (k + 1) xs)
  gone_joined_from j k (Some x ∷ xs) = gone_joined_from (j + 1) (k + 1) xs

  pub gone_joined : (k : ℕ) (xs : Objects) → gone_of (joined_from coming begins k xs) ≡ gone_of xs
  gone_joined k [] = refl
  gone_joined k (x ∷ xs) = gone_joined_from 1 (k + 1) xs

  -- an object leads to what it led to, and to those that begin to wait in it
  place_targets : (k : ℕ) (x : Option ObjectState) (z : ℕ) → Contains (targets_of (joined_place coming begins k x)) z → Contains (targets_of x) z ⊎ Contains (coming k) z
  place_targets k None z c = inl c
  place_targets k (Some x) z c =
      elim (Contains-append_cases (refs_of x.slots) _ z c) [
        | inl d ↦ inl (Contains-append_left (refs_of x.slots) _ z d)
        | inr d ↦ elim (Contains-append_cases (option_to_list x.queue) _ z d) [
          | inl e ↦ inl (Contains-append_right (refs_of x.slots) _ z (Contains-append_left (option_to_list x.queue) _ z e))
          | inr e ↦ elim (Contains-append_cases x.waiting (coming k) z e) [
            | inl f ↦ inl (Contains-append_right (refs_of x.slots) _ z (Contains-append_right (option_to_list x.queue) _ z f))
            | inr f ↦ inr f
          ]
        ]
      ]

  targets_place : (k : ℕ) (x : Option ObjectState) (z : ℕ) → Contains (targets_of x) z → Contains (targets_of (joined_place coming begins k x)) z
  targets_place k None z c = c
  targets_place k (Some x) z c =
      elim (Contains-append_cases (refs_of x.slots) _ z c) [
        | inl d ↦ Contains-append_left (refs_of x.slots) _ z d
        | inr d ↦ elim (Contains-append_cases (option_to_list x.queue) _ z d) [
          | inl e ↦ Contains-append_right (refs_of x.slots) _ z (Contains-append_left (option_to_list x.queue) _ z e)
          | inr e ↦ Contains-append_right (refs_of x.slots) _ z (Contains-append_right (option_to_list x.queue) _ z (Contains-append_left x.waiting (coming k) z e))
        ]
      ]

  pub joined_pair : (xs : Objects) (u z : ℕ) → Contains (pairs_of (joined_from coming begins 0 xs)) (u, z) → Contains (pairs_of xs) (u, z) ⊎ Contains (coming u) z
  joined_pair xs u z c =
      elim (place_targets u (at xs u) z (subst (λ (x : Option ObjectState). Contains (targets_of x) z) (joined_now xs u) (pair_at (joined_from coming begins 0 xs) u z c))) [
        | inl d ↦ inl (at_pair xs u z d)
        | inr d ↦ inr d
      ]

  pub pair_joined : (xs : Objects) (u z : ℕ) → Contains (pairs_of xs) (u, z) → Contains (pairs_of (joined_from coming begins 0 xs)) (u, z)
  pair_joined xs u z c = at_pair (joined_from coming begins 0 xs) u z (subst (λ (x : Option ObjectState). Contains (targets_of x) z) (sym (joined_now xs u)) (targets_place u (at xs u) z (pair_at xs u z c)))

-- THE NEWCOMERS

pub one_of : (b : Bool) (k r : ℕ) → Contains (if b then k ∷ [] else []) r → (k ≡ r) × (b ≡ true)
one_of true k r c = elim (Contains-cons k [] r c) [ inl e ↦ (e, refl) | inr d ↦ absurd (Contains-none r d) ]
one_of false k r c = absurd (Contains-none r c)

free_there : (here : ℕ → Bool) (b : Bool) (x : Option ObjectState) → is_free_to_wait here b x ≡ true → is_there x × (b ≡ true)
free_there here b None e = absurd cc
free_there here true (Some x) e = (tt, refl)
free_there here false (Some x) e = absurd cc

newcomer_at : (here : ℕ → Bool) (q k : ℕ) (xs : Objects) (r : ℕ) → Contains (newcomers_from here q k xs) r → (j : ℕ) × (r ≡ k + j) × IsHeld xs j × (here r ≡ true)
newcomer_at here q k [] r c = absurd (Contains-none r c)
newcomer_at here q k (x ∷ xs) r c =
    elim (Contains-append_cases (if is_free_to_wait here (here k) x && has_this_queue q x then k ∷ [] else []) (newcomers_from here q (k + 1) xs) r c) [
      | inl d ↦
          let one = one_of (is_free_to_wait here (here k) x && has_this_queue q x) k r d in
          let free = free_there here (here k) x (and_parts (is_free_to_wait here (here k) x) (has_this_queue q x) one.1).0 in
          (0, (let e = one.0 in omega arith), free.0, subst (λ (n : ℕ). here n ≡ true) one.0 free.1)
      | inr d ↦ let h = newcomer_at here q (k + 1) xs r d in (suc h.0, (let e = h.1 in omega arith), h.2, h.3)
    ]

-- each of them is held and stays
pub newcomer_stays : (here : ℕ → Bool) (xs : Objects) (q r : ℕ) → Contains (newcomers here xs q) r → IsHeld xs r × (here r ≡ true)
newcomer_stays here xs q r c =
    let h = newcomer_at here q 0 xs r c in
    let e : h.0 ≡ r = let f = h.1 in omega arith in
    (subst (λ (n : ℕ). IsHeld xs n) e h.2, h.3)

-- A FLUSH OF WHAT IS KEPT. here says of each held object whether it is reached.
module _ (s : Kept) (here : ℕ → Bool) (sound : IsSound s) (tells : (o : ℕ) → IsHeld s.heap o → (here o ≡ true) ↔ IsReached (graph_of s) o) where
  abbrev pub cleared_kept : Kept
  cleared_kept = record { heap = remaining here 0 s.heap; guest = s.guest }

  at_start : (o : ℕ) → 0 + o ≡ o
  at_start o = omega arith

  -- what was reached is reached once the heap is cleared
  pub reached_cleared : (o : ℕ) → IsReached (graph_of s) o → IsReached (graph_of cleared_kept) o
  reached_cleared o r =
      (reached_all (λ u. IsReached (graph_of s) u × IsReached (graph_of cleared_kept) u) (graph_of s)
      (λ u c. (root_reached (graph_of s) u c, root_reached (graph_of cleared_kept) u c))
      (λ u x c both.
      let held : IsHeld s.heap u = reached_is_held s sound u both.0 in
      let stays : here (0 + u) ≡ true = subst (λ (n : ℕ). here n ≡ true) (sym (at_start u)) ((tells u held).1 both.0) in
      let pair : Contains (pairs_of (remaining here 0 s.heap)) (u, x) = at_pair (remaining here 0 s.heap) u x (remaining_pair_stays here 0 s.heap u x stays (pair_at s.heap u x c)) in
      (reached_by_pair s u x both.0 c, reached_by_pair cleared_kept u x both.1 pair))
      o r).1

  -- what stays is reached
  stays_reached : (o : ℕ) → IsHeld s.heap o → here o ≡ true → IsReached (graph_of cleared_kept) o
  stays_reached o held t = reached_cleared o ((tells o held).0 t)

  left_reached : (o : ℕ) → IsHeld (remaining here 0 s.heap) o → IsReached (graph_of cleared_kept) o
  left_reached o h = let r = remaining_held here 0 s.heap o h in stays_reached o r.0 (subst (λ (n : ℕ). here n ≡ true) (at_start o) r.1)

  newcomer_held : (u z : ℕ) → Contains (newcomers here s.heap u) z → IsHeld (remaining here 0 s.heap) z
  newcomer_held u z c = let h = newcomer_stays here s.heap u z c in held_remaining here 0 s.heap z h.0 (subst (λ (n : ℕ). here n ≡ true) (sym (at_start z)) h.1)

  -- what a flush puts in queues is a tie
  pub ties_kept : IsTie (graph_of cleared_kept) (graph_of (record { heap = flushed_heap here s.heap; guest = s.guest }))
  ties_kept = record {
    made = ap (λ (n : ℕ). n - 1) (length-joined (newcomers here s.heap) (begins_to_wait here s.heap) 0 (remaining here 0 s.heap));
    roots = refl;
    pairs_kept = λ u x c. pair_joined (newcomers here s.heap) (begins_to_wait here s.heap) (remaining here 0 s.heap) u x c;
    pairs_reached = λ u x c new.
        let held : IsHeld (flushed_heap here s.heap) u = pair_held (flushed_heap here s.heap) u x (pair_at (flushed_heap here s.heap) u x c) in
        elim (joined_pair (newcomers here s.heap) (begins_to_wait here s.heap) (remaining here 0 s.heap) u x c) [
          | inl d ↦ absurd (new d)
          | inr d ↦ (left_reached u (held_joined (newcomers here s.heap) (begins_to_wait here s.heap) (remaining here 0 s.heap) u held), left_reached x (newcomer_held u x d))
        ];
    gone = gone_joined (newcomers here s.heap) (begins_to_wait here s.heap) 0 (remaining here 0 s.heap);
  }

  pub sound_flushed : IsSound (record { heap = flushed_heap here s.heap; guest = s.guest })
  sound_flushed =
      let cleared : IsSound cleared_kept = sound_cleared s here sound tells in
      let stays : (o : ℕ) → IsHeld (remaining here 0 s.heap) o → IsHeld (flushed_heap here s.heap) o = λ o h. joined_held (newcomers here s.heap) (begins_to_wait here s.heap) (remaining here 0 s.heap) o h in
      record {
        room = subst (λ (n : ℕ). 0 < n) (sym (length-joined (newcomers here s.heap) (begins_to_wait here s.heap) 0 (remaining here 0 s.heap))) cleared.room;
        none = λ h. cleared.none (held_joined (newcomers here s.heap) (begins_to_wait here s.heap) (remaining here 0 s.heap) 0 h);
        roots = λ o c. stays o (cleared.roots o c);
        slots = λ u z c. stays z (elim (joined_pair (newcomers here s.heap) (begins_to_wait here s.heap) (remaining here 0 s.heap) u z c) [
          | inl d ↦ cleared.slots u z d
          | inr d ↦ newcomer_held u z d
        ]);
        referents = λ u o e. stays o (cleared.referents u o (sym (joined_same (newcomers here s.heap) (begins_to_wait here s.heap) (λ x. x.referent) (λ x ws b. refl) (remaining here 0 s.heap) u) ∙ e));
      }

-- OVER ALL OF A STATE

-- a tie of what is kept is one of all
pub tie_whole : (a b : Kept) (reported : Objects) → IsTie (graph_of a) (graph_of b) → IsTie (graph (record { kept = a; reported = reported })) (graph (record { kept = b; reported = reported }))
tie_whole a b reported tie = record {
  made = tie.made;
  roots = tie.roots;
  pairs_kept = λ u x c. elim (Contains-append_cases (pairs_of a.heap) (pairs_of reported) (u, x) c) [
    | inl d ↦ Contains-append_left (pairs_of b.heap) (pairs_of reported) (u, x) (tie.pairs_kept u x d)
    | inr d ↦ Contains-append_right (pairs_of b.heap) (pairs_of reported) (u, x) d
  ];
  pairs_reached = λ u x c new. elim (Contains-append_cases (pairs_of b.heap) (pairs_of reported) (u, x) c) [
    | inl d ↦
        let both = tie.pairs_reached u x d (λ e. new (Contains-append_left (pairs_of a.heap) (pairs_of reported) (u, x) e)) in
        (more u both.0, more x both.1)
    | inr d ↦ absurd (new (Contains-append_right (pairs_of a.heap) (pairs_of reported) (u, x) d))
  ];
  gone = tie.gone;
} where
  more : (o : ℕ) → IsReached (graph_of a) o → IsReached (graph (record { kept = a; reported = reported })) o
  more = reached_more (graph_of a) (graph (record { kept = a; reported = reported })) refl (λ u z c. Contains-append_left (pairs_of a.heap) (pairs_of reported) (u, z) c)

-- here says of each held object of the state whether it is reached
module _ (s : State) (here : ℕ → Bool) (sound : IsSound s.kept) (past : IsPast s.kept.heap s.reported) (tells : (o : ℕ) → IsHeld s.kept.heap o → (here o ≡ true) ↔ IsReached (graph s) o) where
  -- .. over what is kept too
  pub tells_kept : (o : ℕ) → IsHeld s.kept.heap o → (here o ≡ true) ↔ IsReached (graph_of s.kept) o
  tells_kept o held = (
    λ t. reached_kept s sound past o ((tells o held).0 t),
    λ r. (tells o held).1 (reached_more (graph_of s.kept) (graph s) refl (λ u z c. Contains-append_left (pairs_of s.kept.heap) (pairs_of s.reported) (u, z) c) o r),
  )

  pub flush_ties : IsTie (graph (cleared_state here s)) (graph (flushed here s))
  flush_ties =
      tie_whole (cleared_state here s).kept (flushed here s).kept (cleared_state here s).reported (ties_kept s.kept here sound tells_kept)

-- a flush keeps what is reported apart from what is held
pub past_flushed : (s : State) (here : ℕ → Bool) → IsPast s.kept.heap s.reported → IsPast (flushed here s).kept.heap (flushed here s).reported
past_flushed s here past =
    let cleared = past_cleared here s.kept.heap s.reported past in
    let coming = newcomers here s.kept.heap in
    let begins = begins_to_wait here s.kept.heap in
    record {
      within = subst (λ (n : ℕ). length (flushed here s).reported ≤ n) (sym (length-joined coming begins 0 (remaining here 0 s.kept.heap))) cleared.within;
      apart = λ o a b. cleared.apart o (held_joined coming begins (remaining here 0 s.kept.heap) o a) b;
    }

-- WHAT A FLUSH LEAVES OF ONE OBJECT

pub length-flushed : (here : ℕ → Bool) (xs : Objects) → length (flushed_heap here xs) ≡ length xs
length-flushed here xs = length-joined (newcomers here xs) (begins_to_wait here xs) 0 (remaining here 0 xs) ∙ length-remaining here 0 xs

pub flushed_held : (here : ℕ → Bool) (xs : Objects) (o : ℕ) → IsHeld (flushed_heap here xs) o → IsHeld xs o × (here o ≡ true)
flushed_held here xs o h =
    let r = remaining_held here 0 xs o (held_joined (newcomers here xs) (begins_to_wait here xs) (remaining here 0 xs) o h) in
    let e : 0 + o ≡ o = omega arith in
    (r.0, subst (λ (n : ℕ). here n ≡ true) e r.1)

pub remaining_at : (here : ℕ → Bool) (k : ℕ) (xs : Objects) (o : ℕ) → at (remaining here k xs) o ≡ left_place here (here (k + o)) (at xs o)
remaining_at here k [] o = refl
remaining_at here k (x ∷ xs) zero = ap (λ (i : ℕ). left_place here (here i) x) (let same : k ≡ k + 0 = omega arith in same)
remaining_at here k (x ∷ xs) (suc o) = remaining_at here (k + 1) xs o ∙ ap (λ (i : ℕ). left_place here (here i) (at xs o)) (let same : k + 1 + o ≡ k + suc o = omega arith in same)

-- what stands at a place after a flush
abbrev pub flushed_place : (ℕ → Bool) → Objects → ℕ → Option ObjectState → Option ObjectState
flushed_place here xs o x = joined_place (newcomers here xs) (begins_to_wait here xs) o (left_place here (here o) x)

pub flushed_at : (here : ℕ → Bool) (xs : Objects) (o : ℕ) → at (flushed_heap here xs) o ≡ flushed_place here xs o (at xs o)
flushed_at here xs o =
    joined_now (newcomers here xs) (begins_to_wait here xs) (remaining here 0 xs) o
    ∙ ap (λ (x : Option ObjectState). joined_place (newcomers here xs) (begins_to_wait here xs) o x) (remaining_at here 0 xs o ∙ ap (λ (i : ℕ). left_place here (here i) (at xs o)) (let same : 0 + o ≡ o = omega arith in same))

-- what speaks neither of weak references nor of waiting is the same of each object that stays
place_kept_same : {X : Type 0} (g : ObjectState → X) → ((x : ObjectState) (r : Option ℕ) (ws : List ℕ) (b : Bool) → g (record x { referent = r; waiting = ws; waits = b }) ≡ g x)
    → (here : ℕ → Bool) (xs : Objects) (o : ℕ) (b : Bool) (x : Option ObjectState) → b ≡ true → g (found (joined_place (newcomers here xs) (begins_to_wait here xs) o (left_place here b x))) ≡ g (found x)
place_kept_same g same here xs o b None e = refl
place_kept_same g same here xs o true (Some x) e = same x _ _ _
place_kept_same g same here xs o false (Some x) e = absurd cc

pub flushed_same : {X : Type 0} (g : ObjectState → X) → ((x : ObjectState) (r : Option ℕ) (ws : List ℕ) (b : Bool) → g (record x { referent = r; waiting = ws; waits = b }) ≡ g x)
    → (here : ℕ → Bool) (xs : Objects) (o : ℕ) → here o ≡ true → g (object_at (flushed_heap here xs) o) ≡ g (object_at xs o)
flushed_same g same here xs o stays = ap (λ (x : Option ObjectState). g (found x)) (flushed_at here xs o) ∙ place_kept_same g same here xs o (here o) (at xs o) stays
