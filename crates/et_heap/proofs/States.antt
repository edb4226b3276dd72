-- Objects as they are kept, and as a heap shows them.
use Rattle.std.proofs.Common.{◌≡◌, ℕ, zero, suc, ◌+◌, ◌-◌, ◌&&◌, nat_le, [], ◌∷◌, ◌++◌, length, set, Option, Some, None, Contains, ap, subst, refl, sym, ◌∙◌, arith}
use Rattle.std.proofs.lemmas.List.{length-map, map-set, map_push}
use Rattle.std.proofs.lemmas.List.Sums.{sum_by-cons}
use Rattle.et_heap.specs.Objects.{ObjectState, Objects, at, found, object_at, is_there, IsHeld, IsNextHeld, slots_in, slot_count, ones_in, held_count, referents_in, referent_count, has_room, most_objects, most_slots}
use Rattle.et_heap.specs.Queues.{changed_at, IsWhole}
use Rattle.et_heap.specs.Stored.{Stored, StoredPlaces, as_stored, stored_in, stored_at, is_stored, IsStored, IsNextStored, slots_stored, stored_slots, ones_stored, stored_count, referents_stored, stored_referents, has_stored_room, state_in, states_of, on_state, unlinked}
use Rattle.et_heap.specs.Links.{AllStand, stored_with}

at_shown : (xs : StoredPlaces) (o : ℕ) → at (states_of xs) o ≡ state_in (stored_in xs o)
at_shown [] o = refl
at_shown (x ∷ xs) zero = refl
at_shown (x ∷ xs) (suc o) = at_shown xs o

stored_there : (p : Option Stored) → is_there (state_in p) → is_stored p
stored_there None there = absurd there
stored_there (Some x) there = tt

there_stored : (p : Option Stored) → is_stored p → is_there (state_in p)
there_stored None there = absurd there
there_stored (Some x) there = tt

-- what a heap holds stands at its number, and the other way round
pub stored-held : (xs : StoredPlaces) (o : ℕ) → IsHeld (states_of xs) o → IsStored xs o
stored-held xs o held = stored_there (stored_in xs o) (subst is_there (at_shown xs o) held)

pub held-stored : (xs : StoredPlaces) (o : ℕ) → IsStored xs o → IsHeld (states_of xs) o
held-stored xs o there = subst is_there (sym (at_shown xs o)) (there_stored (stored_in xs o) there)

found_state : (p : Option Stored) → found (state_in p) ≡ (as_stored p).state
found_state None = refl
found_state (Some x) = refl

pub object-shown : (xs : StoredPlaces) (o : ℕ) → object_at (states_of xs) o ≡ (stored_at xs o).state
object-shown xs o = ap found (at_shown xs o) ∙ found_state (stored_in xs o)

pub next-shown : (xs : StoredPlaces) (k o : ℕ) → IsNextStored xs k o → IsNextHeld (states_of xs) k o
next-shown xs k o next = record {
  held = held-stored xs o next.held;
  from = next.from;
  first = λ u le held. next.first u le (stored-held xs u held);
}

-- CHANGES

pub set-shown : (xs : StoredPlaces) (o : ℕ) (y : Option Stored) → states_of (set xs o y) ≡ set (states_of xs) o (state_in y)
set-shown xs o y = map-set state_in xs o y

pub push-shown : (xs : StoredPlaces) (y : Option Stored) → states_of (xs ++ y ∷ []) ≡ states_of xs ++ state_in y ∷ []
push-shown xs y = map_push state_in xs y

pub changed-shown : (f : ObjectState → ObjectState) (g : Stored → Stored) (xs : StoredPlaces) (o : ℕ) → ((x : Stored) → (g x).state ≡ f x.state) → states_of (stored_with g o xs) ≡ changed_at f o (states_of xs)
changed-shown f g xs o is =
    set-shown xs o (Some (g (stored_at xs o))) ∙ ap (λ (y : ObjectState). set (states_of xs) o (Some y)) (is (stored_at xs o) ∙ ap f (sym (object-shown xs o)))

same_set : (heap : Objects) (o : ℕ) → IsHeld heap o → set heap o (Some (object_at heap o)) ≡ heap
same_set [] o held = absurd held
same_set (None ∷ heap) zero held = absurd held
same_set (Some x ∷ heap) zero held = refl
same_set (x ∷ heap) (suc o) held = ap (λ (xs : Objects). x ∷ xs) (same_set heap o held)

-- a change that leaves what is there leaves the heap
pub changed-same : (f : ObjectState → ObjectState) (heap : Objects) (o : ℕ) → IsHeld heap o → f (object_at heap o) ≡ object_at heap o → changed_at f o heap ≡ heap
changed-same f heap o held same = ap (λ (x : ObjectState). set heap o (Some x)) same ∙ same_set heap o held

-- AS A HEAP IS SEEN

pub there : (heap : Objects) (P : StoredPlaces) (o : ℕ) → states_of P ≡ heap → IsHeld heap o → IsStored P o
there heap P o view held = stored-held P o (subst (λ (h : Objects). IsHeld h o) (sym view) held)

pub shows : (heap : Objects) (P : StoredPlaces) (o : ℕ) → states_of P ≡ heap → (stored_at P o).state ≡ object_at heap o
shows heap P o view = sym (object-shown P o) ∙ ap (λ (h : Objects). object_at h o) view

pub all-there : (heap : Objects) (P : StoredPlaces) (o : ℕ) → states_of P ≡ heap → IsWhole heap o → AllStand P o
all-there heap P o view whole r c =
    there heap P r view (whole r (subst (λ (x : ObjectState). Contains x.waiting r) (shows heap P o view) c))

-- what is changed of what is kept is changed of what is seen
pub shown_written : (f : ObjectState → ObjectState) (heap : Objects) (P T : StoredPlaces) (o : ℕ) → states_of P ≡ heap → T ≡ stored_with (on_state f) o P → states_of T ≡ changed_at f o heap
shown_written f heap P T o view is = ap states_of is ∙ (changed-shown f (on_state f) P o (λ x. refl) ∙ ap (changed_at f o) view)

-- an object that is put behind what is kept is put behind what is seen
pub shown_made : (x : ObjectState) (heap : Objects) (P T : StoredPlaces) → states_of P ≡ heap → T ≡ P ++ Some (unlinked x) ∷ [] → states_of T ≡ heap ++ Some x ∷ []
shown_made x heap P T view is = ap states_of is ∙ (push-shown P (Some (unlinked x)) ∙ ap (λ (h : Objects). h ++ Some x ∷ []) view)

-- COUNTS

pub slots-shown : (xs : StoredPlaces) → slot_count (states_of xs) ≡ stored_slots xs
slots-shown [] = refl
slots-shown (None ∷ xs) = let e = slots-shown xs in omega (arith, sum_by-cons slots_in None (states_of xs), sum_by-cons slots_stored None xs)
slots-shown (Some x ∷ xs) = let e = slots-shown xs in omega (arith, sum_by-cons slots_in (Some x.state) (states_of xs), sum_by-cons slots_stored (Some x) xs)

pub count-shown : (xs : StoredPlaces) → held_count (states_of xs) ≡ stored_count xs
count-shown [] = refl
count-shown (None ∷ xs) = let e = count-shown xs in omega (arith, sum_by-cons ones_in None (states_of xs), sum_by-cons ones_stored None xs)
count-shown (Some x ∷ xs) = let e = count-shown xs in omega (arith, sum_by-cons ones_in (Some x.state) (states_of xs), sum_by-cons ones_stored (Some x) xs)

pub referents-shown : (xs : StoredPlaces) → referent_count (states_of xs) ≡ stored_referents xs
referents-shown [] = refl
referents-shown (None ∷ xs) = let e = referents-shown xs in omega (arith, sum_by-cons referents_in None (states_of xs), sum_by-cons referents_stored None xs)
referents-shown (Some x ∷ xs) = let e = referents-shown xs in omega (arith, sum_by-cons referents_in (Some x.state) (states_of xs), sum_by-cons referents_stored (Some x) xs)

pub length-shown : (xs : StoredPlaces) → length (states_of xs) ≡ length xs
length-shown xs = length-map xs state_in

pub room-shown : (xs : StoredPlaces) (n s : ℕ) → has_room (states_of xs) n s ≡ has_stored_room xs n s
room-shown xs n s =
    ap (λ (k : ℕ). nat_le (k - 1 + n) most_objects && nat_le (slot_count (states_of xs) + s) most_slots) (length-shown xs)
    ∙ ap (λ (k : ℕ). nat_le (length xs - 1 + n) most_objects && nat_le (k + s) most_slots) (slots-shown xs)

-- there is as much room as is seen
pub room_seen : (heap : Objects) (P : StoredPlaces) (n s : ℕ) → states_of P ≡ heap → has_room heap n s ≡ has_stored_room P n s
room_seen heap P n s view = ap (λ (h : Objects). has_room h n s) (sym view) ∙ room-shown P n s
