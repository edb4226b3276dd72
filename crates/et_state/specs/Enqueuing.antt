-- What a flush puts in reference queues. The test says of each object whether it is reached.
use Rattle.std.specs.Prelude.{ℕ, ◌+◌, ◌==◌, ◌&&◌, ◌||◌, not, Bool, false, if◌then◌else◌, List, [], ◌∷◌, ◌++◌, Option, Some, None}
use Rattle.std.specs.Option.{is_some, option_map_or}
use Rattle.et_heap.specs.Objects.{ObjectState, Objects, at}
use Rattle.et_heap.specs.Remaining.{is_cleared, remaining}

-- the reference stays, its referent becomes null, and it waits nowhere
abbrev pub is_free_to_wait : (ℕ → Bool) → Bool → Option ObjectState → Bool
is_free_to_wait here stays None = false
is_free_to_wait here stays (Some x) = stays && is_cleared here x.referent && not x.waits

abbrev pub has_queue : Option ObjectState → Bool
has_queue None = false
has_queue (Some x) = is_some x.queue

abbrev pub has_this_queue : ℕ → Option ObjectState → Bool
has_this_queue q None = false
has_this_queue q (Some x) = option_map_or (λ u. u == q) x.queue false

-- the references that go to the queue q, in rising order; the first place has the number k
abbrev pub newcomers_from : (ℕ → Bool) → ℕ → ℕ → Objects → List ℕ
newcomers_from here q k [] = []
newcomers_from here q k (x ∷ xs) =
    (if is_free_to_wait here (here k) x && has_this_queue q x then k ∷ [] else []) ++ newcomers_from here q (k + 1) xs

abbrev pub newcomers : (ℕ → Bool) → Objects → ℕ → List ℕ
newcomers here heap q = newcomers_from here q 0 heap

-- the object at this number goes to its queue
abbrev pub begins_to_wait : (ℕ → Bool) → Objects → ℕ → Bool
begins_to_wait here heap r = is_free_to_wait here (here r) (at heap r) && has_queue (at heap r)

-- references begin to wait: those of `coming q` at the end of the list of q
abbrev pub joined_place : (ℕ → List ℕ) → (ℕ → Bool) → ℕ → Option ObjectState → Option ObjectState
joined_place coming begins k None = None
joined_place coming begins k (Some x) = Some (record x { waiting = x.waiting ++ coming k; waits = x.waits || begins k })

abbrev pub joined_from : (ℕ → List ℕ) → (ℕ → Bool) → ℕ → Objects → Objects
joined_from coming begins k [] = []
joined_from coming begins k (x ∷ xs) = joined_place coming begins k x ∷ joined_from coming begins (k + 1) xs

-- The heap after a flush. What isn't reached is taken out, and weak references to it become null. Each reference that stays
-- and lost its referent so, has a queue and waits nowhere, goes to the end of the list of its queue, in rising order.
abbrev pub flushed_heap : (ℕ → Bool) → Objects → Objects
flushed_heap here heap = joined_from (newcomers here heap) (begins_to_wait here heap) 0 (remaining here 0 heap)
