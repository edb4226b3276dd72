-- The objects to which objects lead.
use Rattle.std.specs.Prelude.{ℕ, ◌+◌, List, [], ◌∷◌, ◌++◌, Option, Some, None, map}
use Rattle.std.specs.List.{flat_map}
use Rattle.std.specs.Option.{option_to_list}
use Rattle.et_base.specs.declared.value.Value.{Value}
use Rattle.et_base.specs.declared.value.Value.TheVariants.{Unset, Int, Long, LongHigh, Null, Ref}
use Rattle.et_heap.specs.Objects.{ObjectState, Objects}

-- the objects that a value refers to: one or none
abbrev pub refs_of_value : Value → List ℕ
refs_of_value Unset = []
refs_of_value (Int n) = []
refs_of_value (Long n) = []
refs_of_value LongHigh = []
refs_of_value Null = []
refs_of_value (Ref o) = o ∷ []

abbrev pub refs_of : List Value → List ℕ
refs_of vs = flat_map refs_of_value vs

-- The objects to which an object leads: those in its slots, its queue, and those that wait in it. What it refers to
-- weakly is none of them.
abbrev pub leads_to : ObjectState → List ℕ
leads_to x = refs_of x.slots ++ (option_to_list x.queue ++ x.waiting)

abbrev pub targets_of : Option ObjectState → List ℕ
targets_of None = []
targets_of (Some x) = leads_to x

-- each object with each to which it leads; the first of the list has the number k
abbrev pub pairs_from : ℕ → Objects → List (ℕ × ℕ)
pairs_from k [] = []
pairs_from k (x ∷ xs) = map (λ o. (k, o)) (targets_of x) ++ pairs_from (k + 1) xs

abbrev pub pairs_of : Objects → List (ℕ × ℕ)
pairs_of heap = pairs_from 0 heap

abbrev pub gone_from : ℕ → Objects → List ℕ
gone_from k [] = []
gone_from k (None ∷ xs) = k ∷ gone_from (k + 1) xs
gone_from k (Some x ∷ xs) = gone_from (k + 1) xs

-- the objects that were taken out
abbrev pub gone_of : Objects → List ℕ
gone_of [] = []
gone_of (x ∷ xs) = gone_from 1 xs
