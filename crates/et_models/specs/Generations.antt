-- A nursery and an old space with their tables. The contracts of private functions alone speak of it.
use Rattle.std.specs.Prelude.{◌≡◌, ◌≢◌, ◌⊎◌, ◌==◌, ◌&&◌, if◌then◌else◌, ℕ, ◌+◌, ◌-◌, ◌*◌, ◌^◌, ◌<◌, ◌≤◌, max, nat_eq, Bool, true, false, is_some, replicate, List, [], ◌∷◌, ◌++◌, length, filter, Contains, Option, Some, None, sum, unwrap_or, slice_index_or}
use Rattle.std.specs.List.{sum_by, All}
use Rattle.std.specs.BTreeMap.{BTreeMap, get}
use Rattle.std.specs.Ordering.{nat_cmp}
use Rattle.indexmap.specs.IndexSet.{insert_key}
use Rattle.et_graph.specs.Graph.{Graph, Decides}
use Rattle.et_replay.specs.declared.item.Item.{Item}
use Rattle.et_replay.specs.declared.model.Policy.{Policy}
use Rattle.et_replay.specs.Heap.{bytes, is_made, content}
use Rattle.et_replay.specs.Items.{made_objects, sizes}
use Rattle.et_replay.specs.Feeding.{MayCome}
use Rattle.et_replay.specs.declared.model.Kind.TheVariants as kinds
use Rattle.et_replay.specs.Tally.{Heap, empty_heap, generations_on, generations_after}
use Rattle.et_replay.specs.Fed.{AreFed}
use Rattle.et_models.specs.Tables.{size_at, with_size, Knows}
use Rattle.et_models.specs.Places.{place_at, with_place, is_nursery, is_kept, is_old, without_dead, AreCollected}
use Rattle.et_models.specs.Marking.{NamesInSlot, BeginsMarking, IsFound}
use Rattle.et_models.specs.Spaces.{unflagged}
use Rattle.et_models.specs.declared.places.Place.{Place}
use Rattle.et_models.specs.declared.places.Place.TheVariants.{Nowhere, Nursery, Old}
use Rattle.et_models.specs.declared.generations.Generations.{Generations}

-- what is kept, with lists in the place of vectors
pub record Both : Type 0 where
  pub first : ℕ
  pub second : ℕ
  pub sizes : List (Option ℕ)
  pub dead : List Bool
  pub places : List Place
  pub slots : List (BTreeMap ℕ ℕ)
  pub remembered : List ℕ
  pub early : List ℕ
  pub young_bytes : ℕ
  pub old_bytes : ℕ
  pub heap : Heap

abbrev pub both_of : Generations → Both
both_of g = record {
  first = g.first;
  second = g.second;
  sizes = g.sizes.items;
  dead = g.dead.items;
  places = g.places.items;
  slots = g.slots.items;
  remembered = g.remembered.keys;
  early = g.early.keys;
  young_bytes = g.nursery_bytes;
  old_bytes = g.space_bytes;
  heap = record { nursery = g.nursery.items; space = g.space.items; minor = g.totals.minor; major = g.totals.major; kept = g.totals.kept; freed = g.totals.freed; peak = g.totals.peak; exhausted = g.totals.exhausted };
}

abbrev pub new_both : Both
new_both = record { first = 0; second = 0; sizes = []; dead = []; places = []; slots = []; remembered = []; early = []; young_bytes = 0; old_bytes = 0; heap = empty_heap }

-- after a collection of the old space
abbrev pub swept : Both → Both
swept v =
    let live = unflagged v.dead v.heap.space in
    let kept = sum_by (size_at v.sizes) live in
    record v { places = without_dead v.dead v.heap.space v.places; old_bytes = kept; heap = record v.heap { space = live; major = v.heap.major + 1; freed = v.heap.freed + (v.old_bytes - kept) } }

-- after an object came into the nursery
abbrev pub placed_young : ℕ → ℕ → Both → Both
placed_young object size v = record v {
  sizes = with_size v.sizes object size;
  places = with_place v.places object Nursery;
  young_bytes = v.young_bytes + size;
  heap = record v.heap { nursery = v.heap.nursery ++ object ∷ []; peak = max v.heap.peak (v.young_bytes + size + v.old_bytes) };
}

-- .. or into the old space
abbrev pub placed_old : ℕ → ℕ → Both → Both
placed_old object size v = record v {
  sizes = with_size v.sizes object size;
  places = with_place v.places object Old;
  old_bytes = v.old_bytes + size;
  heap = record v.heap { space = v.heap.space ++ object ∷ []; peak = max v.heap.peak (v.young_bytes + (v.old_bytes + size)) };
}

-- .. or there was no room
abbrev pub left_out : ℕ → ℕ → ℕ → Both → Both
left_out event object size v = record v { sizes = with_size v.sizes object size; heap = record v.heap { exhausted = Some event } }

-- after an object was given another: one that isn't made, or one of the nursery to one of the old space
abbrev pub reference_noted : ℕ → ℕ → Both → Both
reference_noted object new v =
    if new == 0 then v
    else if is_some (slice_index_or v.sizes new None) then (if is_old (place_at v.places object) && is_nursery (place_at v.places new) then record v { remembered = insert_key nat_eq v.remembered object } else v)
    else record v { early = insert_key nat_eq v.early object }

-- after a minor collection kept these objects, which went to the old space
abbrev pub moved : List ℕ → Both → Both
moved kept v =
    let more = sum_by (size_at v.sizes) kept in
    record v {
      remembered = [];
      young_bytes = 0;
      old_bytes = v.old_bytes + more;
      heap = record v.heap { nursery = []; space = v.heap.space ++ kept; minor = v.heap.minor + 1; kept = v.heap.kept + more };
    }

-- after the objects that were marked went there
abbrev pub promoted : List Place → List Place → Both → Both
promoted marked places v = record (moved (filter (λ o. is_kept (place_at marked o)) v.heap.nursery) v) { places = places }

-- a minor collection marked what is reached, and promoted it
pub record Promotes (v v' : Both) : Type 0 where
  pub marked : List Place
  pub found : (g : Graph) (space : List ℕ) → BeginsMarking g v.heap.nursery space (v.remembered ++ v.early) v.dead v.slots v.places → IsFound g v.places marked
  pub cleared : AreCollected v.heap.nursery marked v'.places
  pub is : v' ≡ promoted marked v'.places v

-- each slot has what the items say
pub record KnowsSlots (slots : List (BTreeMap ℕ ℕ)) (objects : ℕ) (past : List Item) : Type 0 where
  pub long : length slots ≡ objects + 1
  pub content_is : (o s : ℕ) (own : BTreeMap ℕ ℕ) → o < length slots → own ≡ slice_index_or slots o own → unwrap_or (get nat_cmp own s) 0 ≡ content past o s

-- the table tells which objects are in the nursery and in the old space
pub record KnowsPlaces (places : List Place) (objects : ℕ) (nursery space : List ℕ) : Type 0 where
  pub long : length places ≡ objects + 1
  pub young : (o : ℕ) → Contains nursery o → place_at places o ≡ Nursery
  pub old : (o : ℕ) → Contains space o → place_at places o ≡ Old
  pub only : (o : ℕ) → (place_at places o ≡ Nowhere) ⊎ (Contains nursery o ⊎ Contains space o)

-- an object of the old space that refers to the nursery is noted, and so is each that refers to an object that isn't made
pub record AreNoted (v : Both) (past : List Item) : Type 0 where
  pub young : (u t : ℕ) → Contains v.heap.space u → NamesInSlot v.slots u t → place_at v.places t ≡ Nursery → Contains (v.remembered ++ v.early) u
  pub early : (u t : ℕ) → NamesInSlot v.slots u t → t ≢ 0 → is_made past t ≡ false → Contains v.early u

-- what both spaces hold is made, and its bytes are counted
pub record HoldsMade (v : Both) (past : List Item) : Type 0 where
  pub young_bytes_is : v.young_bytes ≡ bytes past v.heap.nursery
  pub old_bytes_is : v.old_bytes ≡ bytes past v.heap.space
  pub young_made : All (λ o. is_made past o ≡ true) v.heap.nursery
  pub old_made : All (λ o. is_made past o ≡ true) v.heap.space
  pub sums : v.heap.freed + (bytes past v.heap.nursery + bytes past v.heap.space) ≤ sum (sizes past)

-- there were at most so many collections, and none kept more than 2^54 bytes
pub record HasCollected (v : Both) (minor major : ℕ) : Type 0 where
  pub kept_low : v.heap.kept ≤ v.heap.minor * 2 ^ 54
  pub minor_low : v.heap.minor ≤ minor
  pub major_low : v.heap.major ≤ major

-- the tables tell what the items so far say, and the numbers are low: at most so many minor and major collections
pub record IsReadyToCollect (v : Both) (objects : ℕ) (past : List Item) (minor major : ℕ) : Type 0 where
  pub fed : AreFed objects past
  pub few : objects ≤ 16777215
  pub knows : Knows v.sizes v.dead objects past
  pub slots : KnowsSlots v.slots objects past
  pub places : KnowsPlaces v.places objects v.heap.nursery v.heap.space
  pub noted : AreNoted v past
  pub holds : HoldsMade v past
  pub collected : HasCollected v minor major

-- the slot is given an object, and nothing else changes
pub record WritesSlot (slots slots' : List (BTreeMap ℕ ℕ)) (object slot new : ℕ) : Type 0 where
  pub as_long : length slots' ≡ length slots
  pub at : (s : ℕ) (own own' : BTreeMap ℕ ℕ) → own ≡ slice_index_or slots object own → own' ≡ slice_index_or slots' object own' → get nat_cmp own' s ≡ (if slot == s then Some new else get nat_cmp own s)
  pub others : (o : ℕ) (own : BTreeMap ℕ ℕ) → o ≢ object → own ≡ slice_index_or slots' o own → own ≡ slice_index_or slots o own

-- a minor collection, and a major one where the old space is too full then
pub record Collects (v v' : Both) : Type 0 where
  pub middle : Both
  pub promotes : Promotes v middle
  pub is : ((middle.old_bytes ≤ middle.second) × (v' ≡ middle)) ⊎ ((middle.second < middle.old_bytes) × (v' ≡ swept middle))

-- between two items, each collection was for one object
abbrev pub IsStable : Both → ℕ → List Item → Type 0
IsStable v objects past = IsReadyToCollect v objects past (length (made_objects past)) (length (made_objects past))

-- the item is taken as the policy has it
pub record StepsBoth (item : Item) (v v' : Both) : Type 0 where
  pub first_is : v'.first ≡ v.first
  pub second_is : v'.second ≡ v.second
  pub stable : (objects : ℕ) (past : List Item) → MayCome objects past item → IsStable v objects past → IsStable v' objects (item ∷ past)
  pub heap_is : (objects : ℕ) (past : List Item) → MayCome objects past item → IsStable v objects past →
      (reached : Graph → ℕ → Bool) → Decides reached → v'.heap ≡ generations_on reached v.first v.second past item v.heap

-- the two spaces stand for these items, and account for them by the policy
pub record StandsAs (own policy : Policy) (v : Both) (objects : ℕ) (past : List Item) : Type 0 where
  pub policy_is : own ≡ policy
  pub kind_is : policy.kind ≡ kinds.Generational
  pub first_is : v.first ≡ policy.first
  pub second_is : v.second ≡ policy.second
  pub stable : IsStable v objects past
  pub heap_is : (reached : Graph → ℕ → Bool) → Decides reached → v.heap ≡ generations_after reached v.first v.second past

-- no slot has anything in it
abbrev pub AreEmpty : List (BTreeMap ℕ ℕ) → Type 0
AreEmpty slots = All (λ m. m.entries ≡ []) slots

-- places for so many objects, and nothing in them
pub record Opens (first second objects : ℕ) (v : Both) : Type 0 where
  pub first_is : v.first ≡ first
  pub second_is : v.second ≡ second
  pub sizes_is : v.sizes ≡ replicate (objects + 1) None
  pub dead_is : v.dead ≡ replicate (objects + 1) false
  pub places_is : v.places ≡ replicate (objects + 1) Nowhere
  pub slots_long : length v.slots ≡ objects + 1
  pub slots_empty : AreEmpty v.slots
  pub remembered_none : v.remembered ≡ []
  pub early_none : v.early ≡ []
  pub young_none : v.young_bytes ≡ 0
  pub old_none : v.old_bytes ≡ 0
  pub heap_is : v.heap ≡ empty_heap
