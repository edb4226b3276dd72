-- The accounts of the four policies. In each list of items here the newest stands first.
use Rattle.std.specs.Prelude.{ℕ, ◌+◌, ◌-◌, ◌/◌, max, Bool, not, ◌==◌, ◌&&◌, nat_lt, nat_le, if◌then◌else◌, List, [], ◌∷◌, ◌++◌, length, filter, map, Option, Some, None, is_some}
use Rattle.std.specs.List.{list_any, filter_map}
use Rattle.et_graph.specs.Graph.{Graph}
use Rattle.et_replay.specs.declared.item.Item.{Item}
use Rattle.et_replay.specs.declared.item.Item.TheVariants.{Alloc, Write, Death}
use Rattle.et_replay.specs.declared.model.Kind.{Kind}
use Rattle.et_replay.specs.declared.model.Kind.TheVariants.{MarkSweep, SemiSpace, Generational, RefCount}
use Rattle.et_replay.specs.declared.model.Policy.{Policy}
use Rattle.et_replay.specs.declared.model.Report.{Report}
use Rattle.et_replay.specs.declared.model.Totals.{Totals}
use Rattle.et_replay.specs.Heap.{is_live, bytes, slots}
use Rattle.et_replay.specs.Items.{made_objects}

-- The heap of a policy. A generational one has objects in its nursery and others in its old space; the other three have
-- one space. Each number counts from 0.
pub record Heap : Type 0 where
  pub nursery : List ℕ
  pub space : List ℕ
  -- minor collections, and major ones
  pub minor : ℕ
  pub major : ℕ
  -- the bytes that collections kept, and those that were freed; with reference counts nothing is collected, and kept are
  -- the bytes that are dead and not freed
  pub kept : ℕ
  pub freed : ℕ
  -- the greatest number of bytes in the heap after an object was placed
  pub peak : ℕ
  -- the event of the Alloc item for which there was no room
  pub exhausted : Option ℕ

abbrev pub empty_heap : Heap
empty_heap = record { nursery = []; space = []; minor = 0; major = 0; kept = 0; freed = 0; peak = 0; exhausted = None }

abbrev pub totals_of : Heap → Totals
totals_of heap = record { minor = heap.minor; major = heap.major; kept = heap.kept; freed = heap.freed; peak = heap.peak; exhausted = heap.exhausted }

-- the report of a heap
abbrev pub account : Policy → Heap → Report
account policy heap = record { policy = policy; totals = totals_of heap }

-- so many bytes fit beside the objects
abbrev pub fits_capacity : List Item → List ℕ → ℕ → ℕ → Bool
fits_capacity past objects size capacity = nat_le (bytes past objects + size) capacity

abbrev pub live_of : List Item → List ℕ → List ℕ
live_of past objects = filter (is_live past) objects

abbrev pub dead_of : List Item → List ℕ → List ℕ
dead_of past objects = filter (λ object. not (is_live past object)) objects

-- a collection of the space frees what is dead
abbrev pub sweep : List Item → Heap → Heap
sweep past heap = record heap { space = live_of past heap.space; major = heap.major + 1; freed = heap.freed + bytes past (dead_of past heap.space) }

-- .. and where there is no nursery, what it keeps is counted
abbrev pub collect : List Item → Heap → Heap
collect past heap = record (sweep past heap) { kept = heap.kept + bytes past (live_of past heap.space) }

abbrev pub exhaust : ℕ → Heap → Heap
exhaust event heap = record heap { exhausted = Some event }

-- an object was placed
abbrev pub peaked : List Item → Heap → Heap
peaked past heap = record heap { peak = max heap.peak (bytes past heap.nursery + bytes past heap.space) }

abbrev pub place : List Item → ℕ → Heap → Heap
place past object heap = peaked past (record heap { space = heap.space ++ object ∷ [] })

abbrev pub place_young : List Item → ℕ → Heap → Heap
place_young past object heap = peaked past (record heap { nursery = heap.nursery ++ object ∷ [] })

-- an object of this size comes into the space of this capacity; where it doesn't fit, there is a collection first
abbrev pub place_with : (List Item → Heap → Heap) → ℕ → List Item → ℕ → ℕ → ℕ → Heap → Heap
place_with collection capacity past event object size heap =
    let ready = (if fits_capacity past heap.space size capacity then heap else collection past heap) in
    if fits_capacity past ready.space size capacity then place (Alloc event object size ∷ past) object ready else exhaust event ready

-- MARK-SWEEP AND SEMISPACE: one space of this capacity

abbrev pub space_on : ℕ → List Item → Item → Heap → Heap
space_on capacity past (Alloc event object size) heap = place_with collect capacity past event object size heap
space_on capacity past _ heap = heap

abbrev pub space_after : ℕ → List Item → Heap
space_after capacity [] = empty_heap
space_after capacity (item ∷ past) =
    let heap = space_after capacity past in
    if is_some heap.exhausted then heap else space_on capacity past item heap

-- REFERENCE COUNTING: one space, and what stands in the slots of its objects

-- an object, a slot of it, and the object to which the slot refers; null isn't listed
abbrev pub Reference : Type 0
Reference = ℕ × ℕ × ℕ

pub record Counted : Type 0 where
  -- its space has the objects that aren't freed
  pub heap : Heap
  -- their slots
  pub references : List Reference

abbrev pub empty_counted : Counted
empty_counted = record { heap = empty_heap; references = [] }

abbrev pub is_among : List ℕ → ℕ → Bool
is_among objects object = list_any (λ other. other == object) objects

abbrev pub is_slot : ℕ → ℕ → Reference → Bool
is_slot object slot r = r.0 == object && r.1 == slot

-- Reference `new` is written to a slot. Nothing is written to what isn't in the space, and a slot that is given what isn't
-- in the space is null.
abbrev pub written : ℕ → ℕ → ℕ → Counted → Counted
written object slot new c =
    let others = filter (λ r. not (is_slot object slot r)) c.references in
    if not (is_among c.heap.space object) then c
    else if is_among c.heap.space new then record c { references = (object, slot, new) ∷ others } else record c { references = others }

-- the object is placed
abbrev pub entered : List Item → ℕ → Counted → Counted
entered past object c = record c { heap = place past object c.heap }

-- what the slots of the object refer to
abbrev pub targets_of : List Reference → ℕ → List ℕ
targets_of references object = filter_map (λ r. if r.0 == object then Some r.2 else None) references

-- the references, searched from some of the objects
abbrev pub searched_from : List ℕ → List Reference → Graph
searched_from roots references = record { made = 0; roots = roots; pairs = map (λ r. (r.0, r.2)) references; gone = [] }

-- GENERATIONAL: a nursery and an old space. `reached` is a test that decides reachability by paths.
module _ (reached : Graph → ℕ → Bool) where
  -- The slots that refer to objects of the nursery, with the live objects of the nursery and all of the old space as
  -- roots, be they live or dead.
  abbrev pub nursery_graph : List Item → Heap → Graph
  nursery_graph past heap = record {
    made = length (made_objects past);
    roots = live_of past heap.nursery ++ heap.space;
    pairs = filter (λ pair. list_any (λ object. object == pair.1) heap.nursery) (slots past);
    gone = [];
  }

  -- the objects of the nursery to which slots lead
  abbrev pub survivors : List Item → Heap → List ℕ
  survivors past heap = filter (reached (nursery_graph past heap)) heap.nursery

  abbrev pub promote : List Item → Heap → Heap
  promote past heap = record heap { nursery = []; space = heap.space ++ survivors past heap; minor = heap.minor + 1; kept = heap.kept + bytes past (survivors past heap) }

  -- a minor collection, and a major one where the old space is too full then
  abbrev pub minor_collection : ℕ → List Item → Heap → Heap
  minor_collection old past heap = let next = promote past heap in if fits_capacity past next.space 0 old then next else sweep past next

  -- an object comes into the nursery
  abbrev pub nursery_on : ℕ → ℕ → List Item → ℕ → ℕ → ℕ → Heap → Heap
  nursery_on nursery old past event object size heap =
      if fits_capacity past heap.nursery size nursery then place_young (Alloc event object size ∷ past) object heap
      else (let ready = minor_collection old past heap in
      if fits_capacity past ready.space 0 old then place_young (Alloc event object size ∷ past) object ready else exhaust event ready)

  -- what is larger than the nursery goes to the old space
  abbrev pub generations_on : ℕ → ℕ → List Item → Item → Heap → Heap
  generations_on nursery old past (Alloc event object size) heap =
      if nat_lt nursery size then place_with sweep old past event object size heap else nursery_on nursery old past event object size heap
  generations_on nursery old past _ heap = heap

  abbrev pub generations_after : ℕ → ℕ → List Item → Heap
  generations_after nursery old [] = empty_heap
  generations_after nursery old (item ∷ past) =
      let heap = generations_after nursery old past in
      if is_some heap.exhausted then heap else generations_on nursery old past item heap

  -- REFERENCE COUNTING goes by paths and cycles, and speaks of no count

  -- a path of slots leads from the object to itself
  abbrev pub is_on_cycle : List Reference → ℕ → Bool
  is_on_cycle references object = reached (searched_from (targets_of references object) references) object

  -- What isn't freed: what is live, what stands on a cycle, and that to which a path of slots leads from there.
  abbrev pub unfreed : List Item → Counted → List ℕ
  unfreed past c =
      let roots = live_of past c.heap.space ++ filter (is_on_cycle c.references) c.heap.space in
      filter (reached (searched_from roots c.references)) c.heap.space

  -- these objects stay, with their slots
  abbrev pub left_with : List Item → List ℕ → Counted → Counted
  left_with past stay c = record {
    heap = record c.heap { space = stay; kept = bytes past (dead_of past stay); freed = c.heap.freed + (bytes past c.heap.space - bytes past stay) };
    references = filter (λ r. is_among stay r.0) c.references;
  }

  -- all others are freed
  abbrev pub settled : List Item → Counted → Counted
  settled past c = left_with past (unfreed past c) c

  abbrev pub counted_on : ℕ → List Item → Item → Counted → Counted
  counted_on capacity past (Alloc event object size) c =
      if fits_capacity past c.heap.space size capacity then settled (Alloc event object size ∷ past) (entered (Alloc event object size ∷ past) object c) else record c { heap = exhaust event c.heap }
  counted_on capacity past (Write event object slot new) c = settled (Write event object slot new ∷ past) (written object slot new c)
  counted_on capacity past (Death object time) c = settled (Death object time ∷ past) c

  abbrev pub counted_after : ℕ → List Item → Counted
  counted_after capacity [] = empty_counted
  counted_after capacity (item ∷ past) =
      let c = counted_after capacity past in
      if is_some c.heap.exhausted then c else counted_on capacity past item c

  -- THE TALLY: once a heap is exhausted, nothing changes any more

  abbrev pub heap_by : Kind → ℕ → ℕ → List Item → Heap
  heap_by MarkSweep first second past = space_after first past
  heap_by SemiSpace first second past = space_after (first / 2) past
  heap_by Generational first second past = generations_after first second past
  heap_by RefCount first second past = (counted_after first past).heap

  abbrev pub heap_after : Policy → List Item → Heap
  heap_after policy past = heap_by policy.kind policy.first policy.second past

  abbrev pub tally : Policy → List Item → Report
  tally policy past = account policy (heap_after policy past)

  abbrev pub is_exhausted : Policy → List Item → Bool
  is_exhausted policy past = is_some (heap_after policy past).exhausted
