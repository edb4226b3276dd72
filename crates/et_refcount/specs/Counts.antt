-- A heap with reference counts, its tables and its running totals. The contracts of private functions alone speak of it.
use Rattle.std.specs.Prelude.{◌≡◌, ◌≢◌, ◌⊎◌, if◌then◌else◌, ℕ, ◌+◌, ◌≤◌, Bool, true, false, nat_eq, is_some, List, [], ◌∷◌, length, sum, max, All, Contains, Option, Some, None, unwrap_or, slice_set}
use Rattle.std.specs.List.{list_any, IsDistinct}
use Rattle.std.specs.List.Sorted.{IsStrictlySortedBy}
use Rattle.std.specs.Map.{keys_of}
use Rattle.std.specs.Ordering.{nat_cmp}
use Rattle.et_graph.specs.Graph.{Graph, Decides}
use Rattle.et_replay.specs.declared.item.Item.{Item}
use Rattle.et_replay.specs.declared.model.Kind.TheVariants as kinds
use Rattle.et_replay.specs.declared.model.Policy.{Policy}
use Rattle.et_replay.specs.Fed.{AreFed}
use Rattle.et_replay.specs.Feeding.{MayCome}
use Rattle.et_replay.specs.Heap.{size_in, is_made, ends_life, bytes}
use Rattle.et_replay.specs.Items.{sizes}
use Rattle.et_replay.specs.Tally.{Counted, is_among, live_of, settled, counted_on, counted_after}
use Rattle.et_refcount.specs.declared.counts.Counts.{Counts}
use Rattle.et_refcount.specs.declared.objects.Place.TheVariants.{Held, Gone}
use Rattle.et_refcount.specs.Objects.{Tables, tables_of, no_tables, empty_tables, held_at, made_at, flag_at, slots_at, target_at, is_left, AreCounted, IsOnlyLeft, WritesReference}

-- what is kept, with lists in the place of vectors and maps
pub record View : Type 0 where
  pub capacity : ℕ
  pub tables : Tables
  pub bytes : ℕ
  pub minor : ℕ
  pub major : ℕ
  pub leaked : ℕ
  pub freed : ℕ
  pub peak : ℕ
  pub exhausted : Option ℕ

abbrev pub view_of : Counts → View
view_of c = record { capacity = c.capacity; tables = tables_of c.objects; bytes = c.bytes; minor = c.totals.minor; major = c.totals.major; leaked = c.totals.kept; freed = c.totals.freed; peak = c.totals.peak; exhausted = c.totals.exhausted }

abbrev pub new_view : View
new_view = record { capacity = 0; tables = no_tables; bytes = 0; minor = 0; major = 0; leaked = 0; freed = 0; peak = 0; exhausted = None }

-- with places for so many objects, and null
abbrev pub opened : ℕ → ℕ → View
opened capacity objects = record new_view { capacity = capacity; tables = empty_tables (objects + 1) }

-- the tables tell which objects aren't freed, which are dead, and what stands in slots
pub record AgreesWith (t : Tables) (n : ℕ) (past : List Item) (c : Counted) : Type 0 where
  pub long : length t.places ≡ n + 1
  pub dead_long : length t.dead ≡ n + 1
  pub tables : AreCounted t
  pub held_is : (o : ℕ) → held_at t.places o ≡ (if is_among c.heap.space o then size_in past o else None)
  pub made_is : (o : ℕ) → o ≤ n → made_at t.places o ≡ is_made past o
  pub made : All (λ o. is_made past o ≡ true) c.heap.space
  pub distinct : IsDistinct nat_eq c.heap.space
  pub dead_is : (o : ℕ) → o ≤ n → flag_at t.dead o ≡ list_any (ends_life o) past
  pub stands : (u s x : ℕ) → target_at (slots_at t.slots u) s ≡ Some x → x ≢ 0 → Contains c.references (u, s, x)
  pub found : (u s x : ℕ) → Contains c.references (u, s, x) → target_at (slots_at t.slots u) s ≡ Some x
  pub among : (u s x : ℕ) → Contains c.references (u, s, x) → Contains c.heap.space u × Contains c.heap.space x
  pub sorted : (u : ℕ) → IsStrictlySortedBy nat_cmp (keys_of (slots_at t.slots u))

-- the running totals, but for the leaked bytes
pub record HasTotals (v : View) (past : List Item) (c : Counted) : Type 0 where
  pub bytes_is : v.bytes ≡ bytes past c.heap.space
  pub freed_is : v.freed ≡ c.heap.freed
  pub peak_is : v.peak ≡ c.heap.peak
  pub exhausted_is : v.exhausted ≡ c.heap.exhausted
  pub nursery_none : c.heap.nursery ≡ []
  pub minor_is : v.minor ≡ c.heap.minor
  pub major_is : v.major ≡ c.heap.major
  pub sums : c.heap.freed + bytes past c.heap.space ≤ sum (sizes past)

-- the item is noted; only the one object may be left
pub record IsReady (v : View) (object n : ℕ) (past : List Item) (c : Counted) : Type 0 where
  pub few : n ≤ 16777215
  pub fed : AreFed n past
  pub agrees : AgreesWith v.tables n past c
  pub totals : HasTotals v past c
  pub leaked_is : v.leaked + bytes past (live_of past c.heap.space) ≡ v.bytes
  pub only : IsOnlyLeft v.tables object

-- after an object was placed
abbrev pub placed : ℕ → ℕ → View → View
placed object size v = record v {
  tables = record v.tables { places = slice_set v.tables.places object (Held size) };
  bytes = v.bytes + size;
  leaked = (if flag_at v.tables.dead object then v.leaked + size else v.leaked);
  peak = max v.peak (v.bytes + size);
}

-- .. or there was no room for it
abbrev pub left_out : ℕ → ℕ → View → View
left_out event object v = record v { tables = record v.tables { places = slice_set v.tables.places object Gone }; exhausted = Some event }

-- after an object ended
abbrev pub ended : ℕ → View → View
ended object v =
    if flag_at v.tables.dead object then v
    else record v { tables = record v.tables { dead = slice_set v.tables.dead object true }; leaked = v.leaked + unwrap_or (held_at v.tables.places object) 0 }

-- after `new` was written to a slot in which `old` stood; an object that isn't held has no slots
pub record WritesTo (object slot new old : ℕ) (v v' : View) : Type 0 where
  pub rest : v' ≡ record v { tables = v'.tables }
  pub done : ((is_some (held_at v.tables.places object) ≡ false) × (v'.tables ≡ v.tables)) ⊎ ((is_some (held_at v.tables.places object) ≡ true) × WritesReference object slot (if is_some (held_at v.tables.places new) then new else 0) old v.tables v'.tables)

-- nothing is left
pub record IsCountedHeap (v : View) (n : ℕ) (past : List Item) (c : Counted) : Type 0 where
  pub few : n ≤ 16777215
  pub fed : AreFed n past
  pub agrees : AgreesWith v.tables n past c
  pub totals : HasTotals v past c
  pub leaked_is : v.leaked ≡ c.heap.kept
  pub kept_is : c.heap.kept + bytes past (live_of past c.heap.space) ≡ bytes past c.heap.space
  pub none : (o : ℕ) → is_some (held_at v.tables.places o) ≡ true → is_left v.tables.dead v.tables.counts o ≡ false

-- what is left is freed
pub record Settles (v v' : View) (object : ℕ) : Type 0 where
  pub capacity_is : v'.capacity ≡ v.capacity
  pub settled : (n : ℕ) (past : List Item) (c : Counted) → IsReady v object n past c → (reached : Graph → ℕ → Bool) → Decides reached → IsCountedHeap v' n past (settled reached past c)

-- the item is taken as the policy has it
pub record TakesItem (item : Item) (v v' : View) : Type 0 where
  pub capacity_is : v'.capacity ≡ v.capacity
  pub taken : (n : ℕ) (past : List Item) (c : Counted) → MayCome n past item → IsCountedHeap v n past c → (reached : Graph → ℕ → Bool) → Decides reached → IsCountedHeap v' n (item ∷ past) (counted_on reached v.capacity past item c)

-- the heap stands for these items, and accounts for them by the policy
pub record Accounts (own policy : Policy) (v : View) (n : ℕ) (past : List Item) : Type 0 where
  pub policy_is : own ≡ policy
  pub kind_is : policy.kind ≡ kinds.RefCount
  pub capacity_is : v.capacity ≡ policy.first
  pub stands : (reached : Graph → ℕ → Bool) → Decides reached → IsCountedHeap v n past (counted_after reached v.capacity past)
