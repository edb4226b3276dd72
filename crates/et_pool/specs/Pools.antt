-- A pool, or its first broken item (JVMS 4.1, constant_pool_count and constant_pool; 4.4).
use Rattle.std.specs.Prelude.{◌≡◌, ℕ, ◌-◌, ◌<◌, List, [], ◌∷◌, Option, Result, Ok, Err}
use Rattle.std.specs.Int.{w16}
use Rattle.std.specs.Global.{Vec}
use Rattle.et_pool.specs.declared.fault.PoolFault.{PoolFault}
use Rattle.et_pool.specs.declared.entry.Entry.{Entry}
use Rattle.et_pool.specs.declared.look.Pool.{Pool}
use Rattle.et_pool.specs.Broken.{Broken, Tag}
use Rattle.et_pool.specs.Entries.{Item, slots_taken, slots_of, view_slots}
use Rattle.et_pool.specs.Reading.{pool_number, entry_at, IsPoolFaultOf}

-- These entries stand one after the other from `at` up to `after`. Before the first of them `room` indices are to be
-- filled, behind the last one `left`.
abbrev pub AreEntries : List ℕ → ℕ → ℕ → List Item → ℕ → ℕ → Type 0
AreEntries bytes room at [] left after = (left ≡ room) × (after ≡ at)
AreEntries bytes room at (e ∷ es) left after = (next : ℕ) × (entry_at bytes room at ≡ Ok (e, next)) × AreEntries bytes (room - slots_taken e) next es left after

-- behind whole entries, the next one that is wanted is broken
pub record BreaksEntries (bytes : List ℕ) (room at : ℕ) (b : Broken) : Type 0 where
  pub before : List Item
  pub left : ℕ
  pub place : ℕ
  pub whole : AreEntries bytes room at before left place
  pub wanted : 0 < left
  pub broken : entry_at bytes left place ≡ Err b

-- entries fill all the indices, and these slots hold them
pub record AreSlots (bytes : List ℕ) (room at : ℕ) (slots : List (Option Item)) (after : ℕ) : Type 0 where
  pub entries : List Item
  pub whole : AreEntries bytes room at entries 0 after
  pub slots_are : slots ≡ slots_of entries

-- The bytes have a pool at a place: these slots, up to the place after them. The count is one more than the number of
-- indices that entries fill.
pub record IsPool (bytes : List ℕ) (at : ℕ) (slots : List (Option Item)) (after : ℕ) : Type 0 where
  pub count : ℕ
  pub start : ℕ
  pub counted : pool_number w16 bytes at ≡ Ok (count, start)
  pub some : 0 < count
  pub filled : AreSlots bytes (count - 1) start slots after

-- the first broken item of a pool at a place
pub data BreaksPool (bytes : List ℕ) (at : ℕ) (b : Broken) : Type 0 where
  -- the count is cut off
  CutCount : pool_number w16 bytes at ≡ Err b → BreaksPool bytes at b
  -- the count is 0
  NoCount : (start : ℕ) → pool_number w16 bytes at ≡ Ok (0, start) → b ≡ Tag at → BreaksPool bytes at b
  -- an entry is broken
  InEntry : (count start : ℕ) → pool_number w16 bytes at ≡ Ok (count, start) → 0 < count → BreaksEntries bytes (count - 1) start b → BreaksPool bytes at b

-- what a call returned are the slots behind a count, or the first broken entry
abbrev pub ReadsSlots : List ℕ → ℕ → ℕ → Result (Vec (Option Entry) × ℕ) PoolFault → Type 0
ReadsSlots bytes count start (Ok x) = AreSlots bytes (count - 1) start (view_slots x.0.items) x.1
ReadsSlots bytes count start (Err f) = IsPoolFaultOf f (BreaksEntries bytes (count - 1) start)

-- what a call returned is the pool at a place and the place after it, or the first broken item
abbrev pub ReadsPool : List ℕ → ℕ → Result (Pool × ℕ) PoolFault → Type 0
ReadsPool bytes at (Ok x) = (x.0.at ≡ at) × IsPool bytes at x.0.slots x.1
ReadsPool bytes at (Err f) = IsPoolFaultOf f (BreaksPool bytes at)

-- what stands at a place: a pool and the place after it, or the first broken item
abbrev pub PoolIs : List ℕ → ℕ → Result (List (Option Item) × ℕ) Broken → Type 0
PoolIs bytes at (Ok x) = IsPool bytes at x.0 x.1
PoolIs bytes at (Err b) = BreaksPool bytes at b

-- exactly one of them stands there
pub record HasOnePool (bytes : List ℕ) (at : ℕ) : Type 0 where
  pub answer : Result (List (Option Item) × ℕ) Broken
  pub holds : PoolIs bytes at answer
  pub only : (other : Result (List (Option Item) × ℕ) Broken) → PoolIs bytes at other → other ≡ answer
