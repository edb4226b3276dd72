-- One space with its tables. The contracts of private functions alone speak of it.
use Rattle.std.specs.Prelude.{◌≡◌, ℕ, ◌+◌, ◌-◌, ◌≤◌, max, Bool, not, nat_le, if◌then◌else◌, List, [], ◌∷◌, ◌++◌, filter, Option, Some, None, vec_capacity}
use Rattle.std.specs.List.{sum_by}
use Rattle.et_replay.specs.declared.item.Item.{Item}
use Rattle.et_replay.specs.declared.model.Kind.{Kind}
use Rattle.et_replay.specs.declared.model.Policy.{Policy}
use Rattle.et_replay.specs.Heap.{bytes}
use Rattle.et_replay.specs.Tally.{Heap, space_after}
use Rattle.et_replay.specs.Fed.{AreFed}
use Rattle.et_models.specs.Tables.{size_at, flag_at, with_size, Knows}
use Rattle.et_models.specs.declared.space.Space.{Space}

-- what is kept, with lists in the place of vectors
pub record View : Type 0 where
  pub capacity : ℕ
  pub sizes : List (Option ℕ)
  pub dead : List Bool
  pub held : List ℕ
  pub bytes : ℕ
  pub minor : ℕ
  pub major : ℕ
  pub kept : ℕ
  pub freed : ℕ
  pub peak : ℕ
  pub exhausted : Option ℕ

abbrev pub view_of : Space → View
view_of s = record {
  capacity = s.capacity;
  sizes = s.sizes.items;
  dead = s.dead.items;
  held = s.held.items;
  bytes = s.bytes;
  minor = s.totals.minor;
  major = s.totals.major;
  kept = s.totals.kept;
  freed = s.totals.freed;
  peak = s.totals.peak;
  exhausted = s.totals.exhausted;
}

abbrev pub new_view : View
new_view = record { capacity = 0; sizes = []; dead = []; held = []; bytes = 0; minor = 0; major = 0; kept = 0; freed = 0; peak = 0; exhausted = None }

abbrev pub unflagged : List Bool → List ℕ → List ℕ
unflagged dead objects = filter (λ object. not (flag_at dead object)) objects

-- after a collection
abbrev pub collected : View → View
collected v =
    let live = unflagged v.dead v.held in
    let kept = sum_by (size_at v.sizes) live in
    record v { held = live; bytes = kept; major = v.major + 1; kept = v.kept + kept; freed = v.freed + (v.bytes - kept) }

-- the object fits
abbrev pub has_place : ℕ → View → Bool
has_place size v = nat_le (v.bytes + size) v.capacity

-- after a collection, where so many bytes don't fit
abbrev pub roomy : ℕ → View → View
roomy size v = if has_place size v then v else collected v

-- after an object came
abbrev pub object_placed : ℕ → ℕ → ℕ → View → View
object_placed event object size v =
    if has_place size v
    then record v { sizes = with_size v.sizes object size; held = v.held ++ object ∷ []; bytes = v.bytes + size; peak = max v.peak (v.bytes + size) }
    else record v { sizes = with_size v.sizes object size; exhausted = Some event }

-- the running totals are those of the heap
pub record IsReplayedHeap (v : View) (objects : ℕ) (past : List Item) (heap : Heap) : Type 0 where
  pub knows : Knows v.sizes v.dead objects past
  pub held_is : v.held ≡ heap.space
  pub bytes_is : v.bytes ≡ bytes past heap.space
  pub minor_is : v.minor ≡ heap.minor
  pub major_is : v.major ≡ heap.major
  pub kept_is : v.kept ≡ heap.kept
  pub freed_is : v.freed ≡ heap.freed
  pub peak_is : v.peak ≡ heap.peak
  pub exhausted_is : v.exhausted ≡ heap.exhausted

-- the space stands for these items, of so many objects
pub record IsSpaceOf (space : Space) (objects : ℕ) (past : List Item) : Type 0 where
  pub fed : AreFed objects past
  pub few : objects ≤ 16777215
  pub heap : IsReplayedHeap (view_of space) objects past (space_after space.capacity past)
  pub room : objects ≤ vec_capacity space.held

-- .. and accounts for them by the policy, which is of this kind and gives the space this capacity
pub record Accounts (own policy : Policy) (kind : Kind) (capacity : ℕ) (space : Space) (objects : ℕ) (past : List Item) : Type 0 where
  pub policy_is : own ≡ policy
  pub kind_is : policy.kind ≡ kind
  pub capacity_is : space.capacity ≡ capacity
  pub stands : IsSpaceOf space objects past
