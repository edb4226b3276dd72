-- What a model of the heap is fed, and what it answers.
use Rattle.std.specs.Prelude.{◌≡◌, ℕ, ◌≤◌, ◌^◌, Bool, true, false, List}
use Rattle.et_graph.specs.Graph.{Graph, Decides}
use Rattle.et_replay.specs.declared.item.Item.{Item}
use Rattle.et_replay.specs.declared.item.Item.TheVariants.{Alloc}
use Rattle.et_replay.specs.declared.model.Policy.{Policy}
use Rattle.et_replay.specs.declared.model.Fed.{Fed}
use Rattle.et_replay.specs.declared.model.Fed.TheVariants as fed
use Rattle.et_replay.specs.Heap.{is_made}
use Rattle.et_replay.specs.Tally.{is_exhausted}

-- an Alloc item may come: its object is among so many and new, and it has at most 2^30 bytes
pub record IsNewObject (objects : ℕ) (past : List Item) (object size : ℕ) : Type 0 where
  pub first : 1 ≤ object
  pub last : object ≤ objects
  pub new : is_made past object ≡ false
  pub small : size ≤ 2 ^ 30

abbrev pub MayCome : ℕ → List Item → Item → Type 0
MayCome objects past (Alloc event object size) = IsNewObject objects past object size
MayCome objects past _ = Unit {0}

-- by some test that decides reachability there is still room
pub record HasItemRoom (policy : Policy) (past : List Item) : Type 0 where
  pub reached : Graph → ℕ → Bool
  pub decides : Decides reached
  pub room : is_exhausted reached policy past ≡ false

-- an answer that took the item, and what holds then
abbrev pub OnTaken : Fed → Type 0 → Type 0
OnTaken fed.Ok P = P
OnTaken fed.Exhausted P = P
OnTaken fed.NoMemory P = Unit {0}

-- the answer tells whether there was no room
abbrev pub TellsExhausted : Fed → Bool → Type 0
TellsExhausted fed.Ok exhausted = exhausted ≡ false
TellsExhausted fed.Exhausted exhausted = exhausted ≡ true
TellsExhausted fed.NoMemory exhausted = Unit {0}
