-- What a call does to places that hold references, and what an event has done so far.
use Rattle.std.specs.Prelude.{◌≡◌, ℕ, ◌⊎◌, List, [], Contains}
use Rattle.et_graph.specs.Steps.{IsKnown, IsDraft, IsLegalStep}
use Rattle.et_heap.specs.Objects.{IsHeld}
use Rattle.et_state.specs.State.{Kept, MachineState, kept_of}
use Rattle.et_state.specs.Roots.{graph_of, state_step}
use Rattle.et_state.specs.Sound.{IsSound}

-- The objects in some places before and after, and those lost. What is put in may be, what is taken out is lost, and what
-- is lost may be.
pub record Moves (MayEnter MayBeLost : ℕ → Type 0) (before after lost : List ℕ) : Type 0 where
  pub on : (o : ℕ) → Contains after o → Contains before o ⊎ MayEnter o
  pub off : (o : ℕ) → Contains before o → Contains after o ⊎ Contains lost o
  pub was : (o : ℕ) → Contains lost o → MayBeLost o

-- From the sound state s an event has come to x, which is sound, and has lost these objects.
pub record IsUnderWay (s x : Kept) (lost : List ℕ) : Type 0 where
  pub first : IsSound s
  pub draft : IsDraft (graph_of s) (state_step s x lost)
  pub sound : IsSound x

-- the object was reached in s, or the event made it
abbrev pub WasThere : Kept → Kept → ℕ → Type 0
WasThere s x o = IsKnown (graph_of s) (state_step s x []) o

-- what may be put into a slot
abbrev pub MayBeTied : Kept → Kept → ℕ → Type 0
MayBeTied s x o = IsHeld x.heap o × WasThere s x o

-- An event leads from s to x: a legal step, to a sound state.
pub record IsEventOf (s x : Kept) (lost : List ℕ) : Type 0 where
  pub legal : IsLegalStep (graph_of s) (state_step s x lost)
  pub sound : IsSound x

-- From the sound state s an event has come to what the machine keeps, and has lost what the machine lists.
abbrev pub IsOnWay : Kept → MachineState → Type 0
IsOnWay s m = IsUnderWay s (kept_of m) m.lost

-- each of these objects is held
abbrev pub AreInHeap : MachineState → List ℕ → Type 0
AreInHeap m os = (o : ℕ) → Contains os o → IsHeld m.heap o

-- each of these objects was reached in s, or the event made it
abbrev pub WereThere : Kept → MachineState → List ℕ → Type 0
WereThere s m os = (o : ℕ) → Contains os o → WasThere s (kept_of m) o

-- An event leads from s to x, and the machine after it keeps x and lists what the event lost.
pub record Led (s x : Kept) (m : MachineState) : Type 0 where
  pub kept : kept_of m ≡ x
  pub event : IsEventOf s x m.lost
