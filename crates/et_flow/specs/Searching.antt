-- WHAT A SEARCH FOR A TYPING HAS FOUND: types at places, and the places whose instructions are still to be followed.
use Rattle.std.specs.Prelude.{◌≡◌, ◌+◌, ◌*◌, ℕ, ◌<◌, ◌≤◌, ◌⊎◌, Bool, true, false, if◌then◌else◌, List, [], ◌∷◌, ◌++◌, length, Option, Some, Contains, slice_set}
use Rattle.et_flow.specs.Types.{TypesOf}
use Rattle.et_flow.specs.Flows.{LeadOf, Typing, IsThere, LeadsThere, IsTyping, types_at, joined_with, heights, IsJoinable, HasLocals}

abbrev pub States : Type 0
States = List (Option TypesOf)

-- TYPES JOIN at a place, which is noted where they changed
pub record HasJoined (locals : ℕ) (states : States) (work : List ℕ) (place : ℕ) (ts : TypesOf) (states' : States) (work' : List ℕ) : Type 0 where
  pub joinable : IsJoinable (types_at states place) ts
  pub found : states' ≡ slice_set states place (Some (joined_with (types_at states place) ts))
  pub noted : ((work' ≡ work) × (types_at states place ≡ Some (joined_with (types_at states place) ts))) ⊎ ((work' ≡ work ++ place ∷ []) × (heights locals states' + 1 ≤ heights locals states))

-- each place at which something was found has so many local variables at most
abbrev pub HaveLocals : ℕ → States → Type 0
HaveLocals locals states = (pc : ℕ) → HasLocals locals (types_at states pc)

-- what was found is below a typing
abbrev pub IsUnder : Typing → States → Type 0
IsUnder typing states = (pc : ℕ) (us : TypesOf) → types_at states pc ≡ Some us → IsThere typing pc us

abbrev pub AreThere : Typing → List ℕ → TypesOf → Type 0
AreThere typing places ts = (q : ℕ) → Contains places q → IsThere typing q ts

-- more was found: what was found before is below it, each place at which that changed is noted, and it is the least
pub record Grows (locals : ℕ) (states : States) (work : List ℕ) (states' : States) (work' : List ℕ) : Type 0 where
  pub long : length states' ≡ length states
  pub under : IsUnder (types_at states') states
  pub noted : (pc : ℕ) (us : TypesOf) → types_at states' pc ≡ Some us → (types_at states pc ≡ Some us) ⊎ Contains work' pc
  pub kept : (pc : ℕ) → Contains work pc → Contains work' pc
  pub within : (pc : ℕ) → Contains work' pc → Contains work pc ⊎ (pc < length states)
  pub locals_kept : HaveLocals locals states'
  pub falls : 2 * heights locals states' + length work' ≤ 2 * heights locals states + length work

-- .. by joining types at each of some places
pub record Joins (locals : ℕ) (states : States) (work : List ℕ) (places : List ℕ) (ts : TypesOf) (states' : States) (work' : List ℕ) : Type 0 where
  pub grows : Grows locals states work states' work'
  pub there : AreThere (types_at states') places ts
  pub least : (typing : Typing) → IsUnder typing states → AreThere typing places ts → IsUnder typing states'
  pub among : (pc : ℕ) → Contains work' pc → Contains work pc ⊎ Contains places pc

-- THE TYPES FOUND: those that are kept, and at straight places, of which nothing is kept, those with which the code goes over them
abbrev pub found : (ℕ → Bool) → Typing → States → Typing
found straight passed states pc = if straight pc then passed pc else types_at states pc

-- an instruction leads to a place with these types, from types below those found at its own
pub record IsPassed (leads : ℕ → TypesOf → Option LeadOf) (typing : Typing) (place : ℕ) (after : TypesOf) : Type 0 where
  pub pc : ℕ
  pub types : TypesOf
  pub lower : IsThere typing pc types
  pub lead : LeadOf
  pub is : leads pc types ≡ Some lead
  pub there : Contains lead.nexts place
  pub after_is : lead.after ≡ after

-- THE SEARCH: what was found is below every typing, and each place at which something was found is noted, or all to which it leads
-- was found
pub record IsSearching (leads : ℕ → TypesOf → Option LeadOf) (straight : ℕ → Bool) (entry : TypesOf) (locals : ℕ) (states : States) (work : List ℕ) (passed : Typing) : Type 0 where
  pub entry_there : IsThere (found straight passed states) 0 entry
  pub closed : (pc : ℕ) (ts : TypesOf) → found straight passed states pc ≡ Some ts → Contains work pc ⊎ LeadsThere (found straight passed states) (leads pc ts)
  pub least : (typing : Typing) → IsTyping leads entry typing → (pc : ℕ) (us : TypesOf) → found straight passed states pc ≡ Some us → IsThere typing pc us
  pub runs : (pc : ℕ) (us : TypesOf) → straight pc ≡ true → passed pc ≡ Some us → IsPassed leads (found straight passed states) pc us
  pub kept : (pc : ℕ) (us : TypesOf) → types_at states pc ≡ Some us → straight pc ≡ false
  pub locals_are : HaveLocals locals states

abbrev pub Searches : (ℕ → TypesOf → Option LeadOf) → (ℕ → Bool) → TypesOf → ℕ → States → List ℕ → Type 0
Searches leads straight entry locals states work = (passed : Typing) × IsSearching leads straight entry locals states work passed

-- the places that are noted are places of the code, and of those of which something is kept
abbrev pub AreKept : (ℕ → Bool) → ℕ → List ℕ → Type 0
AreKept straight count work = (pc : ℕ) → Contains work pc → (straight pc ≡ false) × (pc < count)
