-- TYPINGS of code, of which is told where each instruction leads from given types.
use Rattle.std.specs.Prelude.{◌≡◌, ◌+◌, ℕ, ◌<◌, ◌≤◌, Bool, true, false, List, [], ◌∷◌, ◌++◌, length, Option, Some, None, IfSome, Contains, slice_index_or, sum_by}
use Rattle.et_flow.specs.declared.search.Lead.{Lead}
use Rattle.et_flow.specs.Types.{TypesOf, AreTypesBelow, joined_lists, rank}

-- where an instruction leads: the types after it and the places at which it goes on, and the types with which a handler is
-- entered and the places of the handlers
pub record LeadOf : Type 0 where
  pub after : TypesOf
  pub nexts : List ℕ
  pub caught : TypesOf
  pub handlers : List ℕ

-- to some places of the code, types
abbrev pub Typing : Type 0
Typing = ℕ → Option TypesOf

abbrev pub AreAbove : TypesOf → Option TypesOf → Type 0
AreAbove ts None = ⊥
AreAbove ts (Some us) = AreTypesBelow ts us

-- the place has types, which are above these
abbrev pub IsThere : Typing → ℕ → TypesOf → Type 0
IsThere typing pc ts = AreAbove ts (typing pc)

-- an instruction leads somewhere, and each place to which it leads has types above those with which it leads there
abbrev pub LeadsThere : Typing → Option LeadOf → Type 0
LeadsThere typing None = ⊥
LeadsThere typing (Some l) = ((q : ℕ) → Contains l.nexts q → IsThere typing q l.after) × ((q : ℕ) → Contains l.handlers q → IsThere typing q l.caught)

module _ (leads : ℕ → TypesOf → Option LeadOf) (entry : TypesOf) where
  pub record IsTyping (typing : Typing) : Type 0 where
    pub entry_there : IsThere typing 0 entry
    pub closed : (pc : ℕ) (ts : TypesOf) → typing pc ≡ Some ts → LeadsThere typing (leads pc ts)

  pub record HasTyping : Type 0 where
    pub typing : Typing
    pub is : IsTyping typing

-- WHERE AN INSTRUCTION LEADS from types below others it leads with types below

abbrev pub IsLeadBelow : Option LeadOf → Option LeadOf → Type 0
IsLeadBelow lower None = Unit {0}
IsLeadBelow None (Some upper) = ⊥
IsLeadBelow (Some lower) (Some upper) =
    AreTypesBelow lower.after upper.after × (lower.nexts ≡ upper.nexts) × AreTypesBelow lower.caught upper.caught × (lower.handlers ≡ upper.handlers)

abbrev pub IsMonotone : (ℕ → TypesOf → Option LeadOf) → Type 0
IsMonotone leads = (pc : ℕ) (ts us : TypesOf) → AreTypesBelow ts us → IsLeadBelow (leads pc ts) (leads pc us)

-- .. to places of the code, with as many local variables
abbrev pub IsLeadWithin : ℕ → ℕ → Option LeadOf → Type 0
IsLeadWithin count locals None = Unit {0}
IsLeadWithin count locals (Some l) =
    ((q : ℕ) → Contains l.nexts q → q < count) × (length l.after.locals ≡ locals) × ((q : ℕ) → Contains l.handlers q → q < count) × (length l.caught.locals ≡ locals)

abbrev pub IsWithin : ℕ → (ℕ → TypesOf → Option LeadOf) → Type 0
IsWithin count leads = (pc : ℕ) (ts : TypesOf) → IsLeadWithin count (length ts.locals) (leads pc ts)

-- STRAIGHT PLACES: to each of them one instruction alone leads, which stands before it, and none of them is a handler
pub record IsStraight (leads : ℕ → TypesOf → Option LeadOf) (straight : ℕ → Bool) : Type 0 where
  pub first : straight 0 ≡ false
  pub handlers : (pc : ℕ) (ts : TypesOf) (l : LeadOf) (q : ℕ) → leads pc ts ≡ Some l → Contains l.handlers q → straight q ≡ false
  pub forward : (pc : ℕ) (ts : TypesOf) (l : LeadOf) (q : ℕ) → leads pc ts ≡ Some l → Contains l.nexts q → straight q ≡ true → pc < q
  pub alone : (pc kc : ℕ) (ts us : TypesOf) (l m : LeadOf) (q : ℕ) → leads pc ts ≡ Some l → leads kc us ≡ Some m → Contains l.nexts q → Contains m.nexts q → straight q ≡ true → pc ≡ kc

-- CODE OF SO MANY PLACES that a search can follow
pub record IsFollowable (count : ℕ) (leads : ℕ → TypesOf → Option LeadOf) (goes_straight : ℕ → Bool) : Type 0 where
  pub within : IsWithin count leads
  pub monotone : IsMonotone leads
  pub straight : IsStraight leads goes_straight

-- WHERE AN INSTRUCTION LEADS, as it is answered: the types became those after it

-- a place, or none
abbrev pub some_place : Option ℕ → List ℕ
some_place None = []
some_place (Some q) = q ∷ []

pub record HasLed (straight : ℕ → Bool) (x : Lead) (after : TypesOf) (answer : Option LeadOf) : Type 0 where
  pub lead : LeadOf
  pub is : answer ≡ Some lead
  pub after_is : lead.after ≡ after
  pub nexts : lead.nexts ≡ some_place x.on ++ x.nexts.items
  pub handlers : lead.handlers ≡ x.handlers.items
  pub caught : (q : ℕ) → Contains x.handlers.items q → lead.caught ≡ x.caught
  pub on : IfSome x.on (λ q. straight q ≡ true)
  pub others : (q : ℕ) → Contains x.nexts.items q → straight q ≡ false

abbrev pub IsLed : (ℕ → Bool) → Bool → Lead → TypesOf → Option LeadOf → Type 0
IsLed straight false x after answer = answer ≡ None
IsLed straight true x after answer = HasLed straight x after answer

-- WHAT A SEARCH HAS FOUND: types at places
abbrev pub types_at : List (Option TypesOf) → Typing
types_at states pc = slice_index_or states pc None

abbrev pub joined_with : Option TypesOf → TypesOf → TypesOf
joined_with None ts = ts
joined_with (Some us) ts = record { operands = us.operands; locals = joined_lists us.locals ts.locals }

-- .. so often they may still change, where each place has that many local variables
abbrev pub height : ℕ → Option TypesOf → ℕ
height locals None = locals + 1
height locals (Some ts) = sum_by rank ts.locals

abbrev pub heights : ℕ → List (Option TypesOf) → ℕ
heights locals states = sum_by (height locals) states

-- what was found at a place, if anything, has these operands and as many local variables
abbrev pub IsJoinable : Option TypesOf → TypesOf → Type 0
IsJoinable None ts = Unit {0}
IsJoinable (Some us) ts = (us.operands ≡ ts.operands) × (length us.locals ≡ length ts.locals)

-- .. has so many local variables at most
abbrev pub HasLocals : ℕ → Option TypesOf → Type 0
HasLocals locals None = Unit {0}
HasLocals locals (Some us) = length us.locals ≤ locals
