-- Rules at their items. Each rule is a mark at the place of its item, with the kind of the fault that it makes. The
-- fault of a list of rules is the first in the order of places that is broken, and the one of the least kind at equal
-- places; the order of the list doesn't matter.
use Rattle.std.specs.Prelude.{◌≡◌, ℕ, ◌<◌, ◌≤◌, List, [], ◌∷◌, Bool, false, Option, Some, None, nat_lt, ◌==◌, ◌&&◌, ◌||◌, if◌then◌else◌, ◌⊎◌}

-- a rule at its item: where the item stands, the kind of the fault, and whether the rule holds
pub record Mark : Type 0 where
  pub place : ℕ
  pub kind : ℕ
  pub holds : Bool

abbrev pub mark : ℕ → ℕ → Bool → Mark
mark place kind holds = record { place = place; kind = kind; holds = holds }

-- a rule of this kind is broken at this place
abbrev pub Breaks : List Mark → ℕ → ℕ → Type 0
Breaks [] place kind = ⊥
Breaks (m ∷ ms) place kind = ((m.holds ≡ false) × (m.place ≡ place) × (m.kind ≡ kind)) ⊎ Breaks ms place kind

-- in the order of places, and of kinds at equal places
abbrev pub IsUpTo : ℕ → ℕ → ℕ → ℕ → Type 0
IsUpTo place kind p k = (place < p) ⊎ ((place ≡ p) × (kind ≤ k))

-- the first broken item
pub record IsFirstBroken (marks : List Mark) (place kind : ℕ) : Type 0 where
  pub broken : Breaks marks place kind
  pub first : (p k : ℕ) → Breaks marks p k → IsUpTo place kind p k

-- all rules hold, or this is the place and the kind of the first broken item
abbrev pub MarksAre : List Mark → Option (ℕ × ℕ) → Type 0
MarksAre marks None = (p k : ℕ) → Breaks marks p k → ⊥
MarksAre marks (Some x) = IsFirstBroken marks x.0 x.1

-- exactly one of these answers applies
pub record IsTheOne (marks : List Mark) : Type 0 where
  pub answer : Option (ℕ × ℕ)
  pub holds : MarksAre marks answer
  pub only : (other : Option (ℕ × ℕ)) → MarksAre marks other → other ≡ answer

-- HOW IT IS FOUND: the first so far, and one mark more

abbrev pub is_mark_before : ℕ × ℕ → ℕ × ℕ → Bool
is_mark_before a b = nat_lt a.0 b.0 || ((a.0 == b.0) && nat_lt a.1 b.1)

abbrev pub first_of_two : Option (ℕ × ℕ) → ℕ × ℕ → Option (ℕ × ℕ)
first_of_two None x = Some x
first_of_two (Some y) x = if is_mark_before x y then Some x else Some y

abbrev pub marked : Option (ℕ × ℕ) → Mark → Option (ℕ × ℕ)
marked first m = if m.holds then first else first_of_two first (m.place, m.kind)

unfoldable pub first_from : Option (ℕ × ℕ) → List Mark → Option (ℕ × ℕ)
first_from first [] = first
first_from first (m ∷ ms) = first_from (marked first m) ms
