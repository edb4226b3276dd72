-- Times of objects, as a flush finds them. The entry of object o is at o - 1.
use Rattle.std.specs.Prelude.{◌≡◌, ℕ, ◌+◌, ◌-◌, ◌<◌, ◌≤◌, ◌⊎◌, Bool, true, false, if◌then◌else◌, List, [], ◌∷◌, length, Contains, vec_capacity, slice_index, slice_index_or, slice_set, sum_by}
use Rattle.std.specs.Global.{Vec}
use Rattle.et_graph.specs.Graph.{Leads}

-- the entries with t at each of the objects that have one
abbrev pub set_each : List ℕ → ℕ → List ℕ → List ℕ
set_each [] t entries = entries
set_each (o ∷ objects) t entries = set_each objects t (slice_set entries (o - 1) t)

-- each object named has a number from 1 on
abbrev pub ArePositive : List ℕ → Type 0
ArePositive objects = (o : ℕ) → Contains objects o → 0 < o

-- each object named is one of the first n
abbrev pub AreWithin : ℕ → List ℕ → Type 0
AreWithin n objects = (o : ℕ) → Contains objects o → (0 < o) × (o ≤ n)

abbrev pub ArePairsWithin : ℕ → List (ℕ × ℕ) → Type 0
ArePairsWithin n pairs = (u x : ℕ) → Contains pairs (u, x) → (0 < u) × (u ≤ n) × (0 < x) × (x ≤ n)

-- each pair joins objects of which P holds
abbrev pub ArePairsAmong : (ℕ → Type 0) → List (ℕ × ℕ) → Type 0
ArePairsAmong P pairs = (u x : ℕ) → Contains pairs (u, x) → P u × P x

-- the new entries are old ones that came along the pairs, and none is less than it was
pub record Carries (pairs : List (ℕ × ℕ)) (old new : List ℕ) : Type 0 where
  pub kept_length : length new ≡ length old
  pub raised : (o : ℕ) → slice_index old (o - 1) ≤ slice_index new (o - 1)
  pub carried : (o : ℕ) → 0 < o
      → (u : ℕ) × (0 < u) × Leads pairs u o × (slice_index new (o - 1) ≡ slice_index old (u - 1))

-- no pair leads to a smaller entry
abbrev pub AreSettled : List (ℕ × ℕ) → List ℕ → Type 0
AreSettled pairs entries =
    (u x : ℕ) → Contains pairs (u, x) → slice_index entries (u - 1) ≤ slice_index entries (x - 1)

-- the object's flag is set
abbrev pub IsSet : List Bool → ℕ → Type 0
IsSet flags o = slice_index_or flags (o - 1) false ≡ true

-- P holds of each object that was seen since
abbrev pub AreSeenAmong : (ℕ → Type 0) → List Bool → List Bool → Type 0
AreSeenAmong P before seen = (o : ℕ) → 0 < o → IsSet seen o → IsSet before o ⊎ P o

-- how many flags aren't
abbrev pub unset_count : List Bool → ℕ
unset_count flags = sum_by (λ b. if b then 0 else 1) flags

-- a search has a flag for each time, and each object that it may still see has a place in its work
pub record IsReady (times : List ℕ) (seen : List Bool) (work : Vec ℕ) : Type 0 where
  pub long : length seen ≡ length times
  pub fits : length work.items + unset_count seen ≤ length times
  pub room : length times ≤ vec_capacity work

-- A search carries the time t from the objects that are in its work. It began with the times of start, and of the
-- objects to which pairs lead, those that it has seen have t or more, and the others t or less.
pub record IsSpread (pairs : List (ℕ × ℕ)) (start : List ℕ) (t : ℕ)
    (times : List ℕ) (seen : List Bool) (work : List ℕ) : Type 0 where
  pub carries : Carries pairs start times
  pub kept : (o : ℕ) → 0 < o → ¬ IsSet seen o → slice_index times (o - 1) ≡ slice_index start (o - 1)
  pub above : (u o : ℕ) → Contains pairs (u, o) → IsSet seen o → t ≤ slice_index times (o - 1)
  pub below : (u o : ℕ) → Contains pairs (u, o) → ¬ IsSet seen o → slice_index times (o - 1) ≤ t
  pub waiting : (o : ℕ) → Contains work o → (0 < o) × IsSet seen o × (slice_index times (o - 1) ≡ t)

-- the pairs of each object that was seen were followed, but for those of which P holds
abbrev pub AreFollowed : List (ℕ × ℕ) → List ℕ → List Bool → (ℕ → Type 0) → Type 0
AreFollowed pairs times seen P =
    (u x : ℕ) → Contains pairs (u, x) → IsSet seen u
    → P u ⊎ (IsSet seen x × (slice_index times (u - 1) ≤ slice_index times (x - 1)))

-- The pairs of object o, which has the time t, are followed: what is seen since, and what waits since, is what they lead to.
pub record Visits (pairs : List (ℕ × ℕ)) (o t : ℕ) (times : List ℕ) (seen : List Bool) (work : List ℕ)
    (times' : List ℕ) (seen' : List Bool) (work' : List ℕ) : Type 0 where
  pub grows : (x : ℕ) → IsSet seen x → IsSet seen' x
  pub spent : length work' + unset_count seen' ≡ length work + unset_count seen
  pub fewer : unset_count seen' ≤ unset_count seen
  pub seen_since : AreSeenAmong (λ x. Contains pairs (o, x)) seen seen'
  pub waits_since : (x : ℕ) → Contains work' x → Contains work x ⊎ Contains pairs (o, x)
  pub spreads : (start : List ℕ) → IsSpread pairs start t times seen work → IsSet seen o → slice_index times (o - 1) ≡ t
      → AreFollowed pairs times seen (λ v. Contains work v ⊎ (v ≡ o))
      → IsSpread pairs start t times' seen' work' × AreFollowed pairs times' seen' (λ v. Contains work' v)

-- The time of object o is carried as far as it goes, where o wasn't seen before.
pub record Spreads (pairs : List (ℕ × ℕ)) (o : ℕ) (times : List ℕ) (seen : List Bool)
    (times' : List ℕ) (seen' : List Bool) : Type 0 where
  pub source : IsSet seen' o
  pub grows : (x : ℕ) → IsSet seen x → IsSet seen' x
  pub kept : IsSet seen o → (times' ≡ times) × (seen' ≡ seen)
  pub spreads : (start : List ℕ) → ¬ IsSet seen o → IsSpread pairs start (slice_index times (o - 1)) times seen []
      → AreFollowed pairs times seen (λ v. ⊥)
      → IsSpread pairs start (slice_index times (o - 1)) times' seen' [] × AreFollowed pairs times' seen' (λ v. ⊥)
