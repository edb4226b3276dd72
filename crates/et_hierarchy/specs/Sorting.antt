-- An order of the classes in which each stands behind those right above it, and how it grows.
use Rattle.std.specs.Prelude.{◌≡◌, ℕ, ◌+◌, ◌<◌, ◌≤◌, ◌↔◌, ◌⊎◌, Bool, false, List, [], ◌∷◌, length, All, Contains}
use Rattle.std.specs.List.{slice_index_or}
use Rattle.et_hierarchy.specs.Links.{LinkEntry, parents}
use Rattle.et_hierarchy.specs.Search.{IsMarkedIn}
use Rattle.et_hierarchy.specs.declared.sorting.Sorting.{Sorting}

abbrev pub is_done : List Bool → ℕ → Bool
is_done done k = slice_index_or done k false

-- class p is one of the first n of the order
abbrev pub IsAmong : List ℕ → ℕ → ℕ → Type 0
IsAmong order n p = (i : ℕ) × (i < n) × (slice_index_or order i 0 ≡ p)

-- each class of the order stands behind those right above it
pub record IsTopological (table : List LinkEntry) (order : List ℕ) : Type 0 where
  pub inside : (i : ℕ) → i < length order → slice_index_or order i 0 < length table
  pub above : (i p : ℕ) → i < length order → Contains (parents table (slice_index_or order i 0)) p → IsAmong order i p

-- the first n of these classes are done
abbrev pub AreSortedBefore : List Bool → List ℕ → ℕ → Type 0
AreSortedBefore done ps n = (i : ℕ) → i < n → i < length ps → IsMarkedIn done (slice_index_or ps i 0)

-- class c waits for one right above it
abbrev pub Waits : List LinkEntry → List (List ℕ) → ℕ → Type 0
Waits table waiting c = (p : ℕ) × Contains (parents table c) p × Contains (slice_index_or waiting p []) c

-- between two turns, while the classes in hand have yet to be placed: each other class is in the order, or waits for one
-- right above it; and for a class of the order others wait only until its turn comes
pub record IsGrowing (table : List LinkEntry) (hand order : List ℕ) (done : List Bool) (passed : List ℕ) (waiting : List (List ℕ)) (next : ℕ) : Type 0 where
  pub done_length : length done ≡ length table
  pub passed_length : length passed ≡ length table
  pub waiting_length : length waiting ≡ length table
  pub turn : next ≤ length order
  pub in_hand : All (λ c. c < length table) hand
  pub sorted : IsTopological table order
  pub marks : (c : ℕ) → IsMarkedIn done c ↔ IsAmong order (length order) c
  pub passes : (c : ℕ) → AreSortedBefore done (parents table c) (slice_index_or passed c 0)
  pub seated : (c : ℕ) → c < length table → IsMarkedIn done c ⊎ (Contains hand c ⊎ Waits table waiting c)
  pub awaited : (p c : ℕ) → Contains (slice_index_or waiting p []) c → (c < length table) × (IsMarkedIn done p → ((i : ℕ) × (next ≤ i) × (i < length order) × (slice_index_or order i 0 ≡ p)))

abbrev pub GrowsSorted : List LinkEntry → List ℕ → Sorting → Type 0
GrowsSorted table hand s = IsGrowing table hand s.order.items s.done.items s.passed.items s.waiting.items s.next

-- how many wait
abbrev pub waiting_count : List (List ℕ) → ℕ
waiting_count [] = 0
waiting_count (w ∷ ws) = length w + waiting_count ws

-- how many wait or are in the order
abbrev pub placed_count : Sorting → ℕ
placed_count s = waiting_count s.waiting.items + length s.order.items

-- each class is in the order, or one right above it isn't
pub record IsSorted (table : List LinkEntry) (order : List ℕ) (done : List Bool) : Type 0 where
  pub done_length : length done ≡ length table
  pub sorted : IsTopological table order
  pub marks : (c : ℕ) → IsMarkedIn done c ↔ IsAmong order (length order) c
  pub full : (c : ℕ) → c < length table → IsMarkedIn done c ⊎ ((p : ℕ) × Contains (parents table c) p × (is_done done p ≡ false))
