-- The ranks of objects that are listed, and the table by which they are found.
use Rattle.std.specs.Prelude.{◌≡◌, ℕ, ◌+◌, ◌-◌, ◌*◌, ◌/◌, ◌%◌, ◌<◌, ◌≤◌, ◌⊎◌, List, [], ◌∷◌, ◌++◌, length, map, min, Contains, vec_capacity, slice_index}
use Rattle.et_flush.specs.declared.ranks.TheConstants.{BLOCK_SIZE}
use Rattle.et_flush.specs.declared.ranks.Ranks.{Ranks}

-- object o stands in this block, at this place
abbrev pub block_at : ℕ → ℕ
block_at o = (o - 1) / BLOCK_SIZE

abbrev pub place_in_block : ℕ → ℕ
place_in_block o = (o - 1) % BLOCK_SIZE

-- the place of the entry of object o, in the run of its block
abbrev pub rank_entry : List ℕ → ℕ → ℕ
rank_entry runs o = slice_index runs (block_at o) * BLOCK_SIZE + place_in_block o

-- each block of these has a run of its own
abbrev pub AreRuns : List ℕ → List ℕ → Type 0
AreRuns runs blocks = (r : ℕ) → r < length blocks → (slice_index blocks r < length runs) × (slice_index runs (slice_index blocks r) ≡ r)

-- the block is one of these, as it was before or as the last one
abbrev pub IsBlockAdded : List ℕ → ℕ → List ℕ → Type 0
IsBlockAdded blocks block after = ((after ≡ blocks) × Contains blocks block) ⊎ ((after ≡ blocks ++ block ∷ []) × ¬ Contains blocks block)

-- there is room for the runs of the blocks in which n objects stand
pub record HasRankRoom (n : ℕ) (r : Ranks) : Type 0 where
  pub blocks : length r.runs.items ≤ vec_capacity r.blocks
  pub ranks : min (length r.runs.items) n * BLOCK_SIZE ≤ vec_capacity r.ranks

-- the rank of object o
abbrev pub rank_of : Ranks → ℕ → ℕ
rank_of r o = slice_index r.ranks.items (rank_entry r.runs.items o)

-- there is an entry for object o
pub record HasRankEntry (r : Ranks) (o : ℕ) : Type 0 where
  pub above : 0 < o
  pub block : block_at o < length r.runs.items
  pub entry : rank_entry r.runs.items o < length r.ranks.items

-- .. and in it one of the first n ranks, which are counted from 1
pub record HasRank (r : Ranks) (n o : ℕ) : Type 0 where
  pub entry : HasRankEntry r o
  pub first : 0 < rank_of r o
  pub last : rank_of r o ≤ n

abbrev pub HaveRanks : Ranks → ℕ → List ℕ → Type 0
HaveRanks r n objects = (o : ℕ) → Contains objects o → HasRank r n o

-- the rank of each of the objects is its place in the list, counted from 1
abbrev pub AreRanked : List ℕ → Ranks → Type 0
AreRanked held r = (k : ℕ) → k < length held → HasRank r (length held) (slice_index held k) × (rank_of r (slice_index held k) ≡ k + 1)

-- the time of object o, where the times are listed by the ranks
abbrev pub time_of : Ranks → List ℕ → ℕ → ℕ
time_of r times o = slice_index times (rank_of r o - 1)

-- the pairs, by the ranks of the objects
abbrev pub ranked_pairs : Ranks → List (ℕ × ℕ) → List (ℕ × ℕ)
ranked_pairs r pairs = map (λ p. (rank_of r p.0, rank_of r p.1)) pairs
