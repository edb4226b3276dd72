-- What a sink takes, as its log shows it.
use Rattle.std.specs.Prelude.{◌≡◌, ℕ, zero, suc, ◌-◌, ◌<◌, ◌≤◌, ◌⊎◌, Bool, true, false, List, [], ◌∷◌, ◌++◌, length, map, take, Option, option_map}
use Rattle.std.specs.List.{flat_map}
use Rattle.et_io.specs.declared.sink.Put.{Put}
use Rattle.et_io.specs.declared.sink.Put.TheVariants.{Took, Failed, NoMemory}

-- a byte that was taken; or a put of which nothing was taken: it failed, or the piece was empty
pub data Mark : Type 0 where
  Taken : (byte : ℕ) → Mark
  Untaken : (piece : List ℕ) → Mark

-- THE LOG of a sink: the marks of its puts, in their order, where the sink tells them
abbrev pub Log : Type 0
Log = Option (List Mark)

abbrev pub byte_of : Mark → List ℕ
byte_of (Taken byte) = byte ∷ []
byte_of (Untaken piece) = []

-- the bytes that were taken
abbrev pub taken_bytes : List Mark → List ℕ
taken_bytes marks = flat_map byte_of marks

-- .. but for as many as are gathered still
abbrev pub bytes_but : List ℕ → List Mark → List ℕ
bytes_but gathered marks = take (length (taken_bytes marks) - length gathered) (taken_bytes marks)

-- the log with marks more
abbrev pub with_marks : Log → List Mark → Log
with_marks log marks = option_map (λ before. before ++ marks) log

-- .. once the sink took these bytes more, with no put of which it took nothing
abbrev pub with_more : Log → List ℕ → Log
with_more log bytes = with_marks log (map Taken bytes)

-- the marks of a put that took the first n bytes of the piece
abbrev pub took_marks : ℕ → List ℕ → List Mark
took_marks zero piece = Untaken [] ∷ []
took_marks (suc n) piece = map Taken (take (suc n) piece)

-- the marks behind a put of the piece, by its answer
abbrev pub after_put : Put → List ℕ → List Mark → List Mark
after_put (Took n) piece marks = marks ++ took_marks n piece
after_put Failed piece marks = marks ++ Untaken piece ∷ []
after_put NoMemory piece marks = marks

-- a sink takes n bytes of the piece and at least one, unless the piece is empty; or it takes nothing
abbrev pub IsCount : Put → List ℕ → Type 0
IsCount (Took n) piece = (0 < length piece → 0 < n) × (n ≤ length piece)
IsCount Failed piece = Unit {0}
IsCount NoMemory piece = Unit {0}

-- what an answer to `put` says of what the sink took
abbrev pub Takes : Put → Log → Log → List ℕ → Type 0
Takes answer old new piece = IsCount answer piece × (new ≡ option_map (after_put answer piece) old)

-- the put failed
abbrev pub is_put_failed : Put → Bool
is_put_failed (Took n) = false
is_put_failed Failed = true
is_put_failed NoMemory = false

-- the sink took the piece up to this rest, and no put took nothing
pub record TakesUpTo (old new : Log) (piece rest : List ℕ) : Type 0 where
  pub prefix : List ℕ
  pub parts : piece ≡ prefix ++ rest
  pub taken : new ≡ with_more old prefix

-- one put more was made of which nothing was taken: of bytes that come first in the rest, at least one
pub record FailsNext (old new : Log) (rest : List ℕ) : Type 0 where
  pub piece : List ℕ
  pub some : 0 < length piece
  pub behind : List ℕ
  pub parts : rest ≡ piece ++ behind
  pub failed : new ≡ with_marks old (Untaken piece ∷ [])

-- no put more was made, or one that failed
abbrev pub Stops : Log → Log → List ℕ → Type 0
Stops old new rest = (new ≡ old) ⊎ FailsNext old new rest

-- THE SINK TOOK A PREFIX of the piece, and nothing else. A put that failed is the last one, and no empty piece was put.
pub record TakesPrefix (old new : Log) (piece : List ℕ) : Type 0 where
  pub rest : List ℕ
  pub mid : Log
  pub takes : TakesUpTo old mid piece rest
  pub stops : Stops mid new rest
