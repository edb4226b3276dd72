-- What a read finds, and the log of reads.
use Rattle.std.specs.Prelude.{◌≡◌, ℕ, ◌<◌, ◌≤◌, Bool, true, false, List, All, length, drop, Option, Some, None, IsSomeAnd, Result, Ok, Err}
use Rattle.et_base.specs.declared.memory.NoMemory.{NoMemory}
use Rattle.et_io.specs.declared.files.Found.{Found}
use Rattle.et_io.specs.declared.files.Found.TheVariants as found

-- the files that are held: the bytes of the file at a path, if there is one
abbrev pub Held : Type 0
Held = List ℕ → Option (List ℕ)

-- what a read was answered
pub data Answer : Type 0 where
  Bytes : (bytes : List ℕ) → Answer
  Absent : Answer
  TooLong : Answer
  Failed : Answer
  OutOfMemory : Answer

-- a read that was made: the path, the most bytes that were asked for, and the answer
pub record Reading : Type 0 where
  pub path : List ℕ
  pub most : ℕ
  pub answer : Answer

abbrev pub answer_of : Result Found NoMemory → Answer
answer_of (Ok (found.Bytes bytes)) = Bytes bytes.items
answer_of (Ok found.Absent) = Absent
answer_of (Ok found.TooLong) = TooLong
answer_of (Ok found.Failed) = Failed
answer_of (Err want) = OutOfMemory

-- what the answer to a read of at most so many bytes says, where this is the file at the path: these are its bytes, or there
-- is none, or it is longer. A read that failed, and want of memory, say nothing of the file.
abbrev pub Tells : Answer → ℕ → Option (List ℕ) → Type 0
Tells (Bytes bytes) most file = file ≡ Some bytes
Tells Absent most file = file ≡ None
Tells TooLong most file = IsSomeAnd file (λ bytes. most < length bytes)
Tells Failed most file = Unit {0}
Tells OutOfMemory most file = Unit {0}

abbrev pub Finds : Found → ℕ → Option (List ℕ) → Type 0
Finds result most file = Tells (answer_of (Ok result)) most file

-- the held files agree with a read that was made
abbrev pub AgreesWith : Held → Reading → Type 0
AgreesWith held reading = Tells reading.answer reading.most (held reading.path)

-- .. and with all that were made behind the first ones
abbrev pub AgreesBehind : (first all : List Reading) → Held → Type 0
AgreesBehind first all held = All (AgreesWith held) (drop (length first) all)

-- no more bytes are read than were asked for
abbrev pub IsWithin : Found → ℕ → Type 0
IsWithin (found.Bytes bytes) most = length bytes.items ≤ most
IsWithin found.Absent most = Unit {0}
IsWithin found.TooLong most = Unit {0}
IsWithin found.Failed most = Unit {0}

-- the answer is that the read failed
abbrev pub is_failed : Answer → Bool
is_failed (Bytes bytes) = false
is_failed Absent = false
is_failed TooLong = false
is_failed Failed = true
is_failed OutOfMemory = false

abbrev pub is_read_failed : Result Found NoMemory → Bool
is_read_failed result = is_failed (answer_of result)
