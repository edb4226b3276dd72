-- WHICH FILES ARE READ: those that a command names, one by one in their order, each once, and each only where those before it
-- were found good. So a read that fails is never answered in the place of an earlier file's fault, and none follows it.
use Rattle.std.specs.Prelude.{◌≡◌, ℕ, ◌-◌, ◌≤◌, Bool, true, false, List, [], ◌∷◌, ◌++◌, length, map, take, All, Ok}
use Rattle.et_class.specs.Layout.{ClassOf}
use Rattle.et_io.specs.Files.{Held, Answer, Reading, is_failed}
use Rattle.et_files.specs.Loaded.{file_bytes, most_of_class, IsClassOf}
use Rattle.et_files.specs.declared.status.Status.{Status}
use Rattle.et_files.specs.declared.status.Status.TheVariants as status

-- the file at the path is there, is not too long, and is a class file
abbrev pub HoldsClass : Held → List ℕ → Type 0
HoldsClass held path = (c : ClassOf) × IsClassOf (file_bytes most_of_class (held path)) (Ok c)

-- the answer may come before all files are read: one of them is refused or cannot be read, or memory ran out
abbrev pub is_early : Status → Bool
is_early status.Absent = true
is_early status.TooLong = true
is_early status.BadClass = true
is_early status.BadText = true
is_early status.BadTrace = true
is_early status.ReadFault = true
is_early status.NoMemory = true
is_early status.Done = false
is_early status.Usage = false
is_early status.LinkFault = false
is_early status.IllTyped = false
is_early status.ObjectLimit = false
is_early status.WriteFault = false
is_early status.Rejected = false
is_early status.BadEvent = false

-- one read was made: of the file at the path, of at most so many bytes
abbrev pub Asks : (old new : List Reading) → (path : List ℕ) → (most : ℕ) → Answer → Type 0
Asks old new path most answer = new ≡ old ++ record { path = path; most = most; answer = answer } ∷ []

-- the last read was of the file at this path
abbrev pub IsReadLast : List Reading → List ℕ → Type 0
IsReadLast asked path = (before : List Reading) × (most : ℕ) × (answer : Answer) × Asks before asked path most answer

-- what a read asks for
abbrev pub asking : Reading → List ℕ × ℕ
asking r = (r.path, r.most)

-- .. of the file at a path
abbrev pub asking_of : ℕ → List ℕ → List ℕ × ℕ
asking_of most path = (path, most)

-- the first so many of the paths were read, in order and each once, and of each at most so many bytes; a read that failed is
-- the last one; where `Agrees` says which files agree with what was read, each of these but the last holds a class file there (only
-- `trace`, `run` and `verify` name several files); and by every answer that isn't early all were read
pub record ReadsInOrder (Agrees : Held → Type 0) (old new : List Reading) (most : ℕ) (paths : List (List ℕ)) (answer : Status) : Type 0 where
  pub count : ℕ
  pub few : count ≤ length paths
  pub made : List Reading
  pub asked : new ≡ old ++ made
  pub each : map asking made ≡ map (asking_of most) (take count paths)
  pub first : All (λ r. is_failed r.answer ≡ false) (take (count - 1) made)
  pub good : (held : Held) → Agrees held → All (HoldsClass held) (take (count - 1) paths)
  pub whole : is_early answer ≡ false → count ≡ length paths
