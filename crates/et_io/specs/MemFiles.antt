-- Files in memory.
use Rattle.std.specs.Prelude.{◌≡◌, ◌≢◌, ℕ, List, Bool, true, false, Some, option_map, Result, Ok, Err}
use Rattle.et_base.specs.declared.memory.NoMemory.{NoMemory}
use Rattle.et_io.specs.declared.files.Found.{Found}
use Rattle.et_io.specs.declared.files.Found.TheVariants.{Bytes, Absent, TooLong, Failed}
use Rattle.std.specs.HashMap.{get_by_text}
use Rattle.et_io.specs.declared.mem_files.MemFiles.{MemFiles}
use Rattle.et_io.specs.Calls.{Calls}
use Rattle.et_io.specs.Files.{Held, Reading}

-- the files that are held
abbrev pub held : MemFiles → Held
held files path = option_map (λ bytes. bytes.items) (get_by_text files.files path)

-- the calls
abbrev pub calls_of : MemFiles → Calls
calls_of files = files.calls

-- the reads so far
abbrev pub asked_of : MemFiles → List Reading
asked_of files = files.reads.items

-- the new files are the old ones with this file at this path, and no read was made
pub record Holds (old new : MemFiles) (path bytes : List ℕ) : Type 0 where
  pub there : held new path ≡ Some bytes
  pub others : (q : List ℕ) → q ≢ path → held new q ≡ held old q
  pub no_call : calls_of new ≡ calls_of old
  pub no_read : asked_of new ≡ asked_of old

-- both hold the same files, and have the same calls
pub record IsUnchanged (old new : MemFiles) : Type 0 where
  pub files : (q : List ℕ) → held new q ≡ held old q
  pub no_call : calls_of new ≡ calls_of old
  pub no_read : asked_of new ≡ asked_of old

-- a read fails where it is to fail, and nowhere else
abbrev pub FailsAsTold : Result Found NoMemory → Bool → Type 0
FailsAsTold (Ok Failed) fails = fails ≡ true
FailsAsTold (Ok (Bytes bytes)) fails = fails ≡ false
FailsAsTold (Ok Absent) fails = fails ≡ false
FailsAsTold (Ok TooLong) fails = fails ≡ false
FailsAsTold (Err want) fails = fails ≡ false
