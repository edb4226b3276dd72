-- How often the outside failed.
use Rattle.std.specs.Prelude.{ℕ, ◌+◌, ◌<◌, ◌≤◌, ◌⊎◌, min, Bool, true, false, if◌then◌else◌, Result, Ok, Err}
use Rattle.et_io.specs.declared.putting.RunFault.{RunFault}
use Rattle.et_io.specs.declared.putting.RunFault.TheVariants.{Write, NoMemory}

-- the greatest number that a count of faults can show, 2^64 - 1
abbrev pub last_count : ℕ
last_count = 18446744073709551615

-- THE COUNT AFTER A CALL: one fault more where the call failed, up to the last number, where no count can rise any more; and
-- as it was where the call is answered in any other way
abbrev pub count_after : (failed : Bool) → ℕ → ℕ
count_after failed count = if failed then min (count + 1) last_count else count

-- the count rose, or it stands at its last number
abbrev pub Rose : ℕ → ℕ → Type 0
Rose old new = (old < new) ⊎ (last_count ≤ new)

-- the answer is that a put failed
abbrev pub is_write_fault : {A : Type 0} → Result A RunFault → Bool
is_write_fault (Ok done) = false
is_write_fault (Err Write) = true
is_write_fault (Err NoMemory) = false
