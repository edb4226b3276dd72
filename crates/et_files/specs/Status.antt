-- The numbers of the answers.
use Rattle.std.specs.Prelude.{ℕ, Bool, true, false}
use Rattle.et_files.specs.declared.status.Status.{Status}
use Rattle.et_files.specs.declared.status.Status.TheVariants as status

-- the number with which the process ends
abbrev pub status_number : Status → ℕ
status_number status.Done = 0
status_number status.Usage = 2
status_number status.Absent = 3
status_number status.BadClass = 4
status_number status.LinkFault = 5
status_number status.ReadFault = 6
status_number status.WriteFault = 7
status_number status.NoMemory = 8
status_number status.BadTrace = 9
status_number status.IllTyped = 10
status_number status.ObjectLimit = 11
status_number status.BadText = 12
status_number status.TooLong = 13
status_number status.Rejected = 15
status_number status.BadEvent = 16

-- the answer is that a read failed
abbrev pub is_read_status : Status → Bool
is_read_status status.ReadFault = true
is_read_status _ = false

-- the answer is that a write failed
abbrev pub is_write_status : Status → Bool
is_write_status status.WriteFault = true
is_write_status _ = false

-- the answer is that the whole output was taken
abbrev pub is_whole : Status → Bool
is_whole status.Done = true
is_whole status.IllTyped = true
is_whole status.ObjectLimit = true
is_whole _ = false
