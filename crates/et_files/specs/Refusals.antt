-- The status of a refusal.
use Rattle.et_files.specs.declared.status.Status.{Status}
use Rattle.et_files.specs.declared.status.Status.TheVariants as status
use Rattle.et_files.specs.declared.refusal.Refusal.{Refusal}
use Rattle.et_files.specs.declared.refusal.Refusal.TheVariants.{Usage, Absent, BadClass, BadText, BadTrace, ReadFault, WriteFault, NoMemory, IllTyped, ObjectLimit, TooLong, LinkFault, Rejected, BadEvent}

abbrev pub status_of : Refusal → Status
status_of Usage = status.Usage
status_of (Absent path) = status.Absent
status_of (BadClass path kind offset) = status.BadClass
status_of (ReadFault path) = status.ReadFault
status_of WriteFault = status.WriteFault
status_of NoMemory = status.NoMemory
status_of (BadText path kind line) = status.BadText
status_of (BadTrace path kind line) = status.BadTrace
status_of (IllTyped thread class method descriptor pc) = status.IllTyped
status_of ObjectLimit = status.ObjectLimit
status_of (TooLong path) = status.TooLong
status_of (LinkFault kind class) = status.LinkFault
status_of (Rejected class method descriptor) = status.Rejected
status_of (BadEvent event) = status.BadEvent
