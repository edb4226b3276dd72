-- What a file that a command names is refused for.
use Rattle.std.specs.Prelude.{ℕ, List}
use Rattle.et_program.specs.declared.fault.LinkFaultKind.{LinkFaultKind}
use Rattle.et_files.specs.declared.status.Status.{Status}
use Rattle.et_files.specs.declared.status.Status.TheVariants as status

pub data Fault : Type 0 where
  -- there is no such file
  Absent : Fault
  -- it is longer than is read
  TooLong : Fault
  -- it is no class file: the kind and the place of its first fault
  BadClass : (kind offset : ℕ) → Fault
  -- it is no listing: the kind and the number of its first faulty line
  BadText : (kind line : ℕ) → Fault
  -- it is no trace: the kind and the number of its first faulty line or record
  BadTrace : (kind line : ℕ) → Fault
  -- the classes don't link: the kind of the fault and the name of the class that shows it (JVMS 5.3, 5.4)
  LinkFault : (kind : LinkFaultKind) → (class : List ℕ) → Fault
  -- it is a trace that ends before the event
  BadEvent : (event : ℕ) → Fault

abbrev pub status_of_fault : Fault → Status
status_of_fault Absent = status.Absent
status_of_fault TooLong = status.TooLong
status_of_fault (BadClass kind offset) = status.BadClass
status_of_fault (BadText kind line) = status.BadText
status_of_fault (BadTrace kind line) = status.BadTrace
status_of_fault (LinkFault kind class) = status.LinkFault
status_of_fault (BadEvent event) = status.BadEvent
