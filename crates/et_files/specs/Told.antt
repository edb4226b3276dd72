-- What is answered of the files that a command names.
use Rattle.std.specs.Prelude.{◌≡◌, ℕ, Bool, true, false, List, map, Option, Some, None, IfSome, Result, Ok, Err, IsErrAnd}
use Rattle.et_files.specs.declared.refusal.Refusal.{Refusal}
use Rattle.et_files.specs.declared.refusal.Refusal.TheVariants as refusal
use Rattle.et_class.specs.declared.class.ClassFile.{ClassFile}
use Rattle.et_class.specs.Layout.{ClassOf}
use Rattle.et_class.specs.Classes.{class_of}
use Rattle.et_io.specs.declared.files.Found.{Found}
use Rattle.et_io.specs.declared.files.Found.TheVariants as finds
use Rattle.std.specs.declared.vec.Vec.{Vec}
use Rattle.std.specs.declared.alloc.Global.{Global}
use Rattle.et_files.specs.Refusals.{status_of}
use Rattle.et_files.specs.declared.status.Status.{Status}
use Rattle.et_files.specs.declared.status.Status.TheVariants as status
use Rattle.et_files.specs.Faults.{Fault, Absent, TooLong, BadClass, BadText, BadTrace, LinkFault, BadEvent}

-- why a refusal comes: a file is refused, a read failed, memory ran out, or none of these
pub data Cause : Type 0 where
  File : Fault → Cause
  Reading : Cause
  Memory : Cause
  Other : Cause

abbrev pub cause_of : Refusal → Cause
cause_of (refusal.Absent path) = File Absent
cause_of (refusal.TooLong path) = File TooLong
cause_of (refusal.BadClass path kind offset) = File (BadClass kind offset)
cause_of (refusal.BadText path kind line) = File (BadText kind line)
cause_of (refusal.BadTrace path kind line) = File (BadTrace kind line)
cause_of (refusal.LinkFault kind class) = File (LinkFault kind class)
cause_of (refusal.BadEvent event) = File (BadEvent event)
cause_of (refusal.ReadFault path) = Reading
cause_of refusal.NoMemory = Memory
cause_of _ = Other

-- the path that a refusal names, if it names one
abbrev pub named_path : Refusal → Option (List ℕ)
named_path (refusal.Absent path) = Some path.now
named_path (refusal.TooLong path) = Some path.now
named_path (refusal.ReadFault path) = Some path.now
named_path (refusal.BadClass path kind offset) = Some path.now
named_path (refusal.BadText path kind line) = Some path.now
named_path (refusal.BadTrace path kind line) = Some path.now
named_path _ = None

-- it names no other path than this one
abbrev pub Names : List ℕ → Refusal → Type 0
Names path r = IfSome (named_path r) (λ named. named ≡ path)

-- it is the fault that a file was found to have; or a read failed, or memory ran out
abbrev pub IsCause : {A : Type 0} → (read : Type 0) → Result A Fault → Cause → Type 0
IsCause read found (File fault) = found ≡ Err fault
IsCause read found Reading = read
IsCause read found Memory = Unit {0}
IsCause read found Other = ⊥

-- what was found is what is answered, or the refusal says why not
abbrev pub Tells : {A B : Type 0} → (read : Type 0) → (A → B) → Result B Fault → Result A Refusal → Type 0
Tells read view found (Ok a) = found ≡ Ok (view a)
Tells read view found (Err r) = IsCause read found (cause_of r)

-- a read failed
abbrev pub is_read_cause : Cause → Bool
is_read_cause (File fault) = false
is_read_cause Reading = true
is_read_cause Memory = false
is_read_cause Other = false

abbrev pub is_reading : {A : Type 0} → Result A Refusal → Bool
is_reading (Ok a) = false
is_reading (Err r) = is_read_cause (cause_of r)

-- what a read found is answered so: by the bytes, or by why there are none
abbrev pub TellsFound : Found → Result (Vec ℕ Global) Refusal → Type 0
TellsFound (finds.Bytes bytes) answer = answer ≡ Ok bytes
TellsFound finds.Absent answer = IsErrAnd answer (λ r. cause_of r ≡ File Absent)
TellsFound finds.TooLong answer = IsErrAnd answer (λ r. cause_of r ≡ File TooLong)
TellsFound finds.Failed answer = IsErrAnd answer (λ r. cause_of r ≡ Reading)

-- it speaks of a file, or of memory
abbrev pub IsFileRefusal : Cause → Type 0
IsFileRefusal (File fault) = Unit {0}
IsFileRefusal Reading = Unit {0}
IsFileRefusal Memory = Unit {0}
IsFileRefusal Other = ⊥

-- it speaks of the bytes of a file, or of memory
abbrev pub IsOfBytes : Cause → Type 0
IsOfBytes (File fault) = Unit {0}
IsOfBytes Reading = ⊥
IsOfBytes Memory = Unit {0}
IsOfBytes Other = ⊥

abbrev pub classes_read : Vec ClassFile Global → List ClassOf
classes_read classes = map class_of classes.items

-- the status of an answer: done, or that of the refusal
abbrev pub status_of_result : {A : Type 0} → Result A Refusal → Status
status_of_result (Ok done) = status.Done
status_of_result (Err r) = status_of r
