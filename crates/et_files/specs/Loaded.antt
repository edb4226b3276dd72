-- What the files that a command names hold: classes, a listing or a trace. A file is read up to its first fault, and several
-- files in the order of the words; classes are linked when all are read.
use Rattle.std.specs.Prelude.{◌≡◌, ℕ, ◌-◌, ◌⊎◌, nat_lt, nat_le, if◌then◌else◌, List, [], ◌∷◌, length, map, slice_get, Option, None, Some, Result, Ok, Err}
use Rattle.et_base.specs.declared.line.TraceLine.{TraceLine}
use Rattle.et_base.specs.declared.line.TraceLine.TheVariants.{Finish}
use Rattle.et_class.specs.Layout.{ClassOf}
use Rattle.et_class.specs.Classes.{IsClassFile, ShowsFirstFault}
use Rattle.et_base.specs.Marks.{MarksAre, IsFirstBroken}
use Rattle.et_asm.specs.Listings.{marks_of, assembled_bytes as class_file_of}
use Rattle.et_program.specs.Loaded.{loaded_class}
use Rattle.et_program.specs.LinkFaults.{IsLinkable}
use Rattle.et_link.specs.Refusals.{RefusesLink}
use Rattle.et_program.specs.ProgramOf.{IsProgramOf as IsLinkOf}
use Rattle.et_program.specs.declared.fault.LinkFaultKind.{LinkFaultKind}
use Rattle.et_link.specs.declared.fault.LinkFault.TheVariants as link
use Rattle.et_program.specs.Entries.{Linked}
use Rattle.et_convert.specs.Spellings.{SpellsTrace, HasSpellingFault}
use Rattle.et_files.specs.Faults.{Fault, Absent, TooLong, BadClass, BadText, BadTrace, LinkFault, BadEvent}

-- the most bytes that are read of a class file or a listing, and of a trace
abbrev pub most_of_class : ℕ
most_of_class = 1048576

abbrev pub most_of_trace : ℕ
most_of_trace = 268435456

-- the bytes of a file, if it is there and not too long
abbrev pub file_bytes : ℕ → Option (List ℕ) → Result (List ℕ) Fault
file_bytes most None = Err Absent
file_bytes most (Some bytes) = if nat_lt most (length bytes) then Err TooLong else Ok bytes

-- the bytes are those of this class file, or they have this first fault; exactly one of the two is the case
abbrev pub IsClassOf : Result (List ℕ) Fault → Result ClassOf Fault → Type 0
IsClassOf (Err fault) class = class ≡ Err fault
IsClassOf (Ok bytes) class =
    ((fault : ℕ × ℕ) × ShowsFirstFault bytes fault × (class ≡ Err (BadClass fault.1 fault.0)))
    ⊎ ((c : ClassOf) × IsClassFile bytes c × (class ≡ Ok c))

-- the bytes are those of this trace, or they have this first fault, by their spelling; exactly one of the two is the case
abbrev pub IsTraceOf : Result (List ℕ) Fault → Result (List TraceLine) Fault → Type 0
IsTraceOf (Err fault) trace = trace ≡ Err fault
IsTraceOf (Ok bytes) trace =
    ((kind line : ℕ) × HasSpellingFault bytes kind line × (trace ≡ Err (BadTrace kind line)))
    ⊎ ((lines : List TraceLine) × SpellsTrace lines bytes × (trace ≡ Ok lines))

-- .. and the same of a listing: the bytes of its class file, or its first faulty line with the least kind
abbrev pub IsListingOf : Result (List ℕ) Fault → Result (List ℕ) Fault → Type 0
IsListingOf (Err fault) class = class ≡ Err fault
IsListingOf (Ok text) class =
    ((line kind : ℕ) × IsFirstBroken (marks_of text) line kind × (class ≡ Err (BadText kind line)))
    ⊎ (MarksAre (marks_of text) None × (class ≡ Ok (class_file_of text)))

-- the event of the Z line
abbrev pub event_of_end : Option TraceLine → ℕ
event_of_end (Some (Finish event how)) = event
event_of_end _ = 0

-- .. which is the last line of a good trace
abbrev pub last_event : List TraceLine → ℕ
last_event lines = event_of_end (slice_get lines (length lines - 1))

-- the trace, where it doesn't end before the event
abbrev pub reaching : ℕ → Result (List TraceLine) Fault → Result (List TraceLine) Fault
reaching event (Err fault) = Err fault
reaching event (Ok lines) = if nat_le event (last_event lines) then Ok lines else Err (BadEvent event)

-- a class before others, where all are there
abbrev pub before : ClassOf → Result (List ClassOf) Fault → Result (List ClassOf) Fault
before c (Ok classes) = Ok (c ∷ classes)
before c (Err fault) = Err fault

-- the first class with the others, or its fault; `Others` says what the others are
abbrev pub AreFirstAnd : Result ClassOf Fault → (Result (List ClassOf) Fault → Type 0) → Result (List ClassOf) Fault → Type 0
AreFirstAnd (Err fault) Others classes = classes ≡ Err fault
AreFirstAnd (Ok c) Others classes = (rest : Result (List ClassOf) Fault) × Others rest × (classes ≡ before c rest)

-- these are the classes of the files, or this is the fault of the first file that has one
abbrev pub AreClassesOf : List (Option (List ℕ)) → Result (List ClassOf) Fault → Type 0
AreClassesOf [] classes = classes ≡ Ok []
AreClassesOf (file ∷ files) classes =
    (first : Result ClassOf Fault) × IsClassOf (file_bytes most_of_class file) first × AreFirstAnd first (AreClassesOf files) classes

-- the classes link, and this is their program; or this is the fault that keeps them from being linked; exactly one of the
-- two is the case (JVMS 5.3, 5.4)
abbrev pub IsLinkedOf : Result (List ClassOf) Fault → Result Linked Fault → Type 0
IsLinkedOf (Err fault) program = program ≡ Err fault
IsLinkedOf (Ok classes) program =
    ((kind : LinkFaultKind) × ((name : List ℕ) × RefusesLink (map loaded_class classes) (link.At kind name) × (program ≡ Err (LinkFault kind name))))
    ⊎ (IsLinkable (map loaded_class classes) × ((p : Linked) × IsLinkOf (map loaded_class classes) p × (program ≡ Ok p)))

-- the program of the files: their classes, linked
abbrev pub IsProgramOfFiles : List (Option (List ℕ)) → Result Linked Fault → Type 0
IsProgramOfFiles files program = (classes : Result (List ClassOf) Fault) × AreClassesOf files classes × IsLinkedOf classes program

-- one class alone, or its fault
abbrev pub class_alone : Result ClassOf Fault → Result (List ClassOf) Fault
class_alone (Ok class) = Ok (class ∷ [])
class_alone (Err fault) = Err fault

-- the program of a listing: its class file is read and linked alone. Or the fault of the first of these that has one
abbrev pub IsListingProgram : List ℕ → Result Linked Fault → Type 0
IsListingProgram listing program =
    (bytes : Result (List ℕ) Fault) × (class : Result ClassOf Fault)
    × IsListingOf (Ok listing) bytes × IsClassOf bytes class × IsLinkedOf (class_alone class) program
