-- The ranges of the fields of a line.
use Rattle.std.specs.Prelude.{◌≡◌, ℕ, ◌<◌, ◌≤◌, ◌^◌, ◌⊎◌, List, length, All}
use Rattle.et_base.specs.declared.format.Format.{Format}
use Rattle.et_base.specs.declared.format.Format.TheVariants as formats
use Rattle.et_base.specs.declared.line.TraceLine.{TraceLine}
use Rattle.et_base.specs.declared.line.TraceLine.TheVariants.{Header, Class, Method, Alloc, Update, Enter, Exit, Unwind, Flush, Death, Finish}

-- THE BOUNDS. What has a limit is below it.

-- an event, and the interval of flushes, in events. No field of a line is greater.
abbrev pub greatest_event : ℕ
greatest_event = 2 ^ 40

-- threads are numbered from 0
abbrev pub thread_count : ℕ
thread_count = 64

-- the number of a class or a method
abbrev pub number_limit : ℕ
number_limit = 2 ^ 32

-- an object, and how many deaths a flush tells
abbrev pub object_limit : ℕ
object_limit = 2 ^ 24

abbrev pub slot_limit : ℕ
slot_limit = 2 ^ 28

-- the size of an object, in bytes
abbrev pub least_size : ℕ
least_size = 16

abbrev pub greatest_size : ℕ
greatest_size = 2 ^ 30

-- the length of an array
abbrev pub greatest_length : ℕ
greatest_length = 2 ^ 26

-- how a run ended
abbrev pub greatest_ending : ℕ
greatest_ending = 3

-- THE RANGES

-- an event, or the time of a death, which is the number of an event
abbrev pub IsEventNumber : ℕ → Type 0
IsEventNumber n = n ≤ greatest_event

abbrev pub IsThreadNumber : ℕ → Type 0
IsThreadNumber n = n < thread_count

-- the number that a class or a method has in the trace
abbrev pub IsNumber : ℕ → Type 0
IsNumber n = (1 ≤ n) × (n < number_limit)

-- an object, or 0 for none: a static's owner, no receiver, or null
abbrev pub IsObjectOrNone : ℕ → Type 0
IsObjectOrNone n = n < object_limit

abbrev pub IsObject : ℕ → Type 0
IsObject n = (1 ≤ n) × (n < object_limit)

-- a name or a descriptor is bytes, and not empty
abbrev pub IsText : List ℕ → Type 0
IsText name = (0 < length name) × All (λ b. b < 256) name

-- the version of a trace: 1 is the text, 2 the binary spelling
abbrev pub IsVersion : ℕ → Type 0
IsVersion version = (version ≡ 1) ⊎ (version ≡ 2)

-- the version that the header of a trace in this format says
abbrev pub header_version : Format → ℕ
header_version formats.Text = 1
header_version formats.Binary = 2

-- the length of a name or descriptor fits in 4 bytes
abbrev pub IsShort : List ℕ → Type 0
IsShort name = length name < 2 ^ 32

-- .. which it has to do in a trace of version 2
abbrev pub IsShortFor : ℕ → List ℕ → Type 0
IsShortFor version name = version ≡ 2 → IsShort name

-- each name and descriptor of the line is such a one
abbrev pub HasNames : (List ℕ → Type 0) → TraceLine → Type 0
HasNames P (Class number name) = P name
HasNames P (Method number class name descriptor) = P name × P descriptor
HasNames P _ = Unit {0}

-- .. is short
abbrev pub HasShortNames : TraceLine → Type 0
HasShortNames line = HasNames IsShort line

-- each field of the line is in its range, where the trace is of this version. Sizes are in bytes.
abbrev pub IsInRange : ℕ → TraceLine → Type 0
IsInRange version (Header v interval) = (v ≡ version) × (interval ≤ greatest_event)
IsInRange version (Class number name) = IsNumber number × IsText name × IsShortFor version name
IsInRange version (Method number class name descriptor) = IsNumber number × IsNumber class × IsText name × IsText descriptor × IsShortFor version name × IsShortFor version descriptor
IsInRange version (Alloc event thread object class size length) = IsEventNumber event × IsThreadNumber thread × IsObject object × IsNumber class × (least_size ≤ size) × (size ≤ greatest_size) × (length ≤ greatest_length)
IsInRange version (Update event thread object slot old new) = IsEventNumber event × IsThreadNumber thread × IsObjectOrNone object × (slot < slot_limit) × IsObjectOrNone old × IsObjectOrNone new
IsInRange version (Enter event thread method receiver) = IsEventNumber event × IsThreadNumber thread × IsNumber method × IsObjectOrNone receiver
IsInRange version (Exit event thread method) = IsEventNumber event × IsThreadNumber thread × IsNumber method
IsInRange version (Unwind event thread method exception) = IsEventNumber event × IsThreadNumber thread × IsNumber method × IsObject exception
IsInRange version (Flush event deaths) = IsEventNumber event × (deaths < object_limit)
IsInRange version (Death object time) = IsObject object × IsEventNumber time
IsInRange version (Finish event how) = IsEventNumber event × (how ≤ greatest_ending)
