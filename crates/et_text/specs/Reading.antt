-- A line read from left to right. The contracts of private functions alone speak of it: that it is what `IsLineSpelled` says is proved of `read_line`.
use Rattle.std.specs.Prelude.{◌≡◌, ℕ, zero, suc, ◌+◌, ◌-◌, ◌*◌, Bool, true, ◌&&◌, ◌==◌, nat_le, if◌then◌else◌, List, [], ◌∷◌, length, Option, Some, None, Result, Ok, Err}
use Rattle.et_base.specs.Digits.{is_digit}
use Rattle.et_base.specs.declared.line.TraceLine.{TraceLine}
use Rattle.et_base.specs.declared.line.TraceLine.TheVariants.{Header, Class, Method, Alloc, Update, Enter, Exit, Unwind, Flush, Death, Finish}
use Rattle.et_text.specs.Ranges.{greatest_event, thread_count, number_limit, object_limit, slot_limit, least_size, greatest_size, greatest_length, greatest_ending}
use Rattle.et_text.specs.Spelling.{is_escaped}
use Rattle.et_text.specs.declared.fault.LineError.{LineError}
use Rattle.et_text.specs.declared.fault.LineError.TheVariants as errors

infixl 10 ◌>>=◌
abbrev pub ◌>>=◌ : {A B : Type 0} → Option A → (A → Option B) → Option B
(Some x) >>= f = f x
None >>= f = None

-- What a function returned, seen by view, is what reading gives, unless memory ran out.
abbrev pub FailsToRead : {Y : Type 0} → LineError → Option Y → Type 0
FailsToRead errors.Memory read = Unit {0}
FailsToRead errors.Form read = read ≡ None

abbrev pub GivesWhereRead : {X Y : Type 0} → (X → Y) → Result X LineError → Option Y → Type 0
GivesWhereRead view (Ok x) read = read ≡ Some (view x)
GivesWhereRead view (Err e) read = FailsToRead e read

-- the number whose digits so far stand for n, and the bytes after it
unfoldable pub number_after : ℕ → List ℕ → Option (ℕ × List ℕ)
number_after n [] = Some (n, [])
number_after n (b ∷ rest) = if is_digit b then (if nat_le n greatest_event then number_after (10 * n + (b - 48)) rest else None) else Some (n, b ∷ rest)

unfoldable pub digits_at : List ℕ → Option (ℕ × List ℕ)
digits_at [] = None
digits_at (b ∷ rest) = if b == 48 then Some (0, rest) else (if is_digit b then number_after (b - 48) rest else None)

unfoldable pub number_field_at : List ℕ → Option (ℕ × List ℕ)
number_field_at [] = None
number_field_at (b ∷ rest) = if b == 32 then digits_at rest else None

unfoldable pub number_field_in : ℕ → ℕ → List ℕ → Option (ℕ × List ℕ)
number_field_in low high bytes = do
  x ← number_field_at bytes
  if nat_le low x.0 && nat_le x.0 high then Some x else None

-- the number that an upper-case hexadecimal digit stands for
unfoldable pub hex_value : ℕ → Option ℕ
hex_value b = if is_digit b then Some (b - 48) else (if nat_le 65 b && nat_le b 70 then Some (b - 55) else None)

-- two digits behind a `%`
unfoldable pub escaped_at : List ℕ → Option (ℕ × List ℕ)
escaped_at [] = None
escaped_at (h ∷ []) = None
escaped_at (h ∷ l ∷ rest) = do
  high ← hex_value h
  low ← hex_value l
  if is_escaped (16 * high + low) then Some (16 * high + low, rest) else None

unfoldable pub byte_at : List ℕ → Option (ℕ × List ℕ)
byte_at [] = None
byte_at (b ∷ rest) = if b == 37 then escaped_at rest else (if is_escaped b then None else Some (b, rest))

-- a name or the bytes end here
abbrev pub is_break : List ℕ → Bool
is_break [] = true
is_break (b ∷ rest) = b == 32

-- at most n bytes of a name
unfoldable pub name_bytes_at : ℕ → List ℕ → Option (List ℕ × List ℕ)
name_bytes_at zero bytes = Some ([], bytes)
name_bytes_at (suc n) bytes = if is_break bytes then Some ([], bytes) else (byte_at bytes >>= λ x. name_bytes_at n x.1 >>= λ y. Some (x.0 ∷ y.0, y.1))

abbrev pub unless_empty : List ℕ × List ℕ → Option (List ℕ × List ℕ)
unless_empty ([], rest) = None
unless_empty (b ∷ name, rest) = Some (b ∷ name, rest)

unfoldable pub text_field_at : List ℕ → Option (List ℕ × List ℕ)
text_field_at [] = None
text_field_at (b ∷ rest) = if b == 32 then (name_bytes_at (length rest) rest >>= unless_empty) else None

abbrev pub done : TraceLine → List ℕ → Option TraceLine
done line [] = Some line
done line (b ∷ rest) = None

-- an event and a thread
unfoldable pub turn_at : List ℕ → Option ((ℕ × ℕ) × List ℕ)
turn_at bytes = do
  event ← number_field_in 0 greatest_event bytes
  thread ← number_field_in 0 (thread_count - 1) event.1
  Some ((event.0, thread.0), thread.1)

unfoldable pub header_line_at : List ℕ → Option (TraceLine × List ℕ)
header_line_at bytes = do
  version ← number_field_in 1 1 bytes
  interval ← number_field_in 0 greatest_event version.1
  Some (Header version.0 interval.0, interval.1)

unfoldable pub class_line_at : List ℕ → Option (TraceLine × List ℕ)
class_line_at bytes = do
  number ← number_field_in 1 (number_limit - 1) bytes
  name ← text_field_at number.1
  Some (Class number.0 name.0, name.1)

unfoldable pub method_line_at : List ℕ → Option (TraceLine × List ℕ)
method_line_at bytes = do
  number ← number_field_in 1 (number_limit - 1) bytes
  class ← number_field_in 1 (number_limit - 1) number.1
  name ← text_field_at class.1
  descriptor ← text_field_at name.1
  Some (Method number.0 class.0 name.0 descriptor.0, descriptor.1)

unfoldable pub alloc_at : List ℕ → Option (TraceLine × List ℕ)
alloc_at bytes = do
  turn ← turn_at bytes
  object ← number_field_in 1 (object_limit - 1) turn.1
  class ← number_field_in 1 (number_limit - 1) object.1
  size ← number_field_in least_size greatest_size class.1
  length ← number_field_in 0 greatest_length size.1
  Some (Alloc turn.0.0 turn.0.1 object.0 class.0 size.0 length.0, length.1)

unfoldable pub update_at : List ℕ → Option (TraceLine × List ℕ)
update_at bytes = do
  turn ← turn_at bytes
  object ← number_field_in 0 (object_limit - 1) turn.1
  slot ← number_field_in 0 (slot_limit - 1) object.1
  old ← number_field_in 0 (object_limit - 1) slot.1
  new ← number_field_in 0 (object_limit - 1) old.1
  Some (Update turn.0.0 turn.0.1 object.0 slot.0 old.0 new.0, new.1)

unfoldable pub enter_at : List ℕ → Option (TraceLine × List ℕ)
enter_at bytes = do
  turn ← turn_at bytes
  method ← number_field_in 1 (number_limit - 1) turn.1
  receiver ← number_field_in 0 (object_limit - 1) method.1
  Some (Enter turn.0.0 turn.0.1 method.0 receiver.0, receiver.1)

unfoldable pub exit_at : List ℕ → Option (TraceLine × List ℕ)
exit_at bytes = do
  turn ← turn_at bytes
  method ← number_field_in 1 (number_limit - 1) turn.1
  Some (Exit turn.0.0 turn.0.1 method.0, method.1)

unfoldable pub unwind_at : List ℕ → Option (TraceLine × List ℕ)
unwind_at bytes = do
  turn ← turn_at bytes
  method ← number_field_in 1 (number_limit - 1) turn.1
  exception ← number_field_in 1 (object_limit - 1) method.1
  Some (Unwind turn.0.0 turn.0.1 method.0 exception.0, exception.1)

unfoldable pub flush_at : List ℕ → Option (TraceLine × List ℕ)
flush_at bytes = do
  event ← number_field_in 0 greatest_event bytes
  deaths ← number_field_in 0 (object_limit - 1) event.1
  Some (Flush event.0 deaths.0, deaths.1)

unfoldable pub death_line_at : List ℕ → Option (TraceLine × List ℕ)
death_line_at bytes = do
  object ← number_field_in 1 (object_limit - 1) bytes
  time ← number_field_in 0 greatest_event object.1
  Some (Death object.0 time.0, time.1)

unfoldable pub finish_at : List ℕ → Option (TraceLine × List ℕ)
finish_at bytes = do
  event ← number_field_in 0 greatest_event bytes
  how ← number_field_in 0 greatest_ending event.1
  Some (Finish event.0 how.0, how.1)

-- a line at the front, and the bytes behind its fields
unfoldable pub front_at : List ℕ → Option (TraceLine × List ℕ)
front_at [] = None
front_at (b ∷ rest) =
    if b == 72 then header_line_at rest
    else (if b == 67 then class_line_at rest
    else (if b == 78 then method_line_at rest
    else (if b == 65 then alloc_at rest
    else (if b == 85 then update_at rest
    else (if b == 77 then enter_at rest
    else (if b == 69 then exit_at rest
    else (if b == 88 then unwind_at rest
    else (if b == 70 then flush_at rest
    else (if b == 68 then death_line_at rest
    else (if b == 90 then finish_at rest
    else None))))))))))

-- a line, where nothing is left behind its fields
unfoldable pub line_at : List ℕ → Option TraceLine
line_at bytes = do
  x ← front_at bytes
  done x.0 x.1
