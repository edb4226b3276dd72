-- A record read from left to right. The contracts of private functions alone speak of it: that it is what `IsPacked` says is proved of `read_record`.
use Rattle.std.specs.Prelude.{ℕ, min, Bool, ◌||◌, ◌==◌, nat_lt, if◌then◌else◌, List, [], ◌∷◌, length, take, drop, bytes_eq, Option, Some, None}
use Rattle.std.specs.Int.{Width, w8, w32, w64, byte_len, from_be_bytes}
use Rattle.et_base.specs.declared.line.TraceLine.{TraceLine}
use Rattle.et_base.specs.declared.line.TraceLine.TheVariants.{Header, Class, Method, Alloc, Update, Enter, Exit, Unwind, Flush, Death, Finish}
use Rattle.et_text.specs.Reading.{◌>>=◌}
use Rattle.et_binary.specs.Packing.{opening}

-- a number of this width at the front, and the bytes behind it; none where there are fewer
unfoldable pub number_front : Width → List ℕ → Option (ℕ × List ℕ)
number_front w bytes = if nat_lt (length bytes) (byte_len w) then None else Some (from_be_bytes w (take (byte_len w) bytes), drop (byte_len w) bytes)

-- the bytes behind their length
unfoldable pub name_front : List ℕ → Option (List ℕ × List ℕ)
name_front bytes = do
  size ← number_front w32 bytes
  if nat_lt (length size.1) size.0 then None else Some (take size.0 size.1, drop size.0 size.1)

unfoldable pub turn_front : List ℕ → Option ((ℕ × ℕ) × List ℕ)
turn_front bytes = do
  event ← number_front w64 bytes
  thread ← number_front w8 event.1
  Some ((event.0, thread.0), thread.1)

unfoldable pub header_front : List ℕ → Option (TraceLine × List ℕ)
header_front bytes = do
  interval ← number_front w64 bytes
  Some (Header 2 interval.0, interval.1)

unfoldable pub class_front : List ℕ → Option (TraceLine × List ℕ)
class_front bytes = do
  number ← number_front w32 bytes
  name ← name_front number.1
  Some (Class number.0 name.0, name.1)

unfoldable pub method_front : List ℕ → Option (TraceLine × List ℕ)
method_front bytes = do
  number ← number_front w32 bytes
  class ← number_front w32 number.1
  name ← name_front class.1
  descriptor ← name_front name.1
  Some (Method number.0 class.0 name.0 descriptor.0, descriptor.1)

unfoldable pub alloc_front : List ℕ → Option (TraceLine × List ℕ)
alloc_front bytes = do
  turn ← turn_front bytes
  object ← number_front w32 turn.1
  class ← number_front w32 object.1
  size ← number_front w64 class.1
  len ← number_front w32 size.1
  Some (Alloc turn.0.0 turn.0.1 object.0 class.0 size.0 len.0, len.1)

unfoldable pub update_front : List ℕ → Option (TraceLine × List ℕ)
update_front bytes = do
  turn ← turn_front bytes
  object ← number_front w32 turn.1
  slot ← number_front w32 object.1
  old ← number_front w32 slot.1
  new ← number_front w32 old.1
  Some (Update turn.0.0 turn.0.1 object.0 slot.0 old.0 new.0, new.1)

unfoldable pub enter_front : List ℕ → Option (TraceLine × List ℕ)
enter_front bytes = do
  turn ← turn_front bytes
  method ← number_front w32 turn.1
  receiver ← number_front w32 method.1
  Some (Enter turn.0.0 turn.0.1 method.0 receiver.0, receiver.1)

unfoldable pub exit_front : List ℕ → Option (TraceLine × List ℕ)
exit_front bytes = do
  turn ← turn_front bytes
  method ← number_front w32 turn.1
  Some (Exit turn.0.0 turn.0.1 method.0, method.1)

unfoldable pub unwind_front : List ℕ → Option (TraceLine × List ℕ)
unwind_front bytes = do
  turn ← turn_front bytes
  method ← number_front w32 turn.1
  exception ← number_front w32 method.1
  Some (Unwind turn.0.0 turn.0.1 method.0 exception.0, exception.1)

unfoldable pub flush_front : List ℕ → Option (TraceLine × List ℕ)
flush_front bytes = do
  event ← number_front w64 bytes
  deaths ← number_front w32 event.1
  Some (Flush event.0 deaths.0, deaths.1)

unfoldable pub death_front : List ℕ → Option (TraceLine × List ℕ)
death_front bytes = do
  object ← number_front w32 bytes
  time ← number_front w64 object.1
  Some (Death object.0 time.0, time.1)

unfoldable pub finish_front : List ℕ → Option (TraceLine × List ℕ)
finish_front bytes = do
  event ← number_front w64 bytes
  how ← number_front w8 event.1
  Some (Finish event.0 how.0, how.1)

unfoldable pub record_front : List ℕ → Option (TraceLine × List ℕ)
record_front [] = None
record_front (b ∷ rest) =
    if b == 72 then header_front rest
    else (if b == 67 then class_front rest
    else (if b == 78 then method_front rest
    else (if b == 65 then alloc_front rest
    else (if b == 85 then update_front rest
    else (if b == 77 then enter_front rest
    else (if b == 69 then exit_front rest
    else (if b == 88 then unwind_front rest
    else (if b == 70 then flush_front rest
    else (if b == 68 then death_front rest
    else (if b == 90 then finish_front rest
    else None))))))))))

abbrev pub is_record_letter : ℕ → Bool
is_record_letter b = b == 72 || b == 67 || b == 78 || b == 65 || b == 85 || b == 77 || b == 69 || b == 88 || b == 70 || b == 68 || b == 90

-- no one of the first four bytes is wrong
abbrev pub may_open : List ℕ → Bool
may_open bytes = let count = min (length bytes) (length opening) in bytes_eq (take count bytes) (take count opening)
