-- LOCAL VARIABLES, as they are read and written (JVMS 2.6.1).
use Rattle.std.specs.Prelude.{ℕ, zero, suc, ◌+◌, ◌-◌, ◌&&◌, nat_lt, Bool, true, false, if◌then◌else◌, List, ◌++◌, length, replicate, slice_index_or, slice_set, Option, Some, None}
use Rattle.et_pool.specs.declared.operand.Operand.{Operand}
use Rattle.et_pool.specs.declared.operand.Operand.TheVariants as operand
use Rattle.et_flow.specs.declared.types.EntryType.{EntryType}
use Rattle.et_flow.specs.declared.types.EntryType.TheVariants.{Free, Int, Long, LongHigh, Reference}

-- so many local variables, of which the first are these
abbrev pub with_free : ℕ → List EntryType → List EntryType
with_free count entries = entries ++ replicate (count - length entries) Free

-- the types are the same
abbrev pub is_type : EntryType → EntryType → Bool
is_type Free Free = true
is_type Int Int = true
is_type Long Long = true
is_type LongHigh LongHigh = true
is_type Reference Reference = true
is_type a b = false

abbrev pub is_int : EntryType → Bool
is_int t = is_type Int t

abbrev pub is_long : EntryType → Bool
is_long t = is_type Long t

abbrev pub is_high : EntryType → Bool
is_high t = is_type LongHigh t

abbrev pub is_reference : EntryType → Bool
is_reference t = is_type Reference t

abbrev pub local_type : List EntryType → ℕ → EntryType
local_type locals i = slice_index_or locals i Free

-- a local variable holds a value of a kind
abbrev pub holds : Operand → List EntryType → ℕ → Bool
holds operand.Int locals i = is_int (local_type locals i)
holds operand.Long locals i = is_long (local_type locals i) && is_high (local_type locals (i + 1))
holds operand.Reference locals i = is_reference (local_type locals i)

-- A local variable is overwritten (JVMS 2.6.1): a long of which it is the upper entry, and one of which it is the lower one, is
-- no long any more
abbrev pub without_lower : ℕ → List EntryType → List EntryType
without_lower zero locals = locals
without_lower (suc i) locals = if is_long (local_type locals i) then slice_set locals i Free else locals

abbrev pub without_upper : ℕ → List EntryType → List EntryType
without_upper i locals = if is_high (local_type locals (i + 1)) then slice_set locals (i + 1) Free else locals

abbrev pub one_set : ℕ → EntryType → List EntryType → List EntryType
one_set i t locals = slice_set (without_upper i (without_lower i locals)) i t

abbrev pub long_set : ℕ → List EntryType → List EntryType
long_set i locals = slice_set (slice_set (without_upper (i + 1) (without_lower i locals)) i Long) (i + 1) LongHigh

abbrev pub where_within : ℕ → List EntryType → List EntryType → Option (List EntryType)
where_within last locals after = if nat_lt last (length locals) then Some after else None

abbrev pub set_to : Operand → List EntryType → ℕ → Option (List EntryType)
set_to operand.Int locals i = where_within i locals (one_set i Int locals)
set_to operand.Long locals i = where_within (i + 1) locals (long_set i locals)
set_to operand.Reference locals i = where_within i locals (one_set i Reference locals)
