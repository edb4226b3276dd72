-- Big-endian numbers, and runs of bytes, at an absolute place of a list of bytes (JVMS 4: multibyte data items are
-- stored in big-endian order, the high bytes first).
use Rattle.std.specs.Prelude.{◌≡◌, ℕ, ◌+◌, ◌<◌, nat_lt, List, ◌++◌, length, take, drop, slice_index, Option, Some, None, if◌then◌else◌}
use Rattle.std.specs.Int.{Width, byte_len, from_be_bytes}

-- the number of this width that stands at a place, and the place after it; none where the bytes end before it does
abbrev pub number_at : Width → List ℕ → ℕ → Option (ℕ × ℕ)
number_at w bytes at = if nat_lt (length bytes) (at + byte_len w) then None else Some (from_be_bytes w (drop at bytes), at + byte_len w)

-- that many bytes at a place, and the place after them; none where there are fewer
abbrev pub bytes_at : List ℕ → ℕ → ℕ → Option (List ℕ × ℕ)
bytes_at bytes size at = if nat_lt (length bytes) (at + size) then None else Some (take size (drop at bytes), at + size)

-- each number of the list is a byte
abbrev pub AreBytes : List ℕ → Type 0
AreBytes bytes = (i : ℕ) → slice_index bytes i < 256

-- these bytes stand at a place
abbrev pub Stands : List ℕ → ℕ → List ℕ → Type 0
Stands bytes at xs = (rest : List ℕ) × (drop at bytes ≡ xs ++ rest)
