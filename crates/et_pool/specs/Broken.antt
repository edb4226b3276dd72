-- The broken items that reading a pool can come to. (Want of memory is no item, and is none of them.)
use Rattle.std.specs.Prelude.{ℕ}

pub data Broken : Type 0 where
  -- no entry has this tag, an entry has too few indices left, or the count is 0
  Tag : (place : ℕ) → Broken
  -- the bytes of a Utf8 entry are no modified UTF-8
  Utf8 : (place : ℕ) → Broken
  -- the bytes end before this item does
  Short : (place : ℕ) → Broken
