-- What stands at a place of the bytes: an item and the place after it, or the first broken item there.
use Rattle.std.specs.Prelude.{◌≡◌, ℕ, List, Option, Some, None, Result, Ok, Err, ok_or, nat_lt, if◌then◌else◌}
use Rattle.std.specs.Int.{Width, w8, w16, w32, w64}
use Rattle.et_base.specs.Numbers.{number_at, bytes_at}
use Rattle.et_base.specs.Steps.{◌>>=◌}
use Rattle.et_pool.specs.declared.fault.PoolFault.{PoolFault}
use Rattle.et_pool.specs.declared.fault.PoolFault.TheVariants as fault
use Rattle.et_pool.specs.declared.entry.Layout.{Layout}
use Rattle.et_pool.specs.declared.entry.Layout.TheVariants as layout
use Rattle.et_pool.specs.Broken.{Broken, Tag, Utf8, Short}
use Rattle.et_pool.specs.Text.{is_modified}
use Rattle.et_pool.specs.Entries.{Item, Text, Word, Wide, Name, Pair, Handle, tag_layout, indices}

-- the fault that a call answered is this broken item; want of memory says nothing
abbrev pub IsPoolFaultOf : PoolFault → (Broken → Type 0) → Type 0
IsPoolFaultOf (fault.Tag p) P = P (Tag p)
IsPoolFaultOf (fault.Utf8 p) P = P (Utf8 p)
IsPoolFaultOf (fault.Index p) P = ⊥
IsPoolFaultOf (fault.Short p) P = P (Short p)
IsPoolFaultOf fault.NoMemory P = Unit {0}

-- what a call returned, seen by `view`, is what is read
abbrev pub GivesOrIsBroken : {X Y : Type 0} → (X → Y) → Result X PoolFault → Result Y Broken → Type 0
GivesOrIsBroken view (Ok x) read = read ≡ Ok (view x)
GivesOrIsBroken view (Err e) read = IsPoolFaultOf e (λ b. read ≡ Err b)

-- a number, and the place after it
abbrev pub pool_number : Width → List ℕ → ℕ → Result (ℕ × ℕ) Broken
pool_number w bytes at = ok_or (number_at w bytes at) (Short at)

-- the text of a Utf8 entry that begins at `entry` (4.4.7): its length, and that many bytes of modified UTF-8
unfoldable pub text_at : List ℕ → ℕ → ℕ → Result (Item × ℕ) Broken
text_at bytes entry at = do
  n ← pool_number w16 bytes at
  text ← ok_or (bytes_at bytes n.0 n.1) (Short n.1)
  if is_modified text.0 then Ok (Text text.0, text.1) else Err (Utf8 entry)

-- the body of an entry that begins at `entry`, by its layout
abbrev pub body_at : List ℕ → ℕ → ℕ → ℕ → Layout → Result (Item × ℕ) Broken
body_at bytes entry tag at layout.Text = text_at bytes entry at
body_at bytes entry tag at layout.Word = do
  n ← pool_number w32 bytes at
  Ok (Word tag n.0, n.1)
body_at bytes entry tag at layout.Wide = do
  n ← pool_number w64 bytes at
  Ok (Wide tag n.0, n.1)
body_at bytes entry tag at layout.Name = do
  n ← pool_number w16 bytes at
  Ok (Name tag n.0, n.1)
body_at bytes entry tag at layout.Pair = do
  m ← pool_number w16 bytes at
  n ← pool_number w16 bytes m.1
  Ok (Pair tag m.0 n.0, n.1)
body_at bytes entry tag at layout.Handle = do
  m ← pool_number w8 bytes at
  n ← pool_number w16 bytes m.1
  Ok (Handle m.0 n.0, n.1)

-- the body behind a tag, where that many indices are left: a tag that is in no table is broken, and so is an entry
-- that takes more indices
abbrev pub shaped_at : List ℕ → ℕ → ℕ → ℕ → ℕ → Option Layout → Result (Item × ℕ) Broken
shaped_at bytes room entry tag at None = Err (Tag entry)
shaped_at bytes room entry tag at (Some s) = if nat_lt room (indices s) then Err (Tag entry) else body_at bytes entry tag at s

-- the entry at a place, where that many indices are left
unfoldable pub entry_at : List ℕ → ℕ → ℕ → Result (Item × ℕ) Broken
entry_at bytes room at = do
  tag ← pool_number w8 bytes at
  shaped_at bytes room at tag.0 tag.1 (tag_layout tag.0)
