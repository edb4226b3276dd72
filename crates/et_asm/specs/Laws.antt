-- What the definitions mean.
use Rattle.std.specs.Prelude.{◌≡◌, ℕ, ◌<◌, List, ◌++◌, false, length, take, slice_index_or, AllPairs, None}
use Rattle.std.specs.List.{flat_map, list_any}
use Rattle.et_base.specs.Marks.{MarksAre, IsTheOne}
use Rattle.et_class.specs.Layout.{ClassOf}
use Rattle.et_class.specs.Classes.{IsClassFile}
use Rattle.et_listing.specs.declared.entry.Entry.{Entry}
use Rattle.et_listing.specs.declared.line.Parsed.{Parsed}
use Rattle.et_asm.specs.Along.{along_from}
use Rattle.et_asm.specs.Pool.{same_entry, parts, uses, pool, index_behind, entry_index}
use Rattle.et_asm.specs.Code.{Labels, place_behind, encoded_at, code_bytes}
use Rattle.et_asm.specs.Listings.{parsed_lines, marks_of, assembled_bytes}
use Rattle.et_asm.specs.Accepted.{HasListing}

-- a pool has each of the used entries once, and no others
pub record IsSetOf (used entries : List Entry) : Type 0 where
  pub once : AllPairs (λ a b. same_entry a b ≡ false) entries
  pub members : (e : Entry) → list_any (same_entry e) entries ≡ list_any (same_entry e) used

abbrev pub PoolsAreSets : Type 0
PoolsAreSets = (lines : List Parsed) → IsSetOf (flat_map parts (uses lines)) (pool lines)

-- each entry of a pool has the index behind those before it
abbrev pub IndicesName : Type 0
IndicesName = (lines : List Parsed) (i : ℕ) (d : Entry) → i < length (pool lines) → entry_index (pool lines) (slice_index_or (pool lines) i d) ≡ index_behind (take i (pool lines))

-- the place behind lines is how many bytes their code has
abbrev pub PlacesCount : Type 0
PlacesCount = (entries : List Entry) (labels : Labels) (lines : List Parsed) → length (code_bytes entries labels lines) ≡ place_behind entries lines

-- and there the bytes of the lines behind begin
abbrev pub CodeGoesOn : Type 0
CodeGoesOn = (entries : List Entry) (labels : Labels) (before more : List Parsed) → code_bytes entries labels (before ++ more) ≡ code_bytes entries labels before ++ along_from (encoded_at entries labels) before more

-- each text has exactly one answer: no line is faulty, or one is the first
abbrev pub AnswersAreOne : Type 0
AnswersAreOne = (text : List ℕ) → IsTheOne (marks_of text)

-- where no line is faulty and the bytes are a class file, it says what the listing says
abbrev pub ClassesHaveListings : Type 0
ClassesHaveListings = (text : List ℕ) (c : ClassOf) → MarksAre (marks_of text) None → IsClassFile (assembled_bytes text) c → HasListing (parsed_lines text) c
