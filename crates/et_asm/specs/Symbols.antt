-- The constant pool and the labels as the assembler keeps them.
use Rattle.std.specs.Prelude.{◌≡◌, ℕ, ◌<◌, List, [], ◌++◌, Bool, length, take, slice_index, Option, Some, is_some, if◌then◌else◌}
use Rattle.std.specs.List.{flat_map}
use Rattle.std.specs.Map.{lookup}
use Rattle.et_base.specs.Marks.{Mark}
use Rattle.indexmap.specs.IndexSet.{insert_all}
use Rattle.et_listing.specs.declared.entry.Entry.{Entry}
use Rattle.et_listing.specs.declared.line.Line.{Line}
use Rattle.et_listing.specs.declared.line.Line.TheVariants as line
use Rattle.et_listing.specs.declared.line.Parsed.{Parsed}
use Rattle.et_listing.specs.Words.{same_word}
use Rattle.et_asm.specs.declared.order.Stage.{Stage}
use Rattle.et_asm.specs.Order.{is_inside}
use Rattle.et_asm.specs.Pool.{same_entry, parts, outside_uses, index_behind}
use Rattle.et_asm.specs.Code.{Labels}
use Rattle.et_asm.specs.Listings.{method_bytes, own_marks, outside_marks}

-- a pool behind uses of entries: each that it lacks is added, behind its parts
unfoldable pub entry_added : List Entry → List Entry → List Entry
entry_added entries used = insert_all same_entry entries (flat_map parts used)

-- what a line uses at a stage
abbrev pub stage_uses : Stage → Line → List Parsed → List Entry
stage_uses stage l behind = if is_inside stage then [] else outside_uses l behind

-- the method of a line at a stage
abbrev pub stage_method : List Entry → Stage → Line → List Parsed → List ℕ
stage_method entries stage l behind = if is_inside stage then [] else method_bytes entries l behind

-- the rules of a line at a stage
abbrev pub stage_marks : List Entry → ℕ → Stage → Bool → Parsed → List Parsed → List Mark
stage_marks entries number stage few p behind =
    own_marks entries number stage few p ++ (if is_inside stage then [] else outside_marks entries number p behind)

-- these are the indices of entries, and the one behind them
pub record AreIndicesOf (entries : List Entry) (numbers : List ℕ) (end : ℕ) : Type 0 where
  pub counted : length numbers ≡ length entries
  pub indices : (i : ℕ) → i < length entries → slice_index numbers i ≡ index_behind (take i entries)
  pub behind : end ≡ index_behind entries

-- the labels of a map
abbrev pub places : List (List ℕ × ℕ) → Labels
places entries name = lookup (same_word name) entries

-- labels behind a line at a place: a label line defines its label, unless it is defined
abbrev pub define : ℕ → Line → Labels → List ℕ → Option ℕ
define at (line.Label name) labels q = if is_some (labels name) then labels q else (if same_word name q then Some at else labels q)
define at other labels q = labels q
