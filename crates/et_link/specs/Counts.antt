-- How far slots are counted.
use Rattle.std.specs.Prelude.{◌≡◌, ℕ, ◌+◌, ◌<◌, List, length, count_by}
use Rattle.std.specs.List.{slice_index_or}
use Rattle.et_program.specs.declared.info.FieldInfo.{FieldInfo}
use Rattle.et_program.specs.Slots.{is_static_field, is_instance_of}

-- behind these fields, the next slot of each class and how many static fields there are
pub record Counts (base : ℕ → ℕ) (before : List FieldInfo) (next : List ℕ) (statics : ℕ) : Type 0 where
  pub instances : (k : ℕ) → k < length next → slice_index_or next k 0 ≡ base k + count_by (is_instance_of k) before
  pub static_ones : statics ≡ count_by is_static_field before
