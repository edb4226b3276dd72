-- How names are found by indices.
use Rattle.std.specs.Prelude.{◌≡◌, ℕ, List}
use Rattle.et_program.specs.declared.tables.names.NameIndex.{NameIndex}
use Rattle.et_link.specs.declared.names.ArrayNames.{ArrayNames}
use Rattle.et_program.specs.Indices.{number_of_name}
use Rattle.et_program.specs.ArrayTypes.{array_at}

-- the index has the number of each of these names, from the first number on
abbrev pub IsIndexFrom : ℕ → List (List ℕ) → NameIndex → Type 0
IsIndexFrom first names index = (name : List ℕ) → number_of_name index name ≡ array_at first names name

-- and that of these names has
abbrev pub AreIndexed : ArrayNames → Type 0
AreIndexed a = IsIndexFrom a.first a.names.items a.index
