-- What contracts see of the index of names: the number that a name has.
use Rattle.std.specs.Prelude.{ℕ, List, Option}
use Rattle.std.specs.Ordering.{nat_cmp}
use Rattle.std.specs.Cmp.Lexicographic.{slice_cmp}
use Rattle.std.specs.BTreeMap.{get_by}
use Rattle.et_program.specs.declared.tables.names.NameIndex.{NameIndex}

unfoldable pub number_of_name : NameIndex → List ℕ → Option ℕ
number_of_name x name = get_by (λ k. slice_cmp nat_cmp name k.items) x.places
