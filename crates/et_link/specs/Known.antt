-- What the record of the code knows of all classes.
use Rattle.std.specs.Prelude.{◌≡◌, ℕ, ◌+◌, ◌<◌, [], length, None, false}
use Rattle.std.specs.List.{slice_index_or}
use Rattle.et_hierarchy.specs.Links.{HasLinksWithin}
use Rattle.et_hierarchy.specs.Ancestry.{ancestry_at, IsBelow}
use Rattle.et_hierarchy.specs.Initialization.{class_order}
use Rattle.et_program.specs.Indices.{number_of_name}
use Rattle.et_program.specs.Classes.{Heads}
use Rattle.et_link.specs.declared.linking.classes.Known.{Known}

abbrev pub heads_in : Known → Heads
heads_in x = record {
  table = x.table.items;
  rows = x.rows.items;
  flags = x.flags.items;
  slots = λ k. slice_index_or x.above.items k 0 + slice_index_or x.own.items k 0;
  needs = λ k. slice_index_or x.needs.items k false;
  clinit = λ k. slice_index_or x.initializers.items k None;
  constants = λ k. slice_index_or x.constants.items k [];
  place = number_of_name x.places;
  array = number_of_name x.arrays.index;
}

-- there is one of each for each class, what they name is among them, and the orders of initialization are those of the classes
pub record AreSized (x : Known) : Type 0 where
  pub rows : length x.rows.items ≡ length x.table.items
  pub flags : length x.flags.items ≡ length x.table.items
  pub own : length x.own.items ≡ length x.table.items
  pub orders : length x.orders.items ≡ length x.table.items
  pub above : length x.above.items ≡ length x.table.items
  pub initializers : length x.initializers.items ≡ length x.table.items
  pub constants : length x.constants.items ≡ length x.table.items
  pub within : HasLinksWithin (length x.table.items) x.table.items
  pub below : (k : ℕ) → k < length x.table.items → IsBelow (length x.table.items) (ancestry_at x.rows.items k)
  pub order : (k : ℕ) → k < length x.table.items → slice_index_or x.orders.items k [] ≡ class_order (λ c. slice_index_or x.needs.items c false) x.table.items x.rows.items k
