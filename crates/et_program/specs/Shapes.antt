-- What calls read off the descriptors of the members that the entries of the pools give.
use Rattle.std.specs.Prelude.{◌≡◌, ℕ, ◌<◌, ◌^◌, List, [], Option, None, option_and_then}
use Rattle.std.specs.List.{slice_index_or}
use Rattle.et_class.specs.Entries.{Item, Constants}
use Rattle.et_class.specs.Operands.{Shape, shape_in}
use Rattle.et_program.specs.Entries.{Linked}
use Rattle.et_program.specs.Referring.{Member, no_constants, pool_of_class, member_described}

-- what a call reads off the descriptor of the member that the entry at an index gives; none where it gives no member, or one
-- whose descriptor is not that of a method
abbrev pub member_shape : List (Option Item) → ℕ → Option Shape
member_shape pool index = option_and_then (λ (m : Member). shape_in m.descriptor) (member_described pool index)

-- .. the entry at an index of the pool of a class
abbrev pub shape_referred : Linked → ℕ → ℕ → Option Shape
shape_referred p class index = member_shape (pool_of_class p class) index

-- what is kept of the entry at an index of the pool of a class
abbrev pub shape_kept : List (List (Option Shape)) → ℕ → ℕ → Option Shape
shape_kept table class index = slice_index_or (slice_index_or table class []) index None

-- what is kept of each entry of these pools is what calls read off its descriptor
abbrev pub AreShaped : List Constants → List (List (Option Shape)) → Type 0
AreShaped pools table = (class index : ℕ) → index < 2 ^ 16 → shape_kept table class index ≡ member_shape (slice_index_or pools class no_constants).slots index
