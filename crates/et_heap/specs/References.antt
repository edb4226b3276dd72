-- What a place keeps true of its flag.
use Rattle.std.specs.Prelude.{◌≡◌, false, []}
use Rattle.et_heap.specs.Refs.{refs_of}
use Rattle.et_heap.specs.declared.place.Place.TheInside.{Inside}

-- where no reference was ever written, none stands in the slots
abbrev pub HasFlag : Inside → Type 0
HasFlag x = x.has_references ≡ false → refs_of x.slots.items ≡ []
