-- What is kept of texts.
use Rattle.std.specs.Prelude.{◌≡◌, ℕ, List, map}
use Rattle.std.specs.List.Sorted.{IsStrictlySortedBy}
use Rattle.std.specs.Map.{keys_of}
use Rattle.std.specs.Ordering.{nat_cmp}
use Rattle.std.specs.declared.alloc.Global.{Global}
use Rattle.std.specs.declared.vec.Vec.{Vec}
use Rattle.et_strings.specs.declared.texts.Texts.TheInside.{Inside}
use Rattle.et_state.specs.Texts.{text_units}

abbrev pub texts_in : Inside → List (ℕ × List ℕ)
texts_in a = map (λ (e : ℕ × Vec ℕ Global). (e.0, e.1.items)) a.own.entries

-- the number of all units is kept, and the objects stand in their order
pub record IsStore (a : Inside) : Type 0 where
  pub units : a.units ≡ text_units (texts_in a)
  pub ordered : IsStrictlySortedBy nat_cmp (keys_of a.own.entries)
