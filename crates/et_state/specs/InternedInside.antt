-- What is kept of the strings of constants.
use Rattle.std.specs.Prelude.{◌≡◌, ℕ, ◌<◌, ◌^◌, All, List, length, map}
use Rattle.et_state.specs.Interned.{interned_objects}
use Rattle.et_state.specs.declared.machine.interned.Interned.TheInside.{Inside}

abbrev pub interned_in : Inside → List (List ℕ × ℕ)
interned_in a = map (λ e. (e.0.items, e.1)) a.objects.entries

-- the objects are also kept by themselves, and no text is longer than a constant can be (JVMS 4.4.7)
pub record IsInterned (a : Inside) : Type 0 where
  pub ordered : a.order.keys ≡ interned_objects (interned_in a)
  pub short : All (λ (s : List ℕ × ℕ). length s.0 < 2 ^ 16) (interned_in a)
