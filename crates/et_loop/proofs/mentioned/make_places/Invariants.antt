use Rattle.std.proofs.Common.{◌≡◌, ℕ, None, ◌+◌, ◌-◌, vec_len, get_or}
use Rattle.et_loop.proofs.mentioned.make_places.Given as goal

-- no place that was there changes, and a new one is empty
abbrev pub invariant-places : goal.invariant-places
invariant-places l = (x : ℕ) → get_or l.numbers.items x None ≡ get_or l.fn.numbers.items x None

abbrev pub decreases-places : goal.decreases-places
decreases-places l = l.last + 1 - vec_len l.numbers
