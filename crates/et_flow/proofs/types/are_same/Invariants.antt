-- The types so far are the same.
use Rattle.std.proofs.Common.{◌≡◌, ℕ, ◌<◌, get_or}
use Rattle.et_flow.specs.declared.types.EntryType.TheVariants.{Free}
use Rattle.et_flow.proofs.types.are_same.Given as goal

abbrev pub invariant-loop-i : goal.invariant-loop-i
invariant-loop-i l = (k : ℕ) → k < l.i → get_or l.some k Free ≡ get_or l.others k Free
