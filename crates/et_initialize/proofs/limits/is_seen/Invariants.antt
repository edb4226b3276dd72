use Rattle.std.proofs.Common.{◌≡◌, false, take}
use Rattle.std.specs.List.{list_any}
use Rattle.et_initialize.specs.Texts.{has_text}
use Rattle.et_initialize.proofs.limits.is_seen.Given as goal

abbrev pub invariant-loop-k : goal.invariant-loop-k
invariant-loop-k l = list_any (has_text l.program l.bytes) (take l.k l.seen) ≡ false
