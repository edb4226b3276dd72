-- What was added, and what is still to be added.
use Rattle.std.proofs.Common.{◌≡◌, ◌+◌, ◌-◌, ◌*◌, ◌++◌, map}
use Rattle.et_code.specs.Switches.{switch_pairs_from, lookup_pairs}
use Rattle.et_event.specs.Sites.{target}
use Rattle.et_verify.proofs.leads.push_pairs.Given as goal

abbrev pub invariant-loop-pair : goal.invariant-loop-pair
invariant-loop-pair l =
    l.targets.items ++ map (target l.pc) (map (λ p. p.1) (switch_pairs_from l.code (l.pair-end - l.pair) (l.table + 8 + l.pair * 8))) ≡ l.fn.targets.items ++ map (target l.pc) (map (λ p. p.1) (lookup_pairs l.code l.table))
