use Rattle.std.proofs.Common.{◌≡◌, ◌+◌, ◌-◌, ◌*◌, find, eqb}
use Rattle.et_code.specs.Switches.{switch_pairs_from}
use Rattle.et_code.proofs.switches.place_of_offset.Given as goal

abbrev pub invariant-loop-i : goal.invariant-loop-i
invariant-loop-i l = find (λ p. eqb p.0 l.key) (switch_pairs_from l.code (l.count - l.i) (l.table + 8 + l.i * 8)) ≡ find (λ p. eqb p.0 l.key) (switch_pairs_from l.code l.count (l.table + 8))
