use Rattle.std.proofs.Common.{◌≡◌, ◌+◌, ◌-◌, ◌*◌, pos, ◌+ℤ◌, map}
use Rattle.std.specs.List.{list_all}
use Rattle.et_code.specs.Switches.{switch_pairs_from, lookup_pairs}
use Rattle.et_code.specs.Rules.{flag, passes_test}
use Rattle.et_code.proofs.rules.pairs_have_targets.Given as goal

abbrev pub invariant-loop-pair : goal.invariant-loop-pair
invariant-loop-pair l =
    list_all (λ offset. passes_test (flag l.flags) (pos l.pc +ℤ offset)) (map (λ p. p.1) (switch_pairs_from l.code (l.pair-end - l.pair) (l.table + 8 + l.pair * 8)))
    ≡ list_all (λ offset. passes_test (flag l.flags) (pos l.pc +ℤ offset)) (map (λ p. p.1) (lookup_pairs l.code l.table))
