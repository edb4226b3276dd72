use Rattle.std.proofs.Common.{◌≡◌, ◌+◌, ◌-◌, ◌*◌, map}
use Rattle.std.specs.Int.{w32, cast_signed}
use Rattle.et_code.specs.Decoding.{bits_at}
use Rattle.et_code.specs.Switches.{switch_pairs_from, lookup_pairs}
use Rattle.et_code.specs.Rules.{rises}
use Rattle.et_code.proofs.rules.keys_rise.Given as goal

abbrev pub invariant-loop-pair : goal.invariant-loop-pair
invariant-loop-pair l =
    rises (map (λ p. cast_signed w32 p.0) (switch_pairs_from l.code (bits_at l.code (l.table + 4) - l.pair) (l.table + 8 + l.pair * 8)))
    ≡ rises (map (λ p. cast_signed w32 p.0) (lookup_pairs l.code l.table))
