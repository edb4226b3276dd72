use Rattle.std.proofs.Common.{◌≡◌, ◌+◌, ◌==◌, drop}
use Rattle.et_program.specs.Slots.{places_from}
use Rattle.et_program.specs.LinkFaults.{last_or}
use Rattle.et_link.proofs.members.crossing.package_end.Given as goal

abbrev pub invariant-loop-i : goal.invariant-loop-i
invariant-loop-i l = last_or l.end (places_from (λ b. b == 47) (l.i + 1) (drop l.i l.name)) ≡ last_or 0 (places_from (λ b. b == 47) 1 l.name)
