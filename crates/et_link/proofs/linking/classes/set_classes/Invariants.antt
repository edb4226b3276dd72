use Rattle.std.proofs.Common.{◌≡◌, ◌∷◌, [], take}
use Rattle.et_program.specs.MembersOf.{numbered}
use Rattle.et_program.specs.Classes.{set_class}
use Rattle.et_link.specs.Known.{heads_in}
use Rattle.et_link.proofs.linking.classes.set_classes.Given as goal

abbrev pub invariant-loop-k : goal.invariant-loop-k
invariant-loop-k l = l.list.items ≡ numbered (λ k c. set_class (heads_in l.known) k c ∷ []) 0 (take l.k l.set)
