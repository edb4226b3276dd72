use Rattle.std.proofs.Common.{◌≡◌, ◌∷◌, ◌++◌, [], length, take}
use Rattle.et_program.specs.MembersOf.{numbered}
use Rattle.et_program.specs.Classes.{set_class, array_class}
use Rattle.et_link.specs.Known.{heads_in}
use Rattle.et_link.proofs.linking.classes.all_classes.Given as goal

abbrev pub invariant-loop-i : goal.invariant-loop-i
invariant-loop-i l = l.list.items ≡ numbered (λ k c. set_class (heads_in l.known) k c ∷ []) 0 l.set ++ numbered (λ k name. array_class (heads_in l.known) k name ∷ []) (length l.set) (take l.i l.known.arrays.names.items)
