use Rattle.std.proofs.Common.{subst}
use Rattle.std.proofs.lemmas.Option.{IfSome_then}
use Rattle.et_heap.specs.Objects.{IsNextHeld}
use Rattle.et_heap.proofs.States.{there, next-shown}
use Rattle.et_heap.proofs.heap.Heap.next_held.Goals as goal

pub returns-clause-some : goal.returns-clause-some
returns-clause-some c = IfSome_then c.next_held.result c.next_held.ensures.some (λ o next. subst (λ h. IsNextHeld h c.args.from o) c.self.view_is (next-shown c.self.inside.store c.args.from o next))

pub returns-clause-none : goal.returns-clause-none
returns-clause-none c = λ e u le held. c.next_held.ensures.none e u le (there _ _ u c.self.view_is held)
