use Rattle.std.proofs.Common.{subst}
use Rattle.et_heap.specs.Objects.{IsHeld}
use Rattle.et_heap.proofs.States.{there, held-stored}
use Rattle.et_heap.proofs.heap.Heap.is_held.Goals as goal

pub returns : goal.returns
returns c = (
  λ t. subst (λ h. IsHeld h c.args.o) c.self.view_is (held-stored c.self.inside.store c.args.o (c.is_held.ensures.0 t)),
  λ held. c.is_held.ensures.1 (there _ _ _ c.self.view_is held),
)
