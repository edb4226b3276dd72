use Rattle.std.proofs.Common.{◌≡◌, true, Contains, sym, subst}
use Rattle.et_heap.specs.Objects.{ObjectState}
use Rattle.et_heap.proofs.States.{there, shows}
use Rattle.et_heap.proofs.heap.Heap.who_waits_is_marked.Goals as goal

pub returns : goal.returns
returns c = λ q r waits held.
    subst (λ (x : ObjectState). x.waits ≡ true) (shows _ _ r c.self.view_is)
    (c.self.invariant.marked q r (subst (λ (x : ObjectState). Contains x.waiting r) (sym (shows _ _ q c.self.view_is)) waits) (there _ _ _ c.self.view_is held))
