use Rattle.std.proofs.Common.{None, ap, subst, sym, ◌∙◌}
use Rattle.et_heap.specs.Objects.{without_object_at}
use Rattle.et_heap.specs.Stored.{states_of}
use Rattle.et_heap.specs.Links.{AreLinked}
use Rattle.et_heap.proofs.States.{there, set-shown}
use Rattle.et_heap.proofs.Changes.{without-linked}
use Rattle.et_heap.proofs.heap.Heap.take_out.Goals as goal

pub take_out-requires : goal.take_out-requires
take_out-requires c = there _ _ _ c.self.view_is c.requires

pub invariant_of-self : goal.invariant_of-self
invariant_of-self c = subst AreLinked (sym c.take_out.ensures) (without-linked c.self.inside.store c.args.o (there _ _ _ c.self.view_is c.requires) c.self.invariant)

pub returns : goal.returns
returns c = ap states_of c.take_out.ensures ∙ (set-shown c.self.inside.store c.args.o None ∙ ap (λ h. without_object_at h c.args.o) c.self.view_is)
