use Rattle.std.proofs.Common.{◌<◌, length, refl, ap, subst, sym, ◌∙◌}
use Rattle.et_heap.specs.Objects.{with_slot, slot_of}
use Rattle.et_heap.proofs.States.{there, shows, shown_written}
use Rattle.et_heap.proofs.Changes.{written_seen}
use Rattle.et_heap.proofs.heap.Heap.set_slot.Goals as goal

pub set_slot-requires : goal.set_slot-requires
set_slot-requires g c = record {
  held = there _ _ _ c.self.view_is c.requires.held;
  slot = subst (λ x. c.args.i < length x.slots) (sym (shows _ _ c.args.o c.self.view_is)) c.requires.slot;
}

pub returns-clause-old : goal.returns-clause-old
returns-clause-old g c = c.set_slot.ensures.old ∙ ap (λ x. slot_of x c.args.i) (shows _ _ c.args.o c.self.view_is)

pub returns-clause-new : goal.returns-clause-new
returns-clause-new g c = shown_written (with_slot c.args.i c.args.v) _ _ _ c.args.o c.self.view_is c.set_slot.ensures.new

pub invariant_of-self : goal.invariant_of-self
invariant_of-self g c = written_seen (with_slot c.args.i c.args.v) _ _ _ c.args.o c.self.view_is c.requires.held c.set_slot.ensures.new (λ x. refl) (λ x. refl) c.self.invariant
