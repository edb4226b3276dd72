use Rattle.std.proofs.Common.{◌<◌, length, ap, subst, sym, ◌∙◌}
use Rattle.et_heap.specs.Objects.{slot_of}
use Rattle.et_heap.specs.Stored.{as_stored}
use Rattle.et_heap.proofs.Places.{stands-some}
use Rattle.et_heap.proofs.States.{there, shows}
use Rattle.et_heap.proofs.heap.Heap.slot.Goals as goal

pub object-requires : goal.object-requires
object-requires g c = there _ _ _ c.self.view_is c.requires.held

pub slot-requires : goal.slot-requires
slot-requires g c =
    let same = ap (λ y. (as_stored y).state) c.object.ensures ∙ shows _ _ c.args.o c.self.view_is in
    record { held = stands-some _ _ c.object.ensures; slot = subst (λ x. c.args.i < length x.slots) (sym same) c.requires.slot }

pub returns-clause-value : goal.returns-clause-value
returns-clause-value g c = c.slot.ensures ∙ (ap (λ y. slot_of (as_stored y).state c.args.i) c.object.ensures ∙ ap (λ x. slot_of x c.args.i) (shows _ _ c.args.o c.self.view_is))
