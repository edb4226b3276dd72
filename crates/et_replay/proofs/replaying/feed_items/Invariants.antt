use Rattle.std.proofs.Common.{List, [], take, reverse}
use Rattle.et_replay.specs.Seats.{Sits, EachZip, Told}
use Rattle.et_replay.proofs.replaying.feed_items.Given as goal

abbrev pub invariant-loop-item : goal.invariant-loop-item
invariant-loop-item g l =
    (told : List Told)
    → EachZip (λ seat (p : Told). Sits (λ b. (goal.HeapModel-dyn g (b.vtable, b.value)).stands_for b.value) seat.model seat.report p.0 p.1 []) l.fn.seats told
    → EachZip (λ seat (p : Told). Sits (λ b. (goal.HeapModel-dyn g (b.vtable, b.value)).stands_for b.value) seat.model seat.report p.0 p.1 (reverse (take l.item-index l.items))) l.seats told
