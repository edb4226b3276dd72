use Rattle.std.proofs.Common.{◌≡◌, ℕ, Bool, List, take}
use Rattle.std.specs.List.{flat_map}
use Rattle.et_graph.specs.Graph.{Graph, Decides}
use Rattle.et_replay.specs.declared.item.Item.{Item}
use Rattle.et_replay.specs.Seats.{Sits, EachZip, Told, told_line}
use Rattle.et_replay.proofs.replaying.text_of.Given as goal

abbrev pub invariant-loop-seat : goal.invariant-loop-seat
invariant-loop-seat g l =
    (reached : Graph → ℕ → Bool) → Decides reached → (told : List Told) (past : List Item)
    → EachZip (λ seat (p : Told). Sits (λ b. (goal.HeapModel-dyn g (b.vtable, b.value)).stands_for b.value) seat.model seat.report p.0 p.1 past) l.seats told
    → l.text.items ≡ flat_map (told_line reached past) (take l.seat-index told)
