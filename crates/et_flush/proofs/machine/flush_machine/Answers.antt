use Rattle.std.proofs.Common.{◌≡◌, ℕ, ◌+◌, ◌*◌, ◌≤◌, length, Contains, sym, ◌∙◌, ap, subst, arith}
use Rattle.et_graph.proofs.Walks.{is_reached}
use Rattle.et_heap.specs.Objects.{Objects, IsHeld, held_count}
use Rattle.et_heap.specs.Refs.{pairs_of}
use Rattle.et_heap.proofs.HeapLists.{held_within}
use Rattle.et_heap.specs.Remaining.{remaining}
use Rattle.et_state.specs.Enqueuing.{flushed_heap}
use Rattle.et_heap.specs.Cleared.{cleared_references}
use Rattle.et_state.specs.State.{MachineState, kept_of}
use Rattle.et_state.specs.Roots.{graph_of}
use Rattle.et_state.specs.Sound.{IsSound}
use Rattle.et_state.proofs.Enqueued.{sound_flushed, ties_kept}
use Rattle.et_graph.specs.Cleared.{IsClearedAndTied}
use Rattle.et_flush.proofs.Leaving.{cleared, told, tells_reached}
use Rattle.et_flush.proofs.machine.flush_machine.Given as given
use Rattle.et_flush.proofs.machine.flush_machine.Goals as goal

same_heap : (g : given.Over) (c : goal.After-flush g) → c.machine.inside.heap ≡ c.args.machine.now.heap
same_heap g c = ap (λ (m : MachineState). m.heap) c.machine.view_is

pub flush-requires-clause-slots : goal.flush-requires-clause-slots
flush-requires-clause-slots g c =
    subst (λ (h : Objects). (u o : ℕ) → Contains (pairs_of h) (u, o) → IsHeld h o) (sym (ap (λ (m : MachineState). m.heap) c.machine.view_is)) c.requires.sound.slots

pub flush-requires-clause-stamps : goal.flush-requires-clause-stamps
flush-requires-clause-stamps g c = λ o held. omega (arith, held_within c.args.machine.now.heap o (subst (λ (h : Objects). IsHeld h o) (ap (λ (m : MachineState). m.heap) c.machine.view_is) held), c.requires.stamps)

pub returns-clause-machine : goal.returns-clause-machine
returns-clause-machine g c here tells =
    ap (λ (m : MachineState). record m { heap = c.flush.new.heap }) c.machine.view_is
    ∙ ap (λ (h : Objects). record c.args.machine.now { heap = h })
    (c.flush.ensures.heap here (told c.args.machine.now c.machine.inside.heap c.roots.new.room here (same_heap g c) c.in_ok-roots.ensures tells) ∙ ap (λ (h : Objects). flushed_heap here h) (same_heap g c))

pub returns-clause-graph : goal.returns-clause-graph
returns-clause-graph g c =
    let m = c.args.machine.now in
    let here = is_reached (graph_of (kept_of m)) in
    subst (λ (x : MachineState). IsClearedAndTied (graph_of (kept_of m)) (graph_of (kept_of x))) (sym (returns-clause-machine g c here (tells_reached m)))
    (graph_of (record { heap = remaining here 0 m.heap; guest = m.guest }), cleared (kept_of m) here c.requires.sound (tells_reached m), ties_kept (kept_of m) here c.requires.sound (tells_reached m))

pub returns-clause-sound : goal.returns-clause-sound
returns-clause-sound g c =
    let m = c.args.machine.now in
    let here = is_reached (graph_of (kept_of m)) in
    subst (λ (x : MachineState). IsSound (kept_of x)) (sym (returns-clause-machine g c here (tells_reached m))) (sound_flushed (kept_of m) here c.requires.sound (tells_reached m))

pub returns-clause-visits : goal.returns-clause-visits
returns-clause-visits g c here tells =
    subst (λ (h : Objects). c.flush.new.visits ≤ c.args.visits.now + 2 * held_count h + 2 * length (cleared_references here 0 h)) (same_heap g c)
    (c.flush.ensures.visits here (told c.args.machine.now c.machine.inside.heap c.roots.new.room here (same_heap g c) c.in_ok-roots.ensures tells))
