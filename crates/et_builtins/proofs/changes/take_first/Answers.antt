use Rattle.std.proofs.Common.{◌≡◌, ◌∙◌, ap}
use Rattle.et_base.specs.declared.value.Value.{Value}
use Rattle.et_heap.specs.Objects.{Objects, object_at}
use Rattle.et_heap.specs.Queues.{first_value, polled}
use Rattle.et_heap.specs.Refs.{refs_of_value}
use Rattle.et_state.specs.State.{MachineState}
use Rattle.et_state.specs.Words.{losing}
use Rattle.et_builtins.proofs.changes.take_first.Goals as goal

pub returns-clause-new : goal.returns-clause-new
returns-clause-new g c =
    let m = c.args.machine.now in
    let q = c.args.queue in
    let whole : c.machine.inside.heap ≡ m.heap = ap (λ (x : MachineState). x.heap) c.machine.view_is in
    let heap : c.poll-first.new.self ≡ polled q m.heap = c.poll-first.ensures.new ∙ ap (polled q) whole in
    let first : c.poll-first.result ≡ first_value (object_at m.heap q).waiting = c.poll-first.ensures.value ∙ ap (λ (h : Objects). first_value (object_at h q).waiting) whole in
    c.lose_value.ensures
    ∙ (ap (λ (x : MachineState). losing (record x { heap = c.poll-first.new.self }) (refs_of_value c.poll-first.result)) c.machine.view_is
    ∙ (ap (λ (h : Objects). losing (record m { heap = h }) (refs_of_value c.poll-first.result)) heap ∙ ap (λ (v : Value). losing (record m { heap = polled q m.heap }) (refs_of_value v)) first))
