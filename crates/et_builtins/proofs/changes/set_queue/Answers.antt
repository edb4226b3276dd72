use Rattle.std.proofs.Common.{◌≡◌, ◌∙◌, ap}
use Rattle.et_base.specs.declared.value.Value.{Value}
use Rattle.et_heap.specs.Objects.{Objects, object_at, with_object_at, with_queue, referent_of, referent_value}
use Rattle.et_heap.specs.Refs.{refs_of_value}
use Rattle.et_state.specs.State.{MachineState}
use Rattle.et_state.specs.Words.{losing}
use Rattle.et_builtins.proofs.changes.set_queue.Goals as goal

pub returns-clause-new : goal.returns-clause-new
returns-clause-new g c =
    let m = c.args.machine.now in
    let o = c.args.object in
    let set : Objects → Objects = λ (h : Objects). with_object_at h o (with_queue (referent_of c.args.value) (object_at h o)) in
    let whole : c.machine.inside.heap ≡ m.heap = ap (λ (x : MachineState). x.heap) c.machine.view_is in
    let heap : c.set_queue-before.new.self ≡ set m.heap = c.set_queue-before.ensures.new ∙ ap set whole in
    let before : c.set_queue-before.result ≡ referent_value (object_at m.heap o).queue = c.set_queue-before.ensures.old ∙ ap (λ (h : Objects). referent_value (object_at h o).queue) whole in
    c.lose_value.ensures
    ∙ (ap (λ (x : MachineState). losing (record x { heap = c.set_queue-before.new.self }) (refs_of_value c.set_queue-before.result)) c.machine.view_is
    ∙ (ap (λ (h : Objects). losing (record m { heap = h }) (refs_of_value c.set_queue-before.result)) heap ∙ ap (λ (v : Value). losing (record m { heap = set m.heap }) (refs_of_value v)) before))
