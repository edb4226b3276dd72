use Rattle.std.proofs.Common.{rules, ◌≡◌, ℕ, [], ◌∷◌, ◌++◌, ◌∙◌, ap}
use Rattle.et_base.specs.declared.value.Value.{Value}
use Rattle.et_heap.specs.Objects.{object_at, slot_of}
use Rattle.et_state.specs.declared.records.Record.TheVariants.{Update}
use Rattle.et_event.specs.Moments.{number_of_value}
use Rattle.et_event.proofs.Updating.{tells_reference}
use Rattle.et_refs.proofs.arrays.filling.ascend.Goals as goal

pub returns-clause-written : goal.returns-clause-written
returns-clause-written g c =
    let o : ℕ = c.args.around.array in
    let i : ℕ = c.args.around.next in
    let clock : c.clock-event.result ≡ c.args.machine.now.guest.clock = search rules in
    let old : c.set_slot-old.result ≡ slot_of (object_at c.args.machine.now.heap c.args.around.array) c.args.around.next = search rules in
    λ p b. (
      search rules,
      tells_reference c.clock-event.result c.args.thread o i c.args.array c.set_slot-old.result c.args.out.now c.tell_update.new.out c.in_ok-tell_update.ensures.ok
          ∙ (ap (λ (n : ℕ). c.args.out.now ++ Update n c.args.thread o i (number_of_value c.set_slot-old.result) c.args.array ∷ []) clock
          ∙ ap (λ (v : Value). c.args.out.now ++ Update c.args.machine.now.guest.clock c.args.thread o i (number_of_value v) c.args.array ∷ []) old),
    )
