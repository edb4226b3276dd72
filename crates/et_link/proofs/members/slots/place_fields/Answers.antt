use Rattle.std.proofs.Common.{◌≡◌, ◌++◌, ◌∷◌, [], ◌∙◌, ap, sym, ℕ, List, length, arith}
use Rattle.std.specs.List.{slice_index_or}
use Rattle.std.specs.Vec.Iter.{into_iter_items}
use Rattle.et_program.specs.declared.info.FieldInfo.{FieldInfo}
use Rattle.et_program.specs.Slots.{placed_behind}
use Rattle.et_link.proofs.Lists.{taken_more}
use Rattle.et_link.proofs.SlotLemmas.{placed_push}
use Rattle.et_link.proofs.members.slots.place_fields.Goals as goal

pub loop-field-preserved : goal.loop-field-preserved
loop-field-preserved c =
    let at = c.loop-field in
    let f : FieldInfo = c.in-Some.field in
    let base = λ (k : ℕ). slice_index_or c.args.above.now k 0 in
    let steps : into_iter_items at.field-iterator ≡ f ∷ into_iter_items c.next.new.self = c.in-Some.ensures.steps.0 in
    record {
      taken = taken_more at.yielded _ _ _ f at.invariant.taken steps;
      left = (let was = at.invariant.left in let gone = c.in-Some.ensures.steps.1 in let short = ap length steps in omega arith);
      size = c.take_slot.ensures.length ∙ at.invariant.size;
      counts = c.in_ok-slot.ensures.counts base at.yielded at.invariant.counts;
      put =
          c.in_ok-push.ensures.items
          ∙ (ap (λ (l : List FieldInfo). l ++ record f { slot = c.in_ok-slot.slot } ∷ []) at.invariant.put
          ∙ (ap (λ s. placed_behind base [] at.yielded ++ record f { slot = s } ∷ []) (c.in_ok-slot.ensures.slot base at.yielded at.invariant.counts)
          ∙ sym (placed_push base [] at.yielded f)));
    }
