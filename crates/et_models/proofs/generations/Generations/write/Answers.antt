use Rattle.std.proofs.Common.{◌≡◌, ◌∙◌, ℕ, List, Option, None, true, length, get_or, sym, subst, ap, arith}
use Rattle.std.specs.Prelude.{is_some}
use Rattle.std.specs.BTreeMap.{BTreeMap}
use Rattle.std.specs.Vec.{with_items}
use Rattle.std.proofs.lemmas.List.{with_items_is}
use Rattle.et_replay.specs.declared.item.Item.TheVariants.{Write}
use Rattle.et_models.specs.Generations.{Both, both_of, reference_noted, WritesSlot, StepsBoth}
use Rattle.et_models.proofs.Noted.{noted_is}
use Rattle.et_models.proofs.Stepping.{some_within, wrote_steps}
use Rattle.et_models.proofs.generations.Generations.write.Goals as goal

pub write_slot-requires : goal.write_slot-requires
write_slot-requires c =
    let v = both_of c.args.self.now in
    let w = c.note.new.self in
    let is : is_some (get_or v.sizes c.args.object None) ≡ true = ap (λ (s : List (Option ℕ)). is_some (get_or s c.args.object None)) (sym c.deref.ensures.value) ∙ (sym c.is_sized.ensures ∙ c.if-not-is_sized.false) in
    let ready = c.requires.ready.2 in
    let within = some_within v.sizes c.args.object is in
    let sizes_long = ready.knows.sizes_long in
    let slots_long = ready.slots.long in
    let slots_stay : w.slots.items ≡ v.slots = ap (λ (u : Both). u.slots) (c.in_ok-note.ensures ∙ noted_is c.args.object c.args.new v) in
    let as_long : length c.deref_mut.result.now ≡ length v.slots = ap (λ (l : List (BTreeMap ℕ ℕ)). length l) (c.deref_mut.ensures.value ∙ slots_stay) in
    omega (arith, within, sizes_long, slots_long, as_long)

pub returns : goal.returns
returns c = λ event.
    (let v = both_of c.args.self.now in
    let w = c.note.new.self in
    let is : is_some (get_or v.sizes c.args.object None) ≡ true = ap (λ (s : List (Option ℕ)). is_some (get_or s c.args.object None)) (sym c.deref.ensures.value) ∙ (sym c.is_sized.ensures ∙ c.if-not-is_sized.false) in
    let after : both_of w ≡ reference_noted c.args.object c.args.new v = c.in_ok-note.ensures in
    let slots_stay : w.slots.items ≡ v.slots = ap (λ (u : Both). u.slots) (after ∙ noted_is c.args.object c.args.new v) in
    let same : (with_items w.slots c.write_slot.new.slots).items ≡ c.write_slot.new.slots = with_items_is w.slots c.write_slot.new.slots (c.write_slot.auto.slots ∙ c.deref_mut.ensures.len) in
    let wrote : WritesSlot v.slots c.write_slot.new.slots c.args.object c.args.slot c.args.new = subst (λ (s : List (BTreeMap ℕ ℕ)). WritesSlot s c.write_slot.new.slots c.args.object c.args.slot c.args.new) (c.deref_mut.ensures.value ∙ slots_stay) c.in_ok-write_slot.ensures in
    subst (λ (t : List (BTreeMap ℕ ℕ)). StepsBoth (Write event c.args.object c.args.slot c.args.new) v (record (both_of w) { slots = t })) (sym same)
    (subst (λ (u : Both). StepsBoth (Write event c.args.object c.args.slot c.args.new) v (record u { slots = c.write_slot.new.slots })) (sym after)
    (wrote_steps v event c.args.object c.args.slot c.args.new c.write_slot.new.slots is wrote)))
