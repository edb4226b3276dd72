use Rattle.std.proofs.Common.{◌≡◌, ◌+◌, ◌<◌, length, sym, ap, ◌∙◌, arith, below_more, true}
use Rattle.std.specs.Prelude.{option_map}
use Rattle.std.proofs.lemmas.List.{length-map}
use Rattle.et_pool.specs.Entries.{Constants, view, view_slots}
use Rattle.et_pool.specs.Looks.{slot_at, slot_bytes, is_fit_slot}
use Rattle.et_pool.proofs.Places.{place_more, place_le}
use Rattle.et_pool.proofs.look.Pool.check.Goals as goal

pub overflow_add-place-in-slots : goal.overflow_add-place-in-slots
overflow_add-place-in-slots c =
    let lt : c.slots.i < length (view_slots c.self.inside.slots.items) = omega (arith, length-map c.self.inside.slots.items (λ s. option_map view s)) in
    let same : length (slot_bytes (slot_at c.args.self.now.slots c.slots.i)) ≡ length (slot_bytes (slot_at (view_slots c.self.inside.slots.items) c.slots.i)) = ap (λ (v : Constants). length (slot_bytes (slot_at v.slots c.slots.i))) (sym c.self.view_is) in
    omega (arith, same, place_more c.self.inside.at (view_slots c.self.inside.slots.items) c.slots.i lt, place_le c.self.inside.at (view_slots c.self.inside.slots.items) (c.slots.i + 1), c.slots.invariant.place, c.slot_size-place.ensures)

pub slots-preserved : goal.slots-preserved
slots-preserved c =
    let lt : c.slots.i < length (view_slots c.self.inside.slots.items) = omega (arith, length-map c.self.inside.slots.items (λ s. option_map view s)) in
    let same : length (slot_bytes (slot_at c.args.self.now.slots c.slots.i)) ≡ length (slot_bytes (slot_at (view_slots c.self.inside.slots.items) c.slots.i)) = ap (λ (v : Constants). length (slot_bytes (slot_at v.slots c.slots.i))) (sym c.self.view_is) in
    let fits : is_fit_slot (view_slots c.self.inside.slots.items) (slot_at (view_slots c.self.inside.slots.items) c.slots.i) ≡ true = ap (λ (v : Constants). is_fit_slot v.slots (slot_at v.slots c.slots.i)) c.self.view_is ∙ (sym c.slot_fits.ensures ∙ c.if-not-slot_fits.false) in
    record {
      within = omega arith;
      fit = below_more _ _ c.slots.invariant.fit fits;
      place = omega (arith, same, place_more c.self.inside.at (view_slots c.self.inside.slots.items) c.slots.i lt, c.slots.invariant.place, c.slot_size-place.ensures);
    }
