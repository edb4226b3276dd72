use Rattle.std.proofs.Common.{◌≡◌, ℕ, [], ◌∷◌, length, get_or, sym, ◌∙◌, ap, arith}
use Rattle.std.proofs.lemmas.List.{get_or_default, length-append}
use Rattle.et_flush.proofs.Listings.{times_more}
use Rattle.et_flush.proofs.times.write_times.Goals as goal

pub bounds-stamps-number : goal.bounds-stamps-number
bounds-stamps-number c = omega (arith, c.requires.stamped c.object-item.result (c.loop-object.object-index, c.loop-object-test.true, sym c.object-item.is), c.number.ensures.value)

pub loop-object-init : goal.loop-object-init
loop-object-init c = record {
  long = ap length c.clear.ensures.items;
  times = λ k lt. absurd (omega arith);
  room = omega (arith, c.clear.ensures.capacity);
}

pub loop-object-preserved : goal.loop-object-preserved
loop-object-preserved c =
    let o : ℕ = c.object-item.result in
    let i : ℕ = c.loop-object.object-index in
    let number : o ≡ get_or c.args.held.now i 0 = c.object-item.is ∙ get_or_default c.args.held.now i o 0 c.loop-object-test.true in
    let v : ℕ = get_or c.args.stamps.now c.number.result 0 in
    record {
      long = omega (arith, ap length c.push.ensures.items, length-append c.loop-object.times.items (v ∷ []), c.loop-object.invariant.long);
      times = times_more c.args.held.now c.args.stamps.now c.loop-object.times.items c.push.new.v.items i o v c.loop-object-test.true number (ap (λ (k : ℕ). get_or c.args.stamps.now k 0) c.number.ensures.value) c.push.ensures.items c.loop-object.invariant.long c.loop-object.invariant.times;
      room = omega (arith, c.push.ensures.grows, c.loop-object.invariant.room);
    }
