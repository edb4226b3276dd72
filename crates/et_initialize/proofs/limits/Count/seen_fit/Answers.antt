use Rattle.std.proofs.Common.{ℕ, length, ap, ◌∙◌}
use Rattle.et_initialize.specs.Texts.{has_room_for}
use Rattle.et_initialize.proofs.Counting.{counted_room}
use Rattle.et_initialize.proofs.limits.Count.seen_fit.Goals as goal

pub returns : goal.returns
returns c = λ d counted.
    let m = c.args.self.now.machine.now in
    let seen = c.args.seen.now in
    c.has_room_for.ensures.value
    ∙ (ap (λ (n : ℕ). has_room_for m.heap (length seen) n c.args.objects c.args.slots) c.string_slots.ensures
    ∙ counted_room c.args.self.now.program.now m seen d c.args.objects c.args.slots c.has_room_for.ensures.some counted)
