use Rattle.std.proofs.Common.{subst}
use Rattle.et_pool.specs.Entries.{Constants, view_slots}
use Rattle.et_pool.specs.Looks.{HasShortText, slot_at}
use Rattle.et_pool.proofs.Shorts.{slot_short}
use Rattle.et_pool.proofs.look.Pool.entry.Goals as goal

pub returns-then-i-len-clause-short : goal.returns-then-i-len-clause-short
returns-then-i-len-clause-short c =
    subst (λ (v : Constants). HasShortText (slot_at v.slots c.args.i)) c.self.view_is (slot_short (view_slots c.self.inside.slots.items) c.args.i c.self.invariant.1)

pub returns-else-i-len-clause-short : goal.returns-else-i-len-clause-short
returns-else-i-len-clause-short c =
    subst (λ (v : Constants). HasShortText (slot_at v.slots c.args.i)) c.self.view_is (slot_short (view_slots c.self.inside.slots.items) c.args.i c.self.invariant.1)
