use Rattle.std.proofs.Common.{◌<◌, ◌^◌}
use Rattle.std.specs.Ordering.{nat_cmp}
use Rattle.std.proofs.lemmas.Map.Views.{All-insert_key}
use Rattle.et_io.proofs.calls.CallBook.fail_at.Goals as goal

pub invariant_of-self-2 : goal.invariant_of-self-2
invariant_of-self-2 c = record {
  made_fits = c.self.invariant.made_fits;
  below = rw c.in_ok-insert.ensures.keys (All-insert_key nat_cmp c.args.call (λ n. n < 2 ^ 63) c.self.inside.failing.keys c.self.invariant.below c.requires);
  no_more = c.self.invariant.no_more;
}
