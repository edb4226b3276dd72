use Rattle.std.proofs.Common.{[], ◌∷◌, arith}
use Rattle.et_models.proofs.Boxes.{one_zip}
use Rattle.et_part_tests.proofs.models.replay_alone.Goals as goal

pub replay-requires : goal.replay-requires
replay-requires g c =
    let count = c.objects.ensures.count in
    (c.args.policy ∷ [], one_zip _ _ _ _ c.args.policy c.new-models.ensures.items c.in_ok-push.ensures.items (c.objects.result, omega (arith, count), c.in_ok-set_policy.ensures.0))
