use Rattle.std.proofs.Common.{◌≤◌, refl, arith}
use Rattle.std.specs.List.{sum_by}
use Rattle.et_models.specs.Places.{place_at, is_kept}
use Rattle.et_models.specs.Tables.{size_at}
use Rattle.et_models.proofs.Promoting.{kept_le}
use Rattle.et_models.proofs.generations.Generations.promote.Goals as goal

kept_bytes : (c : goal.After-deref-7) → sum_by (size_at c.args.self.now.sizes.items) c.deref-7.result.now ≤ sum_by (size_at c.args.self.now.sizes.items) c.args.self.now.nursery.items
kept_bytes c =
    let s = c.args.self.now in
    kept_le s.sizes.items s.sizes.items s.nursery.items c.deref-4.result.now c.new-kept.result.items c.push_kept.new.kept.items c.deref-7.result.now (λ o. is_kept (place_at c.deref-5.result.now o)) refl c.deref-4.ensures.value c.new-kept.ensures.items c.in_ok-push_kept.ensures c.deref-7.ensures.value

pub move_kept-requires-clause-bytes : goal.move_kept-requires-clause-bytes
move_kept-requires-clause-bytes c = let le = kept_bytes c in let b = c.requires.bytes in omega (arith, le, b)

pub move_kept-requires-clause-kept : goal.move_kept-requires-clause-kept
move_kept-requires-clause-kept c = let le = kept_bytes c in let k = c.requires.kept in omega (arith, le, k)
