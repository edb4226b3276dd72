use Rattle.std.proofs.Common.{arith, ◌∙◌}
use Rattle.et_models.proofs.Totals.{kept_le}
use Rattle.et_models.proofs.generations.Generations.sweep.Goals as goal

pub bytes_of-kept-requires : goal.bytes_of-kept-requires
bytes_of-kept-requires c =
    let s = c.args.self.now in
    let le = kept_le s.sizes.items c.deref-4.result.now s.dead.items c.deref-3.result.now s.space.items c.deref-5.result.now c.deref-4.ensures.value c.deref-3.ensures.value (c.deref-5.ensures.value ∙ c.keep_unflagged.ensures.items) in
    let b = c.requires.bytes in
    let f = c.requires.freed in
    omega (arith, le, b, f)

pub overflow_sub-self : goal.overflow_sub-self
overflow_sub-self c =
    let s = c.args.self.now in
    let le = kept_le s.sizes.items c.deref-4.result.now s.dead.items c.deref-3.result.now s.space.items c.deref-5.result.now c.deref-4.ensures.value c.deref-3.ensures.value (c.deref-5.ensures.value ∙ c.keep_unflagged.ensures.items) in
    let b = c.requires.bytes in
    omega (arith, le, b)
