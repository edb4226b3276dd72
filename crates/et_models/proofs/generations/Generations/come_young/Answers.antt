use Rattle.std.proofs.Common.{sym, subst, arith}
use Rattle.et_replay.specs.declared.item.Item.TheVariants.{Alloc}
use Rattle.et_models.specs.Generations.{Both, both_of, StepsBoth}
use Rattle.et_models.proofs.Stepping.{stable_low, collects_low, young_at_once, young_after, young_not}
use Rattle.et_models.proofs.generations.Generations.come_young.Goals as goal

pub overflow_add-self : goal.overflow_add-self
overflow_add-self c = let s = c.requires.ready in let l = stable_low (both_of c.args.self.now) s.0 s.1 s.2 in let a = l.all in let b = c.requires.small in let e = c.from.ensures in omega (arith, a, b, e)

pub place_young-requires : goal.place_young-requires
place_young-requires c = let s = c.requires.ready in let l = stable_low (both_of c.args.self.now) s.0 s.1 s.2 in let a = l.all in let b = c.requires.small in record { bytes = omega (arith, a, b) }

pub returns-then-self-from : goal.returns-then-self-from
returns-then-self-from c =
    let t = c.if-self-from.true in let e = c.from.ensures in
    subst (λ (u : Both). StepsBoth (Alloc c.args.event c.args.object c.args.size) (both_of c.args.self.now) u) (sym c.in_ok-place_young.ensures)
    (young_at_once (both_of c.args.self.now) c.args.event c.args.object c.args.size c.requires.fits (omega (arith, t, e)))

pub returns-then-self : goal.returns-then-self
returns-then-self c =
    let t = c.if-self-from.false in let e = c.from.ensures in
    subst (λ (u : Both). StepsBoth (Alloc c.args.event c.args.object c.args.size) (both_of c.args.self.now) u) (sym c.leave_out.ensures)
    (young_not (both_of c.args.self.now) (both_of c.collect.new.self) c.args.event c.args.object c.args.size c.requires.fits (omega (arith, t, e)) c.in_ok-collect.ensures c.if-self.true)

pub place_young-requires-2 : goal.place_young-requires-2
place_young-requires-2 c = let s = c.requires.ready in let l = collects_low (both_of c.args.self.now) (both_of c.collect.new.self) s.0 s.1 s.2 c.in_ok-collect.ensures in let a = l.all in let b = c.requires.small in record { bytes = omega (arith, a, b) }

pub returns : goal.returns
returns c =
    let t = c.if-self-from.false in let e = c.from.ensures in
    subst (λ (u : Both). StepsBoth (Alloc c.args.event c.args.object c.args.size) (both_of c.args.self.now) u) (sym c.in_ok-place_young-2.ensures)
    (young_after (both_of c.args.self.now) (both_of c.collect.new.self) c.args.event c.args.object c.args.size c.requires.fits (omega (arith, t, e)) c.in_ok-collect.ensures c.if-self.false)
