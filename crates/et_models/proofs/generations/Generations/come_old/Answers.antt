use Rattle.std.proofs.Common.{◌≡◌, ◌∙◌, sym, subst, ap, arith}
use Rattle.et_replay.specs.declared.item.Item.TheVariants.{Alloc}
use Rattle.et_models.specs.Generations.{Both, both_of, StepsBoth, swept, placed_old, left_out}
use Rattle.et_models.proofs.Stepping.{IsLow, stable_low, swept_low, old_at_once, old_after, old_not}
use Rattle.et_models.proofs.generations.Generations.come_old.Goals as goal

pub overflow_add-self : goal.overflow_add-self
overflow_add-self c = let s = c.requires.ready in let l = stable_low (both_of c.args.self.now) s.0 s.1 s.2 in let a = l.all in let b = c.requires.small in let e = c.from-bytes.ensures in omega (arith, a, b, e)

pub place_old-requires : goal.place_old-requires
place_old-requires c = let s = c.requires.ready in let l = stable_low (both_of c.args.self.now) s.0 s.1 s.2 in let a = l.all in let b = c.requires.small in record { bytes = omega (arith, a, b) }

pub returns-then-self-bytes : goal.returns-then-self-bytes
returns-then-self-bytes c =
    let t = c.if-self-bytes.true in let e = c.from-bytes.ensures in
    subst (λ (u : Both). StepsBoth (Alloc c.args.event c.args.object c.args.size) (both_of c.args.self.now) u) (sym c.in_ok-place_old.ensures)
    (old_at_once (both_of c.args.self.now) c.args.event c.args.object c.args.size c.requires.large (omega (arith, t, e)))

pub sweep-requires-clause-bytes : goal.sweep-requires-clause-bytes
sweep-requires-clause-bytes c = let s = c.requires.ready in let l = stable_low (both_of c.args.self.now) s.0 s.1 s.2 in let a = l.old in omega (arith, a)

pub sweep-requires-clause-major : goal.sweep-requires-clause-major
sweep-requires-clause-major c = let s = c.requires.ready in let l = stable_low (both_of c.args.self.now) s.0 s.1 s.2 in let a = l.major in omega (arith, a)

pub sweep-requires-clause-freed : goal.sweep-requires-clause-freed
sweep-requires-clause-freed c = let s = c.requires.ready in let l = stable_low (both_of c.args.self.now) s.0 s.1 s.2 in let a = l.all in omega (arith, a)

pub overflow_add-self-2 : goal.overflow_add-self-2
overflow_add-self-2 c =
    let s = c.requires.ready in
    let l = subst (λ (u : Both). IsLow u) (sym c.sweep.ensures) (swept_low (both_of c.args.self.now) s.0 s.1 s.2) in
    let a = l.all in let b = c.requires.small in let e = c.from-bytes.ensures in omega (arith, a, b, e)

pub returns-then-self-bytes-2 : goal.returns-then-self-bytes-2
returns-then-self-bytes-2 c =
    let v = both_of c.args.self.now in
    let t = c.if-self-bytes.false in let e = c.from-bytes.ensures in let f = c.if-self-bytes-2.true in
    let w = c.sweep.ensures in
    let x : c.sweep.new.self.space_bytes ≡ (swept v).old_bytes = ap (λ (u : Both). u.old_bytes) w in
    let y : c.sweep.new.self.second ≡ v.second = ap (λ (u : Both). u.second) w in
    subst (λ (u : Both). StepsBoth (Alloc c.args.event c.args.object c.args.size) v u) (sym (c.leave_out.ensures ∙ ap (λ (u : Both). left_out c.args.event c.args.object c.args.size u) w))
    (old_not v c.args.event c.args.object c.args.size c.requires.large (omega (arith, t, e)) (omega (arith, f, e, x, y)))

pub place_old-requires-2 : goal.place_old-requires-2
place_old-requires-2 c =
    let s = c.requires.ready in
    let l = subst (λ (u : Both). IsLow u) (sym c.sweep.ensures) (swept_low (both_of c.args.self.now) s.0 s.1 s.2) in
    let a = l.all in let b = c.requires.small in record { bytes = omega (arith, a, b) }

pub returns : goal.returns
returns c =
    let v = both_of c.args.self.now in
    let t = c.if-self-bytes.false in let e = c.from-bytes.ensures in let f = c.if-self-bytes-2.false in
    let w = c.sweep.ensures in
    let x : c.sweep.new.self.space_bytes ≡ (swept v).old_bytes = ap (λ (u : Both). u.old_bytes) w in
    let y : c.sweep.new.self.second ≡ v.second = ap (λ (u : Both). u.second) w in
    subst (λ (u : Both). StepsBoth (Alloc c.args.event c.args.object c.args.size) v u) (sym (c.in_ok-place_old-2.ensures ∙ ap (λ (u : Both). placed_old c.args.object c.args.size u) w))
    (old_after v c.args.event c.args.object c.args.size c.requires.large (omega (arith, t, e)) (omega (arith, f, e, x, y)))
