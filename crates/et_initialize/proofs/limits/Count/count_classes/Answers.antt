use Rattle.std.proofs.Common.{◌≡◌, ◌≤◌, ℕ, List, length, take, subst, arith}
use Rattle.std.specs.Prelude.{fold}
use Rattle.std.proofs.lemmas.List.{take_all}
use Rattle.et_initialize.specs.Texts.{CountedAll}
use Rattle.et_initialize.proofs.Setting.{done_step}
use Rattle.et_initialize.proofs.limits.Count.count_classes.Goals as goal

pub returns-clause-counted : goal.returns-clause-counted
returns-clause-counted c =
    let list = c.args.classes.now in
    let all : length list ≤ c.loop-k.k = omega (arith, c.loop-k-test.false) in
    let is : take c.loop-k.k list ≡ list = take_all c.loop-k.k list all in
    λ before thread d h. subst (λ (ks : List ℕ). CountedAll c.args.self.now.program.now c.args.self.now.machine.now c.loop-k.seen.items (fold (done_step (record { program = c.args.self.now.program.now; before = before; thread = thread })) d ks)) is (c.loop-k.invariant.counted before thread d h)
