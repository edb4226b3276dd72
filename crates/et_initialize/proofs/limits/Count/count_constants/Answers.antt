use Rattle.std.proofs.Common.{◌≡◌, ◌≤◌, ℕ, List, length, take, ap, subst, ◌∙◌, arith}
use Rattle.std.specs.Prelude.{fold}
use Rattle.std.proofs.lemmas.List.{take_all}
use Rattle.et_program.specs.Entries.{ClassInfoOf, class_at}
use Rattle.et_event.specs.Initialization.{field_set}
use Rattle.et_initialize.specs.Texts.{Counted}
use Rattle.et_initialize.proofs.limits.Count.count_constants.Goals as goal

pub returns-clause-counted : goal.returns-clause-counted
returns-clause-counted c =
    let list = c.as_slice-constants.result.now in
    let all : length list ≤ c.loop-k.k = omega (arith, c.loop-k-test.false) in
    let is : take c.loop-k.k list ≡ (class_at c.args.self.now.program.now c.args.class).info.constants = take_all c.loop-k.k list all ∙ (c.as_slice-constants.ensures.value ∙ ap (λ (i : ClassInfoOf). i.constants) c.class.ensures.value) in
    λ before thread d h. subst (λ (fs : List ℕ). Counted c.args.self.now.program.now c.args.self.now.machine.now c.loop-k.seen.items (fold (field_set (record { program = c.args.self.now.program.now; before = before; thread = thread })) d fs)) is (c.loop-k.invariant.counted before thread d h)
