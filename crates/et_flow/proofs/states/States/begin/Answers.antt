use Rattle.std.proofs.Common.{rules, ◌≡◌}
use Rattle.std.specs.Prelude.{replicate}
use Rattle.et_flow.proofs.Slots.{none_there}
use Rattle.et_flow.proofs.states.States.begin.Goals as goal

pub returns-clause-none : goal.returns-clause-none
returns-clause-none c =
    let empty : c.resize.new.self.items ≡ replicate c.args.count 0 = search rules in
    none_there c.args.count _ _ empty
