use Rattle.std.proofs.Common.{◌≡◌, ℕ, List, length, ap, subst, ◌∙◌, arith}
use Rattle.et_flow.specs.Types.{TypesOf}
use Rattle.et_flow.specs.Slots.{shown, AreApart}
use Rattle.et_flow.proofs.Slots.{more_shown}
use Rattle.et_flow.proofs.states.make_room.Goals as goal

pub returns-in_ok-push-clause-kept : goal.returns-in_ok-push-clause-kept
returns-in_ok-push-clause-kept c = λ slots apart.
    let found : List TypesOf = c.args.found.now.items in
    let all : c.args.used ≡ length found = omega (arith, c.if-used-len.true, c.len.ensures, c.args.found.now.ok.0) in
    ap (λ (xs : List TypesOf). shown xs slots) c.in_ok-push.ensures.items
    ∙ more_shown found slots c.new.result (subst (λ (n : ℕ). AreApart slots n) all apart)
