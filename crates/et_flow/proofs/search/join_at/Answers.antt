use Rattle.std.proofs.Common.{ℕ, List, sym, subst}
use Rattle.et_flow.specs.Searching.{HasJoined}
use Rattle.et_flow.proofs.search.join_at.Goals as goal

pub returns-in_ok-push-in-Changed-clause-joined : goal.returns-in_ok-push-in-Changed-clause-joined
returns-in_ok-push-in-Changed-clause-joined c = λ e locals le.
    subst (λ (w : List ℕ). HasJoined locals c.args.states.now c.args.work.now.items c.args.place c.args.types.now c.join.new.self w) (sym c.in_ok-push-in-Changed.ensures.items)
    (c.in_ok-join.ensures.changed c.in-Changed.is locals c.args.work.now.items le)

pub returns-in-Same-clause-joined : goal.returns-in-Same-clause-joined
returns-in-Same-clause-joined c = λ e locals le. c.in_ok-join.ensures.same c.in-Same.is locals c.args.work.now.items
