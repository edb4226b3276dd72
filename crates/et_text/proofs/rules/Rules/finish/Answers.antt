use Rattle.et_text.proofs.Versions.{good_where_ended}
use Rattle.et_text.proofs.rules.Rules.finish.Goals as goal

pub of-requires : goal.of-requires
of-requires c =
    let i = c.self.inside in
    record { good = good_where_ended i.standing i.lines.items (c.self.invariant c.in-None.is) (let e = c.if-not-self.false in cc) }
