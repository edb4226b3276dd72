use Rattle.et_text.proofs.Versions.{kept_behind, takes_behind, breaks_behind}
use Rattle.et_text.proofs.rules.Rules.take.Goals as goal
use Rattle.et_text.proofs.rules.Rules.take.Goals.{in-Class-3, in-Method-3, in-Header-3}

pub invariant_of-self-in-None-2 : goal.invariant_of-self-in-None-2
invariant_of-self-in-None-2 c = λ none.
    let i = c.self.inside in
    kept_behind i.standing c.follow.new.s i.lines.items c.push.new.self.items c.args.line c.in_ok-kind.field-0 c.args.self.now i.fault c.self.view_is (c.self.invariant c.in-None.is) c.requires.range c.requires.short c.in_ok-kind.ensures c.in-None-2.is c.in_ok-push-in-None-2.ensures.items

pub returns-in-Some-2-clause-err : goal.returns-in-Some-2-clause-err
returns-in-Some-2-clause-err c = λ none.
    let i = c.self.inside in
    let by = breaks_behind i.standing c.follow.new.s i.lines.items c.args.line c.in_ok-kind.field-0 c.args.self.now c.match-line-3.self i.fault c.in-Some-2.kind c.next_number.result c.self.view_is (c.self.invariant c.in-None.is) c.requires.range c.requires.short c.in_ok-kind.ensures c.in-Some-2.is c.next_number.ensures in
    elim c.match-line-3.branch [ in-Class-3 w ↦ by w.self-is | in-Method-3 w ↦ by w.self-is | in-Header-3 w ↦ by w.self-is ]

pub returns-in_ok-push-in-None-2-clause-ok : goal.returns-in_ok-push-in-None-2-clause-ok
returns-in_ok-push-in-None-2-clause-ok c =
    let i = c.self.inside in
    takes_behind i.standing c.follow.new.s i.lines.items c.push.new.self.items c.args.line c.in_ok-kind.field-0 c.args.self.now i.fault c.self.view_is c.in-None.is (c.self.invariant c.in-None.is) c.requires.range c.requires.short c.in_ok-kind.ensures c.in-None-2.is c.in_ok-push-in-None-2.ensures.items
