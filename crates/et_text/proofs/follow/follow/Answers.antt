use Rattle.et_text.proofs.Leaving.{some_found, noted, refused}
use Rattle.et_text.proofs.follow.follow.Goals as goal

pub returns-in-Some : goal.returns-in-Some
returns-in-Some c = λ version past h r. (some_found c.args.s.now past c.args.line.now c.in-Some.kind h c.in-Some.ensures, tt)

pub returns-then-added : goal.returns-then-added
returns-then-added c = λ version past h r. noted version c.args.s.now c.note.new.s past c.args.line.now c.in_ok-added-in-None.added c.in-None.ensures c.in_ok-added-in-None.ensures c.if-added.true h r

pub returns-else-added : goal.returns-else-added
returns-else-added c = λ version past h r. (refused c.args.s.now c.note.new.s past c.args.line.now c.in_ok-added-in-None.added c.in-None.ensures c.in_ok-added-in-None.ensures c.if-added.false h, tt)
