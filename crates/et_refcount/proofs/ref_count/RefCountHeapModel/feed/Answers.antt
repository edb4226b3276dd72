use Rattle.std.proofs.Common.{ℕ, ◌∷◌, List}
use Rattle.et_replay.specs.declared.item.Item.{Item}
use Rattle.et_replay.specs.declared.model.Policy.{Policy}
use Rattle.et_replay.proofs.Answering.{on_taken, tells_exhausted}
use Rattle.et_refcount.specs.Counts.{view_of, Accounts}
use Rattle.et_refcount.proofs.Standing.{takes_next, stands_exhausted}
use Rattle.et_refcount.proofs.ref_count.RefCountHeapModel.feed.Goals.{After-answer}
use Rattle.et_refcount.proofs.ref_count.RefCountHeapModel.feed.Goals as goal

-- the item is one more of those for which the model stands
stands_next : (c : After-answer) (policy : Policy) (objects : ℕ) (past : List Item) → Accounts c.args.self.now.policy policy (view_of c.args.self.now.counts) objects past → Accounts c.args.self.now.policy policy (view_of c.take.new.self) objects (c.args.item.now ∷ past)
stands_next c policy objects past t = let s = c.requires.stands in takes_next c.args.self.now.policy s.0 policy (view_of c.args.self.now.counts) (view_of c.take.new.self) s.1 objects s.2 past c.args.item.now s.3 s.4 s.5 c.in-Ok.ensures t

pub returns-in-Ok-clause-taken : goal.returns-in-Ok-clause-taken
returns-in-Ok-clause-taken c = λ policy objects past t. on_taken c.take.new.self.totals.exhausted c.answer.result c.answer.ensures (stands_next c policy objects past t)

pub returns-in-Ok-clause-exhausted : goal.returns-in-Ok-clause-exhausted
returns-in-Ok-clause-exhausted c = λ reached decides policy objects past t.
    (let next = stands_next c policy objects past t in
    tells_exhausted c.take.new.self.totals.exhausted c.answer.result _ c.answer.ensures (stands_exhausted reached decides c.args.self.now.policy policy (view_of c.take.new.self) objects (c.args.item.now ∷ past) next))
