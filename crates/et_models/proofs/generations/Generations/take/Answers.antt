use Rattle.std.proofs.Common.{sym, subst}
use Rattle.et_base.proofs.Options.{on_ok}
use Rattle.et_replay.specs.declared.item.Item.{Item}
use Rattle.et_models.specs.Generations.{both_of, StepsBoth}
use Rattle.et_models.proofs.generations.Generations.take.Goals as goal

pub returns-in-Write : goal.returns-in-Write
returns-in-Write c = on_ok _ _ c.write.result (λ f. subst (λ (i : Item). StepsBoth i (both_of c.args.self.now) (both_of c.write.new.self)) (sym c.in-Write.is) (f c.in-Write.event)) c.write.ensures

pub returns-in-Death : goal.returns-in-Death
returns-in-Death c = subst (λ (i : Item). StepsBoth i (both_of c.args.self.now) (both_of c.end.new.self)) (sym c.in-Death.is) (c.end.ensures c.in-Death.time)
