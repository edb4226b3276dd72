use Rattle.et_base.specs.declared.value.Value.TheVariants.{Null}
use Rattle.et_base.proofs.Lists.{Contains-none}
use Rattle.et_builtins.proofs.Changing.{referent_set}
use Rattle.et_builtins.proofs.changes.clear_referent.Goals as goal

pub returns-clause-ok : goal.returns-clause-ok
returns-clause-ok g c = λ p at out same.
    referent_set p c.args.call.now.thread c.args.call.now.count c.args.call.now.next c.args.object Null c.args.machine.now c.pass.new.machine c.set_referent.new.machine at out c.requires.calls.sound c.requires.calls.frame c.requires.calls.operands same c.requires.held (λ o h. absurd (Contains-none o h)) c.pass.ensures.new c.set_referent.ensures.new
