use Rattle.std.proofs.Common.{◌≡◌, ℕ, List, rules}
use Rattle.et_code.specs.Bodies.{body_of}
use Rattle.et_program.specs.Entries.{method_at}
use Rattle.et_event.specs.Sites.{Site}
use Rattle.et_event.specs.Sound.{returned_of}
use Rattle.et_event.specs.declared.rows.Row.TheVariants as rows
use Rattle.et_event.specs.declared.rows.CallRow.TheVariants as calls
use Rattle.et_verify.specs.Leads.{site_in}
use Rattle.et_verify.proofs.Methods.{answered}
use Rattle.et_verify.proofs.method.MethodFlow.step_other.Goals as goal

pub returns-in-Call-Return : goal.returns-in-Call-Return
returns-in-Call-Return c =
    let site : Site = site_in c.self.inside.program.now c.self.inside.method (body_of c.self.inside.code.now) (c.args.at.now.instr, c.args.at.now.next) in
    let bytes : List ℕ = returned_of (method_at c.self.inside.program.now c.self.inside.method) in
    let row : c.args.at.now.row ≡ rows.Call (calls.Return c.in-Call-Return.kind) = search rules in
    answered _ c.args.self.now c.args.at.now c.args.types.now _ _ _ c.self.view_is row (λ e. c.step_returned-done.ensures.done e site bytes c.self.invariant.returns) (λ e. c.step_returned-done.ensures.refused e site bytes c.self.invariant.returns)
