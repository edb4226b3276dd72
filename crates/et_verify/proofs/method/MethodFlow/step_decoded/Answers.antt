use Rattle.std.proofs.Common.{ℕ, List, refl}
use Rattle.et_code.specs.Bodies.{body_of}
use Rattle.et_program.specs.Entries.{method_at}
use Rattle.et_event.specs.Sites.{Site}
use Rattle.et_event.specs.Sound.{returned_of}
use Rattle.et_verify.specs.Leads.{site_in}
use Rattle.et_verify.proofs.Methods.{answered}
use Rattle.et_verify.proofs.method.MethodFlow.step_decoded.Goals as goal

pub returns-in_ok-done-in-Frame : goal.returns-in_ok-done-in-Frame
returns-in_ok-done-in-Frame c =
    let site : Site = site_in c.self.inside.program.now c.self.inside.method (body_of c.self.inside.code.now) (c.args.at.now.instr, c.args.at.now.next) in
    let bytes : List ℕ = returned_of (method_at c.self.inside.program.now c.self.inside.method) in
    answered _ c.args.self.now c.args.at.now c.args.types.now _ _ _ c.self.view_is c.in-Frame.is (λ e. c.in_ok-done-in-Frame.ensures.done site bytes refl e) (λ e. c.in_ok-done-in-Frame.ensures.refused site bytes refl e)
