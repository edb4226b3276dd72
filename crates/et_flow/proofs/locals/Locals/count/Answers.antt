use Rattle.std.proofs.Common.{length, sym, ap, ◌∙◌}
use Rattle.et_flow.proofs.Held.{length-spread}
use Rattle.et_flow.proofs.locals.Locals.count.Goals as goal

pub returns : goal.returns
returns c = sym (length-spread c.self.inside.count c.self.inside.held.items) ∙ ap length c.self.view_is
