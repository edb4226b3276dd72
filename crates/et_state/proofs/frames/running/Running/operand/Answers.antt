use Rattle.std.proofs.Common.{sym, ◌∙◌, arith}
use Rattle.std.proofs.lemmas.List.{get_or_read}
use Rattle.et_base.specs.declared.value.Value.TheVariants.{Unset}
use Rattle.et_state.proofs.Runs.{IsRead, reads}
use Rattle.et_state.proofs.frames.running.Running.operand.Goals as goal

pub returns : goal.returns
returns c =
    let is : IsRead c.self.inside.base c.self.inside.floor c.self.inside.top c.self.inside.limit c.self.inside.values.items c.args.self.now = reads c.self.inside c.self.invariant c.args.self.now c.self.view_is in
    get_or_read c.self.inside.values.items _ c.index.result.now (omega (arith, is.operands, is.few, is.fits, c.requires)) c.index.ensures Unset ∙ sym (is.operand c.args.from_top c.requires)
