use Rattle.std.proofs.Common.{◌∙◌, sym, ap}
use Rattle.et_state.specs.Interned.{object_of}
use Rattle.et_state.proofs.Strings.{object-shown}
use Rattle.et_state.proofs.machine.interned.Interned.object.Goals as goal

pub returns : goal.returns
returns c = c.copied.ensures ∙ (c.get.ensures.value ∙ (sym (object-shown c.args.text.now c.self.inside.objects.entries) ∙ ap (λ m. object_of m c.args.text.now) c.self.view_is))
