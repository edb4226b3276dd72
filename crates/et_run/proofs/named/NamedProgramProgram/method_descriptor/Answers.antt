use Rattle.std.proofs.Common.{List, ℕ, ◌<◌, length, sym, ◌∙◌, ap, subst}
use Rattle.et_program.specs.Entries.{Linked}
use Rattle.et_program.specs.declared.info.MethodInfo.{MethodInfo}
use Rattle.et_text.specs.Ranges.{IsShort}
use Rattle.et_history.proofs.ShortNames.{descriptors_short}
use Rattle.et_run.proofs.named.NamedProgramProgram.method_descriptor.Goals as goal

pub returns-clause-short : goal.returns-clause-short
returns-clause-short c =
    let p : Linked = c.self.inside.program.now in
    let within : c.args.method < length p.methods = subst (λ (q : Linked). c.args.method < length q.methods) (sym c.self.view_is) c.requires in
    subst (λ (name : List ℕ). IsShort name) (sym (c.as_slice.ensures ∙ ap (λ (m : MethodInfo). m.descriptor) c.method.ensures.value)) (descriptors_short p c.is_linked.ensures.linked c.args.method within)
