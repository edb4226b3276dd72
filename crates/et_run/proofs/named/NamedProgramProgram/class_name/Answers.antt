use Rattle.std.proofs.Common.{List, ℕ, ◌<◌, length, sym, ◌∙◌, ap, subst}
use Rattle.et_program.specs.Entries.{ClassInfoOf, Linked}
use Rattle.et_text.specs.Ranges.{IsShort}
use Rattle.et_history.proofs.ShortNames.{class_names_short}
use Rattle.et_run.proofs.named.NamedProgramProgram.class_name.Goals as goal

pub returns-clause-short : goal.returns-clause-short
returns-clause-short c =
    let p : Linked = c.self.inside.program.now in
    let within : c.args.class < length p.classes = subst (λ (q : Linked). c.args.class < length q.classes) (sym c.self.view_is) c.requires in
    subst (λ (name : List ℕ). IsShort name) (sym (c.as_slice.ensures ∙ ap (λ (i : ClassInfoOf). i.name) c.class.ensures.value)) (class_names_short p c.is_linked.ensures.linked c.args.class within)
