use Rattle.std.proofs.Common.{◌∙◌, ap, not, cond, true}
use Rattle.std.specs.Prelude.{bytes_eq}
use Rattle.et_text.specs.declared.standing.Standing.{Standing}
use Rattle.et_text.specs.NameSets.{has_name}
use Rattle.et_text.proofs.notes.note_class.Goals as goal

pub returns : goal.returns
returns c =
    let r = c.in_ok-added.ensures in
    record {
      key = r.0;
      key_is = r.1;
      added_is = r.2 ∙ ap (λ (t : Standing). not (has_name t.class_names r.0)) c.leave_group.ensures;
      names = λ q. r.3 q ∙ ap (λ (t : Standing). cond (bytes_eq r.0.items q.items) true (has_name t.class_names q)) c.leave_group.ensures;
      others = ap (λ (t : Standing). record t { classes = c.args.number; class_names = c.add_name.new.names }) c.leave_group.ensures;
    }
