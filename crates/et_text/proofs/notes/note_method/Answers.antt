use Rattle.std.proofs.Common.{◌∙◌, ap, not, cond, true}
use Rattle.et_text.specs.declared.standing.Standing.{Standing}
use Rattle.et_text.specs.NameSets.{has_key, same_method}
use Rattle.et_text.proofs.notes.note_method.Goals as goal

pub returns : goal.returns
returns c =
    let r = c.in_ok-added.ensures in
    record {
      key = r.0;
      class_is = r.1;
      name_is = r.2;
      descriptor_is = r.3;
      added_is = r.4 ∙ ap (λ (t : Standing). not (has_key t.method_names r.0)) c.leave_group.ensures;
      names = λ q. r.5 q ∙ ap (λ (t : Standing). cond (same_method r.0 q) true (has_key t.method_names q)) c.leave_group.ensures;
      others = ap (λ (t : Standing). record t { methods = c.args.number; method_names = c.add_method.new.names }) c.leave_group.ensures;
    }
