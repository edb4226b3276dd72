use Rattle.std.proofs.Common.{sym, ◌∙◌, ap, ◌++◌, arith, append_assoc}
use Rattle.et_boot.specs.Classes.{no_boot_class}
use Rattle.et_boot.specs.Shown.{shown}
use Rattle.et_program.specs.Files.{boots}
use Rattle.et_program.specs.MembersOf.{boot_fields}
use Rattle.et_link.proofs.Lists.{numbered_more}
use Rattle.et_link.proofs.members.add_all_boot_fields.Goals as goal

pub classes-preserved : goal.classes-preserved
classes-preserved c =
    let fields = boot_fields c.args.statics in
    c.in_ok-add_boot_fields.ensures
    ∙ (ap (λ l. l ++ fields c.in_ok-class.class (shown c.boot.result)) c.classes.invariant
    ∙ (append_assoc c.args.list.now.items _ _
    ∙ ap (λ l. c.args.list.now.items ++ l) (sym (numbered_more fields 0 boots c.classes.i no_boot_class (shown c.boot.result) c.in_ok-class.class (omega arith) c.boot.ensures (omega arith)))))
