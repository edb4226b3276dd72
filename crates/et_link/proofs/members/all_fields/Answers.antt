use Rattle.std.proofs.Common.{◌≡◌, sym, ◌∙◌, ap, ◌++◌, ◌+◌, length, arith, append_assoc, false}
use Rattle.et_program.specs.Loaded.{loaded_file}
use Rattle.et_program.specs.Files.{boots}
use Rattle.et_program.specs.MembersOf.{boot_fields, file_fields, numbered}
use Rattle.et_link.proofs.Lists.{numbered_more_of}
use Rattle.et_link.proofs.members.all_fields.Goals as goal

pub loop-i-preserved : goal.loop-i-preserved
loop-i-preserved c =
    let n : c.in_ok-class.class ≡ length boots + c.loop-i.i = omega (arith, c.in-Some.ensures) in
    c.in_ok-add_file_fields.ensures
    ∙ (ap (λ l. l ++ file_fields c.in_ok-class.class (loaded_file c.index-files-i.result)) c.loop-i.invariant
    ∙ (append_assoc (numbered (boot_fields false) 0 boots) _ _
    ∙ ap (λ l. numbered (boot_fields false) 0 boots ++ l) (sym (numbered_more_of file_fields loaded_file (length boots) c.args.files.now c.loop-i.i c.index-files-i.result c.index-files-i.result c.in_ok-class.class (omega arith) c.index-files-i.is n))))
