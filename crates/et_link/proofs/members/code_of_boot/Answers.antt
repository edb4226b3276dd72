use Rattle.std.proofs.Common.{◌≡◌}
use Rattle.et_code.specs.Bodies.{body_of}
use Rattle.et_code.specs.declared.body.RawCode.{RawCode}
use Rattle.et_boot.specs.Shown.{shown_code}
use Rattle.et_program.specs.MembersOf.{boot_body}
use Rattle.et_link.proofs.BuiltInLemmas.{code_fault}
use Rattle.et_link.proofs.members.code_of_boot.Goals as goal

pub unreachable-requires : goal.unreachable-requires
unreachable-requires c =
    let raw : RawCode = record { max_stack = c.args.code.max_stack; max_locals = c.args.code.max_locals; code = c.in_ok-from_slice.field-0; table = c.new.result } in
    let same : body_of raw ≡ boot_body (shown_code c.args.code) = cc (c.in_ok-from_slice.ensures.items, c.new.ensures.items) in
    code_fault raw c.args.tags.now (boot_body (shown_code c.args.code)) same c.requires c.in-Err-At.field-0 _ _ c.in-Err-At.field-0-is c.in-Err-At.ensures
