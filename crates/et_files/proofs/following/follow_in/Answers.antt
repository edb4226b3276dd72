use Rattle.std.proofs.Common.{subst}
use Rattle.et_convert.specs.Spellings.{format_in, IsAnswerIn}
use Rattle.et_files.proofs.Found.{lines_found, line_found}
use Rattle.et_files.proofs.following.follow_in.Goals as goal

pub returns-in-Ok-clause-tells : goal.returns-in-Ok-clause-tells
returns-in-Ok-clause-tells g c trace is =
    let t = c.in-Ok.ensures.trace in
    (t.lines, lines_found c.args.bytes.now c.spelled_lists_differ.ensures c.spelled_traces_have_no_fault.ensures trace t.lines t.spells is, record { spells = t.spells; followed = t.followed })

pub returns-in-Ok-clause-trace : goal.returns-in-Ok-clause-trace
returns-in-Ok-clause-trace g c = let t = c.in-Ok.ensures.trace in (t.lines, record { spells = t.spells; followed = t.followed })

pub returns-in-Err-At-clause-tells : goal.returns-in-Err-At-clause-tells
returns-in-Err-At-clause-tells g c trace is =
    line_found c.args.bytes.now c.spelling_faults_are_one.ensures c.spelled_traces_have_no_fault.ensures trace c.in-Err-At.kind c.in-Err-At.line
    (subst (IsAnswerIn (format_in c.args.bytes.now) c.args.bytes.now) c.in-Err-At.field-0-is c.in-Err-At.ensures.fault) is
