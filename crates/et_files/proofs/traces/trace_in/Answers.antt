use Rattle.std.proofs.Common.{subst}
use Rattle.et_convert.specs.Spellings.{format_in, IsAnswerIn}
use Rattle.et_files.proofs.Found.{lines_found, line_found}
use Rattle.et_files.proofs.traces.trace_in.Goals as goal

pub returns-in-Ok-clause-tells : goal.returns-in-Ok-clause-tells
returns-in-Ok-clause-tells c trace is = lines_found c.args.bytes.now c.spelled_lists_differ.ensures c.spelled_traces_have_no_fault.ensures trace c.in-Ok.trace c.in-Ok.ensures.trace is

pub returns-in-Ok-clause-short : goal.returns-in-Ok-clause-short
returns-in-Ok-clause-short c small = c.conversions_are_traces.ensures.short c.in-Ok.trace c.args.bytes.now c.in-Ok.ensures.trace small

pub returns-in-Err-At-clause-tells : goal.returns-in-Err-At-clause-tells
returns-in-Err-At-clause-tells c trace is =
    line_found c.args.bytes.now c.spelling_faults_are_one.ensures c.spelled_traces_have_no_fault.ensures trace c.in-Err-At.kind c.in-Err-At.line
    (subst (IsAnswerIn (format_in c.args.bytes.now) c.args.bytes.now) c.in-Err-At.field-0-is c.in-Err-At.ensures.fault) is
