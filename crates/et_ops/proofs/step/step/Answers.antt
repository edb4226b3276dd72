use Rattle.std.proofs.Common.{◌≡◌, ◌≤◌, length, Some, sym, ap, ◌∙◌, rules, arith}
use Rattle.std.specs.Prelude.{Ok}
use Rattle.et_code.specs.declared.instr.CodeFault.TheVariants as fault
use Rattle.et_code.specs.Decoding.{instruction_at}
use Rattle.et_event.specs.declared.rows.Row.TheVariants as row
use Rattle.et_event.specs.declared.rows.FrameRow.{FrameRow}
use Rattle.et_event.specs.Table.{row_of}
use Rattle.et_event.proofs.Constants.{at_end}
use Rattle.et_event.proofs.FrameRows.{switch}
use Rattle.et_ops.proofs.Stepping.{none_decoded}
use Rattle.et_ops.proofs.step.step.Goals as goal

pub returns-then-pc-code : goal.returns-then-pc-code
returns-then-pc-code c =
    let behind : length c.args.code.now ≤ c.args.running.now.frame.pc = omega (arith, c.if-pc-code.true, c.pc-pc.ensures) in
    none_decoded c.args.code.now c.args.running.now fault.Short (at_end c.args.code.now c.args.running.now.frame.pc behind)

pub frame_event-requires-clause-switch : goal.frame_event-requires-clause-switch
frame_event-requires-clause-switch c = λ e.
    let found : c.decode.result ≡ Ok (c.in-Ok.instr, c.in-Ok.next) = search rules in
    let decoded : instruction_at c.args.code.now c.pc-pc.result ≡ Ok (c.in-Ok.instr, c.in-Ok.next) = sym c.decode.ensures.decoded ∙ found in
    let there : row_of c.in-Ok.instr.opcode ≡ Some (row.Frame c.in-Some-Frame.row) = search rules in
    switch c.args.code.now c.pc-pc.result (c.in-Ok.instr, c.in-Ok.next) decoded (there ∙ ap (λ (r : FrameRow). Some (row.Frame r)) e)
