use Rattle.std.proofs.Common.{◌≡◌, Some, arith, rules}
use Rattle.et_code.specs.Decoding.{Fits}
use Rattle.et_code.proofs.Decoded.{decoded_fits}
use Rattle.et_event.specs.Table.{row_of}
use Rattle.et_verify.proofs.decoded.simple_decoded_at.Goals as goal

pub overflow_cast-result : goal.overflow_cast-result
overflow_cast-result c =
    let fits : Fits c.args.code.now c.args.pc c.in_ok-instr.instr c.in_ok-instr.next = decoded_fits c.args.code.now c.args.pc c.in_ok-instr.instr c.in_ok-instr.next c.in_ok-instr.ensures.found in
    omega (arith, fits.within, c.requires.few)

pub returns-clause-stands : goal.returns-clause-stands
returns-clause-stands c =
    let row : row_of c.in_ok-instr.instr.opcode ≡ Some c.in_ok-row.row = search rules in
    record {
      decoded = c.in_ok-instr.ensures.found;
      row = row;
      fits = decoded_fits c.args.code.now c.args.pc c.in_ok-instr.instr c.in_ok-instr.next c.in_ok-instr.ensures.found;
    }
