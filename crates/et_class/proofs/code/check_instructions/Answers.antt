use Rattle.std.proofs.Common.{sym}
use Rattle.et_class.proofs.Walked.{walked_start, walked_more, walked_err, walked_end}
use Rattle.et_class.proofs.code.check_instructions.Goals as goal

pub instructions-init : goal.instructions-init
instructions-init c = walked_start c.args.pool.now.slots c.args.place c.args.code.now c.args.first

pub instructions-preserved : goal.instructions-preserved
instructions-preserved c = walked_more c.args.pool.now.slots c.args.place c.args.code.now c.args.first c.instructions.found c.check_names_of-found.result c.instructions.pc c.in-Ok.instr c.in-Ok.next c.instructions.invariant c.instructions-test.true (sym c.in-Ok.ensures.decoded) c.in-Ok.ensures.fits.advances c.check_names_of-found.ensures

pub returns-in-Err : goal.returns-in-Err
returns-in-Err c = walked_err c.args.pool.now.slots c.args.place c.args.code.now c.args.first c.instructions.found c.instructions.pc c.in-Err.field-0 c.instructions.invariant c.instructions-test.true (sym c.in-Err.ensures.decoded)

pub returns : goal.returns
returns c = walked_end c.args.pool.now.slots c.args.place c.args.code.now c.args.first c.instructions.found c.instructions.pc c.instructions.invariant c.instructions-test.false
