use Rattle.et_text.proofs.Readers.{front_range, front_first}
use Rattle.et_text.proofs.reading.read_front.Goals as goal

pub returns-clause-range : goal.returns-clause-range
returns-clause-range c = front_range c.args.bytes.now c.in_ok-line.line c.in_ok-line.rest.now c.in_ok-line.ensures

pub returns-clause-first : goal.returns-clause-first
returns-clause-first c = front_first c.args.bytes.now c.in_ok-line.line c.in_ok-line.rest.now c.in_ok-line.ensures c.in-len1-up.len_at_least c.if-b-ne10.false
